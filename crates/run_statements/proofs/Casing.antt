-- The cases of `switch` statements, as more is added.
use Rattle.std.proofs.Common.{◌≡◌, ℕ, zero, suc, ◌+◌, ◌≤◌, ◌<◌, ℤ, false, Vec, Global, refl, sym, ap, ◌∙◌, subst, arith}
use Rattle.std.proofs.Common.{append_assoc, List, [], ◌∷◌, ◌++◌, length, map, take, Option, Some, None, slice_get, get_or}
use Rattle.std.specs.Borrow.{Bor}
use Rattle.c_model.specs.Control.{Target, Todo, find, first_of, to_case, to_default}
use Rattle.c_model.specs.Program.{Stmt}
use Rattle.run_control.specs.declared.links.Link.{Link}
use Rattle.run_control.specs.declared.links.Place.{Place}
use Rattle.run_control.specs.declared.statement.Statement.{Statement}
use Rattle.run_control.specs.declared.statement.Switch.{Switch}
use Rattle.run_control.specs.declared.targets.Found.{Found}
use Rattle.run_control.specs.Links.{work_at}
use Rattle.run_control.specs.Search.{Finds, Older, looked}
use Rattle.run_control.specs.Targets.{AllEqual, InRange, bodies, seen}
use Rattle.run_control.specs.View.{Meaning, stmt_of}
use Rattle.run_control.proofs.Adding.{seen_older}
use Rattle.run_statements.specs.declared.jumps.Jumps.{Jumps}
use Rattle.run_statements.specs.Jumping.{AreCases, HasJumps, HaveCases, HaveLabels, IsCase, cases_of, labels_of, owners_from}
use Rattle.run_statements.specs.Switches.{StandsIn, Switches, switches_in, switches_of_all}
use Rattle.run_statements.proofs.Gathering.{append_nothing, got, now_of}
use Rattle.run_statements.proofs.Jumping.{labels_count, map_at, map_next, range_more, some_same}
use Rattle.run_statements.proofs.Owners.{owned, owners_body, owners_none, same_each}
use Rattle.run_statements.proofs.Standing.{AllStand, Stands, stand_in}

-- ---- further links
one_more : (links more : List Link) (found : List Found) (n : ℕ) (s : Switch) → Older links more → length links ≤ length more →
    AreCases links found n s → AreCases more found n s
one_more links more found n s older longer a = record {
  number = a.number;
  finds = λ m equal t into. ap (looked t) (seen_older m links more found older a.range) ∙ a.finds m equal t into;
  range = range_more (length links) (length more) found longer a.range;
}

pub cases_more : (links more : List Link) (n : ℕ) (ss : List Switch) (fs : List (List Found)) → Older links more → length links ≤ length more →
    HaveCases links n ss fs → HaveCases more n ss fs
cases_more links more n [] [] older longer h = h
cases_more links more n [] (f ∷ fs) older longer h = absurd h
cases_more links more n (s ∷ ss) [] older longer h = absurd h
cases_more links more n (s ∷ ss) (f ∷ fs) older longer h =
    (one_more links more f n s older longer h.0, cases_more links more (suc n) ss fs older longer h.1)

-- ---- one more `switch`
cases_next : (links : List Link) (n k : ℕ) (ss : List Switch) (fs : List (List Found)) (s : Switch) (f : List Found) → k ≡ n + length fs →
    AreCases links f k s → HaveCases links n ss fs → HaveCases links n (ss ++ s ∷ []) (fs ++ f ∷ [])
cases_next links n k [] [] s f at a h = (subst (λ (j : ℕ). AreCases links f j s) (omega (arith, at)) a, tt)
cases_next links n k [] (g ∷ fs) s f at a h = absurd h
cases_next links n k (t ∷ ss) [] s f at a h = absurd h
cases_next links n k (t ∷ ss) (g ∷ fs) s f at a h = (h.0, cases_next links (suc n) k ss fs s f (omega (arith, at)) a h.1)

length_mapped : {A B : Type 0} (g : A → B) (xs : List A) → length (map g xs) ≡ length xs
length_mapped g [] = refl
length_mapped g (x ∷ xs) = ap suc (length_mapped g xs)

map_each : {A : Type 0} (xs : List A) → map (λ x. x) xs ≡ xs
map_each [] = refl
map_each (x ∷ xs) = ap (λ ys. x ∷ ys) (map_each xs)

pub take_next : {A : Type 0} (xs : List A) (n : ℕ) (x : A) → slice_get xs n ≡ Some x → take (suc n) xs ≡ take n xs ++ x ∷ []
take_next [] n x at = absurd (cc)
take_next (y ∷ xs) zero x at = ap (λ z. z ∷ []) (some_same y x at)
take_next (y ∷ xs) (suc n) x at = ap (λ ys. y ∷ ys) (take_next xs n x at)

abbrev items_of : Vec Found Global → List Found
items_of v = v.items

abbrev pub So : Jumps → List (Bor Switch) → Jumps → Type 0
So old switches new =
    (ss : List Switch) → HaveCases old.links.items 0 ss (cases_of old) → HaveCases new.links.items 0 (ss ++ map (λ s. s.now) switches) (cases_of new)

so_list : (old : Jumps) (ss : List (Bor Switch)) (ts : List Switch) (s : Bor Switch) → (ts ++ map now_of ss) ++ s.now ∷ [] ≡ ts ++ map now_of (ss ++ s ∷ [])
so_list old ss ts s = (let along : (ts ++ map now_of ss) ++ s.now ∷ [] ≡ ts ++ (map now_of ss ++ s.now ∷ []) = simp append_assoc in along)
    ∙ ap (λ (us : List Switch). ts ++ us) (sym (map_next now_of ss s))

pub so_next : (old mid new : Jumps) (switches : List (Bor Switch)) (n : ℕ) (s : Bor Switch) (found : Vec Found Global) →
    n < length switches → s ≡ get_or switches n s → s.now.number ≡ length mid.cases.items → Older mid.links.items new.links.items →
    length mid.links.items ≤ length new.links.items → new.cases.items ≡ mid.cases.items ++ found ∷ [] → Finds new.links.items found.items s.now.body false →
    InRange (length new.links.items) found.items → So old (take n switches) mid → So old (take (n + 1) switches) new
so_next old mid new switches n s found lt at number older longer cases finds range so = λ ts before.
    let have = cases_more mid.links.items new.links.items 0 (ts ++ map now_of (take n switches)) (cases_of mid) older longer (so ts before) in
    let next = cases_next new.links.items 0 s.now.number (ts ++ map now_of (take n switches)) (cases_of mid) s.now found.items
    (omega (arith, number, length_mapped items_of mid.cases.items)) (record { number = refl; finds = finds; range = range }) have in
    let there : slice_get switches n ≡ Some s = got switches n s lt at in
    subst (λ (us : List Switch). HaveCases new.links.items 0 us (cases_of new))
    (so_list old (take n switches) ts s ∙ ap (λ (ss : List (Bor Switch)). ts ++ map now_of ss) (sym (take_next switches n s there)
    ∙ ap (λ (k : ℕ). take k switches) (let one : suc n ≡ n + 1 = omega arith in one)))
    (subst (λ (fs : List (List Found)). HaveCases new.links.items 0 ((ts ++ map now_of (take n switches)) ++ s.now ∷ []) fs)
    (sym (ap (map items_of) cases ∙ map_next items_of mid.cases.items found)) next)

-- the functions of the `switch` statements so far
pub owners_next : (n k : ℕ) (s : Bor Switch) (switches : List (Bor Switch)) (old mid new : List ℕ) → k < length switches → s ≡ get_or switches k s →
    mid ≡ old ++ map (λ t. n) (take k switches) → new ≡ mid ++ n ∷ [] → new ≡ old ++ map (λ t. n) (take (k + 1) switches)
owners_next n k s switches old mid new lt at before is =
    let there : slice_get switches k ≡ Some s = got switches k s lt at in
    let one : suc k ≡ k + 1 = omega arith in
    is ∙ ap (λ (ks : List ℕ). ks ++ n ∷ []) before
    ∙ (let along : (old ++ map (λ t. n) (take k switches)) ++ n ∷ [] ≡ old ++ (map (λ t. n) (take k switches) ++ n ∷ []) = simp append_assoc in along)
    ∙ ap (λ (ks : List ℕ). old ++ ks)
    (sym (map_next (λ (t : Bor Switch). n) (take k switches) s) ∙ ap (map (λ t. n)) (sym (take_next switches k s there))
    ∙ ap (λ (j : ℕ). map (λ t. n) (take j switches)) one)

-- ---- the `switch` statements of one function more
all_later : (bs : List (Option (Bor Statement))) (b : Option (Bor Statement)) → switches_of_all (bs ++ b ∷ []) ≡ switches_of_all bs ++ switches_of_all (b ∷ [])
all_later [] b = refl
all_later (None ∷ bs) b = all_later bs b
all_later (Some d ∷ bs) b =
    ap (λ ss. switches_in d.now ++ ss) (all_later bs b)
    ∙ (let along : switches_in d.now ++ (switches_of_all bs ++ switches_of_all (b ∷ []))
    ≡ (switches_in d.now ++ switches_of_all bs) ++ switches_of_all (b ∷ []) = simp append_assoc in along)

-- ---- a case is looked for
cases_at : (links : List Link) (n k j : ℕ) (ss : List Switch) (fs : List (List Found)) (s : Switch) (f : List Found) → HaveCases links n ss fs →
    slice_get ss k ≡ Some s → slice_get fs k ≡ Some f → j ≡ n + k → AreCases links f j s
cases_at links n k j [] fs s f h there is at = absurd (cc)
cases_at links n k j (t ∷ ss) [] s f h there is at = absurd h
cases_at links n zero j (t ∷ ss) (g ∷ fs) s f h there is at =
    subst (λ (i : ℕ). AreCases links f i s) (let e : n ≡ j = omega (arith, at) in e)
    (subst (λ (u : Switch). AreCases links f n u) (some_same t s there) (subst (λ (u : List Found). AreCases links u n t) (some_same g f is) h.0))
cases_at links n (suc k) j (t ∷ ss) (g ∷ fs) s f h there is at = cases_at links (suc n) k j ss fs s f h.1 there is (omega (arith, at))

-- of a `switch` that stands in the body of this function
abbrev pub IsCaseOf : Jumps → Statement → List Found → ℕ → Type 0
IsCaseOf j body found k = (s : Switch) × StandsIn body s × AreCases j.links.items found k s

pub case_there : (j : Jumps) (bs : List (Option (Bor Statement))) (n : ℕ) (b : Bor Statement) (k : ℕ) (found : Vec Found Global) → HasJumps j bs →
    slice_get bs n ≡ Some (Some b) → slice_get j.owners.items k ≡ Some n → slice_get j.cases.items k ≡ Some found → IsCaseOf j b.now found.items k
case_there j bs n b k found has there own at =
    let a = owned 0 bs k n n b (omega arith) (ap (λ (ks : List ℕ). slice_get ks k) (sym has.owners) ∙ own) there in (
      a.0,
      a.2,
      cases_at j.links.items 0 k k (switches_of_all bs) (cases_of j) a.0 found.items has.cases a.1 (map_at items_of j.cases.items k found at) (omega arith),
    )

-- what was looked for by the code
abbrev Looks : List Found → Option Place → Target → Type 0
Looks found target t = (m : Meaning) (links : List Link) → work_at m links target ≡ looked t (map (seen m links) found)

-- where it stands in the body, its number stands for its body, and so do those in it
all_at : (m : Meaning) (ss : Switches) (k : ℕ) (s : Switch) → AllStand m ss → slice_get ss k ≡ Some s → Stands m s
all_at m [] k s h at = absurd (cc)
all_at m (t ∷ ss) zero s h at = subst (λ (u : Switch). Stands m u) (some_same t s at) h.0
all_at m (t ∷ ss) (suc k) s h at = all_at m ss k s h.1 at

stands_at : (m : Meaning) (body : Statement) (s : Switch) → StandsIn body s → AllEqual (bodies m body) → Stands m s
stands_at m body s stands equal = all_at m (switches_in body) stands.0 s (stand_in m body equal) stands.1

-- of its body, where its number is this one
numbered : (links : List Link) (body : Statement) (s : Switch) (n : ℕ) (z : ℤ) (target : Option Place) → StandsIn body s → s.number ≡ n →
    ((m : Meaning) → AllEqual (bodies m s.body) →
    work_at m links target ≡ first_of (find (to_case z) (stmt_of m s.body)) (find to_default (stmt_of m s.body))) →
    IsCase links body n z target
numbered links body s n z target stands is finds = λ m equal.
    let own = stands_at m body s stands equal in
    finds m own.1 ∙ ap (λ (t : Stmt). first_of (find (to_case z) t) (find to_default t)) (sym own.0 ∙ ap m.body is)

pub case_found : (links : List Link) (found : List Found) (n : ℕ) (body : Statement) (s : Switch) (z : ℤ) (place : Place) → AreCases links found n s →
    StandsIn body s → Looks found (Some place) (to_case z) → IsCase links body n z (Some place)
case_found links found n body s z place are stands looks = numbered links body s n z (Some place) stands are.number (λ m equal.
    let is = looks m links ∙ are.finds m equal (to_case z) refl in
    ap (λ (o : Option Todo). first_of o (find to_default (stmt_of m s.body))) is)

pub case_else : (links : List Link) (found : List Found) (n : ℕ) (body : Statement) (s : Switch) (z : ℤ) (first target : Option Place) → first ≡ None →
    AreCases links found n s → StandsIn body s → Looks found first (to_case z) → Looks found target to_default → IsCase links body n z target
case_else links found n body s z first target is are stands looks after = numbered links body s n z target stands are.number (λ m equal.
    let none_first : None ≡ find (to_case z) (stmt_of m s.body) =
    ap (work_at m links) (sym is) ∙ looks m links ∙ are.finds m equal (to_case z) refl in
    after m links ∙ are.finds m equal to_default refl
    ∙ ap (λ (o : Option Todo). first_of o (find to_default (stmt_of m s.body))) none_first)

-- ---- a function is added
pub add_none : (old new : Jumps) (bs : List (Option (Bor Statement))) (b : Option (Bor Statement)) → b ≡ None → new.links ≡ old.links →
    new.cases ≡ old.cases → new.owners ≡ old.owners →
    (HaveLabels old.links.items bs (labels_of old) → HaveLabels new.links.items (bs ++ b ∷ []) (labels_of new)) → HasJumps old bs →
    HasJumps new (bs ++ b ∷ [])
add_none old new bs b none links cases owners labels has = record {
  labels = labels has.labels;
  cases = subst (λ (ss : Switches). HaveCases new.links.items 0 ss (cases_of new))
      (sym (all_later bs b ∙ ap (λ (o : Option (Bor Statement)). switches_of_all bs ++ switches_of_all (o ∷ [])) none ∙ append_nothing (switches_of_all bs)))
      (subst (λ (ls : Vec Link Global). HaveCases ls.items 0 (switches_of_all bs) (cases_of new)) (sym links)
      (subst (λ (fs : Vec (Vec Found Global) Global). HaveCases old.links.items 0 (switches_of_all bs) (map items_of fs.items)) (sym cases) has.cases));
  owners = ap (λ (v : Vec ℕ Global). v.items) owners ∙ has.owners ∙ sym (owners_none bs b none);
}

pub add_body : (old mid new : Jumps) (bs : List (Option (Bor Statement))) (b : Option (Bor Statement)) (d : Bor Statement)
    (more gathered first : List (Bor Switch)) →
    b ≡ Some d → new.cases ≡ mid.cases → Older mid.links.items new.links.items → length mid.links.items ≤ length new.links.items → So old more mid →
    more ≡ gathered → first ≡ [] → map now_of gathered ≡ map now_of first ++ switches_in d.now →
    new.owners.items ≡ old.owners.items ++ map (λ s. length old.labels.items) more →
    (HaveLabels old.links.items bs (labels_of old) → HaveLabels new.links.items (bs ++ b ∷ []) (labels_of new)) → HasJumps old bs →
    HasJumps new (bs ++ b ∷ [])
add_body old mid new bs b d more gathered first is cases older longer so same empty gathers owners labels has =
    let own : map now_of more ≡ switches_in d.now =
    ap (map now_of) same ∙ gathers ∙ ap (λ (ss : List (Bor Switch)). map now_of ss ++ switches_in d.now) empty in
    let all : switches_of_all (bs ++ b ∷ []) ≡ switches_of_all bs ++ map now_of more =
    all_later bs b ∙ ap (λ (o : Option (Bor Statement)). switches_of_all bs ++ switches_of_all (o ∷ [])) is
    ∙ ap (λ (ss : Switches). switches_of_all bs ++ ss) (append_nothing (switches_in d.now) ∙ sym own) in
    record {
      labels = labels has.labels;
      cases = subst (λ (ss : Switches). HaveCases new.links.items 0 ss (cases_of new)) (sym all)
          (subst (λ (fs : Vec (Vec Found Global) Global). HaveCases new.links.items 0 (switches_of_all bs ++ map now_of more) (map items_of fs.items))
          (sym cases) (cases_more mid.links.items new.links.items 0 (switches_of_all bs ++ map now_of more) (cases_of mid) older longer
          (so (switches_of_all bs) has.cases)));
      owners =
          let many : length old.labels.items ≡ length bs =
          sym (length_mapped items_of old.labels.items) ∙ sym (labels_count old.links.items bs (labels_of old) has.labels) in
          owners ∙ ap (λ (ks : List ℕ). ks ++ map (λ s. length old.labels.items) more) has.owners
          ∙ ap (λ (n : ℕ). owners_from 0 bs ++ map (λ s. n) more) many
          ∙ ap (λ (ks : List ℕ). owners_from 0 bs ++ ks)
          (same_each now_of (λ s. s) (length bs) more (switches_in d.now) (own ∙ sym (map_each (switches_in d.now))))
          ∙ sym (owners_body bs b d is);
    }
