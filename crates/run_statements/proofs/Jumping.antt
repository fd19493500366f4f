-- What is found among the labels of functions, as more is added.
use Rattle.std.proofs.Common.{◌≡◌, ℕ, zero, suc, ◌≤◌, true, Vec, Global, refl, sym, ap, ◌∙◌, subst, arith}
use Rattle.std.proofs.Common.{List, [], ◌∷◌, ◌++◌, length, map, Option, Some, None, slice_get}
use Rattle.std.specs.Prelude.{option_map}
use Rattle.std.specs.Borrow.{Bor}
use Rattle.c_model.specs.Control.{to_label}
use Rattle.run_control.specs.declared.links.Link.{Link}
use Rattle.run_control.specs.declared.links.Place.{Place}
use Rattle.run_control.specs.declared.statement.Statement.{Statement}
use Rattle.run_control.specs.declared.targets.Found.{Found}
use Rattle.run_control.specs.Links.{work_at}
use Rattle.run_control.specs.Search.{Finds, Older, looked}
use Rattle.run_control.specs.Targets.{InRange, seen}
use Rattle.run_control.specs.View.{Meaning}
use Rattle.run_control.proofs.Adding.{seen_older}
use Rattle.run_statements.specs.declared.jumps.Jumps.{Jumps}
use Rattle.run_statements.specs.Jumping.{AreLabels, AreLabelsOf, HasJumps, HaveLabels, IsFound, labels_of}

-- ---- further links
pub range_more : (n k : ℕ) (fs : List Found) → n ≤ k → InRange n fs → InRange k fs
range_more n k [] le r = tt
range_more n k (f ∷ fs) le r = (omega (arith, le, r.0), range_more n k fs le r.1)

labels_more : (links more : List Link) (found : List Found) (b : Option (Bor Statement)) → Older links more → length links ≤ length more →
    AreLabels links found b → AreLabels more found b
labels_more links more found None older longer a = tt
labels_more links more found (Some b) older longer a = record {
  finds = λ m equal t into. ap (looked t) (seen_older m links more found older a.range) ∙ a.finds m equal t into;
  range = range_more (length links) (length more) found longer a.range;
}

have_more : (links more : List Link) (bs : List (Option (Bor Statement))) (fs : List (List Found)) → Older links more → length links ≤ length more →
    HaveLabels links bs fs → HaveLabels more bs fs
have_more links more [] [] older longer h = h
have_more links more [] (f ∷ fs) older longer h = absurd h
have_more links more (b ∷ bs) [] older longer h = absurd h
have_more links more (b ∷ bs) (f ∷ fs) older longer h = (labels_more links more f b older longer h.0, have_more links more bs fs older longer h.1)

-- ---- one more function
have_next : (links : List Link) (bs : List (Option (Bor Statement))) (fs : List (List Found)) (b : Option (Bor Statement)) (f : List Found) →
    AreLabels links f b → HaveLabels links bs fs → HaveLabels links (bs ++ b ∷ []) (fs ++ f ∷ [])
have_next links [] [] b f a h = (a, tt)
have_next links [] (g ∷ fs) b f a h = absurd h
have_next links (c ∷ bs) [] b f a h = absurd h
have_next links (c ∷ bs) (g ∷ fs) b f a h = (h.0, have_next links bs fs b f a h.1)

pub map_next : {A B : Type 0} (g : A → B) (xs : List A) (x : A) → map g (xs ++ x ∷ []) ≡ map g xs ++ g x ∷ []
map_next g [] x = refl
map_next g (y ∷ xs) x = ap (λ ys. g y ∷ ys) (map_next g xs x)

pub jumps_more : (old new : Jumps) (found : Vec Found Global) (bs : List (Option (Bor Statement))) (b : Option (Bor Statement)) →
    Older old.links.items new.links.items → length old.links.items ≤ length new.links.items → new.labels.items ≡ old.labels.items ++ found ∷ [] →
    AreLabels new.links.items found.items b →
    HaveLabels old.links.items bs (labels_of old) → HaveLabels new.links.items (bs ++ b ∷ []) (labels_of new)
jumps_more old new found bs b older longer labels are has =
    subst (λ (fs : List (List Found)). HaveLabels new.links.items (bs ++ b ∷ []) fs)
    (sym (ap (map (λ (v : Vec Found Global). v.items)) labels ∙ map_next (λ (v : Vec Found Global). v.items) old.labels.items found))
    (have_next new.links.items bs (labels_of old) b found.items are (have_more old.links.items new.links.items bs (labels_of old) older longer has))

-- there are as many lists of labels as functions
pub labels_count : (links : List Link) (bs : List (Option (Bor Statement))) (fs : List (List Found)) → HaveLabels links bs fs → length bs ≡ length fs
labels_count links [] [] h = refl
labels_count links [] (f ∷ fs) h = absurd h
labels_count links (b ∷ bs) [] h = absurd h
labels_count links (b ∷ bs) (f ∷ fs) h = ap suc (labels_count links bs fs h.1)

-- ---- a label is looked for
abbrev or_this : {A : Type 0} → A → Option A → A
or_this z None = z
or_this z (Some w) = w

pub some_same : {A : Type 0} (x y : A) → Some x ≡ Some y → x ≡ y
some_same x y e = ap (or_this x) e

labels_at : (links : List Link) (bs : List (Option (Bor Statement))) (fs : List (List Found)) (n : ℕ) (b : Bor Statement) (f : List Found) →
    HaveLabels links bs fs → slice_get bs n ≡ Some (Some b) → slice_get fs n ≡ Some f → AreLabelsOf links f b.now
labels_at links [] fs n b f h there is = absurd (cc)
labels_at links (c ∷ bs) [] n b f h there is = absurd h
labels_at links (c ∷ bs) (g ∷ fs) zero b f h there is =
    subst (λ (k : List Found). AreLabelsOf links k b.now) (some_same g f is)
    (subst (λ (d : Option (Bor Statement)). AreLabels links g d) (some_same c (Some b) there) h.0)
labels_at links (c ∷ bs) (g ∷ fs) (suc n) b f h there is = labels_at links bs fs n b f h.1 there is

pub map_at : {A B : Type 0} (g : A → B) (xs : List A) (n : ℕ) (x : A) → slice_get xs n ≡ Some x → slice_get (map g xs) n ≡ Some (g x)
map_at g [] n x e = absurd (cc)
map_at g (y ∷ xs) zero x e = ap (option_map g) e
map_at g (y ∷ xs) (suc n) x e = map_at g xs n x e

pub is_found : (j : Jumps) (bs : List (Option (Bor Statement))) (body : Bor Statement) (function label : ℕ) (found : Vec Found Global) (place : Place) →
    HasJumps j bs → slice_get bs function ≡ Some (Some body) → slice_get j.labels.items function ≡ Some found →
    ((m : Meaning) (links : List Link) → work_at m links (Some place) ≡ looked (to_label label) (map (seen m links) found.items)) →
    IsFound j.links.items body.now label place
is_found j bs body function label found place has there at is =
    let are = labels_at j.links.items bs (labels_of j) function body found.items has.labels there
    (map_at (λ (v : Vec Found Global). v.items) j.labels.items function found at) in
    λ m equal. is m j.links.items ∙ are.finds m equal (to_label label) refl

pub older_twice : (a b c : List Link) → length a ≤ length b → Older a b → Older b c → Older a c
older_twice a b c longer first then = λ n le. then n (omega (arith, le, longer)) ∙ first n le

pub older_same : (a b : List Link) → b ≡ a → Older a b
older_same a b e = subst (λ (links : List Link). Older a links) (sym e) (λ n le. refl)

-- ---- a function is added
pub is_none_of : (b : Option (Bor Statement)) → ((d : Bor Statement) → b ≡ Some d → ⊥) → b ≡ None
is_none_of None n = refl
is_none_of (Some d) n = absurd (n d refl)

pub jumps_for_none : (old new : Jumps) (found : Vec Found Global) (bs : List (Option (Bor Statement))) (b : Option (Bor Statement)) →
    ((d : Bor Statement) → b ≡ Some d → ⊥) → new.links.items ≡ old.links.items → new.labels.items ≡ old.labels.items ++ found ∷ [] → found.items ≡ [] →
    HaveLabels old.links.items bs (labels_of old) → HaveLabels new.links.items (bs ++ b ∷ []) (labels_of new)
jumps_for_none old new found bs b none links labels empty has =
    jumps_more old new found bs b (older_same old.links.items new.links.items links) (omega (arith, ap (λ (ls : List Link). length ls) links)) labels
    (subst (λ (o : Option (Bor Statement)). AreLabels new.links.items found.items o) (sym (is_none_of b none)) tt) has

pub jumps_for_body : (old new : Jumps) (mid : List Link) (found : Vec Found Global) (bs : List (Option (Bor Statement))) (b : Option (Bor Statement))
    (d : Bor Statement) → b ≡ Some d → Older old.links.items mid → length old.links.items ≤ length mid → Older mid new.links.items →
    length mid ≤ length new.links.items → new.labels.items ≡ old.labels.items ++ found ∷ [] → Finds new.links.items found.items d.now true →
    InRange (length new.links.items) found.items → HaveLabels old.links.items bs (labels_of old) →
    HaveLabels new.links.items (bs ++ b ∷ []) (labels_of new)
jumps_for_body old new mid found bs b d is first_older first_longer then_older then_longer labels finds range has =
    jumps_more old new found bs b (older_twice old.links.items mid new.links.items first_longer first_older then_older)
    (omega (arith, first_longer, then_longer)) labels
    (subst (λ (o : Option (Bor Statement)). AreLabels new.links.items found.items o) (sym is) (record { finds = finds; range = range })) has
