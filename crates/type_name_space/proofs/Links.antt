-- Bindings one by one: where the newest of a symbol stands, and which one each hides.
use Rattle.std.proofs.Common.{
  ◌≡◌,
  ℕ,
  zero,
  suc,
  ◌+◌,
  ◌-◌,
  ◌<◌,
  ◌≤◌,
  ◌==◌,
  Bool,
  true,
  false,
  if◌then◌else◌,
  List,
  [],
  ◌∷◌,
  ◌++◌,
  length,
  map,
  get_or,
  Option,
  Some,
  None,
  refl,
  sym,
  ap,
  ◌∙◌,
  subst,
  append_assoc,
  length-append,
  arith,
}
use Rattle.std.specs.Prelude.{slice_get, slice_set, nat_le, MatchOption}
use Rattle.std.specs.Borrow.{Bor}
use Rattle.std.specs.Option.{option_copied}
use Rattle.type_name_space.specs.declared.space.Binding.{Binding}
use Rattle.type_name_space.specs.Scopes.{Declared, or_else, visible, left, ends_at, changed_in, changed}
use Rattle.type_name_space.proofs.Scopes.{left_inner}
use Rattle.type_name_space.specs.Links.{declared_of, seen, renamed, place_behind, place_of, AreLinked, IsLinked}

behind_if : (t here : Bool) (n p : ℕ) → place_behind (if t then suc n else p) here ≡ (if t then suc (suc n) else place_behind p here)
behind_if true here n p = refl
behind_if false here n p = refl

pub place_last : {M : Type 0} (symbol : ℕ) (bs : List (Binding M)) (b : Binding M) →
    place_of symbol (bs ++ b ∷ []) ≡ (if b.symbol == symbol then suc (length bs) else place_of symbol bs)
place_last symbol [] b = refl
place_last symbol (a ∷ bs) b =
    ap (λ n. place_behind n (a.symbol == symbol)) (place_last symbol bs b)
    ∙ behind_if (b.symbol == symbol) (a.symbol == symbol) (length bs) (place_of symbol bs)

append_none : {M : Type 0} (bs : List (Binding M)) → bs ++ [] ≡ bs
append_none [] = refl
append_none (b ∷ bs) = ap (λ x. b ∷ x) (append_none bs)

linked_more : {M : Type 0} (before bs : List (Binding M)) (b : Binding M) → AreLinked before bs → b.hidden ≡ place_of b.symbol (before ++ bs) →
    AreLinked before (bs ++ b ∷ [])
linked_more before [] b l h = (h ∙ ap (place_of b.symbol) (append_none before), tt)
linked_more before (a ∷ bs) b l h =
    (l.0, linked_more (before ++ a ∷ []) bs b l.1 (h ∙ ap (place_of b.symbol) (sym (append_assoc before (a ∷ []) bs))))

linked_less : {M : Type 0} (before bs : List (Binding M)) (b : Binding M) → AreLinked before (bs ++ b ∷ []) → AreLinked before bs
linked_less before [] b l = tt
linked_less before (a ∷ bs) b l = (l.0, linked_less (before ++ a ∷ []) bs b l.1)

hides_last : {M : Type 0} (before bs : List (Binding M)) (b : Binding M) → AreLinked before (bs ++ b ∷ []) → b.hidden ≡ place_of b.symbol (before ++ bs)
hides_last before [] b l = l.0 ∙ ap (place_of b.symbol) (sym (append_none before))
hides_last before (a ∷ bs) b l = hides_last (before ++ a ∷ []) bs b l.1 ∙ ap (place_of b.symbol) (append_assoc before (a ∷ []) bs)

same_symbol : (s t : ℕ) → s == t ≡ true → s ≡ t
same_symbol s t h = grind (arith, h)

own_symbol : (s : ℕ) → s == s ≡ true
own_symbol s = grind arith

pub added : {M : Type 0} (newest more : List ℕ) (bs : List (Binding M)) (b : Binding M) → IsLinked newest bs →
    b.hidden ≡ get_or newest b.symbol 0 → ((s : ℕ) → get_or more s 0 ≡ (if b.symbol == s then suc (length bs) else get_or newest s 0)) →
    IsLinked more (bs ++ b ∷ [])
added newest more bs b l h put = record {
  found = λ s. put s ∙ (ap (λ n. if b.symbol == s then suc (length bs) else n) (l.found s) ∙ sym (place_last s bs b));
  linked = linked_more [] bs b l.linked (h ∙ l.found b.symbol);
}

-- the same bindings, with further room
pub moved_room : {M : Type 0} (newest more : List ℕ) (bs : List (Binding M)) → IsLinked newest bs → ((s : ℕ) → get_or more s 0 ≡ get_or newest s 0) →
    IsLinked more bs
moved_room newest more bs l same = record { found = λ s. same s ∙ l.found s; linked = l.linked }

-- the same with further room before, and the list by its equation
pub pushed : {M : Type 0} (newest room more : List ℕ) (bs after : List (Binding M)) (b : Binding M) (place : ℕ) → IsLinked newest bs →
    ((s : ℕ) → get_or room s 0 ≡ get_or newest s 0) → b.hidden ≡ get_or room b.symbol 0 → place ≡ suc (length bs) →
    ((s : ℕ) → get_or more s 0 ≡ (if b.symbol == s then place else get_or room s 0)) → after ≡ bs ++ b ∷ [] → IsLinked more after
pushed {M} newest room more bs after b place l same h p put e =
    subst (λ (xs : List (Binding M)). IsLinked more xs) (sym e)
    (added room more bs b (moved_room newest room bs l same) h (λ s. put s ∙ ap (λ n. if b.symbol == s then n else get_or room s 0) p))

taken_if : {M : Type 0} (t : Bool) (s : ℕ) (bs : List (Binding M)) (b : Binding M) → b.symbol == s ≡ t → b.hidden ≡ place_of b.symbol bs →
    (if t then b.hidden else (if t then suc (length bs) else place_of s bs)) ≡ place_of s bs
taken_if true s bs b e h = h ∙ ap (λ n. place_of n bs) (same_symbol b.symbol s e)
taken_if false s bs b e h = refl

pub taken : {M : Type 0} (newest fewer : List ℕ) (bs : List (Binding M)) (b : Binding M) → IsLinked newest (bs ++ b ∷ []) →
    ((s : ℕ) → get_or fewer s 0 ≡ (if b.symbol == s then b.hidden else get_or newest s 0)) → IsLinked fewer bs
taken newest fewer bs b l put = record {
  found = λ s. put s ∙ (ap (λ n. if b.symbol == s then b.hidden else n) (l.found s ∙ place_last s bs b)
      ∙ taken_if (b.symbol == s) s bs b refl (hides_last [] bs b l.linked));
  linked = linked_less [] bs b l.linked;
}

in_range : (places : List ℕ) (s n : ℕ) → get_or places s 0 ≡ suc n → s < length places
in_range [] s n h = absurd (cc)
in_range (p ∷ ps) zero n h = omega arith
in_range (p ∷ ps) (suc s) n h = let r = in_range ps s n h in omega arith

-- the symbol of the newest binding has room
pub has_room : {M : Type 0} (newest : List ℕ) (bs : List (Binding M)) (b : Binding M) → IsLinked newest (bs ++ b ∷ []) → b.symbol < length newest
has_room newest bs b l =
    in_range newest b.symbol (length bs)
    (l.found b.symbol ∙ (place_last b.symbol bs b ∙ ap (λ t. if t then suc (length bs) else place_of b.symbol bs) (own_symbol b.symbol)))

pub record There {M : Type 0} (n : ℕ) (bs : List (Binding M)) (v : Option (Declared M)) : Type 0 where
  pub binding : Binding M
  pub at : slice_get bs n ≡ Some binding
  pub is : v ≡ Some (declared_of binding)

-- what is visible stands at the place of its symbol
abbrev pub Spot : {M : Type 0} → ℕ → List (Binding M) → Option (Declared M) → Type 0
Spot zero bs v = v ≡ None
Spot (suc n) bs v = There n bs v

spot_behind : {M : Type 0} (p : ℕ) (t : Bool) (b : Binding M) (bs : List (Binding M)) (v : Option (Declared M)) → Spot p bs v →
    Spot (place_behind p t) (b ∷ bs) (or_else v (if t then Some (declared_of b) else None))
spot_behind zero true b bs v h = record { binding = b; at = refl; is = ap (λ o. or_else o (Some (declared_of b))) h }
spot_behind zero false b bs v h = ap (λ o. or_else o None) h
spot_behind (suc n) t b bs v h = record { binding = h.binding; at = h.at; is = ap (λ o. or_else o (if t then Some (declared_of b) else None)) h.is }

pub spot : {M : Type 0} (s : ℕ) (bs : List (Binding M)) → Spot (place_of s bs) bs (visible s (map declared_of bs))
spot s [] = refl
spot s (b ∷ bs) = spot_behind (place_of s bs) (b.symbol == s) b bs (visible s (map declared_of bs)) (spot s bs)

none_at : {M : Type 0} (p : ℕ) (bs : List (Binding M)) (v : Option (Declared M)) → Spot p bs v → p ≡ 0 → None ≡ v
none_at zero bs v h e = sym h
none_at (suc n) bs v h e = absurd (cc)

pub none_found : {M : Type 0} (newest : List ℕ) (bs : List (Binding M)) (now : List (Declared M)) (s place : ℕ) → IsLinked newest bs →
    map declared_of bs ≡ now → place ≡ get_or newest s 0 → place ≡ 0 → None ≡ visible s now
none_found newest bs now s place l v e z =
    none_at (place_of s bs) bs (visible s (map declared_of bs)) (spot s bs) (sym (l.found s) ∙ (sym e ∙ z)) ∙ ap (visible s) v

seen_copied : {M : Type 0} (r : Option (Bor (Binding M))) (b : Binding M) → option_copied r ≡ Some b → seen r ≡ Some (declared_of b)
seen_copied None b h = absurd (cc)
seen_copied (Some x) b h = let e : x.now ≡ b = cc in ap (λ z. Some (declared_of z)) e

some_at : {M : Type 0} (p : ℕ) (bs : List (Binding M)) (v : Option (Declared M)) (r : Option (Bor (Binding M))) → Spot p bs v → 0 < p →
    option_copied r ≡ slice_get bs (p - 1) → seen r ≡ v
some_at zero bs v r h z e = absurd (omega arith)
some_at (suc n) bs v r h z e =
    let k : suc n - 1 ≡ n = omega arith in
    seen_copied r h.binding (e ∙ (ap (slice_get bs) k ∙ h.at)) ∙ sym h.is

pub some_found : {M : Type 0} (newest : List ℕ) (bs : List (Binding M)) (now : List (Declared M)) (s place : ℕ) (r : Option (Bor (Binding M))) →
    IsLinked newest bs →
    map declared_of bs ≡ now → place ≡ get_or newest s 0 → 0 < place → option_copied r ≡ slice_get bs (place - 1) → seen r ≡ visible s now
some_found newest bs now s place r l v e z h =
    let p : place ≡ place_of s bs = e ∙ l.found s in
    some_at (place_of s bs) bs (visible s (map declared_of bs)) r (spot s bs) (subst (λ (n : ℕ). 0 < n) p z) (h ∙ ap (λ n. slice_get bs (n - 1)) p) ∙ ap
    (visible s) v

pub ends_seen : {M : Type 0} (depth : ℕ) (bs : List (Binding M)) (b : Binding M) → Some b ≡ slice_get bs (length bs - 1) →
    nat_le depth b.depth ≡ ends_at depth (map declared_of bs)
ends_seen depth [] b h = absurd (cc)
ends_seen depth (a ∷ []) b h = let e : b ≡ a = cc in ap (λ z. nat_le depth z.depth) e
ends_seen depth (a ∷ e ∷ bs) b h =
    let k : suc (suc (length bs)) - 1 ≡ suc (length bs) = omega arith in
    let j : length bs ≡ suc (length bs) - 1 = omega arith in
    ends_seen depth (e ∷ bs) b (h ∙ (ap (slice_get (a ∷ e ∷ bs)) k ∙ ap (slice_get (e ∷ bs)) j))

pub inner_taken : {M : Type 0} (depth : ℕ) (old new : List (Declared M)) (r : Option (Binding M)) → ends_at depth old ≡ true →
    MatchOption r ((old ≡ []) × (new ≡ [])) (λ b. old ≡ new ++ declared_of b ∷ []) →
    (left depth new ≡ left depth old) × MatchOption r ((new ≡ old) × (left depth old ≡ old)) (λ b. old ≡ new ++ declared_of b ∷ [])
inner_taken depth old new None h p =
    let e : new ≡ old = p.1 ∙ sym p.0 in
    (ap (left depth) e, (e, ap (left depth) p.0 ∙ sym p.0))
inner_taken depth old new (Some b) h p = (sym (ap (left depth) p ∙ left_inner depth new (declared_of b) (sym (ap (ends_at depth) p) ∙ h)), p)

-- another meaning moves nothing
place_renamed : {M : Type 0} (s n : ℕ) (m : M) (bs : List (Binding M)) → place_of s (renamed n m bs) ≡ place_of s bs
place_renamed s n m [] = refl
place_renamed s zero m (b ∷ bs) = refl
place_renamed s (suc n) m (b ∷ bs) = ap (λ p. place_behind p (b.symbol == s)) (place_renamed s n m bs)

pub record Alike {M : Type 0} (before more : List (Binding M)) : Type 0 where
  pub places : (s : ℕ) → place_of s before ≡ place_of s more
  pub lengths : length before ≡ length more

alike_last : {M : Type 0} (before more : List (Binding M)) (b c : Binding M) → Alike before more → b.symbol ≡ c.symbol →
    Alike (before ++ b ∷ []) (more ++ c ∷ [])
alike_last before more b c a e = record {
  places = λ s. place_last s before b
      ∙ (ap (λ n. if b.symbol == s then suc n else place_of s before) a.lengths
      ∙ (ap (λ n. if b.symbol == s then suc (length more) else n) (a.places s)
      ∙ (ap (λ z. if z == s then suc (length more) else place_of s more) e ∙ sym (place_last s more c))));
  lengths = length-append before (b ∷ []) ∙ (ap (λ n. n + 1) a.lengths ∙ sym (length-append more (c ∷ [])));
}

linked_alike : {M : Type 0} (before more bs : List (Binding M)) → Alike before more → AreLinked before bs → AreLinked more bs
linked_alike before more [] a l = tt
linked_alike before more (b ∷ bs) a l =
    (l.0 ∙ a.places b.symbol, linked_alike (before ++ b ∷ []) (more ++ b ∷ []) bs (alike_last before more b b a refl) l.1)

linked_renamed : {M : Type 0} (before : List (Binding M)) (n : ℕ) (m : M) (bs : List (Binding M)) → AreLinked before bs → AreLinked before (renamed n m bs)
linked_renamed before n m [] l = tt
linked_renamed before zero m (b ∷ bs) l = (
  l.0,
  linked_alike (before ++ b ∷ []) (before ++ (record b { meaning = m }) ∷ []) bs
      (alike_last before before b (record b { meaning = m }) (record { places = λ s. refl; lengths = refl }) refl) l.1,
)
linked_renamed before (suc n) m (b ∷ bs) l = (l.0, linked_renamed (before ++ b ∷ []) n m bs l.1)

pub renamed_linked : {M : Type 0} (newest : List ℕ) (n : ℕ) (m : M) (bs : List (Binding M)) → IsLinked newest bs → IsLinked newest (renamed n m bs)
renamed_linked newest n m bs l = record { found = λ s. l.found s ∙ sym (place_renamed s n m bs); linked = linked_renamed [] n m bs l.linked }

abbrev renamed_at : {M : Type 0} → ℕ → M → List (Binding M) → List (Binding M)
renamed_at zero m bs = bs
renamed_at (suc n) m bs = renamed n m bs

changed_behind : {M : Type 0} (p : ℕ) (t : Bool) (s : ℕ) (m : M) (b : Binding M) (bs : List (Binding M)) (rest : List (Declared M)) (v : Option (Declared M)) →
    Spot p bs v → b.symbol == s ≡ t → rest ≡ map declared_of (renamed_at p m bs) →
    changed_in s m (declared_of b) (map declared_of bs) rest v ≡ map declared_of (renamed_at (place_behind p t) m (b ∷ bs))
changed_behind zero true s m b bs rest v h e r =
    ap (changed_in s m (declared_of b) (map declared_of bs) rest) h
    ∙ ap (λ t. (if t then record (declared_of b) { meaning = m } else declared_of b) ∷ map declared_of bs) e
changed_behind zero false s m b bs rest v h e r =
    ap (changed_in s m (declared_of b) (map declared_of bs) rest) h
    ∙ ap (λ t. (if t then record (declared_of b) { meaning = m } else declared_of b) ∷ map declared_of bs) e
changed_behind (suc n) t s m b bs rest v h e r =
    ap (changed_in s m (declared_of b) (map declared_of bs) rest) h.is ∙ ap (λ ds. declared_of b ∷ ds) r

changed_seen : {M : Type 0} (s : ℕ) (m : M) (bs : List (Binding M)) → changed s m (map declared_of bs) ≡ map declared_of (renamed_at (place_of s bs) m bs)
changed_seen s m [] = refl
changed_seen s m (b ∷ bs) =
    changed_behind (place_of s bs) (b.symbol == s) s m b bs (changed s m (map declared_of bs)) (visible s (map declared_of bs)) (spot s bs) refl
    (changed_seen s m bs)

some_renamed : {M : Type 0} (p : ℕ) (m : M) (bs : List (Binding M)) → 0 < p → map declared_of (renamed (p - 1) m bs) ≡ map declared_of (renamed_at p m bs)
some_renamed zero m bs h = absurd (omega arith)
some_renamed (suc n) m bs h = let k : suc n - 1 ≡ n = omega arith in ap (λ i. map declared_of (renamed i m bs)) k

pub change_some : {M : Type 0} (newest : List ℕ) (bs : List (Binding M)) (now : List (Declared M)) (s place : ℕ) (m : M) → IsLinked newest bs →
    map declared_of bs ≡ now → place ≡ get_or newest s 0 → 0 < place → map declared_of (renamed (place - 1) m bs) ≡ changed s m now
change_some newest bs now s place m l v e z =
    let p : place ≡ place_of s bs = e ∙ l.found s in
    some_renamed place m bs z ∙ (ap (λ n. map declared_of (renamed_at n m bs)) p ∙ (sym (changed_seen s m bs) ∙ ap (changed s m) v))

pub change_none : {M : Type 0} (newest : List ℕ) (bs : List (Binding M)) (now : List (Declared M)) (s place : ℕ) (m : M) → IsLinked newest bs →
    map declared_of bs ≡ now → place ≡ get_or newest s 0 → place ≡ 0 → now ≡ changed s m now
change_none newest bs now s place m l v e z =
    let p : place_of s bs ≡ 0 = sym (l.found s) ∙ (sym e ∙ z) in
    sym v ∙ (sym (ap (λ n. map declared_of (renamed_at n m bs)) p) ∙ (sym (changed_seen s m bs) ∙ ap (changed s m) v))

pub set_renamed : {M : Type 0} (bs : List (Binding M)) (at : ℕ) (b : Binding M) (m : M) → b ≡ get_or bs at b →
    slice_set bs at (record b { meaning = m }) ≡ renamed at m bs
set_renamed [] at b m h = refl
set_renamed {M} (a ∷ bs) zero b m h = let f : Binding M → List (Binding M) = λ z. (record z { meaning = m }) ∷ bs in ap f h
set_renamed (a ∷ bs) (suc n) b m h = ap (λ z. a ∷ z) (set_renamed bs n b m h)

pub renamed_past : {M : Type 0} (bs : List (Binding M)) (at : ℕ) (m : M) → length bs ≤ at → renamed at m bs ≡ bs
renamed_past [] at m h = refl
renamed_past (a ∷ bs) zero m h = absurd (omega arith)
renamed_past (a ∷ bs) (suc n) m h = ap (λ z. a ∷ z) (renamed_past bs n m (omega arith))
