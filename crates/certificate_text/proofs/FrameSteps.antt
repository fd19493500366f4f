-- The test of a frame.
use Rattle.std.proofs.Common.{
  ◌≡◌,
  suc,
  ◌<◌,
  ◌≤◌,
  ◌^◌,
  ◌-◌,
  Bool,
  true,
  false,
  ◌&&◌,
  ◌||◌,
  nat_lt,
  nat_le,
  List,
  [],
  ◌∷◌,
  length,
  Option,
  Some,
  None,
  IfSome,
  IfNone,
  is_some,
  slice_get,
  Contains,
  refl,
  sym,
  arith,
}
use Rattle.std.specs.List.{list_any}
use Rattle.std.proofs.lemmas.Bool.Decides.{nat_tests}
use Rattle.std.proofs.lemmas.Option.{slice_get_within, get_or_from_slice_get}
use Rattle.ub_base.specs.Frames as frames
use Rattle.ub_base.specs.declared.names.Frame.{Frame}
use Rattle.ub_base.proofs.FrameLemmas.{same_row-equal, absent-list_any}
use Rattle.certificate_text.specs.Reading.{can_follow, same_row}

contained_by : (b : Bool) (row x : frames.Row) (xs : List frames.Row) → same_row row x ≡ b → (b || list_any (same_row row) xs) ≡ true
    → (list_any (same_row row) xs ≡ true → Contains xs row) → Contains (x ∷ xs) row
contained_by true row x xs is passes later = (0, omega arith, sym (same_row-equal row x is))
contained_by false row x xs is passes later = let r = later passes in (suc r.0, omega (arith, r.1), r.2)

-- a row that the test finds is there
contained : (row : frames.Row) (xs : List frames.Row) → list_any (same_row row) xs ≡ true → Contains xs row
contained row [] h = absurd (cc)
contained row (x ∷ xs) h = contained_by (same_row row x) row x xs refl h (contained row xs)

there : (b : Bool) (before : List frames.Row) (row : frames.Row) → list_any (same_row row) before ≡ b → (Contains before row → ⊥) → b ≡ false
there true before row is absent = absurd (absent (contained row before is))
there false before row is absent = refl

pub follows : (before : List frames.Row) (row : frames.Row) → row.0.0 ≤ length before → length before < 2 ^ 31 - 1 → (Contains before row → ⊥)
    → can_follow before row ≡ true
follows before row parent few absent =
    let new = there (list_any (same_row row) before) before row refl absent in
    rw new (grind (arith, nat_tests, parent, few))

is_contained : (b : Bool) (before : List frames.Row) (row : frames.Row) → list_any (same_row row) before ≡ b → Contains before row → b ≡ true
is_contained true before row is found = refl
is_contained false before row is found = absurd (absent-list_any row before is found)

and_false : (a : Bool) → (a && false) ≡ false
and_false true = refl
and_false false = refl

follows_not_again : (before : List frames.Row) (row : frames.Row) → Contains before row → can_follow before row ≡ false
follows_not_again before row found =
    let again = is_contained (list_any (same_row row) before) before row refl found in
    rw again (and_false (nat_le row.0.0 (length before) && nat_lt (length before) (2 ^ 31 - 1)))

-- a frame that a look-up found can't stand there again
pub found_again : (before : List frames.Row) (row : frames.Row) (found : Option Frame)
    → IfSome found (λ f. (0 < f.0) × (f.0 ≤ length before) × (slice_get before (f.0 - 1) ≡ Some row)) → is_some found ≡ true → can_follow before row ≡ false
found_again before row None h is = absurd (cc)
found_again before row (Some f) h is =
    follows_not_again before row (f.0 - 1, slice_get_within before (f.0 - 1) row h.2, get_or_from_slice_get before (f.0 - 1) row row h.2)

pub none_absent : (before : List frames.Row) (row : frames.Row) (found : Option Frame) → IfNone found (Contains before row → ⊥) → is_some found ≡ false
    → Contains before row → ⊥
none_absent before row None h is = h
none_absent before row (Some f) h is = absurd (cc)
