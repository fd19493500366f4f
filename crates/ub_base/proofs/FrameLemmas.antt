-- Rows of frames: what a look-up finds, and that a new row keeps the list of frames.
use Rattle.std.proofs.Common.{
  ◌≡◌,
  ◌<◌,
  ◌≤◌,
  ◌^◌,
  ◌+◌,
  ◌-◌,
  ◌==◌,
  ◌&&◌,
  ◌⊎◌,
  ℕ,
  zero,
  suc,
  Bool,
  true,
  false,
  not,
  List,
  [],
  ◌∷◌,
  ◌++◌,
  length,
  slice_get,
  position,
  None,
  Some,
  Contains,
  refl,
  sym,
  ap,
  subst,
  ◌∙◌,
  true≢false,
  cond,
  nat_lt,
  arith,
  inl,
  inr,
  length-append,
}
use Rattle.std.proofs.lemmas.Option.{slice_get_within, get_or_from_slice_get}
use Rattle.std.specs.List.{list_any, position_or_len}
use Rattle.std.proofs.lemmas.Bool.Decides.{nat_tests}
use Rattle.std.proofs.lemmas.List.Folds.{list_any_at}
use Rattle.indexmap.specs.IndexSet.{insert_key}
use Rattle.indexmap.proofs.CallerLemmas.{Contains-list_any}
use Rattle.ub_base.specs.Frames.{Row, IsFrameList}

abbrev pub same_row : Row → Row → Bool
same_row a b = ((a.0.0 == b.0.0) && (a.1 == b.1)) && (a.2 == b.2)

pub same_row-equal : (a b : Row) → same_row a b ≡ true → a ≡ b
same_row-equal a b e = grind (arith, nat_tests)

pub same_row-refl : (a : Row) → same_row a a ≡ true
same_row-refl a = grind (arith, nat_tests)

one_more : (n : ℕ) → 1 + n ≡ suc n
one_more n = omega arith

less : (b : Bool) {m n : ℕ} → b ≡ false → cond (not b) (1 + m) 0 < suc n → m < n
less true e h = absurd (cc)
less false e h = omega arith

-- the element at the first index whose element passes
pub slice_get-position_or_len : {X : Type 0} (test : X → Bool) (xs : List X) → position_or_len test xs < length xs
    → (x : X) × (slice_get xs (position_or_len test xs) ≡ Some x) × (test x ≡ true)
slice_get-position_or_len test [] h = absurd (omega arith)
slice_get-position_or_len {X} test (x ∷ xs) h = by (test x) refl (slice_get-position_or_len test xs)
  where
    by : (b : Bool) → test x ≡ b → (position_or_len test xs < length xs → (y : X) × (slice_get xs (position_or_len test xs) ≡ Some y) × (test y ≡ true))
        → (y : X) × (slice_get (x ∷ xs) (position_or_len test (x ∷ xs)) ≡ Some y) × (test y ≡ true)
    by true e rest = (x, rw e refl, e)
    by false e rest =
        let r = rest (less (test x) e h) in
        (r.0, simp e (ap (slice_get (x ∷ xs)) (one_more _) ∙ r.1), r.2)

some_if : (b : Bool) (m i : ℕ) → cond b (Some m) None ≡ Some i → (b ≡ true) × (m ≡ i)
some_if true m i h = (refl, (cc))
some_if false m i h = absurd (cc)

-- what a look-up finds is the row
pub slice_get-position : (row : Row) (rows : List Row) (i : ℕ) → position (λ y. same_row row y) rows ≡ Some i → slice_get rows i ≡ Some row
slice_get-position row rows i h =
    let at = some_if (nat_lt (position_or_len (λ y. same_row row y) rows) (length rows)) _ i h in
    let found = slice_get-position_or_len (λ y. same_row row y) rows (grind (arith, nat_tests, at.0)) in
    rw (← at.1) (found.1 ∙ ap Some (sym (same_row-equal row found.0 found.2)))

-- where no row passes, the row isn't there
pub absent-list_any : (row : Row) (rows : List Row) → list_any (λ y. same_row row y) rows ≡ false → Contains rows row → ⊥
absent-list_any row rows e h =
    true≢false (sym (list_any_at (λ y. same_row row y) rows h.0 row h.1 (ap (same_row row) h.2 ∙ same_row-refl row)) ∙ e)

-- a row that isn't there goes last
pub insert_key-absent : (row : Row) (rows : List Row) → (Contains rows row → ⊥) → insert_key same_row rows row ≡ rows ++ row ∷ []
insert_key-absent row rows absent = by (list_any (same_row row) rows) refl
  where
    by : (b : Bool) → list_any (same_row row) rows ≡ b → insert_key same_row rows row ≡ rows ++ row ∷ []
    by true e = absurd (absent (Contains-list_any same_row same_row-equal rows row e))
    by false e = rw e refl

-- an element of a list with one more is an old one or the new one
pub slice_get-push : {X : Type 0} (xs : List X) (x y : X) (i : ℕ) → slice_get (xs ++ x ∷ []) i ≡ Some y
    → ((i < length xs) × (slice_get xs i ≡ Some y)) ⊎ ((i ≡ length xs) × (y ≡ x))
slice_get-push [] x y zero h = inr (refl, (cc))
slice_get-push [] x y (suc i) h = absurd (cc)
slice_get-push (z ∷ zs) x y zero h = inl (omega arith, h)
slice_get-push (z ∷ zs) x y (suc i) h = elim (slice_get-push zs x y i h) [ inl a ↦ inl (omega arith, a.1) | inr a ↦ inr (omega arith, a.1) ]

at_contains : {X : Type 0} (xs : List X) (x : X) (i : ℕ) → slice_get xs i ≡ Some x → Contains xs x
at_contains xs x i h = (i, slice_get_within xs i x h, get_or_from_slice_get xs i x x h)

-- a new row that was started by a frame which is there keeps a list of frames
pub IsFrameList-push : (rows : List Row) (row : Row) → IsFrameList rows → row.0.0 ≤ length rows → (Contains rows row → ⊥) → length rows < 2 ^ 32 - 1 →
    IsFrameList (rows ++ row ∷ [])
IsFrameList-push rows row f parent absent few = record {
  few = omega (arith, length-append rows (row ∷ []));
  earlier = λ i x h. elim (slice_get-push rows row x i h) [ inl a ↦ f.earlier i x a.1 | inr a ↦ rw (a.0, a.1) parent ];
  distinct = λ i j x h k. elim (slice_get-push rows row x i h) [
    | inl a ↦ (elim (slice_get-push rows row x j k)
        [ inl b ↦ f.distinct i j x a.1 b.1 | inr b ↦ absurd (absent (subst (Contains rows) b.1 (at_contains rows x i a.1))) ])
    | inr a ↦ (elim (slice_get-push rows row x j k) [ inl b ↦ absurd (absent (subst (Contains rows) a.1 (at_contains rows x j b.1))) | inr b ↦ a.0 ∙ sym b.0 ])
  ];
}
