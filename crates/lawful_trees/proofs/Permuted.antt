-- What holds of each two elements, either way round, holds of them in any order.
use Rattle.std.proofs.Common.{◌≡◌, ◌≢◌, ℕ, ◌<◌, List, length, get_or, swap, AllPairs, IsPermutation, arith, refl, sym, subst, inl, inr}
use Rattle.std.proofs.lemmas.Bool.{cases_lt, cases_eq}
use Rattle.std.proofs.lemmas.List.Edits.{swapped_from_swap, length-swap}
use Rattle.std.proofs.lemmas.List.Sorted.{IsPermutation-keeps, IsPermutation-sym}

-- where an element stood before two were exchanged
pub record Source {X : Type 0} (l w : List X) (a b : ℕ) (d : X) (i : ℕ) : Type 0 where
  pub from : ℕ
  pub is : get_or w i d ≡ get_or l from d
  pub first : i ≡ a → from ≡ b
  pub second : i ≢ a → i ≡ b → from ≡ a
  pub other : i ≢ a → i ≢ b → from ≡ i

module _ {X : Type 0} where
  source : (l : List X) (a b : ℕ) (d : X) (i : ℕ) → a < length l → b < length l → Source l (swap l a b) a b d i
  source l a b d i p q =
      let s = swapped_from_swap l (swap l a b) a b d p q refl in
      elim (cases_eq i a) [
        | inl at_a ↦ record {
          from = b;
          is = subst (λ k. get_or (swap l a b) k d ≡ get_or l b d) (sym at_a) s.0;
          first = λ _. refl;
          second = λ ne. absurd (ne at_a);
          other = λ ne. absurd (ne at_a);
        }
        | inr not_a ↦
            elim (cases_eq i b) [
              | inl at_b ↦ record {
                from = a;
                is = subst (λ k. get_or (swap l a b) k d ≡ get_or l a d) (sym at_b) s.1;
                first = λ e. absurd (not_a e);
                second = λ _ _. refl;
                other = λ _ ne. absurd (ne at_b);
              }
              | inr not_b ↦ record {
                from = i;
                is = s.2 i not_a not_b;
                first = λ e. absurd (not_a e);
                second = λ _ e. absurd (not_b e);
                other = λ _ _. refl;
              }
            ]
      ]

-- the same of two different places
parted : (i j a b x y : ℕ) → i < j → (i ≡ a → x ≡ b) → (i ≢ a → i ≡ b → x ≡ a) → (i ≢ a → i ≢ b → x ≡ i) → (j ≡ a → y ≡ b) → (j ≢ a → j ≡ b → y ≡ a) →
    (j ≢ a → j ≢ b → y ≡ j) → x ≢ y
parted i j a b x y lt xa xb xo ya yb yo e =
    elim (cases_eq i a) [
      | inl ia ↦
          let x_is = xa ia in
          let ja : j ≢ a = λ h. omega arith in
          elim (cases_eq j b) [
            | inl jb ↦ let y_is = yb ja jb in omega arith
            | inr jb ↦ let y_is = yo ja jb in absurd (jb (omega arith))
          ]
      | inr ia ↦
          elim (cases_eq i b) [
            | inl ib ↦
                let x_is = xb ia ib in
                let jb : j ≢ b = λ h. omega arith in
                elim (cases_eq j a) [
                  | inl ja ↦ let y_is = ya ja in omega arith
                  | inr ja ↦ let y_is = yo ja jb in absurd (ja (omega arith))
                ]
            | inr ib ↦
                let x_is = xo ia ib in
                elim (cases_eq j a) [
                  | inl ja ↦ let y_is = ya ja in absurd (ib (omega arith))
                  | inr ja ↦
                      elim (cases_eq j b) [
                        | inl jb ↦ let y_is = yb ja jb in absurd (ia (omega arith))
                        | inr jb ↦ let y_is = yo ja jb in omega arith
                      ]
                ]
          ]
    ]

inside : (i a b x n : ℕ) → i < n → a < n → b < n → (i ≡ a → x ≡ b) → (i ≢ a → i ≡ b → x ≡ a) → (i ≢ a → i ≢ b → x ≡ i) → x < n
inside i a b x n p q r xa xb xo =
    elim (cases_eq i a) [
      | inl ia ↦ let x_is = xa ia in omega arith
      | inr ia ↦
          elim (cases_eq i b) [
            | inl ib ↦ let x_is = xb ia ib in omega arith
            | inr ib ↦ let x_is = xo ia ib in omega arith
          ]
    ]

module _ {X : Type 0} (R : X → X → Type 0) (turned : (x y : X) → R x y → R y x) where
  each_two : (xs : List X) → AllPairs R xs → (i j : ℕ) (d : X) → i ≢ j → i < length xs → j < length xs → R (get_or xs i d) (get_or xs j d)
  each_two xs h i j d ne p q =
      elim (cases_lt i j) [
        | inl under ↦ h i j d under q
        | inr over ↦ turned (get_or xs j d) (get_or xs i d) (h j i d (omega arith) p)
      ]

  swapped : (l : List X) (a b : ℕ) → a < length l → b < length l → AllPairs R l → AllPairs R (swap l a b)
  swapped l a b p q h i j d lt within =
      let long = length-swap l a b in
      let j_in : j < length l = omega arith in
      let i_in : i < length l = omega arith in
      let x = source l a b d i p q in
      let y = source l a b d j p q in
      let apart = parted i j a b x.from y.from lt x.first x.second x.other y.first y.second y.other in
      let x_in = inside i a b x.from (length l) i_in p q x.first x.second x.other in
      let y_in = inside j a b y.from (length l) j_in p q y.first y.second y.other in
      rw (x.is, y.is) (each_two l h x.from y.from d apart x_in y_in)

  -- in another order too
  pub permuted : (xs ys : List X) → IsPermutation xs ys → AllPairs R ys → AllPairs R xs
  permuted xs ys s h = IsPermutation-keeps ys (AllPairs R) h (λ l i j p q k. swapped l i j p q k) xs (IsPermutation-sym xs ys s)
