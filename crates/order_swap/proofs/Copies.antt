-- Rows that are copied one by one.
use Rattle.std.proofs.Common.{◌≡◌, ◌∙◌, ◌<◌, ◌≤◌, ◌+◌, ◌-◌, ℕ, suc, zero, sym, ap, subst, refl, List, [], ◌∷◌, ◌++◌, length, get_or, take, Option, Some, arith}
use Rattle.std.proofs.Common.{add-one}
use Rattle.std.specs.Prelude.{slice_get, Contains}
use Rattle.ub_base.specs.Frames.{Row, IsFrameList}

next_front : {X : Type 0} (xs : List X) (n : ℕ) (x : X) → slice_get xs n ≡ Some x → take n xs ++ x ∷ [] ≡ take (suc n) xs
next_front [] n x h = absurd (cc)
next_front (y ∷ ys) zero x h = ap (λ z. z ∷ []) (some_is x y (sym h))
  where
    some_is : {X : Type 0} (a b : X) → Some a ≡ Some b → a ≡ b
    some_is a b e = cc
next_front (y ∷ ys) (suc n) x h = ap (λ z. y ∷ z) (next_front ys n x h)

-- one row more
pub one_more : (rows copy new : List Row) (n : ℕ) (row : Row) → copy ≡ take n rows → slice_get rows n ≡ Some row → new ≡ copy ++ row ∷ [] →
    new ≡ take (n + 1) rows
one_more rows copy new n row e at is = is ∙ ap (λ z. z ++ row ∷ []) e ∙ rw add-one (next_front rows n row at)
