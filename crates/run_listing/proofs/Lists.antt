-- Parts of lists.
use Rattle.std.proofs.Common.{arith, ◌≡◌, ◌-◌, ℕ, zero, suc, List, [], ◌∷◌, drop, Some, slice_get}

-- from an element on
pub opened : {A : Type 0} → (xs : List A) (i : ℕ) (x : A) → slice_get xs i ≡ Some x → drop i xs ≡ x ∷ drop (suc i) xs
opened [] i x h = absurd (cc)
opened (y ∷ ys) zero x h = grind (arith, h)
opened (y ∷ ys) (suc i) x h = opened ys i x h
