-- What a script gives whatever its touches meet, and how long parts of values are.
use Rattle.std.proofs.Common.{arith, ◌≡◌, ◌+◌, ◌≤◌, ◌⊎◌, inl, inr, ℕ, zero, suc}
use Rattle.std.proofs.Common.{List, [], ◌∷◌, length, take, Option, Some, None, refl, ap}
use Rattle.c_types.specs.Shapes.{Form}
use Rattle.mem_spec.specs.Acts.{retagged}
use Rattle.mem_spec.specs.Script.{Answer, Do, Exceed, Finish, Give, Misplace, Raise, Script, ◌>>=◌}
use Rattle.mem_spec.specs.Store.{TaggedByte}
use Rattle.c_model.specs.Values.{part_bytes}
use Rattle.value_facts.proofs.Scripts.{Any, GivesSo}

-- ---- what a script gives, whatever its touches meet
abbrev pub Only : {V : Type 0} → (V → Type 0) → Script V → Type 0
Only P (Give v) = P v
Only P (Do t k) = (a : Answer t) → Only P (k a)
Only P p = Unit {0}

pub only_then : {A B : Type 0} (P : A → Type 0) (Q : B → Type 0) (p : Script A) (k : A → Script B)
    → Only P p → ((a : A) → P a → Only Q (k a)) → Only Q (p >>= k)
only_then P Q (Give v) k h g = g v h
only_then P Q (Raise c) k h g = tt
only_then P Q (Finish n) k h g = tt
only_then P Q (Exceed c n) k h g = tt
only_then P Q Misplace k h g = tt
only_then P Q (Do t f) k h g = λ a. only_then P Q (f a) k (h a) g

pub anything : {A : Type 0} (p : Script A) → Only Any p
anything (Give v) = tt
anything (Raise c) = tt
anything (Finish n) = tt
anything (Exceed c n) = tt
anything Misplace = tt
anything (Do t f) = λ a. anything (f a)

pub only_on : {A B : Type 0} (Q : B → Type 0) (p : Script A) (k : A → Script B) → ((a : A) → Only Q (k a)) → Only Q (p >>= k)
only_on Q p k g = only_then Any Q p k (anything p) (λ a any. g a)

pub both_so : {V : Type 0} (P Q : V → Type 0) (p : Script V) → GivesSo P p → Only Q p → GivesSo (λ v. P v × Q v) p
both_so P Q (Give v) h g = (h, g)
both_so P Q (Raise c) h g = tt
both_so P Q (Finish n) h g = tt
both_so P Q (Exceed c n) h g = tt
both_so P Q Misplace h g = tt
both_so P Q (Do t f) h g = (h.0, λ a e. both_so P Q (f a) (h.1 a e) (g a))

-- ---- lengths
pub retagged_length : (f : Option Form) (from : ℕ) (bs : List TaggedByte) → length (retagged f from bs) ≡ length bs
retagged_length None from bs = refl
retagged_length (Some form) from [] = refl
retagged_length (Some form) from (b ∷ bs) = ap suc (retagged_length (Some form) (suc from) bs)

pub taken_length : {A : Type 0} (n : ℕ) (xs : List A) → length (take n xs) ≤ length xs
taken_length zero xs = omega arith
taken_length (suc n) [] = omega arith
taken_length (suc n) (x ∷ xs) = let l = taken_length n xs in omega (arith, l)

pub part_length : (offset n : ℕ) (bs : List TaggedByte) → (length (part_bytes offset n bs) ≡ 0) ⊎ (offset + length (part_bytes offset n bs) ≤ length bs)
part_length zero n bs = inr (let l = taken_length n bs in omega (arith, l))
part_length (suc offset) zero [] = inl refl
part_length (suc offset) (suc n) [] = inl refl
part_length (suc offset) n (b ∷ bs) = elim (part_length offset n bs) [ inl e ↦ inl e | inr l ↦ inr (omega (arith, l)) ]
