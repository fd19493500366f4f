-- The value of one operand of several.
use Rattle.std.proofs.Common.{arith, ◌≡◌, ◌-◌, ℕ, zero, suc, pos, List, [], ◌∷◌, length, Some, None, slice_get, refl, ap, ◌∙◌}
use Rattle.run_layout.specs.declared.steps.Operand.{Operand}
use Rattle.run_layout.specs.declared.steps.Operand.TheVariants.{Integer}
use Rattle.run_layout.specs.Resolved.{value_at}
use Rattle.run_layout.specs.EventActs.{last_of}

pub value_found : (os : List Operand) (i : ℕ) (o : Operand) → slice_get os i ≡ Some o → o ≡ value_at os i
value_found [] zero o h = absurd (cc)
value_found [] (suc i) o h = absurd (cc)
value_found (p ∷ os) zero o h = cc
value_found (p ∷ os) (suc i) o h = value_found os i o h

pub value_missing : (os : List Operand) (i : ℕ) → slice_get os i ≡ None → Integer (pos 0) ≡ value_at os i
value_missing [] i h = refl
value_missing (p ∷ os) zero h = absurd (cc)
value_missing (p ∷ os) (suc i) h = value_missing os i h

less_one : (o p : Operand) (os : List Operand) → length (o ∷ p ∷ os) - 1 ≡ suc (length (p ∷ os) - 1)
less_one o p os = omega arith

pub last_at : (os : List Operand) → value_at os (length os - 1) ≡ last_of os
last_at [] = refl
last_at (o ∷ []) = refl
last_at (o ∷ p ∷ os) = ap (value_at (o ∷ p ∷ os)) (less_one o p os) ∙ last_at (p ∷ os)
