-- Choices noted node by node are those of all nodes.
use Rattle.std.proofs.Common.{
  ◌≡◌,
  ℕ,
  zero,
  suc,
  ◌+◌,
  ◌-◌,
  ◌^◌,
  ◌<◌,
  ◌≤◌,
  min,
  ◌==◌,
  Bool,
  true,
  false,
  if◌then◌else◌,
  nat_lt,
  List,
  [],
  ◌∷◌,
  length,
  slice_get,
  Option,
  Some,
  None,
  refl,
  sym,
  ap,
  ◌∙◌,
  arith,
}
use Rattle.std.proofs.lemmas.Bool.Decides.{nat_tests}
use Rattle.ub_base.proofs.Tests.{number_equal, number_other, if_true, if_false}
use Rattle.c_typed.specs.declared.tree.Typed.{Typed}
use Rattle.c_typed.specs.Order.{Taken}
use Rattle.seq_order.specs.Marked.{taken_in}
use Rattle.static_seq.specs.Choices.{spared_at, spared_where, spared_of}

-- the choices of the nodes below a number stand, and no others
pub record SparedTo (all : List Typed) (u v : ℕ) (choices : Taken) (number index : ℕ) : Type 0 where
  pub numbered : number ≡ index
  pub below : (k : ℕ) → k < index → choices k ≡ spared_of all u v k
  pub above : (k : ℕ) → index ≤ k → choices k ≡ None

module _ (all : List Typed) (u v : ℕ) where
  equal : (a b : ℕ) → a < suc b → (a < b → ⊥) → a ≡ b
  equal a b h g = grind (arith, h, g)

  is_choice : (t : Typed) (i : ℕ) → slice_get all i ≡ Some t → spared_of all u v i ≡ spared_at t i u v
  is_choice t i e = ap (λ z. spared_where z i u v) e

  -- a node that chooses
  pub noted : (old new : Taken) (number index next operand : ℕ) (t : Typed) → number < 2 ^ 32 - 1 → SparedTo all u v old number index
      → slice_get all index ≡ Some t → spared_at t number u v ≡ Some operand → next ≡ min (number + 1) (2 ^ 32 - 1)
      → ((n : ℕ) → new n ≡ (if n == number then Some operand else old n)) → SparedTo all u v new next (index + 1)
  noted old new number index next operand t small s e o q w =
      let m = s.numbered in
      record {
        numbered = omega (arith, m, q, small);
        below = λ k h. step k h (k == index) refl;
        above = λ k h. w k ∙ (if_false _ _ _ (number_other k number (λ r. omega (arith, r, h, m))) ∙ s.above k (omega (arith, h)));
      }
    where
      step : (k : ℕ) → k < index + 1 → (b : Bool) → (k == index) ≡ b → new k ≡ spared_of all u v k
      step k h true r =
          let i : k ≡ index = grind (arith, nat_tests, r) in
          let m = s.numbered in
          w k ∙ (if_true _ _ _ (number_equal k number (omega (arith, i, m))) ∙ (sym o ∙ (ap (λ z. spared_at t z u v) m ∙ (sym (is_choice t index e) ∙ ap
          (spared_of all u v) (sym i)))))
      step k h false r =
          let ne : (k ≡ index → ⊥) = λ i. absurd_equal k index i r in
          let m = s.numbered in
          w k ∙ (if_false _ _ _ (number_other k number (λ i. ne (omega (arith, i, m)))) ∙ s.below k (grind (arith, ne, h)))
        where
          absurd_equal : (a b : ℕ) → a ≡ b → (a == b) ≡ false → ⊥
          absurd_equal a b i r = absurd (grind (arith, nat_tests, i, r))

  -- and one that doesn't
  pub passed : (old : Taken) (number index next : ℕ) (t : Typed) → number < 2 ^ 32 - 1 → SparedTo all u v old number index → slice_get all index ≡ Some t
      → spared_at t number u v ≡ None → next ≡ min (number + 1) (2 ^ 32 - 1) → SparedTo all u v old next (index + 1)
  passed old number index next t small s e o q =
      let m = s.numbered in
      record {
        numbered = omega (arith, m, q, small);
        below = λ k h. step k h (k == index) refl;
        above = λ k h. s.above k (omega (arith, h));
      }
    where
      step : (k : ℕ) → k < index + 1 → (b : Bool) → (k == index) ≡ b → old k ≡ spared_of all u v k
      step k h true r =
          let i : k ≡ index = grind (arith, nat_tests, r) in
          let m = s.numbered in
          s.above k (omega (arith, i)) ∙ (sym o ∙ (ap (λ z. spared_at t z u v) m ∙ (sym (is_choice t index e) ∙ ap (spared_of all u v) (sym i))))
      step k h false r = s.below k (grind (arith, nat_tests, h, r))

  pub begun : (choices : Taken) → ((k : ℕ) → choices k ≡ None) → SparedTo all u v choices 0 0
  begun choices e = record { numbered = refl; below = λ k h. absurd (omega (arith, h)); above = λ k h. e k }

  -- no node is left
  pub all_noted : (choices : Taken) (number index : ℕ) → length all ≤ index → SparedTo all u v choices number index → (k : ℕ) → choices k ≡ spared_of all u v k
  all_noted choices number index h s k = step (slice_get all k) refl
    where
      there : (ts : List Typed) (k : ℕ) (t : Typed) → slice_get ts k ≡ Some t → k < length ts
      there [] k t e = absurd (cc)
      there (x ∷ ts) zero t e = omega arith
      there (x ∷ ts) (suc k) t e = let r = there ts k t e in omega (arith, r)

      step : (o : Option Typed) → slice_get all k ≡ o → choices k ≡ spared_of all u v k
      step (Some t) e = let r = there all k t e in s.below k (omega (arith, r, h))
      step None e = split (nat_lt k index) refl
        where
          split : (b : Bool) → nat_lt k index ≡ b → choices k ≡ spared_of all u v k
          split true r = s.below k (grind (arith, nat_tests, r))
          split false r = s.above k (grind (arith, nat_tests, r)) ∙ sym (ap (λ z. spared_where z k u v) e)

pub nothing_noted : (k : ℕ) → taken_in [] k ≡ None
nothing_noted zero = refl
nothing_noted (suc k) = refl
