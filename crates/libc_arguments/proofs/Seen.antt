-- Lemmas on arguments and lists of bytes.
use Rattle.std.proofs.Common.{
  ◌≡◌,
  ℕ,
  zero,
  suc,
  ◌<◌,
  ◌==◌,
  cond,
  ◌≤◌,
  inl,
  inr,
  eq-eqb,
  List,
  [],
  ◌∷◌,
  length,
  get_or,
  refl,
  ap,
  sym,
  ◌∙◌,
  arith,
  add-one,
  ℤ,
  pos,
  negsuc,
  if◌then◌else◌,
  nat_lt,
  Some,
}
use Rattle.std.proofs.lemmas.Bool.{le-ltb, lt-ltb, ne_eqb, cases_lt}
use Rattle.std.specs.Cmp.Lexicographic.{slice_cmp}
use Rattle.std.specs.Ordering.{ordering_then, nat_cmp}
use Rattle.std.specs.List.{position_from}
use Rattle.std.specs.declared.cmp.Ordering.{Ordering}
use Rattle.std.specs.declared.cmp.Ordering.TheVariants.{Less, Equal, Greater}
use Rattle.mem_objects.specs.declared.value.Value.{Value}
use Rattle.libc_spec.specs.Library.{nothing, argument_at, order_of, place_of}
use Rattle.libc_arguments.specs.Seen.{value_seen, values_seen}

-- an argument that is there
pub argument_at-there : (vs : List Value) (i : ℕ) (v : Value) → i < length vs → v ≡ get_or vs i v → argument_at (values_seen vs) i ≡ value_seen v
argument_at-there [] i v h e = absurd (omega (arith, h))
argument_at-there (w ∷ vs) zero v h e = ap value_seen (sym e)
argument_at-there (w ∷ vs) (suc i) v h e = argument_at-there vs i v (omega (arith, h)) e

-- an argument that isn't there
pub argument_at-none : (vs : List Value) (i : ℕ) → length vs ≤ i → argument_at (values_seen vs) i ≡ nothing
argument_at-none [] i h = refl
argument_at-none (w ∷ vs) zero h = absurd (omega (arith, h))
argument_at-none (w ∷ vs) (suc i) h = argument_at-none vs i (omega (arith, h))

-- the order of lists of bytes as a number
abbrev pub sign_of : Ordering → ℤ
sign_of Less = negsuc 0
sign_of Equal = pos 0
sign_of Greater = pos 1

order_of-cons : (x y : ℕ) (o : Ordering) (r : ℤ) → sign_of o ≡ r →
    (if nat_lt x y then negsuc 0 else (if nat_lt y x then pos 1 else r)) ≡ sign_of (ordering_then (nat_cmp x y) o)
order_of-cons x y o r e =
    elim (cases_lt x y) [
      | inl h ↦ rw (lt-ltb x y h) refl
      | inr h ↦ elim (cases_lt y x) [
        | inl k ↦ rw (le-ltb x y h, lt-ltb y x k, ne_eqb x y (omega arith)) refl
        | inr k ↦ let q : x ≡ y = omega arith in rw (le-ltb x y h, le-ltb y x k, eq-eqb x y q) (sym e)
      ]
    ]

pub order_of-slice_cmp : (xs ys : List ℕ) → order_of xs ys ≡ sign_of (slice_cmp nat_cmp xs ys)
order_of-slice_cmp [] [] = refl
order_of-slice_cmp [] (y ∷ ys) = refl
order_of-slice_cmp (x ∷ xs) [] = refl
order_of-slice_cmp (x ∷ xs) (y ∷ ys) = order_of-cons x y (slice_cmp nat_cmp xs ys) (order_of xs ys) (sym (order_of-slice_cmp xs ys))

-- the first place of a byte
pub place_of-from : (c i : ℕ) (ns : List ℕ) → place_of c i ns ≡ position_from (λ n. n == c) i ns
place_of-from c i [] = refl
place_of-from c i (n ∷ ns) = ap (λ o. cond (n == c) (Some i) o) (place_of-from c (suc i) ns ∙ ap (λ k. position_from (λ n. n == c) k ns) (sym (add-one i)))
