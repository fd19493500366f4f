-- Lemmas on the arguments that are left.
use Rattle.std.proofs.Common.{◌≡◌, ℕ, zero, suc, ◌<◌, ◌≤◌, List, [], ◌∷◌, length, drop, get_or, min, false, refl, ap, sym, arith, rules}
use Rattle.c_types.specs.declared.kind.IntKind.{IntKind}
use Rattle.c_types.specs.declared.kind.IntKind.TheVariants.{Int}
use Rattle.c_types.specs.Types.{void, type_of, qualified_of}
use Rattle.c_types.specs.declared.ty.Qual.{Qual, the_lemmas}
use Rattle.mem_objects.specs.declared.value.Value.{Value}
use Rattle.libc_spec.specs.Library.{argument_at}
use Rattle.libc_spec.specs.Print.{same_kind}
use Rattle.libc_arguments.specs.Seen.{values_seen}
use Rattle.libc_print.specs.Seen.{typed, type_at}

-- the next argument and those behind it
pub typed-at : (i : ℕ) (vs : List Value) (ts : List Qual) → i < min (length vs) (length ts) →
    drop i (typed vs ts) ≡ (record { value = argument_at (values_seen vs) i; ty = type_at ts i }) ∷ drop (suc i) (typed vs ts)
typed-at i [] ts h = absurd (omega (arith, h))
typed-at i (v ∷ vs) [] h = absurd (omega (arith, h))
typed-at zero (v ∷ vs) (t ∷ ts) h = refl
typed-at (suc i) (v ∷ vs) (t ∷ ts) h = typed-at i vs ts (omega (arith, h))

-- no argument is left behind the last
pub typed-end : (i : ℕ) (vs : List Value) (ts : List Qual) → min (length vs) (length ts) ≤ i → drop i (typed vs ts) ≡ []
typed-end zero [] ts h = refl
typed-end (suc i) [] ts h = refl
typed-end zero (v ∷ vs) [] h = refl
typed-end (suc i) (v ∷ vs) [] h = refl
typed-end zero (v ∷ vs) (t ∷ ts) h = absurd (omega (arith, h))
typed-end (suc i) (v ∷ vs) (t ∷ ts) h = typed-end i vs ts (omega (arith, h))

-- a type without its qualifier
pub qual_ty : (q : Qual) → type_of q.ty ≡ (qualified_of q).ty
qual_ty q = search (rules, the_lemmas)

-- the type of an argument that is there
pub type_at-there : (ts : List Qual) (i : ℕ) (t : Qual) → i < length ts → t ≡ get_or ts i t → type_at ts i ≡ (qualified_of t).ty
type_at-there [] i t h e = absurd (omega (arith, h))
type_at-there (u ∷ ts) zero t h e = ap (λ q. (qualified_of q).ty) (sym e)
type_at-there (u ∷ ts) (suc i) t h e = type_at-there ts i t (omega (arith, h)) e

pub type_at-none : (ts : List Qual) (i : ℕ) → length ts ≤ i → type_at ts i ≡ void
type_at-none [] i h = refl
type_at-none (u ∷ ts) zero h = absurd (omega (arith, h))
type_at-none (u ∷ ts) (suc i) h = type_at-none ts i (omega (arith, h))

pub same_kind-void : (k : IntKind) → same_kind k void ≡ false
same_kind-void Int = refl
same_kind-void _ = refl
