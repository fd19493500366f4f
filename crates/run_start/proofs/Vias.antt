-- How stores access memory.
use Rattle.std.proofs.Common.{◌≡◌, ℕ, zero, suc, ◌+◌, ◌-◌, ◌<◌, ◌≤◌, Bool, true, false, cond, refl, sym, ap, subst, arith}
use Rattle.std.proofs.Common.{List, [], ◌∷◌, ◌++◌, length, length-append, map, slice_get, Option, Some, None}
use Rattle.std.specs.Prelude.{◌==◌, ◌&&◌, nat_le}
use Rattle.std.proofs.lemmas.Bool.Decides.{nat_tests}
use Rattle.c_types.specs.declared.kind.IntKind.{IntKind}
use Rattle.c_types.specs.declared.kind.IntKind.TheVariants as kinds
use Rattle.c_types.specs.declared.ty.Ty.{Ty}
use Rattle.c_types.specs.Types.{CType, void, int, enumeration, pointer, array, struct, union, function, type_of}
use Rattle.c_typed.specs.declared.tree.Access.{Access}
use Rattle.c_typed.specs.declared.tree.Access.TheVariants as access
use Rattle.mem_spec.specs.Agreement.{number_of_kind, read_as_int}
use Rattle.mem_objects.specs.declared.cell.Via.{Via}
use Rattle.mem_objects.specs.declared.cell.Via.TheVariants as vias
use Rattle.mem_objects.specs.Cells.{is_character_numbered, integer_or, kind_numbered, type_numbered}
use Rattle.mem_objects.specs.Keeps.{Keeps, IsNumbered}
use Rattle.mem_objects.specs.Memory.{Kept}
use Rattle.mem_objects.specs.Stores.{IsTypeOf}
use Rattle.program_view.specs.Trees.{is_pointer}
use Rattle.run_values.specs.Stores.{SeesAs}
use Rattle.run_start.specs.Begins.{HasTypeNumber, IsNamed}
use Rattle.run_state.specs.Meaning.{AccessSuits}

-- ---- numbers of types stay
named_by : (b : Bool) (o : Option IntKind) (r s : Option CType) (ty : CType) → (r ≡ Some ty → s ≡ Some ty) → cond b None (integer_or o r) ≡ Some ty →
    cond b None (integer_or o s) ≡ Some ty
named_by true o r s ty f e = absurd (cc)
named_by false None r s ty f e = f e
named_by false (Some k) r s ty f e = e

at_more : (ts extra : List Ty) (k : ℕ) (ty : CType) → slice_get (map type_of ts) k ≡ Some ty → slice_get (map type_of (ts ++ extra)) k ≡ Some ty
at_more [] extra k ty e = absurd (cc)
at_more (t ∷ ts) extra zero ty e = e
at_more (t ∷ ts) extra (suc k) ty e = at_more ts extra k ty e

type_more : (ts extra : List Ty) (n : ℕ) (ty : CType) → type_numbered (map type_of ts) n ≡ Some ty → type_numbered (map type_of (ts ++ extra)) n ≡ Some ty
type_more ts extra n ty e =
    named_by (n == 0) (kind_numbered n) (slice_get (map type_of ts) (n - 13)) (slice_get (map type_of (ts ++ extra)) (n - 13)) ty
    (at_more ts extra (n - 13) ty) e

number_stays : (old new : Kept) (ty : CType) (via : Via) → Keeps old new → HasTypeNumber old ty via → HasTypeNumber new ty via
number_stays old new ty (vias.Scalar id) keeps has = (
  subst (λ (ts : List Ty). type_numbered (map type_of ts) id.number ≡ Some (read_as_int ty)) (sym keeps.types.1)
      (type_more old.types keeps.types.0 id.number (read_as_int ty) has.0),
  omega (arith, has.1, ap (λ (ts : List Ty). length ts) keeps.types.1, length-append old.types keeps.types.0),
)
number_stays old new ty vias.Whole keeps has = absurd has
number_stays old new ty vias.Bytes keeps has = absurd has

pub named_stays : (old new : Kept) (how : Access) (ty : CType) (via : Via) → Keeps old new → IsNamed old how ty via → IsNamed new how ty via
named_stays old new (access.Integer kind) ty via keeps is = is
named_stays old new access.Pointer ty via keeps is = number_stays old new ty via keeps is
named_stays old new access.Function ty via keeps is = number_stays old new ty via keeps is
named_stays old new (access.Whole size align) ty via keeps is = is

-- ---- what such a via sees
kind_seen : (m : Kept) (k : IntKind) → IsTypeOf m (number_of_kind k) (int k)
kind_seen m kinds.Bool = record { numbered = refl; plain = refl; character = refl }
kind_seen m kinds.Char = record { numbered = refl; plain = refl; character = refl }
kind_seen m kinds.SChar = record { numbered = refl; plain = refl; character = refl }
kind_seen m kinds.UChar = record { numbered = refl; plain = refl; character = refl }
kind_seen m kinds.Short = record { numbered = refl; plain = refl; character = refl }
kind_seen m kinds.UShort = record { numbered = refl; plain = refl; character = refl }
kind_seen m kinds.Int = record { numbered = refl; plain = refl; character = refl }
kind_seen m kinds.UInt = record { numbered = refl; plain = refl; character = refl }
kind_seen m kinds.Long = record { numbered = refl; plain = refl; character = refl }
kind_seen m kinds.ULong = record { numbered = refl; plain = refl; character = refl }
kind_seen m kinds.LLong = record { numbered = refl; plain = refl; character = refl }
kind_seen m kinds.ULLong = record { numbered = refl; plain = refl; character = refl }

kind_low : (k : IntKind) (n : ℕ) → number_of_kind k ≤ n + 12
kind_low kinds.Bool n = omega arith
kind_low kinds.Char n = omega arith
kind_low kinds.SChar n = omega arith
kind_low kinds.UChar n = omega arith
kind_low kinds.Short n = omega arith
kind_low kinds.UShort n = omega arith
kind_low kinds.Int n = omega arith
kind_low kinds.UInt n = omega arith
kind_low kinds.Long n = omega arith
kind_low kinds.ULong n = omega arith
kind_low kinds.LLong n = omega arith
kind_low kinds.ULLong n = omega arith

far : (n : ℕ) → 4 < n → (nat_le 2 n && nat_le n 4) ≡ false
far n lt = grind (arith, nat_tests)

no_character : (ts : List CType) (n : ℕ) (c : Bool) (ty : CType) → type_numbered ts n ≡ Some (pointer c ty) → is_character_numbered n ≡ false
no_character ts zero c ty e = refl
no_character ts (suc zero) c ty e = refl
no_character ts (suc (suc zero)) c ty e = absurd (cc)
no_character ts (suc (suc (suc zero))) c ty e = absurd (cc)
no_character ts (suc (suc (suc (suc zero)))) c ty e = absurd (cc)
no_character ts (suc (suc (suc (suc (suc k))))) c ty e = far (suc (suc (suc (suc (suc k))))) (omega arith)

pointer_seen : (m : Kept) (ty : CType) (via : Via) → is_pointer ty ≡ true → HasTypeNumber m ty via →
    SeesAs m via access.Pointer ty × IsNumbered (length m.types) via
pointer_seen m (pointer c ty) (vias.Scalar id) is has =
    (record { numbered = has.0; plain = refl; character = no_character (map type_of m.types) id.number c ty has.0 }, has.1)
pointer_seen m (pointer c ty) vias.Whole is has = absurd has
pointer_seen m (pointer c ty) vias.Bytes is has = absurd has
pointer_seen m void via is has = absurd (cc)
pointer_seen m (int k) via is has = absurd (cc)
pointer_seen m (enumeration n) via is has = absurd (cc)
pointer_seen m (array c ty n) via is has = absurd (cc)
pointer_seen m (struct n) via is has = absurd (cc)
pointer_seen m (union n) via is has = absurd (cc)
pointer_seen m (function result params variadic) via is has = absurd (cc)

pub named_seen : (m : Kept) (how : Access) (ty : CType) (via : Via) → AccessSuits how ty → IsNamed m how ty via →
    SeesAs m via how ty × IsNumbered (length m.types) via
named_seen m (access.Integer k) ty via suits is =
    subst (λ (v : Via). SeesAs m v (access.Integer k) ty × IsNumbered (length m.types) v) (sym is) (kind_seen m k, kind_low k (length m.types))
named_seen m access.Pointer ty via suits is = pointer_seen m ty via suits is
named_seen m access.Function ty via suits is = pointer_seen m ty via suits is
named_seen m (access.Whole size align) ty via suits is =
    subst (λ (v : Via). SeesAs m v (access.Whole size align) ty × IsNumbered (length m.types) v) (sym is) (tt, tt)
