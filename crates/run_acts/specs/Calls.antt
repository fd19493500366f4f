-- The functions of a program as the definitions see them, and which of them a call calls.
use Rattle.std.specs.Prelude.{◌≡◌, ℕ, Bool, true, false, Result, Ok, Err, ◌||◌, List, [], ◌∷◌, Option, Some, None, is_some}
use Rattle.ub_base.specs.declared.clause.Clause.{Clause}
use Rattle.ub_base.specs.declared.clause.Clause.TheVariants.{InvalidPointer, IncompatibleCall}
use Rattle.c_types.specs.Types.{CType, Signature, function, signature_of, void}
use Rattle.c_types.specs.Same.{compatible_functions}
use Rattle.c_typed.specs.declared.program.Function.{Function as Typed}
use Rattle.mem_spec.specs.Script.{Script, Give, Raise, require, ◌>>◌}
use Rattle.c_model.specs.Program.{Function}
use Rattle.c_model.specs.Values.{Value, Missing, Nothing}

abbrev pub type_by : Signature → CType
type_by s = function s.result s.params s.variadic

-- a function of a typed program is this one of the definitions
pub record IsFunction (f : Typed) (g : Function) : Type 0 where
  pub ty : g.ty ≡ type_by (signature_of f.ty)
  pub body : is_some g.body ≡ is_some f.body
  pub library : g.library ≡ f.library

abbrev pub AreFunctions : List Typed → List Function → Type 0
AreFunctions [] [] = Unit {0}
AreFunctions (f ∷ fs) (g ∷ gs) = IsFunction f g × AreFunctions fs gs
AreFunctions _ _ = ⊥

-- function types agree where they are compatible (6.5.2.2p9)
abbrev pub AgreesAsCompatible : (CType → CType → Bool) → Type 0
AgreesAsCompatible agree = (f g : Signature) → agree (type_by f) (type_by g) ≡ compatible_functions f g

-- the checks of a call through a type, by the function that stands there, if any (6.5.3.2p4, 6.5.2.2p9)
abbrev pub checked_call : (CType → CType → Bool) → CType → Option (ℕ × Function) → Script ℕ
checked_call agree ty None = Raise InvalidPointer
checked_call agree ty (Some c) =
    require (is_some c.1.body || is_some c.1.library) InvalidPointer >> (require (agree c.1.ty ty) IncompatibleCall >> Give c.0)

-- the same checks as a result
abbrev pub call_checks : (callable agree : Bool) → Result (Unit {0}) Clause
call_checks false agree = Err InvalidPointer
call_checks true false = Err IncompatibleCall
call_checks true true = Ok tt

-- what a function leaves that gives no result, by its result type (6.9.1p12)
abbrev pub left_of : CType → Value
left_of void = Nothing
left_of ty = Missing
