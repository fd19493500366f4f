-- What the body of a call leaves, by the function that its designator leads to (6.5.2.2).
use Rattle.std.specs.Prelude.{◌≡◌, ℕ, ◌^◌, ◌≤◌, ◌||◌, Bool, true, false, List, length, slice_get, Option, Some, None, is_some, Result, Ok, Err}
use Rattle.std.specs.Borrow.{Bor}
use Rattle.ub_base.specs.declared.clause.Clause.{Clause}
use Rattle.ub_base.specs.declared.clause.Clause.TheVariants.{IncompatibleCall, InvalidPointer}
use Rattle.ub_base.specs.declared.names.Event.{Event}
use Rattle.c_types.specs.declared.library.LibFunc.{LibFunc}
use Rattle.c_types.specs.declared.ty.FuncTy.{FuncTy}
use Rattle.c_types.specs.declared.ty.Qual.{Qual}
use Rattle.c_types.specs.Types.{CType, signature_of}
use Rattle.c_typed.specs.declared.program.Function.{Function as Typed}
use Rattle.mem_objects.specs.declared.value.Value.{Value as Kept_value}
use Rattle.c_model.specs.Program.{Function}
use Rattle.c_model.specs.Steps.{function_of}
use Rattle.c_model.specs.Values.{function_in}
use Rattle.run_acts.specs.Calls.{AgreesAsCompatible, AreFunctions, type_by}
use Rattle.run_values.specs.Views.{value_in}
use Rattle.run_layout.specs.declared.steps.CallCode.{CallCode}
use Rattle.run_layout.specs.declared.steps.Operand.{Operand}
use Rattle.run_state.specs.declared.machine.Machine.{Machine}
use Rattle.run_state.specs.Operands.{operand_in}
use Rattle.run_answers.specs.declared.outcome.Outcome.{Outcome}
use Rattle.run_answers.specs.declared.fault.Fault.{Fault}
use Rattle.run_answers.specs.declared.fault.Fault.TheVariants as fault
use Rattle.run_answers.specs.LibraryCalls.{CallsLibrary}
use Rattle.run_answers.specs.Opens.{OpensFunction}

-- which function of the library a function is, where it is one
abbrev pub library_in : Option Typed → Option LibFunc
library_in None = None
library_in (Some f) = f.library

-- the function type that a call goes by, where its designator has one (6.5.2.2p1)
abbrev pub type_of_call : Option (Bor FuncTy) → Option CType
type_of_call None = None
type_of_call (Some ty) = Some (type_by (signature_of ty.now))

-- it raises this clause, if memory isn't wanted before, and leaves the memory
abbrev pub RaisesOnly : Clause → (old new : Machine) → Result Outcome Fault → Type 0
RaisesOnly c old new (Ok outcome) = ⊥
RaisesOnly c old new (Err (fault.Raise raised)) = (raised ≡ c) × (new.memory ≡ old.memory)
RaisesOnly c old new (Err (fault.Over cause reached)) = ⊥
RaisesOnly c old new (Err fault.Unplaced) = ⊥
RaisesOnly c old new (Err fault.NoMemory) = Unit {0}

-- The machine before and after the body of a call with these operands as its arguments, which have these types, and what was answered.
module _ (old : Machine) (os : List Operand) (ts : List Qual) (event : Event) (new : Machine) (result : Result Outcome Fault) where
  -- a function that the program defines starts its frame (6.5.2.2p10); one of the library is called at once
  abbrev pub Runs : ℕ → Option LibFunc → Type 0
  Runs number None = OpensFunction old number os event new result
  Runs number (Some library) = CallsLibrary old library os ts event new result

  -- a function that is neither defined nor of the library can't be called (6.5.3.2p4), nor one whose type isn't compatible with the call's (6.5.2.2p9)
  abbrev pub RunsWhere : (callable agrees : Bool) → ℕ → Function → Type 0
  RunsWhere false agrees number f = RaisesOnly InvalidPointer old new result
  RunsWhere true false number f = RaisesOnly IncompatibleCall old new result
  RunsWhere true true number f = Runs number f.library

  -- no function can be called that isn't there (6.5.3.2p4)
  abbrev pub CallsFound : (agree : CType → CType → Bool) → Option CType → Option (ℕ × Function) → Type 0
  CallsFound agree None found = RaisesOnly InvalidPointer old new result
  CallsFound agree (Some ty) None = RaisesOnly InvalidPointer old new result
  CallsFound agree (Some ty) (Some f) = RunsWhere (is_some f.1.body || is_some f.1.library) (agree f.1.ty ty) f.0 f.1

-- Where these are the functions of the program, types agree that are compatible, and the designator gives a value, the function is called to which the value
-- leads.
abbrev pub Calls : Machine → CallCode → Event → Machine → Result Outcome Fault → Type 0
Calls old call event new result =
    (fs : List Function) (agree : CType → CType → Bool) (h : Kept_value) → length old.program.now.functions ≤ 2 ^ 32
    → AreFunctions old.program.now.functions fs → AgreesAsCompatible agree → operand_in old call.designator ≡ Some h
    → CallsFound old call.arguments.items call.types event new result agree (type_of_call call.ty) (function_of fs 0 (function_in (value_in old.memory h)))

-- .. of the call of this number in the code
abbrev pub CallsNumbered : ℕ → Machine → Event → Machine → Result Outcome Fault → Type 0
CallsNumbered number old event new result =
    (call : CallCode) → slice_get old.image.code.now.tables.calls.items number ≡ Some call → Calls old call event new result
