-- What the body of a call of a library function leaves (7.21, 7.22, 7.24).
use Rattle.std.specs.Prelude.{◌≡◌, ◌≢◌, ℕ, ◌+◌, ◌<◌, ◌≤◌, ◌^◌, Bool, true, List, [], ◌∷◌, length, map, slice_get, Some, Result, Ok, Err}
use Rattle.ub_base.specs.declared.names.Event.{Event}
use Rattle.addr_map.specs.Sound.{Above}
use Rattle.c_types.specs.declared.library.LibFunc.{LibFunc}
use Rattle.c_types.specs.declared.library.LibFunc.TheVariants.{Snprintf}
use Rattle.c_types.specs.declared.ty.Qual.{Qual}
use Rattle.c_types.specs.Types.{CType, qualified_of}
use Rattle.mem_spec.specs.Script.{Act, Done, Raised, Ended, Outside, Unplaced}
use Rattle.mem_spec.specs.Streams.{total}
use Rattle.mem_objects.specs.declared.answer.LibAnswer.{LibAnswer}
use Rattle.mem_objects.specs.declared.answer.LibAnswer.TheVariants as answers
use Rattle.mem_objects.specs.declared.value.Value.{Value as Kept_value}
use Rattle.mem_objects.specs.Keeps.{AreBare, Keeps}
use Rattle.mem_objects.specs.Sound.{IsSound}
use Rattle.mem_objects.specs.Tags.{AreTagged}
use Rattle.libc_spec.specs.Library.{LibValue, argument_at, integer_in}
use Rattle.libc_arguments.specs.Answers.{Answers, ArgumentsMade, GivesMade, are_sizes, is_size, size_places}
use Rattle.libc_arguments.specs.Seen.{values_seen}
use Rattle.c_model.specs.Libraries.{result}
use Rattle.library_laws.specs.Called.{called_with}
use Rattle.run_layout.specs.declared.steps.Operand.{Operand}
use Rattle.run_state.specs.declared.machine.Machine.{Machine}
use Rattle.run_state.specs.Operands.{operand_in}
use Rattle.run_state.specs.Stands.{Holds}
use Rattle.run_answers.specs.declared.outcome.Outcome.{Outcome}
use Rattle.run_answers.specs.declared.outcome.Outcome.TheVariants as outcome
use Rattle.run_answers.specs.declared.fault.Fault.{Fault}
use Rattle.run_answers.specs.declared.fault.Fault.TheVariants as fault
use Rattle.run_answers.specs.Performs.{store_in}

-- 1. The arguments.

-- the operands give these values, in order
abbrev pub Arguments : Machine → List Operand → List Kept_value → Type 0
Arguments m [] [] = Unit {0}
Arguments m (o ∷ os) (h ∷ hs) = (operand_in m o ≡ Some h) × Arguments m os hs
Arguments m _ _ = ⊥

-- where they give values, these are the values
abbrev pub AreArguments : Machine → List Operand → List Kept_value → Type 0
AreArguments m os vs = (hs : List Kept_value) → Arguments m os hs → vs ≡ hs

-- their types
abbrev pub types_seen : List Qual → List CType
types_seen ts = map (λ t. (qualified_of t).ty) ts

-- the arguments that are numbers of bytes have 64 bits
abbrev pub are_call_sizes : LibFunc → List LibValue → Bool
are_call_sizes Snprintf vs = is_size (integer_in (argument_at vs 1))
are_call_sizes f vs = are_sizes vs (size_places f)

-- 2. What is asked of a machine.

-- Memory is sound, has the types of its tags, declares nothing of the heap, and begins no row below 16,777,216; what was written is within its limit; the
-- arguments that are numbers of bytes have 64 bits, and the pointers among the arguments were made in the memory.
pub record CanCall (m : Machine) (f : LibFunc) (hs : List Kept_value) : Type 0 where
  pub sound : IsSound m.memory
  pub tagged : AreTagged m.memory
  pub bare : AreBare m.memory
  pub high : Above 16777216 m.memory.rows
  pub within : total m.streams.output ≤ 2 ^ 24
  pub sizes : are_call_sizes f (values_seen hs) ≡ true
  pub made : ArgumentsMade m.memory (values_seen hs)

-- 3. What is done.

-- the call, with its limits, on the store that memory and streams were, under the rows that the memory then has
abbrev pub call_in : Machine → Machine → LibFunc → Event → List CType → List Kept_value → Act LibValue
call_in old new f who ts hs = called_with new.memory.rows f who ts (values_seen hs) (store_in old)

-- nothing has changed but memory, streams and what was touched
abbrev pub TouchesStreams : Machine → Machine → Type 0
TouchesStreams old new = new ≡ record old { memory = new.memory; streams = new.streams; items = new.items }

-- what the library answers is what the call does; memory is kept, and what the value names was made in it
pub record IsAnswered (old new : Machine) (f : LibFunc) (who : Event) (ts : List CType) (hs : List Kept_value) (answer : LibAnswer) : Type 0 where
  pub does : Answers answer new.items (store_in new) (call_in old new f who ts hs)
  pub kept : Keeps old.memory new.memory
  pub made : GivesMade new.memory answer

-- .. and values; of these none but that in the room of the node, and there are no fewer rooms
pub record ChangesByCall (old new : Machine) (node : ℕ) : Type 0 where
  pub rest : new ≡ record old { memory = new.memory; streams = new.streams; values = new.values; items = new.items }
  pub others : (j : ℕ) → j ≢ old.top.base + node → slice_get new.values.items j ≡ slice_get old.values.items j
  pub count : length old.values.items ≤ length new.values.items

-- an answer is taken: a value goes to the room of the node, and nothing else changes
abbrev pub TakesAnswer : Machine → LibAnswer → ℕ → Machine → Result Outcome Fault → Type 0
TakesAnswer old (answers.Value v) node new r =
    (r ≡ Ok outcome.Done) × (new ≡ record old { values = new.values })
    × (old.top.base + node < length old.values.items → slice_get new.values.items (old.top.base + node) ≡ Some v)
    × ((j : ℕ) → j ≢ old.top.base + node → slice_get new.values.items j ≡ slice_get old.values.items j)
TakesAnswer old (answers.End status) node new r = (r ≡ Ok (outcome.End status)) × (new ≡ old)
TakesAnswer old (answers.Raise c) node new r = (r ≡ Err (fault.Raise c)) × (new ≡ old)
TakesAnswer old (answers.Outside cause number) node new r = (r ≡ Err (fault.Over cause number)) × (new ≡ old)
TakesAnswer old answers.Unplaced node new r = (r ≡ Err fault.Unplaced) × (new ≡ old)
TakesAnswer old answers.NoMemory node new r = (r ≡ Err fault.NoMemory) × (new ≡ old)

-- The call is done: it has its value, its items and its store; the value stands in the room of the node, where there is one, and memory is kept.
pub record HasCalled (old new : Machine) (f : LibFunc) (who : Event) (ts : List CType) (hs : List Kept_value) (w : LibValue) : Type 0 where
  pub did : call_in old new f who ts hs ≡ Done w new.items (store_in new)
  pub kept : Keeps old.memory new.memory
  pub value : old.top.base + who.node < length old.values.items → Holds new.memory new.values.items (old.top.base + who.node) (result w)

-- So it is; or the run ends with its status, or it raises its clause, passes its limit, or finds no row for the object that it is to allocate. There may
-- always have been want of memory.
abbrev pub DoesCall : Machine → LibFunc → Event → List CType → List Kept_value → Machine → Result Outcome Fault → Type 0
DoesCall old f who ts hs new (Ok outcome.Done) = (w : LibValue) × HasCalled old new f who ts hs w
DoesCall old f who ts hs new (Ok outcome.Started) = ⊥
DoesCall old f who ts hs new (Ok (outcome.End status)) = call_in old new f who ts hs ≡ Ended status new.items (store_in new)
DoesCall old f who ts hs new (Err (fault.Raise c)) = call_in old new f who ts hs ≡ Raised c
DoesCall old f who ts hs new (Err (fault.Over cause number)) = call_in old new f who ts hs ≡ Outside cause number
DoesCall old f who ts hs new (Err fault.Unplaced) = call_in old new f who ts hs ≡ Unplaced
DoesCall old f who ts hs new (Err fault.NoMemory) = Unit {0}

-- a call of this function, with the values of these operands of these types as its arguments; whatever is answered, memory is kept
pub record CallsLibrary (old : Machine) (f : LibFunc) (os : List Operand) (ts : List Qual) (who : Event) (new : Machine) (r : Result Outcome Fault)
    : Type 0 where
  pub changes : ChangesByCall old new who.node
  pub does : (hs : List Kept_value) → Arguments old os hs → CanCall old f hs → DoesCall old f who (types_seen ts) hs new r
  pub kept : (hs : List Kept_value) → Arguments old os hs → CanCall old f hs → Keeps old.memory new.memory
