-- What the finding of no program shows, said of the definitions themselves.
use Rattle.std.specs.Prelude.{◌≡◌, ◌*◌, true, false, [], ◌∷◌, Some, None, pos}
use Rattle.ub_base.specs.declared.clause.Kind.TheVariants.{Val, Eff}
use Rattle.ub_base.specs.declared.clause.Clause.{Clause}
use Rattle.ub_base.specs.declared.clause.Clause.TheVariants.{DivideByZero, PointerComparison}
use Rattle.ub_base.specs.declared.names.ObjName.{ObjName}
use Rattle.ub_base.specs.declared.names.ObjName.TheVariants.{Auto, Static}
use Rattle.ub_base.specs.declared.names.Event.{Event}
use Rattle.ub_base.specs.declared.names.Item.TheVariants.{Read, Write}
use Rattle.c_types.specs.declared.kind.IntKind.TheVariants as kind
use Rattle.c_typed.specs.declared.tree.Conversion.TheVariants as conversion
use Rattle.c_typed.specs.declared.tree.RelOp.TheVariants as relation
use Rattle.c_typed.specs.Order.{place}
use Rattle.exposure.specs.declared.prov.Prov.TheVariants.{Empty}
use Rattle.exposure.specs.declared.prov.Prov.TheVariants as prov
use Rattle.mem_spec.specs.Script.{Give, Raise, left, Take}
use Rattle.mem_spec.specs.Streams.{silent}
use Rattle.c_model.specs.Program.{Return}
use Rattle.c_model.specs.Values.{Int, Ptr, Fun, Whole, truth, address_in, moved_source}
use Rattle.c_model.specs.Numbering.{frame_number}
use Rattle.c_model.specs.World.{World}
use Rattle.c_model.specs.Nodes as nodes
use Rattle.c_model.specs.Steps.{Scene, quiet_value, moved_place}
use Rattle.c_model.specs.Runs.{Raises, Ends, nothing_stands}
use Rattle.c_model.specs.Findings.{Meets}
use Rattle.c_model.specs.FirstFinding.{Raced, first_finding}
use Rattle.model_samples.specs.Build.{int_type, returning, int, x, get, add, increment, call, function, main_function, Sample, sample, world_of, returns}
use Rattle.model_samples.specs.Accesses.{null, plain_function}

-- int main(void){return 0;}
abbrev pub plain : World
plain = world_of (returns (int 0))

abbrev pub scene : Scene
scene = record { path = []; home = []; turn = 1; blocks = [] }

abbrev pub event : Event
event = record { frame = record { 0 = 0 }; turn = 1; node = 0; kind = Val }

-- (int(*)(void))0 and (int*)0 are null pointers to a function and to an object (6.3.2.3p3)
abbrev pub null_function : Type 0
null_function = quiet_value plain scene (null plain_function) ≡ Fun 0

abbrev pub null_object : Type 0
null_object = quiet_value plain scene (null int_type) ≡ Ptr 0 Empty

-- a pointer to a function is unequal to 0 where its address is (6.5.3.3p5); what is no scalar counts as unequal to 0 (own)
abbrev pub truth_of_function : Type 0
truth_of_function = truth (Fun 0) ∷ truth (Fun 4096) ∷ truth (Whole [] None) ∷ [] ≡ false ∷ true ∷ true ∷ []

-- two addresses are compared whatever they are of (6.5.9p6)
abbrev pub address_of_function : Type 0
address_of_function = address_in (Fun 4112) ∷ address_in (Ptr 4112 Empty) ∷ address_in (Int (pos 4112)) ∷ [] ≡ 4112 ∷ 4112 ∷ 0 ∷ []

-- as an object's address that of a function counts as null (own)
abbrev pub function_as_number : Type 0
function_as_number = nodes.convert event (conversion.Address kind.ULong) (Fun 4112) ≡ Give (Int (pos 0))

-- a relation compares pointers or numbers as it says, not as its operands are: two numbers are pointers into no object (6.5.8p5)
abbrev pub numbers_as_pointers : Type 0
numbers_as_pointers = nodes.relational relation.Less true (Int (pos 1)) (Int (pos 2)) ≡ Raise PointerComparison

-- and two pointers are the number 0 each
abbrev pub pointers_as_numbers : Type 0
pointers_as_numbers =
    nodes.relational relation.Less false (Ptr 16 (prov.Whole (Static 0))) (Ptr 32 (prov.Whole (Static 0))) ≡ Give (Int (pos 0))

-- an address moves up to the last one, 2^64 - 1 (own)
abbrev pub last_address : Type 0
last_address = moved_place plain 8 (Ptr 18446744073709551612 Empty) ≡ Ptr 18446744073709551615 Empty

-- and that from which a structure was loaded modulo 2^64 (own)
abbrev pub source_moves : Type 0
source_moves = moved_source 8 (Some 18446744073709551612) ≡ Some 4

-- past the end of the input the position stands still (7.21.7.6p2): of one byte two takes leave it behind that byte
abbrev pub input_stands_still : Type 0
input_stands_still = (left Take (left Take (nothing_stands plain (97 ∷ [])))).position ≡ 1

-- a world whose frames have twice their numbers
abbrev pub doubled : Sample → World
doubled s = record (world_of s) { number = λ f. 2 * frame_number f }

-- the object of the frame that the call of node 0 in turn 2 of `main` starts, whose number is 7
abbrev pub far_object : ObjName
far_object = Auto (record { 0 = 14 }) 1 0

-- int f(int a){return a+a++;}int main(void){return f(1);}: objects are named by the world's own numbers
abbrev pub other_numbers : Type 0
other_numbers = first_finding (doubled (sample (main_function [] (Return (call 1 (int 1 ∷ [])) ∷ [])
    ∷ function (returning int_type (int_type ∷ [])) (int_type ∷ []) (Return (add (get x) (increment x)) ∷ []) ∷ []) []
    ((far_object, int_type) ∷ []))) 200 [] [] ≡ Raced (record {
      path = (2, 0) ∷ [];
      turn = 2;
      event = place 1 Val;
      line = 1;
      other = place 3 Eff;
      other_line = 1;
      items = Some (Read far_object 0 1, Write far_object 0 1);
    }) 8

-- an order meets only what its own last pick or its own trace shows: one without picks that has ended meets no clause
abbrev pub nothing_met : Type 0
nothing_met = (c : Clause) → Meets plain (Ends 0 silent []) c → ⊥

-- and one whose only pick raised a clause meets just this one
abbrev pub raised_only : Type 0
raised_only = (c : Clause) → Meets plain (Raises DivideByZero []) c → c ≡ DivideByZero
