-- Which items of two evaluations conflict, said of two operands that have them: kinds of conflict that no canonical order shows first.
use Rattle.std.specs.Prelude.{◌≡◌, true, List, [], ◌∷◌, None, if◌then◌else◌}
use Rattle.ub_base.specs.declared.clause.Kind.TheVariants.{Val}
use Rattle.ub_base.specs.declared.names.ObjName.{ObjName}
use Rattle.ub_base.specs.declared.names.ObjName.TheVariants.{Static}
use Rattle.ub_base.specs.declared.names.Event.{Event}
use Rattle.ub_base.specs.declared.names.Item.{Item}
use Rattle.ub_base.specs.declared.names.Item.TheVariants.{Read, Born, Dies, Alive, Expose, Narrow, Input, Output, Ending, Any}
use Rattle.c_typed.specs.Order.{place, same_place}
use Rattle.mem_spec.specs.Streams.{silent}
use Rattle.c_model.specs.Program.{tree_of}
use Rattle.c_model.specs.Moments.{Open}
use Rattle.c_model.specs.FirstFinding.{Finding, Clean, Order_dependent, found_in}
use Rattle.model_samples.specs.Build.{add, x, y, get, int, world_of, returns, pair_of}

-- x + y as its last operand has its value, with these items for x and these for y
abbrev pub operands : List Item → List Item → Open
operands is js = record {
  path = [];
  turn = 2;
  tree = tree_of (add (get x) (get y));
  line = λ n. 1;
  taken = λ n. None;
  items = λ u. if same_place u (place 1 Val) then is else (if same_place u (place 3 Val) then js else []);
  shows = λ u v. true;
}

-- what shows there at pick 5, where otherwise the run is clean
abbrev pub beside : Item → Item → Finding
beside i j = found_in (world_of (returns (int 0))) [] (operands (i ∷ []) (j ∷ []) ∷ []) 5 (Clean 0 silent 9)

-- they depend on the order, with these items
abbrev pub conflict : Item → Item → Type 0
conflict i j = beside i j ≡ Order_dependent (pair_of 2 (place 1 Val) (place 3 Val) i j) 5

abbrev pub agree : Item → Item → Type 0
agree i j = beside i j ≡ Clean 0 silent 9

abbrev pub one : ObjName
one = Static 0

abbrev pub other : ObjName
other = Static 1

abbrev pub cast : Event
cast = record { frame = record { 0 = 0 }; turn = 1; node = 0; kind = Val }

abbrev pub later_cast : Event
later_cast = record { frame = record { 0 = 0 }; turn = 2; node = 0; kind = Val }

-- the birth of an object beside its use, its exposure and its death
abbrev pub birth_and_use : Type 0
birth_and_use = conflict (Born one) (Alive one)

abbrev pub birth_and_exposure : Type 0
birth_and_exposure = conflict (Expose one) (Born one)

abbrev pub birth_and_death : Type 0
birth_and_death = conflict (Born one) (Dies one)

abbrev pub two_deaths : Type 0
two_deaths = conflict (Dies one) (Dies one)

-- a death beside an exposure is none: what an address was made from stays so, and finding a dead object by it conflicts with its death
abbrev pub death_and_exposure : Type 0
death_and_exposure = agree (Dies one) (Expose one)

-- other objects have nothing to do with it
abbrev pub birth_of_another : Type 0
birth_of_another = agree (Born one) (Alive other)

abbrev pub deaths_of_two : Type 0
deaths_of_two = agree (Dies one) (Dies other)

-- one ambiguity settled to two objects, to one object twice, and two ambiguities
abbrev pub two_settlings : Type 0
two_settlings = conflict (Narrow cast one) (Narrow cast other)

abbrev pub settled_alike : Type 0
settled_alike = agree (Narrow cast one) (Narrow cast one)

abbrev pub settled_apart : Type 0
settled_apart = agree (Narrow cast one) (Narrow later_cast other)

-- an end of the run conflicts with what stands for every event, and with nothing else
abbrev pub end_and_any : Type 0
end_and_any = conflict (Any) (Ending)

abbrev pub end_and_output : Type 0
end_and_output = agree (Ending) (Output)

abbrev pub end_and_read : Type 0
end_and_read = agree (Read one 0 4) (Ending)

abbrev pub two_ends : Type 0
two_ends = agree (Ending) (Ending)

-- reading and writing are two streams (7.21.3)
abbrev pub two_streams : Type 0
two_streams = agree (Input) (Output)
