-- What the picks that lead to a pair hold.
use Rattle.std.specs.Prelude.{[], ◌∷◌}
use Rattle.ub_base.specs.declared.clause.Kind.TheVariants.{Val, Eff, Body}
use Rattle.ub_base.specs.declared.names.Item.TheVariants.{Read, Write, Output}
use Rattle.c_types.specs.declared.library.LibFunc.TheVariants as lib
use Rattle.c_typed.specs.Order.{place}
use Rattle.c_model.specs.Program.{Return}
use Rattle.c_model.specs.FirstFinding.{Pair}
use Rattle.c_model.specs.Claims.{RacesIn, QuarrelsIn}
use Rattle.model_samples.specs.Build.{Sample, world_of, int, x, get, add, increment, with_x, pair_of, main_object}
use Rattle.model_samples.specs.Functions.{calling, with_library}

-- int x=1;return x++ + x;
abbrev pub sum : Sample
sum = with_x (int 1) (Return (add (increment x) (get x)) ∷ [])

abbrev pub sum_pair : Pair
sum_pair = pair_of 3 (place 1 Eff) (place 3 Val) (Write (main_object 0) 0 1) (Read (main_object 0) 0 1)

abbrev pub race_held : Type 0
race_held = RacesIn (world_of sum) [] [] sum_pair 9

-- return putchar(97)+putchar(98);
abbrev pub prints : Sample
prints = with_library (lib.Putchar ∷ []) [] [] [] (Return (add (calling 1 (int 97 ∷ [])) (calling 1 (int 98 ∷ []))) ∷ [])

abbrev pub prints_pair : Pair
prints_pair = pair_of 2 (place 1 Body) (place 4 Body) (Output) (Output)

abbrev pub quarrel_held : Type 0
quarrel_held = QuarrelsIn (world_of prints) [] [] prints_pair 6
