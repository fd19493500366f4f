-- Of the items of acts the conflicts that the findings tell are all that the laws of acts ask for.
use Rattle.std.specs.Prelude.{◌≡◌, Bool, true, false, ◌&&◌, List, [], ◌∷◌}
use Rattle.ub_base.specs.declared.names.ObjName.{ObjName}
use Rattle.ub_base.specs.declared.names.Item.{Item}
use Rattle.ub_base.specs.declared.names.Item.TheVariants.{Read, Write, Alive, Ending}
use Rattle.ub_base.specs.Names.{same_object}
use Rattle.addr_map.specs.declared.map.Row.{Row}
use Rattle.mem_laws.specs.Frame.{any_of, bears, interferes, some_interference}
use Rattle.addr_map.specs.Conflict.{some_conflict as conflict}
use Rattle.c_model.specs.Findings.{clash}
use Rattle.machine_laws.specs.ToldConflicts.{bear}

abbrev pub asks : Item → ObjName → Bool
asks (Alive y) x = same_object y x
asks _ x = false

-- an access stands with the question whether its object lives, and nothing ends the run
abbrev pub backed_by : List Item → Item → Bool
backed_by is (Read x a n) = any_of (λ j. asks j x) is
backed_by is (Write x a n) = any_of (λ j. asks j x) is
backed_by is Ending = false
backed_by is _ = true

abbrev pub all_backed : List Item → List Item → Bool
all_backed is [] = true
all_backed is (j ∷ js) = backed_by is j && all_backed is js

abbrev pub backed : List Item → Bool
backed is = all_backed is is

-- two lists of backed items that bear no object twice interfere only where they have a told conflict
abbrev pub ToldIsEnough : Type 0
ToldIsEnough =
    (rows : List Row) (is js : List Item) → backed is ≡ true → backed js ≡ true → ((x : ObjName) → bear bears is x ≡ true → bear bears js x ≡ true → ⊥)
    → conflict rows is js ≡ false → some_interference rows is js ≡ false

-- and what doesn't interfere has no told conflict
abbrev pub InterferenceIsStricter : Type 0
InterferenceIsStricter = (rows : List Row) (i j : Item) → interferes rows i j ≡ false → clash rows i j ≡ false
