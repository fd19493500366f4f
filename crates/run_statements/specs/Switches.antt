-- The `switch` statements in a statement, in the order of the text: each before those in its body (own).
use Rattle.std.specs.Prelude.{◌≡◌, ℕ, List, [], ◌∷◌, ◌++◌, slice_get, Option, Some, None}
use Rattle.std.specs.Borrow.{Bor}
use Rattle.run_control.specs.declared.statement.Statement.{Statement, para-Statement}
use Rattle.run_control.specs.declared.statement.Statement.TheOpen as form
use Rattle.run_control.specs.declared.statement.Statement.TheOpen.{Statement-F, Block-F, Switch-F, Again-F, Round-F}
use Rattle.run_control.specs.declared.statement.Block.{Block}
use Rattle.run_control.specs.declared.statement.Switch.{Switch}
use Rattle.run_control.specs.declared.statement.Again.{Again}
use Rattle.run_control.specs.declared.statement.Round.{Round}

abbrev pub Switches : Type 0
Switches = List Switch

abbrev pub joined : List (Statement × Switches) → Switches
joined [] = []
joined (s ∷ ss) = s.1 ++ joined ss

abbrev pub statement_switches : Statement-F (Statement × Switches) (Again × Switches) (Block × Switches) (Round × Switches) (Switch × Switches) → Switches
statement_switches (form.Block b) = b.1
statement_switches (form.If n s t) = s.1 ++ t.1
statement_switches (form.IfOnly n s) = s.1
statement_switches (form.Switch b) = b.0 ∷ b.1
statement_switches (form.Do b) = b.1
statement_switches (form.For start b) = b.1
statement_switches (form.Label k s) = s.1
statement_switches (form.Case z s) = s.1
statement_switches (form.Default s) = s.1
statement_switches _ = []

abbrev pub again_switches : Again-F (Statement × Switches) (Again × Switches) (Block × Switches) (Round × Switches) (Switch × Switches) → Switches
again_switches b = b.body.1

abbrev pub block_switches : Block-F (Statement × Switches) (Again × Switches) (Block × Switches) (Round × Switches) (Switch × Switches) → Switches
block_switches b = joined b.statements

abbrev pub round_switches : Round-F (Statement × Switches) (Again × Switches) (Block × Switches) (Round × Switches) (Switch × Switches) → Switches
round_switches b = b.body.1

abbrev pub inner_switches : Switch-F (Statement × Switches) (Again × Switches) (Block × Switches) (Round × Switches) (Switch × Switches) → Switches
inner_switches b = b.body.1

abbrev pub switches_in : Statement → Switches
switches_in =
    para-Statement Switches Switches Switches Switches Switches statement_switches again_switches block_switches round_switches inner_switches

-- those in the statements of a block
abbrev pub switches_in_all : List Statement → Switches
switches_in_all [] = []
switches_in_all (s ∷ ss) = switches_in s ++ switches_in_all ss

-- those in the bodies of functions in turn
abbrev pub switches_of_all : List (Option (Bor Statement)) → Switches
switches_of_all [] = []
switches_of_all (None ∷ bs) = switches_of_all bs
switches_of_all (Some b ∷ bs) = switches_in b.now ++ switches_of_all bs

-- this `switch` stands in the statement
abbrev pub StandsIn : Statement → Switch → Type 0
StandsIn s b = (k : ℕ) × (slice_get (switches_in s) k ≡ Some b)
