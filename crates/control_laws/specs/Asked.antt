-- What a control step asks where it enters a block holds in each state of a run of a lawful program (6.5.2.2p4, 6.9.1p10).
use Rattle.addr_map.specs.Sound.{Apart}
use Rattle.c_typed.specs.declared.program.Program.{Program}
use Rattle.c_model.specs.Control.{ready_work}
use Rattle.c_model.specs.Runs.{State}
use Rattle.c_model.specs.World.{World}
use Rattle.value_facts.specs.Held.{HoldsOnly}
use Rattle.value_facts.specs.Sources.{IsPlaced}
use Rattle.argument_laws.specs.Arguments.{HaveArguments}
use Rattle.control_laws.specs.Control.{AsksOfEnter}

-- So it is wherever values stand where they were loaded from and the rows of objects lie apart.
abbrev pub ArgumentsAreAsked : Type 0
ArgumentsAreAsked =
    (world : World) (p : Program) (st : State) → HaveArguments world p st → HoldsOnly (IsPlaced world) st → Apart world.rows
    → AsksOfEnter world p st (ready_work st.top.todo)
