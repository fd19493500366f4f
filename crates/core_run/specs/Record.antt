-- The calls of a watch, as they are recorded.
use Rattle.std.specs.Prelude.{[], ◌∷◌}
use Rattle.core_run.specs.Calls.{picked, node_done, operands_done, Heard}
use Rattle.core_run.specs.declared.calls.Last.{Last}
use Rattle.core_run.specs.declared.calls.Last.TheVariants.{Nothing, Picked, NodeDone, OperandsDone}

abbrev pub heard_in : Last → Heard
heard_in Nothing = []
heard_in (Picked event items go before) = (picked event items.value, go) ∷ before.value
heard_in (NodeDone frame turn node go before) = (node_done frame turn node, go) ∷ before.value
heard_in (OperandsDone frame turn node go before) = (operands_done frame turn node, go) ∷ before.value
