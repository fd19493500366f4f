-- Events that were taken, as they are recorded.
use Rattle.std.specs.Prelude.{List, [], ◌∷◌}
use Rattle.ub_base.specs.declared.names.Event.{Event}
use Rattle.order_swap.specs.declared.answer.Choice.{Choice}
use Rattle.order_swap.specs.declared.answer.LastEvent.{LastEvent}
use Rattle.order_swap.specs.declared.answer.LastEvent.TheVariants as event
use Rattle.order_swap.specs.declared.answer.LastStep.{LastStep}
use Rattle.order_swap.specs.declared.answer.LastStep.TheVariants as step
use Rattle.order_swap.specs.Turns.{Step}

abbrev pub trail_in : LastEvent → List Event
trail_in event.Nothing = []
trail_in (event.Took e before) = e ∷ before.value

abbrev pub step_of : Choice → Step
step_of c = record { place = c.place; root = c.root.value; choices = c.taken.value }

abbrev pub steps_in : LastStep → List Step
steps_in step.Nothing = []
steps_in (step.Took c before) = step_of c ∷ before.value
