use Rattle.canonical_laws.proofs.Begins.{going_along}
use Rattle.canonical_laws.proofs.law_begins.Goals as goal

pub returns : goal.returns
returns c =
    going_along (record {
      placed = c.law_placed_values.ensures.starts;
      unresulted = c.law_unresulted.ensures.starts;
      arguments = c.law_arguments.ensures.starts;
      held = c.law_held.ensures.starts;
    })
