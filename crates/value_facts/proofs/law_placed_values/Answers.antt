use Rattle.value_facts.proofs.Placed.{arguments_fit, canonical_placed, orders_placed, rows_are_apart, starts_placed, steps_placed}
use Rattle.value_facts.proofs.law_placed_values.Goals as goal

pub returns : goal.returns
returns c = record {
  rows = rows_are_apart;
  starts = starts_placed;
  keeps = steps_placed;
  orders = orders_placed;
  canonical = canonical_placed;
  arguments = arguments_fit;
}
