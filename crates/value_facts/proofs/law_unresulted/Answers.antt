use Rattle.value_facts.proofs.Unresulted.{open_has_none, busy_has_none, starts_unresulted, steps_unresulted, orders_unresulted, canonical_unresulted}
use Rattle.value_facts.proofs.law_unresulted.Goals as goal

pub returns : goal.returns
returns c = record {
  while_open = open_has_none;
  busy = busy_has_none;
  starts = starts_unresulted;
  keeps = steps_unresulted;
  orders = orders_unresulted;
  canonical = canonical_unresulted;
}
