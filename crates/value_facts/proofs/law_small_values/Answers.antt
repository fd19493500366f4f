use Rattle.value_facts.proofs.Nodes.{small_has_lists}
use Rattle.value_facts.proofs.States.{starts_small, steps_small, orders_small, canonical_small}
use Rattle.value_facts.proofs.law_small_values.Goals as goal

pub returns : goal.returns
returns c = record { lists = small_has_lists; starts = starts_small; keeps = steps_small; orders = orders_small; canonical = canonical_small }
