use Rattle.value_facts.proofs.Limits.{starts_within, steps_within, orders_within, canonical_within}
use Rattle.value_facts.proofs.law_within.Goals as goal

pub returns : goal.returns
returns c = record { starts = starts_within; keeps = steps_within; orders = orders_within; canonical = canonical_within }
