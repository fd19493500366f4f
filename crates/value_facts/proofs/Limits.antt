-- No limit is passed in a state of a run.
use Rattle.value_facts.specs.Limits.{CanonicalWithin, OrdersWithin, PassesNoLimit, StartsWithin, StepsWithin}
use Rattle.value_facts.proofs.Steps.{canonical_keeps, has_gone, has_started, orders_keep}

pub starts_within : StartsWithin
starts_within world input vs st q = (has_started world input vs st q).limits

pub steps_within : StepsWithin
steps_within world st after p q = (has_gone world st p after q).limits

pub orders_within : OrdersWithin
orders_within world = orders_keep world (PassesNoLimit world) (λ st after p h q. steps_within world st after p q)

pub canonical_within : CanonicalWithin
canonical_within world = canonical_keeps world (PassesNoLimit world) (λ st after p h q. steps_within world st after p q)
