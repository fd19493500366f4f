use Rattle.frame_laws.proofs.ReachedKeeps.{starts_reached, steps_reached, orders_reached, canonical_reached}
use Rattle.frame_laws.proofs.law_reached.Goals as goal

pub returns : goal.returns
returns c = record {
  starts = starts_reached;
  keeps = steps_reached c.law_permitted_decided.ensures;
  orders = orders_reached c.law_permitted_decided.ensures;
  canonical = canonical_reached;
}
