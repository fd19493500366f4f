use Rattle.std.proofs.Common.{◌≡◌, drop}
use Rattle.order_swap.specs.Sets.{in_order}
use Rattle.order_swap.proofs.set.in_order.Given as goal

-- neither of the two stands in front
abbrev pub invariant-loop-place : goal.invariant-loop-place
invariant-loop-place l = in_order (drop l.place-index l.places) l.event l.against ≡ in_order l.places l.event l.against
