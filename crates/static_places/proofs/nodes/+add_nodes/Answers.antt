use Rattle.std.proofs.Common.{refl}
use Rattle.static_places.proofs.Preordered.{begun, counted}
use Rattle.static_places.proofs.nodes.+add_nodes.Goals as goal

pub loop-operand-init : goal.loop-operand-init
loop-operand-init t c = record {
  nodes =
      begun c.args.tree.now c.as_slice-operand-items.result.now c.args.nodes.now.items c.push.new.self.items c.args.tree c.as_slice-operand-items.ensures
      c.in_ok-push.ensures.items refl;
  count = counted c.args.tree.now c.as_slice-operand-items.result.now c.args.nodes.now.items c.push.new.self.items c.args.tree
      c.as_slice-operand-items.ensures c.in_ok-push.ensures.items;
}
