use Rattle.std.proofs.Common.{◌∙◌}
use Rattle.run_code.proofs.Owned.{passes_isolated, passes_other}
use Rattle.run_code.proofs.nodes.+behind_own.Goals as goal
use Rattle.run_code.proofs.nodes.+behind_own.Goals.{in-Isolated+in_ok-number_with-in-Isolated+in_ok-next-in-Isolated, in_default}

pub loop-child-init : goal.loop-child-init
loop-child-init t c = elim c.match-root.branch [
  | in-Isolated+in_ok-number_with-in-Isolated+in_ok-next-in-Isolated w ↦
      passes_isolated c.args.root.now w.get.result.now w.in-Isolated.own c.as_slice-child-items.result.now c.args.first _ c.match-root.next
      c.as_slice-child-items.ensures w.in-Isolated.is w.get.ensures w.in_ok-number_with-in-Isolated.ensures.sum
      (w.next-is ∙ w.in_ok-next-in-Isolated.ensures)
  | in_default w ↦
      passes_other c.args.root.now c.as_slice-child-items.result.now c.args.first c.match-root.next c.as_slice-child-items.ensures
      w.in_default.not-Isolated w.next-is
]
