use Rattle.std.proofs.Common.{◌+◌, sym, ap, subst, ◌∙◌, arith}
use Rattle.static_places.specs.Preorder.{trees_at}
use Rattle.seq_order.specs.Marked.{taken_in}
use Rattle.static_seq.proofs.Sparing.{SparedTo, begun, noted, passed, all_noted, nothing_noted}
use Rattle.static_seq.proofs.Steps.{length-trees, slice_trees}
use Rattle.static_seq.proofs.choices.spared.Goals as goal
use Rattle.static_seq.proofs.choices.spared.Goals.{in-Some+in_ok-set, in_default}

pub loop-node-init : goal.loop-node-init
loop-node-init c = λ h.
    begun (trees_at c.args.nodes.now) c.args.u c.args.v (taken_in c.new-taken.result) (λ k. ap (λ z. taken_in z k) c.new-taken.ensures ∙ nothing_noted k)

pub loop-node-preserved : goal.loop-node-preserved
loop-node-preserved c = λ h.
    let all = trees_at c.args.nodes.now in
    let s = c.loop-node.invariant h in
    let m = s.numbered in
    let within = c.loop-node-test.true in
    let i = c.loop-node.node-index in
    let there = slice_trees c.args.nodes.now i c.node-item.result within c.node-item.is in
    elim c.match-spared_at.branch [
      | in-Some+in_ok-set w ↦
          subst (λ z. SparedTo all c.args.u c.args.v (taken_in z) c.saturating_add-number.result (i + 1)) (sym w.taken-is)
          (noted all c.args.u c.args.v (taken_in c.loop-node.taken) (taken_in w.set.new.self) c.loop-node.number i c.saturating_add-number.result
          w.in-Some.operand c.node-item.result.now (omega (arith, h, m, within)) s there (sym c.spared_at.ensures ∙ w.in-Some.is)
          c.saturating_add-number.ensures w.in_ok-set.ensures.ok)
      | in_default w ↦
          subst (λ z. SparedTo all c.args.u c.args.v (taken_in z) c.saturating_add-number.result (i + 1)) (sym w.taken-is)
          (passed all c.args.u c.args.v (taken_in c.loop-node.taken) c.loop-node.number i c.saturating_add-number.result c.node-item.result.now
          (omega (arith, h, m, within)) s there (sym c.spared_at.ensures ∙ w.in_default.is) c.saturating_add-number.ensures)
    ]

pub returns : goal.returns
returns c = λ h.
    let l = length-trees c.args.nodes.now in
    let end = c.loop-node-test.false in
    all_noted (trees_at c.args.nodes.now) c.args.u c.args.v (taken_in c.loop-node.taken) c.loop-node.number c.loop-node.node-index (omega (arith, l, end))
    (c.loop-node.invariant h)
