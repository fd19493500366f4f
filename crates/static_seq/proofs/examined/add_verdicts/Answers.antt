use Rattle.std.proofs.Common.{◌++◌}
use Rattle.static_places.specs.Preorder.{trees_at}
use Rattle.static_seq.specs.Verdicts.{verdicts_from}
use Rattle.static_seq.proofs.Steps.{counts_at, said_more}
use Rattle.static_seq.proofs.examined.add_verdicts.Goals as goal

pub loop-root-preserved : goal.loop-root-preserved
loop-root-preserved c = λ all.
    let roots = c.args.roots.now in
    let i = c.loop-root.root-index in
    let within = c.loop-root-test.true in
    let whole = c.args.said.now ++ verdicts_from c.args.p.now c.args.function 0 (trees_at roots) in
    rw c.saturating_add-expression.ensures (said_more c.args.p.now c.args.function c.loop-root.expression roots i c.root-item.result c.loop-root.said
    c.push.new.self whole c.in_ok-verdict.verdict within c.root-item.is (c.in_ok-verdict.ensures (counts_at roots i c.root-item.result within
    c.root-item.is all)) c.in_ok-push.ensures.ok (c.loop-root.invariant all))
