use Rattle.std.proofs.Common.{◌+◌, drop, map, sym, ap, ◌∙◌, arith}
use Rattle.evaluation_log.specs.Ruled.{joined, lines_of}
use Rattle.evaluation_log.proofs.RuledLemmas.{and_then, sought-root, sought-below, sought-step}
use Rattle.evaluation_log.proofs.trees.+seek_line.Goals as goal

pub returns-then-node-eq0 : goal.returns-then-node-eq0
returns-then-node-eq0 t c = sym (sought-root c.args.tree.now c.args.node c.if-node-eq0.true)

pub loop-operand-init : goal.loop-operand-init
loop-operand-init t c =
    let ne = c.if-node-eq0.false in
    sought-below c.args.tree.now c.args.node c.as_slice-operand-items.result.now (omega (arith, ne)) c.as_slice-operand-items.ensures

pub returns-in-Ok : goal.returns-in-Ok
returns-in-Ok t c =
    let items = c.as_slice-operand-items.result.now in
    let i = c.loop-operand.operand-index in
    let within = c.loop-operand-test.true in
    let end = c.loop-operand.auto.operand-index-end in
    let rest = joined (map lines_of (drop (i + 1) items)) in
    ap (λ z. and_then z rest) (sym c.in-Ok.is)
    ∙ (sym (sought-step items i c.loop-operand.left c.operand-item.result c.seek_line.result (omega (arith, within, end))
    c.operand-item.is c.seek_line.ensures)
    ∙ c.loop-operand.invariant)

pub loop-operand-preserved : goal.loop-operand-preserved
loop-operand-preserved t c =
    let items = c.as_slice-operand-items.result.now in
    let i = c.loop-operand.operand-index in
    let within = c.loop-operand-test.true in
    let end = c.loop-operand.auto.operand-index-end in
    let rest = joined (map lines_of (drop (i + 1) items)) in
    ap (λ z. and_then z rest) (sym c.in-Err.is)
    ∙ (sym (sought-step items i c.loop-operand.left c.operand-item.result c.seek_line.result (omega (arith, within, end))
    c.operand-item.is c.seek_line.ensures)
    ∙ c.loop-operand.invariant)
