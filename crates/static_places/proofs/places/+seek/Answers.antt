use Rattle.std.proofs.Common.{◌+◌, drop, map, Err, sym, ap, ◌∙◌, arith}
use Rattle.static_places.specs.Preorder.{joined, nodes_of}
use Rattle.static_places.proofs.Preordered.{and_then, sought-root, sought-below, sought-step}
use Rattle.static_places.proofs.places.+seek.Goals as goal

pub returns-then-node-eq0 : goal.returns-then-node-eq0
returns-then-node-eq0 t c =
    ap (λ z. Err z) c.place_of.ensures ∙ sym (sought-root c.args.p.now c.args.function c.args.tree.now c.args.node c.if-node-eq0.true)

pub loop-operand-init : goal.loop-operand-init
loop-operand-init t c =
    let ne = c.if-node-eq0.false in
    sought-below c.args.p.now c.args.function c.args.tree.now c.args.node c.as_slice-operand-items.result.now (omega (arith, ne))
    c.as_slice-operand-items.ensures

pub returns-in-Err : goal.returns-in-Err
returns-in-Err t c =
    let items = c.as_slice-operand-items.result.now in
    let i = c.loop-operand.operand-index in
    let within = c.loop-operand-test.true in
    let end = c.loop-operand.auto.operand-index-end in
    let rest = joined (map nodes_of (drop (i + 1) items)) in
    ap (λ z. and_then c.args.p.now c.args.function z rest) (sym c.in-Err.is)
    ∙ (sym (sought-step c.args.p.now c.args.function items i c.loop-operand.left c.operand-item.result c.seek.result (omega (arith, within, end))
    c.operand-item.is c.seek.ensures)
    ∙ c.loop-operand.invariant)

pub loop-operand-preserved : goal.loop-operand-preserved
loop-operand-preserved t c =
    let items = c.as_slice-operand-items.result.now in
    let i = c.loop-operand.operand-index in
    let within = c.loop-operand-test.true in
    let end = c.loop-operand.auto.operand-index-end in
    let rest = joined (map nodes_of (drop (i + 1) items)) in
    ap (λ z. and_then c.args.p.now c.args.function z rest) (sym c.in-Ok.is)
    ∙ (sym (sought-step c.args.p.now c.args.function items i c.loop-operand.left c.operand-item.result c.seek.result (omega (arith, within, end))
    c.operand-item.is c.seek.ensures)
    ∙ c.loop-operand.invariant)
