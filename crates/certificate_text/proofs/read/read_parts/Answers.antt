-- A refusal of the map or of the order is that of the parts, once those before are there.
use Rattle.std.proofs.lemmas.Result.{err_from_is_err_and}
use Rattle.serde_json.specs.View.{view}
use Rattle.certificate_text.proofs.Answered.{map_refused, order_refused}
use Rattle.certificate_text.proofs.read.read_parts.Goals as goal

pub returns-in_err-map : goal.returns-in_err-map
returns-in_err-map c =
    let p = err_from_is_err_and c.from_residual-in_err-map.result c.from_residual-in_err-map.ensures.1 in
    rw (p.1, p.2)
    (map_refused c.args.version c.args.verdict (view c.args.value.now) _ c.len-count.result c.in_err-map.field-0.0
    c.in_ok-frames.ensures c.len-count.ensures.count c.in_err-map.ensures)

pub returns-in_err-order : goal.returns-in_err-order
returns-in_err-order c =
    let p = err_from_is_err_and c.from_residual-in_err-order.result c.from_residual-in_err-order.ensures.1 in
    rw (p.1, p.2)
    (order_refused c.args.version c.args.verdict (view c.args.value.now) _ _ c.len-count.result c.in_err-order.field-0.0
    c.in_ok-frames.ensures c.len-count.ensures.count c.in_ok-map.ensures c.in_err-order.ensures)
