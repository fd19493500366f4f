use Rattle.std.proofs.Common.{◌≡◌, ◌∙◌, sym, ap, pos, List}
use Rattle.std.proofs.lemmas.Result.{err_from_is_err_and}
use Rattle.std.specs.Ordering.{int_cmp}
use Rattle.addr_map.specs.declared.map.Row.{Row}
use Rattle.mem_spec.specs.Acts.{less}
use Rattle.mem_spec.specs.Script.{Done, Raised}
use Rattle.mem_objects.specs.Memory.{store_of}
use Rattle.c_model.specs.Values.{Value}
use Rattle.c_model.specs.Nodes.{bool_value, in_order}
use Rattle.run_acts.specs.Scripts.{holds_in}
use Rattle.run_acts.proofs.Acts.{done_give, raised_give, under, rows_rest}
use Rattle.run_acts.proofs.Moves.{unsigned_order, holds_in_order}
use Rattle.run_values.proofs.Keeping.{seen_number}
use Rattle.run_acts.proofs.pointers.pointers_related.Goals as goal

pub returns-clause-exact : goal.returns-clause-exact
returns-clause-exact c = λ made other io.
    let old = c.args.m.now in
    let new = c.less.new.self in
    let p = c.args.left in
    let q = c.args.right in
    let act = λ (rows : List Row). less p.prov q.prov in
    let v = bool_value (in_order c.args.op (pos p.addr) (pos q.addr)) in
    let order : c.in_ok-order.order ≡ int_cmp (pos p.addr) (pos q.addr) = c.in_ok-order.ensures.value ∙ unsigned_order p.addr q.addr in
    done_give old.rows (less p.prov q.prov) (λ (u : Unit {0}). v) (store_of old io) (store_of new io) tt c.less.new.t
    (under old.rows new.rows act (store_of old io) (Done tt c.less.new.t (store_of new io)) (rows_rest old new c.less.ensures.rest)
    (c.in_ok-order.ensures.exact made other io))
    ∙ ap (λ (w : Value). Done w c.less.new.t (store_of new io))
    (sym (c.flag.ensures new ∙ ap bool_value (c.agrees.ensures ∙ ap (holds_in c.args.op) order ∙ holds_in_order c.args.op (pos p.addr) (pos q.addr))))

pub returns-in_err-order-clause-exact : goal.returns-in_err-order-clause-exact
returns-in_err-order-clause-exact c =
    let e = err_from_is_err_and c.from_residual.result c.from_residual.ensures.1 in
    let old = c.args.m.now in
    let new = c.less.new.self in
    let p = c.args.left in
    let q = c.args.right in
    let act = λ (rows : List Row). less p.prov q.prov in
    let v = bool_value (in_order c.args.op (pos p.addr) (pos q.addr)) in
    rw (e.1, e.2) (λ made other io.
    raised_give old.rows (less p.prov q.prov) (λ (u : Unit {0}). v) (store_of old io) c.in_err-order.field-0.0
    (under old.rows new.rows act (store_of old io) (Raised c.in_err-order.field-0.0) (rows_rest old new c.less.ensures.rest)
    (c.in_err-order.ensures.exact made other io)))

pub returns-clause-made : goal.returns-clause-made
returns-clause-made c = seen_number c.less.new.self c.less.new.self c.flag.result _ (c.flag.ensures c.less.new.self)
