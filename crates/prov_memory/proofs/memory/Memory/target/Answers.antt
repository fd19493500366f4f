use Rattle.std.proofs.Common.{◌≡◌, ◌∙◌, ap, sym, subst, true, false}
use Rattle.std.specs.Prelude.{IfOk}
use Rattle.addr_map.specs.Rows.{row_of}
use Rattle.exposure.specs.declared.prov.Prov.{Prov}
use Rattle.ub_base.specs.declared.clause.Clause.TheVariants.{OutOfBounds}
use Rattle.ub_base.specs.declared.names.ObjName.{ObjName}
use Rattle.mem_spec.specs.Acts.{in_row, object_of}
use Rattle.mem_spec.specs.Script.{Script, Give, Settle, run, touch, ◌>>◌}
use Rattle.mem_objects.specs.Memory.{store_of}
use Rattle.mem_objects.specs.Access.{CanSettleOf}
use Rattle.mem_objects.proofs.AccessLemmas.{found_settled, refused_settled, can_settled, past_holds, start_holds}
use Rattle.prov_memory.proofs.memory.Memory.target.Goals as goal

pub returns-then-has_range-clause-raises : goal.returns-then-has_range-clause-raises
returns-then-has_range-clause-raises c =
    let m = c.args.self.now in
    let here : in_row (row_of m.rows c.in-Either.past) c.args.addr c.args.len ≡ true = sym c.has_range.ensures ∙ c.if-has_range.true in
    let is : object_of m.rows c.args.len c.args.addr c.args.prov ≡ touch (Settle c.in-Either.id c.in-Either.past OutOfBounds) >> Give c.in-Either.past =
    ap (λ (p : Prov). object_of m.rows c.args.len c.args.addr p) c.in-Either.is ∙ past_holds m.rows c.args.len c.args.addr c.in-Either.id
    c.in-Either.past c.in-Either.start here in
    refused_settled m.rows (object_of m.rows c.args.len c.args.addr c.args.prov) m c.in-Either.id c.in-Either.past c.chosen.result c.chosen.ensures
    (λ io. ap (λ (q : Script ObjName). run m.rows q (store_of m io)) is)

pub returns-then-has_range-clause-found : goal.returns-then-has_range-clause-found
returns-then-has_range-clause-found c =
    let m = c.args.self.now in
    let here : in_row (row_of m.rows c.in-Either.past) c.args.addr c.args.len ≡ true = sym c.has_range.ensures ∙ c.if-has_range.true in
    let is : object_of m.rows c.args.len c.args.addr c.args.prov ≡ touch (Settle c.in-Either.id c.in-Either.past OutOfBounds) >> Give c.in-Either.past =
    ap (λ (p : Prov). object_of m.rows c.args.len c.args.addr p) c.in-Either.is ∙ past_holds m.rows c.args.len c.args.addr c.in-Either.id
    c.in-Either.past c.in-Either.start here in
    found_settled m.rows (object_of m.rows c.args.len c.args.addr c.args.prov) m c.in-Either.id c.in-Either.past c.chosen.result c.chosen.ensures
    (λ io. ap (λ (q : Script ObjName). run m.rows q (store_of m io)) is)

pub returns-then-has_range-clause-settles : goal.returns-then-has_range-clause-settles
returns-then-has_range-clause-settles c =
    subst (λ (p : Prov). IfOk c.chosen.result (λ q. CanSettleOf c.args.self.now p q.1)) (sym c.in-Either.is)
    (can_settled c.args.self.now c.in-Either.id c.in-Either.past c.in-Either.start c.in-Either.past c.chosen.result c.chosen.ensures)

pub returns-then-has_range-2-clause-found : goal.returns-then-has_range-2-clause-found
returns-then-has_range-2-clause-found c =
    let m = c.args.self.now in
    let gone : in_row (row_of m.rows c.in-Either.past) c.args.addr c.args.len ≡ false = sym c.has_range.ensures ∙ c.if-has_range.false in
    let here : in_row (row_of m.rows c.in-Either.start) c.args.addr c.args.len ≡ true = sym c.has_range-else-has_range.ensures ∙ c.if-has_range-2.true in
    let is : object_of m.rows c.args.len c.args.addr c.args.prov ≡ touch (Settle c.in-Either.id c.in-Either.start OutOfBounds) >> Give c.in-Either.start =
    ap (λ (p : Prov). object_of m.rows c.args.len c.args.addr p) c.in-Either.is ∙ start_holds m.rows c.args.len c.args.addr c.in-Either.id
    c.in-Either.past c.in-Either.start gone here in
    found_settled m.rows (object_of m.rows c.args.len c.args.addr c.args.prov) m c.in-Either.id c.in-Either.start c.chosen-then-has_range-2.result
    c.chosen-then-has_range-2.ensures (λ io. ap (λ (q : Script ObjName). run m.rows q (store_of m io)) is)

pub returns-then-has_range-2-clause-raises : goal.returns-then-has_range-2-clause-raises
returns-then-has_range-2-clause-raises c =
    let m = c.args.self.now in
    let gone : in_row (row_of m.rows c.in-Either.past) c.args.addr c.args.len ≡ false = sym c.has_range.ensures ∙ c.if-has_range.false in
    let here : in_row (row_of m.rows c.in-Either.start) c.args.addr c.args.len ≡ true = sym c.has_range-else-has_range.ensures ∙ c.if-has_range-2.true in
    let is : object_of m.rows c.args.len c.args.addr c.args.prov ≡ touch (Settle c.in-Either.id c.in-Either.start OutOfBounds) >> Give c.in-Either.start =
    ap (λ (p : Prov). object_of m.rows c.args.len c.args.addr p) c.in-Either.is ∙ start_holds m.rows c.args.len c.args.addr c.in-Either.id
    c.in-Either.past c.in-Either.start gone here in
    refused_settled m.rows (object_of m.rows c.args.len c.args.addr c.args.prov) m c.in-Either.id c.in-Either.start c.chosen-then-has_range-2.result
    c.chosen-then-has_range-2.ensures (λ io. ap (λ (q : Script ObjName). run m.rows q (store_of m io)) is)

pub returns-then-has_range-2-clause-settles : goal.returns-then-has_range-2-clause-settles
returns-then-has_range-2-clause-settles c =
    subst (λ (p : Prov). IfOk c.chosen-then-has_range-2.result (λ q. CanSettleOf c.args.self.now p q.1)) (sym c.in-Either.is)
    (can_settled c.args.self.now c.in-Either.id c.in-Either.past c.in-Either.start c.in-Either.start c.chosen-then-has_range-2.result
    c.chosen-then-has_range-2.ensures)
