use Rattle.std.proofs.Common.{refl, ap, ◌∙◌, length, arith, Err}
use Rattle.ub_base.specs.declared.names.ObjName.TheVariants.{Lit}
use Rattle.prov_memory.proofs.KeepLemmas.{keeps_none, keeps_then}
use Rattle.run_standing.proofs.Starting.{none_stand, one_more_stands}
use Rattle.run_standing.proofs.Stands.{none_created, literals_more, literals_all}
use Rattle.run_standing.proofs.NoPlace.{fault_of, some_literal}
use Rattle.std.proofs.lemmas.Result.{err_from_is_err_and}
use Rattle.run_standing.proofs.initial.create_literals.Goals as goal

pub loop-literal-init : goal.loop-literal-init
loop-literal-init c = record {
  keeps = keeps_none c.args.m.now;
  rest = refl;
  placed = λ none few. none_stand c.args.m.now (λ k. Lit k) c.args.places.now.literals none;
  created = λ sound none few. none_created c.args.m.now;
}

pub loop-literal-preserved : goal.loop-literal-preserved
loop-literal-preserved c =
    let inv = c.loop-literal.invariant in
    record {
      keeps = keeps_then c.args.m.now c.loop-literal.m c.create_text.new.m inv.keeps c.create_text.ensures.kept;
      rest = inv.rest;
      placed = λ none few.
          let are = inv.placed none few in
          one_more_stands c.loop-literal.m c.create_text.new.m (λ k. Lit k) c.loop-literal.places.literals c.add.new.addresses c.loop-literal.literal-index
          c.count_of.result c.in_ok-addr.addr c.create_text.ensures.kept are (c.count_of.ensures (omega (arith, are.count, few, c.loop-literal-test.true)))
          c.in_ok-addr.ensures.stands c.in_ok-add.ensures;
      created = λ sound none few.
          let are = inv.placed none few in
          let number = c.count_of.ensures (omega (arith, are.count, few, c.loop-literal-test.true)) in
          literals_more c.args.m.now c.loop-literal.m c.create_text.new.m c.as_slice-literal-items.result.now c.loop-literal.literal-index c.count_of.result
          _ c.literal-item.result c.create_text.ensures.kept (inv.created sound none few) (number ∙ are.count) c.len.ensures c.loop-literal-test.true
          c.literal-item.is (c.in_ok-addr.ensures.exact (inv.keeps.sound sound).known);
    }

pub returns-in_err-addr-clause-kept : goal.returns-in_err-addr-clause-kept
returns-in_err-addr-clause-kept c = keeps_then c.args.m.now c.loop-literal.m c.create_text.new.m c.loop-literal.invariant.keeps c.create_text.ensures.kept

pub returns-in_err-add-clause-kept : goal.returns-in_err-add-clause-kept
returns-in_err-add-clause-kept c = keeps_then c.args.m.now c.loop-literal.m c.create_text.new.m c.loop-literal.invariant.keeps c.create_text.ensures.kept

pub returns-clause-exact : goal.returns-clause-exact
returns-clause-exact c = λ sound none few.
    literals_all c.args.m.now c.loop-literal.m c.as_slice-literal-items.result.now c.args.p.now.literals c.loop-literal.literal-index (omega arith)
    c.as_slice-literal-items.ensures
    (c.loop-literal.invariant.created sound none (omega (arith, few, ap length c.as_slice-literal-items.ensures)))

pub returns-in_err-addr-clause-unplaced : goal.returns-in_err-addr-clause-unplaced
returns-in_err-addr-clause-unplaced c = λ e sound none few.
    let are = c.loop-literal.invariant.placed none (omega (arith, few, ap length c.as_slice-literal-items.ensures)) in
    let number = c.count_of.ensures (omega (arith, are.count, few, c.loop-literal-test.true, ap length c.as_slice-literal-items.ensures)) in
    let p = err_from_is_err_and c.from_residual.result c.from_residual.ensures.1 in
    let fault = ap Err (fault_of _ p.0 _ p.1 p.2 e) in
    some_literal c.args.m.now c.loop-literal.m c.create_text.new.m c.as_slice-literal-items.result.now c.args.p.now.literals c.loop-literal.literal-index
    c.count_of.result _
    c.literal-item.result (number ∙ are.count) c.as_slice-literal-items.ensures c.loop-literal-test.true c.literal-item.is c.len.ensures
    (c.loop-literal.invariant.created sound none (omega (arith, few, ap length c.as_slice-literal-items.ensures)))
    (c.in_err-addr.ensures.same fault) (c.in_err-addr.ensures.unplaced fault)
