use Rattle.std.proofs.Common.{refl, ap, ◌∙◌, length, arith, Err}
use Rattle.ub_base.specs.declared.names.ObjName.TheVariants.{Static}
use Rattle.prov_memory.proofs.KeepLemmas.{keeps_none, keeps_then}
use Rattle.run_standing.proofs.Starting.{none_stand, one_more_stands}
use Rattle.run_standing.proofs.Stands.{none_static, statics_more, statics_all}
use Rattle.run_standing.proofs.NoPlace.{fault_of, some_static}
use Rattle.std.proofs.lemmas.Result.{err_from_is_err_and}
use Rattle.run_standing.proofs.initial.create_statics.Goals as goal

pub loop-object-init : goal.loop-object-init
loop-object-init c = record {
  keeps = keeps_none c.args.m.now;
  rest = refl;
  placed = λ none few. none_stand c.args.m.now (λ k. Static k) c.args.places.now.objects none;
  created = λ sound none few. none_static c.args.m.now c.args.p.now.tags c.as_slice-object-items.result.now;
}

pub loop-object-preserved : goal.loop-object-preserved
loop-object-preserved c =
    let inv = c.loop-object.invariant in
    record {
      keeps = keeps_then c.args.m.now c.loop-object.m c.create_static.new.m inv.keeps c.create_static.ensures.kept;
      rest = inv.rest;
      placed = λ none few.
          let are = inv.placed none few in
          one_more_stands c.loop-object.m c.create_static.new.m (λ k. Static k) c.loop-object.places.objects c.add.new.addresses c.loop-object.object-index
          c.count_of.result c.in_ok-addr.addr c.create_static.ensures.kept are (c.count_of.ensures (omega (arith, are.count, few, c.loop-object-test.true)))
          c.in_ok-addr.ensures.stands c.in_ok-add.ensures;
      created = λ sound none few.
          let are = inv.placed none few in
          let number = c.count_of.ensures (omega (arith, are.count, few, c.loop-object-test.true)) in
          statics_more c.args.m.now c.loop-object.m c.create_static.new.m c.args.p.now.tags c.as_slice-object-items.result.now c.loop-object.object-index
          c.count_of.result c.object-item.result c.create_static.ensures.kept (inv.created sound none few) (number ∙ are.count) c.loop-object-test.true
          c.object-item.is (c.in_ok-addr.ensures.exact (inv.keeps.sound sound).known);
    }

pub returns-in_err-addr-clause-kept : goal.returns-in_err-addr-clause-kept
returns-in_err-addr-clause-kept c = keeps_then c.args.m.now c.loop-object.m c.create_static.new.m c.loop-object.invariant.keeps c.create_static.ensures.kept

pub returns-in_err-add-clause-kept : goal.returns-in_err-add-clause-kept
returns-in_err-add-clause-kept c = keeps_then c.args.m.now c.loop-object.m c.create_static.new.m c.loop-object.invariant.keeps c.create_static.ensures.kept

pub returns-clause-exact : goal.returns-clause-exact
returns-clause-exact c = λ sound none few.
    statics_all c.args.m.now c.loop-object.m c.args.p.now.tags c.as_slice-object-items.result.now c.args.p.now.statics c.loop-object.object-index
    (omega arith) c.as_slice-object-items.ensures
    (c.loop-object.invariant.created sound none (omega (arith, few, ap length c.as_slice-object-items.ensures)))

pub returns-in_err-addr-clause-unplaced : goal.returns-in_err-addr-clause-unplaced
returns-in_err-addr-clause-unplaced c = λ e sound none few.
    let are = c.loop-object.invariant.placed none (omega (arith, few, ap length c.as_slice-object-items.ensures)) in
    let number = c.count_of.ensures (omega (arith, are.count, few, c.loop-object-test.true, ap length c.as_slice-object-items.ensures)) in
    let p = err_from_is_err_and c.from_residual.result c.from_residual.ensures.1 in
    let fault = ap Err (fault_of _ p.0 _ p.1 p.2 e) in
    some_static c.args.m.now c.loop-object.m c.create_static.new.m c.args.p.now.tags c.as_slice-object-items.result.now c.args.p.now.statics
    c.loop-object.object-index c.count_of.result
    c.object-item.result (number ∙ are.count) c.as_slice-object-items.ensures c.loop-object-test.true c.object-item.is
    (c.loop-object.invariant.created sound none (omega (arith, few, ap length c.as_slice-object-items.ensures)))
    (c.in_err-addr.ensures.same fault) (c.in_err-addr.ensures.unplaced fault)
