use Rattle.std.proofs.Common.{List, ◌<◌, subst, length, arith}
use Rattle.c_typed.specs.declared.program.Static.{Static as Object}
use Rattle.prov_memory.proofs.KeepLemmas.{keeps_none, keeps_then}
use Rattle.run_values.proofs.Placed.{placed_still}
use Rattle.run_standing.proofs.Starting.{lawful_at}
use Rattle.run_standing.proofs.Statics.{none_static_filled, statics_filled, all_statics_filled}
use Rattle.std.proofs.lemmas.Result.{err_from_is_err_and}
use Rattle.run_standing.proofs.Ready.{lives_same, lives_then, refused_then}
use Rattle.run_standing.proofs.Rooms.{static_room}
use Rattle.run_standing.proofs.initial.fill_statics.Goals as goal

pub loop-number-init : goal.loop-number-init
loop-number-init c = record {
  keeps = λ sound lawful placed. keeps_none c.args.m.now;
  filled = λ sound lawful placed os are. none_static_filled c.args.m.now os;
  live = λ sound lawful placed above os are wait. lives_same c.args.m.now;
}

pub loop-number-preserved : goal.loop-number-preserved
loop-number-preserved c =
    let inv = c.loop-number.invariant in
    record {
      keeps = λ sound lawful placed.
          let so_far = inv.keeps sound lawful placed in
          keeps_then c.args.m.now c.loop-number.m c.fill_static.new.m so_far
          (c.fill_static.ensures.kept (so_far.sound sound) (placed_still c.args.m.now c.loop-number.m c.args.p.now c.args.places.now so_far placed)
          (lawful_at c.args.p.now c.as_slice-object-items.result.now c.loop-number.number c.object-item.result c.as_slice-object-items.ensures lawful
          c.loop-number-test.true c.object-item.is));
      filled = λ sound lawful placed os are.
          let so_far = inv.keeps sound lawful placed in
          let now = so_far.sound sound in
          let there = placed_still c.args.m.now c.loop-number.m c.args.p.now c.args.places.now so_far placed in
          let constants = lawful_at c.args.p.now c.as_slice-object-items.result.now c.loop-number.number c.object-item.result
          c.as_slice-object-items.ensures lawful c.loop-number-test.true c.object-item.is in
          statics_filled c.args.m.now c.loop-number.m c.fill_static.new.m c.args.p.now.tags c.as_slice-object-items.result.now c.loop-number.number
          c.object-item.result os (c.fill_static.ensures.kept now there constants) are c.loop-number-test.true c.object-item.is
          (c.in_ok-fill_static.ensures.exact now there constants
          (subst (λ (xs : List Object). c.loop-number.number < length xs) c.as_slice-object-items.ensures c.loop-number-test.true)
          lawful.numbered.statics) (inv.filled sound lawful placed os are);
      live = λ sound lawful placed above os are wait.
          lives_then c.args.m.now c.loop-number.m c.fill_static.new.m (inv.live sound lawful placed above os are wait)
          (static_room c.args.m.now c.loop-number.m c.args.p.now c.args.places.now c.as_slice-object-items.result.now c.loop-number.number c.object-item.result
          os (inv.keeps sound lawful placed) (inv.live sound lawful placed above os are wait) sound lawful placed above c.as_slice-object-items.ensures
          c.loop-number-test.true c.object-item.is are wait c.in_ok-fill_static.ensures.room);
    }

pub returns-in_err-fill_static-clause-kept : goal.returns-in_err-fill_static-clause-kept
returns-in_err-fill_static-clause-kept c = λ sound lawful placed.
    let so_far = c.loop-number.invariant.keeps sound lawful placed in
    keeps_then c.args.m.now c.loop-number.m c.fill_static.new.m so_far
    (c.fill_static.ensures.kept (so_far.sound sound) (placed_still c.args.m.now c.loop-number.m c.args.p.now c.args.places.now so_far placed)
    (lawful_at c.args.p.now c.as_slice-object-items.result.now c.loop-number.number c.object-item.result c.as_slice-object-items.ensures lawful
    c.loop-number-test.true c.object-item.is))

pub returns-clause-kept : goal.returns-clause-kept
returns-clause-kept c = c.loop-number.invariant.keeps

pub returns-clause-exact : goal.returns-clause-exact
returns-clause-exact c = λ sound lawful placed.
    all_statics_filled c.args.m.now c.loop-number.m c.args.p.now.tags c.as_slice-object-items.result.now c.args.p.now.statics c.loop-number.number
    (omega arith) c.as_slice-object-items.ensures (c.loop-number.invariant.filled sound lawful placed)

pub returns-in_err-fill_static-clause-room : goal.returns-in_err-fill_static-clause-room
returns-in_err-fill_static-clause-room c = λ sound lawful placed above os are wait.
    let inv = c.loop-number.invariant in
    let p = err_from_is_err_and c.from_residual.result c.from_residual.ensures.1 in
    refused_then c.args.m.now c.loop-number.m c.fill_static.new.m _ p.0 c.in_err-fill_static.field-0.0 p.1 p.2
    (static_room c.args.m.now c.loop-number.m c.args.p.now c.args.places.now c.as_slice-object-items.result.now c.loop-number.number c.object-item.result
    os (inv.keeps sound lawful placed) (inv.live sound lawful placed above os are wait) sound lawful placed above c.as_slice-object-items.ensures
    c.loop-number-test.true c.object-item.is are wait c.in_err-fill_static.ensures.room)

pub returns-clause-room : goal.returns-clause-room
returns-clause-room c = c.loop-number.invariant.live
