use Rattle.std.proofs.Common.{ap, length, arith}
use Rattle.prov_memory.proofs.KeepLemmas.{keeps_none, keeps_then}
use Rattle.run_standing.proofs.Filled.{none_filled, literals_filled, literals_all_filled, are_of}
use Rattle.std.proofs.lemmas.Result.{err_from_is_err_and}
use Rattle.run_standing.proofs.Ready.{lives_same, lives_then, refused_then}
use Rattle.run_standing.proofs.Rooms.{literal_room}
use Rattle.run_standing.proofs.initial.fill_literals.Goals as goal

pub loop-number-init : goal.loop-number-init
loop-number-init c = record {
  keeps = keeps_none c.args.m.now;
  filled = λ are few. none_filled c.args.m.now;
  live = λ are few above wait. lives_same c.args.m.now;
}

pub loop-number-preserved : goal.loop-number-preserved
loop-number-preserved c =
    let inv = c.loop-number.invariant in
    record {
      keeps = keeps_then c.args.m.now c.loop-number.m c.fill_text.new.m inv.keeps c.fill_text.ensures.kept;
      filled = λ are few.
          let number = c.short-number.ensures (omega (arith, few, c.loop-number-test.true)) in
          literals_filled c.args.m.now c.loop-number.m c.fill_text.new.m c.as_slice-literal-items.result.now c.args.places.now.literals
          c.loop-number.number c.short-number.result c.literal-item.result c.as_slice.result.now c.literal.result inv.keeps c.fill_text.ensures.kept are
          number c.loop-number-test.true c.literal-item.is c.as_slice.ensures c.literal.ensures c.in_ok-fill_text.ensures.exact (inv.filled are few);
      live = λ are few above wait.
          lives_then c.args.m.now c.loop-number.m c.fill_text.new.m (inv.live are few above wait)
          (literal_room c.args.m.now c.loop-number.m c.as_slice-literal-items.result.now c.args.p.now.literals c.args.places.now.literals c.loop-number.number
          c.short-number.result c.literal-item.result c.as_slice.result.now c.literal.result inv.keeps (inv.live are few above wait) are
          c.as_slice-literal-items.ensures (c.short-number.ensures (omega (arith, few, c.loop-number-test.true, ap length c.as_slice-literal-items.ensures)))
          c.loop-number-test.true c.literal-item.is c.as_slice.ensures c.literal.ensures above wait c.in_ok-fill_text.ensures.room);
    }

pub returns-clause-exact : goal.returns-clause-exact
returns-clause-exact c = λ are few.
    let same = c.as_slice-literal-items.ensures in
    literals_all_filled c.args.m.now c.loop-number.m c.as_slice-literal-items.result.now c.args.p.now.literals c.loop-number.number (omega arith) same
    (c.loop-number.invariant.filled (are_of c.args.m.now c.args.places.now.literals c.as_slice-literal-items.result.now c.args.p.now.literals same are)
    (omega (arith, few, ap length same)))

pub returns-clause-kept : goal.returns-clause-kept
returns-clause-kept c = c.loop-number.invariant.keeps

pub returns-in_err-fill_text-clause-kept : goal.returns-in_err-fill_text-clause-kept
returns-in_err-fill_text-clause-kept c =
    keeps_then c.args.m.now c.loop-number.m c.fill_text.new.m c.loop-number.invariant.keeps c.fill_text.ensures.kept

pub returns-in_err-fill_text-clause-room : goal.returns-in_err-fill_text-clause-room
returns-in_err-fill_text-clause-room c = λ are few above wait.
    let inv = c.loop-number.invariant in
    let p = err_from_is_err_and c.from_residual.result c.from_residual.ensures.1 in
    refused_then c.args.m.now c.loop-number.m c.fill_text.new.m _ p.0 c.in_err-fill_text.field-0.0 p.1 p.2
    (literal_room c.args.m.now c.loop-number.m c.as_slice-literal-items.result.now c.args.p.now.literals c.args.places.now.literals c.loop-number.number
    c.short-number.result c.literal-item.result c.as_slice.result.now c.literal.result inv.keeps (inv.live are few above wait) are
    c.as_slice-literal-items.ensures (c.short-number.ensures (omega (arith, few, c.loop-number-test.true, ap length c.as_slice-literal-items.ensures)))
    c.loop-number-test.true c.literal-item.is c.as_slice.ensures c.literal.ensures above wait c.in_err-fill_text.ensures.room)

pub returns-clause-room : goal.returns-clause-room
returns-clause-room c = c.loop-number.invariant.live
