use Rattle.std.proofs.Common.{arith}
use Rattle.prov_memory.proofs.KeepLemmas.{keeps_none, keeps_then}
use Rattle.run_standing.proofs.Arguments.{arguments_filled, all_arguments_filled, none_filled_of}
use Rattle.std.proofs.lemmas.Result.{err_from_is_err_and}
use Rattle.run_standing.proofs.Ready.{lives_same, lives_then, refused_then}
use Rattle.run_standing.proofs.Rooms.{argument_room}
use Rattle.run_standing.proofs.initial.fill_arguments.Goals as goal

pub loop-argument-init : goal.loop-argument-init
loop-argument-init c = record {
  keeps = keeps_none c.args.m.now;
  filled = λ words are. none_filled_of c.args.m.now words;
  live = λ above words are wait. lives_same c.args.m.now;
}

pub loop-argument-preserved : goal.loop-argument-preserved
loop-argument-preserved c =
    let inv = c.loop-argument.invariant in
    record {
      keeps = keeps_then c.args.m.now c.loop-argument.m c.fill_text.new.m inv.keeps c.fill_text.ensures.kept;
      filled = λ words are.
          arguments_filled c.args.m.now c.loop-argument.m c.fill_text.new.m words c.args.arguments.now c.loop-argument.argument-index
          c.argument-item.result c.as_slice.result.now inv.keeps c.fill_text.ensures.kept are c.loop-argument-test.true c.argument-item.is
          c.as_slice.ensures c.in_ok-fill_text.ensures.exact (inv.filled words are);
      live = λ above words are wait.
          lives_then c.args.m.now c.loop-argument.m c.fill_text.new.m (inv.live above words are wait)
          (argument_room c.args.m.now c.loop-argument.m words c.args.arguments.now c.loop-argument.argument-index c.argument-item.result c.as_slice.result.now
          inv.keeps (inv.live above words are wait) above are c.loop-argument-test.true c.argument-item.is c.as_slice.ensures wait
          c.in_ok-fill_text.ensures.room);
    }

pub returns-clause-exact : goal.returns-clause-exact
returns-clause-exact c = λ words are.
    all_arguments_filled c.args.m.now c.loop-argument.m words c.args.arguments.now c.loop-argument.argument-index (omega arith) are
    (c.loop-argument.invariant.filled words are)

pub returns-clause-kept : goal.returns-clause-kept
returns-clause-kept c = c.loop-argument.invariant.keeps

pub returns-in_err-fill_text-clause-kept : goal.returns-in_err-fill_text-clause-kept
returns-in_err-fill_text-clause-kept c =
    keeps_then c.args.m.now c.loop-argument.m c.fill_text.new.m c.loop-argument.invariant.keeps c.fill_text.ensures.kept

pub returns-in_err-fill_text-clause-room : goal.returns-in_err-fill_text-clause-room
returns-in_err-fill_text-clause-room c = λ above words are wait.
    let inv = c.loop-argument.invariant in
    let p = err_from_is_err_and c.from_residual.result c.from_residual.ensures.1 in
    refused_then c.args.m.now c.loop-argument.m c.fill_text.new.m _ p.0 c.in_err-fill_text.field-0.0 p.1 p.2
    (argument_room c.args.m.now c.loop-argument.m words c.args.arguments.now c.loop-argument.argument-index c.argument-item.result c.as_slice.result.now
    inv.keeps (inv.live above words are wait) above are c.loop-argument-test.true c.argument-item.is c.as_slice.ensures wait c.in_err-fill_text.ensures.room)

pub returns-clause-room : goal.returns-clause-room
returns-clause-room c = c.loop-argument.invariant.live
