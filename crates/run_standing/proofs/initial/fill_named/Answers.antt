use Rattle.run_standing.proofs.Begins.{named_all_filled}
use Rattle.run_standing.proofs.Vectors.{ok_then}
use Rattle.std.proofs.lemmas.Result.{err_from_is_err_and}
use Rattle.run_standing.specs.Standing.{literals}
use Rattle.run_standing.proofs.Ready.{filled_then, refused_then, wait_first, wait_second, wait_still}
use Rattle.run_values.proofs.Placed.{placed_still}
use Rattle.run_standing.proofs.initial.fill_named.Goals as goal

pub returns-clause-exact : goal.returns-clause-exact
returns-clause-exact c =
    ok_then c.fill_literals.result _ _ (λ texts sound lawful placed.
    named_all_filled c.args.m.now c.fill_statics.new.m c.fill_literals.new.m c.args.p.now c.args.places.now
    (c.fill_statics.ensures.kept sound lawful placed) c.fill_literals.ensures.kept lawful placed
    (c.in_ok-fill_statics.ensures.exact sound lawful placed) texts) c.fill_literals.ensures.exact

pub returns-in_err-fill_statics-clause-room : goal.returns-in_err-fill_statics-clause-room
returns-in_err-fill_statics-clause-room c = λ sound lawful placed above os are wait.
    let p = err_from_is_err_and c.from_residual.result c.from_residual.ensures.1 in
    refused_then c.args.m.now c.args.m.now c.fill_statics.new.m _ p.0 c.in_err-fill_statics.field-0.0 p.1 p.2
    (c.in_err-fill_statics.ensures.room sound lawful placed above os are (wait_first c.args.m.now os (literals 0 c.args.p.now.literals) wait))

pub returns-clause-room : goal.returns-clause-room
returns-clause-room c = λ sound lawful placed above os are wait.
    let m0 = c.args.m.now in
    let texts = literals 0 c.args.p.now.literals in
    let keeps = c.fill_statics.ensures.kept sound lawful placed in
    let lives = c.in_ok-fill_statics.ensures.room sound lawful placed above os are (wait_first m0 os texts wait) in
    filled_then m0 c.fill_statics.new.m c.fill_literals.new.m _ lives
    (c.fill_literals.ensures.room (placed_still m0 c.fill_statics.new.m c.args.p.now c.args.places.now keeps placed).literals lawful.numbered.literals
    (keeps.high above) (wait_still m0 c.fill_statics.new.m texts keeps lives (wait_second m0 os texts wait)))
