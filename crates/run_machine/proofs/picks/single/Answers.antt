use Rattle.std.proofs.Common.{rules, ◌≡◌, sym, Err, subst}
use Rattle.std.specs.Option.{IfSome}
use Rattle.run_answers.specs.Straying.{Reaches, TakesFrom, TakesSo}
use Rattle.run_machine.proofs.Named.{promised_of, taken_from, taken_or_wanted}
use Rattle.run_machine.proofs.picks.single.Goals as goal

pub returns-in_err-take_event-in-Some-clause-does :
    goal.returns-in_err-take_event-in-Some-clause-does
returns-in_err-take_event-in-Some-clause-does c =
    let m = c.args.machine.now in
    let d = c.in-Some.due.now in
    let same : c.from_residual-in_err-take_event-in-Some.result ≡ Err c.in_err-take_event-in-Some.field-0.0 = search rules in
    subst (TakesSo m c.args.place c.take_event.new.machine) (sym same)
    (taken_or_wanted m c.args.place c.take_event.new.machine c.in_err-take_event-in-Some.field-0.0
    (subst (TakesFrom m c.args.place c.take_event.new.machine) (c.in_err-take_event-in-Some.was)
    (taken_from c.law_straying.ensures m c.permitted.new.machine c.take_event.new.machine d c.args.place c.take_event.result
    (subst (λ o. IfSome o (λ due. due.now.place ≡ c.args.place)) c.in-Some.is c.in_ok-due.ensures.place)
    (promised_of d c.permitted.new.machine c.take_event.new.machine c.clear.new.self c.take_event.result c.clear.ensures c.take_event.ensures.answers
    c.take_event.ensures.bodies c.take_event.ensures.calls c.take_event.ensures.libraries c.take_event.ensures.raised)
    (subst (λ o. IfSome o (λ due. Reaches m due.now c.permitted.new.machine)) c.in-Some.is c.in_ok-due.ensures.reaches))))

pub returns-in_ok-take_event-in-Some-clause-does :
    goal.returns-in_ok-take_event-in-Some-clause-does
returns-in_ok-take_event-in-Some-clause-does c =
    let m = c.args.machine.now in
    let d = c.in-Some.due.now in
    subst (TakesFrom m c.args.place c.take_event.new.machine) (c.in_ok-take_event-in-Some.was)
    (taken_from c.law_straying.ensures m c.permitted.new.machine c.take_event.new.machine d c.args.place c.take_event.result
    (subst (λ o. IfSome o (λ due. due.now.place ≡ c.args.place)) c.in-Some.is c.in_ok-due.ensures.place)
    (promised_of d c.permitted.new.machine c.take_event.new.machine c.clear.new.self c.take_event.result c.clear.ensures c.take_event.ensures.answers
    c.take_event.ensures.bodies c.take_event.ensures.calls c.take_event.ensures.libraries c.take_event.ensures.raised)
    (subst (λ o. IfSome o (λ due. Reaches m due.now c.permitted.new.machine)) c.in-Some.is c.in_ok-due.ensures.reaches))
