use Rattle.run_events.proofs.Puts.{put_does, put_keeps}
use Rattle.run_events.proofs.stores.put_at.Goals as goal

pub returns-clause-exact : goal.returns-clause-exact
returns-clause-exact c = λ rows can.
    put_does c.args.machine.now c.args.number c.target_of-found.result.0 c.target_of-found.result.1 c.args.place c.args.value.now c.store.new.m
    c.target_of-found.ensures.store c.target_of-found.ensures.via rows c.store.new.t can c.store.result c.store.ensures.exact c.store.ensures.raises

pub returns-clause-kept : goal.returns-clause-kept
returns-clause-kept c = λ sound tables of.
    put_keeps c.args.machine.now c.args.number c.target_of-found.result.0 c.target_of-found.result.1 c.args.place c.args.value.now c.store.new.m
    c.target_of-found.ensures.store c.target_of-found.ensures.via sound tables of c.store.ensures.kept
