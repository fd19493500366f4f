use Rattle.std.proofs.Common.{◌∷◌, sym, ◌∙◌, ap}
use Rattle.c_typed.specs.Order.{has}
use Rattle.seq_order.specs.Marked.{taken_in, done_in}
use Rattle.run_listing.specs.Along.{events_of}
use Rattle.run_listing.proofs.Walked.{pass_on, behind_one}
use Rattle.run_listing.proofs.along.passed.Goals as goal

pub loop-at-preserved : goal.loop-at-preserved
loop-at-preserved c =
    pass_on (done_in c.loop-at.done) (done_in c.add.new.self) (has (events_of (taken_in c.args.taken.now) c.args.entries.now))
    (events_of (taken_in c.args.taken.now) c.loop-at.rest.now) (events_of (taken_in c.args.taken.now) c.behind-rest.result.now) c.in-Some.due.now.place
    (c.in-Some.ensures.1 ∙ ap (λ es. c.in-Some.due.now.place ∷ events_of (taken_in c.args.taken.now) es)
    (sym (behind_one c.loop-at.rest.now c.behind-rest.result.now c.in-Some.at c.behind-rest.ensures)))
    c.in_ok-add.ensures.ok c.loop-at.invariant
