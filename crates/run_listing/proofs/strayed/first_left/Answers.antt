use Rattle.std.proofs.Common.{not, ap, sym, ◌∙◌}
use Rattle.seq_order.specs.Marked.{taken_in, done_in}
use Rattle.seq_order.specs.Walks.{is_left}
use Rattle.run_listing.proofs.Seeking.{seeks_on}
use Rattle.run_listing.proofs.strayed.first_left.Goals as goal

pub loop-at-preserved : goal.loop-at-preserved
loop-at-preserved c =
    seeks_on (Unit {0}) (is_left (done_in c.args.done.now)) (taken_in c.args.taken.now) c.args.entries.now c.loop-at.rest.now c.behind-rest.result.now
    c.in-Some.at c.in-Some.due c.in-Some.ensures (λ u. ap not (sym c.has.ensures ∙ c.if-not-has.false)) c.behind-rest.ensures c.loop-at.invariant
