use Rattle.footprint.proofs.LeastLemmas.{first_reaches}
use Rattle.footprint.proofs.shared.with_range.Goals as goal

pub returns-in-Some-clause-more : goal.returns-in-Some-clause-more
returns-in-Some-clause-more c = λ x i r h.
    c.lesser_byte.ensures.own x i (first_reaches c.args.frames.now c.args.many.now.ends.entries c.args.span.object c.args.span.from c.args.span.end
    c.in-Some.at c.in-Some.ensures x i r h)
