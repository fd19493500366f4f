use Rattle.std.proofs.Common.{sym}
use Rattle.footprint.proofs.SpanBytes.{has_last, has_none}
use Rattle.footprint.proofs.spans.Spans.has.Goals as goal

pub returns-in-Some-clause-has : goal.returns-in-Some-clause-has
returns-in-Some-clause-has c = sym (has_last c.args.self.now.ends c.args.object c.args.byte c.in-Some.found c.last_up_to.ensures.ordered
    c.args.self.now.separate c.in-Some.ensures.last)

pub returns-in-None-clause-has : goal.returns-in-None-clause-has
returns-in-None-clause-has c = sym (has_none c.args.self.now.ends c.args.object c.args.byte c.last_up_to.ensures.ordered c.in-None.ensures.last)
