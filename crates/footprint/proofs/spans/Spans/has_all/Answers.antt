use Rattle.footprint.proofs.SpanBytes.{all_before_by}
use Rattle.footprint.proofs.spans.Spans.has_all.Goals as goal

pub returns-in-Some : goal.returns-in-Some
returns-in-Some c = all_before_by c.args.self.now.ends c.args.span.object c.args.span.from c.args.span.end c.in-Some.found c.in-Some.ensures.last
