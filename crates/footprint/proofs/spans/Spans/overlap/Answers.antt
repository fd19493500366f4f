use Rattle.std.proofs.Common.{◌≡◌, ◌∙◌, sym, false}
use Rattle.footprint.specs.Ranges.{has_byte}
use Rattle.footprint.proofs.SpanBytes.{none_at_all, next_too_far, next_is_first}
use Rattle.footprint.proofs.spans.Spans.overlap.Goals as goal

pub returns-in_default : goal.returns-in_default
returns-in_default c =
    let absent : has_byte c.args.self.now.ends.entries c.args.span.object c.args.span.from ≡ false = sym c.has.ensures.has ∙ c.if-has.false in
    none_at_all c.args.self.now.ends c.args.span.object c.args.span.from c.args.span.end c.has.ensures.ordered absent c.in_default.ensures

pub returns-then-next-span : goal.returns-then-next-span
returns-then-next-span c =
    let absent : has_byte c.args.self.now.ends.entries c.args.span.object c.args.span.from ≡ false = sym c.has.ensures.has ∙ c.if-has.false in
    next_is_first c.args.self.now.ends c.args.span.object c.args.span.from c.args.span.end c.in-Some.next c.has.ensures.ordered c.args.self.now.separate
    absent c.in-Some.ensures c.if-next-span.true

pub returns-else-next-span : goal.returns-else-next-span
returns-else-next-span c =
    let absent : has_byte c.args.self.now.ends.entries c.args.span.object c.args.span.from ≡ false = sym c.has.ensures.has ∙ c.if-has.false in
    next_too_far c.args.self.now.ends c.args.span.object c.args.span.from c.args.span.end c.in-Some.next c.has.ensures.ordered absent c.in-Some.ensures
    c.if-next-span.false
