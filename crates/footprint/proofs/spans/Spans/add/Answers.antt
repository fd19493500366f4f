use Rattle.footprint.proofs.SpanBytes.{joined_bytes, joined_separate, none_added, all_there, separate_same, either_way}
use Rattle.footprint.proofs.spans.Spans.add.Goals as goal

pub returns-then-span-clause-added : goal.returns-then-span-clause-added
returns-then-span-clause-added c = none_added c.args.self.now.ends.entries c.args.span.object c.args.span.from c.args.span.end c.if-span.true

pub returns-then-has_all-clause-added : goal.returns-then-has_all-clause-added
returns-then-has_all-clause-added c = all_there c.args.self.now.ends.entries c.args.span.object c.args.span.from c.args.span.end
    (c.has_all.ensures c.if-has_all.true)

pub invariant_of-self : goal.invariant_of-self
invariant_of-self c = record {
  separate = either_way c.replace.result _ _ c.replace.ensures.joined c.replace.ensures.err
      (λ j. joined_separate c.args.self.now.ends c.replace.new.ends c.args.span.object c.joined_start.result c.joined_end.result j c.args.span.from
      c.args.span.end c.if-span.false c.joined_start.ensures c.joined_end.ensures c.joined_end.type_inv c.args.self.now.separate)
      (λ e. separate_same c.args.self.now.ends c.replace.new.ends e c.args.self.now.separate);
}

pub returns-clause-added : goal.returns-clause-added
returns-clause-added c = joined_bytes c.args.self.now.ends c.replace.new.ends c.args.span.object c.joined_start.result c.joined_end.result
    c.in_ok-replace.ensures.joined c.args.span.from c.args.span.end c.if-span.false c.joined_start.ensures c.joined_end.ensures c.replace.ensures.was_ordered
    c.replace.ensures.ordered
