use Rattle.std.proofs.Common.{◌∙◌, sym, ap, subst, Option, is_lt}
use Rattle.footprint.specs.declared.span.Byte.{Byte}
use Rattle.footprint.specs.Least.{Reaches}
use Rattle.footprint.proofs.LeastLemmas.{kept_reach, own_reach}
use Rattle.footprint.proofs.shared.lesser_byte.Goals as goal

pub returns-then-is_lt-clause-kept : goal.returns-then-is_lt-clause-kept
returns-then-is_lt-clause-kept c = λ x i h.
    kept_reach c.args.frames.now c.args.byte c.in-Some.old x i (sym (c.is_lt.ensures ∙ ap is_lt c.by_byte.ensures) ∙ c.if-is_lt.true)
    (subst (λ (o : Option Byte). Reaches c.args.frames.now o x i) c.in-Some.is h)

pub returns-else-is_lt-clause-own : goal.returns-else-is_lt-clause-own
returns-else-is_lt-clause-own c = λ x i h.
    own_reach c.args.frames.now c.args.byte c.in-Some.old x i (sym (c.is_lt.ensures ∙ ap is_lt c.by_byte.ensures) ∙ c.if-is_lt.false) h
