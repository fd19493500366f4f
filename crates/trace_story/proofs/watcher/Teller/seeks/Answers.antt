use Rattle.std.proofs.Common.{sym, ap, ◌∙◌}
use Rattle.std.specs.Prelude.{Some}
use Rattle.trace_story.proofs.Sameness.{sought_is}
use Rattle.trace_story.proofs.watcher.Teller.seeks.Goals as goal

pub returns-then-same_sought-clause-sought : goal.returns-then-same_sought-clause-sought
returns-then-same_sought-clause-sought c = λ _.
    c.in-Some.is ∙ ap Some (sought_is c.in-Some.own c.args.sought.now (sym c.same_sought.ensures ∙ c.if-same_sought.true))
