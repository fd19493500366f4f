use Rattle.std.proofs.Common.{ap, sym, subst, ◌∙◌}
use Rattle.core_ir.specs.Term.{terms_from}
use Rattle.core_ir.specs.Faithful.{AreFaithful}
use Rattle.elaborate.specs.Expressions.{program_trees}
use Rattle.elaborate.proofs.Capped.{each_same}
use Rattle.elaborate.proofs.Faithful.{all_faithful}
use Rattle.elaborate.proofs.program.elaborate.Goals as goal

pub returns-clause-terms : goal.returns-clause-terms
returns-clause-terms c = λ h. c.in_ok-terms.ensures ∙ ap terms_from (each_same _ h)

pub returns-clause-faithful : goal.returns-clause-faithful
returns-clause-faithful c = λ h f. subst (AreFaithful (program_trees c.args.p.now)) (sym (c.in_ok-terms.ensures ∙ ap terms_from (each_same _ h)))
    (all_faithful _ f)
