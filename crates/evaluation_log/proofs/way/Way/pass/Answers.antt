use Rattle.std.proofs.Common.{sym, ap, ◌∙◌, suc, Option, ℕ}
use Rattle.std.specs.Option.{option_or}
use Rattle.c_typed.specs.Tree.{tree_of, operands}
use Rattle.evaluation_log.specs.Kept.{is_unsequenced}
use Rattle.evaluation_log.specs.Sides.{own_lefts, own_rights, free_by}
use Rattle.evaluation_log.proofs.SideLemmas.{before_start, behind_start, first_opened}
use Rattle.evaluation_log.proofs.way.Way.pass.Goals as goal

pub returns-then-is_unsequenced-clause-before : goal.returns-then-is_unsequenced-clause-before
returns-then-is_unsequenced-clause-before c = λ h.
    let tree = tree_of c.args.tree.now in
    let free = sym (c.is_unsequenced.ensures ∙ ap is_unsequenced c.get.ensures) ∙ c.if-is_unsequenced.true in
    c.meet.ensures.before ∙ ap (option_or c.args.self.now.before)
    (before_start c.args.number tree c.args.target h
    ∙ first_opened (free_by c.args.rules.now c.args.number) (own_lefts (suc c.args.number) (operands tree) c.args.target) free)

pub returns-then-is_unsequenced-clause-behind : goal.returns-then-is_unsequenced-clause-behind
returns-then-is_unsequenced-clause-behind c = λ h.
    let tree = tree_of c.args.tree.now in
    let free = sym (c.is_unsequenced.ensures ∙ ap is_unsequenced c.get.ensures) ∙ c.if-is_unsequenced.true in
    c.meet.ensures.behind ∙ ap (λ (z : Option ℕ). option_or z c.args.self.now.behind)
    (behind_start c.args.number tree c.args.target c.requires h
    ∙ first_opened (free_by c.args.rules.now c.args.number) (own_rights (suc c.args.number) (operands tree) c.args.target) free)
