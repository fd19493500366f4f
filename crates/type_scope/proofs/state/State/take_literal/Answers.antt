use Rattle.std.proofs.Common.{ap, ◌∙◌}
use Rattle.std.specs.Prelude.{take}
use Rattle.type_scope.specs.declared.literals.Literal.{Literal}
use Rattle.type_scope.proofs.Numbered.{map_taken, map_removed, removed_before}
use Rattle.type_scope.proofs.state.State.take_literal.Goals as goal

pub returns-clause-taken : goal.returns-clause-taken
returns-clause-taken c =
    map_taken (λ (l : Literal). l.bytes) ((c.args.self.now).literals).items c.args.number c.remove-taken.result c.requires c.remove-taken.ensures.value

pub returns-clause-literals : goal.returns-clause-literals
returns-clause-literals c le =
    c.forget_literals.ensures.literals
    ∙ removed_before (λ (l : Literal). l.bytes) ((c.args.self.now).literals).items c.remove-taken.new.self.items c.args.mark.literals c.args.number le
    c.requires
    c.remove-taken.ensures.items
