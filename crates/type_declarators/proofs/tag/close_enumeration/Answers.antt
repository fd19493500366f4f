use Rattle.std.proofs.Common.{ap, sym, ◌∙◌, Some}
use Rattle.c_types.specs.Types.{enumeration}
use Rattle.typing_words.specs.Words.{plain}
use Rattle.type_scope.specs.Known.{known_by}
use Rattle.type_scope.specs.declared.state.State.{State}
use Rattle.type_declarators.proofs.Enumerations.{closed}
use Rattle.type_declarators.proofs.tag.close_enumeration.Goals as goal

pub returns-clause-known : goal.returns-clause-known
returns-clause-known c n t env =
    closed n t c.args.state.now env c.args.number ((c.complete_enumeration.new.state).enumerations).items c.complete_enumeration.ensures.items
    ∙ ap (λ (s : State). Some (plain (enumeration c.args.number), known_by n t s env)) (sym c.complete_enumeration.ensures.rest)
    ∙ ap (λ ty. Some (plain ty, known_by n t c.complete_enumeration.new.state env)) (sym c.enumeration_type.ensures)
