use Rattle.std.proofs.Common.{ap, sym, ◌∙◌}
use Rattle.std.specs.Prelude.{Some}
use Rattle.c_types.specs.Types.{Qualified}
use Rattle.typing_words.specs.Words.{plain_option}
use Rattle.type_declarators.proofs.declarator.plain_type.Goals as goal

pub returns-in-Some : goal.returns-in-Some
returns-in-Some c all counted =
    ap plain_option (sym (c.in-Some.ensures all counted)) ∙ ap (λ (q : Qualified). Some q) (sym c.unqualified.ensures)

pub returns-in-None : goal.returns-in-None
returns-in-None c all counted other = ap plain_option (sym (c.in-None.ensures all counted))
