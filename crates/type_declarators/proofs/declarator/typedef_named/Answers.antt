use Rattle.std.proofs.Common.{ap, ◌∙◌}
use Rattle.std.specs.Option.{option_map}
use Rattle.typing_words.specs.Words.{typedef_in}
use Rattle.type_scope.specs.Known.{meaning_seen}
use Rattle.type_declarators.proofs.declarator.typedef_named.Goals as goal

pub returns-in-Some : goal.returns-in-Some
returns-in-Some c n = c.denoted.ensures n ∙ ap (λ o. typedef_in (option_map (meaning_seen n) o)) c.in-Some.ensures

pub returns-in-None : goal.returns-in-None
returns-in-None c n = ap (λ o. typedef_in (option_map (meaning_seen n) o)) c.in-None.ensures
