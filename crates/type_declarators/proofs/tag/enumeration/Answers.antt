use Rattle.std.proofs.Common.{ap, ◌∙◌, sym, subst, ℕ}
use Rattle.std.specs.Prelude.{Option}
use Rattle.c_types.specs.Types.{type_of}
use Rattle.typing_words.specs.Words.{plain, enumeration_reference}
use Rattle.type_scope.specs.Known.{known_by}
use Rattle.type_scope.specs.Reads.{Reads}
use Rattle.type_declarators.proofs.Enumerations.{no_tag_named}
use Rattle.type_declarators.proofs.tag.enumeration.Goals as goal

pub returns-in-None : goal.returns-in-None
returns-in-None c n env other =
    let here = known_by n c.args.source.now c.args.state.now env in
    ap (λ o. enumeration_reference o here) c.in-None.is ∙ no_tag_named here

pub returns-in-Some : goal.returns-in-Some
returns-in-Some c n env =
    let here = known_by n c.args.source.now c.args.state.now env in
    let P : Option ℕ → Type 0 = λ o. Reads (λ ty. plain (type_of ty)) (enumeration_reference o here) c.enumeration_named.result here in
    subst P (sym c.in-Some.is) (c.enumeration_named.ensures n env)
