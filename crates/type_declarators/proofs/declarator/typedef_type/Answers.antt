use Rattle.std.proofs.Common.{ap, ◌∙◌, sym, Some}
use Rattle.c_types.specs.Types.{qualified_of}
use Rattle.typing_env.specs.Env.{symbol_of}
use Rattle.typing_env.specs.Names.{meaning_of}
use Rattle.typing_words.specs.Words.{typedef_in}
use Rattle.type_scope.specs.Known.{known_by}
use Rattle.type_declarators.proofs.Meanings.{name_stands}
use Rattle.type_declarators.proofs.Standing.{finds_same}
use Rattle.type_declarators.proofs.declarator.typedef_type.Goals as goal

pub returns-in-Some : goal.returns-in-Some
returns-in-Some c n env =
    let here = known_by n c.args.source.now c.args.state.now env in
    finds_same qualified_of (typedef_in (meaning_of here (symbol_of here c.args.name))) (Some (qualified_of c.in-Some.qual.now)) c.copy.result
    (ap typedef_in (name_stands n c.args.source.now c.args.state.now env c.args.name c.symbol.result c.symbol.ensures) ∙ sym (c.in-Some.ensures n))
    c.copy.ensures

pub returns-in-None : goal.returns-in-None
returns-in-None c n env other =
    ap typedef_in (name_stands n c.args.source.now c.args.state.now env c.args.name c.symbol.result c.symbol.ensures) ∙ sym (c.in-None.ensures n)
