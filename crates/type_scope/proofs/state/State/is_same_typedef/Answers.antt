use Rattle.std.proofs.Common.{ap, ◌∙◌, sym}
use Rattle.std.specs.Option.{option_map}
use Rattle.c_types.specs.Types.{qualified_of}
use Rattle.typing_env.specs.Names as names
use Rattle.type_scope.specs.Known.{meaning_seen, with_tables}
use Rattle.type_scope.proofs.Seen.{here_is}
use Rattle.type_scope.proofs.state.State.is_same_typedef.Goals as goal

pub returns-in-Some : goal.returns-in-Some
returns-in-Some c n t env =
    c.is_typedef.ensures n
    ∙ ap (names.is_same_typedef (qualified_of c.args.qual.now))
    (ap (option_map (meaning_seen n)) c.in-Some.ensures
    ∙ sym (here_is n c.args.symbol (c.args.self.now).names (with_tables n t c.args.self.now env)))

pub returns-in-None : goal.returns-in-None
returns-in-None c n t env =
    ap (names.is_same_typedef (qualified_of c.args.qual.now))
    (ap (option_map (meaning_seen n)) c.in-None.ensures
    ∙ sym (here_is n c.args.symbol (c.args.self.now).names (with_tables n t c.args.self.now env)))
