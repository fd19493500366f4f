use Rattle.std.proofs.Common.{ap, ◌∙◌}
use Rattle.c_types.specs.Types.{qualified_of}
use Rattle.c_typed.specs.declared.tree.Target.TheVariants as target
use Rattle.typing_env.specs.Names as names
use Rattle.type_scope.specs.Known.{known_by}
use Rattle.type_linkage.proofs.UsedRows.{linked_used}
use Rattle.type_linkage.proofs.functions.new_function.Goals as goal

pub returns-clause-known : goal.returns-clause-known
returns-clause-known c n t env =
    c.in_ok-link.ensures.known n t env
    ∙ ap (names.with_link c.args.symbol c.args.internal (target.Function c.in_ok-number.number) (qualified_of c.args.qual.now))
    (c.in_ok-number.ensures.known n t env ∙ ap (λ r. names.with_function r (known_by n t c.args.state.now env)) c.in_ok-row.ensures.seen)

pub returns-clause-uses : goal.returns-clause-uses
returns-clause-uses c n us unused has =
    linked_used n c.add_function.new.state c.link.new.state us c.in_ok-link.ensures.rest
    (c.in_ok-number.ensures.uses c.in_ok-row.ensures.unused n us unused has)
