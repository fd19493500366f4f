use Rattle.std.proofs.Common.{ap, ◌∙◌, subst}
use Rattle.std.specs.Prelude.{Some}
use Rattle.c_types.specs.Types.{qualified_of}
use Rattle.c_typed.specs.declared.tree.Target.TheVariants as target
use Rattle.typing_env.specs.Names as names
use Rattle.typing_env.specs.Names.{object_named}
use Rattle.type_scope.specs.declared.state.State.{State}
use Rattle.type_scope.specs.Known.{known_by}
use Rattle.type_scope.specs.Objects.{IsRowOf}
use Rattle.type_linkage.proofs.ObjectRows.{linked_has}
use Rattle.type_linkage.proofs.UsedRows.{linked_used}
use Rattle.type_linkage.proofs.objects.new_object.Goals as goal

pub returns-clause-known : goal.returns-clause-known
returns-clause-known c n t env =
    c.in_ok-link.ensures.known n t env
    ∙ ap (λ (s : State). names.with_link c.args.symbol c.args.internal (target.Static (n c.in_ok-number.number)) (qualified_of c.args.qual.now)
    (known_by n t s env)) c.in_ok-number.ensures.rest

pub returns-clause-rows : goal.returns-clause-rows
returns-clause-rows c n one env at has none is =
    let q = qualified_of c.args.qual.now in
    let o = names.new_object at q in
    linked_has n c.add_object.new.self c.link.new.state (names.with_object o env) c.in_ok-link.ensures.rest
    (c.in_ok-number.ensures.rows n one env o has none is
    (subst (λ p. IsRowOf (names.new_object at p) (Some c.new.result)) c.in_ok-copied_qual.ensures (c.new.ensures.row at)))

pub returns-clause-uses : goal.returns-clause-uses
returns-clause-uses c n us places unused has =
    linked_used n c.add_object.new.self c.link.new.state us c.in_ok-link.ensures.rest
    (c.in_ok-number.ensures.uses n us places c.new.ensures.unused unused has)
