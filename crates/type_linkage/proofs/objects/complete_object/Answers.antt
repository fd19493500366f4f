use Rattle.std.proofs.Common.{ap, ◌∙◌, false, subst}
use Rattle.c_types.specs.Types.{qualified_of}
use Rattle.c_typed.specs.declared.tree.Slot.TheVariants as slot
use Rattle.c_typed.specs.declared.tree.Target.TheVariants as target
use Rattle.typing_env.specs.Env.{an_object}
use Rattle.typing_env.specs.Names.{renamed, with_further_of, changing_object}
use Rattle.type_scope.specs.declared.rows.Meaning.TheVariants as meaning
use Rattle.type_scope.specs.declared.state.State.{State}
use Rattle.type_scope.specs.Known.{known_by, with_tables}
use Rattle.type_scope.specs.Objects.{HasObjects}
use Rattle.type_scope.proofs.Seen.{change_is}
use Rattle.type_linkage.proofs.ObjectRows.{linked_has}
use Rattle.type_linkage.proofs.UsedRows.{linked_used}
use Rattle.type_linkage.proofs.objects.complete_object.Goals as goal

pub returns-clause-known : goal.returns-clause-known
returns-clause-known c n one t env =
    let q = qualified_of c.args.qual.now in
    ap (λ names. known_by n t (record c.note_object_type.new.state { names = names }) env) c.change.ensures
    ∙ change_is n c.args.symbol (meaning.Object (slot.Static c.args.number) c.in_ok-copied_qual-2.field-0 false) c.note_object_type.new.state.names
    (with_tables n t c.note_object_type.new.state env)
    ∙ ap (λ p. renamed c.args.symbol (an_object (slot.Static (n c.args.number)) p false) (known_by n t c.note_object_type.new.state env))
    c.in_ok-copied_qual-2.ensures
    ∙ ap (renamed c.args.symbol (an_object (slot.Static (n c.args.number)) q false)) (c.in_ok-note_object_type.ensures.known n one t env)
    ∙ ap (λ (s : State). renamed c.args.symbol (an_object (slot.Static (n c.args.number)) q false)
    (with_further_of (target.Static (n c.args.number)) c.args.symbol q (known_by n t s env)))
    c.set_object_type.ensures.rest

pub returns-clause-rows : goal.returns-clause-rows
returns-clause-rows c n one env has =
    let q = qualified_of c.args.qual.now in
    linked_has n c.set_object_type.new.state c.note_object_type.new.state (changing_object (n c.args.number) (λ o. record o { qual = q }) env)
    c.in_ok-note_object_type.ensures.rest
    (subst (λ p. HasObjects n c.set_object_type.new.state (changing_object (n c.args.number) (λ o. record o { qual = p }) env)) c.in_ok-copied_qual.ensures
    (c.set_object_type.ensures.rows n one env has))

pub returns-clause-uses : goal.returns-clause-uses
returns-clause-uses c n us has =
    linked_used n c.set_object_type.new.state c.note_object_type.new.state us c.in_ok-note_object_type.ensures.rest (c.set_object_type.ensures.uses n us has)
