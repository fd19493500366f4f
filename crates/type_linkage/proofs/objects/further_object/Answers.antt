use Rattle.std.proofs.Common.{ap, ◌∙◌, subst, sym}
use Rattle.std.specs.Prelude.{◌==◌}
use Rattle.c_types.specs.Types.{qualified_of}
use Rattle.typing_env.specs.Names.{changing_object}
use Rattle.type_scope.specs.declared.state.State.{State}
use Rattle.type_scope.specs.Known.{known_by}
use Rattle.type_scope.specs.Objects.{HasObjects}
use Rattle.type_linkage.proofs.ObjectRows.{linked_has, file_has, block_has}
use Rattle.type_linkage.proofs.UsedRows.{linked_used}
use Rattle.type_linkage.proofs.objects.further_object.Goals as goal

pub returns-in_ok-seen-clause-known : goal.returns-in_ok-seen-clause-known
returns-in_ok-seen-clause-known c n t env =
    ap (λ (s : State). known_by n t s env) c.set_object_type.ensures.rest ∙ c.in_ok-note_type.ensures.known n t env

pub returns-in_ok-seen-clause-rows : goal.returns-in_ok-seen-clause-rows
returns-in_ok-seen-clause-rows c n one env depth has =
    file_has n c.set_object_type.new.state (n c.args.number) (qualified_of c.args.seen.now) env ((c.args.state.now).names).depth depth
    (sym (c.is_file.ensures ∙ ap (λ (s : State). (s.names).depth == 0) c.in_ok-note_type.ensures.rest) ∙ c.if-is_file.true)
    (subst (λ q. HasObjects n c.set_object_type.new.state (changing_object (n c.args.number) (λ o. record o { qual = q }) env)) c.in_ok-seen.ensures
    (c.set_object_type.ensures.rows n one env
    (linked_has n c.args.state.now c.note_type.new.state env c.in_ok-note_type.ensures.rest has)))

pub returns-else-is_file-clause-rows : goal.returns-else-is_file-clause-rows
returns-else-is_file-clause-rows c n one env depth has =
    block_has n c.note_type.new.state (n c.args.number) (qualified_of c.args.seen.now) env ((c.args.state.now).names).depth depth
    (sym (c.is_file.ensures ∙ ap (λ (s : State). (s.names).depth == 0) c.in_ok-note_type.ensures.rest) ∙ c.if-is_file.false)
    (linked_has n c.args.state.now c.note_type.new.state env c.in_ok-note_type.ensures.rest has)

pub returns-in_ok-seen-clause-uses : goal.returns-in_ok-seen-clause-uses
returns-in_ok-seen-clause-uses c n us has =
    c.set_object_type.ensures.uses n us (linked_used n c.args.state.now c.note_type.new.state us c.in_ok-note_type.ensures.rest has)

pub returns-else-is_file-clause-uses : goal.returns-else-is_file-clause-uses
returns-else-is_file-clause-uses c n us has = linked_used n c.args.state.now c.note_type.new.state us c.in_ok-note_type.ensures.rest has
