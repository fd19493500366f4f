use Rattle.std.proofs.Common.{◌∙◌, sym}
use Rattle.std.proofs.lemmas.Result.{on_ok_weaker}
use Rattle.c_types.specs.Types.{qualified_of}
use Rattle.type_linkage.proofs.Linking.{further_of_linked, further_of_other}
use Rattle.type_linkage.proofs.objects.note_object_type.Goals as goal

pub returns-then-is_linked_object-clause-known : goal.returns-then-is_linked_object-clause-known
returns-then-is_linked_object-clause-known c =
    on_ok_weaker c.note_type.result (λ k. λ n one t env.
    k n t env
    ∙ further_of_linked n one t c.args.state.now env c.args.symbol c.args.number (qualified_of c.args.qual.now)
    (sym c.is_linked_object.ensures ∙ c.if-is_linked_object.true)) c.note_type.ensures.known

pub returns-else-is_linked_object-clause-known : goal.returns-else-is_linked_object-clause-known
returns-else-is_linked_object-clause-known c n one t env =
    further_of_other n one t c.args.state.now env c.args.symbol c.args.number (qualified_of c.args.qual.now)
    (sym c.is_linked_object.ensures ∙ c.if-is_linked_object.false)
