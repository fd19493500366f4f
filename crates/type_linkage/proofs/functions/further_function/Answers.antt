use Rattle.std.proofs.Common.{ap, ◌∙◌}
use Rattle.std.proofs.lemmas.Result.{on_ok_weaker}
use Rattle.c_types.specs.Types.{signature_of}
use Rattle.typing_env.specs.Names.{changing_function, further_type}
use Rattle.type_linkage.proofs.UsedRows.{linked_used}
use Rattle.type_linkage.proofs.functions.further_function.Goals as goal

pub returns-clause-known : goal.returns-clause-known
returns-clause-known c =
    on_ok_weaker c.join_function.result (λ k. λ n t env.
    k n t env ∙ ap (changing_function c.args.number (further_type (signature_of c.args.ty.now))) (c.in_ok-note_type.ensures.known n t env))
    c.join_function.ensures.known

pub returns-clause-uses : goal.returns-clause-uses
returns-clause-uses c =
    on_ok_weaker c.join_function.result (λ k. λ n us has.
    k n us (linked_used n c.args.state.now c.note_type.new.state us c.in_ok-note_type.ensures.rest has)) c.join_function.ensures.uses
