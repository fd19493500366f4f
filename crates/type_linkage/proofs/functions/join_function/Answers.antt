use Rattle.std.proofs.Common.{sym, refl, true≢false}
use Rattle.std.proofs.lemmas.Result.{on_ok_weaker}
use Rattle.c_types.specs.Types.{signature_of}
use Rattle.typing_env.specs.Names.{further_type}
use Rattle.type_scope.specs.Known.{known_by}
use Rattle.type_linkage.proofs.FunctionRows.{changed_row, changed_none}
use Rattle.type_linkage.proofs.UsedRows.{row_kept}
use Rattle.type_linkage.proofs.functions.join_function.Goals as goal

pub returns-in-Some-clause-known : goal.returns-in-Some-clause-known
returns-in-Some-clause-known c =
    let rows = (c.args.state.now).functions in
    on_ok_weaker c.join_row.result (λ e. λ n t env. λ i. record (known_by n t c.args.state.now env) {
      functions =
          changed_row (further_type (signature_of c.args.ty.now)) c.args.number rows.len rows.items c.in-Some.row.now c.join_row.new.row rows.ok.0
          (c.in-Some.ensures.variant.0 refl) c.in-Some.ensures.value e i;
    }) c.join_row.ensures.seen

-- the row isn't there: its number is no less than their count
pub returns-in-None-clause-known : goal.returns-in-None-clause-known
returns-in-None-clause-known c n t env =
    let rows = (c.args.state.now).functions in λ i. record (known_by n t c.args.state.now env) {
      functions = changed_none (further_type (signature_of c.args.ty.now)) c.args.number rows.len rows.items rows.ok.0
          (λ less. true≢false (sym (c.in-None.ensures.variant.1 less))) i;
    }

pub returns-in-Some-clause-uses : goal.returns-in-Some-clause-uses
returns-in-Some-clause-uses c =
    let rows = (c.args.state.now).functions in
    on_ok_weaker c.join_row.result (λ e. λ n us has. (
      has.0,
      row_kept us c.args.number rows.len rows.items c.in-Some.row.now c.join_row.new.row rows.ok.0
          (c.in-Some.ensures.variant.0 refl) c.in-Some.ensures.value c.join_row.ensures.used has.1,
    )) c.join_row.ensures.seen
