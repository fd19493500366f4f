use Rattle.std.proofs.Common.{refl, ap, ◌∙◌, sym}
use Rattle.c_typed.specs.declared.tree.Target.TheVariants as target
use Rattle.type_scope.specs.Known.{known_by, routine_seen}
use Rattle.type_linkage.proofs.FunctionRows.{added_row}
use Rattle.type_linkage.proofs.UsedRows.{function_added}
use Rattle.type_scope.specs.Uses.{is_used}
use Rattle.type_linkage.proofs.functions.add_function.Goals as goal

pub returns-clause-known : goal.returns-clause-known
returns-clause-known c n t env = λ i. record (known_by n t c.args.state.now env) {
  functions = added_row c.args.row (routine_seen c.args.row) (c.args.state.now).functions.items c.push.new.self.items c.in_ok-push.ensures.items refl i;
}

pub returns-clause-uses : goal.returns-clause-uses
returns-clause-uses c none n us unused has =
    let rows = (c.args.state.now).functions in (
      has.0,
      function_added us rows.items c.push.new.self.items c.args.row c.in_ok-push.ensures.items none
          (ap (λ k. is_used (target.Function k) us) (sym rows.ok.0) ∙ unused) has.1,
    )
