use Rattle.std.proofs.Common.{ap, ◌∙◌}
use Rattle.c_types.specs.Types.{CType, Qualified, Signature, params_of, ty_step, func_step, qual_step}
use Rattle.c_types.specs.declared.ty.FuncTy.{fold-roll-FuncTy}
use Rattle.type_linkage.specs.Library.{function_of}
use Rattle.type_linkage.proofs.Rows.{taking_is}
use Rattle.type_linkage.proofs.library.function.Goals as goal

pub returns : goal.returns
returns c =
    fold-roll-FuncTy CType Signature Qualified ty_step func_step qual_step
    (record { result = c.in_ok-made.field-0; params = c.in_ok-params.params; variadic = c.args.variadic })
    ∙ λ i. record (function_of c.args.returned c.args.params.now c.args.variadic) {
      result = c.in_ok-made.ensures i;
      params = (ap params_of c.in_ok-params.ensures ∙ taking_is c.args.params.now) i;
    }
