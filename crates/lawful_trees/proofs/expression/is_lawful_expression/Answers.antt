use Rattle.std.proofs.Common.{sym, subst, arith}
use Rattle.c_types.specs.Types.{CType, signature_of}
use Rattle.c_typed.specs.Lawful.{UseFits}
use Rattle.lawful_trees.specs.Places.{use_of}
use Rattle.lawful_trees.proofs.Operands.{type_at-root}
use Rattle.lawful_trees.proofs.expression.is_lawful_expression.Goals as goal

pub returns-then-initial : goal.returns-then-initial
returns-then-initial c = λ h.
    let P : CType → Type 0 = UseFits c.args.program.now (signature_of c.args.owner.now) (use_of c.args.purpose) in
    record {
      nodes = c.is_lawful_tree.ensures h;
      fits = subst P (sym (type_at-root c.args.tree.now)) (c.use_fits.ensures c.if-not-use_fits.false c.args.program.now);
      initial = c.in_ok-initial.ensures c.if-initial.true;
      few = omega arith;
    }
