use Rattle.std.proofs.Common.{◌≡◌, ℕ, ◌+◌, false, refl, ap, sym, subst, ◌∙◌, length, Some, arith}
use Rattle.addr_map.specs.Rows.{row_at}
use Rattle.c_types.specs.Shapes.{Form, leaf, repeat}
use Rattle.c_types.specs.Types.{CType, int, pointer}
use Rattle.c_types.specs.declared.kind.IntKind.TheVariants.{Char}
use Rattle.run_standing.proofs.Starts.{creates_ok}
use Rattle.ub_base.specs.declared.names.ObjName.TheVariants.{Argv}
use Rattle.exposure.specs.declared.prov.Prov.{Prov}
use Rattle.exposure.specs.declared.prov.Prov.TheVariants.{Whole}
use Rattle.mem_objects.specs.Made.{IsMade}
use Rattle.prov_memory.proofs.KeepLemmas.{keeps_none}
use Rattle.c_model.specs.Values.{Pointer}
use Rattle.run_standing.proofs.initial.create_vector.Goals as goal

pub returns-clause-kept : goal.returns-clause-kept
returns-clause-kept c = c.create.ensures.kept (λ e. absurd (cc))

pub returns-in_err-base-clause-kept : goal.returns-in_err-base-clause-kept
returns-in_err-base-clause-kept c = c.create.ensures.kept (λ e. absurd (cc))

pub returns-clause-made : goal.returns-clause-made
returns-clause-made c =
    let whole : c.pointer_to.result.prov ≡ Whole Argv = ap (λ (q : Pointer). q.prov) c.pointer_to.ensures in
    subst (λ (p : Prov). IsMade c.create.new.self p) (sym whole) c.in_ok-base.ensures.whole

pub returns-in_err-element-clause-kept : goal.returns-in_err-element-clause-kept
returns-in_err-element-clause-kept c = keeps_none c.args.m.now

pub returns-in_err-shape-clause-kept : goal.returns-in_err-shape-clause-kept
returns-in_err-shape-clause-kept c = keeps_none c.args.m.now

pub returns-clause-exact : goal.returns-clause-exact
returns-clause-exact c = λ known few.
    let element = pointer false (int Char) in
    let count : c.saturating_add-count.result ≡ length c.args.args.now + 2 = omega (arith, few) in
    creates_ok c.args.m.now c.create.new.self Argv _ _ _ _ _ _ _ _ c.create.new.t c.in_ok-base.ensures.born c.in_ok-base.ensures.exact
    (ap (λ (f : Form). Some f) (c.in_ok-shape.ensures ∙ ap (λ (t : CType). repeat c.saturating_add-count.result 8 (leaf t)) c.in_ok-element.ensures
    ∙ ap (λ (n : ℕ). repeat n 8 (leaf element)) count)) (c.vector_size.ensures few) known

pub returns-clause-stands : goal.returns-clause-stands
returns-clause-stands c = (
  c.in_ok-base.base,
  c.pointer_to.ensures,
  record {
    row = row_at Argv c.in_ok-base.base _ _;
    named = c.in_ok-base.ensures.born.row;
    at = refl;
    ends = c.in_ok-base.ensures.end;
    made = c.in_ok-base.ensures.whole;
  },
)
