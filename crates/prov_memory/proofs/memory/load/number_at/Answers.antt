use Rattle.std.proofs.Common.{◌≡◌, ℕ, ◌+◌, ◌-◌, ◌<◌, ◌≤◌, ◌∙◌, refl, sym, subst, true, false, map, arith}
use Rattle.c_types.specs.Types.{type_of}
use Rattle.mem_objects.specs.declared.cell.Cell.{Cell}
use Rattle.mem_spec.specs.Acts.{is_written, number_in}
use Rattle.mem_objects.specs.Cells.{cell_at, byte_in, tagged_in}
use Rattle.prov_memory.proofs.LoadLemmas.{IsRead, cap_small, held_is, none_is, indeterminate, read_next, read_all, below_next}
use Rattle.prov_memory.proofs.memory.load.number_at.Goals as goal

pub returns-in_default : goal.returns-in_default
returns-in_default c = λ m.
    let at = c.args.len - (c.loop-step.step + 1) in
    let lt : at < c.args.len = omega arith in
    let gone : is_written (byte_in m.origins (cell_at c.args.cells.now (c.args.from + at))) ≡ false =
    subst (λ (k : Cell). is_written (byte_in m.origins k) ≡ false) c.cell_at-cell.ensures
    (none_is m.origins c.cell_at-cell.result c.in_default.ensures) in
    sym (indeterminate (λ k. tagged_in m.origins (map type_of m.types) (cell_at c.args.cells.now k)) c.args.from c.args.len at lt gone)

pub overflow_mul-number : goal.overflow_mul-number
overflow_mul-number c =
    let few : c.loop-step.step ≤ 7 = omega arith in
    omega (arith, c.loop-step.invariant.below, cap_small c.loop-step.step few)

pub overflow_add-number : goal.overflow_add-number
overflow_add-number c =
    let few : c.loop-step.step ≤ 7 = omega arith in
    omega (arith, c.loop-step.invariant.below, cap_small c.loop-step.step few, c.from.ensures)

pub loop-step-preserved : goal.loop-step-preserved
loop-step-preserved c =
    let at = c.args.from + (c.args.len - (c.loop-step.step + 1)) in
    let lt : c.loop-step.step < c.args.len = omega arith in
    let byte : c.from.result < 256 = omega (arith, c.from.ensures) in
    record {
      read = λ m.
          let p = held_is m.origins c.cell_at-cell.result c.in-Some.byte c.in-Some.ensures in
          let w : is_written (byte_in m.origins (cell_at c.args.cells.now at)) ≡ true =
          subst (λ (k : Cell). is_written (byte_in m.origins k) ≡ true) c.cell_at-cell.ensures p.0 in
          let b : number_in (byte_in m.origins (cell_at c.args.cells.now at)) ≡ c.from.result =
          subst (λ (k : Cell). number_in (byte_in m.origins k) ≡ c.in-Some.byte) c.cell_at-cell.ensures p.1 ∙ sym c.from.ensures in
          read_next (λ k. tagged_in m.origins (map type_of m.types) (cell_at c.args.cells.now k)) c.args.from c.args.len c.loop-step.step c.loop-step.number
          c.from.result at lt refl w b (c.loop-step.invariant.read m);
      below = below_next c.loop-step.step c.loop-step.number c.from.result c.loop-step.invariant.below byte;
    }

pub returns : goal.returns
returns c = λ m.
    let end : c.loop-step.step ≡ c.args.len = omega arith in
    let f = λ (k : ℕ). tagged_in m.origins (map type_of m.types) (cell_at c.args.cells.now k) in
    read_all f c.args.from c.args.len c.loop-step.number
    (subst (λ (k : ℕ). IsRead f c.args.from c.args.len k c.loop-step.number) end (c.loop-step.invariant.read m))
