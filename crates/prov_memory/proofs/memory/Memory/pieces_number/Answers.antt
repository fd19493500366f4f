use Rattle.std.proofs.Common.{◌≡◌, ℕ, ◌+◌, ◌-◌, ◌<◌, ◌≤◌, ◌∙◌, refl, sym, ap, subst, true, map, arith, rules}
use Rattle.c_types.specs.Types.{type_of}
use Rattle.mem_spec.specs.Acts.{is_written, is_piece, number_in}
use Rattle.mem_objects.specs.declared.cell.Cell.{Cell}
use Rattle.mem_objects.specs.Cells.{cell_at, byte_in, prov_numbered, tagged_in}
use Rattle.prov_memory.proofs.LoadLemmas.{IsRead, cap_small, held_is, read_next, read_all, below_next}
use Rattle.prov_memory.proofs.ReadLemmas.{pieces_before, pieces_whole}
use Rattle.prov_memory.proofs.memory.Memory.pieces_number.Goals as goal

pub overflow_mul-number : goal.overflow_mul-number
overflow_mul-number c =
    let few : c.loop-step.step ≤ 7 = omega arith in
    omega (arith, c.loop-step.invariant.below, cap_small c.loop-step.step few)

pub overflow_add-number : goal.overflow_add-number
overflow_add-number c =
    let few : c.loop-step.step ≤ 7 = omega arith in
    omega (arith, c.loop-step.invariant.below, cap_small c.loop-step.step few, c.from.ensures)

pub loop-step-preserved : goal.loop-step-preserved
loop-step-preserved c =
    let m = c.args.self.now in
    let f = λ (k : ℕ). tagged_in m.origins (map type_of m.types) (cell_at c.args.cells.now k) in
    let p = prov_numbered m.origins c.args.origin.number in
    let at = c.args.from + (8 - (c.loop-step.step + 1)) in
    let lt : c.loop-step.step < 8 = omega arith in
    let byte : c.from.result < 256 = omega (arith, c.from.ensures) in
    let on : c.is_piece.result ≡ true = search rules in
    let q = held_is m.origins c.cell_at-cell.result c.in-Some.byte c.in-Some.ensures in
    let w : is_written (byte_in m.origins (cell_at c.args.cells.now at)) ≡ true =
    subst (λ (k : Cell). is_written (byte_in m.origins k) ≡ true) c.cell_at-cell.ensures q.0 in
    let b : number_in (byte_in m.origins (cell_at c.args.cells.now at)) ≡ c.from.result =
    subst (λ (k : Cell). number_in (byte_in m.origins k) ≡ c.in-Some.byte) c.cell_at-cell.ensures q.1 ∙ sym c.from.ensures in
    let here : is_piece p (8 - (c.loop-step.step + 1)) (byte_in m.origins (cell_at c.args.cells.now at)) ≡ true =
    sym (c.is_piece.ensures ∙ ap (λ (k : Cell). is_piece p (8 - (c.loop-step.step + 1)) (byte_in m.origins k)) c.cell_at-cell.ensures) ∙ on in
    record {
      read = read_next f c.args.from 8 c.loop-step.step c.loop-step.number c.from.result at lt refl w b c.loop-step.invariant.read;
      below = below_next c.loop-step.step c.loop-step.number c.from.result c.loop-step.invariant.below byte;
      pieces = pieces_before p f c.args.from 8 c.loop-step.step at lt refl c.loop-step.invariant.pieces here;
    }

pub returns-clause-number : goal.returns-clause-number
returns-clause-number c =
    let m = c.args.self.now in
    let f = λ (k : ℕ). tagged_in m.origins (map type_of m.types) (cell_at c.args.cells.now k) in
    let end : c.loop-step.step ≡ 8 = omega arith in
    read_all f c.args.from 8 c.loop-step.number (subst (λ (k : ℕ). IsRead f c.args.from 8 k c.loop-step.number) end c.loop-step.invariant.read)

pub returns-clause-pieces : goal.returns-clause-pieces
returns-clause-pieces c =
    let m = c.args.self.now in
    let f = λ (k : ℕ). tagged_in m.origins (map type_of m.types) (cell_at c.args.cells.now k) in
    let end : c.loop-step.step ≡ 8 = omega arith in
    pieces_whole (prov_numbered m.origins c.args.origin.number) f c.args.from c.loop-step.step end c.loop-step.invariant.pieces
