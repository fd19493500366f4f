use Rattle.std.proofs.Common.{◌≡◌, ◌<◌, ◌∙◌, ap, true, false, map, arith, rules}
use Rattle.c_types.specs.Types.{type_of}
use Rattle.mem_objects.specs.declared.cell.Cell.{Cell}
use Rattle.mem_spec.specs.Acts.{is_piece, are_pieces}
use Rattle.mem_objects.specs.Cells.{cell_at, byte_in, prov_numbered, tagged_in}
use Rattle.mem_objects.specs.Access.{range_in}
use Rattle.prov_memory.proofs.PointerLemmas.{pieces_pass, pieces_fail}
use Rattle.prov_memory.proofs.memory.Memory.are_pieces.Goals as goal

pub returns-then-not-is_piece : goal.returns-then-not-is_piece
returns-then-not-is_piece c =
    let m = c.args.self.now in
    let p = prov_numbered m.origins c.args.number.number in
    let lt : c.loop-index.index < c.args.len = omega arith in
    let off : c.is_piece.result ≡ false = search rules in
    pieces_fail c.is_piece.result (are_pieces p 0 (range_in m c.args.cells.now c.args.from c.args.len)) p
    (λ k. tagged_in m.origins (map type_of m.types) (cell_at c.args.cells.now k)) c.args.from c.loop-index.index c.args.len lt c.loop-index.invariant
    (c.is_piece.ensures ∙ ap (λ (k : Cell). is_piece p c.loop-index.index (byte_in m.origins k)) c.cell_at.ensures) off

pub loop-index-preserved : goal.loop-index-preserved
loop-index-preserved c =
    let m = c.args.self.now in
    let p = prov_numbered m.origins c.args.number.number in
    let lt : c.loop-index.index < c.args.len = omega arith in
    let on : c.is_piece.result ≡ true = search rules in
    pieces_pass c.is_piece.result (are_pieces p 0 (range_in m c.args.cells.now c.args.from c.args.len)) p
    (λ k. tagged_in m.origins (map type_of m.types) (cell_at c.args.cells.now k)) c.args.from c.loop-index.index c.args.len lt c.loop-index.invariant
    (c.is_piece.ensures ∙ ap (λ (k : Cell). is_piece p c.loop-index.index (byte_in m.origins k)) c.cell_at.ensures) on
