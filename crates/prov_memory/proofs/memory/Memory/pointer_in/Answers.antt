use Rattle.std.proofs.Common.{◌∙◌, ap, List}
use Rattle.mem_spec.specs.Acts.{are_pieces}
use Rattle.mem_objects.specs.declared.cell.Cell.{Cell}
use Rattle.mem_objects.specs.Access.{range_in}
use Rattle.mem_objects.specs.Cells.{prov_numbered}
use Rattle.prov_memory.specs.Named.{named_in}
use Rattle.prov_memory.proofs.NumberLemmas.{unwritten_numbered, plain_numbered, piece_numbered}
use Rattle.prov_memory.proofs.memory.Memory.pointer_in.Goals as goal

pub returns-in-Unwritten : goal.returns-in-Unwritten
returns-in-Unwritten c = unwritten_numbered c.args.self.now c.args.object.now c.args.from c.cell-cell.result c.cell-cell.ensures c.in-Unwritten.is

pub returns-in-Plain : goal.returns-in-Plain
returns-in-Plain c = plain_numbered c.args.self.now c.args.object.now c.args.from c.cell-cell.result c.cell-cell.ensures c.in-Plain.is

pub returns-in-Piece : goal.returns-in-Piece
returns-in-Piece c =
    let m = c.args.self.now in
    let p = prov_numbered m.origins c.cell-cell.result.origin.number in
    ap (named_in m.origins) c.then_some.ensures
    ∙ piece_numbered m c.args.object.now c.args.from c.cell-cell.result c.are_pieces.result c.cell-cell.ensures c.in-Piece.is
    (c.are_pieces.ensures ∙ ap (λ (cs : List Cell). are_pieces p 0 (range_in m cs c.args.from 8)) c.cells.ensures)
