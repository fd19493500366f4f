use Rattle.std.proofs.Common.{◌≡◌, ◌∙◌, ap, subst, true, List}
use Rattle.mem_spec.specs.Acts.{are_pieces}
use Rattle.mem_objects.specs.declared.cell.Cell.{Cell}
use Rattle.mem_objects.specs.Access.{range_in}
use Rattle.mem_objects.specs.Cells.{prov_numbered}
use Rattle.mem_objects.specs.Loads.{number_if}
use Rattle.prov_memory.proofs.ReadLemmas.{pieces_pointer}
use Rattle.prov_memory.proofs.memory.Memory.pointer_read.Goals as goal

pub returns-in-Some-clause-number : goal.returns-in-Some-clause-number
returns-in-Some-clause-number c =
    c.in-Some.ensures.number ∙ ap (λ (cs : List Cell). number_if (range_in c.args.self.now cs c.args.from 8)) c.cells.ensures

pub returns-in-Some-clause-pointer : goal.returns-in-Some-clause-pointer
returns-in-Some-clause-pointer c =
    let m = c.args.self.now in
    pieces_pointer m c.args.object.now c.args.from c.cell.result c.cell.ensures
    (subst (λ (cs : List Cell). are_pieces (prov_numbered m.origins c.cell.result.origin.number) 0 (range_in m cs c.args.from 8) ≡ true) c.cells.ensures
    c.in-Some.ensures.pieces)
