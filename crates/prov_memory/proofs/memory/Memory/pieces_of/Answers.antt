use Rattle.std.proofs.Common.{◌∙◌, sym, ap, subst, List, length}
use Rattle.mem_objects.specs.declared.cell.Cell.{Cell}
use Rattle.mem_objects.specs.Cells.{Loaded}
use Rattle.mem_objects.specs.Memory.{CellsKnown}
use Rattle.mem_objects.specs.Tags.{CellsTagged}
use Rattle.mem_objects.proofs.SoundLemmas.{pieces_known, pieces_tagged}
use Rattle.prov_memory.proofs.memory.Memory.pieces_of.Goals as goal

pub returns-clause-known : goal.returns-clause-known
returns-clause-known c = λ named made.
    let n = length c.args.self.now.origins in
    subst (λ (cs : List Cell). CellsKnown n cs) (sym (ap (λ (b : Loaded). b.cells) c.of_cells.ensures ∙ c.in_ok-cells.ensures))
    (pieces_known n 8 0 c.args.addr c.origin_of.result (c.origin_of.ensures.number named made))

pub returns-clause-tagged : goal.returns-clause-tagged
returns-clause-tagged c = λ n.
    subst (λ (cs : List Cell). CellsTagged n cs) (sym (ap (λ (b : Loaded). b.cells) c.of_cells.ensures ∙ c.in_ok-cells.ensures))
    (pieces_tagged n 8 0 c.args.addr c.origin_of.result)
