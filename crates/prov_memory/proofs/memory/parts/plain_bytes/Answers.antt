use Rattle.std.proofs.Common.{◌∙◌, sym, ap, subst, List, map}
use Rattle.mem_objects.specs.declared.cell.Cell.{Cell}
use Rattle.mem_objects.specs.Cells.{Loaded, tagged_in}
use Rattle.mem_objects.specs.Memory.{CellsKnown}
use Rattle.mem_objects.specs.Tags.{CellsTagged}
use Rattle.mem_objects.proofs.PieceLemmas.{seen_plain, plain_known}
use Rattle.mem_objects.proofs.SoundLemmas.{plain_tagged}
use Rattle.prov_memory.proofs.memory.parts.plain_bytes.Goals as goal

pub returns-clause-bytes : goal.returns-clause-bytes
returns-clause-bytes c = λ ps ts.
    ap (λ (b : Loaded). map (tagged_in ps ts) b.cells) c.of_cells.ensures
    ∙ ap (λ (cs : List Cell). map (tagged_in ps ts) cs) c.in_ok-cells.ensures
    ∙ seen_plain ps ts c.args.count c.args.number

pub returns-clause-known : goal.returns-clause-known
returns-clause-known c = λ n.
    subst (λ (cs : List Cell). CellsKnown n cs) (sym (ap (λ (b : Loaded). b.cells) c.of_cells.ensures ∙ c.in_ok-cells.ensures))
    (plain_known n c.args.count c.args.number)

pub returns-clause-tagged : goal.returns-clause-tagged
returns-clause-tagged c = λ n.
    subst (λ (cs : List Cell). CellsTagged n cs) (sym (ap (λ (b : Loaded). b.cells) c.of_cells.ensures ∙ c.in_ok-cells.ensures))
    (plain_tagged n c.args.count c.args.number)
