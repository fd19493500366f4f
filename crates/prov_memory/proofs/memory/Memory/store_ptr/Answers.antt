use Rattle.std.proofs.Common.{List, length, sym, subst}
use Rattle.mem_objects.specs.declared.cell.Cell.{Cell}
use Rattle.mem_objects.specs.Memory.{CellsKnown}
use Rattle.mem_objects.proofs.SoundLemmas.{pieces_known}
use Rattle.mem_spec.specs.Bytes.{pointer_bytes}
use Rattle.prov_memory.proofs.ValueLemmas.{pieces_seen, pieces_short, stored_as, unstored_as}
use Rattle.mem_objects.specs.Tags.{CellsTagged}
use Rattle.mem_objects.proofs.SoundLemmas.{pieces_tagged}
use Rattle.prov_memory.proofs.memory.Memory.store_ptr.Goals as goal

pub returns-clause-exact : goal.returns-clause-exact
returns-clause-exact c = λ named made.
    let cs = c.pointer_cells-cells.result in
    stored_as c.store_cells.result c.args.self.now c.store_cells.new.self c.args.first c.args.via c.args.align c.args.addr c.args.prov cs
    (pointer_bytes 8 0 c.args.value_prov c.args.value_addr) c.store_cells.new.t
    (pieces_seen c.args.self.now cs c.origin_of.result c.args.value_prov c.args.value_addr c.pointer_cells-cells.ensures
    (c.origin_of.ensures.prov named made)) (pieces_short cs c.origin_of.result c.args.value_addr c.pointer_cells-cells.ensures) c.store_cells.ensures.exact

pub returns-clause-raises : goal.returns-clause-raises
returns-clause-raises c = λ named made.
    let cs = c.pointer_cells-cells.result in
    unstored_as c.store_cells.result c.args.self.now c.args.first c.args.via c.args.align c.args.addr c.args.prov cs
    (pointer_bytes 8 0 c.args.value_prov c.args.value_addr)
    (pieces_seen c.args.self.now cs c.origin_of.result c.args.value_prov c.args.value_addr c.pointer_cells-cells.ensures
    (c.origin_of.ensures.prov named made)) c.store_cells.ensures.raises

pub returns-clause-known : goal.returns-clause-known
returns-clause-known c = λ named made known.
    let n = length c.args.self.now.origins in
    c.store_cells.ensures.known known (subst (λ (cs : List Cell). CellsKnown n cs) (sym c.pointer_cells-cells.ensures)
    (pieces_known n 8 0 c.args.value_addr c.origin_of.result (c.origin_of.ensures.number named made)))

pub returns-clause-sound : goal.returns-clause-sound
returns-clause-sound c = λ s made.
    let n = length c.args.self.now.origins in
    c.store_cells.ensures.sound s (subst (λ (cs : List Cell). CellsKnown n cs) (sym c.pointer_cells-cells.ensures)
    (pieces_known n 8 0 c.args.value_addr c.origin_of.result (c.origin_of.ensures.number s.named made)))

pub returns-clause-kept : goal.returns-clause-kept
returns-clause-kept c = λ numbered named made.
    let n = length c.args.self.now.origins in
    let types = length c.args.self.now.types in
    c.store_cells.ensures.kept numbered (subst (λ (cs : List Cell). CellsKnown n cs) (sym c.pointer_cells-cells.ensures)
    (pieces_known n 8 0 c.args.value_addr c.origin_of.result (c.origin_of.ensures.number named made)))
    (subst (λ (cs : List Cell). CellsTagged types cs) (sym c.pointer_cells-cells.ensures) (pieces_tagged types 8 0 c.args.value_addr c.origin_of.result))
