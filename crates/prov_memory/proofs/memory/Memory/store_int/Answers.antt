use Rattle.std.proofs.Common.{◌≡◌, ◌∙◌, ap, take, to_z, of_z, to_z-of_z}
use Rattle.std.specs.Int.{w128}
use Rattle.mem_spec.specs.Agreement.{bytes_of_kind}
use Rattle.mem_spec.specs.Bytes.{low_bits, number_bytes}
use Rattle.mem_objects.specs.Pieces.{plain_cells}
use Rattle.prov_memory.proofs.LoadLemmas.{same_bytes}
use Rattle.prov_memory.proofs.ValueLemmas.{first_bytes, number_seen, number_short, stored_as, unstored_as}
use Rattle.std.proofs.Common.{List, length, sym, subst}
use Rattle.mem_objects.specs.declared.cell.Cell.{Cell}
use Rattle.mem_objects.specs.Memory.{CellsKnown}
use Rattle.mem_objects.specs.Tags.{CellsTagged}
use Rattle.mem_objects.proofs.PieceLemmas.{plain_known}
use Rattle.mem_objects.proofs.SoundLemmas.{plain_tagged}
use Rattle.prov_memory.proofs.memory.Memory.store_int.Goals as goal

pub returns-clause-exact : goal.returns-clause-exact
returns-clause-exact c =
    let k = c.args.kind in
    let low = low_bits c.args.value in
    let value : to_z w128 (of_z w128 c.args.value) ≡ c.args.value = to_z-of_z c.ranges.value in
    let n = c.bytes-len.result in
    let cs = take n c.number_cells-cells.result in
    let is : cs ≡ plain_cells (bytes_of_kind k) low = first_bytes c.number_cells-cells.result k n low
    (c.number_cells-cells.ensures ∙ ap (plain_cells 8) (c.low_bits.ensures ∙ ap low_bits value)) (c.bytes-len.ensures.value ∙ same_bytes k) in
    stored_as c.store_cells.result c.args.self.now c.store_cells.new.self c.args.first c.args.via c.args.align c.args.addr c.args.prov cs
    (number_bytes (bytes_of_kind k) low) c.store_cells.new.t (number_seen c.args.self.now cs (bytes_of_kind k) low is)
    (number_short cs k low is) c.store_cells.ensures.exact

pub returns-clause-raises : goal.returns-clause-raises
returns-clause-raises c =
    let k = c.args.kind in
    let low = low_bits c.args.value in
    let value : to_z w128 (of_z w128 c.args.value) ≡ c.args.value = to_z-of_z c.ranges.value in
    let n = c.bytes-len.result in
    let cs = take n c.number_cells-cells.result in
    let is : cs ≡ plain_cells (bytes_of_kind k) low = first_bytes c.number_cells-cells.result k n low
    (c.number_cells-cells.ensures ∙ ap (plain_cells 8) (c.low_bits.ensures ∙ ap low_bits value)) (c.bytes-len.ensures.value ∙ same_bytes k) in
    unstored_as c.store_cells.result c.args.self.now c.args.first c.args.via c.args.align c.args.addr c.args.prov cs (number_bytes (bytes_of_kind k) low)
    (number_seen c.args.self.now cs (bytes_of_kind k) low is) c.store_cells.ensures.raises

pub returns-clause-kept : goal.returns-clause-kept
returns-clause-kept c = λ numbered.
    let k = c.args.kind in
    let low = low_bits c.args.value in
    let value : to_z w128 (of_z w128 c.args.value) ≡ c.args.value = to_z-of_z c.ranges.value in
    let n = c.bytes-len.result in
    let cs = take n c.number_cells-cells.result in
    let is : cs ≡ plain_cells (bytes_of_kind k) low = first_bytes c.number_cells-cells.result k n low
    (c.number_cells-cells.ensures ∙ ap (plain_cells 8) (c.low_bits.ensures ∙ ap low_bits value)) (c.bytes-len.ensures.value ∙ same_bytes k) in
    let origins = length c.args.self.now.origins in
    let types = length c.args.self.now.types in
    c.store_cells.ensures.kept numbered
    (subst (λ (l : List Cell). CellsKnown origins l) (sym is) (plain_known origins (bytes_of_kind k) low))
    (subst (λ (l : List Cell). CellsTagged types l) (sym is) (plain_tagged types (bytes_of_kind k) low))
