use Rattle.std.proofs.Common.{◌≡◌, ◌++◌, ◌∷◌, [], ap, sym, subst, ◌∙◌}
use Rattle.std.proofs.lemmas.Result.{err_from_is_err_and}
use Rattle.ub_base.specs.declared.names.Item.TheVariants.{Alive, Read}
use Rattle.mem_objects.specs.Memory.{Kept}
use Rattle.mem_objects.specs.Made.{IsMade, settling_items}
use Rattle.mem_objects.specs.Sound.{IsSound}
use Rattle.mem_objects.proofs.ActLemmas.{noted_after}
use Rattle.mem_objects.proofs.WriteLemmas.{few}
use Rattle.prov_memory.proofs.BlockLemmas.{block_unreached, block_done, block_cells, block_tagged}
use Rattle.mem_objects.proofs.SoundLemmas.{block_made, block_sound, block_known, typed_made, typed_sound}
use Rattle.prov_memory.proofs.KeepLemmas.{keeps_then, keeps_after, keeps_same, keeps_types}
use Rattle.prov_memory.proofs.memory.Memory.load_block.Goals as goal

pub returns-in_err-found-clause-raises : goal.returns-in_err-found-clause-raises
returns-in_err-found-clause-raises c =
    let p = err_from_is_err_and c.from_residual.result c.from_residual.ensures.1 in
    rw (p.1, p.2) (block_unreached c.args.self.now c.args.size c.args.align c.args.addr c.args.prov c.in_err-found.field-0.0 c.in_err-found.ensures.raises)

pub returns-clause-exact : goal.returns-clause-exact
returns-clause-exact c =
    let f = c.in_ok-found.found in
    let noted : c.note_read.new.t ≡ (settling_items f.settles ++ Alive f.name ∷ []) ++ Read f.name f.from c.args.size ∷ [] =
    noted_after c.access.new.t c.note_read.new.t (settling_items f.settles ++ Alive f.name ∷ []) _ (c.in_ok-found.ensures.items c.clear.ensures)
    (few f.settles f.name) c.note_read.ensures in
    rw c.of_cells.ensures (block_done c.args.self.now c.access.new.self c.cells_of.new.self c.settle.new.self f c.args.size c.args.align c.args.addr
    c.args.prov c.in_ok-cells.cells.items c.note_read.new.t c.access.ensures.same c.in_ok-found.ensures.exact c.in_ok-found.ensures.found
    c.in_ok-found.ensures.settles c.cells_of.ensures.more c.in_ok-cells.ensures.taken c.settle.ensures.rest c.settle.ensures.store noted)

pub returns-clause-cells : goal.returns-clause-cells
returns-clause-cells c =
    rw c.of_cells.ensures (block_cells c.args.self.now c.access.new.self c.cells_of.new.self c.settle.new.self c.in_ok-found.found c.args.size
    c.in_ok-cells.cells.items c.access.ensures.same c.in_ok-found.ensures.found c.in_ok-cells.ensures.taken c.settle.ensures.rest)

pub returns-clause-tagged : goal.returns-clause-tagged
returns-clause-tagged c = block_tagged c.args.self.now c.access.new.self c.cells_of.new.self c.settle.new.self c.access.ensures.same
    c.cells_of.ensures.more c.settle.ensures.rest

pub returns-clause-known : goal.returns-clause-known
returns-clause-known c =
    rw c.of_cells.ensures (block_known c.args.self.now c.access.new.self c.cells_of.new.self c.settle.new.self c.in_ok-found.found c.args.size
    c.in_ok-cells.cells.items c.access.ensures.same c.in_ok-found.ensures.found c.cells_of.ensures.rest c.settle.ensures.rest c.in_ok-cells.ensures.known)

pub returns-clause-made : goal.returns-clause-made
returns-clause-made c =
    block_made c.args.self.now c.access.new.self c.cells_of.new.self c.settle.new.self c.access.ensures.same c.cells_of.ensures.rest c.settle.ensures.rest
    c.settle.ensures.cells

pub returns-in_err-cells-clause-made : goal.returns-in_err-cells-clause-made
returns-in_err-cells-clause-made c = λ p made.
    typed_made c.access.new.self c.cells_of.new.self c.cells_of.ensures.rest p (subst (λ (m : Kept). IsMade m p) (sym c.access.ensures.same) made)

pub returns-clause-sound : goal.returns-clause-sound
returns-clause-sound c =
    block_sound c.args.self.now c.access.new.self c.cells_of.new.self c.settle.new.self c.access.ensures.same c.cells_of.ensures.rest c.settle.ensures.rest
    c.settle.ensures.cells

pub returns-in_err-cells-clause-sound : goal.returns-in_err-cells-clause-sound
returns-in_err-cells-clause-sound c = λ s.
    typed_sound c.access.new.self c.cells_of.new.self c.cells_of.ensures.rest (subst (λ (m : Kept). IsSound m) (sym c.access.ensures.same) s)

pub returns-clause-rest : goal.returns-clause-rest
returns-clause-rest c =
    ap (λ (m : Kept). record m { types = [] }) c.settle.ensures.rest ∙ ap (λ (m : Kept). record m { cells = [] }) c.cells_of.ensures.rest ∙ ap
    (λ (m : Kept). record m { cells = []; types = [] }) c.access.ensures.same

pub returns-in_err-cells-clause-rest : goal.returns-in_err-cells-clause-rest
returns-in_err-cells-clause-rest c =
    ap (λ (m : Kept). record m { cells = [] }) c.cells_of.ensures.rest ∙ ap (λ (m : Kept). record m { cells = []; types = [] }) c.access.ensures.same

pub returns-clause-kept : goal.returns-clause-kept
returns-clause-kept c =
    keeps_after c.args.self.now c.access.new.self c.settle.new.self c.access.ensures.same
    (keeps_then c.access.new.self c.cells_of.new.self c.settle.new.self
    (keeps_types c.access.new.self c.cells_of.new.self c.cells_of.ensures.more) c.settle.ensures.kept)

pub returns-in_err-found-clause-kept : goal.returns-in_err-found-clause-kept
returns-in_err-found-clause-kept c = keeps_same c.args.self.now c.access.new.self c.access.ensures.same

pub returns-in_err-cells-clause-kept : goal.returns-in_err-cells-clause-kept
returns-in_err-cells-clause-kept c =
    keeps_after c.args.self.now c.access.new.self c.cells_of.new.self c.access.ensures.same
    (keeps_types c.access.new.self c.cells_of.new.self c.cells_of.ensures.more)
