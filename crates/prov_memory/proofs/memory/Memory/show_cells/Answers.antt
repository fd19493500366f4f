use Rattle.std.proofs.Common.{◌≡◌, ◌+◌, ◌<◌, ◌∙◌, ◌++◌, ap, sym, arith, List, length, map}
use Rattle.ub_base.specs.declared.names.ObjName.{ObjName}
use Rattle.ub_base.specs.declared.names.Item.TheVariants.{Expose}
use Rattle.mem_spec.specs.Acts.{candidates, origins_in}
use Rattle.mem_spec.specs.Store.{TaggedByte}
use Rattle.mem_objects.specs.Cells.{cell_at, byte_in}
use Rattle.mem_objects.specs.Loads.{origins_of}
use Rattle.mem_objects.specs.Memory.{Kept}
use Rattle.prov_memory.proofs.PartLemmas.{next_piece, range_to}
use Rattle.prov_memory.proofs.ShowLemmas.{piece_named, showing, shown_next, noted_next}
use Rattle.prov_memory.proofs.memory.Memory.show_cells.Goals as goal

pub loop-at-preserved : goal.loop-at-preserved
loop-at-preserved c =
    let m = c.args.self.now in
    let now = c.loop-at.self in
    let new = c.show_piece.new.self in
    let cell = c.cell_at-cell.result in
    let cs = c.args.cells.now in
    let n = c.loop-at.at in
    let named = piece_named now.origins cell.state cell in
    let prov = named.0 in
    let inv = c.loop-at.invariant in
    let lt : n < length cs = omega arith in
    let few : n < 8 = omega (arith, lt, c.requires) in
    let here : n ≡ 0 + n = omega arith in
    let piece : candidates prov ≡ origins_in (byte_in m.origins (cell_at cs (0 + n))) =
    next_piece m now c.cell_at-cell.result (cell_at cs (0 + n)) prov (ap (λ (k : Kept). k.origins) inv.shown)
    (c.cell_at-cell.ensures ∙ ap (cell_at cs) here) named.1 in
    record {
      shown = shown_next m now new cs 0 n prov inv.shown piece
          (c.show_piece.ensures.shown ∙ ap (λ (xs : List ObjName). showing xs now) (sym named.1));
      items = λ room. noted_next m cs c.args.t.now c.loop-at.t c.show_piece.new.t 0 n prov few room (inv.items room) piece
          (λ few. c.show_piece.ensures.items few ∙ ap (λ (xs : List ObjName). c.loop-at.t ++ map Expose xs) (sym named.1));
    }

pub returns : goal.returns
returns c =
    let m = c.args.self.now in
    let cs = c.args.cells.now in
    let end : c.loop-at.at ≡ length cs = omega arith in
    record {
      shown = c.loop-at.invariant.shown ∙ ap (λ (bs : List TaggedByte). showing (origins_of bs) m) (range_to m cs c.loop-at.at end);
      items = λ room. c.loop-at.invariant.items room ∙ ap (λ (bs : List TaggedByte). c.args.t.now ++ map Expose (origins_of bs))
          (range_to m cs c.loop-at.at end);
    }
