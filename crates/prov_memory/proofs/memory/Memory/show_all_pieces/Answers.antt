use Rattle.std.proofs.Common.{◌<◌, ◌∙◌, ◌++◌, ap, sym, arith, List, map}
use Rattle.ub_base.specs.declared.names.Item.TheVariants.{Expose}
use Rattle.ub_base.specs.declared.names.ObjName.{ObjName}
use Rattle.prov_memory.proofs.ShowLemmas.{piece_named, piece_seen, showing, shown_next, noted_next}
use Rattle.prov_memory.proofs.memory.Memory.show_all_pieces.Goals as goal

pub loop-offset-preserved : goal.loop-offset-preserved
loop-offset-preserved c =
    let m = c.args.self.now in
    let now = c.loop-offset.self in
    let new = c.show_piece.new.self in
    let cell = c.cell_in-cell.result in
    let n = c.loop-offset.offset in
    let named = piece_named now.origins cell.state cell in
    let prov = named.0 in
    let inv = c.loop-offset.invariant in
    let lt : n < 8 = omega arith in
    record {
      shown = λ h e. shown_next m now new h.cells c.args.from n prov (inv.shown h e)
          (piece_seen m now h c.args.at c.args.from n cell prov e (inv.shown h e) c.cell_in-cell.ensures named.1)
          (c.show_piece.ensures.shown ∙ ap (λ (xs : List ObjName). showing xs now) (sym named.1));
      items = λ h e room. noted_next m h.cells c.args.t.now c.loop-offset.t c.show_piece.new.t c.args.from n prov lt room (inv.items h e room)
          (piece_seen m now h c.args.at c.args.from n cell prov e (inv.shown h e) c.cell_in-cell.ensures named.1)
          (λ few. c.show_piece.ensures.items few ∙ ap (λ (xs : List ObjName). c.loop-offset.t ++ map Expose xs) (sym named.1));
    }
