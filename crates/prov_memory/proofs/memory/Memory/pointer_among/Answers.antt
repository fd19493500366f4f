use Rattle.std.proofs.Common.{◌≡◌, ◌∙◌, ap, sym, subst, refl, length, Option}
use Rattle.std.specs.Prelude.{IfSome}
use Rattle.exposure.specs.declared.prov.Prov.{Prov}
use Rattle.mem_spec.specs.Acts.{are_pieces, origin_in}
use Rattle.mem_objects.specs.Cells.{byte_in, prov_numbered}
use Rattle.mem_objects.specs.Access.{range_in}
use Rattle.mem_objects.specs.declared.cell.Cell.{Cell}
use Rattle.prov_memory.proofs.PartLemmas.{among_none, among_some}
use Rattle.prov_memory.proofs.memory.Memory.pointer_among.Goals as goal

pub returns-in-None : goal.returns-in-None
returns-in-None c =
    let m = c.args.self.now in
    among_none m c.args.cells.now (sym c.in-None.is ∙ c.origin_in.ensures.value ∙ ap (λ (k : Cell). origin_in (byte_in m.origins k)) c.cell_at-cell.ensures)

pub returns-in-Some : goal.returns-in-Some
returns-in-Some c =
    let m = c.args.self.now in
    let named : prov_numbered m.origins c.cell_at-cell.result.origin.number ≡ c.in-Some.prov =
    subst (λ (o : Option Prov). IfSome o (λ p. prov_numbered m.origins c.cell_at-cell.result.origin.number ≡ p)) c.in-Some.is c.origin_in.ensures.numbered in
    c.then_some.ensures ∙ among_some m c.args.cells.now c.in-Some.prov c.are_pieces.result (length c.args.cells.now)
    (sym c.in-Some.is ∙ c.origin_in.ensures.value ∙ ap (λ (k : Cell). origin_in (byte_in m.origins k)) c.cell_at-cell.ensures) refl (c.are_pieces.ensures ∙ ap
    (λ (p : Prov). are_pieces p 0 (range_in m c.args.cells.now 0 (length c.args.cells.now))) named)
