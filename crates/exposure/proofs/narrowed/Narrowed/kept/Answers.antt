use Rattle.std.proofs.Common.{◌≡◌, sym, ap, ◌∙◌, Some, None}
use Rattle.exposure.proofs.CellLemmas.{kept_in_is, kept_of, cell_of}
use Rattle.exposure.proofs.narrowed.Narrowed.kept.Goals as goal

pub returns-in_err-copied : goal.returns-in_err-copied
returns-in_err-copied c =
    let cs = c.self.inside.cells.entries in
    let e : cell_of cs c.args.id ≡ None = sym (c.copied.ensures ∙ c.get.ensures.value) ∙ c.in_err-copied.was in
    rw (← c.self.view_is) (c.from_residual.ensures ∙ sym (kept_in_is cs c.args.id ∙ ap kept_of e))

pub returns : goal.returns
returns c =
    let cs = c.self.inside.cells.entries in
    let e : cell_of cs c.args.id ≡ Some c.in_ok-copied.field-0 = sym (c.copied.ensures ∙ c.get.ensures.value) ∙ c.in_ok-copied.was in
    rw (← c.self.view_is) (sym (kept_in_is cs c.args.id ∙ ap kept_of e))
