use Rattle.std.proofs.Common.{ℕ, ◌∙◌, ap, Some, arith}
use Rattle.std.specs.Prelude.{slice_get}
use Rattle.c_types.specs.Types.{type_of}
use Rattle.prov_memory.proofs.LoadLemmas.{other_agrees}
use Rattle.prov_memory.proofs.memory.Memory.suits_tag.Goals as goal

pub returns-in-Some-type_at : goal.returns-in-Some-type_at
returns-in-Some-type_at c =
    c.fits_tag-in-Some-type_at.ensures
    ∙ other_agrees (type_of c.args.ty.now) c.args.index c.args.self.now.types c.args.cell (Some c.in-Some-type_at.known.now)
    (λ e. omega arith) c.in_default.ensures (c.in-Some-type_at.ensures ∙ ap (λ (k : ℕ). slice_get c.args.self.now.types k) c.saturating_sub.ensures)
