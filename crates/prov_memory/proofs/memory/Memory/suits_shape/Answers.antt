use Rattle.std.proofs.Common.{ℕ, ◌∙◌, ap}
use Rattle.std.specs.Prelude.{slice_get}
use Rattle.c_types.specs.Types.{CType}
use Rattle.c_types.specs.Shapes.{form_of}
use Rattle.mem_spec.specs.Agreement.{suits_form}
use Rattle.prov_memory.proofs.AgreementLemmas.{kind_type, other_type, no_type}
use Rattle.prov_memory.proofs.memory.Memory.suits_shape.Goals as goal

pub returns-in-Some : goal.returns-in-Some
returns-in-Some c = λ ty is.
    c.fits_shape.ensures
    ∙ ap (λ (a : CType). suits_form a (form_of c.args.shape.now) c.args.from)
    (c.int_type-ty.ensures ∙ kind_type c.args.self.now c.args.id.number c.in-Some.kind ty c.in-Some.ensures is)

pub returns-in-None : goal.returns-in-None
returns-in-None c = λ ty is.
    no_type c.args.self.now c.args.id.number ty c.in_default.ensures
    (c.in-None.ensures ∙ ap (λ (k : ℕ). slice_get c.args.self.now.types k) c.saturating_sub.ensures) is

pub returns-in-Some-type_at : goal.returns-in-Some-type_at
returns-in-Some-type_at c = λ ty is.
    c.fits_shape-in-Some-type_at.ensures
    ∙ ap (λ (a : CType). suits_form a (form_of c.args.shape.now) c.args.from)
    (other_type c.args.self.now c.args.id.number c.in-Some-type_at.ty.now ty c.in_default.ensures
    (c.in-Some-type_at.ensures ∙ ap (λ (k : ℕ). slice_get c.args.self.now.types k) c.saturating_sub.ensures) is)
