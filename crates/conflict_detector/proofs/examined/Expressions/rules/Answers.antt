use Rattle.std.proofs.Common.{◌∙◌, ap, refl, sym}
use Rattle.std.specs.Prelude.{slice_get}
use Rattle.std.proofs.lemmas.Option.{slice_get_past, slice_get_read}
use Rattle.conflict_detector.proofs.examined.Expressions.rules.Goals as goal

pub returns-in-Some-clause-some : goal.returns-in-Some-clause-some
returns-in-Some-clause-some c =
    let f = c.in-Some.ensures.lookup in (
      c.in-Some.examined.now,
      ap (λ xs. slice_get xs c.args.number) (sym c.deref.ensures.value) ∙ slice_get_read c.deref.result.now _ c.args.number c.in-Some.examined.now refl f.3.0
          f.1,
      refl,
    )

pub returns-in-None-clause-none : goal.returns-in-None-clause-none
returns-in-None-clause-none c = λ none e there. absurd (
    let past = slice_get_past c.deref.result.now c.args.number c.in-None.ensures.lookup.3 in
    let z = sym there ∙ (ap (λ xs. slice_get xs c.args.number) (sym c.deref.ensures.value) ∙ past) in cc)
