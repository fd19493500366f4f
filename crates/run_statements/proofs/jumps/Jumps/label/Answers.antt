use Rattle.std.proofs.Common.{◌≡◌, ◌∙◌, ap, length, map, refl, slice_get, sym, List, Some, Vec, Global}
use Rattle.std.proofs.lemmas.Option.{slice_get_read}
use Rattle.c_model.specs.Control.{to_label}
use Rattle.run_control.specs.declared.targets.Found.{Found}
use Rattle.run_control.specs.Search.{looked}
use Rattle.run_control.specs.Targets.{seen}
use Rattle.run_statements.proofs.Jumping.{is_found}
use Rattle.run_statements.proofs.jumps.Jumps.label.Goals as goal

pub returns-in-Some-find : goal.returns-in-Some-find
returns-in-Some-find c = λ bodies body has there.
    let read = c.in-Some.ensures.lookup in
    let at : slice_get c.deref.result.now c.args.function ≡ Some c.in-Some.labels.now =
    slice_get_read c.deref.result.now (length c.deref.result.now) c.args.function c.in-Some.labels.now refl read.3.0 read.1 in
    is_found c.args.self.now bodies body c.args.function c.args.label c.in-Some.labels.now c.in-Some-find.place has there
    (ap (λ (xs : List (Vec Found Global)). slice_get xs c.args.function) (sym c.deref.ensures.value) ∙ at)
    (λ m links. c.in-Some-find.ensures m links ∙ ap (λ (xs : List Found). looked (to_label c.args.label) (map (seen m links) xs)) c.deref-2.ensures.value)
