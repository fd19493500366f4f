use Rattle.std.proofs.Common.{◌≡◌, ◌∙◌, ap, arith, true, length, map, refl, rules, slice_get, sym, to_z, of_z, List, ℤ, Some, None, Vec, Global}
use Rattle.std.specs.Int.{w128}
use Rattle.std.proofs.lemmas.Int.{to_z-of_z}
use Rattle.std.proofs.lemmas.Option.{slice_get_read}
use Rattle.c_model.specs.Control.{to_case, to_default}
use Rattle.run_control.specs.declared.targets.Found.{Found}
use Rattle.run_control.specs.Search.{looked}
use Rattle.run_control.specs.Targets.{seen}
use Rattle.run_statements.proofs.Casing.{case_else, case_found, case_there}
use Rattle.run_statements.proofs.jumps.Jumps.case.Goals as goal

pub returns-in-Some-find : goal.returns-in-Some-find
returns-in-Some-find c = λ bodies body has there.
    let on : c.is_of.result ≡ true = grind (arith, c.if-not-is_of.false) in
    let read = c.in-Some.ensures.lookup in
    let value : to_z w128 (of_z w128 c.args.value) ≡ c.args.value = to_z-of_z w128 c.args.value (search rules) in
    let at : slice_get c.deref.result.now c.args.switch ≡ Some c.in-Some.cases.now =
    slice_get_read c.deref.result.now (length c.deref.result.now) c.args.switch c.in-Some.cases.now refl read.3.0 read.1 in
    let own = case_there c.args.self.now bodies c.args.function body c.args.switch c.in-Some.cases.now has there (c.is_of.ensures.own on)
    (ap (λ (xs : List (Vec Found Global)). slice_get xs c.args.switch) (sym c.deref.ensures.value) ∙ at) in
    case_found c.args.self.now.links.items c.in-Some.cases.now.items c.args.switch body.now own.0 c.args.value c.in-Some-find.place own.2 own.1
    (λ m links. c.in-Some-find.ensures m links ∙ ap (λ (z : ℤ). looked (to_case z) (map (seen m links) c.deref-2.result.now)) value
    ∙ ap (λ (xs : List Found). looked (to_case c.args.value) (map (seen m links) xs)) c.deref-2.ensures.value)

pub returns-in-None : goal.returns-in-None
returns-in-None c = λ bodies body has there.
    let on : c.is_of.result ≡ true = grind (arith, c.if-not-is_of.false) in
    let read = c.in-Some.ensures.lookup in
    let value : to_z w128 (of_z w128 c.args.value) ≡ c.args.value = to_z-of_z w128 c.args.value (search rules) in
    let at : slice_get c.deref.result.now c.args.switch ≡ Some c.in-Some.cases.now =
    slice_get_read c.deref.result.now (length c.deref.result.now) c.args.switch c.in-Some.cases.now refl read.3.0 read.1 in
    let own = case_there c.args.self.now bodies c.args.function body c.args.switch c.in-Some.cases.now has there (c.is_of.ensures.own on)
    (ap (λ (xs : List (Vec Found Global)). slice_get xs c.args.switch) (sym c.deref.ensures.value) ∙ at) in
    case_else c.args.self.now.links.items c.in-Some.cases.now.items c.args.switch body.now own.0 c.args.value None c.find-in-None.result refl own.2 own.1
    (λ m links. c.in-None.ensures m links ∙ ap (λ (z : ℤ). looked (to_case z) (map (seen m links) c.deref-2.result.now)) value
    ∙ ap (λ (xs : List Found). looked (to_case c.args.value) (map (seen m links) xs)) c.deref-2.ensures.value)
    (λ m links. c.find-in-None.ensures m links ∙ ap (λ (xs : List Found). looked to_default (map (seen m links) xs)) c.deref-in-None.ensures.value)
