use Rattle.std.proofs.Common.{◌≡◌, sym, ap, ◌∙◌, Some, None, refl, rules}
use Rattle.std.specs.Prelude.{is_some}
use Rattle.ub_base.specs.Names.{same_object}
use Rattle.exposure.proofs.CellLemmas.{kept_in_is, cell_of, settles, settles_none, same_by, settles_if, answer_if, ok_of, some_not_none}
use Rattle.exposure.proofs.narrowed.Narrowed.narrow.Goals as goal

pub returns-in-None-clause-answer : goal.returns-in-None-clause-answer
returns-in-None-clause-answer c =
    let e : cell_of c.self.inside.cells.entries c.args.id ≡ None = sym (c.copied.ensures ∙ c.get.ensures.value) ∙ c.in-None.is in
    rw (← c.self.view_is, kept_in_is c.self.inside.cells.entries c.args.id, e) refl

pub returns-in-None-clause-settled : goal.returns-in-None-clause-settled
returns-in-None-clause-settled c =
    let e : cell_of c.self.inside.cells.entries c.args.id ≡ None = sym (c.copied.ensures ∙ c.get.ensures.value) ∙ c.in-None.is in
    rw (← c.self.view_is) (settles_none c.self.inside.cells.entries c.args.id c.args.keep e)

pub returns-in-Some-Some-clause-answer : goal.returns-in-Some-Some-clause-answer
returns-in-Some-Some-clause-answer c =
    let e : cell_of c.self.inside.cells.entries c.args.id ≡ Some (Some c.in-Some-Some.kept) =
    sym (c.copied.ensures ∙ c.get.ensures.value) ∙ c.in-Some-Some.is ∙ ap Some c.in-Some-Some.field-0-is in
    let s : c.eq.result ≡ same_object c.in-Some-Some.kept c.args.keep = same_by c.eq.result c.in-Some-Some.kept c.args.keep (search rules) (search rules) in
    rw (← c.self.view_is) (answer_if c.eq.result c.self.inside.cells.entries c.args.id c.args.keep c.in-Some-Some.kept e s)

pub returns-in-Some-Some-clause-settled : goal.returns-in-Some-Some-clause-settled
returns-in-Some-Some-clause-settled c =
    let e : cell_of c.self.inside.cells.entries c.args.id ≡ Some (Some c.in-Some-Some.kept) =
    sym (c.copied.ensures ∙ c.get.ensures.value) ∙ c.in-Some-Some.is ∙ ap Some c.in-Some-Some.field-0-is in
    let s : c.eq.result ≡ same_object c.in-Some-Some.kept c.args.keep = same_by c.eq.result c.in-Some-Some.kept c.args.keep (search rules) (search rules) in
    rw (← c.self.view_is) (settles_if c.eq.result c.self.inside.cells.entries c.args.id c.args.keep c.in-Some-Some.kept e s)

pub returns-in-Some-None-clause-answer : goal.returns-in-Some-None-clause-answer
returns-in-Some-None-clause-answer c =
    let e : cell_of c.self.inside.cells.entries c.args.id ≡ Some None =
    sym (c.copied.ensures ∙ c.get.ensures.value) ∙ c.in-Some-None.is ∙ ap Some c.in-Some-None.field-0-is in
    rw (← c.self.view_is, kept_in_is c.self.inside.cells.entries c.args.id, e) refl

pub returns-in-Some-None-clause-settled : goal.returns-in-Some-None-clause-settled
returns-in-Some-None-clause-settled c =
    let e : cell_of c.self.inside.cells.entries c.args.id ≡ Some None =
    sym (c.copied.ensures ∙ c.get.ensures.value) ∙ c.in-Some-None.is ∙ ap Some c.in-Some-None.field-0-is in
    rw (← c.self.view_is) (settles c.self.inside.cells.entries c.insert.new.self.entries c.args.id c.args.keep (ap is_some e)
    (ok_of c.insert.result _ _ c.insert.ensures.updates c.insert.ensures.absent (some_not_none _ None e)).0)
