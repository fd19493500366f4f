use Rattle.std.proofs.Common.{◌≡◌, ◌∙◌, ◌^◌, ap, sym, subst, List, [], ◌∷◌, ◌++◌, Some}
use Rattle.addr_map.specs.Rows.{row_of, row_at}
use Rattle.mem_objects.specs.Held.{Held}
use Rattle.mem_objects.specs.Memory.{Kept, HaveRows}
use Rattle.prov_memory.specs.contracts.memory.Memory.{the_view}
use Rattle.mem_objects.specs.Made.{AreNamed}
use Rattle.mem_objects.proofs.PieceLemmas.{named_born}
use Rattle.mem_objects.proofs.StoreLemmas.{rows_created}
use Rattle.exposure.specs.declared.prov.Prov.{Prov}
use Rattle.prov_memory.proofs.BirthLemmas.{failed_kept, failed_row, row_left}
use Rattle.prov_memory.proofs.KeepLemmas.{keeps_none}
use Rattle.prov_memory.proofs.memory.Memory.bear.Goals as goal

pub invariant_of-self-2 : goal.invariant_of-self-2
invariant_of-self-2 c =
    let row : row_of c.self-2.inside.map c.args.name ≡ Some (row_at c.args.name c.in_ok-base.base c.args.size c.args.align) =
    subst (λ (m : Kept). row_of m.rows c.args.name ≡ Some (row_at c.args.name c.in_ok-base.base c.args.size c.args.align))
    (sym c.self-2.view_is) c.in_ok-base.ensures.row in
    subst (λ (hs : List Held). HaveRows c.self-2.inside.map hs)
    (sym (c.in_ok-add_last.ensures.ok ∙ ap (λ (h : Held). c.self-2.inside.objects ++ h ∷ []) c.new-object.ensures))
    (rows_created c.self-2.inside.map c.self-2.inside.objects _ c.args.align c.self-2.invariant row)

pub returns-clause-named : goal.returns-clause-named
returns-clause-named c = λ named.
    let placed : AreNamed c.base_for.new.self = subst (λ (m : Kept). AreNamed m) (sym c.in_ok-base.ensures.rest) named in
    let before : AreNamed (the_view c.self-2.inside) = subst (λ (m : Kept). AreNamed m) (sym c.self-2.view_is) placed in
    named_born c.self-2.inside.origins _ c.self-2.inside.objects _ _ (c.in_ok-add_last.ensures.origins ∙ c.in_ok-origin.ensures.ok)
    (c.in_ok-add_last.ensures.ok ∙ ap (λ (h : Held). c.self-2.inside.objects ++ h ∷ []) c.new-object.ensures) c.in_ok-origin.ensures.number before

pub add_last-requires-clause-last : goal.add_last-requires-clause-last
add_last-requires-clause-last c = (c.self-2.inside.origins, c.args.name, c.in_ok-origin.ensures.ok)

pub returns-in_err-origin-clause-kept : goal.returns-in_err-origin-clause-kept
returns-in_err-origin-clause-kept c =
    let full = ap (λ (m : Kept). record m { created = 2 ^ 62 }) c.self-2.view_is in
    failed_kept _ c.args.self.now (record c.base_for.new.self { created = 2 ^ 62 }) _
    (ap (λ (ps : List Prov). record (the_view c.self-2.inside) { origins = ps; created = 2 ^ 62 }) c.in_err-origin.ensures.err ∙ full) c.in_ok-base.ensures.kept

pub returns-in_err-add_last-clause-kept : goal.returns-in_err-add_last-clause-kept
returns-in_err-add_last-clause-kept c =
    let full = ap (λ (m : Kept). record m { created = 2 ^ 62 }) c.self-2.view_is in
    let origins = c.in_err-add_last.ensures.taken c.self-2.inside.origins c.args.name c.in_ok-origin.ensures.ok in
    failed_kept _ c.args.self.now (record c.base_for.new.self { created = 2 ^ 62 }) _
    ((λ i. record (the_view c.self-2.inside) { objects = c.in_err-add_last.ensures.err i; origins = origins i; created = 2 ^ 62 }) ∙ full)
    c.in_ok-base.ensures.kept

pub returns-in_err-origin-clause-failed : goal.returns-in_err-origin-clause-failed
returns-in_err-origin-clause-failed c =
    let full = ap (λ (m : Kept). record m { created = 2 ^ 62 }) c.self-2.view_is in
    failed_row _ c.args.self.now (record c.base_for.new.self { created = 2 ^ 62 }) _ c.args.name c.args.size c.args.align
    (ap (λ (ps : List Prov). record (the_view c.self-2.inside) { origins = ps; created = 2 ^ 62 }) c.in_err-origin.ensures.err ∙ full)
    (row_left c.args.self.now c.base_for.new.self c.args.name c.in_ok-base.base c.args.size c.args.align c.base_for.ensures.rest c.in_ok-base.ensures.base
    c.in_ok-base.ensures.rows)

pub returns-in_err-add_last-clause-failed : goal.returns-in_err-add_last-clause-failed
returns-in_err-add_last-clause-failed c =
    let full = ap (λ (m : Kept). record m { created = 2 ^ 62 }) c.self-2.view_is in
    let origins = c.in_err-add_last.ensures.taken c.self-2.inside.origins c.args.name c.in_ok-origin.ensures.ok in
    failed_row _ c.args.self.now (record c.base_for.new.self { created = 2 ^ 62 }) _ c.args.name c.args.size c.args.align
    ((λ i. record (the_view c.self-2.inside) { objects = c.in_err-add_last.ensures.err i; origins = origins i; created = 2 ^ 62 }) ∙ full)
    (row_left c.args.self.now c.base_for.new.self c.args.name c.in_ok-base.base c.args.size c.args.align c.base_for.ensures.rest c.in_ok-base.ensures.base
    c.in_ok-base.ensures.rows)

pub returns-in_err-base-clause-kept : goal.returns-in_err-base-clause-kept
returns-in_err-base-clause-kept c =
    failed_kept _ c.args.self.now c.args.self.now c.base_for.new.self c.in_err-base.ensures.err (keeps_none c.args.self.now)
