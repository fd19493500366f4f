use Rattle.std.proofs.Common.{◌≡◌, ◌∙◌, sym, subst, arith, List, None}
use Rattle.ub_base.specs.Names.{same_object}
use Rattle.ub_base.proofs.NameLemmas.{same_object_refl}
use Rattle.addr_map.specs.declared.map.Row.{Row}
use Rattle.addr_map.specs.Rows.{row_of, row_at}
use Rattle.mem_objects.specs.Memory.{HaveRows}
use Rattle.mem_objects.proofs.StoreLemmas.{row_as, end_of_row, rows_inserted, inserted_same}
use Rattle.std.proofs.Common.{true, rules, ◌≤◌}
use Rattle.addr_map.specs.Rows.{is_power}
use Rattle.prov_memory.specs.contracts.memory.Memory.{the_view}
use Rattle.prov_memory.proofs.BirthLemmas.{keeps_full, keeps_placed, base_high}
use Rattle.prov_memory.proofs.memory.Memory.base_for.Goals as goal

pub returns-then-row-align-clause-row : goal.returns-then-row-align-clause-row
returns-then-row-align-clause-row c =
    rw (← c.self.view_is) (row_as c.self.inside.map c.args.name c.in-Some.row c.args.size c.args.align (sym c.in-Some.ensures.row) c.if-row-size.true
    c.if-row-align.true)

pub returns-then-row-align-clause-end : goal.returns-then-row-align-clause-end
returns-then-row-align-clause-end c =
    omega (
      arith,
      end_of_row (λ s. same_object s.name c.args.name) c.in-Some.row c.self.inside.map (sym c.in-Some.ensures.row),
      c.in-Some.ensures.end,
      c.if-row-size.true,
    )

pub returns-then-row-align-clause-kept : goal.returns-then-row-align-clause-kept
returns-then-row-align-clause-kept c = keeps_full c.args.self.now

pub invariant_of-self-2 : goal.invariant_of-self-2
invariant_of-self-2 c =
    let none : row_of c.self.inside.map c.args.name ≡ None = sym c.row.ensures.row ∙ c.in_default.is in
    subst (λ (rows : List Row). HaveRows rows c.self.inside.objects) (sym c.in_ok-place.ensures.row)
    (rows_inserted c.self.inside.map (row_at c.args.name c.in_ok-place.field-0 c.args.size c.args.align) c.self.inside.objects none c.self.invariant)

pub returns-clause-row : goal.returns-clause-row
returns-clause-row c =
    let none : row_of c.self.inside.map c.args.name ≡ None = sym c.row.ensures.row ∙ c.in_default.is in
    rw c.in_ok-place.ensures.row (inserted_same (λ s. same_object s.name c.args.name) (row_at c.args.name c.in_ok-place.field-0 c.args.size c.args.align)
    c.self.inside.map (same_object_refl c.args.name) none)

pub returns-clause-kept : goal.returns-clause-kept
returns-clause-kept c =
    let none : row_of c.self.inside.map c.args.name ≡ None = sym c.row.ensures.row ∙ c.in_default.is in
    let power : is_power c.args.align ≡ true = search rules in
    let high : 16777216 ≤ c.in_ok-place.field-0 =
    omega (arith, c.in_ok-place.ensures.base, base_high c.in-Some-mode.mode c.self.inside.map c.args.align power) in
    rw (← c.self.view_is, c.in_ok-place.ensures.row)
    (keeps_placed (the_view c.self.inside) (row_at c.args.name c.in_ok-place.field-0 c.args.size c.args.align) none high)
