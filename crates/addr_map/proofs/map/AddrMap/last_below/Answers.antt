use Rattle.std.proofs.Common.{◌≡◌, ◌∙◌, sym, Some}
use Rattle.std.specs.Prelude.{nat_lt}
use Rattle.std.specs.HashMap.{get}
use Rattle.addr_map.specs.Sound.{rows_in, last_row, object_eq}
use Rattle.addr_map.proofs.Tests.{lt_true}
use Rattle.addr_map.proofs.Last.{last_passes, last_within, sized_of_held}
use Rattle.addr_map.proofs.Ranges.{below_some, below_none}
use Rattle.addr_map.proofs.map.AddrMap.last_below.Goals as goal

pub returns-in_default-clause-value : goal.returns-in_default-clause-value
returns-in_default-clause-value c =
    rw (← c.self.view_is) (sym (below_none c.args.addr c.self.inside.rows.entries c.self.invariant.keyed
    (sym (c.range.ensures.between tt) ∙ c.in_default.ensures.steps.0)))

pub returns-in_default-clause-sizes : goal.returns-in_default-clause-sizes
returns-in_default-clause-sizes c =
    rw (← c.self.view_is) (sized_of_held (get object_eq c.self.inside.bases) (rows_in c.self.inside.rows.entries) c.self.invariant.held)

pub returns-clause-value : goal.returns-clause-value
returns-clause-value c =
    rw (← c.self.view_is) (sym (below_some c.args.addr c.self.inside.rows.entries c.next_back.new.self (c.in-Some.field-0-0.now, c.in-Some.row.now)
    c.self.invariant.keyed (sym (c.range.ensures.between tt) ∙ c.in-Some.ensures.steps)))

pub returns-clause-order : goal.returns-clause-order
returns-clause-order c =
    let v : last_row (λ b. nat_lt b c.args.addr) (rows_in c.self.inside.rows.entries) ≡ Some c.in-Some.row.now =
    below_some c.args.addr c.self.inside.rows.entries c.next_back.new.self (c.in-Some.field-0-0.now, c.in-Some.row.now) c.self.invariant.keyed
    (sym (c.range.ensures.between tt) ∙ c.in-Some.ensures.steps) in
    lt_true _ _ (last_passes (λ b. nat_lt b c.args.addr) (rows_in c.self.inside.rows.entries) c.in-Some.row.now v)

pub returns-clause-lawful : goal.returns-clause-lawful
returns-clause-lawful c =
    let v : last_row (λ b. nat_lt b c.args.addr) (rows_in c.self.inside.rows.entries) ≡ Some c.in-Some.row.now =
    below_some c.args.addr c.self.inside.rows.entries c.next_back.new.self (c.in-Some.field-0-0.now, c.in-Some.row.now) c.self.invariant.keyed
    (sym (c.range.ensures.between tt) ∙ c.in-Some.ensures.steps) in
    last_within (λ b. nat_lt b c.args.addr) (get object_eq c.self.inside.bases) (rows_in c.self.inside.rows.entries) c.in-Some.row.now c.self.invariant.held v

pub returns-clause-sizes : goal.returns-clause-sizes
returns-clause-sizes c =
    rw (← c.self.view_is) (sized_of_held (get object_eq c.self.inside.bases) (rows_in c.self.inside.rows.entries) c.self.invariant.held)
