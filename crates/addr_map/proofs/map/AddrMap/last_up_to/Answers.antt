use Rattle.std.proofs.Common.{◌≡◌, ◌∙◌, sym, Some}
use Rattle.std.specs.Prelude.{nat_le}
use Rattle.addr_map.specs.Sound.{rows_in, last_row}
use Rattle.addr_map.proofs.Tests.{le_true}
use Rattle.addr_map.proofs.Last.{last_passes}
use Rattle.addr_map.proofs.Ranges.{up_to_some, up_to_none}
use Rattle.addr_map.proofs.map.AddrMap.last_up_to.Goals as goal

pub returns-in_default-clause-value : goal.returns-in_default-clause-value
returns-in_default-clause-value c =
    rw (← c.self.view_is) (sym (up_to_none c.args.addr c.self.inside.rows.entries c.self.invariant.keyed
    (sym (c.range.ensures.between tt) ∙ c.in_default.ensures.steps.0)))

pub returns-clause-value : goal.returns-clause-value
returns-clause-value c =
    rw (← c.self.view_is) (sym (up_to_some c.args.addr c.self.inside.rows.entries c.next_back.new.self (c.in-Some.field-0-0.now, c.in-Some.row.now)
    c.self.invariant.keyed (sym (c.range.ensures.between tt) ∙ c.in-Some.ensures.steps)))

pub returns-clause-order : goal.returns-clause-order
returns-clause-order c =
    let v : last_row (λ b. nat_le b c.args.addr) (rows_in c.self.inside.rows.entries) ≡ Some c.in-Some.row.now =
    up_to_some c.args.addr c.self.inside.rows.entries c.next_back.new.self (c.in-Some.field-0-0.now, c.in-Some.row.now) c.self.invariant.keyed
    (sym (c.range.ensures.between tt) ∙ c.in-Some.ensures.steps) in
    le_true _ _ (last_passes (λ b. nat_le b c.args.addr) (rows_in c.self.inside.rows.entries) c.in-Some.row.now v)
