use Rattle.std.proofs.Common.{◌∙◌, sym}
use Rattle.addr_map.proofs.Ranges.{from_some, from_none}
use Rattle.addr_map.proofs.map.AddrMap.next.Goals as goal

pub returns-in_default : goal.returns-in_default
returns-in_default c =
    rw (← c.self.view_is) (sym (from_none c.args.from c.self.inside.rows.entries c.self.invariant.keyed
    (sym (c.range.ensures.between tt) ∙ c.in_default.ensures.steps.0)))

pub returns : goal.returns
returns c =
    rw (← c.self.view_is) (sym (from_some c.args.from c.self.inside.rows.entries (c.in-Some.field-0-0.now, c.in-Some.row.now) c.next.new.self
    c.self.invariant.keyed (sym (c.range.ensures.between tt) ∙ c.in-Some.ensures.steps)))
