use Rattle.std.proofs.Common.{◌∙◌, sym}
use Rattle.addr_map.proofs.Last.{past_none, past_in, past_out}
use Rattle.addr_map.proofs.map.AddrMap.ending.Goals as goal

pub returns-in_default : goal.returns-in_default
returns-in_default c =
    sym (past_none c.args.addr c.args.self.now c.last_below.ensures.apart c.last_below.ensures.sizes (sym c.last_below.ensures.value ∙ c.in_default.is))

pub returns-then-addr-row : goal.returns-then-addr-row
returns-then-addr-row c =
    sym (past_in c.args.addr c.args.self.now c.in-Some.row c.last_below.ensures.apart c.last_below.ensures.sizes
    (sym c.last_below.ensures.value ∙ c.in-Some.is) c.if-addr-row.true)

pub returns-else-addr-row : goal.returns-else-addr-row
returns-else-addr-row c =
    sym (past_out c.args.addr c.args.self.now c.in-Some.row c.last_below.ensures.apart c.last_below.ensures.sizes
    (sym c.last_below.ensures.value ∙ c.in-Some.is) c.if-addr-row.false)
