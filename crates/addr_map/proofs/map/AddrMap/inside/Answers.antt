use Rattle.std.proofs.Common.{◌∙◌, sym}
use Rattle.addr_map.proofs.Last.{covers_none, covers_in, covers_out}
use Rattle.addr_map.proofs.map.AddrMap.inside.Goals as goal

pub returns-in_default : goal.returns-in_default
returns-in_default c =
    sym (covers_none c.args.addr c.args.self.now c.last_up_to.ensures.apart (sym c.last_up_to.ensures.value ∙ c.in_default.is))

pub returns-then-addr-row : goal.returns-then-addr-row
returns-then-addr-row c =
    sym (covers_in c.args.addr c.args.self.now c.in-Some.row c.last_up_to.ensures.apart (sym c.last_up_to.ensures.value ∙ c.in-Some.is) c.if-addr-row.true)

pub returns-else-addr-row : goal.returns-else-addr-row
returns-else-addr-row c =
    sym (covers_out c.args.addr c.args.self.now c.in-Some.row c.last_up_to.ensures.apart (sym c.last_up_to.ensures.value ∙ c.in-Some.is) c.if-addr-row.false)
