use Rattle.std.proofs.Common.{◌∙◌, sym, ap}
use Rattle.addr_map.specs.Sound.{reaches}
use Rattle.addr_map.proofs.Last.{overlaps_is}
use Rattle.addr_map.proofs.map.AddrMap.overlaps.Goals as goal

pub returns-in-Some : goal.returns-in-Some
returns-in-Some c =
    sym (overlaps_is c.args.row.now c.args.self.now c.last_below.ensures.apart ∙ ap (reaches c.args.row.now) (sym c.last_below.ensures.value ∙ c.in-Some.is))

pub returns-in-None : goal.returns-in-None
returns-in-None c =
    sym (overlaps_is c.args.row.now c.args.self.now c.last_below.ensures.apart ∙ ap (reaches c.args.row.now) (sym c.last_below.ensures.value ∙ c.in-None.is))
