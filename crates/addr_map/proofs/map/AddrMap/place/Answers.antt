use Rattle.std.proofs.Common.{arith}
use Rattle.addr_map.specs.Rows.{row_at}
use Rattle.addr_map.proofs.RowLists.{free_floor, behind}
use Rattle.addr_map.proofs.Kept.{lawful_placed}
use Rattle.addr_map.proofs.map.AddrMap.place.Goals as goal

pub insert-requires-clause-lawful : goal.insert-requires-clause-lawful
insert-requires-clause-lawful c =
    let room = c.requires.room in
    let e = c.next_base-base.ensures in
    lawful_placed (row_at c.args.name c.next_base-base.result c.args.size c.args.align) c.requires.some c.requires.power e.aligned
    (omega (arith, free_floor c.args.self.now, e.behind)) (omega (arith, room, e.near))

pub insert-requires-clause-free : goal.insert-requires-clause-free
insert-requires-clause-free c =
    behind (row_at c.args.name c.next_base-base.result c.args.size c.args.align) c.args.self.now c.next_base-base.ensures.behind
