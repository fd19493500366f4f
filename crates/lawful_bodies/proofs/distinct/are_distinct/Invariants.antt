use Rattle.std.proofs.Common.{take}
use Rattle.lawful_bodies.proofs.Apart.{Seen}
use Rattle.lawful_bodies.proofs.distinct.are_distinct.Given as goal

-- those seen differ, and are in the set
abbrev pub invariant-loop-item : goal.invariant-loop-item
invariant-loop-item g l = Seen g.K.Ord.cmp l.seen (take l.item-index l.items)
