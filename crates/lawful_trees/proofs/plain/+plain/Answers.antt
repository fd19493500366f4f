use Rattle.std.proofs.Common.{arith}
use Rattle.c_typed.specs.Lawful.{IsPlain}
use Rattle.c_typed.specs.Sites.{Site}
use Rattle.lawful_trees.proofs.Trees.{All-sites, All-sites_of}
use Rattle.lawful_trees.proofs.plain.+plain.Goals as goal

abbrev Plain : Site → Type 0
Plain s = IsPlain s.head

pub are_plain-loop-tree-preserved : goal.are_plain-loop-tree-preserved
are_plain-loop-tree-preserved t c = λ rest.
    c.loop-tree.invariant
    (All-sites_of Plain c.args.trees.now c.loop-tree.tree-index c.tree-item.result (omega arith) c.tree-item.is (c.is_plain_tree.ensures cc) rest)

pub is_plain_tree-returns-then-holds_none : goal.is_plain_tree-returns-then-holds_none
is_plain_tree-returns-then-holds_none t c = λ h.
    All-sites Plain c.args.tree.now c.as_slice.result.now c.as_slice.ensures (c.is_plain.ensures c.if-not-is_plain.false)
    (c.holds_none.ensures c.if-holds_none.true) (c.are_plain.ensures h)
