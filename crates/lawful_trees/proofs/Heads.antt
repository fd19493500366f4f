-- A node, seen without the trees below it.
use Rattle.std.proofs.Common.{◌≡◌, ℕ, Bool, List, sym, ap, ◌∙◌}
use Rattle.c_types.specs.declared.kind.IntKind.{IntKind}
use Rattle.c_types.specs.declared.kind.BinOp.{BinOp}
use Rattle.c_typed.specs.declared.tree.Access.{Access}
use Rattle.c_typed.specs.declared.tree.Change.{Change}
use Rattle.c_typed.specs.declared.tree.Slot.{Slot}
use Rattle.c_typed.specs.declared.program.Constant.{Constant}
use Rattle.c_typed.specs.declared.tree.Node.{Node, fold-roll-Node}
use Rattle.c_typed.specs.declared.tree.Node.TheOpen as shape
use Rattle.c_typed.specs.declared.tree.Node.TheVariants as nodes
use Rattle.c_typed.specs.Sites.{Head, Seen, SeenNode, seen_node, seen_tree}
use Rattle.lawful_trees.specs.Views.{head_at}

abbrev head_seen : SeenNode → Head
head_seen s = s.head

pub head_at-Load : (n : Node) (a : Access) → n ≡ nodes.Load a → head_at n ≡ shape.Load a
head_at-Load n a e =
    ap head_at (e ∙ sym (nodes.rolls-Load a)) ∙ ap head_seen (fold-roll-Node SeenNode Seen seen_node seen_tree (shape.Load a))

pub head_at-Bin : (n : Node) (op : BinOp) (kind : IntKind) → n ≡ nodes.Bin op kind → head_at n ≡ shape.Bin op kind
head_at-Bin n op kind e =
    ap head_at (e ∙ sym (nodes.rolls-Bin op kind)) ∙ ap head_seen (fold-roll-Node SeenNode Seen seen_node seen_tree (shape.Bin op kind))

pub head_at-PtrAdd : (n : Node) (size : ℕ) (subtract : Bool) → n ≡ nodes.PtrAdd size subtract → head_at n ≡ shape.PtrAdd size subtract
head_at-PtrAdd n size subtract e =
    ap head_at (e ∙ sym (nodes.rolls-PtrAdd size subtract)) ∙ ap head_seen (fold-roll-Node SeenNode Seen seen_node seen_tree (shape.PtrAdd size subtract))

pub head_at-PtrDiff : (n : Node) (size : ℕ) → n ≡ nodes.PtrDiff size → head_at n ≡ shape.PtrDiff size
head_at-PtrDiff n size e =
    ap head_at (e ∙ sym (nodes.rolls-PtrDiff size)) ∙ ap head_seen (fold-roll-Node SeenNode Seen seen_node seen_tree (shape.PtrDiff size))

pub head_at-Assign : (n : Node) (initializing : Bool) (a : Access) → n ≡ nodes.Assign initializing a → head_at n ≡ shape.Assign initializing a
head_at-Assign n initializing a e =
    ap head_at (e ∙ sym (nodes.rolls-Assign initializing a)) ∙ ap head_seen (fold-roll-Node SeenNode Seen seen_node seen_tree (shape.Assign initializing a))

pub head_at-Update : (n : Node) (change : Change) (old : Bool) → n ≡ nodes.Update change old → head_at n ≡ shape.Update change old
head_at-Update n change old e =
    ap head_at (e ∙ sym (nodes.rolls-Update change old)) ∙ ap head_seen (fold-roll-Node SeenNode Seen seen_node seen_tree (shape.Update change old))

pub head_at-Comma : (n : Node) → n ≡ nodes.Comma → head_at n ≡ shape.Comma
head_at-Comma n e =
    ap head_at (e ∙ sym nodes.rolls-Comma) ∙ ap head_seen (fold-roll-Node SeenNode Seen seen_node seen_tree shape.Comma)

pub head_at-Call : (n : Node) (discarded : Bool) → n ≡ nodes.Call discarded → head_at n ≡ shape.Call discarded
head_at-Call n discarded e =
    ap head_at (e ∙ sym (nodes.rolls-Call discarded)) ∙ ap head_seen (fold-roll-Node SeenNode Seen seen_node seen_tree (shape.Call discarded))

pub head_at-List : (n : Node) (slot : Slot) (bytes : List Constant) → n ≡ nodes.List slot bytes → head_at n ≡ shape.List slot bytes
head_at-List n slot bytes e =
    ap head_at (e ∙ sym (nodes.rolls-List slot bytes)) ∙ ap head_seen (fold-roll-Node SeenNode Seen seen_node seen_tree (shape.List slot bytes))
