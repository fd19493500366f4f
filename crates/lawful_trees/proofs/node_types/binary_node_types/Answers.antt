use Rattle.lawful_trees.proofs.Heads.{head_at-Bin, head_at-PtrAdd, head_at-PtrDiff, head_at-Assign, head_at-Update}
use Rattle.lawful_trees.proofs.node_types.binary_node_types.Goals as goal

pub returns-in-Bin : goal.returns-in-Bin
returns-in-Bin c = rw (head_at-Bin c.args.node.now c.in-Bin.op c.in-Bin.kind c.in-Bin.is) c.binary_types.ensures

pub returns-in-PtrAdd : goal.returns-in-PtrAdd
returns-in-PtrAdd c = rw (head_at-PtrAdd c.args.node.now c.in-PtrAdd.size c.in-PtrAdd.subtract c.in-PtrAdd.is)
    (λ h blocks. c.pointer_sum_types.ensures h blocks c.in-PtrAdd.subtract)

pub returns-in-PtrDiff : goal.returns-in-PtrDiff
returns-in-PtrDiff c = rw (head_at-PtrDiff c.args.node.now c.in-PtrDiff.size c.in-PtrDiff.is) c.difference_types.ensures

pub returns-in-Assign : goal.returns-in-Assign
returns-in-Assign c = rw (head_at-Assign c.args.node.now c.in-Assign.initializing c.in-Assign.access c.in-Assign.is) c.assignment_types.ensures

pub returns-in-Update : goal.returns-in-Update
returns-in-Update c = rw (head_at-Update c.args.node.now c.in-Update.change c.in-Update.old c.in-Update.is)
    (λ h blocks. c.update_types.ensures h blocks c.in-Update.old)
