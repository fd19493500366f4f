use Rattle.lawful_trees.proofs.Heads.{head_at-Load, head_at-Update}
use Rattle.lawful_trees.proofs.node_types.unary_node_types.Goals as goal

pub returns-in-Load : goal.returns-in-Load
returns-in-Load c = rw (head_at-Load c.args.node.now c.in-Load.access c.in-Load.is) c.load_types.ensures

pub returns-in-Update : goal.returns-in-Update
returns-in-Update c = rw (head_at-Update c.args.node.now c.in-Update.change c.in-Update.old c.in-Update.is)
    (λ h blocks. c.step_types.ensures h blocks c.in-Update.old)
