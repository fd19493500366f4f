use Rattle.std.proofs.Common.{◌++◌, ◌∷◌, [], ◌∙◌, ap}
use Rattle.ub_base.proofs.FrameLemmas.{insert_key-absent, IsFrameList-push}
use Rattle.ub_base.proofs.frames.Frames.call.Goals as goal

pub returns-clause-row : goal.returns-clause-row
returns-clause-row c =
    c.in_ok-insert.ensures.keys
    ∙ insert_key-absent (c.args.parent, c.args.turn, c.args.node) c.self.inside.rows.keys (rw c.self.view_is c.requires.absent)
    ∙ ap (λ rows. rows ++ (c.args.parent, c.args.turn, c.args.node) ∷ []) c.self.view_is

pub invariant_of-self-2 : goal.invariant_of-self-2
invariant_of-self-2 c =
    rw (returns-clause-row c, ← c.self.view_is)
    (IsFrameList-push c.self.inside.rows.keys (c.args.parent, c.args.turn, c.args.node) c.self.invariant
    (rw c.self.view_is c.requires.parent) (rw c.self.view_is c.requires.absent) (rw c.self.view_is c.requires.room))
