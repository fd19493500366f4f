use Rattle.std.proofs.Common.{◌≡◌, ◌∷◌, [], ◌++◌, sym, ◌∙◌, ap, append_assoc, append-nil}
use Rattle.ub_base.specs.Frames.{path_of}
use Rattle.c_names.proofs.TextLemmas.{path_of-row_of, path_of-no_row}
use Rattle.trace_story.proofs.named.steps_to.Goals as goal

pub loop-parent-preserved : goal.loop-parent-preserved
loop-parent-preserved c =
    ap (λ path. path ++ path_of c.args.frames.now c.in-Some.parent.0) c.in_ok-push.ensures.items
    ∙ append_assoc c.loop-parent.steps.items _ _
    ∙ ap (λ rest. c.loop-parent.steps.items ++ rest)
    (sym (path_of-row_of c.args.frames.now c.row_at.ensures.rows c.loop-parent.frame.0 (c.in-Some.parent, c.in-Some.turn, c.in-Some.node)
    (sym c.row_at.ensures.row ∙ c.in-Some.is)))
    ∙ c.loop-parent.invariant

pub returns : goal.returns
returns c =
    sym (append-nil c.loop-parent.steps.items)
    ∙ ap (λ rest. c.loop-parent.steps.items ++ rest) (sym (path_of-no_row c.args.frames.now c.loop-parent.frame.0 (sym c.row_at.ensures.row ∙ c.in_default.is)))
    ∙ c.loop-parent.invariant
