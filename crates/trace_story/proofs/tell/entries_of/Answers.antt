-- One more entry, and all of them.
use Rattle.std.proofs.Common.{refl, ap, map, ◌∙◌, arith}
use Rattle.std.proofs.lemmas.List.{take_all}
use Rattle.trace_story.specs.Stories.{mark_of, mark_at}
use Rattle.trace_story.proofs.Lines.{next_mark}
use Rattle.trace_story.proofs.tell.entries_of.Goals as goal

pub loop-item-preserved : goal.loop-item-preserved
loop-item-preserved c =
    next_mark mark_of (mark_at c.args.pick c.args.event) c.loop-item.entries.items c.push.new.self.items c.args.told.now c.loop-item.item-index _ _ _
    (omega arith) refl c.in_ok-push.ensures.items refl c.loop-item.invariant

pub returns : goal.returns
returns c = c.loop-item.invariant ∙ ap (map (mark_at c.args.pick c.args.event)) (take_all c.loop-item.item-index c.args.told.now (omega arith))
