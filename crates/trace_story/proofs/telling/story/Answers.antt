use Rattle.std.proofs.Common.{sym, ap, map, ◌∙◌}
use Rattle.trace_story.specs.Stories.{mark_of, story_in, sought_in}
use Rattle.trace_story.proofs.Growth.{no_object, named_again}
use Rattle.trace_story.proofs.telling.story.Goals as goal

pub returns-in_default-clause-told : goal.returns-in_default-clause-told
returns-in_default-clause-told c =
    let s = c.without_object.result in
    ap (map mark_of) c.without_object.ensures.entries ∙ no_object s.frames s.calls
    ∙ sym (ap (λ x. story_in s.frames (sought_in s.map x) s.calls) c.without_object.ensures.named)

pub returns-clause-named : goal.returns-clause-named
returns-clause-named c =
    named_again c.args.frames.now c.in_ok-first.first.frames c.in_ok-second.second.frames c.args.object.now c.in_ok-named.field-0 c.in-Some.named
    c.in_ok-named.ensures c.in-Some.is (c.agree.ensures.frames c.if-not-agree.false)
