use Rattle.std.proofs.Common.{◌≡◌, List, false, ℕ, refl}
use Rattle.std.specs.Prelude.{Box, IfOk, Some, slice_get}
use Rattle.std.specs.Global.{Global}
use Rattle.ub_base.specs.declared.names.Item.{Item}
use Rattle.footprint.specs.declared.foot.Foot.{Foot}
use Rattle.evaluation_log.specs.declared.log.Logged.{Logged}
use Rattle.evaluation_log.specs.declared.log.Segment.{Segment}
use Rattle.evaluation_log.specs.Kept.{Kept, KeepsFeet, Spreads, foot_of}
use Rattle.run_evaluations.proofs.LentLemmas.{lent, said, same_lent}
use Rattle.run_evaluations.proofs.open.Evaluations.items_conflict.Goals as goal

pub returns-clause-same : goal.returns-clause-same
returns-clause-same c =
    let o = c.args.self.now.segments in
    let s = c.deref_mut.result.now in
    let n = c.has_conflict.new.segments in
    let a = c.has_conflict.ensures.same in
    same_lent c.args.self.now _ s n c.deref_mut.ensures.value (lent o.items s n _ o.len c.deref_mut.ensures.value o.ok.0 a) a refl refl refl refl refl

pub returns-clause-feet : goal.returns-clause-feet
returns-clause-feet c =
    let o = c.args.self.now in
    let s = c.deref_mut.result.now in
    let n = c.has_conflict.new.segments in
    said (λ (o n : List Segment) (ev : List Logged) (it : List Item) (la : List ℕ). Kept o ev it la c.args.at → KeepsFeet o n ev it c.args.at)
    o.segments.items s n _ o.events.items c.as_slice.result.now o.items.items c.as_slice-2.result.now o.large.items c.as_slice-3.result.now
    c.deref_mut.ensures.value (lent o.segments.items s n _ o.segments.len c.deref_mut.ensures.value o.segments.ok.0 c.has_conflict.ensures.same)
    c.as_slice.ensures.value c.as_slice-2.ensures.value c.as_slice-3.ensures.value c.has_conflict.ensures.feet

pub returns-clause-whole : goal.returns-clause-whole
returns-clause-whole c =
    let o = c.args.self.now in
    let s = c.deref_mut.result.now in
    let n = c.has_conflict.new.segments in
    said (λ (o n : List Segment) (ev : List Logged) (it : List Item) (la : List ℕ). Kept o ev it la c.args.at → IfOk c.has_conflict.result
    (λ b. b ≡ false → (f : Box Foot Global) → foot_of (slice_get n c.args.at) ≡ Some f → Spreads o ev it c.args.at f.value))
    o.segments.items s n _ o.events.items c.as_slice.result.now o.items.items c.as_slice-2.result.now o.large.items c.as_slice-3.result.now
    c.deref_mut.ensures.value (lent o.segments.items s n _ o.segments.len c.deref_mut.ensures.value o.segments.ok.0 c.has_conflict.ensures.same)
    c.as_slice.ensures.value c.as_slice-2.ensures.value c.as_slice-3.ensures.value c.has_conflict.ensures.whole
