use Rattle.std.specs.Prelude.{slice_get}
use Rattle.evaluation_log.proofs.LooseLemmas.{spans_none}
use Rattle.evaluation_search.proofs.log.Log.events_meet.Goals as goal

pub returns-then-are_alone : goal.returns-then-are_alone
returns-then-are_alone c = λ h.
    spans_none c.args.map.now c.args.self.now.items.now (slice_get c.args.self.now.events.now c.args.a) (slice_get c.args.self.now.events.now c.args.b)
    c.span-first.result c.span-second.result (c.are_alone.ensures.first c.if-are_alone.true) (c.are_alone.ensures.second c.if-are_alone.true)
    c.span-first.ensures c.span-second.ensures (c.spans_meet.ensures h)
