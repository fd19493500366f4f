use Rattle.std.proofs.Common.{refl}
use Rattle.footprint.proofs.AnyLemmas.{some_conflict}
use Rattle.footprint.proofs.meeting.conflicts.Goals as goal

pub returns : goal.returns
returns c = some_conflict c.args.a.now c.args.b.now c.args.map.now c.races-races.result c.states_conflict-states.result c.lookups_conflict-first.result
    c.lookups_conflict-second.result c.narrows_conflict-narrows.result c.streams_meet-streams.result _ c.races-races.ensures c.states_conflict-states.ensures
    c.lookups_conflict-first.ensures c.lookups_conflict-second.ensures c.narrows_conflict-narrows.ensures c.streams_meet-streams.ensures refl
