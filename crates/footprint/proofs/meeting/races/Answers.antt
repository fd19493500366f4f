use Rattle.footprint.proofs.RaceLemmas.{race_twice, race_written, race_read, only_read}
use Rattle.footprint.proofs.meeting.races.Goals as goal

pub returns-then-meets : goal.returns-then-meets
returns-then-meets c = (λ h. race_twice c.args.a.now c.args.b.now (c.meets.ensures.0 h), λ s. c.if-meets.true)

pub returns-then-meets-2 : goal.returns-then-meets-2
returns-then-meets-2 c = (λ h. race_written c.args.a.now c.args.b.now (c.meets-else-meets.ensures.0 h), λ s. c.if-meets-2.true)

pub returns-else-meets-2 : goal.returns-else-meets-2
returns-else-meets-2 c = (
  λ h. race_read c.args.a.now c.args.b.now (c.meets-else-meets-2.ensures.0 h),
  λ s. only_read c.args.a.now c.args.b.now c.meets.result c.meets-else-meets.result c.meets-else-meets-2.result c.meets.ensures c.meets-else-meets.ensures
      c.meets-else-meets-2.ensures c.if-meets.false c.if-meets-2.false s,
)
