use Rattle.std.proofs.Common.{inl, inr, arith}
use Rattle.conflict_detector.proofs.detector.Detector.rests.Goals as goal

pub returns-then-v-before-clause-yes : goal.returns-then-v-before-clause-yes
returns-then-v-before-clause-yes c = λ h. inl (omega (arith, c.if-v-before.true))

pub returns-clause-yes : goal.returns-clause-yes
returns-clause-yes c = λ h. inr (c.is_quiet.ensures h)
