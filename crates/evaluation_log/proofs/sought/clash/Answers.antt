use Rattle.std.proofs.Common.{refl}
use Rattle.footprint.specs.Holds.{holds}
use Rattle.evaluation_log.specs.declared.sought.Sought.TheVariants.{Any}
use Rattle.evaluation_log.proofs.ClashLemmas.{not_met}
use Rattle.evaluation_log.proofs.sought.clash.Goals as goal

pub returns : goal.returns
returns c = λ refused. not_met c.args.map.now Any (holds c.args.a.now) (holds c.args.a.now) (holds c.args.b.now) c.conflicts.result (λ j. refl)
    c.conflicts.ensures refused
