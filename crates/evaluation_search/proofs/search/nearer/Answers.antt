use Rattle.std.proofs.Common.{inl, refl}
use Rattle.footprint.specs.Holds.{holds}
use Rattle.evaluation_log.proofs.ClashLemmas.{not_met}
use Rattle.evaluation_search.proofs.search.nearer.Goals as goal

pub returns-else-meets : goal.returns-else-meets
returns-else-meets c = inl (
  refl,
  not_met c.args.under.map.now c.args.sought (holds c.args.foot.now) (holds c.args.foot.now) (holds c.args.rest.now) c.meets.result (λ j. refl)
      c.meets.ensures c.if-meets.false,
)
