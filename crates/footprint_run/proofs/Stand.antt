-- What a watch has seen, by its calls.
use Rattle.std.proofs.Common.{◌≡◌, ◌∷◌, List, Option, Some, sym, subst}
use Rattle.std.specs.Prelude.{IsSome}
use Rattle.c_typed.specs.Tree.{Tree}
use Rattle.conflict_detector.specs.Apart.{SeenApart}
use Rattle.conflict_detector.specs.declared.seen.Seen.{Seen}
use Rattle.core_run.specs.Calls.{Call, HasStopped, Heard}
use Rattle.core_run.specs.declared.watch.Go.{Go}
use Rattle.core_run.specs.declared.watch.Go.TheVariants.{On, Stop}
use Rattle.footprint_run.specs.Record.{Sees}

pub seen_in : (ts us : List Tree) (seen : Option Seen) → ts ≡ us → SeenApart ts seen → SeenApart us seen
seen_in ts us seen e h = subst (λ z. SeenApart z seen) e h

-- what was seen suits what was answered, after a call with its answer
pub seen_after : (trees : List Tree) (before after : Option Seen) (go : Go) (call : Call) (hs new : Heard) → Sees trees before after go →
    new ≡ (call, go) ∷ hs → SeenApart trees before → (HasStopped (Some new) → IsSome after) × SeenApart trees after
seen_after trees before after On call hs new sees noted apart = (
  λ h. absurd (let q : On ≡ Stop = subst (λ (z : Heard). HasStopped (Some z)) noted h in cc),
  subst (λ (o : Option Seen). SeenApart trees o) (sym sees) apart,
)
seen_after trees before after Stop call hs new sees noted apart = (λ h. sees.0, sees.1)
