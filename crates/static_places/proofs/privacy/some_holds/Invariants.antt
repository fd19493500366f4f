use Rattle.std.proofs.Common.{◌≡◌, drop}
use Rattle.static_places.specs.Private.{some_holds}
use Rattle.static_places.proofs.privacy.some_holds.Given as goal

abbrev pub invariant-loop-constant : goal.invariant-loop-constant
invariant-loop-constant l = some_holds l.slot (drop l.constant-index l.constants) ≡ some_holds l.slot l.constants
