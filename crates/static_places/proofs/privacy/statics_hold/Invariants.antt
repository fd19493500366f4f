use Rattle.std.proofs.Common.{◌≡◌, map, drop}
use Rattle.static_places.specs.Private.{any_of, static_holds}
use Rattle.static_places.proofs.privacy.statics_hold.Given as goal

abbrev pub invariant-loop-object : goal.invariant-loop-object
invariant-loop-object l = any_of (map (static_holds l.slot) (drop l.object-index l.statics)) ≡ any_of (map (static_holds l.slot) l.statics)
