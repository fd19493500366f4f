use Rattle.std.proofs.Common.{◌≡◌, ℕ, true, take}
use Rattle.std.specs.BTreeSet.{contains}
use Rattle.std.specs.List.{Contains}
use Rattle.std.specs.Ordering.{nat_cmp}
use Rattle.lawful_bodies.proofs.distinct.set_of.Given as goal

-- the set has no other than those seen
abbrev pub invariant-loop-label : goal.invariant-loop-label
invariant-loop-label l = (n : ℕ) → contains nat_cmp l.set n ≡ true → Contains (take l.label-index l.labels) n
