use Rattle.std.proofs.Common.{ℕ, ◌≤◌, All, AllPairs, subst, rules}
use Rattle.lawful_trees.specs.Parts.{AreApart}
use Rattle.lawful_trees.proofs.Following.{fit}
use Rattle.lawful_trees.proofs.parts.ranges_fit.Goals as goal

pub returns : goal.returns
returns c = λ h constants made.
    fit c.args.size constants c.args.ranges.items c.sort.new.self.items made
    (subst (All (λ (r : ℕ × ℕ). r.1 ≤ c.args.size)) c.deref.ensures.value (c.are_inside.ensures (search rules)))
    c.sort.ensures.permutation (subst (AllPairs AreApart) c.deref-2.ensures.value (c.follow.ensures h))
