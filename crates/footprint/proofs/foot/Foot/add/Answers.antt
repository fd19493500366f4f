use Rattle.std.proofs.Common.{◌≡◌, ◌||◌, sym, subst}
use Rattle.ub_base.specs.declared.names.Item.{Item}
use Rattle.footprint.specs.Holds.{holds, stands_for}
use Rattle.footprint.proofs.ItemLemmas.{narrow_added}
use Rattle.footprint.proofs.foot.Foot.add.Goals as goal

pub returns-in_ok-insert-in-Narrow-clause-added : goal.returns-in_ok-insert-in-Narrow-clause-added
returns-in_ok-insert-in-Narrow-clause-added c =
    let f = c.args.self.now in
    subst (λ (item : Item). (i : Item) → holds (record f { narrows = c.insert-in-Narrow.new.self }) i ≡ (holds f i || stands_for item i)) (sym c.in-Narrow.is)
    (narrow_added f c.insert-in-Narrow.new.self c.in-Narrow.id c.in-Narrow.keep c.in_ok-insert-in-Narrow.ensures.updates.0)
