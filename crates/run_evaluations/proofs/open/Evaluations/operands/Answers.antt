use Rattle.std.proofs.Common.{arith}
use Rattle.evaluation_log.proofs.WholeLemmas.{base_below}
use Rattle.run_evaluations.proofs.open.Evaluations.operands.Goals as goal

pub returns-then-at-base-clause-below : goal.returns-then-at-base-clause-below
returns-then-at-base-clause-below c = λ w d b h.
    let r = base_below c.args.self.now.segments.items c.args.self.now.events.items c.args.self.now.items.items c.args.self.now.large.items
    c.args.self.now.levels.items w d b h in
    let e = c.base-base.ensures in
    omega (arith, r, e)

pub returns-then-at-base-clause-least : goal.returns-then-at-base-clause-least
returns-then-at-base-clause-least c = λ g of. let e = c.base-base.ensures in omega (arith, of.0, e)

pub returns-else-at-base-clause-below : goal.returns-else-at-base-clause-below
returns-else-at-base-clause-below c = λ w d b h.
    let r = base_below c.args.self.now.segments.items c.args.self.now.events.items c.args.self.now.items.items c.args.self.now.large.items
    c.args.self.now.levels.items w d b h in
    let e = c.base-base.ensures in
    omega (arith, r, e, c.if-at-base.false)

pub returns-else-at-base-clause-least : goal.returns-else-at-base-clause-least
returns-else-at-base-clause-least c = λ g of. let e = c.base-base.ensures in c.first_above-at.ensures.least g (omega (arith, of.0, e)) of.1

pub returns-then-at-base-clause-low : goal.returns-then-at-base-clause-low
returns-then-at-base-clause-low c = let e = c.base-base.ensures in omega (arith, e)

pub returns-else-at-base-clause-low : goal.returns-else-at-base-clause-low
returns-else-at-base-clause-low c = let e = c.base-base.ensures in omega (arith, e, c.if-at-base.false)

pub returns-then-at-base-clause-behind : goal.returns-then-at-base-clause-behind
returns-then-at-base-clause-behind c = λ k s le at. c.first_above-at.ensures.behind k s (omega (arith, le, c.if-at-base.true)) at
