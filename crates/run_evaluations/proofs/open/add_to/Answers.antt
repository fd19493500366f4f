use Rattle.run_evaluations.proofs.open.add_to.Goals as goal

pub returns-clause-more : goal.returns-clause-more
returns-clause-more c =
    let m = c.in_ok-add.ensures in
    record { first = m.first; items = m.items; large = m.large; harm = m.harm; foot = m.foot; low = m.low; below = m.below }
