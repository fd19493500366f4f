use Rattle.std.proofs.Common.{◌≡◌, true, false, refl, rules}
use Rattle.footprint.proofs.RangeStarts.{last_none, last_own, last_other}
use Rattle.footprint.proofs.starts.last_up_to.Goals as goal

pub returns-in_default-clause-last : goal.returns-in_default-clause-last
returns-in_default-clause-last c =
    last_none c.args.ends.now c.args.object c.args.at c.range.result (c.range.ensures.in_range tt) c.in_default.ensures.steps.0

pub returns-then-eq-clause-last : goal.returns-then-eq-clause-last
returns-then-eq-clause-last c =
    let same : c.eq.result ≡ true → c.in-Some.key.now.0 ≡ c.args.object = search rules in
    let facts = last_own c.args.ends.now c.args.object c.args.at c.range.result c.next_back.new.self (c.in-Some.key.now, c.in-Some.end.now)
    (c.range.ensures.in_range tt) c.in-Some.ensures.steps (same c.if-eq.true) in
    record { own = refl; early = facts.early; found = facts.found; last = facts.last }

pub returns-else-eq-clause-last : goal.returns-else-eq-clause-last
returns-else-eq-clause-last c =
    let same : c.in-Some.key.now.0 ≡ c.args.object → c.eq.result ≡ true = search rules in
    let off : c.eq.result ≡ false = c.if-eq.false in
    last_other c.args.ends.now c.args.object c.args.at c.range.result c.next_back.new.self (c.in-Some.key.now, c.in-Some.end.now)
    (c.range.ensures.in_range tt) c.in-Some.ensures.steps (λ own. let on : c.eq.result ≡ true = same own in cc)
