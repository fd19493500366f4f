use Rattle.std.proofs.Common.{◌≡◌, true, false, refl, rules}
use Rattle.footprint.proofs.RangeStarts.{next_none, next_own, next_other}
use Rattle.footprint.proofs.starts.first_from.Goals as goal

pub returns-in_default : goal.returns-in_default
returns-in_default c =
    next_none c.args.ends.now c.args.object c.args.at c.range.result (c.range.ensures.in_range tt) c.in_default.ensures.steps.0

pub returns-then-eq : goal.returns-then-eq
returns-then-eq c =
    let same : c.eq.result ≡ true → c.in-Some.key.now.0 ≡ c.args.object = search rules in
    let facts = next_own c.args.ends.now c.args.object c.args.at c.range.result c.next.new.self (c.in-Some.key.now, c.in-Some.end.now)
    (c.range.ensures.in_range tt) c.in-Some.ensures.steps (same c.if-eq.true) in
    record { own = refl; late = facts.late; found = facts.found; first = facts.first }

pub returns-else-eq : goal.returns-else-eq
returns-else-eq c =
    let same : c.in-Some.key.now.0 ≡ c.args.object → c.eq.result ≡ true = search rules in
    let off : c.eq.result ≡ false = c.if-eq.false in
    next_other c.args.ends.now c.args.object c.args.at c.range.result c.next.new.self (c.in-Some.key.now, c.in-Some.end.now)
    (c.range.ensures.in_range tt) c.in-Some.ensures.steps (λ own. let on : c.eq.result ≡ true = same own in cc)
