use Rattle.std.proofs.Common.{◌≡◌, true, false, rules}
use Rattle.footprint.proofs.AnyLemmas.{above_none, above_here, above_first}
use Rattle.footprint.proofs.settled.is_settled_above.Goals as goal

pub returns-in-Some : goal.returns-in-Some
returns-in-Some c =
    let same : c.eq.result ≡ true → c.in-Some.other.now.0 ≡ c.args.id = search rules in
    let back : c.in-Some.other.now.0 ≡ c.args.id → c.eq.result ≡ true = search rules in (
      λ t. above_here c.args.narrows.now c.args.id c.args.keep c.range.result c.next.new.self c.in-Some.other.now
          (c.range.ensures.in_range tt) c.in-Some.ensures.steps (same t),
      λ b. back (above_first c.args.narrows.now c.args.id c.args.keep c.range.result c.next.new.self c.in-Some.other.now
          (c.range.ensures.in_range tt) c.in-Some.ensures.steps b),
    )

pub returns-in-None : goal.returns-in-None
returns-in-None c = (
  λ t. absurd (let h : false ≡ true = t in cc),
  λ b. absurd (above_none c.args.narrows.now c.args.id c.args.keep c.range.result (c.range.ensures.in_range tt) c.in-None.ensures.steps.0 b),
)
