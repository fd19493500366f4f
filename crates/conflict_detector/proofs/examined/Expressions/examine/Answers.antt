use Rattle.std.proofs.Common.{sym, ◌∙◌, arith}
use Rattle.conflict_detector.proofs.Known.{right_of, right_put, rules_known, rules_put}
use Rattle.conflict_detector.proofs.examined.Expressions.examine.Goals as goal

pub returns-then-is_known-clause-rules : goal.returns-then-is_known-clause-rules
returns-then-is_known-clause-rules c = λ roots right numbered.
    rules_known roots c.args.number c.args.root.now c.args.self.now right numbered (sym c.is_known.ensures ∙ c.if-is_known.true)

pub returns-clause-right : goal.returns-clause-right
returns-clause-right c = λ roots right numbered.
    let e = c.in_ok-examined.ensures in
    right_put roots c.grow.new.self c.put.new.self c.args.number c.in_ok-examined.examined c.put.ensures (c.in_ok-grow.ensures.right roots right)
    (right_of roots c.args.number c.args.root.now c.in_ok-examined.examined numbered e.rules e.quiet e.told)

pub returns-clause-rules : goal.returns-clause-rules
returns-clause-rules c = λ roots right numbered.
    let there = c.in_ok-grow.ensures.there in
    rules_put c.grow.new.self c.put.new.self c.args.number c.args.root.now c.in_ok-examined.examined c.put.ensures
    (omega (arith, there, c.grow.new.self.list.ok.0)) c.in_ok-examined.ensures.rules
