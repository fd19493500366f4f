use Rattle.std.proofs.Common.{◌∙◌, arith, sym}
use Rattle.evaluation_log.specs.declared.sought.Sought.TheVariants.{Any}
use Rattle.evaluation_log.specs.Clashes.{NoneBetween}
use Rattle.run_evaluations.specs.Kept.{NoneOfOperands}
use Rattle.evaluation_log.proofs.ClashLemmas.{ok_none}
use Rattle.evaluation_log.proofs.KeptLemmas.{single_none}
use Rattle.evaluation_search.proofs.BetweenFirst.{ok_weaker}
use Rattle.evaluation_search.specs.First.{AreBetween, IsFirstOf}
use Rattle.run_evaluations.specs.First.{IsTopPair}
use Rattle.run_evaluations.specs.Ways.{AreBehindOperand}
use Rattle.run_evaluations.proofs.OnWayLemmas.{of_node_few, of_node_first, of_node_none, order_once, order_rising}
use Rattle.run_evaluations.proofs.WholeLemmas.{of_operands}
use Rattle.run_evaluations.proofs.open.Evaluations.found_of_operands.Goals as goal

pub returns-then-saturating_add-len-clause-none : goal.returns-then-saturating_add-len-clause-none
returns-then-saturating_add-len-clause-none c = λ w free.
    of_operands c.args.under.map.now c.args.self.now c.args.node c.operands-at.result c.operands-at.ensures.least
    (single_none c.args.under.map.now c.args.self.now.segments.items c.args.self.now.events.items c.args.self.now.items.items c.operands-at.result
    (let n = c.len.ensures ∙ c.args.self.now.segments.ok.0 in omega (arith, n, c.saturating_add.ensures, c.if-saturating_add-len.true)))

pub returns-clause-none : goal.returns-clause-none
returns-clause-none c = λ w free.
    ok_none (NoneBetween Any c.args.under.map.now c.args.self.now.segments.items c.args.self.now.events.items c.args.self.now.items.items
    c.operands-at.result)
    (NoneOfOperands c.args.under.map.now c.args.self.now c.args.node) c.found_between.result
    (of_operands c.args.under.map.now c.args.self.now c.args.node c.operands-at.result c.operands-at.ensures.least)
    (c.found_between.ensures.none (λ g le. w.kept.sorted g (omega arith)))

pub returns-then-saturating_add-len-clause-first : goal.returns-then-saturating_add-len-clause-first
returns-then-saturating_add-len-clause-first c = λ w order.
    of_node_few c.args.self.now c.args.node c.operands-at.result w.kept.sorted c.operands-at.ensures.low c.operands-at.ensures.least
    c.operands-at.ensures.behind c.args.under.frames.now c.args.under.map.now c.args.rule
    (let n = c.len.ensures ∙ c.args.self.now.segments.ok.0 in omega (arith, n, c.saturating_add.ensures, c.if-saturating_add-len.true))

pub returns-then-not-is_unsequenced-clause-first : goal.returns-then-not-is_unsequenced-clause-first
returns-then-not-is_unsequenced-clause-first c = λ w order.
    of_node_none c.args.self.now c.args.node c.args.under.frames.now c.args.under.map.now c.args.rule
    (sym c.is_unsequenced.ensures ∙ c.if-not-is_unsequenced.true)

pub returns-clause-first : goal.returns-clause-first
returns-clause-first c = λ w order.
    let o = c.args.self.now in
    let at = c.operands-at.result in
    let e = c.operands-at.ensures in
    let frames = c.args.under.frames.now in
    let rows = c.args.under.map.now in
    ok_weaker (IsFirstOf frames (IsTopPair frames rows o (AreBetween o.segments.items o.events.items at)))
    (IsFirstOf frames (IsTopPair frames rows o (AreBehindOperand o c.args.node c.args.rule))) c.found_between.result
    (of_node_first o c.args.node at w.kept.sorted e.low e.least e.behind frames rows c.args.rule
    (sym c.is_unsequenced.ensures ∙ c.if-not-is_unsequenced.false))
    (c.found_between.ensures.first (λ g le. w.kept.sorted g (omega arith))
    (order_rising o c.args.node at w.kept.sorted e.low e.least e.behind order)
    (order_once o c.args.node at w.kept.sorted e.low e.least e.behind order))
