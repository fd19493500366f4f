use Rattle.std.proofs.Common.{◌∙◌, ◌∷◌, arith}
use Rattle.std.proofs.lemmas.Result.{on_ok_weaker}
use Rattle.run_evaluations.specs.Follows.{scopes_of}
use Rattle.run_evaluations.proofs.FullLemmas.{node_behind}
use Rattle.run_evaluations.proofs.ShowLemmas.{none_of_two, two_done}
use Rattle.run_evaluations.proofs.ToldLemmas.{follow_operands, full_all, one_gathered, over_told}
use Rattle.evaluation_log.specs.declared.sought.Sought.TheVariants.{Any}
use Rattle.evaluation_log.specs.Clashes.{NoneBetween}
use Rattle.run_evaluations.specs.Kept.{NoneOfOperands}
use Rattle.evaluation_log.proofs.ClashLemmas.{ok_none}
use Rattle.evaluation_log.proofs.KeptLemmas.{single_none}
use Rattle.evaluation_log.proofs.WholeLemmas.{kept_from}
use Rattle.run_evaluations.proofs.WholeLemmas.{of_operands}
use Rattle.std.proofs.Common.{◌≡◌, ◌-◌, true, length}
use Rattle.std.specs.Prelude.{slice_get, IfSome}
use Rattle.evaluation_log.specs.Kept.{is_unsequenced}
use Rattle.evaluation_log.specs.Touched.{start_of}
use Rattle.evaluation_search.specs.First.{AreBetween, IsFirst, IsOfPair}
use Rattle.evaluation_search.proofs.BetweenFirst.{ok_weaker}
use Rattle.run_evaluations.specs.First.{AreOfOperands, IsConflictIn, expression_in}
use Rattle.run_evaluations.proofs.FirstLemmas.{begins_low, once_log, operands_first, rising_from}
use Rattle.run_evaluations.proofs.open.Evaluations.operands_done.Goals as goal

pub returns-then-saturating_add-len-clause-kept : goal.returns-then-saturating_add-len-clause-kept
returns-then-saturating_add-len-clause-kept c = λ w. c.several_done.ensures.kept w (c.operands-at.ensures.below w)

pub returns-then-saturating_add-len-clause-none : goal.returns-then-saturating_add-len-clause-none
returns-then-saturating_add-len-clause-none c = λ w open_rule.
    ok_none (NoneBetween Any c.args.map.now c.args.self.now.segments.items c.args.self.now.events.items c.args.self.now.items.items c.operands-at.result)
    (NoneOfOperands c.args.map.now c.args.self.now c.args.node) c.several_done.result
    (of_operands c.args.map.now c.args.self.now c.args.node c.operands-at.result c.operands-at.ensures.least)
    (c.several_done.ensures.none open_rule (kept_from c.args.self.now.segments.items c.args.self.now.events.items c.args.self.now.items.items
    c.args.self.now.large.items c.args.self.now.levels.items w c.operands-at.result))

pub returns-clause-none : goal.returns-clause-none
returns-clause-none c = λ w open_rule.
    of_operands c.args.map.now c.args.self.now c.args.node c.operands-at.result c.operands-at.ensures.least
    (single_none c.args.map.now c.args.self.now.segments.items c.args.self.now.events.items c.args.self.now.items.items c.operands-at.result
    (let n = c.len.ensures ∙ c.args.self.now.segments.ok.0 in omega (arith, n, c.saturating_add.ensures, c.if-saturating_add-len.false)))

pub returns-then-saturating_add-len-clause-loose : goal.returns-then-saturating_add-len-clause-loose
returns-then-saturating_add-len-clause-loose c = λ w r. c.several_done.ensures.loose w (c.operands-at.ensures.below w) r

pub returns-then-saturating_add-len-clause-follows : goal.returns-then-saturating_add-len-clause-follows
returns-then-saturating_add-len-clause-follows c =
    on_ok_weaker c.several_done.result
    (λ p t ts f tell.
    let a = c.args.self.now in
    let d = c.several_done.new.self in
    let o = c.operands-at.ensures in
    let w = f.holds.kept in
    let r = f.holds.loose in
    let n = c.len.ensures ∙ a.segments.ok.0 in
    follow_operands a d t ts f c.args.node c.args.rule c.args.chosen tell c.operands-at.result
    (one_gathered a d c.args.node c.operands-at.result (omega (arith, n, c.saturating_add.ensures, c.if-saturating_add-len.true)) o.low o.behind o.least p.0)
    p.0.rest (c.several_done.ensures.kept w (o.below w)) (c.several_done.ensures.loose w (o.below w) r)
    (p.1 (scopes_of (t ∷ ts)) (o.below w) r (full_all a t ts f) o.low
    (λ g m le h. node_behind a.segments.items c.operands-at.result c.args.node o.behind g m le h)
    (over_told a t ts f c.args.node c.args.rule c.args.chosen tell)))
    c.several_done.ensures.one

pub returns-clause-follows : goal.returns-clause-follows
returns-clause-follows c = λ t ts f tell.
    let a = c.args.self.now in
    let d = c.gather.new.self in
    let g = c.gather.ensures in
    let w = f.holds.kept in
    let r = f.holds.loose in
    follow_operands a d t ts f c.args.node c.args.rule c.args.chosen tell g.made.0 g.made.1 g.rest (g.kept w) (g.loose w r)
    (g.full (scopes_of (t ∷ ts)) w r (full_all a t ts f) (over_told a t ts f c.args.node c.args.rule c.args.chosen tell))

pub returns-then-saturating_add-len-clause-apart : goal.returns-then-saturating_add-len-clause-apart
returns-then-saturating_add-len-clause-apart c = λ t ts f tell fresh.
    two_done c.args.map.now c.args.self.now t ts f c.args.node c.args.rule c.args.chosen tell fresh c.several_done.result
    (returns-then-saturating_add-len-clause-none c f.holds.kept)

pub returns-clause-apart : goal.returns-clause-apart
returns-clause-apart c = λ t ts f tell fresh.
    none_of_two c.args.map.now c.args.self.now t ts f c.args.node c.args.rule c.args.chosen tell fresh (returns-clause-none c f.holds.kept)

pub returns-then-saturating_add-len-clause-first : goal.returns-then-saturating_add-len-clause-first
returns-then-saturating_add-len-clause-first c = λ t ts f tell fresh loose once.
    let a = c.args.self.now in
    let o = c.operands-at.ensures in
    let at = c.operands-at.result in
    let w = f.holds.kept in
    ok_weaker
    (λ r. IfSome r (λ x. (is_unsequenced c.args.rule ≡ true) × IsFirst c.args.frames.now (IsOfPair c.args.frames.now c.args.map.now
    (expression_in (slice_get a.levels.items (length a.levels.items - 1))) a.events.items a.items.items (AreBetween a.segments.items a.events.items at)) x))
    (λ r. IfSome r (IsFirst c.args.frames.now (IsConflictIn c.args.frames.now c.args.map.now t (AreOfOperands t c.args.node))))
    c.several_done.result
    (λ r. operands_first a t ts f c.args.node c.args.rule c.args.chosen tell fresh loose at o.low o.least
    (λ g m le h. node_behind a.segments.items at c.args.node o.behind g m le h) c.args.frames.now c.args.map.now r)
    (c.several_done.ensures.first
    (kept_from a.segments.items a.events.items a.items.items a.large.items a.levels.items w at)
    (rising_from a t ts f at o.low)
    (once_log a t ts _ f.holds f.all once (start_of a.segments.items a.events.items at) (begins_low a t ts _ f.holds f.all at o.low)))
