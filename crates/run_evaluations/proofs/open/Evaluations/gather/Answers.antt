use Rattle.run_evaluations.proofs.GiveLemmas.{under_joined, under_none}
use Rattle.std.proofs.Common.{◌∙◌, ◌≤◌, sym, arith, subst, List}
use Rattle.run_evaluations.proofs.WholeLemmas.{kept_made_one}
use Rattle.evaluation_log.proofs.WholeLemmas.{only_spreads, length_alike}
use Rattle.run_evaluations.proofs.FullLemmas.{full_same, over_same, node_behind}
use Rattle.run_evaluations.proofs.LooseWholeLemmas.{right_same}
use Rattle.evaluation_log.proofs.KeptLemmas.{sorted_alike}
use Rattle.evaluation_log.specs.Kept.{AllBelow, base_of}
use Rattle.evaluation_log.specs.declared.level.Level.{Level}
use Rattle.run_evaluations.proofs.WayLemmas.{gathered_none, gathered_one}
use Rattle.run_evaluations.proofs.open.Evaluations.gather.Goals as goal

pub join-requires : goal.join-requires
join-requires c =
    let n = length_alike c.take_only-foot.new.self.segments.items c.args.self.now.segments.items c.take_only-foot.ensures.same.alike in
    omega (arith, n, c.take_only-foot.new.self.segments.ok.0, c.args.self.now.segments.ok.0, c.len.ensures, c.if-at-len.false)

pub returns-clause-kept : goal.returns-clause-kept
returns-clause-kept c = λ w.
    kept_made_one c.args.self.now c.take_only-foot.new.self c.join.new.self c.operands-at.result c.take_only-foot.ensures.same
    c.take_only-foot.ensures.others c.join.ensures.rest
    c.join.ensures.joined (c.operands-at.ensures.below w) (omega (arith, c.args.self.now.segments.ok.0, c.len.ensures, c.if-at-len.false))
    (λ f h. let r = c.take_only-foot.ensures.given f (sym c.join.ensures.foot ∙ h) in
    only_spreads c.args.self.now.segments.items c.args.self.now.events.items c.args.self.now.items.items c.args.self.now.large.items
    c.args.self.now.levels.items w c.operands-at.result f r.0 r.1) w

pub returns-clause-loose : goal.returns-clause-loose
returns-clause-loose c = λ w r.
    let a = c.args.self.now in
    let t = c.take_only-foot.new.self in
    let same = c.take_only-foot.ensures.same in
    c.join.ensures.loose
    (sorted_alike a.segments.items t.segments.items a.events.items t.events.items 0 same.alike same.events w.kept.sorted)
    (subst (λ (ls : List Level). AllBelow ls c.operands-at.result) (sym same.levels) (c.operands-at.ensures.below w))
    (right_same a t same r)

pub returns-then-at-len-clause-made : goal.returns-then-at-len-clause-made
returns-then-at-len-clause-made c =
    let o = c.operands-at.ensures in
    let n = c.len.ensures ∙ c.args.self.now.segments.ok.0 in
    (c.operands-at.result, gathered_none c.args.self.now c.args.node c.operands-at.result (omega (arith, n, c.if-at-len.true)) o.low o.behind o.least)

pub returns-clause-made : goal.returns-clause-made
returns-clause-made c =
    let o = c.operands-at.ensures in
    let t = c.take_only-foot.ensures in
    let j = c.join.ensures in
    let n = c.len.ensures ∙ c.args.self.now.segments.ok.0 in (
      c.operands-at.result,
      gathered_one c.args.self.now c.take_only-foot.new.self c.join.new.self c.args.node c.operands-at.result
          (omega (arith, n, c.if-at-len.false)) o.low o.behind o.least t.same.alike t.nodes j.joined.count j.joined.begins j.own j.others,
    )

pub returns-then-at-len-clause-full : goal.returns-then-at-len-clause-full
returns-then-at-len-clause-full c = λ scopes w r full over. full

pub returns-clause-full : goal.returns-clause-full
returns-clause-full c = λ scopes w r full over.
    let a = c.args.self.now in
    let t = c.take_only-foot.new.self in
    let e = c.take_only-foot.ensures in
    let o = c.operands-at.ensures in
    c.join.ensures.full scopes
    (subst (λ (ls : List Level). AllBelow ls c.operands-at.result) (sym e.same.levels) (o.below w))
    (right_same a t e.same r) (full_same a t scopes e.same e.nodes full)
    (subst (λ (ls : List Level). base_of ls ≤ c.operands-at.result) (sym e.same.levels) o.low)
    (λ g m le h. node_behind a.segments.items c.operands-at.result c.args.node o.behind g m le (sym (e.nodes g) ∙ h))
    (over_same a t scopes c.args.node c.args.rule c.args.chosen e.same.levels e.nodes over)

pub returns-then-at-len-clause-under : goal.returns-then-at-len-clause-under
returns-then-at-len-clause-under c = λ w r. under_none c.args.self.now

pub returns-clause-under : goal.returns-clause-under
returns-clause-under c = λ w r.
    let j = c.join.ensures in
    under_joined c.args.self.now c.take_only-foot.new.self c.join.new.self c.operands-at.result w r c.operands-at.ensures.low
    (omega (arith, c.args.self.now.segments.ok.0, c.len.ensures, c.if-at-len.false)) c.take_only-foot.ensures.same j.rest j.others j.joined.begins j.low
    j.thins
