use Rattle.std.proofs.Common.{sym, ap, ◌∙◌, arith, subst, length, suc, ◌∷◌, ◌<◌, ◌-◌}
use Rattle.std.specs.Prelude.{slice_get}
use Rattle.c_typed.specs.Order.{place}
use Rattle.evaluation_log.specs.Kept.{base_of}
use Rattle.evaluation_log.specs.Ways.{node_of}
use Rattle.evaluation_log.proofs.WholeLemmas.{base_within}
use Rattle.run_evaluations.specs.Follows.{scopes_of}
use Rattle.run_evaluations.specs.Scopes.{IsBelow}
use Rattle.run_evaluations.proofs.ToldLemmas.{below_told, follow_now, follow_told, full_all, gathered_lows, gathered_nodes, over_told, placed_lows}
use Rattle.run_evaluations.proofs.ToldLemmas.{placed_nodes, scope_is}
use Rattle.run_evaluations.proofs.WholeLemmas.{told_after}
use Rattle.run_evaluations.proofs.FullLemmas.{below_after}
use Rattle.run_evaluations.proofs.open.Evaluations.event.Goals as goal

pub returns-then-is_top_of-clause-kept : goal.returns-then-is_top_of-clause-kept
returns-then-is_top_of-clause-kept c = λ w.
    let g = c.gather.ensures.kept w in
    let b = c.is_top_of.ensures.top c.if-is_top_of.true g in
    c.in_ok-log_at_top.ensures.kept g b.0 b.1 b.2

pub returns-then-is_top_of-clause-told : goal.returns-then-is_top_of-clause-told
returns-then-is_top_of-clause-told c =
    let t = c.in_ok-log_at_top.ensures.told in
    (t.0, t.1, t.2, told_after c.args.self.now c.gather.new.self c.log_at_top.new.self t.0 c.args.items.now c.gather.ensures.rest t.3)

pub returns-clause-told : goal.returns-clause-told
returns-clause-told c =
    let t = c.in_ok-log_first.ensures.told in
    (t.0, t.1, t.2, told_after c.args.self.now c.gather.new.self c.log_first.new.self t.0 c.args.items.now c.gather.ensures.rest t.3)

pub returns-then-is_top_of-clause-loose : goal.returns-then-is_top_of-clause-loose
returns-then-is_top_of-clause-loose c = λ w r.
    let g = c.gather.ensures.kept w in
    let b = c.is_top_of.ensures.top c.if-is_top_of.true g in
    c.in_ok-log_at_top.ensures.loose g (c.gather.ensures.loose w r) b.0 b.1 b.2

pub returns-clause-loose : goal.returns-clause-loose
returns-clause-loose c = λ w r. c.in_ok-log_first.ensures.loose (c.gather.ensures.kept w) (c.gather.ensures.loose w r)

pub returns-then-is_top_of-clause-follows : goal.returns-then-is_top_of-clause-follows
returns-then-is_top_of-clause-follows c = λ t ts f tell.
    let a = c.args.self.now in
    let b = c.gather.new.self in
    let d = c.log_at_top.new.self in
    let g = c.gather.ensures in
    let top = c.is_top_of.ensures in
    let yes_top = c.if-is_top_of.true in
    let scopes = scopes_of (t ∷ ts) in
    let w = f.holds.kept in
    let r = f.holds.loose in
    let levels = g.rest.levels in
    let base : base_of a.levels.items < length b.segments.items =
    subst (λ ls. base_of ls < length b.segments.items) levels (top.base yes_top) in
    let full = c.in_ok-log_at_top.ensures.full scopes (g.kept w) (g.loose w r)
    (g.full scopes w r (full_all a t ts f) (over_told a t ts f c.args.node c.args.rule c.args.chosen tell.own)) (top.base yes_top) (top.own yes_top)
    (let n = f.all.count in let l = ap length levels in omega (arith, n, l))
    (below_after a b scopes c.args.node c.args.kind levels
    (subst (λ s. IsBelow s c.args.node (place c.args.node c.args.kind)) (sym (scope_is a t ts f)) (below_told t (place c.args.node c.args.kind) _ _ tell))) in
    let new = returns-then-is_top_of-clause-told c in
    let placed = c.in_ok-log_at_top.ensures.placed (omega (arith, base)) in
    let nodes = placed_nodes a b d c.args.node (length b.segments.items) placed
    (gathered_nodes a t ts f c.args.node c.args.rule c.args.chosen tell.own b g.made.0 g.made.1)
    (λ x low end own more. omega (arith, end, more)) in
    let lows = placed_lows a b d c.args.node (length b.segments.items) placed base (gathered_lows a b c.args.node g.made.0 g.made.1) in
    let kept = returns-then-is_top_of-clause-kept c w in
    let loose = returns-then-is_top_of-clause-loose c w r in (
      follow_told a d t ts f c.args.node c.args.kind c.args.rule c.args.chosen tell.own new.0 c.args.items.now new.1 new.2 new.3 nodes lows kept loose full,
      λ other. follow_now a d t ts f c.args.node c.args.kind c.args.rule c.args.chosen tell.own new.0 c.args.items.now new.1 new.2 new.3 nodes lows kept
          loose other full,
    )

pub returns-clause-follows : goal.returns-clause-follows
returns-clause-follows c = λ t ts f tell.
    let a = c.args.self.now in
    let b = c.gather.new.self in
    let d = c.log_first.new.self in
    let g = c.gather.ensures in
    let scopes = scopes_of (t ∷ ts) in
    let w = f.holds.kept in
    let r = f.holds.loose in
    let levels = g.rest.levels in
    let within = base_within b.segments.items b.events.items b.items.items b.large.items b.levels.items (g.kept w) in
    let base : base_of a.levels.items < suc (length b.segments.items) =
    subst (λ ls. base_of ls < suc (length b.segments.items)) levels (omega (arith, within)) in
    let full = c.in_ok-log_first.ensures.full scopes (g.kept w) (g.loose w r)
    (g.full scopes w r (full_all a t ts f) (over_told a t ts f c.args.node c.args.rule c.args.chosen tell.own))
    (let n = f.all.count in let l = ap length levels in omega (arith, n, l))
    (below_after a b scopes c.args.node c.args.kind levels
    (subst (λ s. IsBelow s c.args.node (place c.args.node c.args.kind)) (sym (scope_is a t ts f)) (below_told t (place c.args.node c.args.kind) _ _ tell))) in
    let new = returns-clause-told c in
    let placed = c.in_ok-log_first.ensures.placed in
    let nodes = placed_nodes a b d c.args.node (suc (length b.segments.items)) placed
    (gathered_nodes a t ts f c.args.node c.args.rule c.args.chosen tell.own b g.made.0 g.made.1)
    (λ x low end own more. c.is_top_of.ensures.no c.if-is_top_of.false
    (subst (λ ls. base_of ls < length b.segments.items) (sym levels) (omega (arith, low, end)))
    (ap (λ y. node_of (slice_get b.segments.items y)) (omega (arith, end)) ∙ own)) in
    let lows = placed_lows a b d c.args.node (suc (length b.segments.items)) placed base (gathered_lows a b c.args.node g.made.0 g.made.1) in
    let kept = c.in_ok-log_first.ensures.kept (g.kept w) in
    let loose = returns-clause-loose c w r in (
      follow_told a d t ts f c.args.node c.args.kind c.args.rule c.args.chosen tell.own new.0 c.args.items.now new.1 new.2 new.3 nodes lows kept loose full,
      λ other. follow_now a d t ts f c.args.node c.args.kind c.args.rule c.args.chosen tell.own new.0 c.args.items.now new.1 new.2 new.3 nodes lows kept
          loose other full,
    )
