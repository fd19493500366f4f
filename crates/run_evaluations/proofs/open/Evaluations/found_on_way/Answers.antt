use Rattle.std.proofs.Common.{length, ◌≡◌, ◌∙◌, ◌-◌, suc, ap, arith}
use Rattle.evaluation_log.specs.Kept.{is_unsequenced}
use Rattle.evaluation_log.proofs.LooseLemmas.{if_none_by}
use Rattle.run_evaluations.proofs.GiveLemmas.{under_after, under_none}
use Rattle.run_evaluations.proofs.OnWayLemmas.{order_kept, way_at, way_first, way_none}
use Rattle.run_evaluations.proofs.WayLemmas.{shape_self, shape_next, shape_before, none_before, none_so_far, none_here, all_so_far, indexed}
use Rattle.run_evaluations.proofs.open.Evaluations.found_on_way.Goals as goal

pub loop-i-init : goal.loop-i-init
loop-i-init c = record {
  conflict = tt;
  kept = λ w. w;
  loose = λ w r. r;
  under = λ w r. under_none c.args.self.now;
  shape = λ rising. (
    length c.args.self.now.segments.items,
    shape_self c.args.self.now c.args.way.now.above.items c.len-i.result
        (let n = c.len-i.ensures ∙ c.args.way.now.above.ok.0 in omega (arith, n)),
  );
  none = λ w rising e. none_so_far c.args.under.map.now c.args.rules.now c.args.way.now.above.items c.args.self.now c.len-i.result
      (let n = c.len-i.ensures ∙ c.args.way.now.above.ok.0 in omega (arith, n));
  first = λ w rising order. way_none c.args.under.frames.now c.args.under.map.now c.args.rules.now c.args.way.now.above.items c.args.self.now c.len-i.result
      (let n = c.len-i.ensures ∙ c.args.way.now.above.ok.0 in omega (arith, n));
}

pub loop-i-preserved : goal.loop-i-preserved
loop-i-preserved c =
    let a = c.args.self.now in
    let b = c.loop-i.self in
    let above = c.args.way.now.above.items in
    let p = c.loop-i.i - 1 in
    let e : c.loop-i.i ≡ suc p = omega (arith, c.loop-i-test.true) in
    let here = indexed above p c.index-node.result.now
    (let a = c.loop-i.auto.i in let n = c.len-i.ensures ∙ c.args.way.now.above.ok.0 in omega (arith, a, n, c.loop-i-test.true)) c.index-node.ensures in
    record {
      conflict = c.in_ok-best.ensures.conflict;
      kept = λ w. c.found_at_node.ensures.kept (c.loop-i.invariant.kept w);
      loose = λ w r. c.found_at_node.ensures.loose (c.loop-i.invariant.kept w) (c.loop-i.invariant.loose w r);
      under = λ w r. under_after a b c.found_at_node.new.self (c.loop-i.invariant.under w r)
          (c.found_at_node.ensures.under (c.loop-i.invariant.kept w) (c.loop-i.invariant.loose w r));
      shape = λ rising.
          let s = c.loop-i.invariant.shape rising in
          let m = c.in_ok-best.ensures.made in
          shape_next a b above p s.0 c.index-node.result.now (shape_before a b above c.loop-i.i p s.0 e s.1) rising here c.found_at_node.new.self m.0
          c.found_at_node.ensures.rest m.1;
      none = λ w rising none.
          let s = c.loop-i.invariant.shape rising in
          let f = c.in_ok-best.ensures.none (c.loop-i.invariant.kept w) none in
          none_here a b above p s.0 c.index-node.result.now (shape_before a b above c.loop-i.i p s.0 e s.1) rising here c.args.under.map.now w.kept.sorted
          c.args.rules.now (λ free. f.1 (ap is_unsequenced c.get.ensures ∙ free))
          (none_before c.args.under.map.now c.args.rules.now above a c.loop-i.i p e (c.loop-i.invariant.none w rising f.0));
      first = λ w rising order.
          let s = c.loop-i.invariant.shape rising in
          let n = c.index-node.result.now in
          let shape = shape_before a b above c.loop-i.i p s.0 e s.1 in
          let frames = c.args.under.frames.now in
          let rows = c.args.under.map.now in
          let rules = c.args.rules.now in
          let cur = c.loop-i.invariant.kept w in
          let f = c.in_ok-best.ensures.first cur (order_kept a b above p s.0 n shape rising here w.kept.sorted cur.kept.sorted order) in
          way_first a b above p s.0 n shape rising here w.kept.sorted cur.kept.sorted rules c.get.result c.get.ensures frames rows c.loop-i.best f.0
          c.in_ok-best.best f.1 (way_at frames rows rules above a c.loop-i.best c.loop-i.i (suc p) e (c.loop-i.invariant.first w rising order)) f.2;
    }

pub returns-clause-none : goal.returns-clause-none
returns-clause-none c = λ w rising.
    if_none_by c.loop-i.best _ (λ e. all_so_far c.args.under.map.now c.args.rules.now c.args.way.now.above.items c.args.self.now c.loop-i.i
    (omega (arith, c.loop-i-test.false)) (c.loop-i.invariant.none w rising e))

pub returns-in_err-best-clause-under : goal.returns-in_err-best-clause-under
returns-in_err-best-clause-under c = λ w r.
    under_after c.args.self.now c.loop-i.self c.found_at_node.new.self (c.loop-i.invariant.under w r)
    (c.found_at_node.ensures.under (c.loop-i.invariant.kept w) (c.loop-i.invariant.loose w r))

pub returns-clause-first : goal.returns-clause-first
returns-clause-first c = λ w rising order.
    way_at c.args.under.frames.now c.args.under.map.now c.args.rules.now c.args.way.now.above.items c.args.self.now c.loop-i.best c.loop-i.i 0
    (omega (arith, c.loop-i-test.false)) (c.loop-i.invariant.first w rising order)
