use Rattle.std.proofs.Common.{◌≡◌, ◌≤◌, ◌<◌, ◌-◌, ◌∙◌, ℕ, None, length, sym, arith, Option, Some}
use Rattle.std.specs.Prelude.{slice_get}
use Rattle.c_typed.specs.Tree.{tree_of}
use Rattle.seq_order.specs.Marked.{taken_in}
use Rattle.evaluation_search.specs.First.{IsOfPair}
use Rattle.run_evaluations.specs.First.{expression_in}
use Rattle.evaluation_log.proofs.LooseLemmas.{if_none_by}
use Rattle.evaluation_search.proofs.FirstLemmas.{range_none}
use Rattle.run_evaluations.specs.Below.{AreListedWith, NoneListed}
use Rattle.run_evaluations.proofs.BelowLemmas.{below_end, first_rise, none_rise}
use Rattle.run_evaluations.proofs.open.Evaluations.found_from.Goals as goal

pub loop-at-init : goal.loop-at-init
loop-at-init c = record {
  conflict = tt;
  none = λ small kept e k less low. absurd (omega (arith, less, low));
  first = λ small kept. range_none c.args.under.frames.now (λ k. IsOfPair c.args.under.frames.now c.args.under.map.now
      (expression_in (slice_get c.args.self.now.levels.items (length c.args.self.now.levels.items - 1))) c.args.self.now.events.items
      c.args.self.now.items.items
      (AreListedWith (taken_in c.args.order.taken.now) (tree_of c.args.order.root.now) c.args.self.now.events.items c.args.self.now.loose.items k c.args.loose))
      c.args.own;
}

pub loop-at-preserved : goal.loop-at-preserved
loop-at-preserved c = record {
  conflict = c.first_of-best.ensures.items c.loop-at.invariant.conflict c.in_ok-found.ensures.conflict;
  none = λ small kept. none_rise c.args.under.frames.now (λ k.
      NoneListed c.args.under.map.now (taken_in c.args.order.taken.now) (tree_of c.args.order.root.now) c.args.self.now.events.items
      c.args.self.now.items.items c.args.self.now.loose.items c.args.loose k) c.loop-at.best c.in_ok-found.found c.first_of-best.result c.args.own c.loop-at.at
      c.first_of-best.ensures.first (c.loop-at.invariant.none small kept) (c.in_ok-found.ensures.none small kept);
  first = λ small kept. first_rise c.args.under.frames.now (λ k. IsOfPair c.args.under.frames.now c.args.under.map.now
      (expression_in (slice_get c.args.self.now.levels.items (length c.args.self.now.levels.items - 1))) c.args.self.now.events.items
      c.args.self.now.items.items
      (AreListedWith (taken_in c.args.order.taken.now) (tree_of c.args.order.root.now) c.args.self.now.events.items c.args.self.now.loose.items k c.args.loose))
      c.args.own c.loop-at.at c.loop-at.best c.in_ok-found.found
      c.first_of-best.result c.first_of-best.ensures.first c.loop-at.auto.at (c.loop-at.invariant.first small kept) (c.in_ok-found.ensures.first small kept);
}

pub returns-clause-none : goal.returns-clause-none
returns-clause-none c = λ small kept. if_none_by c.loop-at.best _ (λ e k low less.
    c.loop-at.invariant.none small kept e k (omega (arith, less, c.loop-at-test.false, c.args.self.now.events.ok.0, c.len-at-end.ensures)) low)

pub returns-clause-first : goal.returns-clause-first
returns-clause-first c = λ small kept.
    below_end c.args.under.frames.now c.args.under.map.now
    (expression_in (slice_get c.args.self.now.levels.items (length c.args.self.now.levels.items - 1))) c.args.self.now.events.items c.args.self.now.items.items
    (taken_in c.args.order.taken.now) (tree_of c.args.order.root.now) c.args.self.now.loose.items
    c.args.own c.args.loose c.loop-at.at c.loop-at.best (omega (arith, c.loop-at-test.false, c.args.self.now.events.ok.0, c.len-at-end.ensures))
    (c.loop-at.invariant.first small kept)
