use Rattle.std.proofs.Common.{◌≡◌, ◌≤◌, ◌<◌, ◌-◌, ◌∙◌, ℕ, None, length, sym, arith, Option, Some}
use Rattle.std.specs.Prelude.{slice_get}
use Rattle.c_typed.specs.Tree.{tree_of}
use Rattle.seq_order.specs.Marked.{taken_in}
use Rattle.evaluation_search.specs.First.{IsOfPair}
use Rattle.run_evaluations.specs.First.{expression_in}
use Rattle.evaluation_log.proofs.LooseLemmas.{if_none_by}
use Rattle.evaluation_search.proofs.FirstLemmas.{range_none}
use Rattle.run_evaluations.specs.Below.{IsClean, IsListedAt}
use Rattle.run_evaluations.proofs.BelowLemmas.{among_end, first_rise, none_listed_end, none_rise_by}
use Rattle.run_evaluations.proofs.open.Evaluations.found_among.Goals as goal

pub loop-i-init : goal.loop-i-init
loop-i-init c = record {
  conflict = tt;
  none = λ small e k less low. absurd (omega (arith, less, low));
  first = λ small. range_none c.args.under.frames.now (λ i. IsOfPair c.args.under.frames.now c.args.under.map.now
      (expression_in (slice_get c.args.self.now.levels.items (length c.args.self.now.levels.items - 1))) c.args.self.now.events.items
      c.args.self.now.items.items
      (IsListedAt (taken_in c.args.order.taken.now) (tree_of c.args.order.root.now) c.args.self.now.events.items c.args.self.now.loose.items c.args.event i))
      c.args.loose;
}

pub loop-i-preserved : goal.loop-i-preserved
loop-i-preserved c = record {
  conflict = c.first_of-best.ensures.items c.loop-i.invariant.conflict c.in_ok-found.ensures.conflict;
  none = λ small. none_rise_by c.args.under.frames.now (λ i. IsClean c.args.under.map.now (taken_in c.args.order.taken.now) (tree_of c.args.order.root.now)
      c.args.self.now.events.items
      c.args.self.now.items.items c.args.event (slice_get c.args.self.now.loose.items i)) c.loop-i.best c.in_ok-found.found c.first_of-best.result
      c.args.loose c.loop-i.i c.first_of-best.ensures.first (c.loop-i.invariant.none small) (c.in_ok-found.ensures.none small);
  first = λ small. first_rise c.args.under.frames.now (λ i. IsOfPair c.args.under.frames.now c.args.under.map.now
      (expression_in (slice_get c.args.self.now.levels.items (length c.args.self.now.levels.items - 1))) c.args.self.now.events.items
      c.args.self.now.items.items
      (IsListedAt (taken_in c.args.order.taken.now) (tree_of c.args.order.root.now) c.args.self.now.events.items c.args.self.now.loose.items c.args.event i))
      c.args.loose c.loop-i.i c.loop-i.best c.in_ok-found.found
      c.first_of-best.result c.first_of-best.ensures.first c.loop-i.auto.i (c.loop-i.invariant.first small) (c.in_ok-found.ensures.first small);
}

pub returns-clause-none : goal.returns-clause-none
returns-clause-none c = λ small. if_none_by c.loop-i.best _ (λ e.
    none_listed_end c.args.under.frames.now c.args.under.map.now
    (expression_in (slice_get c.args.self.now.levels.items (length c.args.self.now.levels.items - 1))) c.args.self.now.events.items c.args.self.now.items.items
    (taken_in c.args.order.taken.now) (tree_of c.args.order.root.now) c.args.self.now.loose.items
    c.args.event c.args.loose c.loop-i.i (omega (arith, c.loop-i-test.false, c.args.self.now.loose.ok.0, c.len-i-end.ensures))
    (c.loop-i.invariant.none small e))

pub returns-clause-first : goal.returns-clause-first
returns-clause-first c = λ small.
    among_end c.args.under.frames.now c.args.under.map.now
    (expression_in (slice_get c.args.self.now.levels.items (length c.args.self.now.levels.items - 1))) c.args.self.now.events.items c.args.self.now.items.items
    (taken_in c.args.order.taken.now) (tree_of c.args.order.root.now) c.args.self.now.loose.items
    c.args.event c.args.loose c.loop-i.i c.loop-i.best (omega (arith, c.loop-i-test.false, c.args.self.now.loose.ok.0, c.len-i-end.ensures))
    (c.loop-i.invariant.first small)
