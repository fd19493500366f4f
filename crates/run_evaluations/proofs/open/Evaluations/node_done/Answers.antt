use Rattle.run_evaluations.proofs.WholeLemmas.{kept_like}
use Rattle.std.proofs.Common.{subst, sym, ◌∙◌, ◌∷◌, ℕ}
use Rattle.run_evaluations.specs.Follows.{scopes_of}
use Rattle.run_evaluations.proofs.ToldLemmas.{follow_done, full_but, rest_after}
use Rattle.evaluation_log.specs.Loose.{LooseKept}
use Rattle.run_evaluations.proofs.FullLemmas.{but_like, ends_like}
use Rattle.run_evaluations.proofs.LooseWholeLemmas.{right_set}
use Rattle.evaluation_log.proofs.LooseWholeLemmas.{top_right}
use Rattle.std.proofs.Common.{◌-◌, ap, arith, length}
use Rattle.std.specs.Prelude.{slice_get}
use Rattle.c_typed.specs.Tree.{tree_of}
use Rattle.seq_order.specs.Marked.{taken_in}
use Rattle.evaluation_log.proofs.LooseLemmas.{if_none_by, none_at}
use Rattle.evaluation_search.specs.First.{IsOfPair}
use Rattle.run_evaluations.specs.Below.{AreListed}
use Rattle.run_evaluations.specs.First.{AreOfNode, IsConflictIn, expression_in}
use Rattle.run_evaluations.specs.Follows.{name_of}
use Rattle.run_evaluations.specs.Shows.{NoneOfNode}
use Rattle.run_evaluations.proofs.FirstLemmas.{expression_is, first_alike, first_some}
use Rattle.run_evaluations.proofs.NodeLemmas.{clean_moved, node_from, node_moved, node_told, none_below}
use Rattle.run_evaluations.proofs.open.Evaluations.node_done.Goals as goal

pub returns-clause-kept : goal.returns-clause-kept
returns-clause-kept c = λ w.
    kept_like c.gather_loose.new.self c.add_loose.new.self c.add_loose.ensures.rest c.add_loose.ensures.like
    (kept_like c.args.self.now c.gather_loose.new.self c.gather_loose.ensures.rest c.gather_loose.ensures.like w)

pub returns-clause-loose : goal.returns-clause-loose
returns-clause-loose c = λ w r.
    let g = c.gather_loose.ensures in
    c.in_ok-add_loose.ensures.loose
    (kept_like c.args.self.now c.gather_loose.new.self g.rest g.like w)
    (right_set c.args.self.now c.gather_loose.new.self c.loose_start-loose.result g.rest g.loose g.like g.lows g.feet c.loose_start-loose.ensures r)

pub returns-clause-apart : goal.returns-clause-apart
returns-clause-apart c = λ t ts f own alone o.
    let g = c.gather_loose.ensures in
    let a = c.args.self.now in
    let b = c.gather_loose.new.self in
    if_none_by c.in_ok-found.found (NoneOfNode c.args.map.now t c.args.node) (λ e.
    none_below c.args.self.now t ts c.args.node f own alone (taken_in c.args.order.taken.now) (tree_of c.args.order.root.now) o c.own_events-own.result
    c.loose_start-loose.result c.loose_start-loose.ensures c.own_events-own.ensures.low c.own_events-own.ensures.least c.own_events-own.ensures.own
    c.args.map.now
    (clean_moved c.args.map.now a.events.items b.events.items a.items.items b.items.items a.loose.items b.loose.items g.rest.events g.rest.items g.loose
    (taken_in c.args.order.taken.now) (tree_of c.args.order.root.now) c.own_events-own.result c.loose_start-loose.result
    (none_at _ c.in_ok-found.found e (c.in_ok-found.ensures.none o.small (c.gather_loose.ensures.right
    (subst (λ (n : ℕ). LooseKept c.args.self.now.segments.items c.args.self.now.events.items c.args.self.now.items.items c.args.self.now.loose.items n)
    (sym c.loose_start-loose.ensures) (top_right c.args.self.now.segments.items c.args.self.now.events.items c.args.self.now.items.items
    c.args.self.now.loose.items c.args.self.now.levels.items f.holds.loose)))))))

pub returns-clause-first : goal.returns-clause-first
returns-clause-first c = λ t ts f own alone o.
    let g = c.gather_loose.ensures in
    let a = c.args.self.now in
    let b = c.gather_loose.new.self in
    let p = expression_in (slice_get a.levels.items (length a.levels.items - 1)) in
    let is = expression_is a t (ap (λ x. name_of (slice_get a.levels.items x)) (let n = f.all.count in omega (arith, n)) ∙ f.holds.frames.0.named) in
    first_alike c.args.frames.now
    (IsOfPair c.args.frames.now c.args.map.now p a.events.items a.items.items
    (AreListed (taken_in c.args.order.taken.now) (tree_of c.args.order.root.now) a.events.items a.loose.items c.own_events-own.result
    c.loose_start-loose.result))
    (IsConflictIn c.args.frames.now c.args.map.now t (AreOfNode t c.args.node)) c.in_ok-found.found
    (node_told c.args.self.now t ts c.args.node f own alone (taken_in c.args.order.taken.now) (tree_of c.args.order.root.now) o c.own_events-own.result
    c.loose_start-loose.result c.loose_start-loose.ensures c.own_events-own.ensures.low c.own_events-own.ensures.least c.own_events-own.ensures.own
    c.args.frames.now c.args.map.now p is)
    (node_from c.args.self.now t ts c.args.node f own alone (taken_in c.args.order.taken.now) (tree_of c.args.order.root.now) o c.own_events-own.result
    c.loose_start-loose.result c.loose_start-loose.ensures c.own_events-own.ensures.low c.own_events-own.ensures.least c.own_events-own.ensures.own
    c.args.frames.now c.args.map.now p is)
    (first_some c.args.frames.now
    (IsOfPair c.args.frames.now c.args.map.now p a.events.items a.items.items
    (AreListed (taken_in c.args.order.taken.now) (tree_of c.args.order.root.now) a.events.items a.loose.items c.own_events-own.result
    c.loose_start-loose.result))
    c.in_ok-found.found
    (node_moved c.args.frames.now c.args.map.now a.events.items b.events.items a.items.items b.items.items a.loose.items b.loose.items a.levels.items
    b.levels.items
    g.rest.events g.rest.items g.loose g.rest.levels (taken_in c.args.order.taken.now) (tree_of c.args.order.root.now) c.own_events-own.result
    c.loose_start-loose.result c.in_ok-found.found (c.in_ok-found.ensures.first o.small (c.gather_loose.ensures.right
    (subst (λ (n : ℕ). LooseKept c.args.self.now.segments.items c.args.self.now.events.items c.args.self.now.items.items c.args.self.now.loose.items n)
    (sym c.loose_start-loose.ensures) (top_right c.args.self.now.segments.items c.args.self.now.events.items c.args.self.now.items.items
    c.args.self.now.loose.items c.args.self.now.levels.items f.holds.loose))))))

pub returns-clause-follows : goal.returns-clause-follows
returns-clause-follows c = λ os f.
    let g = c.gather_loose.ensures in
    let a = c.args.self.now in
    let b = c.gather_loose.new.self in
    let d = c.add_loose.new.self in
    let w = f.holds.kept in
    let r = f.holds.loose in
    let full = c.in_ok-add_loose.ensures.full (scopes_of os) (kept_like a b g.rest g.like w)
    (right_set a b c.loose_start-loose.result g.rest g.loose g.like g.lows g.feet c.loose_start-loose.ensures r)
    (but_like a b (scopes_of os) g.rest g.loose g.like g.lows g.nodes (full_but a os c.args.node f))
    (ends_like a b c.args.node g.rest g.like g.nodes f.last) in
    follow_done a d os c.args.node f (rest_after a b d g.rest c.add_loose.ensures.rest) (λ x. c.add_loose.ensures.nodes x ∙ g.nodes x)
    (returns-clause-kept c w) (returns-clause-loose c w r) full
