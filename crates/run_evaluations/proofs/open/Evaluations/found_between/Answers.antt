use Rattle.std.proofs.Common.{◌-◌, List, IfOk, length, subst}
use Rattle.std.specs.Prelude.{IfNone, slice_get}
use Rattle.ub_base.specs.declared.names.Item.{Item}
use Rattle.addr_map.specs.declared.map.Row.{Row}
use Rattle.evaluation_log.specs.declared.log.Logged.{Logged}
use Rattle.evaluation_log.specs.declared.log.Segment.{Segment}
use Rattle.evaluation_log.specs.declared.sought.Sought.TheVariants.{Any}
use Rattle.evaluation_log.specs.Clashes.{AreSorted, NoneBetween}
use Rattle.run_evaluations.specs.First.{expression_in}
use Rattle.run_evaluations.proofs.FirstLemmas.{between_moved}
use Rattle.run_evaluations.proofs.open.Evaluations.found_between.Goals as goal

pub returns-clause-none : goal.returns-clause-none
returns-clause-none c =
    let o = c.args.self.now in
    let g = c.search.result in
    let ss = o.segments.items in
    subst (λ (rows : List Row). AreSorted ss o.events.items c.args.at →
    IfOk c.found_between.result (λ r. IfNone r (NoneBetween Any rows ss o.events.items o.items.items c.args.at))) c.search.ensures.rows
    (subst (λ (xs : List Logged). AreSorted ss xs c.args.at →
    IfOk c.found_between.result (λ r. IfNone r (NoneBetween Any g.under.map.now ss xs o.items.items c.args.at))) c.search.ensures.events
    (subst (λ (xs : List Item). AreSorted ss g.log.events.now c.args.at →
    IfOk c.found_between.result (λ r. IfNone r (NoneBetween Any g.under.map.now ss g.log.events.now xs c.args.at))) c.search.ensures.items
    (subst (λ (xs : List Segment). AreSorted xs g.log.events.now c.args.at →
    IfOk c.found_between.result (λ r. IfNone r (NoneBetween Any g.under.map.now xs g.log.events.now g.log.items.now c.args.at)))
    c.deref.ensures.value c.found_between.ensures.none)))

pub returns-clause-first : goal.returns-clause-first
returns-clause-first c =
    let o = c.args.self.now in
    let g = c.search.result in
    between_moved c.found_between.result c.args.at c.args.under.frames.now g.under.frames.now c.args.under.map.now g.under.map.now
    (expression_in (slice_get o.levels.items (length o.levels.items - 1))) g.place o.events.items g.log.events.now o.items.items g.log.items.now
    o.segments.items _ c.search.ensures.frames c.search.ensures.rows c.search.ensures.place c.search.ensures.events c.search.ensures.items
    c.deref.ensures.value c.found_between.ensures.first
