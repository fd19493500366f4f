use Rattle.std.proofs.Common.{◌≡◌, ◌-◌, ◌∙◌, false, refl, sym, ap, arith, ℕ, length, subst, Option, Some, None}
use Rattle.std.specs.Prelude.{slice_get, IfSome}
use Rattle.std.proofs.lemmas.Option.{same_Some}
use Rattle.ub_base.specs.declared.clause.Kind.TheVariants.{Val}
use Rattle.c_typed.specs.declared.tree.Place.{Place}
use Rattle.c_typed.specs.Order.{place}
use Rattle.evaluation_log.specs.declared.found.Found.{Found}
use Rattle.run_evaluations.specs.First.{event_by}
use Rattle.run_evaluations.specs.Scopes.{place_of}
use Rattle.ub_base.specs.declared.names.Item.{Item}
use Rattle.footprint.specs.Holds.{holds}
use Rattle.evaluation_log.specs.Touched.{event_has}
use Rattle.run_evaluations.specs.Ends.{last_has}
use Rattle.evaluation_log.proofs.LooseLemmas.{if_none_by}
use Rattle.run_evaluations.proofs.EndLemmas.{depends_by, none_first, none_second, none_there}
use Rattle.run_evaluations.proofs.open.Evaluations.found_beside.Goals as goal
use Rattle.run_evaluations.proofs.open.Evaluations.found_beside.Goals.{then-node-from, else-node-from}

pub returns-clause-none : goal.returns-clause-none
returns-clause-none c =
    let o = c.args.self.now in
    let rows = c.args.under.map.now in
    let frames = c.args.under.frames.now in
    let foot = c.in_ok-foot.foot in
    let ending = c.in_ok-ending.ending in
    let at : c.saturating_sub-last.result ≡ length o.events.items - 1 = omega (arith, c.saturating_sub-last.ensures, c.len.ensures, o.events.ok.0) in
    let last : (j : Item) → holds ending j ≡ last_has o j =
    λ j. c.in_ok-ending.ensures j ∙ ap (λ (n : ℕ). event_has o.items.items (slice_get o.events.items n) j) at in
    if_none_by c.if-node-from.result _ (λ e.
    elim c.if-node-from.branch [
      | then-node-from w ↦
          none_first frames rows o c.args.node foot ending w.least_items.result c.in_ok-foot.ensures last w.least_items.ensures.least
          (w.depends.ensures.none (sym w.result-is ∙ e))
      | else-node-from w ↦
          none_second frames rows o c.args.node foot ending w.least_items-else-node-from.result c.in_ok-foot.ensures last
          w.least_items-else-node-from.ensures.least (w.depends-else-node-from.ensures.none (sym w.result-is ∙ e))
    ])

pub returns-in_default-clause-none : goal.returns-in_default-clause-none
returns-in_default-clause-none c = none_there c.args.under.map.now c.args.self.now c.args.node c.in_default.ensures

pub returns-in_default-clause-first : goal.returns-in_default-clause-first
returns-in_default-clause-first c = λ last at. absurd (let e : None ≡ Some (place last.node last.kind) = c.in_default.ensures ∙ ap place_of at in cc)

pub returns-clause-first : goal.returns-clause-first
returns-clause-first c = λ last at.
    let o = c.args.self.now in
    let rows = c.args.under.map.now in
    let frames = c.args.under.frames.now in
    let foot = c.in_ok-foot.foot in
    let ending = c.in_ok-ending.ending in
    let end : c.in-Some.end ≡ place last.node last.kind = same_Some _ _ (c.in-Some.ensures ∙ ap place_of at) in
    let from = ap (λ (u : Place). u.node) end in
    let here : c.saturating_sub-last.result ≡ length o.events.items - 1 = omega (arith, c.saturating_sub-last.ensures, c.len.ensures, o.events.ok.0) in
    let has : (j : Item) → holds ending j ≡ last_has o j =
    λ j. c.in_ok-ending.ensures j ∙ ap (λ (n : ℕ). event_has o.items.items (slice_get o.events.items n) j) here in
    let value = c.event-value.ensures ∙ ap (λ p. event_by p c.args.node Val) c.place-place.ensures in
    let body = c.event-body.ensures ∙ (λ i. event_by (c.place-place.ensures i) (end i).node (end i).kind) in
    elim c.if-node-from.branch [
      | then-node-from w ↦
          record {
            foot = foot;
            has = c.in_ok-foot.ensures;
            before = λ less. depends_by frames rows _ _ _ _ (holds foot) (holds foot) (holds ending) (last_has o) w.least_items.result c.if-node-from.result
                value
                body (λ j. refl) has w.least_items.ensures.least (λ e. w.depends.ensures.none (sym w.result-is ∙ e))
                (subst (λ (r : Option Found). IfSome r (λ x. (x.race ≡ false) × (x.event ≡ c.event-value.result) × (x.against ≡ c.event-body.result) ×
                (w.least_items.result ≡ Some x.items))) (sym w.result-is) w.depends.ensures.some);
            behind = λ le. absurd (let t = w.if-node-from in omega (arith, le, from, t));
          }
      | else-node-from w ↦
          record {
            foot = foot;
            has = c.in_ok-foot.ensures;
            before = λ less. absurd (let t = w.if-node-from in omega (arith, less, from, t));
            behind = λ le. depends_by frames rows _ _ _ _ (holds ending) (last_has o) (holds foot) (holds foot) w.least_items-else-node-from.result
                c.if-node-from.result body value has (λ j. refl) w.least_items-else-node-from.ensures.least
                (λ e. w.depends-else-node-from.ensures.none (sym w.result-is ∙ e))
                (subst (λ (r : Option Found). IfSome r (λ x. (x.race ≡ false) × (x.event ≡ c.event-body.result) × (x.against ≡ c.event-value.result) ×
                (w.least_items-else-node-from.result ≡ Some x.items))) (sym w.result-is) w.depends-else-node-from.ensures.some);
          }
    ]
