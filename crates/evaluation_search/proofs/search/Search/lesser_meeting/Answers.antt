use Rattle.std.proofs.Common.{◌≡◌, ◌∙◌, ◌⊎◌, ⊎_elim, inl, inr, true, refl, sym, ℕ, Some, ap, false}
use Rattle.std.specs.Prelude.{slice_get}
use Rattle.footprint.specs.Holds.{holds}
use Rattle.evaluation_log.specs.Touched.{event_has}
use Rattle.evaluation_log.proofs.ClashLemmas.{none_like, some_like}
use Rattle.evaluation_search.specs.First.{named}
use Rattle.evaluation_search.proofs.BetweenFirst.{nearer_none, nearer_some, takes_nearer, takes_kept}
use Rattle.evaluation_search.proofs.search.Search.lesser_meeting.Goals as goal

pub returns-clause-none : goal.returns-clause-none
returns-clause-none c = λ e.
    let n = nearer_none c.args.self.now.under.map.now c.args.sought (holds c.in_ok-own.own) (holds c.args.foot.now) c.args.at c.args.best c.nearer.result
    c.nearer.ensures e in (
      n.0,
      λ sought.
          none_like c.args.self.now.under.map.now c.args.sought (holds c.in_ok-own.own) (event_has c.args.self.now.log.items.now
          (slice_get c.args.self.now.log.events.now c.args.at))
          (holds c.args.foot.now) (holds c.args.foot.now) (λ j. c.in_ok-own.ensures j) (λ j. refl) n.1,
    )

pub returns-clause-some : goal.returns-clause-some
returns-clause-some c =
    ⊎_elim (λ same. inl same)
    (λ new. inr (
      new.0,
      sym c.is_sought.ensures ∙ c.if-not-is_sought.false,
      some_like c.args.self.now.under.map.now c.args.sought (holds c.in_ok-own.own) (event_has c.args.self.now.log.items.now
          (slice_get c.args.self.now.log.events.now c.args.at))
          (holds c.args.foot.now) (λ j. c.in_ok-own.ensures j) new.1,
    ))
    (nearer_some c.args.self.now.under.map.now c.args.sought (holds c.in_ok-own.own) (holds c.args.foot.now) c.args.at c.args.best c.nearer.result
    c.nearer.ensures)

pub returns-clause-takes : goal.returns-clause-takes
returns-clause-takes c =
    takes_nearer c.args.self.now.under.frames.now c.args.self.now.under.map.now c.args.self.now.place c.args.self.now.log.events.now
    c.args.self.now.log.items.now c.args.sought c.args.at c.args.best c.nearer.result c.in_ok-own.own c.args.foot.now (λ j. c.in_ok-own.ensures j)
    (sym c.is_sought.ensures ∙ c.if-not-is_sought.false) (λ m e. sym (c.comes_before.ensures.some m e) ∙ c.if-not-comes_before.false) c.nearer.ensures

pub returns-then-not-is_sought-clause-takes : goal.returns-then-not-is_sought-clause-takes
returns-then-not-is_sought-clause-takes c =
    inl (refl, λ q. let z : true ≡ false = sym q.0 ∙ (sym c.is_sought.ensures ∙ c.if-not-is_sought.true) in absurd (cc))

pub returns-then-not-comes_before-clause-takes : goal.returns-then-not-comes_before-clause-takes
returns-then-not-comes_before-clause-takes c =
    takes_kept c.args.self.now.under.frames.now c.args.self.now.place c.args.self.now.log.events.now c.args.at c.args.best c.comes_before.result
    c.comes_before.ensures.none c.comes_before.ensures.some c.if-not-comes_before.true
