use Rattle.std.proofs.Common.{◌∙◌, refl, sym, subst}
use Rattle.std.proofs.lemmas.Option.{same_Some}
use Rattle.run_evaluations.specs.Told.{gathered}
use Rattle.conflict_detector.specs.Shown.{IsShown}
use Rattle.conflict_detector.proofs.Leaving.{started_top}
use Rattle.conflict_detector.proofs.Sees.{sees_operands, tells_node}
use Rattle.conflict_detector.proofs.detector.Detector.recorded_operands.Goals as goal

pub returns-in_default-clause-follows : goal.returns-in_default-clause-follows
returns-in_default-clause-follows c = λ b t ts last shown own r. absurd (c.in_default.ensures.none refl b last)

pub returns-in_default-clause-first : goal.returns-in_default-clause-first
returns-in_default-clause-first c = λ b t ts last shown own r parts done. absurd (c.in_default.ensures.none refl b last)

pub returns-clause-follows : goal.returns-clause-follows
returns-clause-follows c = λ b t ts last shown own r.
    let s = subst (λ z. IsShown c.args.roots.now z t) (same_Some b c.in-Some.begun.now (sym last ∙ c.in-Some.ensures.some)) shown in
    let tells = tells_node t c.args.node own _ _ (c.in_ok-rule.ensures.ruled c.args.roots.now t own r.known s) in
    record {
      known = c.in_ok-rule.ensures.right c.args.roots.now r.known s.numbered;
      some = r.some;
      started = started_top t (gathered c.args.node t) ts r.started;
      follows = record { follows = c.in_ok-found.ensures.follows t ts r.follows.follows tells; names = r.follows.names };
    }

pub returns-clause-first : goal.returns-clause-first
returns-clause-first c = λ b t ts last shown own r parts done.
    let s = subst (λ z. IsShown c.args.roots.now z t) (same_Some b c.in-Some.begun.now (sym last ∙ c.in-Some.ensures.some)) shown in
    let tells = tells_node t c.args.node own _ _ (c.in_ok-rule.ensures.ruled c.args.roots.now t own r.known s) in
    let free = c.in_ok-rule.ensures.free c.args.roots.now t r.known s in
    let found = c.in_ok-found.ensures in
    sees_operands c.args.v.now.frames.now c.args.v.now.map.now t c.args.node c.in_ok-found.found _ _ done
    (found.apart t ts r.follows.follows tells parts) (found.first t ts r.follows.follows tells parts free done.once)
    (λ f e p. c.apart_in-stands.ensures.passes_none_over t f s e p) c.seen_of.ensures.some c.seen_of.ensures.none c.apart_in-stands.ensures.given
