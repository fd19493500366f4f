use Rattle.std.proofs.Common.{◌∙◌, ap, refl, sym, subst}
use Rattle.std.proofs.lemmas.Option.{same_Some, slice_get_past, slice_get_read}
use Rattle.elaborate.specs.Roots.{trees_at}
use Rattle.evaluation_log.specs.FoundItems.{first_found}
use Rattle.conflict_detector.specs.Examined.{IsNumbered}
use Rattle.conflict_detector.specs.Shown.{IsShown}
use Rattle.conflict_detector.proofs.RunEnds.{end_stands, none_there}
use Rattle.conflict_detector.proofs.Stands.{first_apart}
use Rattle.conflict_detector.proofs.detector.Detector.ended_at.Goals as goal

pub returns-in_default-clause-follows : goal.returns-in_default-clause-follows
returns-in_default-clause-follows c = λ b t ts there numbered right f.
    absurd (none_there c.args.v.now.begun.now c.args.i b there (slice_get_past c.args.v.now.begun.now c.args.i c.in_default.ensures.lookup.3))

pub returns-in_default-clause-first : goal.returns-in_default-clause-first
returns-in_default-clause-first c = λ b t ts there shown can right f.
    absurd (none_there c.args.v.now.begun.now c.args.i b there (slice_get_past c.args.v.now.begun.now c.args.i c.in_default.ensures.lookup.3))

pub returns-clause-apart : goal.returns-clause-apart
returns-clause-apart c = λ h. first_apart (trees_at c.args.roots.now) _ _ _ _ c.first_of.ensures.first h c.apart_in-stands.ensures.apart

pub returns-clause-follows : goal.returns-clause-follows
returns-clause-follows c = λ b t ts there numbered right f.
    let bs = c.args.v.now.begun.now in
    let now = c.in-Some.begun.now in
    let a = c.in-Some.ensures.lookup in
    let same = same_Some b now (sym there ∙ slice_get_read bs _ c.args.i now refl a.3.0 a.1) in
    c.in_ok-found.ensures.follows c.args.roots.now t ts (subst (λ z. IsNumbered c.args.roots.now z.tree z.root.now) same numbered) right f

pub returns-clause-first : goal.returns-clause-first
returns-clause-first c = λ b t ts there shown can right f.
    let bs = c.args.v.now.begun.now in
    let frames = c.args.v.now.frames.now in
    let now = c.in-Some.begun.now in
    let a = c.in-Some.ensures.lookup in
    let same = same_Some b now (sym there ∙ slice_get_read bs _ c.args.i now refl a.3.0 a.1) in
    let s = subst (λ z. IsShown c.args.roots.now z t) same shown in
    let first = c.in_ok-found.ensures.first c.args.roots.now t ts s can right f in
    let stands = c.apart_in-stands.ensures in (
      c.in_ok-found.found,
      c.first_of.ensures.first ∙ ap (first_found frames c.args.best)
          (end_stands frames c.args.v.now.map.now t can c.in_ok-found.found _ first (λ g e p. stands.passes_none_over t g s e p) stands.given),
      first,
    )
