use Rattle.std.proofs.Common.{◌∙◌, ap, sym}
use Rattle.evaluation_log.specs.Sides.{last_in}
use Rattle.conflict_detector.specs.Complete.{above_of}
use Rattle.conflict_detector.proofs.Pairs.{first_of_operands}
use Rattle.conflict_detector.proofs.Sees.{above_none, above_some, gathers, tells_node}
use Rattle.conflict_detector.proofs.detector.Detector.operands_above.Goals as goal

pub returns-in_default-clause-first : goal.returns-in_default-clause-first
returns-in_default-clause-first c = λ roots t ts right shown f done gather.
    above_none c.args.v.now.frames.now c.args.v.now.map.now t (above_of t c.args.node)
    (ap (λ z. last_in 0 z c.args.node) shown.tree ∙ sym (c.in_default.ensures shown.small))

pub returns-clause-first : goal.returns-clause-first
returns-clause-first c = λ roots t ts right shown f done gather.
    let frames = c.args.v.now.frames.now in
    let rows = c.args.v.now.map.now in
    let m = c.in-Some.above in
    let e = ap (λ z. last_in 0 z c.args.node) shown.tree ∙ sym (c.in-Some.ensures shown.small) in
    let g = gathers t (above_of t c.args.node) m e gather in
    let tells = tells_node t m g.0 _ _ (c.in_ok-rule.ensures.ruled roots t g.0 right shown) in
    let found = c.in_ok-found.ensures in
    above_some frames rows t (above_of t c.args.node) m c.in_ok-found.found e
    (first_of_operands frames rows t m c.in_ok-found.found (found.apart t ts f.follows tells g.1)
    (found.first t ts f.follows tells g.1 (c.in_ok-rule.ensures.free roots t right shown) done.once))
