use Rattle.conflict_detector.proofs.Sees.{seen_node}
use Rattle.conflict_detector.proofs.detector.Detector.with_above.Goals as goal

pub returns-clause-first : goal.returns-clause-first
returns-clause-first c = λ t ts right shown f done gather own.
    seen_node c.args.v.now.frames.now c.args.v.now.map.now t c.args.node c.args.found c.in_ok-more.more _ _ _ done own
    (c.in_ok-more.ensures.first c.args.roots.now t ts right shown f done gather) c.first_of-first.ensures.first
    (λ g e p. c.apart_in-stands.ensures.passes_none_over t g shown e p) c.seen_of.ensures.some c.seen_of.ensures.none
