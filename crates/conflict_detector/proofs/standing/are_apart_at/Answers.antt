use Rattle.conflict_detector.proofs.Stands.{found_at}
use Rattle.conflict_detector.proofs.standing.are_apart_at.Goals as goal

pub returns-in-Some-clause-apart : goal.returns-in-Some-clause-apart
returns-in-Some-clause-apart c = λ h.
    let f = c.in-Some.ensures.lookup in
    found_at c.args.roots.now c.args.number c.in-Some.root.now _ c.args.found.now.race c.args.found.now.event c.args.found.now.against f.3.0 f.1
    (c.are_apart_in.ensures.apart h)
