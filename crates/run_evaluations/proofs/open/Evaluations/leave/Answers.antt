use Rattle.std.proofs.Common.{arith, ◌∷◌}
use Rattle.run_evaluations.proofs.open.Evaluations.leave.Goals as goal

pub returns-then-len-lt2-clause-follows : goal.returns-then-len-lt2-clause-follows
returns-then-len-lt2-clause-follows c = λ t ts f started. absurd (
    let n = f.count in
    omega (arith, n, c.len.ensures, c.args.self.now.levels.ok.0, c.if-len-lt2.true))

pub returns-in_default-clause-follows : goal.returns-in_default-clause-follows
returns-in_default-clause-follows c = λ t ts f started. absurd (
    let s = c.in_ok-settle.ensures.below (t ∷ ts) f in
    let n = s.1.all.count in
    let z = c.in_default.ensures.none in
    omega (arith, n, z))

pub returns-clause-follows : goal.returns-clause-follows
returns-clause-follows c = λ t ts f started.
    let s = c.in_ok-settle.ensures.below (t ∷ ts) f in
    (_, c.in_ok-give.ensures.follows t ts (c.pop_level.ensures.follows s.0 (t ∷ ts) s.1) started)
