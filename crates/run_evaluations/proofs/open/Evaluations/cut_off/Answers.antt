use Rattle.std.proofs.Common.{arith}
use Rattle.run_evaluations.proofs.FrameLemmas.{follow_cut}
use Rattle.run_evaluations.proofs.WholeLemmas.{kept_cut}
use Rattle.run_evaluations.proofs.LooseWholeLemmas.{right_cut_off}
use Rattle.run_evaluations.proofs.open.Evaluations.cut_off.Goals as goal

pub returns-in-Some-clause-kept : goal.returns-in-Some-clause-kept
returns-in-Some-clause-kept c = λ w.
    let t = c.cut_at.ensures in
    kept_cut c.args.self.now c.cut_at.new.self _ c.in-Some.ensures.cut t.segments t.events t.items t.large t.levels w

pub returns-in-Some-clause-loose : goal.returns-in-Some-clause-loose
returns-in-Some-clause-loose c = λ w r.
    let t = c.cut_at.ensures in
    right_cut_off c.args.self.now c.cut_at.new.self _ c.in-Some.ensures.cut t.segments t.events t.items t.loose t.levels w r

pub returns-in-Some-clause-below : goal.returns-in-Some-clause-below
returns-in-Some-clause-below c = λ ts f t named.
    let e = c.cut_at.ensures in
    follow_cut c.args.self.now c.cut_at.new.self _ ts t f c.in-Some.ensures.cut e.segments e.events e.items e.loose e.levels named
    (returns-in-Some-clause-kept c f.holds.kept) (returns-in-Some-clause-loose c f.holds.kept f.holds.loose)
