use Rattle.std.proofs.Common.{refl}
use Rattle.run_evaluations.proofs.LentLemmas.{lent, taken_lent}
use Rattle.run_evaluations.proofs.open.Evaluations.take_foot.Goals as goal

pub returns-clause-taken : goal.returns-clause-taken
returns-clause-taken c =
    let o = c.args.self.now.segments in
    let s = c.deref_mut.result.now in
    let n = c.take_foot.new.segments in
    let t = c.take_foot.ensures.taken in
    taken_lent c.args.self.now _ c.args.at s n c.deref_mut.ensures.value (lent o.items s n _ o.len c.deref_mut.ensures.value o.ok.0 t.same) t
    refl refl refl refl refl
