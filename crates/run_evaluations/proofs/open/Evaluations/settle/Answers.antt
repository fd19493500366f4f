use Rattle.run_evaluations.specs.Ends.{events_from}
use Rattle.run_evaluations.proofs.FrameLemmas.{below_all, below_before, named_all, named_before, some_named}
use Rattle.run_evaluations.proofs.open.Evaluations.settle.Goals as goal

pub returns-clause-follows : goal.returns-clause-follows
returns-clause-follows c = λ t ts f.
    let a = c.args.self.now in
    let m = c.keep_touched.new.self in
    let k = c.keep_touched.ensures in
    c.cut_off.ensures.below ts (below_before a m ts (k.kept f.holds.kept) (k.loose f.holds.loose) k.same (below_all a t ts f)) t
    (named_before a m (events_from a) t k.same (named_all a t ts f))

pub returns-clause-below : goal.returns-clause-below
returns-clause-below c = λ ts f.
    let a = c.args.self.now in
    let m = c.keep_touched.new.self in
    let k = c.keep_touched.ensures in
    let t = some_named a ts f in (
      t.0,
      c.cut_off.ensures.below ts (below_before a m ts (k.kept f.holds.kept) (k.loose f.holds.loose) k.same f) t.0
          (named_before a m (events_from a) t.0 k.same t.1),
    )
