use Rattle.std.proofs.Common.{sym, ap, ◌∙◌, arith}
use Rattle.run_evaluations.specs.Ends.{events_from}
use Rattle.run_evaluations.proofs.FrameLemmas.{before_after, before_open, from_before}
use Rattle.run_evaluations.proofs.WholeLemmas.{kept_open}
use Rattle.run_evaluations.proofs.LooseWholeLemmas.{right_open}
use Rattle.run_evaluations.proofs.open.Evaluations.keep_touched.Goals as goal

pub returns-in_err-keep_items-clause-kept : goal.returns-in_err-keep_items-clause-kept
returns-in_err-keep_items-clause-kept c = λ w. kept_open c.args.self.now c.keep_items.new.self c.keep_items.ensures.same w

pub returns-in_err-keep_items-clause-loose : goal.returns-in_err-keep_items-clause-loose
returns-in_err-keep_items-clause-loose c = λ r. right_open c.args.self.now c.keep_items.new.self c.keep_items.ensures.same r

pub loop-at-init : goal.loop-at-init
loop-at-init c = record {
  kept = λ w. kept_open c.args.self.now c.keep_items.new.self c.keep_items.ensures.same w;
  loose = λ r. right_open c.args.self.now c.keep_items.new.self c.keep_items.ensures.same r;
  same = before_open c.args.self.now c.keep_items.new.self (events_from c.args.self.now) c.keep_items.ensures.same c.keep_items.ensures.names;
}

pub loop-at-preserved : goal.loop-at-preserved
loop-at-preserved c =
    let a = c.args.self.now in
    let b = c.loop-at.self in
    let d = c.keep_body.new.self in
    let i = c.loop-at.invariant in
    record {
      kept = λ w. c.keep_body.ensures.kept (i.kept w);
      loose = λ r. c.keep_body.ensures.loose (i.loose r);
      same =
          let from = from_before a c.keep_items.new.self (events_from a)
          (before_open a c.keep_items.new.self (events_from a) c.keep_items.ensures.same c.keep_items.ensures.names) in
          let low = c.loop-at.auto.at in
          let begin = c.events_from-at.ensures in
          before_after a b d (events_from a) c.loop-at.at (omega (arith, from, low, begin)) i.same c.keep_body.ensures.same;
    }

pub returns-in_err-keep_body-clause-same : goal.returns-in_err-keep_body-clause-same
returns-in_err-keep_body-clause-same c =
    let a = c.args.self.now in
    let from = from_before a c.keep_items.new.self (events_from a)
    (before_open a c.keep_items.new.self (events_from a) c.keep_items.ensures.same c.keep_items.ensures.names) in
    let low = c.loop-at.auto.at in
    let begin = c.events_from-at.ensures in
    before_after a c.loop-at.self c.keep_body.new.self (events_from a) c.loop-at.at (omega (arith, from, low, begin)) c.loop-at.invariant.same
    c.keep_body.ensures.same
