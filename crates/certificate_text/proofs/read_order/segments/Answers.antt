-- A stretch is added, or there are too many picks.
use Rattle.std.proofs.Common.{◌<◌, ◌+◌, Ok, sym, ap, arith}
use Rattle.certificate.specs.declared.cert.Field.TheVariants.{Order}
use Rattle.certificate.specs.Form.{total_picks, picks_of}
use Rattle.certificate_text.specs.Reading.{need}
use Rattle.certificate_text.proofs.OrderSteps.{segment_added, segment_too_many, total_of_push}
use Rattle.certificate_text.proofs.read_order.segments.Goals as goal

pub returns-then-total-most : goal.returns-then-total-most
returns-then-total-most c =
    let over : c.args.most < total_picks c.loop-entry.order + picks_of c.in-Some.segment = omega arith in
    let none = segment_too_many c.args.most c.args.entries.now c.loop-entry.entry-index c.entry-item.result c.loop-entry.order c.in-Some.segment
    c.loop-entry.invariant.all (omega arith) c.entry-item.is (sym c.in-Some.ensures) over in
    ap (λ o. need Order o Ok) none

pub loop-entry-preserved : goal.loop-entry-preserved
loop-entry-preserved c =
    let sum = total_of_push c.loop-entry.order c.push.new.self c.in-Some.segment c.in_ok-push.ensures.ok in
    record {
      all = segment_added c.args.entries.now c.loop-entry.entry-index c.entry-item.result c.loop-entry.order c.push.new.self c.in-Some.segment
          c.loop-entry.invariant.all (omega arith) c.entry-item.is (sym c.in-Some.ensures) c.in_ok-push.ensures.ok;
      picks = omega (arith, sum);
      few = omega arith;
    }
