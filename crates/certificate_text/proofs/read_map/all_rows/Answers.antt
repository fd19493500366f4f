-- An entry adds its rows, or the map is none.
use Rattle.std.proofs.Common.{◌≡◌, true, false, Ok, ap, arith, rules}
use Rattle.certificate.specs.declared.cert.Field.TheVariants.{Map}
use Rattle.certificate_text.specs.Reading.{need}
use Rattle.certificate_text.proofs.RowSteps.{entry_added, entry_refused}
use Rattle.certificate_text.proofs.read_map.all_rows.Goals as goal

pub returns-then-not-branch : goal.returns-then-not-branch
returns-then-not-branch c =
    let is_false : c.in_ok-add_entry.field-0 ≡ false = search rules in
    let none = entry_refused c.args.version c.args.frames c.args.entries.now c.loop-entry.entry-index c.entry-item.result c.loop-entry.rows
    c.loop-entry.invariant.all (omega arith) c.entry-item.is (c.in_ok-add_entry.ensures.refused (ap Ok is_false)) in
    record { value = ap (λ o. need Map o Ok) none }

pub loop-entry-preserved : goal.loop-entry-preserved
loop-entry-preserved c =
    let is_true : c.in_ok-add_entry.field-0 ≡ true = search rules in
    record {
      all = entry_added c.args.version c.args.frames c.args.entries.now c.loop-entry.entry-index c.entry-item.result c.loop-entry.rows c.add_entry.new.rows
          c.loop-entry.invariant.all (omega arith) c.entry-item.is (c.in_ok-add_entry.ensures.added (ap Ok is_true));
      few = c.in_ok-add_entry.ensures.few (ap Ok is_true);
    }
