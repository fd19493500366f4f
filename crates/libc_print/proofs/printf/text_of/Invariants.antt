-- What is left of the format leads to its text.
use Rattle.std.proofs.Common.{◌≡◌, ◌≤◌, ◌+◌, ◌-◌, suc, length, drop}
use Rattle.mem_spec.specs.Streams.{Io}
use Rattle.libc_spec.specs.Print.{text_of}
use Rattle.libc_arguments.specs.Seen.{values_seen}
use Rattle.libc_arguments.specs.Answers.{HaveCells}
use Rattle.libc_print.specs.Seen.{left, typed}
use Rattle.libc_print.proofs.Running.{Leads}
use Rattle.libc_print.proofs.printf.text_of.Given as goal

abbrev pub invariant-loop-turn : goal.invariant-loop-turn
invariant-loop-turn l = record {
  fits : length l.rest + l._turn ≤ length l.fn.format;
  values : l.args.values.now ≡ l.fn.values;
  leads : (io : Io) → HaveCells l.m (values_seen l.fn.values) →
      Leads l.m io (suc (length l.fn.format) - l._turn) (length l.fn.format - length l.rest)
      (text_of (suc (length l.fn.format)) l.m.rows 0 l.fn.format (drop l.fn.first (typed l.fn.values l.fn.types))) l.fn.t l.t l.out.items l.rest (left l.args);
}
