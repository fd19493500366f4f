-- What is left of the bytes decides.
use Rattle.std.proofs.Common.{◌≡◌, ◌-◌}
use Rattle.libc_arguments.specs.Parts.{byte_at, string_size}
use Rattle.libc_arguments.proofs.Checking.{more_by}
use Rattle.libc_print.proofs.strings.zero_within.Given as goal

abbrev pub invariant-loop-at : goal.invariant-loop-at
invariant-loop-at l = more_by (l.at - l.from) (string_size (byte_at l.m l.object) (l.at-end - l.at) l.at) ≡ string_size (byte_at l.m l.object)
    (l.at-end - l.from) l.from
