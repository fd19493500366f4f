-- What is left goes on from here.
use Rattle.libc_arguments.specs.Parts.{byte_at, IsShort}
use Rattle.libc_arguments.proofs.Reading.{ReadsRest}
use Rattle.libc_arguments.proofs.bytes.numbers.Given as goal

abbrev pub invariant-loop-offset : goal.invariant-loop-offset
invariant-loop-offset l = IsShort l.range → ReadsRest (byte_at l.m l.range.object) l.range.from l.range.len l.offset l.numbers.items l.fn.t l.t
