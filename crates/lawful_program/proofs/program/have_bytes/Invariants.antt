use Rattle.std.proofs.Common.{take}
use Rattle.std.specs.List.{All}
use Rattle.c_typed.specs.Lawful.{AreBytes, HasBytes}
use Rattle.lawful_program.proofs.program.have_bytes.Given as goal

abbrev pub invariant-loop-literal : goal.invariant-loop-literal
invariant-loop-literal l = record {
  some : All HasBytes (take l.literal-index l.literals);
  bytes : All AreBytes (take l.literal-index l.literals);
}
