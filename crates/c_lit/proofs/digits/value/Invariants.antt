-- What is left goes on from here.
use Rattle.std.proofs.Common.{◌≡◌, drop}
use Rattle.c_lit.specs.Digits.{value_from}
use Rattle.c_lit.proofs.digits.value.Given as goal

abbrev pub invariant-loop-d : goal.invariant-loop-d
invariant-loop-d l = value_from l.radix l.number (drop l.d-index l.digits) ≡ value_from l.radix 0 l.digits
