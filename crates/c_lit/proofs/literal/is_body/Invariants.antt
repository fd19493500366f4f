-- What is left goes on from here.
use Rattle.std.proofs.Common.{◌≡◌, drop, false}
use Rattle.c_lit.specs.Literals.{is_body}
use Rattle.c_lit.proofs.literal.is_body.Given as goal

abbrev pub invariant-loop-b : goal.invariant-loop-b
invariant-loop-b l = is_body l.quote l.escaped (drop l.b-index l.text) ≡ is_body l.quote false l.text
