use Rattle.std.proofs.Common.{length, refl}
use Rattle.std.proofs.lemmas.Option.{slice_get_read, slice_get_past}
use Rattle.run_code.proofs.Picked.{value_found, value_missing}
use Rattle.run_code.proofs.lower.at.Goals as goal

pub returns-in-Some : goal.returns-in-Some
returns-in-Some c =
    let found = c.in-Some.ensures.lookup in
    value_found c.args.operands.now c.args.index c.in-Some.operand.now
    (slice_get_read c.args.operands.now (length c.args.operands.now) c.args.index c.in-Some.operand.now refl found.3.0 found.1)

pub returns-in-None : goal.returns-in-None
returns-in-None c = value_missing c.args.operands.now c.args.index (slice_get_past c.args.operands.now c.args.index c.in-None.ensures.lookup.3)
