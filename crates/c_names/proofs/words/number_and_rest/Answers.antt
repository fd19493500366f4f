use Rattle.std.proofs.Common.{arith, ◌^◌}
use Rattle.c_names.proofs.Cuts.{BeginsWithNoNumber-from_cut, BeginsWithNoNumber-from_front}
use Rattle.c_names.proofs.words.number_and_rest.Goals as goal

pub returns-in_default : goal.returns-in_default
returns-in_default c = BeginsWithNoNumber-from_cut (2 ^ 64) c.args.text.now c.in_default.ensures

pub returns-in_default-number : goal.returns-in_default-number
returns-in_default-number c =
    BeginsWithNoNumber-from_front (2 ^ 64) c.args.text.now c.in-Some.digits.now c.in-Some.rest.now (omega arith) c.in-Some.ensures.0 c.in-Some.ensures.1
    c.in_default-number.ensures
