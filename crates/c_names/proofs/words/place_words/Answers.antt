use Rattle.std.proofs.Common.{arith}
use Rattle.c_names.proofs.WordLemmas.{IsNoPlaceOf-from_cut, IsNoPlaceOf-from_turn, IsNoPlaceOf-from_number, place_from}
use Rattle.c_names.proofs.words.place_words.Goals as goal

pub returns-in_default : goal.returns-in_default
returns-in_default c = IsNoPlaceOf-from_cut c.args.text.now c.in_default.ensures

pub returns-in_default-number_and_rest : goal.returns-in_default-number_and_rest
returns-in_default-number_and_rest c =
    IsNoPlaceOf-from_turn c.args.text.now c.in-Some.frame.now c.in-Some.rest.now c.in-Some.ensures.0 c.in-Some.ensures.1 c.in_default-number_and_rest.ensures

pub returns-in_default-small_number : goal.returns-in_default-small_number
returns-in_default-small_number c =
    IsNoPlaceOf-from_number c.args.text.now c.in-Some.frame.now c.in-Some.rest.now c.in-Some.ensures.0 c.in-Some.ensures.1
    c.in-Some-number_and_rest.turn c.in-Some-number_and_rest.last.now c.in-Some-number_and_rest.ensures.1 c.in-Some-number_and_rest.ensures.0
    c.in_default-small_number.ensures

pub returns : goal.returns
returns c =
    place_from c.args.text.now c.in-Some.frame.now c.in-Some.rest.now c.in-Some.ensures.0 c.in-Some.ensures.1
    c.in-Some-number_and_rest.turn c.in-Some-small_number.number c.in-Some-number_and_rest.last.now c.in-Some-number_and_rest.ensures.1
    (omega arith) c.in-Some-number_and_rest.ensures.0 c.in-Some-small_number.ensures
