use Rattle.std.proofs.Common.{arith}
use Rattle.c_names.proofs.WordLemmas.{IsNoEventOf-from_cut, IsNoEventOf-from_turn, IsNoEventOf-from_node, IsNoEventOf-from_kind, event_from}
use Rattle.c_names.proofs.words.event_words.Goals as goal

pub returns-in_default : goal.returns-in_default
returns-in_default c = IsNoEventOf-from_cut c.args.text.now c.in_default.ensures

pub returns-in_default-number_and_rest : goal.returns-in_default-number_and_rest
returns-in_default-number_and_rest c =
    IsNoEventOf-from_turn c.args.text.now c.in-Some.frame.now c.in-Some.rest.now c.in-Some.ensures.0 c.in-Some.ensures.1 c.in_default-number_and_rest.ensures

pub returns-in_default-small_number_and_rest : goal.returns-in_default-small_number_and_rest
returns-in_default-small_number_and_rest c =
    IsNoEventOf-from_node c.args.text.now c.in-Some.frame.now c.in-Some.rest.now c.in-Some.ensures.0 c.in-Some.ensures.1
    c.in-Some-number_and_rest.turn c.in-Some-number_and_rest.rest.now c.in-Some-number_and_rest.ensures.1 c.in-Some-number_and_rest.ensures.0
    c.in_default-small_number_and_rest.ensures

pub returns-in_default-kind_of : goal.returns-in_default-kind_of
returns-in_default-kind_of c =
    IsNoEventOf-from_kind c.args.text.now c.in-Some.frame.now c.in-Some.rest.now c.in-Some.ensures.0 c.in-Some.ensures.1
    c.in-Some-number_and_rest.turn c.in-Some-small_number_and_rest.node c.in-Some-number_and_rest.rest.now c.in-Some-small_number_and_rest.word.now
    c.in-Some-number_and_rest.ensures.1 c.in-Some-small_number_and_rest.ensures.1 c.in-Some-number_and_rest.ensures.0
    c.in-Some-small_number_and_rest.ensures.0 c.in_default-kind_of.ensures

pub returns : goal.returns
returns c =
    event_from c.args.text.now c.in-Some.frame.now c.in-Some.rest.now c.in-Some.ensures.0 c.in-Some.ensures.1
    c.in-Some-number_and_rest.turn c.in-Some-small_number_and_rest.node c.in-Some-kind_of.kind c.in-Some-number_and_rest.rest.now
    c.in-Some-small_number_and_rest.word.now
    c.in-Some-number_and_rest.ensures.1 c.in-Some-small_number_and_rest.ensures.1 c.in-Some-number_and_rest.ensures.0
    c.in-Some-small_number_and_rest.ensures.0 c.in-Some-kind_of.ensures
