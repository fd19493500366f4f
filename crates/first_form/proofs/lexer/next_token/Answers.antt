use Rattle.first_form.proofs.NextTokens.{Reads, gives_end, gives_none, gives_some}
use Rattle.first_form.proofs.lexer.next_token.Goals as goal

pub returns-in_default : goal.returns-in_default
returns-in_default c =
    gives_end c.args.at c.args.line _ _ _ c.white_len-blank.ensures.run c.split_at.ensures.back c.in_default.ensures.cases

pub returns-in_default-kind_of : goal.returns-in_default-kind_of
returns-in_default-kind_of c =
    let reads : Reads c.args.rest.now c.split_at.result.0.now c.split_at.result.1.now c.split_at-2.result.0.now c.in-Some.tail.now
    c.white_len-blank.result c.run_len-len.result c.in-Some.first.now
    = record {
      blank_is = c.white_len-blank.ensures.run;
      white_is = c.split_at.ensures.front;
      behind_is = c.split_at.ensures.back;
      cons = c.in-Some.ensures.cases.0;
      run_is = c.run_len-len.ensures.run;
      spelling_is = c.split_at-2.ensures.front;
    } in
    gives_none c.args.at c.args.line reads c.in_default-kind_of.ensures.none

pub returns : goal.returns
returns c =
    let reads : Reads c.args.rest.now c.split_at.result.0.now c.split_at.result.1.now c.split_at-2.result.0.now c.in-Some.tail.now
    c.white_len-blank.result c.run_len-len.result c.in-Some.first.now
    = record {
      blank_is = c.white_len-blank.ensures.run;
      white_is = c.split_at.ensures.front;
      behind_is = c.split_at.ensures.back;
      cons = c.in-Some.ensures.cases.0;
      run_is = c.run_len-len.ensures.run;
      spelling_is = c.split_at-2.ensures.front;
    } in
    gives_some c.args.at c.args.line _ _ reads c.in-Some-kind_of.ensures.found c.line_count-lines.ensures.count
