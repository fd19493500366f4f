use Rattle.run_statements.proofs.Forms.{is_empty, is_value}
use Rattle.run_statements.proofs.numbering.simple.Goals as goal

pub returns-in-None-clause-statement : goal.returns-in-None-clause-statement
returns-in-None-clause-statement c = is_empty c.args.numbers.now c.args.root.now c.in-None.is

pub returns-in_ok-full-in-Some-clause-statement : goal.returns-in_ok-full-in-Some-clause-statement
returns-in_ok-full-in-Some-clause-statement c =
    is_value c.full.new.numbers c.args.root.now c.in-Some.root c.in_ok-full-in-Some.field-0 c.in-Some.is c.in_ok-full-in-Some.ensures.number
