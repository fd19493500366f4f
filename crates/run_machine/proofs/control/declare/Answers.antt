use Rattle.std.proofs.Common.{◌∙◌, sym}
use Rattle.run_machine.proofs.Unwriting.{unwrite_named}
use Rattle.run_machine.proofs.control.declare.Goals as goal

pub returns-clause-answers : goal.returns-clause-answers
returns-clause-answers c =
    unwrite_named c.args.machine.now c.args.object c.saturating_add.result c.unwrite.new.self c.unwrite.new.t c.in-Some.block _ c.in_ok-name.name
    (sym c.block.ensures ∙ c.in-Some.is) c.in_ok-block.ensures.at c.saturating_add.ensures c.in_ok-name.ensures c.unwrite.ensures.kept c.unwrite.ensures.rest
    c.unwrite.ensures.exact

pub returns-clause-rows : goal.returns-clause-rows
returns-clause-rows c = c.unwrite.ensures.kept.rows
