use Rattle.std.proofs.Common.{codes, decimal}
use Rattle.audit_verdict.proofs.Texts.{line_grown, on_ok}
use Rattle.audit_verdict.proofs.finding.put_out_of_steps.Goals as goal

pub returns : goal.returns
returns c = on_ok c.append.result
    (λ grown. line_grown c.args.out.now (codes "out of steps ") (decimal c.args.steps) (codes "\n") c.put_counted.new.out c.append.new.self
    c.in_ok-put_counted.ensures grown)
    c.append.ensures.ok
