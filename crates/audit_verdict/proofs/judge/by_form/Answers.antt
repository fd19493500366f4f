use Rattle.audit_verdict.proofs.Causes.{no_form}
use Rattle.audit_verdict.proofs.judge.by_form.Goals as goal

pub returns-in-Err-NotFirstForm : goal.returns-in-Err-NotFirstForm
returns-in-Err-NotFirstForm c = λ uses.
    no_form c.args.text.now c.in-Err-NotFirstForm.field-0 c.in-Err-NotFirstForm.field-0-is c.in-Err-NotFirstForm.ensures.only
