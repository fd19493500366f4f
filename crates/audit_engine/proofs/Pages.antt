-- Lines and pages of answers.
use Rattle.std.proofs.Common.{◌≡◌, ℕ, List, true, Option, None, Result, Ok, Err, IfOk, option_copied, refl, sym, subst}
use Rattle.ub_base.specs.Held.{Held}
use Rattle.audit_batch.specs.Moment.{Moment}
use Rattle.audit_batch.specs.declared.audit.Limits.{Limits}
use Rattle.audit_batch.specs.declared.audit.Verdict.{Verdict}
use Rattle.audit_sources.specs.Fetching.{HasInput, IsWhole, Stops, wanted}
use Rattle.audit_sources.specs.declared.fetch.FetchFault.{FetchFault}
use Rattle.audit_sources.specs.declared.fetch.FetchFault.TheVariants as Fault
use Rattle.audit_sources.specs.declared.role.Role.TheVariants.{Source}
use Rattle.audit_looks.proofs.Audits.{judged_audit, stopped_audit}
use Rattle.audit_verdict.specs.Cause.{AuditCause, Leaves, TextCause, stopped}
use Rattle.audit_verdict.specs.Report.{report, status}
use Rattle.audit_verdict.specs.declared.answer.Answer.{Answer}
use Rattle.audit_verdict.specs.declared.answer.Answer.TheVariants.{
  Clean,
  Undefined,
  Found,
  Generated,
  GeneratedRefused,
  Checked,
  Bad,
  Usage,
  TooLong,
  Refused,
  CertificateTooLong,
  NotKept,
  ReadFault,
  NoMemory,
}
use Rattle.audit_looks.specs.Disks.{disk_at}
use Rattle.audit_engine.specs.Engine.{AsksFor, Explained, IsAudited, IsJudgedPage, IsPage, IsPageOf, Says, first_line, is_untold}
use Rattle.command.specs.declared.request.AuditRequest.{AuditRequest}
use Rattle.person_command.specs.declared.person_request.ExplainRequest.{ExplainRequest}
use Rattle.person_top.specs.declared.explain.Page.{Page}

-- the line of an audit
pub audited_line : {E : Type 0} (was is : Moment) (request : AuditRequest) (answer : Answer) (result : Result Verdict E)
    → AuditCause (disk_at was) (disk_at is) request answer → IfOk result (λ verdict. verdict.status ≡ status answer)
    → IfOk result (λ verdict. verdict.line ≡ first_line (report answer)) → IfOk result (λ verdict. IsAudited request was is verdict.status verdict.line)
audited_line was is request answer (Ok verdict) cause code first = record { answer = answer; cause = cause; code = code; first = first }
audited_line was is request answer (Err e) cause code first = code

-- .. is what is said of the run that its request asks for
pub said_line : {E : Type 0} (limits : Limits) (was is : Moment) (program : List ℕ) (input : Option (List ℕ)) (request : AuditRequest)
    (result : Result Verdict E) → IfOk result (λ verdict. IsAudited request was is verdict.status verdict.line) → AsksFor limits program input request
    → IfOk result (λ verdict. Says limits was is program input verdict.status verdict.line)
said_line limits was is program input request (Ok verdict) audited asks = (request, asks, audited)
said_line limits was is program input request (Err e) audited asks = audited

-- the page of a judged text
pub judged_page : {E : Type 0} (request : ExplainRequest) (before now : ℕ) (source : List ℕ) (answer : Answer) (result : Result Page E)
    → TextCause request.audit before now source answer → IfOk result (λ page. IsPageOf request.is_json answer page.status page.text)
    → IfOk result (λ page. IsJudgedPage request before now source page.status page.text)
judged_page request before now source answer (Ok page) why is = record { answer = answer; why = why; page = is }
judged_page request before now source answer (Err e) why is = is

-- .. is that of the request whose files are fetched
pub fetched_page : {E : Type 0} (was is : Moment) (request : ExplainRequest) (before : ℕ) (source bytes : List ℕ) (result : Result Page E)
    → IsWhole was.held (Source, request.audit.file.now) source → HasInput was.held (option_copied request.audit.input) bytes → before ≡ was.writes
    → IfOk result (λ page. IsJudgedPage request before is.writes source page.status page.text)
    → IfOk result (λ page. Explained was is request page.status page.text)
fetched_page was is request before source bytes (Ok page) whole input same so = record {
  answer = so.answer;
  cause = judged_audit (disk_at was) (disk_at is) request.audit so.answer (record {
    text = source;
    bytes = bytes;
    source = whole;
    input = input;
    why = subst (λ n. TextCause request.audit n is.writes source so.answer) same so.why;
  });
  page = so.page;
}
fetched_page was is request before source bytes (Err e) whole input same so = so

stopped_is_untold : (fault : FetchFault) → is_untold (status (stopped fault)) ≡ true
stopped_is_untold Fault.ReadFault = refl
stopped_is_untold (Fault.TooLong role) = refl
stopped_is_untold Fault.NoMemory = refl

-- the page of a request whose files aren't fetched
pub stopped_page : {E : Type 0} (was is : Moment) (request : ExplainRequest) (fault : FetchFault) (result : Result Page E)
    → Stops was.held was.reads is.reads (wanted request.audit.file.now (option_copied request.audit.input)) fault
    → IfOk result (λ page. page.status ≡ status (stopped fault)) → IfOk result (λ page. page.text ≡ report (stopped fault))
    → IfOk result (λ page. Explained was is request page.status page.text)
stopped_page was is request fault (Ok page) stops code text = record {
  answer = stopped fault;
  cause = stopped_audit (disk_at was) (disk_at is) request.audit fault (stopped fault) refl stops;
  page = record {
    code = code;
    page = subst (λ b. IsPage request.is_json (report (stopped fault)) page.text b) (sym (stopped_is_untold fault)) text;
  };
}
stopped_page was is request fault (Err e) stops code text = code
