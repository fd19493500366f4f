-- The reports of audits, which further looks put.
use Rattle.std.proofs.Common.{◌≡◌, ◌⊎◌, ℕ, List, [], Option, Result, Ok, Err, IfOk, option_copied, refl, sym, subst, inl, inr}
use Rattle.audit_batch.specs.Moment.{Moment}
use Rattle.audit_sources.specs.Fetching.{HasInput, IsWhole, Stops, wanted}
use Rattle.audit_sources.specs.declared.fetch.FetchFault.{FetchFault}
use Rattle.audit_sources.specs.declared.role.Role.TheVariants.{Source}
use Rattle.audit_looks.proofs.Audits.{judged_audit, stopped_audit}
use Rattle.audit_looks.specs.Disks.{disk_at}
use Rattle.audit_looks.specs.Looks.{ErrorsTold, IsRefused, IsReport, IsStoppedReport, IsTextReport, MayWrite, Quiet}
use Rattle.audit_verdict.specs.Answer.{IsRunnable}
use Rattle.audit_verdict.specs.Cause.{TextCause, stopped}
use Rattle.audit_verdict.specs.Front.{WhyRefused}
use Rattle.audit_verdict.specs.Report.{report, status}
use Rattle.audit_verdict.specs.declared.answer.Answer.{Answer}
use Rattle.audit_verdict.specs.declared.answer.Refusal.{Refusal}
use Rattle.audit_verdict.specs.declared.front.FrontFault.{FrontFault}
use Rattle.audit_verdict.specs.declared.front.FrontFault.TheVariants as FrontFault
use Rattle.c_typed.specs.declared.program.Program.{Program}
use Rattle.command.specs.declared.request.AuditRequest.{AuditRequest}
use Rattle.person_top.specs.declared.explain.Page.{Page}
use Rattle.person_top.specs.declared.explore.Sheet.{Sheet}

-- the report of a judged text
pub text_report : {E : Type 0} (request : AuditRequest) (before now : ℕ) (source : List ℕ) (answer : Answer) (result : Result Page E)
    → TextCause request before now source answer → IfOk result (λ page. page.status ≡ status answer)
    → IfOk result (λ page. page.text ≡ report answer)
    → IfOk result (λ page. IsTextReport request before now source page.status page.text)
text_report request before now source answer (Ok page) why code text = record { answer = answer; why = why; code = code; page = text }
text_report request before now source answer (Err e) why code text = code

-- .. is that of the request whose files are fetched
pub fetched_report : (was is : Moment) (request : AuditRequest) (before : ℕ) (source bytes : List ℕ) (said : ℕ) (text : List ℕ)
    → IsWhole was.held (Source, request.file.now) source → HasInput was.held (option_copied request.input) bytes → before ≡ was.writes
    → IsTextReport request before is.writes source said text → IsReport was is request said text
fetched_report was is request before source bytes said text whole input same so = record {
  answer = so.answer;
  cause = judged_audit (disk_at was) (disk_at is) request so.answer (record {
    text = source;
    bytes = bytes;
    source = whole;
    input = input;
    why = subst (λ n. TextCause request n is.writes source so.answer) same so.why;
  });
  code = so.code;
  page = so.page;
}

-- the report where a file isn't fetched
pub stopped_report : (was is : Moment) (request : AuditRequest) (fault : FetchFault) (said : ℕ) (text : List ℕ)
    → Stops was.held was.reads is.reads (wanted request.file.now (option_copied request.input)) fault → IsStoppedReport fault said text
    → IsReport was is request said text
stopped_report was is request fault said text stops so = record {
  answer = stopped fault;
  cause = stopped_audit (disk_at was) (disk_at is) request fault (stopped fault) refl stops;
  code = so.0;
  page = so.1;
}

-- the sheet of a request whose files are fetched
pub fetched_errors : {E : Type 0} (was is : Moment) (request : AuditRequest) (before : ℕ) (source bytes : List ℕ) (result : Result Sheet E)
    → IsWhole was.held (Source, request.file.now) source → HasInput was.held (option_copied request.input) bytes → before ≡ was.writes
    → IfOk result (λ sheet. IsTextReport request before is.writes source sheet.status sheet.text)
    → IfOk result (λ sheet. MayWrite source sheet.errors) → IfOk result (λ sheet. ErrorsTold was is request sheet.status sheet.text sheet.errors)
fetched_errors was is request before source bytes (Ok sheet) whole input same so may =
    (fetched_report was is request before source bytes sheet.status sheet.text whole input same so, inr (source, whole, may))
fetched_errors was is request before source bytes (Err e) whole input same so may = so

-- the sheet of a request whose files aren't fetched
pub stopped_errors : {E : Type 0} (was is : Moment) (request : AuditRequest) (fault : FetchFault) (result : Result Sheet E)
    → Stops was.held was.reads is.reads (wanted request.file.now (option_copied request.input)) fault
    → IfOk result (λ sheet. sheet.status ≡ status (stopped fault)) → IfOk result (λ sheet. sheet.text ≡ report (stopped fault))
    → IfOk result (λ sheet. sheet.errors ≡ []) → IfOk result (λ sheet. ErrorsTold was is request sheet.status sheet.text sheet.errors)
stopped_errors was is request fault (Ok sheet) stops code text none =
    (stopped_report was is request fault sheet.status sheet.text stops (code, text), inl none)
stopped_errors was is request fault (Err e) stops code text none = code

-- a text that has a program may write something
pub may_write : {E : Type 0} (source : List ℕ) (program : Program) (result : Result (List ℕ) E) → IsRunnable source program
    → IfOk result (MayWrite source)
may_write source program (Ok errors) runs = inl (program, runs)
may_write source program (Err e) runs = tt

-- .. and one that has none writes nothing
pub writes_nothing : {E : Type 0} (source : List ℕ) (result : Result (List ℕ) E) → IsRefused source → IfOk result (λ errors. errors ≡ [])
    → IfOk result (MayWrite source)
writes_nothing source (Ok errors) refused none = inr (refused, none)
writes_nothing source (Err e) refused none = none

-- what a page may say, its sheet says, with nothing for standard error
pub quiet_sheet : {E : Type 0} (answers : ℕ → List ℕ → Type 0) (said : ℕ) (text : List ℕ) (result : Result Sheet E)
    → IfOk result (λ sheet. sheet.status ≡ said) → IfOk result (λ sheet. sheet.text ≡ text) → IfOk result (λ sheet. sheet.errors ≡ [])
    → answers said text → IfOk result (λ sheet. Quiet answers sheet.status sheet.text sheet.errors)
quiet_sheet answers said text (Ok sheet) code page none may =
    (subst (λ s. answers s sheet.text) (sym code) (subst (answers said) (sym page) may), none)
quiet_sheet answers said text (Err e) code page none may = code

-- .. and so does the sheet of a file, where the page of its text is that of the file
pub quiet_of : {E : Type 0} (these those : ℕ → List ℕ → Type 0) (result : Result Sheet E)
    → ((said : ℕ) (text : List ℕ) → these said text → those said text)
    → IfOk result (λ sheet. Quiet these sheet.status sheet.text sheet.errors) → IfOk result (λ sheet. Quiet those sheet.status sheet.text sheet.errors)
quiet_of these those (Ok sheet) so quiet = (so sheet.status sheet.text quiet.0, quiet.1)
quiet_of these those (Err e) so quiet = quiet

-- a sheet of the report where a file isn't fetched
pub quiet_stopped : {E : Type 0} (fault : FetchFault) (those : ℕ → List ℕ → Type 0) (result : Result Sheet E)
    → ((said : ℕ) (text : List ℕ) → IsStoppedReport fault said text → those said text)
    → IfOk result (λ sheet. sheet.status ≡ status (stopped fault)) → IfOk result (λ sheet. sheet.text ≡ report (stopped fault))
    → IfOk result (λ sheet. sheet.errors ≡ []) → IfOk result (λ sheet. Quiet those sheet.status sheet.text sheet.errors)
quiet_stopped fault those (Ok sheet) so code text none = (so sheet.status sheet.text (code, text), none)
quiet_stopped fault those (Err e) so code text none = code

-- a text that is said to be refused
pub refused_by : (text : List ℕ) (fault : FrontFault) (refusal : Refusal) → fault ≡ FrontFault.Refused refusal → WhyRefused text fault
    → IsRefused text
refused_by text fault refusal is why = (refusal, subst (WhyRefused text) is why)
