-- What is said of expressions that aren't known never to race.
use Rattle.std.proofs.Common.{◌≡◌, ℕ, List, Option, Result, Ok, Err, IfOk, option_copied, inl, inr}
use Rattle.audit_batch.specs.Moment.{Moment}
use Rattle.audit_sources.specs.Fetching.{HasInput, IsWhole, Stops, wanted}
use Rattle.audit_sources.specs.declared.fetch.FetchFault.{FetchFault}
use Rattle.audit_sources.specs.declared.role.Role.TheVariants.{Source}
use Rattle.audit_looks.proofs.Reports.{fetched_report}
use Rattle.audit_looks.specs.Looks.{IsRefused}
use Rattle.audit_looks.specs.Looks.{
  IsFileStatic,
  IsOfFile,
  IsProgramStatic,
  IsReport,
  IsStatic,
  IsStoppedReport,
  IsTextReport,
  IsTextStatic,
  Quiet,
  StaticTold,
}
use Rattle.audit_verdict.specs.Answer.{IsRunnable}
use Rattle.c_typed.specs.declared.program.Program.{Program}
use Rattle.command.specs.declared.request.AuditRequest.{AuditRequest}
use Rattle.person_top.specs.declared.explain.Page.{Page}
use Rattle.person_top.specs.declared.explore.Sheet.{Sheet}

-- the page of a text that has a program
pub program_static : {E : Type 0} (request : AuditRequest) (before now : ℕ) (source : List ℕ) (program : Program) (result : Result Page E)
    → IsRunnable source program → IfOk result (λ page. IsProgramStatic program page.status page.text)
    → IfOk result (λ page. IsTextStatic request before now source page.status page.text)
program_static request before now source program (Ok page) runs so = inl (program, runs, so)
program_static request before now source program (Err e) runs so = so

-- .. and of one that is refused
pub refused_static : {E : Type 0} (request : AuditRequest) (before now : ℕ) (source : List ℕ) (result : Result Page E) → IsRefused source
    → IfOk result (λ page. IsTextReport request before now source page.status page.text)
    → IfOk result (λ page. IsTextStatic request before now source page.status page.text)
refused_static request before now source (Ok page) refused so = inr (refused, so)
refused_static request before now source (Err e) refused so = so

-- the page of a file that is fetched
pub fetched_static : (was is : Moment) (request : AuditRequest) (before : ℕ) (source bytes : List ℕ) (said : ℕ) (text : List ℕ)
    → IsWhole was.held (Source, request.file.now) source → HasInput was.held (option_copied request.input) bytes → before ≡ was.writes
    → IsTextStatic request before is.writes source said text → IsFileStatic was is request said text
fetched_static was is request before source bytes said text whole input same (inl so) = inl (record { source = source; whole = whole; page = inl so })
fetched_static was is request before source bytes said text whole input same (inr so) =
    inl (record {
      source = source;
      whole = whole;
      page = inr (so.0, fetched_report was is request before source bytes said text whole input same so.1);
    })

pub stopped_static : (was is : Moment) (request : AuditRequest) (fault : FetchFault) (said : ℕ) (text : List ℕ)
    → Stops was.held was.reads is.reads (wanted request.file.now (option_copied request.input)) fault → IsStoppedReport fault said text
    → IsFileStatic was is request said text
stopped_static was is request fault said text stops so = inr (fault, stops, so)

-- the sheet of the file that an audit is asked for
pub static_of_file : {E : Type 0} (was is : Moment) (file : List ℕ) (request : AuditRequest) (result : Result Sheet E) → IsOfFile file request
    → IfOk result (λ sheet. Quiet (IsFileStatic was is request) sheet.status sheet.text sheet.errors)
    → IfOk result (λ sheet. StaticTold was is file sheet.status sheet.text sheet.errors)
static_of_file was is file request (Ok sheet) of so = (request, of, so)
static_of_file was is file request (Err e) of so = so
