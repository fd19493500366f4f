-- Both orders of two evaluations, or the report of an audit.
use Rattle.std.proofs.Common.{◌≡◌, ◌⊎◌, ℕ, List, false, Option, Some, None, Result, Ok, Err, IfOk, option_copied, inl, inr}
use Rattle.std.specs.Prelude.{IfSome}
use Rattle.ub_base.specs.Frames.{Row}
use Rattle.ub_base.specs.declared.names.Event.{Event}
use Rattle.audit_batch.specs.Moment.{Moment}
use Rattle.audit_sources.specs.Fetching.{HasInput, IsWhole, Stops, wanted}
use Rattle.audit_sources.specs.declared.fetch.FetchFault.{FetchFault}
use Rattle.audit_sources.specs.declared.role.Role.TheVariants.{Source}
use Rattle.audit_looks.proofs.Reports.{fetched_report, stopped_report}
use Rattle.audit_looks.specs.Looks.{AreBothOrders, IsFileSwap, IsProgramSwap, IsStoppedReport, IsSwap, IsTextReport, IsTextSwap}
use Rattle.audit_verdict.specs.Answer.{IsRunnable}
use Rattle.c_typed.specs.declared.program.Program.{Program}
use Rattle.command.specs.declared.request.AuditRequest.{AuditRequest}
use Rattle.elaborate.specs.Expressions.{program_trees}
use Rattle.conflict_detector.specs.Apart.{AreApart}
use Rattle.person_top.specs.declared.explain.Page.{Page}

-- both orders of a program
pub program_swap : {E : Type 0} (program : Program) (frames : List Row) (event against : Event × ℕ) (result : Result (Option Page) E)
    → AreApart (program_trees program) false event.0 against.0
    → IfOk result (λ page. IfSome page (λ page. AreBothOrders frames event against page.status page.text))
    → IfOk result (λ page. IfSome page (λ page. IsProgramSwap program page.status page.text))
program_swap program frames event against (Ok (Some page)) apart both = record {
  frames = frames;
  event = event;
  against = against;
  apart = apart;
  both = both;
}
program_swap program frames event against (Ok None) apart both = both
program_swap program frames event against (Err e) apart both = both

-- .. which is that of a text
pub text_swap : {E : Type 0} (source : List ℕ) (program : Program) (result : Result (Option Page) E) → IsRunnable source program
    → IfOk result (λ page. IfSome page (λ page. IsProgramSwap program page.status page.text))
    → IfOk result (λ page. IfSome page (λ page. IsSwap source page.status page.text))
text_swap source program (Ok (Some page)) runs swap = (program, runs, swap)
text_swap source program (Ok None) runs swap = swap
text_swap source program (Err e) runs swap = swap

-- .. and else the report of its audit is put
pub report_swap : {E : Type 0} (request : AuditRequest) (before now : ℕ) (source : List ℕ) (result : Result Page E)
    → IfOk result (λ page. IsTextReport request before now source page.status page.text)
    → IfOk result (λ page. IsTextSwap request before now source page.status page.text)
report_swap request before now source (Ok page) so = inr so
report_swap request before now source (Err e) so = so

-- both orders, or the report, of a file that is fetched
pub fetched_swap : (was is : Moment) (request : AuditRequest) (before : ℕ) (source bytes : List ℕ) (said : ℕ) (text : List ℕ)
    → IsWhole was.held (Source, request.file.now) source → HasInput was.held (option_copied request.input) bytes → before ≡ was.writes
    → IsTextSwap request before is.writes source said text → IsFileSwap was is request said text
fetched_swap was is request before source bytes said text whole input same (inl swap) = inl (source, whole, swap)
fetched_swap was is request before source bytes said text whole input same (inr so) =
    inr (fetched_report was is request before source bytes said text whole input same so)

pub stopped_swap : (was is : Moment) (request : AuditRequest) (fault : FetchFault) (said : ℕ) (text : List ℕ)
    → Stops was.held was.reads is.reads (wanted request.file.now (option_copied request.input)) fault → IsStoppedReport fault said text
    → IsFileSwap was is request said text
stopped_swap was is request fault said text stops so = inr (stopped_report was is request fault said text stops so)
