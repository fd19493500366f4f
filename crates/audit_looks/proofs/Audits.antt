-- What an audit that was judged or stopped has for a cause.
use Rattle.std.proofs.Common.{◌≡◌, ℕ, List, Option, None, sym, subst}
use Rattle.ub_base.specs.Held.{Held}
use Rattle.audit_sources.specs.declared.fetch.FetchFault.{FetchFault}
use Rattle.audit_sources.specs.declared.fetch.FetchFault.TheVariants as Fault
use Rattle.command.specs.declared.request.AuditRequest.{AuditRequest}
use Rattle.audit_verdict.specs.Cause.{AuditCause, Disk, IsJudged, IsStopped, Leaves, stopped}
use Rattle.audit_verdict.specs.declared.answer.Answer.{Answer}
use Rattle.audit_verdict.specs.declared.answer.Answer.TheVariants.{
  Clean,
  Undefined,
  Found,
  Generated,
  GeneratedRefused,
  Checked,
  Bad,
  Usage,
  TooLong,
  Refused,
  CertificateTooLong,
  NotKept,
  ReadFault,
  NoMemory,
}

-- a text that was judged has the cause of its audit
pub judged_audit : (old new : Disk) (request : AuditRequest) (answer : Answer) → IsJudged old new request answer → AuditCause old new request answer
judged_audit old new request (Clean s) j = j
judged_audit old new request (Undefined c l) j = j
judged_audit old new request (Found s b) j = j
judged_audit old new request (Generated m s b) j = j
judged_audit old new request (GeneratedRefused m r) j = j
judged_audit old new request (Checked v) j = j
judged_audit old new request (Bad b) j = j
judged_audit old new request Usage j = j
judged_audit old new request (TooLong role) j = absurd j.why
judged_audit old new request (Refused r) j = j
judged_audit old new request CertificateTooLong j = j
judged_audit old new request NotKept j = j
judged_audit old new request ReadFault j = absurd j.why
judged_audit old new request NoMemory j = tt

-- a file that stops an audit is its cause
pub stopped_audit : (old new : Disk) (request : AuditRequest) (fault : FetchFault) (answer : Answer) → answer ≡ stopped fault
    → IsStopped old new request fault → AuditCause old new request answer
stopped_audit old new request Fault.ReadFault answer is stops = subst (AuditCause old new request) (sym is) stops
stopped_audit old new request (Fault.TooLong role) answer is stops = subst (AuditCause old new request) (sym is) stops
stopped_audit old new request Fault.NoMemory answer is stops = subst (AuditCause old new request) (sym is) tt

-- an answer without a certificate leaves the files
pub leaves_none : (old new : Option Held) (answer : Answer) → Leaves None old new answer → new ≡ old
leaves_none old new (Clean s) h = h
leaves_none old new (Undefined c l) h = h
leaves_none old new (Found s b) h = h
leaves_none old new (Generated m s b) h = h
leaves_none old new (GeneratedRefused m r) h = h
leaves_none old new (Checked v) h = h
leaves_none old new (Bad b) h = h
leaves_none old new Usage h = h
leaves_none old new (TooLong role) h = h
leaves_none old new (Refused r) h = h
leaves_none old new CertificateTooLong h = h
leaves_none old new NotKept h = h
leaves_none old new ReadFault h = h
leaves_none old new NoMemory h = h

-- .. as where no certificate is asked for
pub leaves_unasked : (cert : Option (List ℕ)) (old new : Option Held) (answer : Answer) → cert ≡ None → Leaves cert old new answer → new ≡ old
leaves_unasked cert old new answer none h = leaves_none old new answer (subst (λ c. Leaves c old new answer) none h)
