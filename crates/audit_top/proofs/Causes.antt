-- Why memory may run out in place of any answer, and a check is stopped.
use Rattle.std.proofs.Common.{◌≡◌, ℕ, List, Option, Some, None, refl, sym, subst, inl, inr, option_copied}
use Rattle.ub_base.specs.Held.{Held, IsKept, OthersStay, WhereTold}
use Rattle.audit_sources.specs.declared.fetch.FetchFault.{FetchFault}
use Rattle.audit_sources.specs.declared.fetch.FetchFault.TheVariants as Fault
use Rattle.command.specs.declared.request.CheckRequest.{CheckRequest}
use Rattle.command.specs.declared.request.Request.{Request}
use Rattle.command.specs.declared.request.Request.TheVariants.{Audit, Check, SelfAudit}
use Rattle.audit_verdict.specs.Cause.{Certifies, Disk, Leaves, Spares, SparesOthers, stopped}
use Rattle.audit_verdict.specs.declared.answer.Answer.{Answer}
use Rattle.audit_verdict.specs.declared.answer.Answer.TheVariants.{
  Clean,
  Undefined,
  Found,
  Generated,
  GeneratedRefused,
  Checked,
  Bad,
  Usage,
  TooLong,
  Refused,
  CertificateTooLong,
  NotKept,
  ReadFault,
  NoMemory,
}
use Rattle.audit_top.specs.Cause.{CheckCause, HasCause, RequestCause, StopsCheck}

-- files that stay are spared
spares_self : (name : List ℕ) (held : Option Held) → Spares name held held
spares_self name None = tt
spares_self name (Some files) = λ other differs. refl

pub spares_same : (name : List ℕ) (old new : Option Held) → new ≡ old → Spares name old new
spares_same name old new same = subst (λ h. Spares name old h) (sym same) (spares_self name old)

pub spares_others : (cert : Option (List ℕ)) (old new : Option Held) → new ≡ old → SparesOthers cert old new
spares_others None old new same = same
spares_others (Some name) old new same = spares_same name old new same

-- a kept certificate spares the other files
kept_spares : (name bytes : List ℕ) (old new : Option Held) → WhereTold old new (λ before after. IsKept before after name bytes) → Spares name old new
kept_spares name bytes None None kept = tt
kept_spares name bytes None (Some new) kept = kept
kept_spares name bytes (Some old) None kept = kept
kept_spares name bytes (Some old) (Some new) kept = kept.others

certified_spares : (cert : Option (List ℕ)) (old new : Option Held) → Certifies cert old new → SparesOthers cert old new
certified_spares None old new same = same
certified_spares (Some name) old new certified = kept_spares name certified.bytes old new certified.kept

-- what an answer leaves, want of memory may leave
leaves_memory : (cert : Option (List ℕ)) (old new : Option Held) (answer : Answer) → Leaves cert old new answer → SparesOthers cert old new
leaves_memory cert old new (Clean s) leaves = spares_others cert old new leaves
leaves_memory cert old new (Undefined c l) leaves = spares_others cert old new leaves
leaves_memory cert old new (Found s b) leaves = certified_spares cert old new leaves
leaves_memory cert old new (Generated m s b) leaves = spares_others cert old new leaves
leaves_memory cert old new (GeneratedRefused m r) leaves = spares_others cert old new leaves
leaves_memory cert old new (Checked v) leaves = spares_others cert old new leaves
leaves_memory cert old new (Bad b) leaves = spares_others cert old new leaves
leaves_memory cert old new Usage leaves = spares_others cert old new leaves
leaves_memory cert old new (TooLong role) leaves = spares_others cert old new leaves
leaves_memory cert old new (Refused r) leaves = spares_others cert old new leaves
leaves_memory cert old new CertificateTooLong leaves = spares_others cert old new leaves
leaves_memory cert old new NotKept leaves = leaves
leaves_memory cert old new ReadFault leaves = spares_others cert old new leaves
leaves_memory cert old new NoMemory leaves = leaves

memory_request : (old new : Disk) (request : Request) (answer : Answer) → RequestCause old new request answer → RequestCause old new request NoMemory
memory_request old new (Audit request) answer why = (tt, leaves_memory (option_copied request.cert) old.held new.held answer why.1)
memory_request old new (Check request) answer why = (tt, why.1)
memory_request old new (SelfAudit request) answer why = (tt, why.1)

-- memory may run out in place of any answer
pub memory_cause : (words : List (List ℕ)) (old new : Disk) (answer : Answer) → HasCause words old new answer → HasCause words old new NoMemory
memory_cause words old new answer (inl w) = inl (tt, w.1)
memory_cause words old new answer (inr h) =
    inr (record { request = h.request; asked = h.asked; why = memory_request old new h.request answer h.why })

-- a file that stops a check is its cause
pub stopped_check : (old new : Disk) (request : CheckRequest) (fault : FetchFault) (answer : Answer) → answer ≡ stopped fault →
    StopsCheck old new request fault
    → CheckCause old new request answer
stopped_check old new request Fault.ReadFault answer is stops = subst (CheckCause old new request) (sym is) stops
stopped_check old new request (Fault.TooLong role) answer is stops = subst (CheckCause old new request) (sym is) stops
stopped_check old new request Fault.NoMemory answer is stops = subst (CheckCause old new request) (sym is) tt
