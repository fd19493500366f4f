-- Why the words have their answer, and a check of a certificate.
use Rattle.std.specs.Prelude.{◌≡◌, ◌⊎◌, ◌↔◌, ℕ, List, [], true, Option, None, option_copied, ⊤}
use Rattle.audit_sources.specs.Fetching.{HasInput, IsWhole, Stops, check_wanted}
use Rattle.audit_sources.specs.declared.fetch.FetchFault.{FetchFault}
use Rattle.audit_sources.specs.declared.fetch.FetchFault.TheVariants as Fault
use Rattle.audit_sources.specs.declared.role.Role.TheVariants.{Source, Certificate}
use Rattle.c_typed.specs.declared.program.Program.{Program}
use Rattle.command.specs.declared.request.CheckRequest.{CheckRequest}
use Rattle.command.specs.declared.request.Request.{Request}
use Rattle.command.specs.declared.request.Request.TheVariants.{Audit, Check, SelfAudit}
use Rattle.certificate_text.specs.Reading.{IsRefused, States}
use Rattle.certificate.specs.declared.answer.Answer.{Answer as Verdict}
use Rattle.certificate.specs.declared.answer.Answer.TheVariants.{Yes, No}
use Rattle.certificate.specs.declared.answer.Part.TheVariants.{Map}
use Rattle.certificate.specs.declared.cert.Cert.{Cert}
use Rattle.certificate.specs.declared.cert.CertFault.TheVariants as cert_fault
use Rattle.cert_check.specs.Parts.{NamesRace, added, is_formed}
use Rattle.audit_verdict.specs.Answer.{IsRunnable, Refuses}
use Rattle.audit_verdict.specs.Cause.{AuditCause, Disk, Leaves, SelfCause}
use Rattle.audit_verdict.specs.declared.answer.Answer.{Answer}
use Rattle.audit_verdict.specs.declared.answer.Answer.TheVariants.{Checked, Bad, Usage, TooLong, Refused, ReadFault, NoMemory}
use Rattle.audit_verdict.specs.declared.answer.BadCertificate.{BadCertificate}
use Rattle.audit_verdict.specs.declared.answer.BadCertificate.TheVariants.{NotJson, Wrong}
use Rattle.audit_top.specs.Words.{Asks, TakesWords}
use Rattle.audit_top.specs.declared.weigh.CertificateFault.{CertificateFault}
use Rattle.audit_top.specs.declared.weigh.CertificateFault.TheVariants as fault

-- The text states a certificate that has this answer: its rows break a rule of the map exactly where the map is refused,
-- and one that holds has an order of the form that its claim asks for, a pair of undefined behaviour being a race.
pub record IsChecked (text : List ℕ) (verdict : Verdict) : Type 0 where
  pub cert : Cert
  pub states : States text cert
  pub map : (verdict ≡ No Map) ↔ (added [] cert.map ≡ None)
  pub form : verdict ≡ Yes → is_formed cert.claim cert.order ≡ true
  pub race : verdict ≡ Yes → NamesRace cert.claim

-- why a text is no certificate
abbrev pub BadCause : List ℕ → BadCertificate → Type 0
BadCause text NotJson = IsRefused text cert_fault.NotJson
BadCause text (Wrong field) = IsRefused text (cert_fault.BadShape field)

-- why the text has no certificate
abbrev pub WhyBad : List ℕ → CertificateFault → Type 0
WhyBad text (fault.Bad bad) = BadCause text bad
WhyBad text fault.NoMemory = ⊤

-- why the text of a certificate has this answer
abbrev pub WeighedCause : List ℕ → Answer → Type 0
WeighedCause text (Checked verdict) = IsChecked text verdict
WeighedCause text (Bad bad) = BadCause text bad
WeighedCause text NoMemory = ⊤
WeighedCause text answer = ⊥

-- why a source and the text of a certificate have this answer
abbrev pub CertificateCause : List ℕ → List ℕ → Answer → Type 0
CertificateCause source text (Refused refusal) = Refuses source refusal
CertificateCause source text NoMemory = ⊤
CertificateCause source text answer = ((program : Program) × IsRunnable source program) × WeighedCause text answer

-- the source, the certificate and the input are fetched, and the first two have this answer
pub record IsWeighed (old : Disk) (request : CheckRequest) (answer : Answer) : Type 0 where
  pub text : List ℕ
  pub certificate : List ℕ
  pub bytes : List ℕ
  pub source : IsWhole old.held (Source, request.file.now) text
  pub given : IsWhole old.held (Certificate, request.cert.now) certificate
  pub input : HasInput old.held (option_copied request.input) bytes
  pub why : CertificateCause text certificate answer

-- a file of a check isn't fetched
abbrev pub StopsCheck : Disk → Disk → CheckRequest → FetchFault → Type 0
StopsCheck old new request fault =
    Stops old.held old.reads new.reads (check_wanted request.file.now request.cert.now (option_copied request.input)) fault

-- why a check has this answer
abbrev pub CheckCause : Disk → Disk → CheckRequest → Answer → Type 0
CheckCause old new request (TooLong role) = StopsCheck old new request (Fault.TooLong role)
CheckCause old new request ReadFault = StopsCheck old new request Fault.ReadFault
CheckCause old new request NoMemory = ⊤
CheckCause old new request answer = IsWeighed old request answer

-- why a request has this answer
abbrev pub RequestCause : Disk → Disk → Request → Answer → Type 0
RequestCause old new (Audit request) answer = AuditCause old new request answer × Leaves (option_copied request.cert) old.held new.held answer
RequestCause old new (Check request) answer = CheckCause old new request answer × (new.held ≡ old.held)
RequestCause old new (SelfAudit request) answer = SelfCause request answer × (new.held ≡ old.held)

-- the words ask for something that has this answer
pub record IsAnswered (words : List (List ℕ)) (old new : Disk) (answer : Answer) : Type 0 where
  pub request : Request
  pub asked : Asks words request
  pub why : RequestCause old new request answer

-- why words that ask for nothing have this answer
abbrev pub WordsCause : List (List ℕ) → Answer → Type 0
WordsCause words Usage = ¬ TakesWords words
WordsCause words NoMemory = ⊤
WordsCause words answer = ⊥

-- why the words have this answer
abbrev pub HasCause : List (List ℕ) → Disk → Disk → Answer → Type 0
HasCause words old new answer = (WordsCause words answer × (new.held ≡ old.held)) ⊎ IsAnswered words old new answer
