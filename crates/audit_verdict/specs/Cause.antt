-- Why a text has its answer, and an audit, and what it leaves in the files.
use Rattle.std.specs.Prelude.{◌≡◌, ℕ, ◌≤◌, List, length, Option, Some, None, option_copied, ⊤}
use Rattle.ub_base.specs.Causes.{Rose}
use Rattle.ub_base.specs.Held.{Held, IsKept, OthersStay, WhereTold}
use Rattle.audit_sources.specs.Fetching.{HasInput, IsWhole, Stops, wanted}
use Rattle.audit_sources.specs.Role.{most}
use Rattle.audit_sources.specs.declared.fetch.FetchFault.{FetchFault}
use Rattle.audit_sources.specs.declared.fetch.FetchFault.TheVariants as Fault
use Rattle.audit_sources.specs.declared.role.Role.TheVariants.{Source, Certificate}
use Rattle.audit_generator.specs.Text.{text as generated_text}
use Rattle.c_typed.specs.declared.program.Program.{Program}
use Rattle.command.specs.declared.request.AuditRequest.{AuditRequest}
use Rattle.command.specs.declared.request.SelfRequest.{SelfRequest}
use Rattle.audit_verdict.specs.Answer.{HasNoForm, HasVerdict, IsRunnable, Refuses}
use Rattle.audit_verdict.specs.Finding.{IsFound}
use Rattle.audit_verdict.specs.declared.answer.Answer.{Answer}
use Rattle.audit_verdict.specs.declared.answer.Answer.TheVariants.{
  Clean,
  Undefined,
  Found,
  Generated,
  GeneratedRefused,
  Checked,
  Bad,
  Usage,
  TooLong,
  Refused,
  CertificateTooLong,
  NotKept,
  ReadFault,
  NoMemory,
}
use Rattle.audit_verdict.specs.declared.answer.Summary.{Summary}

-- the files at one moment: what they hold, and how often a read and a write failed
pub record Disk : Type 0 where
  pub held : Option Held
  pub reads : ℕ
  pub writes : ℕ

abbrev pub disk : Option Held → ℕ → ℕ → Disk
disk held reads writes = record { held = held; reads = reads; writes = writes }

-- the steps that suffice for every text of the first form
abbrev pub form_steps : ℕ
form_steps = 5

-- a text of the first form has its verdict by that form: the steps suffice, and no certificate is asked for
abbrev pub UsesForm : AuditRequest → Type 0
UsesForm request = (form_steps ≤ request.steps) × (option_copied request.cert ≡ None)

-- the text is judged by its run
abbrev pub IsRun : AuditRequest → List ℕ → Type 0
IsRun request text = UsesForm request → HasNoForm text

-- what the first form says of a text: its verdict, or that the run decides
abbrev pub FormCause : AuditRequest → List ℕ → Option Answer → Type 0
FormCause request text None = IsRun request text
FormCause request text (Some answer) = UsesForm request × HasVerdict text answer

-- a text that is run, and that isn't refused
pub record RunsWell (request : AuditRequest) (text : List ℕ) : Type 0 where
  pub run : IsRun request text
  pub program : Program
  pub runnable : IsRunnable text program

-- why a text has this answer, where the count of write faults went from before to now
abbrev pub TextCause : AuditRequest → ℕ → ℕ → List ℕ → Answer → Type 0
TextCause request before now text (Clean s) = UsesForm request × HasVerdict text (Clean s)
TextCause request before now text (Undefined clause line) = UsesForm request × HasVerdict text (Undefined clause line)
TextCause request before now text (Found s report) = RunsWell request text × IsFound request.steps s report
TextCause request before now text (Generated summary s report) = ⊥
TextCause request before now text (GeneratedRefused summary refusal) = ⊥
TextCause request before now text (Checked verdict) = ⊥
TextCause request before now text (Bad bad) = ⊥
TextCause request before now text Usage = ⊥
TextCause request before now text (TooLong role) = ⊥
TextCause request before now text (Refused refusal) = IsRun request text × Refuses text refusal
TextCause request before now text CertificateTooLong = RunsWell request text
TextCause request before now text NotKept = RunsWell request text × Rose before now
TextCause request before now text ReadFault = ⊥
TextCause request before now text NoMemory = ⊤

-- what becomes of a status and a report where a certificate may be kept first
abbrev pub KeptCause : ℕ → List ℕ → ℕ → ℕ → Answer → Type 0
KeptCause s report before now (Found kept_status kept_report) = (kept_status ≡ s) × (kept_report ≡ report)
KeptCause s report before now CertificateTooLong = ⊤
KeptCause s report before now NotKept = Rose before now
KeptCause s report before now NoMemory = ⊤
KeptCause s report before now answer = ⊥

-- the source and the input are fetched, and the text has this answer
pub record IsJudged (old new : Disk) (request : AuditRequest) (answer : Answer) : Type 0 where
  pub text : List ℕ
  pub bytes : List ℕ
  pub source : IsWhole old.held (Source, request.file.now) text
  pub input : HasInput old.held (option_copied request.input) bytes
  pub why : TextCause request old.writes new.writes text answer

-- the answer where a file isn't fetched
abbrev pub stopped : FetchFault → Answer
stopped Fault.ReadFault = ReadFault
stopped (Fault.TooLong role) = TooLong role
stopped Fault.NoMemory = NoMemory

-- the files of the request, in turn, stop with this fault
abbrev pub IsStopped : Disk → Disk → AuditRequest → FetchFault → Type 0
IsStopped old new request fault = Stops old.held old.reads new.reads (wanted request.file.now (option_copied request.input)) fault

-- why an audit has this answer
abbrev pub AuditCause : Disk → Disk → AuditRequest → Answer → Type 0
AuditCause old new request (TooLong role) = IsStopped old new request (Fault.TooLong role)
AuditCause old new request ReadFault = IsStopped old new request Fault.ReadFault
AuditCause old new request NoMemory = ⊤
AuditCause old new request answer = IsJudged old new request answer

-- the certificate is kept under this name, and the other files stay
pub record IsCertified (name : List ℕ) (old new : Option Held) : Type 0 where
  pub bytes : List ℕ
  pub within : length bytes ≤ most Certificate
  pub kept : WhereTold old new (λ before after. IsKept before after name bytes)

-- all files but this one stay
abbrev pub Spares : List ℕ → Option Held → Option Held → Type 0
Spares name old new = WhereTold old new (λ before after. OthersStay before after name)

-- the certificate is kept where one is asked for
abbrev pub Certifies : Option (List ℕ) → Option Held → Option Held → Type 0
Certifies None old new = new ≡ old
Certifies (Some name) old new = IsCertified name old new

-- all files but the certificate stay
abbrev pub SparesOthers : Option (List ℕ) → Option Held → Option Held → Type 0
SparesOthers None old new = new ≡ old
SparesOthers (Some name) old new = Spares name old new

-- what an answer leaves in the files, where this is the name of the certificate that is asked for
abbrev pub Leaves : Option (List ℕ) → Option Held → Option Held → Answer → Type 0
Leaves cert old new (Found s report) = Certifies cert old new
Leaves cert old new NotKept = SparesOthers cert old new
Leaves cert old new NoMemory = SparesOthers cert old new
Leaves cert old new answer = new ≡ old

-- the steps that a generated program is given
abbrev pub self_steps : ℕ
self_steps = 1000000

-- why a generated text has this answer, its summary being this
abbrev pub GeneratedCause : Summary → List ℕ → Answer → Type 0
GeneratedCause summary source (Generated said s report) = (said ≡ summary) × ((program : Program) × IsRunnable source program) × IsFound self_steps s report
GeneratedCause summary source (GeneratedRefused said refusal) = (said ≡ summary) × Refuses source refusal
GeneratedCause summary source NoMemory = ⊤
GeneratedCause summary source answer = ⊥

-- what is said of the text of a request
abbrev pub summary_of : SelfRequest → List ℕ → Summary
summary_of request source = record { seed = request.seed; lines = request.lines; size = length source }

-- why the audit of a generated program has this answer
abbrev pub SelfCause : SelfRequest → Answer → Type 0
SelfCause request answer =
    let source = generated_text request.seed request.lines in
    GeneratedCause (summary_of request source) source answer
