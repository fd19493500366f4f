-- What is answered where files are told.
use Rattle.std.specs.Prelude.{◌≡◌, ℕ, List, Option, Some, None, option_copied}
use Rattle.ub_base.specs.Held.{Held, bytes_under}
use Rattle.first_form.specs.Form.{IsFirstForm}
use Rattle.first_form.specs.declared.tree.ReturnUnit.{ReturnUnit}
use Rattle.audit_sources.specs.Fetching.{AreHeld, FailsFirst, check_wanted, wanted}
use Rattle.audit_sources.specs.declared.fetch.FetchFault.{FetchFault}
use Rattle.c_lex.specs.Tokens.{lexed}
use Rattle.command.specs.declared.request.AuditRequest.{AuditRequest}
use Rattle.command.specs.declared.request.CheckRequest.{CheckRequest}
use Rattle.command.specs.declared.request.Request.TheVariants.{Audit, Check}
use Rattle.audit_verdict.specs.Answer.{HasNoForm, HasNoTree, RefusesEarly, verdict}
use Rattle.audit_verdict.specs.Cause.{UsesForm, stopped}
use Rattle.audit_verdict.specs.declared.answer.Answer.{Answer}
use Rattle.audit_verdict.specs.declared.answer.Answer.TheVariants.{Refused}
use Rattle.audit_verdict.specs.declared.answer.Refusal.{Refusal}
use Rattle.audit_verdict.specs.declared.answer.Refusal.TheVariants.{Syntax}
use Rattle.audit_top.specs.Words.{Asks}

-- the words ask for this audit, and the files are told
pub record IsAsked (words : List (List ℕ)) (held : Option Held) (request : AuditRequest) (files : Held) : Type 0 where
  pub asked : Asks words (Audit request)
  pub told : held ≡ Some files

-- moreover the source is held with this text, and each file that is wanted within its limit
pub record IsGiven (words : List (List ℕ)) (held : Option Held) (request : AuditRequest) (files : Held) (text : List ℕ) : Type 0 where
  pub call : IsAsked words held request files
  pub all : AreHeld files (wanted request.file.now (option_copied request.input))
  pub source : bytes_under files request.file.now ≡ Some text

-- the words ask for this check, and the files are told
pub record IsCheckAsked (words : List (List ℕ)) (held : Option Held) (request : CheckRequest) (files : Held) : Type 0 where
  pub asked : Asks words (Check request)
  pub told : held ≡ Some files

-- moreover the source is held with this text, and each file that is wanted within its limit
pub record IsCheckGiven (words : List (List ℕ)) (held : Option Held) (request : CheckRequest) (files : Held) (text : List ℕ) : Type 0 where
  pub call : IsCheckAsked words held request files
  pub all : AreHeld files (check_wanted request.file.now request.cert.now (option_copied request.input))
  pub source : bytes_under files request.file.now ≡ Some text

-- the first file of an audit that isn't held within its limit decides the answer
abbrev pub OnStopped : List (List ℕ) → Option Held → (Answer → Type 0) → Type 0
OnStopped words held EndsBy = (request : AuditRequest) (files : Held) (fault : FetchFault) → IsAsked words held request files
    → FailsFirst files (wanted request.file.now (option_copied request.input)) fault → EndsBy (stopped fault)

-- and so does that of a check
abbrev pub OnCheckStopped : List (List ℕ) → Option Held → (Answer → Type 0) → Type 0
OnCheckStopped words held EndsBy = (request : CheckRequest) (files : Held) (fault : FetchFault) → IsCheckAsked words held request files
    → FailsFirst files (check_wanted request.file.now request.cert.now (option_copied request.input)) fault → EndsBy (stopped fault)

-- a text of the first form is answered by its verdict
abbrev pub OnFirstForm : List (List ℕ) → Option Held → (Answer → Type 0) → Type 0
OnFirstForm words held EndsBy = (request : AuditRequest) (files : Held) (text : List ℕ) (unit : ReturnUnit) → IsGiven words held request files text
    → UsesForm request → IsFirstForm text unit → EndsBy (verdict unit)

-- a text that its tokens refuse is answered by that refusal
abbrev pub OnRefused : List (List ℕ) → Option Held → (Answer → Type 0) → Type 0
OnRefused words held EndsBy = (request : AuditRequest) (files : Held) (text : List ℕ) (refusal : Refusal) → IsGiven words held request files text
    → HasNoForm text → RefusesEarly (lexed text) refusal → EndsBy (Refused refusal)

-- and one whose tokens spell no tree by a refusal of its syntax
abbrev pub OnNoTree : List (List ℕ) → Option Held → (Answer → Type 0) → Type 0
OnNoTree words held EndsBy = (request : AuditRequest) (files : Held) (text : List ℕ) → IsGiven words held request files text
    → HasNoForm text → HasNoTree text → (token : ℕ) × (line : ℕ) × EndsBy (Refused (Syntax token line))

-- the source of a check that its tokens refuse is answered by that refusal
abbrev pub OnCheckRefused : List (List ℕ) → Option Held → (Answer → Type 0) → Type 0
OnCheckRefused words held EndsBy = (request : CheckRequest) (files : Held) (text : List ℕ) (refusal : Refusal) → IsCheckGiven words held request files text
    → RefusesEarly (lexed text) refusal → EndsBy (Refused refusal)

-- an audit that no certificate is asked of leaves the files as they were
abbrev pub StaysUncertified : List (List ℕ) → Option Held → Option Held → Type 0
StaysUncertified words old new = (request : AuditRequest) → Asks words (Audit request) → option_copied request.cert ≡ None → new ≡ old
