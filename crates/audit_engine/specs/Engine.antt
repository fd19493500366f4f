-- What is said of audits and put for explanations (own).
use Rattle.std.specs.Prelude.{◌≡◌, ◌==◌, ◌||◌, ℕ, List, [], ◌++◌, Bool, true, false, Option, Some, None, codes, option_copied, take}
use Rattle.std.specs.List.{position}
use Rattle.audit_batch.specs.Moment.{Moment}
use Rattle.audit_batch.specs.declared.audit.Limits.{Limits}
use Rattle.audit_verdict.specs.Cause.{AuditCause, TextCause}
use Rattle.audit_verdict.specs.Report.{report, status}
use Rattle.audit_verdict.specs.declared.answer.Answer.{Answer}
use Rattle.audit_looks.specs.Disks.{disk_at}
use Rattle.person_command.specs.declared.person_request.ExplainRequest.{ExplainRequest}
use Rattle.command.specs.declared.request.AuditRequest.{AuditRequest}

-- the bytes before this place; all of them where there is none
abbrev pub up_to : Option ℕ → List ℕ → List ℕ
up_to None text = text
up_to (Some at) text = take at text

-- the bytes before the first line feed
abbrev pub first_line : List ℕ → List ℕ
first_line text = up_to (position (λ byte. byte == 10) text) text

-- The audit of the request has an answer of this status, whose report begins with this line.
pub record IsAudited (request : AuditRequest) (was is : Moment) (said : ℕ) (line : List ℕ) : Type 0 where
  pub answer : Answer
  pub cause : AuditCause (disk_at was) (disk_at is) request answer
  pub code : said ≡ status answer
  pub first : line ≡ first_line (report answer)

-- The request asks for an audit of this program on this input within these limits, without arguments and a certificate.
pub record AsksFor (limits : Limits) (program : List ℕ) (input : Option (List ℕ)) (request : AuditRequest) : Type 0 where
  pub file : request.file.now ≡ program
  pub given : option_copied request.input ≡ input
  pub steps : request.steps ≡ limits.steps
  pub tight : request.is_tight ≡ limits.is_tight
  pub args : request.args.items ≡ []
  pub cert : option_copied request.cert ≡ None

-- the audit of such a request is told so
abbrev pub Says : Limits → Moment → Moment → List ℕ → Option (List ℕ) → ℕ → List ℕ → Type 0
Says limits was is program input said line = (request : AuditRequest) × AsksFor limits program input request × IsAudited request was is said line

-- the report, a blank line and reasons; or one line, an object
abbrev pub Explains : Bool → List ℕ → List ℕ → Type 0
Explains false report text = (reasons : List ℕ) × (text ≡ (report ++ codes "\n") ++ reasons)
Explains true report text = (object : List ℕ) × (text ≡ object ++ codes "\n")

-- nothing is said of a text where a file was too long, wasn't read or wasn't written, or memory ran out
abbrev pub is_untold : ℕ → Bool
is_untold said = (said == 14) || ((said == 20) || ((said == 21) || (said == 30)))

-- the report with its explanation, or alone where nothing is said of the text
abbrev pub IsPage : Bool → List ℕ → List ℕ → Bool → Type 0
IsPage json report text true = text ≡ report
IsPage json report text false = Explains json report text

-- the status is the answer's, and its report is put with its explanation or alone
pub record IsPageOf (json : Bool) (answer : Answer) (said : ℕ) (text : List ℕ) : Type 0 where
  pub code : said ≡ status answer
  pub page : IsPage json (report answer) text (is_untold (status answer))

-- the text of a request, for which write faults were counted from before to now, has an answer that is put so
pub record IsJudgedPage (request : ExplainRequest) (before now : ℕ) (source : List ℕ) (said : ℕ) (text : List ℕ) : Type 0 where
  pub answer : Answer
  pub why : TextCause request.audit before now source answer
  pub page : IsPageOf request.is_json answer said text

-- The audit of the request has an answer that is put so.
pub record Explained (was is : Moment) (request : ExplainRequest) (said : ℕ) (text : List ℕ) : Type 0 where
  pub answer : Answer
  pub cause : AuditCause (disk_at was) (disk_at is) request.audit answer
  pub page : IsPageOf request.is_json answer said text
