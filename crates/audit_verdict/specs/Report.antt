-- The report of an answer, and its status.
use Rattle.std.specs.Prelude.{◌≡◌, ◌⊎◌, ℕ, List, [], ◌++◌, codes, decimal, Option}
use Rattle.audit_sources.specs.declared.role.Role.{Role}
use Rattle.audit_sources.specs.declared.role.Role.TheVariants.{Source, Certificate, Input}
use Rattle.certificate.specs.declared.answer.Answer.{Answer as Verdict}
use Rattle.certificate.specs.declared.answer.Answer.TheVariants.{Yes, No}
use Rattle.certificate.specs.declared.answer.Part.TheVariants.{Map, Order, Claim}
use Rattle.certificate.specs.Field.{field_text}
use Rattle.ub_base.specs.Causes.{Rose}
use Rattle.ub_base.specs.Clause.{clause_text}
use Rattle.ub_base.specs.declared.clause.Clause.{Clause}
use Rattle.ub_base.specs.Sink.{Gains, GainsPart}
use Rattle.audit_verdict.specs.declared.answer.BadCertificate.{BadCertificate}
use Rattle.audit_verdict.specs.declared.answer.BadCertificate.TheVariants.{NotJson, Wrong}
use Rattle.audit_verdict.specs.declared.answer.Answer.{Answer}
use Rattle.audit_verdict.specs.declared.answer.Summary.{Summary}
use Rattle.audit_verdict.specs.declared.answer.Answer.TheVariants.{
  Clean,
  Undefined,
  Found,
  Generated,
  GeneratedRefused,
  Checked,
  Bad,
  Usage,
  TooLong,
  Refused,
  CertificateTooLong,
  NotKept,
  ReadFault,
  NoMemory,
}
use Rattle.audit_verdict.specs.declared.answer.Refusal.{Refusal}
use Rattle.audit_verdict.specs.declared.answer.Refusal.TheVariants.{Stray, OpenLiteral, BadNumber, TooDeep, TooHigh, Syntax, NotTyped}

-- a line of words and a number
abbrev pub numbered : List ℕ → ℕ → List ℕ
numbered words number = words ++ decimal number ++ codes "\n"

abbrev pub syntax_report : ℕ → ℕ → List ℕ
syntax_report token line = codes "syntax token " ++ (decimal token ++ (codes " line " ++ (decimal line ++ codes "\n")))

abbrev pub refusal_report : Refusal → List ℕ
refusal_report (Stray at) = numbered (codes "lex stray ") at
refusal_report (OpenLiteral at) = numbered (codes "lex open literal ") at
refusal_report (BadNumber at) = numbered (codes "lex bad number ") at
refusal_report (TooDeep count) = numbered (codes "too deep ") count
refusal_report (TooHigh count) = numbered (codes "too deep ") count
refusal_report (Syntax token line) = syntax_report token line
refusal_report (NotTyped line) = numbered (codes "not typed line ") line

abbrev pub refusal_status : Refusal → ℕ
refusal_status (Stray at) = 11
refusal_status (OpenLiteral at) = 11
refusal_status (BadNumber at) = 11
refusal_status (TooDeep count) = 15
refusal_status (TooHigh count) = 15
refusal_status (Syntax token line) = 12
refusal_status (NotTyped line) = 13

abbrev pub clean_report : ℕ → List ℕ
clean_report status = codes "clean\nexit " ++ (decimal status ++ codes "\noutput 0\n")

abbrev pub undefined_report : Clause → ℕ → List ℕ
undefined_report clause line =
    codes "undefined " ++ (clause_text clause ++ (codes "\nevent main 2 0 val line " ++ (decimal line ++ codes "\norder canonical 3\n")))

abbrev pub too_long_report : Role → List ℕ
too_long_report Source = codes "too long source 1048576\n"
too_long_report Certificate = codes "too long certificate 67108864\n"
too_long_report Input = codes "too long input 16777216\n"

-- whether a certificate holds
abbrev pub verdict_report : Verdict → List ℕ
verdict_report Yes = codes "yes\n"
verdict_report (No Map) = codes "no map\n"
verdict_report (No Order) = codes "no order\n"
verdict_report (No Claim) = codes "no claim\n"

abbrev pub verdict_status : Verdict → ℕ
verdict_status Yes = 0
verdict_status (No part) = 5

-- what is wrong with a text that is no certificate
abbrev pub bad_word : BadCertificate → List ℕ
bad_word NotJson = codes "json"
bad_word (Wrong field) = field_text field

abbrev pub bad_report : BadCertificate → List ℕ
bad_report bad = codes "bad certificate " ++ (bad_word bad ++ codes "\n")

-- what a program was generated from, and its size
abbrev pub summary_report : Summary → List ℕ
summary_report summary =
    codes "self " ++ (decimal summary.seed ++ (codes " " ++ (decimal summary.lines ++ (codes "\nsource " ++ (decimal summary.size ++ codes "\n")))))

abbrev pub report : Answer → List ℕ
report (Clean status) = clean_report status
report (Undefined clause line) = undefined_report clause line
report (Found status bytes) = bytes
report (Generated summary status bytes) = summary_report summary ++ bytes
report (GeneratedRefused summary refusal) = summary_report summary ++ refusal_report refusal
report (Checked verdict) = verdict_report verdict
report (Bad bad) = bad_report bad
report Usage = codes "usage\n"
report (TooLong role) = too_long_report role
report (Refused refusal) = refusal_report refusal
report CertificateTooLong = too_long_report Certificate
report NotKept = []
report ReadFault = codes "read fault\n"
report NoMemory = codes "no memory\n"

abbrev pub status : Answer → ℕ
status (Clean s) = 0
status (Undefined clause line) = 1
status (Found s bytes) = s
status (Generated summary s bytes) = s
status (GeneratedRefused summary refusal) = refusal_status refusal
status (Checked verdict) = verdict_status verdict
status (Bad bad) = 16
status Usage = 10
status (TooLong role) = 14
status (Refused refusal) = refusal_status refusal
status CertificateTooLong = 14
status NotKept = 21
status ReadFault = 20
status NoMemory = 30

-- The report was put whole, and the call ends with its status. Or a put failed after a part of it.
abbrev pub Ends : Option (List ℕ) → Option (List ℕ) → ℕ → ℕ → ℕ → Answer → Type 0
Ends old new before now result answer =
    ((result ≡ status answer) × Gains old new (report answer))
    ⊎ ((result ≡ 21) × GainsPart old new (report answer) × Rose before now)

-- the report of this answer is put whole, and the call ends with its status, unless memory ran out
abbrev pub EndsWith : Option (List ℕ) → Option (List ℕ) → ℕ → Answer → Type 0
EndsWith old new result answer = (result ≡ 30) ⊎ ((result ≡ status answer) × Gains old new (report answer))
