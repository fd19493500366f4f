-- What the commands for a person answer (own).
use Rattle.std.specs.Prelude.{◌≡◌, ◌⊎◌, ◌≤◌, ℕ, List, [], ◌∷◌, Option, None, codes, option_copied, ⊤}
use Rattle.audit_batch.specs.Moment.{Moment}
use Rattle.audit_batch.specs.Runs.{Says}
use Rattle.audit_batch.specs.declared.audit.Limits.{Limits}
use Rattle.person_command.specs.PersonAsked.{IsPersonName, IsPersonRequest, IsPersonTaken, person_named}
use Rattle.person_command.specs.declared.person_request.ExplainRequest.{ExplainRequest}
use Rattle.person_command.specs.declared.person_request.Exploration.{Exploration}
use Rattle.person_command.specs.declared.person_request.Exploration.TheVariants.{Errors, Static, Swap, Story}
use Rattle.person_command.specs.declared.person_request.PersonRequest.{PersonRequest}
use Rattle.person_command.specs.declared.person_request.PersonRequest.TheVariants.{Explain, Batch, Help, Version, Explore}
use Rattle.command.specs.declared.request.AuditRequest.{AuditRequest}
use Rattle.command_help.specs.Commands.{version_text}
use Rattle.person_top.specs.Batch.{BatchEnds, limits_of}
use Rattle.person_top.specs.Ends.{Answers, BothAnswers, Device, EndsForMemory, EndsOnBoth, EndsTold}
use Rattle.person_top.specs.Help.{IsHelp}

-- the first word names a command for a person
abbrev pub IsForPerson : List (List ℕ) → Type 0
IsForPerson [] = ⊥
IsForPerson (word ∷ words) = IsPersonName word

-- the words are taken, and ask for this
unfoldable pub Asks : List (List ℕ) → PersonRequest → Type 0
Asks words request = IsPersonTaken words × IsPersonRequest (person_named words) request

-- the steps keep their bound, and no certificate is kept
abbrev pub IsBoundedAudit : AuditRequest → Type 0
IsBoundedAudit request = (request.steps ≤ 100000000) × (option_copied request.cert ≡ None)

-- so do those of a further look
abbrev pub IsBoundedLook : Exploration → Type 0
IsBoundedLook (Errors request) = IsBoundedAudit request
IsBoundedLook (Static file) = ⊤
IsBoundedLook (Swap request) = IsBoundedAudit request
IsBoundedLook (Story request) = IsBoundedAudit request.audit

-- the numbers of a request keep their bounds, and only an audit proper keeps a certificate
abbrev pub IsBounded : PersonRequest → Type 0
IsBounded (Explain request) = IsBoundedAudit request.audit
IsBounded (Batch request) = request.steps ≤ 100000000
IsBounded (Help topic) = ⊤
IsBounded Version = ⊤
IsBounded (Explore look) = IsBoundedLook look

-- the version, and the line of the kit
abbrev pub IsVersion : Answers
IsVersion status text = (status ≡ 0) × (text ≡ version_text)

-- the limits of a batch, and what is said of its runs
abbrev pub SaysAll : Type 1
SaysAll = Limits → Says

-- what may be put for a request to explain, while the files went from one moment to the next
abbrev pub Explains : Type 1
Explains = Moment → Moment → ExplainRequest → Answers

-- what may be put for a further look, while the files went from one moment to the next
abbrev pub Explores : Type 1
Explores = Moment → Moment → Exploration → BothAnswers

-- what an engine may say, explain and find
pub record Tells : Type 1 where
  pub says : SaysAll
  pub explains : Explains
  pub explores : Explores

abbrev pub tells : SaysAll → Explains → Explores → Tells
tells says explains explores = record { says = says; explains = explains; explores = explores }

-- How a call ends that asks for this and puts nothing on standard error, and what it leaves in the files.
abbrev pub PlainEnds : Tells → Moment → Moment → Device → Device → ℕ → PersonRequest → Type 0
PlainEnds engine was is old new result (Explain request) =
    EndsTold (engine.explains was is request) old.told new.told old.faults new.faults result × (is.held ≡ was.held)
PlainEnds engine was is old new result (Batch request) =
    BatchEnds (engine.says (limits_of request)) request was is old.told new.told old.faults new.faults result × (is.held ≡ was.held)
PlainEnds engine was is old new result (Help topic) =
    EndsTold (IsHelp (option_copied topic)) old.told new.told old.faults new.faults result × (is ≡ was)
PlainEnds engine was is old new result Version = EndsTold IsVersion old.told new.told old.faults new.faults result × (is ≡ was)
PlainEnds engine was is old new result (Explore look) = ⊥

-- How a call ends that asks for this, where standard error went from one state to another. Only a further look puts something there.
abbrev pub RequestEnds : Tells → Moment → Moment → Device → Device → Device → Device → ℕ → PersonRequest → Type 0
RequestEnds engine was is old new errors_old errors_new result (Explore look) =
    EndsOnBoth (engine.explores was is look) old new errors_old errors_new result × (is.held ≡ was.held)
RequestEnds engine was is old new errors_old errors_new result request = PlainEnds engine was is old new result request × (errors_new ≡ errors_old)

-- words that the command doesn't take
abbrev pub IsUsage : Answers
IsUsage status text = (status ≡ 10) × (text ≡ codes "usage\n")

-- words that ask for nothing, or for which memory ran out
abbrev pub WordsEnd : List (List ℕ) → Device → Device → ℕ → Type 0
WordsEnd words old new result =
    ((¬ IsPersonTaken words) × EndsTold IsUsage old.told new.told old.faults new.faults result)
    ⊎ EndsForMemory old.told new.told old.faults new.faults result

-- The words ask for something that ends the call so; or they aren't taken, or memory ran out, and the files and standard error stay.
abbrev pub PersonEnds : Tells → List (List ℕ) → Moment → Moment → Device → Device → Device → Device → ℕ → Type 0
PersonEnds engine words was is old new errors_old errors_new result =
    ((request : PersonRequest) × Asks words request × RequestEnds engine was is old new errors_old errors_new result request)
    ⊎ (WordsEnd words old new result × (is ≡ was) × (errors_new ≡ errors_old))
