-- What words ask for keeps its bounds.
use Rattle.std.proofs.Common.{ℕ, ◌≤◌, List, codes, Option, Some, None, Result, Ok, Err, IfOk, arith}
use Rattle.clap.specs.Walk.{Row, one_of}
use Rattle.command.specs.Asked.{Spells}
use Rattle.person_command.specs.PersonAsked.{IsExploration, IsPersonRequest, IsUncertified}
use Rattle.person_command.specs.declared.person_request.Exploration.{Exploration}
use Rattle.person_command.specs.declared.person_request.Exploration.TheVariants.{Errors, Static, Swap, Story}
use Rattle.person_command.specs.declared.person_request.PersonRequest.{PersonRequest}
use Rattle.person_command.specs.declared.person_request.PersonRequest.TheVariants.{Explain, Batch, Help, Version, Explore}
use Rattle.command.specs.declared.request.AuditRequest.{AuditRequest}
use Rattle.person_top.specs.Person.{IsBounded, IsBoundedAudit, IsBoundedLook}

-- a spelled number is at most the greatest
spells_below : (least most : ℕ) (text : Option (List ℕ)) (number : ℕ) → least ≤ most → Spells least most text number → number ≤ most
spells_below least most None number below is = omega arith
spells_below least most (Some text) number below h = let is = h.2 in omega arith

bounded_audit : (rows : List Row) (request : AuditRequest) → IsUncertified rows request → IsBoundedAudit request
bounded_audit rows request is = (spells_below 1 100000000 (one_of (codes "steps") rows) request.steps (omega arith) is.steps, is.cert)

bounded_look : (found : List ℕ × List Row) (look : Exploration) → IsExploration found look → IsBoundedLook look
bounded_look found (Errors request) is = bounded_audit found.1 request is.1
bounded_look found (Static file) is = tt
bounded_look found (Swap request) is = bounded_audit found.1 request is.1
bounded_look found (Story request) is = bounded_audit found.1 request.audit is.1.audit

bounded : (found : List ℕ × List Row) (request : PersonRequest) → IsPersonRequest found request → IsBounded request
bounded found (Explain request) is = bounded_audit found.1 request.audit is.1.audit
bounded found (Batch request) is = spells_below 1 100000000 (one_of (codes "steps") found.1) request.steps (omega arith) is.1.steps
bounded found (Help topic) is = tt
bounded found Version is = tt
bounded found (Explore look) is = bounded_look found look is

-- what is read of the words keeps its bounds
pub read_bounded : {E : Type 0} (found : List ℕ × List Row) (read : Result PersonRequest E) → IfOk read (IsPersonRequest found) → IfOk read IsBounded
read_bounded found (Ok request) is = bounded found request is
read_bounded found (Err e) is = is
