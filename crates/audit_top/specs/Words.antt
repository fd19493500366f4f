-- What the words of a command line ask for (own).
use Rattle.std.specs.Prelude.{◌≤◌, ℕ, List, ⊤}
use Rattle.command.specs.Asked.{AreFit, IsRequest, named}
use Rattle.command.specs.declared.request.Request.{Request}
use Rattle.command.specs.declared.request.Request.TheVariants.{Audit, Check, SelfAudit}

-- the command takes the words, and no certificate would be kept in the place of what is read
abbrev pub TakesWords : List (List ℕ) → Type 0
TakesWords words = AreFit words

-- the words ask for this
unfoldable pub Asks : List (List ℕ) → Request → Type 0
Asks words request = TakesWords words × IsRequest (named words) request

-- the numbers of a request keep their bounds
abbrev pub IsBounded : Request → Type 0
IsBounded (Audit request) = (1 ≤ request.steps) × (request.steps ≤ 100000000)
IsBounded (Check request) = ⊤
IsBounded (SelfAudit request) = (request.seed ≤ 65536) × (1 ≤ request.lines) × (request.lines ≤ 20000)
