-- What words ask for by a command for a person (own).
use Rattle.std.specs.Prelude.{◌≡◌, ◌⊎◌, ℕ, List, [], map, string_bytes, codes, None, unwrap_or, option_copied}
use Rattle.clap.specs.Faults.{fault_of}
use Rattle.clap.specs.Simple.{matches_of, subcommand_of}
use Rattle.clap.specs.Walk.{Row, first_of, one_of}
use Rattle.command.specs.Asked.{Spells, args_given, is_set, text_given, texts_given}
use Rattle.person_command.specs.PersonApp.{person_app}
use Rattle.person_command.specs.declared.person_request.BatchRequest.{BatchRequest}
use Rattle.person_command.specs.declared.person_request.ExplainRequest.{ExplainRequest}
use Rattle.person_command.specs.declared.person_request.Exploration.{Exploration}
use Rattle.person_command.specs.declared.person_request.Exploration.TheVariants.{Errors, Static, Swap, Story}
use Rattle.person_command.specs.declared.person_request.PersonRequest.{PersonRequest}
use Rattle.person_command.specs.declared.person_request.PersonRequest.TheVariants.{Explain, Batch, Help, Version, Explore}
use Rattle.person_command.specs.declared.person_request.StoryRequest.{StoryRequest}
use Rattle.command.specs.declared.request.AuditRequest.{AuditRequest}

-- the command takes the words: no fault is found in them
unfoldable pub IsPersonTaken : List (List ℕ) → Type 0
IsPersonTaken words = fault_of person_app words ≡ []

-- the names of the subcommands that look further at a program or its run
abbrev pub IsExplorationName : List ℕ → Type 0
IsExplorationName name = (name ≡ codes "errors") ⊎ ((name ≡ codes "static") ⊎ ((name ≡ codes "swap") ⊎ (name ≡ codes "story")))

-- the names of the subcommands
abbrev pub IsPersonName : List ℕ → Type 0
IsPersonName name =
    (name ≡ codes "explain") ⊎ ((name ≡ codes "batch") ⊎ ((name ≡ codes "help") ⊎ ((name ≡ codes "version") ⊎ IsExplorationName name)))

-- the name of the subcommand that the words name, and what it was given; words that are taken name one
abbrev pub person_named : List (List ℕ) → List ℕ × List Row
person_named words = unwrap_or (subcommand_of person_app words) ([], matches_of person_app words)

-- an audit without a certificate
pub record IsUncertified (rows : List Row) (request : AuditRequest) : Type 0 where
  pub file : request.file.now ≡ text_given (codes "FILE") rows
  pub input : option_copied request.input ≡ first_of (codes "input") rows
  pub steps : Spells 1 100000000 (one_of (codes "steps") rows) request.steps
  pub tight : request.is_tight ≡ is_set (first_of (codes "tight") rows)
  pub cert : option_copied request.cert ≡ None
  pub args : map string_bytes request.args.items ≡ args_given rows

pub record IsExplain (rows : List Row) (request : ExplainRequest) : Type 0 where
  pub audit : IsUncertified rows request.audit
  pub json : request.is_json ≡ is_set (first_of (codes "json") rows)
  pub text : request.is_text ≡ is_set (first_of (codes "text") rows)

pub record IsBatch (rows : List Row) (request : BatchRequest) : Type 0 where
  pub names : map string_bytes request.names.items ≡ texts_given (codes "NAME") rows
  pub program : option_copied request.program ≡ first_of (codes "program") rows
  pub list : request.is_list ≡ is_set (first_of (codes "list") rows)
  pub steps : Spells 1 100000000 (one_of (codes "steps") rows) request.steps
  pub tight : request.is_tight ≡ is_set (first_of (codes "tight") rows)

pub record IsStory (rows : List Row) (request : StoryRequest) : Type 0 where
  pub audit : IsUncertified rows request.audit
  pub name : request.name.now ≡ text_given (codes "NAME") rows

-- the further look is that of this subcommand, with what it was given
abbrev pub IsExploration : List ℕ × List Row → Exploration → Type 0
IsExploration found (Errors request) = (found.0 ≡ codes "errors") × IsUncertified found.1 request
IsExploration found (Static file) = (found.0 ≡ codes "static") × (file.now ≡ text_given (codes "FILE") found.1)
IsExploration found (Swap request) = (found.0 ≡ codes "swap") × IsUncertified found.1 request
IsExploration found (Story request) = (found.0 ≡ codes "story") × IsStory found.1 request

-- the request is that of this subcommand, with what it was given
abbrev pub IsPersonRequest : List ℕ × List Row → PersonRequest → Type 0
IsPersonRequest found (Explain request) = (found.0 ≡ codes "explain") × IsExplain found.1 request
IsPersonRequest found (Batch request) = (found.0 ≡ codes "batch") × IsBatch found.1 request
IsPersonRequest found (Help topic) = (found.0 ≡ codes "help") × (option_copied topic ≡ first_of (codes "COMMAND") found.1)
IsPersonRequest found Version = found.0 ≡ codes "version"
IsPersonRequest found (Explore exploration) = IsExploration found exploration
