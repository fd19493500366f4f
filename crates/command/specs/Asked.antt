-- What the words ask for, as the command finds it (own).
use Rattle.std.specs.Prelude.{
  ◌≡◌,
  ◌⊎◌,
  ℕ,
  min,
  max,
  List,
  [],
  map,
  string_bytes,
  Bool,
  false,
  ◌&&◌,
  ◌||◌,
  codes,
  Option,
  Some,
  None,
  Result,
  unwrap_or,
  option_copied,
}
use Rattle.std.specs.Str.{bytes_eq}
use Rattle.std.specs.Str.Parse.{ParsesUnsigned}
use Rattle.std.specs.Result.{result_unwrap_or}
use Rattle.clap.specs.Faults.{fault_of}
use Rattle.clap.specs.Simple.{matches_of, subcommand_of}
use Rattle.clap.specs.Walk.{Row, first_of, one_of, all_of}
use Rattle.command.specs.App.{cub_app}
use Rattle.command.specs.declared.request.AuditRequest.{AuditRequest}
use Rattle.command.specs.declared.request.CheckRequest.{CheckRequest}
use Rattle.command.specs.declared.request.SelfRequest.{SelfRequest}
use Rattle.command.specs.declared.request.Request.{Request}
use Rattle.command.specs.declared.request.Request.TheVariants.{Audit, Check, SelfAudit}

-- the command takes the words: no fault is found in them
unfoldable pub IsTaken : List (List ℕ) → Type 0
IsTaken words = fault_of cub_app words ≡ []

-- the names of the subcommands
abbrev pub IsName : List ℕ → Type 0
IsName name = (name ≡ codes "audit") ⊎ ((name ≡ codes "check") ⊎ (name ≡ codes "self"))

-- the name of the subcommand that the words name, and what it was given; words that are taken name one
abbrev pub named : List (List ℕ) → List ℕ × List Row
named words = unwrap_or (subcommand_of cub_app words) ([], matches_of cub_app words)

-- the text is that of an argument that has one
abbrev pub is_given_as : List ℕ → Option (List ℕ) → Bool
is_given_as text None = false
is_given_as text (Some given) = bytes_eq text given

-- what a certificate would be kept in the place of: a file that is read, or, under the name `-`, standard input
abbrev pub displaces : Option (List ℕ) → List ℕ → Option (List ℕ) → Bool
displaces None file input = false
displaces (Some cert) file input = bytes_eq cert (codes "-") || (bytes_eq cert file || is_given_as cert input)

-- the text of an argument that has one, and else the empty text
abbrev pub text_given : List ℕ → List Row → List ℕ
text_given id rows = unwrap_or (first_of id rows) []

-- the texts of an argument that has some
abbrev pub texts_given : List ℕ → List Row → List (List ℕ)
texts_given id rows = unwrap_or (all_of id rows) []

-- the words that the program is given
abbrev pub args_given : List Row → List (List ℕ)
args_given rows = texts_given (codes "ARGS") rows

-- a flag is set
abbrev pub is_set : Option (List ℕ) → Bool
is_set None = false
is_set (Some text) = bytes_eq text (codes "true")

-- the number that a text spells, kept between least and most; least where it spells none
abbrev pub Spells : ℕ → ℕ → Option (List ℕ) → ℕ → Type 0
Spells least most None number = number ≡ max (min 0 most) least
Spells least most (Some text) number =
    (spelled : Result ℕ (Unit {0})) × ParsesUnsigned 64 10 text spelled × (number ≡ max (min (result_unwrap_or spelled 0) most) least)

pub record IsAudit (rows : List Row) (request : AuditRequest) : Type 0 where
  pub file : request.file.now ≡ text_given (codes "FILE") rows
  pub input : option_copied request.input ≡ first_of (codes "input") rows
  pub steps : Spells 1 100000000 (one_of (codes "steps") rows) request.steps
  pub tight : request.is_tight ≡ is_set (first_of (codes "tight") rows)
  pub cert : option_copied request.cert ≡ first_of (codes "cert") rows
  pub args : map string_bytes request.args.items ≡ args_given rows

pub record IsCheck (rows : List Row) (request : CheckRequest) : Type 0 where
  pub file : request.file.now ≡ text_given (codes "FILE") rows
  pub cert : request.cert.now ≡ text_given (codes "CERT") rows
  pub input : option_copied request.input ≡ first_of (codes "input") rows
  pub args : map string_bytes request.args.items ≡ args_given rows

pub record IsSelf (rows : List Row) (request : SelfRequest) : Type 0 where
  pub seed : Spells 0 65536 (one_of (codes "SEED") rows) request.seed
  pub lines : Spells 1 20000 (one_of (codes "N") rows) request.lines

-- the request is that of this subcommand, with what it was given
abbrev pub IsRequest : List ℕ × List Row → Request → Type 0
IsRequest found (Audit request) = (found.0 ≡ codes "audit") × IsAudit found.1 request
IsRequest found (Check request) = (found.0 ≡ codes "check") × IsCheck found.1 request
IsRequest found (SelfAudit request) = (found.0 ≡ codes "self") × IsSelf found.1 request

-- a request whose certificate would be kept in the place of what is read
abbrev pub overwrites : Request → Bool
overwrites (Audit request) = displaces (option_copied request.cert) request.file.now (option_copied request.input)
overwrites (Check request) = false
overwrites (SelfAudit request) = false

-- the same of words
abbrev pub words_overwrite : List ℕ × List Row → Bool
words_overwrite found =
    bytes_eq found.0 (codes "audit") &&
    displaces (first_of (codes "cert") found.1) (text_given (codes "FILE") found.1) (first_of (codes "input") found.1)

-- the words ask for something: the command takes them, and no certificate would be kept in the place of what is read
pub record AreFit (words : List (List ℕ)) : Type 0 where
  pub taken : IsTaken words
  pub spares : words_overwrite (named words) ≡ false
