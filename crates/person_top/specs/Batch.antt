-- What a batch runs, and how it ends (own).
use Rattle.std.specs.Prelude.{◌≡◌, ◌⊎◌, ℕ, List, [], ◌∷◌, ◌++◌, map, string_bytes, Bool, true, false, Option, codes, option_copied, ⊤}
use Rattle.std.specs.Str.{IsUtf8}
use Rattle.ub_base.specs.Causes.{Rose}
use Rattle.ub_base.specs.Held.{Held}
use Rattle.audit_sources.specs.Fetching.{IsWhole, Stops}
use Rattle.audit_sources.specs.declared.fetch.FetchFault.{FetchFault}
use Rattle.audit_sources.specs.declared.fetch.FetchFault.TheVariants as Fault
use Rattle.audit_sources.specs.declared.role.Role.{Role}
use Rattle.audit_sources.specs.declared.role.Role.TheVariants.{Input}
use Rattle.audit_batch.specs.Batch.{no_runs, summary}
use Rattle.audit_batch.specs.Moment.{Moment}
use Rattle.audit_batch.specs.Runs.{Breaks, Names, Reaches, Says, names_in, run_for, stand}
use Rattle.audit_batch.specs.declared.audit.Limits.{Limits}
use Rattle.audit_batch.specs.declared.tally.Tally.{Tally}
use Rattle.person_command.specs.declared.person_request.BatchRequest.{BatchRequest}
use Rattle.person_top.specs.Ends.{Answers, EndsForMemory, EndsTold}

-- each run has these limits
abbrev pub limits_of : BatchRequest → Limits
limits_of request = record { steps = request.steps; is_tight = request.is_tight }

-- the names that the words hold
abbrev pub names_given : BatchRequest → List (List ℕ)
names_given request = map string_bytes request.names.items

-- a list is a file of at most 2^24 bytes
abbrev pub list_file : List ℕ → Role × List ℕ
list_file name = (Input, name)

-- the lists of these names hold these texts
abbrev pub AreLists : Option Held → List (List ℕ) → List (List ℕ) → Type 0
AreLists held [] [] = ⊤
AreLists held (name ∷ names) (text ∷ texts) = IsWhole held (list_file name) text × AreLists held names texts
AreLists held [] (text ∷ texts) = ⊥
AreLists held (name ∷ names) [] = ⊥

-- the names in lists, one list after the other
abbrev pub names_in_all : List (List ℕ) → List (List ℕ)
names_in_all [] = []
names_in_all (text ∷ texts) = names_in text ++ names_in_all texts

-- the names that are meant: those of the words, or where the words name lists, those in the lists
abbrev pub AreMeant : Option Held → Bool → List (List ℕ) → List (List ℕ) → Type 0
AreMeant held false given names = names ≡ given
AreMeant held true given names = (texts : List (List ℕ)) × AreLists held given texts × (names ≡ names_in_all texts)

-- the runs that a request asks for
abbrev pub AreRuns : Option Held → BatchRequest → List Names → Type 0
AreRuns held request runs =
    (names : List (List ℕ)) × AreMeant held request.is_list (names_given request) names × (runs ≡ map (run_for (option_copied request.program)) names)

-- the summary of the runs, with the highest status of one
abbrev pub IsSummary : Tally → Answers
IsSummary tally status text = (status ≡ tally.highest) × (text ≡ summary tally)

-- each run was said in turn, and then their summary
pub record AllSaid (says : Says) (was is : Moment) (old new : Option (List ℕ)) (before now result : ℕ) (runs : List Names) : Type 0 where
  pub tally : Tally
  pub told : Option (List ℕ)
  pub reaches : Reaches says (stand was old no_runs) runs (stand is told tally) []
  pub ends : EndsTold (IsSummary tally) told new before now result

-- the line of a run couldn't be put whole, those before it being said in turn
pub record SomeSaid (says : Says) (was is : Moment) (old new : Option (List ℕ)) (before now result : ℕ) (runs : List Names) : Type 0 where
  pub told : Option (List ℕ)
  pub breaks : Breaks says (stand was old no_runs) runs is told
  pub ends : ((result ≡ 21) × Rose before now × (new ≡ told)) ⊎ EndsForMemory told new before now result

-- how a call ends that makes these runs
abbrev pub RunsEnd : Says → Moment → Moment → Option (List ℕ) → Option (List ℕ) → ℕ → ℕ → ℕ → List Names → Type 0
RunsEnd says was is old new before now result runs =
    AllSaid says was is old new before now result runs ⊎ SomeSaid says was is old new before now result runs

-- what is put where a list isn't fetched
abbrev pub IsUnfetched : FetchFault → Answers
IsUnfetched Fault.ReadFault status text = (status ≡ 20) × (text ≡ codes "read fault\n")
IsUnfetched (Fault.TooLong role) status text = (status ≡ 14) × (text ≡ codes "too long list 16777216\n")
IsUnfetched Fault.NoMemory status text = (status ≡ 30) × (text ≡ codes "no memory\n")

-- each text is UTF-8
abbrev pub AreUtf8 : List (List ℕ) → Type 0
AreUtf8 [] = ⊤
AreUtf8 (text ∷ texts) = IsUtf8 text × AreUtf8 texts

-- the first list that isn't fetched stops the batch
pub record Unfetched (was is : Moment) (given : List (List ℕ)) (status : ℕ) (text : List ℕ) : Type 0 where
  pub fault : FetchFault
  pub stops : Stops was.held was.reads is.reads (map list_file given) fault
  pub put : IsUnfetched fault status text

-- a list is no text
pub record NoText (held : Option Held) (given : List (List ℕ)) (status : ℕ) (text : List ℕ) : Type 0 where
  pub texts : List (List ℕ)
  pub lists : AreLists held given texts
  pub wrong : ¬ AreUtf8 texts
  pub code : status ≡ 20
  pub put : text ≡ codes "read fault\n"

-- what is put where the runs aren't known
abbrev pub AreUnknown : Moment → Moment → BatchRequest → Answers
AreUnknown was is request status text =
    (request.is_list ≡ true) × (Unfetched was is (names_given request) status text ⊎ NoText was.held (names_given request) status text)

-- The runs that are asked for are made, from a moment on at which the lists are fetched.
pub record Runs (says : Says) (request : BatchRequest) (was is : Moment) (old new : Option (List ℕ)) (before now result : ℕ) : Type 0 where
  pub start : Moment
  pub stays : start.held ≡ was.held
  pub runs : List Names
  pub asked : AreRuns was.held request runs
  pub ends : RunsEnd says start is old new before now result runs

-- how a batch ends
abbrev pub BatchEnds : Says → BatchRequest → Moment → Moment → Option (List ℕ) → Option (List ℕ) → ℕ → ℕ → ℕ → Type 0
BatchEnds says request was is old new before now result =
    Runs says request was is old new before now result ⊎ EndsTold (AreUnknown was is request) old new before now result
