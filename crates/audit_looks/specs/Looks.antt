-- What further looks at a program or its run put (own).
use Rattle.std.specs.Prelude.{
  ◌≡◌,
  ◌≢◌,
  ◌⊎◌,
  ◌↔◌,
  ◌++◌,
  ℕ,
  ◌≤◌,
  List,
  [],
  Bool,
  true,
  false,
  Option,
  Some,
  None,
  IsTrue,
  codes,
  map,
  option_copied,
}
use Rattle.ub_base.specs.Frames.{Row}
use Rattle.ub_base.specs.declared.names.Event.{Event}
use Rattle.ub_base.specs.declared.names.ObjName.{ObjName}
use Rattle.addr_map.specs.declared.map.Row.{Row as Place}
use Rattle.c_names.specs.Texts.{IsNoObjectText, object_text}
use Rattle.core_run.specs.Calls.{Heard, StartedBy, picks_in}
use Rattle.core_run.specs.Ends.{picks_of, told_of}
use Rattle.core_run.specs.declared.watch.Ran.{Ran}
use Rattle.audit_batch.specs.Moment.{Moment}
use Rattle.audit_looks.specs.Disks.{disk_at}
use Rattle.audit_sources.specs.Fetching.{IsWhole}
use Rattle.audit_sources.specs.declared.fetch.FetchFault.{FetchFault}
use Rattle.audit_sources.specs.declared.role.Role.TheVariants.{Source}
use Rattle.audit_verdict.specs.Answer.{IsRunnable, Refuses}
use Rattle.audit_verdict.specs.Cause.{AuditCause, IsStopped, TextCause, stopped}
use Rattle.audit_verdict.specs.Report.{report, status}
use Rattle.audit_verdict.specs.declared.answer.Answer.{Answer}
use Rattle.audit_verdict.specs.declared.answer.Refusal.{Refusal}
use Rattle.c_typed.specs.declared.program.Program.{Program}
use Rattle.person_command.specs.declared.person_request.Exploration.{Exploration}
use Rattle.person_command.specs.declared.person_request.Exploration.TheVariants.{Errors, Static, Swap, Story}
use Rattle.person_command.specs.declared.person_request.StoryRequest.{StoryRequest}
use Rattle.command.specs.declared.request.AuditRequest.{AuditRequest}
use Rattle.elaborate.specs.Expressions.{program_trees}
use Rattle.conflict_detector.specs.Apart.{AreApart}
use Rattle.order_swap.specs.Texts.{swapped_text}
use Rattle.order_swap.specs.Turns.{AllSteps, IsChosen, IsFair, IsTurnOf, MayBeTaken, place_of}
use Rattle.order_swap.specs.declared.answer.Swapped.{Swapped}
use Rattle.static_report.specs.Report.{report as static_report, status as static_status}
use Rattle.static_seq.specs.Verdicts.{ProgramCounts, verdicts}
use Rattle.trace_story.specs.Named.{IsNamed}
use Rattle.trace_story.specs.Stories.{mark_of, sought_in, story_in}
use Rattle.trace_story.specs.Texts.{entries_text}
use Rattle.trace_story.specs.declared.entry.Entry.{Entry}

-- the text of a request, for which write faults were counted from before to now, has an answer of this status and report
pub record IsTextReport (request : AuditRequest) (before now : ℕ) (source : List ℕ) (said : ℕ) (text : List ℕ) : Type 0 where
  pub answer : Answer
  pub why : TextCause request before now source answer
  pub code : said ≡ status answer
  pub page : text ≡ report answer

-- the audit of the request has an answer of this status and report
pub record IsReport (was is : Moment) (request : AuditRequest) (said : ℕ) (text : List ℕ) : Type 0 where
  pub answer : Answer
  pub cause : AuditCause (disk_at was) (disk_at is) request answer
  pub code : said ≡ status answer
  pub page : text ≡ report answer

-- the report where a file isn't fetched
abbrev pub IsStoppedReport : FetchFault → ℕ → List ℕ → Type 0
IsStoppedReport fault said text = (said ≡ status (stopped fault)) × (text ≡ report (stopped fault))

-- the text has no program, for this or that reason
abbrev pub IsRefused : List ℕ → Type 0
IsRefused text = (refusal : Refusal) × Refuses text refusal

-- a text that has a program may write something to standard error, and one that is refused writes nothing
abbrev pub MayWrite : List ℕ → List ℕ → Type 0
MayWrite source errors = ((program : Program) × IsRunnable source program) ⊎ (IsRefused source × (errors ≡ []))

-- .. the text being that of the file of a request, where it is fetched
abbrev pub FileMayWrite : Moment → AuditRequest → List ℕ → Type 0
FileMayWrite was request errors = (errors ≡ []) ⊎ ((source : List ℕ) × IsWhole was.held (Source, request.file.now) source × MayWrite source errors)

-- the report of the audit is put, and what the program wrote goes to standard error
abbrev pub ErrorsTold : Moment → Moment → AuditRequest → ℕ → List ℕ → List ℕ → Type 0
ErrorsTold was is request said text errors = IsReport was is request said text × FileMayWrite was request errors

-- this status and text may be put, and nothing goes to standard error
abbrev pub Quiet : (ℕ → List ℕ → Type 0) → ℕ → List ℕ → List ℕ → Type 0
Quiet answers said text errors = answers said text × (errors ≡ [])

-- what is said of the expressions of a program whose trees can be numbered
pub record IsProgramStatic (program : Program) (said : ℕ) (text : List ℕ) : Type 0 where
  pub code : ProgramCounts program → said ≡ static_status (verdicts program)
  pub page : ProgramCounts program → text ≡ static_report (verdicts program)

-- what is said of the expressions of the program of a text
abbrev pub IsStatic : List ℕ → ℕ → List ℕ → Type 0
IsStatic source said text = (program : Program) × IsRunnable source program × IsProgramStatic program said text

-- the page of a text: that, or the report of its audit where it is refused
abbrev pub IsTextStatic : AuditRequest → ℕ → ℕ → List ℕ → ℕ → List ℕ → Type 0
IsTextStatic request before now source said text =
    IsStatic source said text ⊎ (IsRefused source × IsTextReport request before now source said text)

-- the page of a file that is fetched
pub record IsFetchedStatic (was is : Moment) (request : AuditRequest) (said : ℕ) (text : List ℕ) : Type 0 where
  pub source : List ℕ
  pub whole : IsWhole was.held (Source, request.file.now) source
  pub page : IsStatic source said text ⊎ (IsRefused source × IsReport was is request said text)

-- the page of a file: that, or the report where it isn't fetched
abbrev pub IsFileStatic : Moment → Moment → AuditRequest → ℕ → List ℕ → Type 0
IsFileStatic was is request said text =
    IsFetchedStatic was is request said text
    ⊎ ((fault : FetchFault) × IsStopped (disk_at was) (disk_at is) request fault × IsStoppedReport fault said text)

-- an audit of this file, on an empty input
pub record IsOfFile (file : List ℕ) (request : AuditRequest) : Type 0 where
  pub named : request.file.now ≡ file
  pub input : option_copied request.input ≡ None
  pub steps : request.steps ≤ 100000000
  pub cert : option_copied request.cert ≡ None

abbrev pub StaticTold : Moment → Moment → List ℕ → ℕ → List ℕ → List ℕ → Type 0
StaticTold was is file said text errors =
    (request : AuditRequest) × IsOfFile file request × Quiet (IsFileStatic was is request) said text errors

-- the status where both orders end, in other ways or alike
abbrev pub swap_status : Bool → ℕ
swap_status true = 6
swap_status false = 7

-- How both orders of two evaluations end. In the second one, in their turn, the later of the two is taken before the other where it can be.
pub record AreBothOrders (frames : List Row) (event against : Event × ℕ) (said : ℕ) (text : List ℕ) : Type 0 where
  pub swapped : Swapped
  pub turn : IsTurnOf event.0 swapped.trail swapped.turn
  pub chosen : AllSteps (IsChosen (place_of event.0) (place_of against.0)) swapped.turn
  pub permitted : AllSteps MayBeTaken swapped.turn
  pub second_first : AllSteps (IsFair (place_of event.0) (place_of against.0)) swapped.turn
  pub differs : IsTrue swapped.differs ↔ (swapped.canonical.0 ≢ swapped.swapped.0)
  pub code : said ≡ swap_status swapped.differs
  pub page : text ≡ swapped_text frames event against swapped

-- .. of two evaluations of one full expression of a program of which neither is sequenced before the other
pub record IsProgramSwap (program : Program) (said : ℕ) (text : List ℕ) : Type 0 where
  pub frames : List Row
  pub event : Event × ℕ
  pub against : Event × ℕ
  pub apart : AreApart (program_trees program) false event.0 against.0
  pub both : AreBothOrders frames event against said text

-- .. of the program of a text
abbrev pub IsSwap : List ℕ → ℕ → List ℕ → Type 0
IsSwap source said text = (program : Program) × IsRunnable source program × IsProgramSwap program said text

-- the page of a text: both orders, or the report of its audit
abbrev pub IsTextSwap : AuditRequest → ℕ → ℕ → List ℕ → ℕ → List ℕ → Type 0
IsTextSwap request before now source said text = IsSwap source said text ⊎ IsTextReport request before now source said text

-- the page of a file: both orders, or the report of its audit
abbrev pub IsFileSwap : Moment → Moment → AuditRequest → ℕ → List ℕ → Type 0
IsFileSwap was is request said text =
    ((source : List ℕ) × IsWhole was.held (Source, request.file.now) source × IsSwap source said text) ⊎ IsReport was is request said text

abbrev pub SwapTold : Moment → Moment → AuditRequest → ℕ → List ℕ → List ℕ → Type 0
SwapTold was is request = Quiet (IsFileSwap was is request)

-- an object whose frame stands among these
abbrev pub Named : Type 0
Named = List Row × ObjName

-- What the calls of the watch of a run, of at most so many picks, tell of the object that has the name of this one.
pub record IsStoryText (of : Named) (text : List ℕ) : Type 0 where
  pub picks : ℕ
  pub frames : List Row
  pub named : Option ObjName
  pub places : List Place
  pub calls : Heard
  pub ran : Ran
  pub entries : List Entry
  pub same : IsNamed of.0 of.1 frames named
  pub told : map mark_of entries ≡ story_in frames (sought_in places named) calls
  pub counted : picks_in calls ≡ told_of ran
  pub within : picks_of ran ≤ picks
  pub started : StartedBy (Some calls) frames
  pub page : text ≡ entries_text frames entries

-- what stands before the report of an audit of this text: a story where it has a program, and nothing where it is refused
abbrev pub IsFront : Named → List ℕ → List ℕ → Type 0
IsFront of source front = ((program : Program) × IsRunnable source program × IsStoryText of front) ⊎ (IsRefused source × (front ≡ []))

-- the page of a text: a story, and the report of its audit
pub record IsTextStory (of : Named) (request : AuditRequest) (before now : ℕ) (source : List ℕ) (said : ℕ) (text : List ℕ) : Type 0 where
  pub front : List ℕ
  pub body : List ℕ
  pub story : IsFront of source front
  pub audit : IsTextReport request before now source said body
  pub both : text ≡ front ++ body

-- the page of a file that is fetched: a story, and the report of its audit
pub record IsFetchedStory (was is : Moment) (of : Named) (request : AuditRequest) (said : ℕ) (text : List ℕ) : Type 0 where
  pub source : List ℕ
  pub front : List ℕ
  pub body : List ℕ
  pub whole : IsWhole was.held (Source, request.file.now) source
  pub story : IsFront of source front
  pub audit : IsReport was is request said body
  pub both : text ≡ front ++ body

-- the page of a file: that, or the report of its audit alone where a file isn't fetched
abbrev pub IsFileStory : Moment → Moment → Named → AuditRequest → ℕ → List ℕ → Type 0
IsFileStory was is of request said text =
    IsFetchedStory was is of request said text
    ⊎ ((fault : FetchFault) × IsStopped (disk_at was) (disk_at is) request fault × IsStoppedReport fault said text)

abbrev pub NamedTold : Moment → Moment → Named → AuditRequest → ℕ → List ℕ → List ℕ → Type 0
NamedTold was is of request = Quiet (IsFileStory was is of request)

-- the story of an object of this name
abbrev pub IsNamedStory : Moment → Moment → StoryRequest → ℕ → List ℕ → Type 0
IsNamedStory was is request said text =
    (of : Named) × (object_text of.0 of.1 ≡ request.name.now) × IsFileStory was is of request.audit said text

-- .. or, before any file is read, that no object has it
abbrev pub IsStoryOf : Moment → Moment → StoryRequest → ℕ → List ℕ → Type 0
IsStoryOf was is request said text =
    IsNamedStory was is request said text ⊎ (IsNoObjectText request.name.now × (is ≡ was) × (said ≡ 10) × (text ≡ codes "usage\n"))

abbrev pub StoryTold : Moment → Moment → StoryRequest → ℕ → List ℕ → List ℕ → Type 0
StoryTold was is request = Quiet (IsStoryOf was is request)

-- what a further look puts
abbrev pub Explored : Moment → Moment → Exploration → ℕ → List ℕ → List ℕ → Type 0
Explored was is (Errors request) = ErrorsTold was is request
Explored was is (Static file) = StaticTold was is file.now
Explored was is (Swap request) = SwapTold was is request
Explored was is (Story request) = StoryTold was is request
