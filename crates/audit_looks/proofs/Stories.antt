-- A story, and behind it the report of an audit.
use Rattle.std.proofs.Common.{◌≡◌, ◌⊎◌, ◌++◌, ℕ, List, [], Option, Result, Ok, Err, IfOk, codes, option_copied, inl, inr}
use Rattle.audit_batch.specs.Moment.{Moment}
use Rattle.audit_sources.specs.Fetching.{HasInput, IsWhole, Stops, wanted}
use Rattle.audit_sources.specs.declared.fetch.FetchFault.{FetchFault}
use Rattle.audit_sources.specs.declared.role.Role.TheVariants.{Source}
use Rattle.audit_looks.proofs.Reports.{fetched_report}
use Rattle.audit_looks.specs.Looks.{IsRefused}
use Rattle.audit_looks.specs.Looks.{IsFileStory, IsFront, IsStoppedReport, IsStoryText, IsTextStory, Named, NamedTold, StoryTold}
use Rattle.audit_verdict.specs.Answer.{IsRunnable}
use Rattle.c_names.specs.Texts.{IsNoObjectText, object_text}
use Rattle.c_typed.specs.declared.program.Program.{Program}
use Rattle.person_command.specs.declared.person_request.StoryRequest.{StoryRequest}
use Rattle.command.specs.declared.request.AuditRequest.{AuditRequest}
use Rattle.person_top.specs.declared.explore.Sheet.{Sheet}

-- a story of a program stands before the report of its text
pub program_front : {E : Type 0} (of : Named) (source : List ℕ) (program : Program) (result : Result (List ℕ) E) → IsRunnable source program
    → IfOk result (IsStoryText of) → IfOk result (IsFront of source)
program_front of source program (Ok front) runs story = inl (program, runs, story)
program_front of source program (Err e) runs story = story

-- .. and nothing before that of a text that is refused
pub refused_front : {E : Type 0} (of : Named) (source : List ℕ) (result : Result (List ℕ) E) → IsRefused source → IfOk result (λ front. front ≡ [])
    → IfOk result (IsFront of source)
refused_front of source (Ok front) refused none = inr (refused, none)
refused_front of source (Err e) refused none = none

-- a story of a file that is fetched
pub fetched_story : (was is : Moment) (of : Named) (request : AuditRequest) (before : ℕ) (source bytes : List ℕ) (said : ℕ)
    (text : List ℕ) → IsWhole was.held (Source, request.file.now) source → HasInput was.held (option_copied request.input) bytes → before ≡ was.writes
    → IsTextStory of request before is.writes source said text → IsFileStory was is of request said text
fetched_story was is of request before source bytes said text whole input same so =
    inl (record {
      source = source;
      front = so.front;
      body = so.body;
      whole = whole;
      story = so.story;
      audit = fetched_report was is request before source bytes said so.body whole input same so.audit;
      both = so.both;
    })

pub stopped_story : (was is : Moment) (of : Named) (request : AuditRequest) (fault : FetchFault) (said : ℕ) (text : List ℕ)
    → Stops was.held was.reads is.reads (wanted request.file.now (option_copied request.input)) fault → IsStoppedReport fault said text
    → IsFileStory was is of request said text
stopped_story was is of request fault said text stops so = inr (fault, stops, so)

-- the story of an object that has the name which is asked for
pub named_story : {E : Type 0} (was is : Moment) (of : Named) (request : StoryRequest) (result : Result Sheet E)
    → object_text of.0 of.1 ≡ request.name.now → IfOk result (λ sheet. NamedTold was is of request.audit sheet.status sheet.text sheet.errors)
    → IfOk result (λ sheet. StoryTold was is request sheet.status sheet.text sheet.errors)
named_story was is of request (Ok sheet) named told = (inl (of, named, told.0), told.1)
named_story was is of request (Err e) named told = told
