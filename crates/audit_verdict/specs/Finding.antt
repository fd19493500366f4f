-- The report of a finding (own).
use Rattle.std.specs.Prelude.{◌≡◌, ℕ, ◌≤◌, List, [], ◌++◌, length, codes, decimal, Option, Some, None}
use Rattle.ub_base.specs.Clause.{clause_text}
use Rattle.ub_base.specs.Frames.{Row}
use Rattle.ub_base.specs.declared.clause.Cause.{Cause}
use Rattle.ub_base.specs.declared.clause.Cause.TheVariants.{Output as OutputCause, Created, Depth, Conversion, Directive}
use Rattle.ub_base.specs.declared.clause.Clause.{Clause}
use Rattle.ub_base.specs.declared.names.Event.{Event}
use Rattle.ub_base.specs.declared.names.Item.{Item}
use Rattle.ub_base.specs.declared.names.Item.TheVariants.{Read, Write, Born, Dies, Alive, Expose, Lookup, Narrow, Input, Output, Ending, Any}
use Rattle.ub_base.specs.declared.names.ObjName.{ObjName}
use Rattle.c_names.specs.Texts.{event_text, object_text}
use Rattle.footprint_run.specs.Findings.{picks_of, IsOutOfSteps, ItemsConflict}
use Rattle.footprint_run.specs.declared.finding.Finding.{Finding}
use Rattle.footprint_run.specs.declared.finding.Finding.TheVariants.{Clean, Undefined, OrderDependent, OutOfSteps, Outside}
use Rattle.footprint_run.specs.declared.finding.Race.{Race}

-- words, an event and its line
abbrev pub event_line : List ℕ → List Row → Event × ℕ → List ℕ
event_line words frames place = words ++ (event_text frames place.0 ++ (codes " line " ++ (decimal place.1 ++ codes "\n")))

abbrev pub byte_text : List ℕ → List Row → ObjName × ℕ → List ℕ
byte_text words frames place = words ++ (object_text frames place.0 ++ (codes " byte " ++ decimal place.1))

abbrev pub item_text : List Row → Item → List ℕ
item_text frames (Read object from len) = byte_text (codes "read ") frames (object, from)
item_text frames (Write object from len) = byte_text (codes "write ") frames (object, from)
item_text frames (Born object) = codes "born " ++ object_text frames object
item_text frames (Dies object) = codes "dies " ++ object_text frames object
item_text frames (Alive object) = codes "alive " ++ object_text frames object
item_text frames (Expose object) = codes "expose " ++ object_text frames object
item_text frames (Lookup address) = codes "lookup " ++ decimal address
item_text frames (Narrow id keep) = codes "narrow " ++ (event_text frames id ++ (codes " to " ++ object_text frames keep))
item_text frames Input = codes "in"
item_text frames Output = codes "out"
item_text frames Ending = codes "end"
item_text frames Any = codes "any"

abbrev pub item_line : List Row → Item → List ℕ
item_line frames item = codes "item " ++ (item_text frames item ++ codes "\n")

-- the other event of a pair, and the two items that conflict
abbrev pub against_text : List Row → Race → List ℕ
against_text frames race =
    event_line (codes "against ") frames (race.against, race.against_line) ++ (item_line frames race.items.0 ++ item_line frames race.items.1)

abbrev pub race_text : List Row → Option Race → List ℕ
race_text frames None = []
race_text frames (Some race) = against_text frames race

abbrev pub order_text : ℕ → List ℕ
order_text picks = codes "order canonical " ++ (decimal picks ++ codes "\n")

abbrev pub clean_text : ℕ → List ℕ → List ℕ
clean_text status output =
    codes "clean\nexit " ++ (decimal status ++ (codes "\noutput " ++ (decimal (length output) ++ (codes "\n" ++ output))))

abbrev pub cause_text : Cause → List ℕ
cause_text OutputCause = codes "output"
cause_text Created = codes "created"
cause_text Depth = codes "depth"
cause_text Conversion = codes "conversion"
cause_text Directive = codes "directive"

-- The report of a finding: with the frames of the run, its output, and the most steps that it was given.
abbrev pub finding_report : List Row → List ℕ → ℕ → Finding → List ℕ
finding_report frames output steps (Clean status picks) = clean_text status output
finding_report frames output steps (Undefined clause event line race picks) =
    codes "undefined " ++ (clause_text clause ++ (event_line (codes "\nevent ") frames (event, line) ++ (race_text frames race ++ order_text picks)))
finding_report frames output steps (OrderDependent event line against against_line items picks) =
    event_line (codes "order-dependent\nevent ") frames (event, line)
    ++ (against_text frames (record { against = against; against_line = against_line; items = items }) ++ order_text picks)
finding_report frames output steps (OutOfSteps picks) = codes "out of steps " ++ (decimal steps ++ codes "\n")
finding_report frames output steps (Outside cause number picks) =
    codes "outside " ++ (cause_text cause ++ (codes " " ++ (decimal number ++ codes "\n")))

abbrev pub finding_status : Finding → ℕ
finding_status (Clean status picks) = 0
finding_status (Undefined clause event line race picks) = 1
finding_status (OrderDependent event line against against_line items picks) = 2
finding_status (OutOfSteps picks) = 3
finding_status (Outside cause number picks) = 4

-- the status and the report are those of a finding that takes at most so many steps, and out of steps only after all of them
pub record IsFound (steps s : ℕ) (bytes : List ℕ) : Type 0 where
  pub finding : Finding
  pub frames : List Row
  pub output : List ℕ
  pub status : s ≡ finding_status finding
  pub report : bytes ≡ finding_report frames output steps finding
  pub within : picks_of finding ≤ steps
  pub out_of_steps : IsOutOfSteps finding → picks_of finding ≡ steps
  pub items : ItemsConflict finding
