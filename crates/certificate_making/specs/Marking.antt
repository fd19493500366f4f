-- Which frames a certificate keeps (own): those that its rows and its claim name, and those that started them.
use Rattle.std.specs.Prelude.{ℕ, zero, suc, ◌+◌, List, [], ◌∷◌, ◌++◌, Bool, true, false, set, get_or, replicate, length, if◌then◌else◌, Option, Some, None}
use Rattle.std.specs.List.{slice_get}
use Rattle.ub_base.specs.Frames as frames
use Rattle.ub_base.specs.declared.names.Event.{Event}
use Rattle.ub_base.specs.declared.names.ObjName.{ObjName}
use Rattle.ub_base.specs.declared.names.ObjName.TheVariants.{Static, Lit, Argv, Arg, Auto, Heap}
use Rattle.addr_map.specs.declared.map.Row.{Row}
use Rattle.certificate.specs.declared.cert.Claim.{Claim}
use Rattle.certificate.specs.declared.cert.Claim.TheVariants.{Clean, Undefined, OrderDependent, OutOfSteps, Outside}

-- the frame that a name has
abbrev pub name_frames : ObjName → List ℕ
name_frames (Static k) = []
name_frames (Lit k) = []
name_frames Argv = []
name_frames (Arg k) = []
name_frames (Auto frame turn decl) = frame.0 ∷ []
name_frames (Heap frame turn node) = frame.0 ∷ []

-- those of the rows, one after the other
abbrev pub row_frames : List Row → List ℕ
row_frames [] = []
row_frames (row ∷ rows) = name_frames row.name ++ row_frames rows

abbrev pub pair_frames : Option (Event × Event) → List ℕ
pair_frames None = []
pair_frames (Some pair) = pair.0.frame.0 ∷ pair.1.frame.0 ∷ []

-- those of a claim's events
abbrev pub claim_frames : Claim → List ℕ
claim_frames (Clean status output) = []
claim_frames (Undefined clause pair) = pair_frames pair
claim_frames (OrderDependent event against) = event.frame.0 ∷ against.frame.0 ∷ []
claim_frames OutOfSteps = []
claim_frames (Outside cause number) = []

-- the frames that rows and a claim name
abbrev pub named_frames : List Row → Claim → List ℕ
named_frames rows claim = row_frames rows ++ claim_frames claim

-- ---- marks

abbrev pub is_marked : List Bool → ℕ → Bool
is_marked marks frame = get_or marks frame false

-- marks each of these frames
abbrev pub mark_all : List Bool → List ℕ → List Bool
mark_all marks [] = marks
mark_all marks (frame ∷ more) = mark_all (set marks frame true) more

-- marks the frame that started this one, if this one is marked
abbrev pub mark_starter : Option frames.Row → ℕ → List Bool → List Bool
mark_starter None frame marks = marks
mark_starter (Some row) frame marks = if is_marked marks frame then set marks row.0.0 true else marks

-- marks those that started the first n frames, from the last of them on
abbrev pub mark_starters : List frames.Row → ℕ → List Bool → List Bool
mark_starters rows zero marks = marks
mark_starters rows (suc n) marks = mark_starters rows n (mark_starter (slice_get rows n) (suc n) marks)

-- the marks of the frames that are kept, where these are named
abbrev pub kept_marks : List frames.Row → List ℕ → List Bool
kept_marks rows named = mark_starters rows (length rows) (mark_all (replicate (length rows + 1) false) named)
