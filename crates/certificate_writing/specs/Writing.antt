-- What text a certificate is written as (own): a compact JSON object in version 2, its members in the order of their names.
use Rattle.std.specs.Prelude.{◌≡◌, ◌⊎◌, ℕ, ◌<◌, ◌≤◌, List, [], ◌∷◌, map, take, drop, codes, Option, Some, None}
use Rattle.hex.specs.Hex.{encode_lower}
use Rattle.serde_json.specs.Data.{Data, number, unsigned, string, array, object, Members, no_members, member}
use Rattle.serde_json.specs.Read.{read}
use Rattle.serde_json.specs.View.{items_of}
use Rattle.serde_json.specs.Written.{compact_text}
use Rattle.ub_base.specs.Clause.{clause_text}
use Rattle.ub_base.specs.Frames as frames
use Rattle.ub_base.specs.declared.names.Event.{Event}
use Rattle.ub_base.specs.declared.names.ObjName.{ObjName}
use Rattle.ub_base.specs.declared.names.ObjName.TheVariants.{Static, Lit, Argv, Arg, Auto, Heap}
use Rattle.addr_map.specs.declared.map.Row.{Row}
use Rattle.certificate.specs.declared.cert.Cert.{Cert}
use Rattle.certificate.specs.declared.cert.Claim.{Claim}
use Rattle.certificate.specs.declared.cert.Claim.TheVariants.{Clean, Undefined, OrderDependent, OutOfSteps, Outside}
use Rattle.certificate.specs.declared.cert.Segment.{Segment}
use Rattle.certificate.specs.declared.cert.Segment.TheVariants.{Canonical, Pick}
use Rattle.certificate_text.specs.declared.row.Run.{Run}
use Rattle.certificate_text.specs.Reading.{rows_of}
use Rattle.certificate_writing.specs.Words.{kind_text, cause_text}

abbrev pub whole : ℕ → Data
whole n = number (unsigned n)

abbrev pub list : List Data → Data
list ds = array (items_of ds)

-- ---- frames and events

-- a frame's parent, turn and node
abbrev pub frame_entry : frames.Row → Data
frame_entry row = list (whole row.0.0 ∷ whole row.1 ∷ whole row.2 ∷ [])

abbrev pub event_entry : Event → Data
event_entry event = list (whole event.frame.0 ∷ whole event.turn ∷ whole event.node ∷ string (kind_text event.kind) ∷ [])

abbrev pub pair_entry : Event → Event → Data
pair_entry event against = list (event_entry event ∷ event_entry against ∷ [])

-- ---- the map

abbrev pub row_entry : Row → Data
row_entry row = row_words row.name (whole row.base ∷ whole row.size ∷ whole row.align ∷ []) where
  row_words : ObjName → List Data → Data
  row_words (Static k) place = list (string (codes "static") ∷ whole k ∷ place)
  row_words (Lit k) place = list (string (codes "lit") ∷ whole k ∷ place)
  row_words Argv place = list (string (codes "argv") ∷ place)
  row_words (Arg k) place = list (string (codes "arg") ∷ whole k ∷ place)
  row_words (Auto frame turn decl) place = list (string (codes "auto") ∷ whole frame.0 ∷ whole turn ∷ whole decl ∷ place)
  row_words (Heap frame turn node) place = list (string (codes "heap") ∷ whole frame.0 ∷ whole turn ∷ whole node ∷ place)

abbrev pub run_entry : Run → Data
run_entry run = list (string (codes "run") ∷ whole run.count ∷ whole run.stride.step ∷ whole run.stride.raise ∷ row_entry run.first ∷ [])

-- the moving number of a name: that of a static object, a literal or an argument, and the turn of the others
abbrev pub moving : ObjName → ℕ
moving (Static k) = k
moving (Lit k) = k
moving Argv = 0
moving (Arg k) = k
moving (Auto frame turn decl) = turn
moving (Heap frame turn node) = turn

-- the run, which has bases that differ, stands for the rows with which these begin
pub record BeginsWith (rows : List Row) (run : Run) : Type 0 where
  pub apart : 0 < run.stride.step
  pub stands : rows_of run ≡ Some (take run.count rows)

-- no run stands for more of the rows with which these begin
pub record IsLongest (rows : List Row) (run : Run) : Type 0 where
  pub begins : BeginsWith rows run
  pub longest : (other : Run) → BeginsWith rows other → other.count ≤ run.count

-- the first row alone, since no run stands for it and two rows behind it
pub record IsAlone (rows rest : List Row) (entry : Data) : Type 0 where
  pub first : Row
  pub here : rows ≡ first ∷ rest
  pub written : entry ≡ row_entry first
  pub short : (run : Run) → BeginsWith rows run → run.count < 3

-- the longest run, of at least three rows
pub record IsRun (rows rest : List Row) (entry : Data) : Type 0 where
  pub run : Run
  pub longest : IsLongest rows run
  pub three : 3 ≤ run.count
  pub written : entry ≡ run_entry run
  pub behind : rest ≡ drop run.count rows

-- The entries of rows: from the first row on, the longest stretch of rows that one run stands for, where it has at least
-- three, and otherwise the first row alone.
abbrev pub Packs : List Row → List Data → Type 0
Packs rows [] = rows ≡ []
Packs rows (entry ∷ entries) = (rest : List Row) × (IsAlone rows rest entry ⊎ IsRun rows rest entry) × Packs rest entries

-- ---- the order

abbrev pub segment_entry : Segment → Data
segment_entry (Canonical count) = whole count
segment_entry (Pick node kind) = list (whole node ∷ string (kind_text kind) ∷ [])

-- ---- the whole

abbrev pub pair_list : Option (Event × Event) → Data
pair_list None = list []
pair_list (Some pair) = pair_entry pair.0 pair.1

-- the verdict and the version, which are the last members
abbrev pub ending : List ℕ → Members
ending verdict = member (codes "verdict") (string verdict) (member (codes "version") (whole 2) no_members)

-- the members, with the frames, the map and the order
abbrev pub members : Claim → Data → Data → Data → Members
members (Clean status output) frames map order =
    member (codes "frames") frames (member (codes "map") map (member (codes "order") order
    (member (codes "output") (string (encode_lower output)) (member (codes "status") (whole status) (ending (codes "clean"))))))
members (Undefined clause pair) frames map order =
    member (codes "clause") (string (clause_text clause)) (member (codes "frames") frames (member (codes "map") map (member (codes "order") order
    (member (codes "pair") (pair_list pair) (ending (codes "undefined"))))))
members (OrderDependent event against) frames map order =
    member (codes "frames") frames (member (codes "map") map (member (codes "order") order
    (member (codes "pair") (pair_entry event against) (ending (codes "order-dependent")))))
members OutOfSteps frames map order =
    member (codes "frames") frames (member (codes "map") map (member (codes "order") order (ending (codes "out-of-steps"))))
members (Outside cause limit) frames map order =
    member (codes "cause") (string (cause_text cause)) (member (codes "frames") frames (member (codes "map") map (member (codes "number") (whole limit)
    (member (codes "order") order (ending (codes "outside"))))))

-- the value of a certificate whose map has these entries
abbrev pub value_of : Cert → List Data → Data
value_of c entries = object (members c.claim (list (map frame_entry c.frames)) (list entries) (list (map segment_entry c.order)))

-- the text of a certificate, which is read as its value
pub record IsTextOf (c : Cert) (text : List ℕ) : Type 0 where
  pub entries : List Data
  pub packs : Packs c.map entries
  pub compact : text ≡ compact_text (value_of c entries)
  pub reads : read text ≡ Some (value_of c entries)
