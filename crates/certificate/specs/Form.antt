-- The form of a certificate (own). docs/CERTIFICATES.md says the same in words.
use Rattle.std.specs.Prelude.{◌≡◌, ◌⊎◌, ℕ, ◌+◌, ◌^◌, ◌<◌, ◌≤◌, List, [], ◌∷◌, length, All, Option, Some, None, ⊤}
use Rattle.hex.specs.Hex.{IsBytes}
use Rattle.ub_base.specs.Frames.{IsFrameList}
use Rattle.ub_base.specs.Frames as frames
use Rattle.ub_base.specs.declared.names.Event.{Event}
use Rattle.ub_base.specs.declared.names.ObjName.{ObjName}
use Rattle.ub_base.specs.declared.names.ObjName.TheVariants.{Static, Lit, Argv, Arg, Auto, Heap}
use Rattle.addr_map.specs.declared.map.Row.{Row}
use Rattle.certificate.specs.declared.cert.Cert.{Cert}
use Rattle.certificate.specs.declared.cert.Claim.{Claim}
use Rattle.certificate.specs.declared.cert.Claim.TheVariants.{Clean, Undefined, OrderDependent, OutOfSteps, Outside}
use Rattle.certificate.specs.declared.cert.Segment.{Segment}
use Rattle.certificate.specs.declared.cert.Segment.TheVariants.{Canonical, Pick}
use Rattle.certificate.specs.declared.cert.Version.{Version}
use Rattle.certificate.specs.declared.cert.Version.TheVariants.{One, Two}

-- the numbers of a frame that a body started: its turn and its node
pub record IsFrameRow (row : frames.Row) : Type 0 where
  pub turn : row.1 < 2 ^ 63
  pub node : row.2 < 2 ^ 32

-- fewer than 2^31 frames, each started from an earlier one, no two equal
pub record HasFrames (rows : List frames.Row) : Type 0 where
  pub few : length rows < 2 ^ 31
  pub sound : IsFrameList rows
  pub numbers : All IsFrameRow rows

-- the frame of the object is one of so many, and the numbers of its name keep their bounds
abbrev pub IsNameOf : ℕ → ObjName → Type 0
IsNameOf count (Static k) = k < 2 ^ 32
IsNameOf count (Lit k) = k < 2 ^ 32
IsNameOf count Argv = ⊤
IsNameOf count (Arg k) = k < 2 ^ 32
IsNameOf count (Auto frame turn k) = (frame.0 ≤ count) × (turn < 2 ^ 63) × (k < 2 ^ 32)
IsNameOf count (Heap frame turn node) = (frame.0 ≤ count) × (turn < 2 ^ 63) × (node < 2 ^ 32)

-- a row of the map, where there are so many frames beside `main`
pub record IsRowOf (count : ℕ) (row : Row) : Type 0 where
  pub name : IsNameOf count row.name
  pub base : row.base < 2 ^ 63
  pub size : row.size < 2 ^ 63
  pub align : row.align < 2 ^ 63

-- how many rows a map of this version stands for at most
abbrev pub HasFewRows : Version → List Row → Type 0
HasFewRows One rows = ⊤
HasFewRows Two rows = length rows ≤ 4194304

-- a stretch of an order: some picks of the canonical order, or one event of the top frame
abbrev pub IsSegment : Segment → Type 0
IsSegment (Canonical count) = 0 < count
IsSegment (Pick node kind) = node < 2 ^ 32

abbrev pub picks_of : Segment → ℕ
picks_of (Canonical count) = count
picks_of (Pick node kind) = 1

-- the picks of an order together
abbrev pub total_picks : List Segment → ℕ
total_picks [] = 0
total_picks (segment ∷ more) = picks_of segment + total_picks more

-- how many picks an order of this version has at most
abbrev pub most_picks : Version → ℕ
most_picks One = 10000000
most_picks Two = 100000000

-- the order is one number
abbrev pub IsOneNumber : List Segment → Type 0
IsOneNumber (Canonical count ∷ []) = ⊤
IsOneNumber _ = ⊥

-- the order is one number, but that of an undefined run, and that of a run which passes a limit may be empty
abbrev pub SuitsClaim : Claim → List Segment → Type 0
SuitsClaim (Clean status output) order = IsOneNumber order
SuitsClaim (Undefined clause pair) order = ⊤
SuitsClaim (OrderDependent event against) order = IsOneNumber order
SuitsClaim OutOfSteps order = IsOneNumber order
SuitsClaim (Outside cause number) order = (order ≡ []) ⊎ IsOneNumber order

-- an event of one of so many frames beside `main`
pub record IsEventOf (count : ℕ) (event : Event) : Type 0 where
  pub frame : event.frame.0 ≤ count
  pub turn : event.turn < 2 ^ 63
  pub node : event.node < 2 ^ 32

abbrev pub IsPairOf : ℕ → Option (Event × Event) → Type 0
IsPairOf count None = ⊤
IsPairOf count (Some pair) = IsEventOf count pair.0 × IsEventOf count pair.1

-- the parts of the claim, where there are so many frames beside `main`
abbrev pub IsClaimOf : ℕ → Claim → Type 0
IsClaimOf count (Clean status output) = status < 256
IsClaimOf count (Undefined clause pair) = IsPairOf count pair
IsClaimOf count (OrderDependent event against) = IsEventOf count event × IsEventOf count against
IsClaimOf count OutOfSteps = ⊤
IsClaimOf count (Outside cause number) = number < 2 ^ 63

-- the output of a clean run is a list of bytes
abbrev pub HasBytes : Claim → Type 0
HasBytes (Clean status output) = IsBytes output
HasBytes (Undefined clause pair) = ⊤
HasBytes (OrderDependent event against) = ⊤
HasBytes OutOfSteps = ⊤
HasBytes (Outside cause number) = ⊤

-- a certificate keeps the form of this version
pub record HasForm (version : Version) (c : Cert) : Type 0 where
  pub frames : HasFrames c.frames
  pub map : All (IsRowOf (length c.frames)) c.map
  pub few : HasFewRows version c.map
  pub segments : All IsSegment c.order
  pub picks : total_picks c.order ≤ most_picks version
  pub order : SuitsClaim c.claim c.order
  pub claim : IsClaimOf (length c.frames) c.claim

-- a certificate keeps the form of a version
abbrev pub IsInForm : Cert → Type 0
IsInForm c = HasForm One c ⊎ HasForm Two c
