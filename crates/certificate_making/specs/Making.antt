-- What the certificate of an audit keeps of its run (own). Frames get new numbers; all else stays.
use Rattle.std.specs.Prelude.{◌≡◌, ℕ, zero, suc, ◌+◌, ◌^◌, ◌<◌, ◌≤◌, List, [], ◌∷◌, length, map as map_list, All, Contains, slice_get, Option, Some, None, ⊤}
use Rattle.ub_base.specs.Frames.{path_of}
use Rattle.ub_base.specs.Frames as frames
use Rattle.ub_base.specs.declared.names.Event.{Event}
use Rattle.ub_base.specs.declared.names.Frame.{Frame}
use Rattle.ub_base.specs.declared.names.ObjName.{ObjName}
use Rattle.ub_base.specs.declared.names.ObjName.TheVariants.{Static, Lit, Argv, Arg, Auto, Heap}
use Rattle.addr_map.specs.declared.map.Row.{Row}
use Rattle.certificate.specs.declared.cert.Cert.{Cert}
use Rattle.certificate.specs.declared.cert.Claim.{Claim}
use Rattle.certificate.specs.declared.cert.Claim.TheVariants.{Clean, Undefined, OrderDependent, OutOfSteps, Outside}
use Rattle.certificate.specs.declared.cert.Segment.{Segment}
use Rattle.certificate.specs.declared.cert.Segment.TheVariants.{Canonical}
use Rattle.certificate_making.specs.Marking.{named_frames}

-- so many picks of the canonical order: one stretch, and none for no pick
abbrev pub canonical_order : ℕ → List Segment
canonical_order zero = []
canonical_order (suc picks) = Canonical (suc picks) ∷ []

-- the same event, whatever the number of its frame
pub record SameEvent (old new : Event) : Type 0 where
  pub turn : new.turn ≡ old.turn
  pub node : new.node ≡ old.node
  pub kind : new.kind ≡ old.kind

abbrev pub SamePair : Option (Event × Event) → Option (Event × Event) → Type 0
SamePair None None = ⊤
SamePair None (Some new) = ⊥
SamePair (Some old) None = ⊥
SamePair (Some old) (Some new) = SameEvent old.0 new.0 × SameEvent old.1 new.1

-- the same claim, whatever the numbers of its frames
abbrev pub SameClaim : Claim → Claim → Type 0
SameClaim (Clean status output) claim = claim ≡ Clean status output
SameClaim (Undefined clause pair) (Undefined new_clause new_pair) = (new_clause ≡ clause) × SamePair pair new_pair
SameClaim (Undefined clause pair) claim = ⊥
SameClaim (OrderDependent event against) (OrderDependent new_event new_against) = SameEvent event new_event × SameEvent against new_against
SameClaim (OrderDependent event against) claim = ⊥
SameClaim OutOfSteps claim = claim ≡ OutOfSteps
SameClaim (Outside cause number) claim = claim ≡ Outside cause number

abbrev pub main : Frame
main = record { 0 = 0 }

-- the row, but for the number of the frame in its name
abbrev pub unframed_name : ObjName → ObjName
unframed_name (Static k) = Static k
unframed_name (Lit k) = Lit k
unframed_name Argv = Argv
unframed_name (Arg k) = Arg k
unframed_name (Auto frame turn decl) = Auto main turn decl
unframed_name (Heap frame turn node) = Heap main turn node

abbrev pub unframed : Row → Row
unframed row = record row { name = unframed_name row.name }

-- from n on, each row begins behind the one before it, as the rows of an address map do
abbrev pub Rises : ℕ → List Row → Type 0
Rises n [] = ⊤
Rises n (row ∷ rows) = (n ≤ row.base) × (row.base < 2 ^ 47) × Rises (row.base + 1) rows

-- ---- frames

-- what a run hands on: rows in the order of their bases, and rows and a claim that name frames of the run
pub record IsOfRun (rows : List frames.Row) (map : List Row) (claim : Claim) : Type 0 where
  pub rises : Rises 0 map
  pub started : All (λ f. f ≤ length rows) (named_frames map claim)

-- rows and the claim name the same frames, one after the other: the bodies that lead to them are the same
abbrev pub KeepsPaths : List frames.Row → List Row → Claim → Cert → Type 0
KeepsPaths rows map claim c = map_list (path_of c.frames) (named_frames c.map c.claim) ≡ map_list (path_of rows) (named_frames map claim)

-- a frame is needed: it is named, or it started a needed one
pub data Needed (rows : List frames.Row) (named : List ℕ) : ℕ → Type 0 where
  is_named : (f : ℕ) → Contains named f → Needed rows named f
  started : (i : ℕ) (row : frames.Row) → slice_get rows i ≡ Some row → Needed rows named (suc i) → Needed rows named row.0.0

-- each frame of the certificate is needed
abbrev pub HasNeeded : Cert → Type 0
HasNeeded c = (i : ℕ) → i < length c.frames → Needed c.frames (named_frames c.map c.claim) (suc i)

-- the certificate with every frame of the run
abbrev pub whole : List frames.Row → List Row → ℕ → Claim → Cert
whole rows map picks claim = record { frames = rows; map = map; order = canonical_order picks; claim = claim }
