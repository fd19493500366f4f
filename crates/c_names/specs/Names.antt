-- What events and objects are called, whatever the numbers of their frames (own).
use Rattle.std.specs.Prelude.{ℕ, List, length, ◌<◌, ◌^◌, ⊤}
use Rattle.std.specs.List.{AllByRecursion}
use Rattle.ub_base.specs.declared.clause.Kind.{Kind}
use Rattle.ub_base.specs.declared.names.Event.{Event}
use Rattle.ub_base.specs.declared.names.ObjName.{ObjName}
use Rattle.ub_base.specs.declared.names.ObjName.TheVariants.{Static, Lit, Argv, Arg, Auto, Heap}
use Rattle.ub_base.specs.Frames.{Row, Path, path_of}

-- an event: the path of its frame, the turn, the node and the part of its evaluation
pub record EventName : Type 0 where
  pub frame : Path
  pub turn : ℕ
  pub node : ℕ
  pub kind : Kind

-- an object: with static storage, a literal, `argv`, one of its strings, of a block that a turn entered, or allocated
pub data ObjectName : Type 0 where
  StaticName : ℕ → ObjectName
  LitName : ℕ → ObjectName
  ArgvName : ObjectName
  ArgName : ℕ → ObjectName
  AutoName : (frame : Path) (turn decl : ℕ) → ObjectName
  HeapName : (frame : Path) (turn node : ℕ) → ObjectName

-- the numbers of a step are within their bounds
abbrev pub IsStep : ℕ × ℕ → Type 0
IsStep s = (s.0 < 2 ^ 64) × (s.1 < 2 ^ 32)

abbrev pub HasSteps : Path → Type 0
HasSteps path = AllByRecursion IsStep path

-- a frame has fewer than 2^31 steps
pub record IsFrame (path : Path) : Type 0 where
  pub few : length path < 2 ^ 31
  pub steps : HasSteps path

-- what stands in a frame at a turn below 2^64, and has a number below 2^32
pub record IsPlace (path : Path) (turn number : ℕ) : Type 0 where
  pub frame : IsFrame path
  pub turn_fits : turn < 2 ^ 64
  pub number_fits : number < 2 ^ 32

abbrev pub IsEvent : EventName → Type 0
IsEvent e = IsPlace e.frame e.turn e.node

abbrev pub IsObject : ObjectName → Type 0
IsObject (StaticName k) = k < 2 ^ 32
IsObject (LitName k) = k < 2 ^ 32
IsObject ArgvName = ⊤
IsObject (ArgName k) = k < 2 ^ 32
IsObject (AutoName f turn k) = IsPlace f turn k
IsObject (HeapName f turn node) = IsPlace f turn node

-- the name of an event whose frame is a number in a list of frames
abbrev pub event_name : List Row → Event → EventName
event_name rows e = record { frame = path_of rows e.frame.0; turn = e.turn; node = e.node; kind = e.kind }

abbrev pub object_name : List Row → ObjName → ObjectName
object_name rows (Static k) = StaticName k
object_name rows (Lit k) = LitName k
object_name rows Argv = ArgvName
object_name rows (Arg k) = ArgName k
object_name rows (Auto f turn k) = AutoName (path_of rows f.0) turn k
object_name rows (Heap f turn node) = HeapName (path_of rows f.0) turn node
