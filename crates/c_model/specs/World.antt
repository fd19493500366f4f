-- What the definitions are about, and what they leave open.
use Rattle.std.specs.Prelude.{◌≡◌, ℕ, Bool, List, []}
use Rattle.ub_base.specs.declared.names.Event.{Event}
use Rattle.ub_base.specs.Frames.{Path}
use Rattle.c_types.specs.declared.library.LibFunc.{LibFunc}
use Rattle.c_types.specs.Types.{CType}
use Rattle.addr_map.specs.declared.map.Row.{Row}
use Rattle.mem_spec.specs.Script.{Script}
use Rattle.c_model.specs.Program.{Program}
use Rattle.c_model.specs.Values.{Value}

-- how many frames of functions may be open, how many bytes the created objects may count, and how many bytes of output there may be (own)
pub record Limits : Type 0 where
  pub depth : ℕ
  pub created : ℕ
  pub output : ℕ

-- those of the profile
abbrev pub profile_limits : Limits
profile_limits = record { depth = 100000; created = 67108864; output = 16777216 }

pub record World : Type 0 where
  pub program : Program
  -- where the objects stand
  pub rows : List Row
  -- whether the type of a function is compatible with that of a call (6.5.2.2p9)
  pub agree : CType → CType → Bool
  -- what a call of the library does, for its event, and the types and values of its arguments
  pub library : LibFunc → Event → List CType → List Value → Script Value
  -- a frame is known by the bodies that led to it, whatever the order; its events and objects are named by its number
  pub number : Path → ℕ
  pub limits : Limits

-- frames have numbers of their own, and `main` has 0 (own)
pub record NumbersFrames (number : Path → ℕ) : Type 0 where
  pub main : number [] ≡ 0
  pub distinct : (f g : Path) → number f ≡ number g → f ≡ g
