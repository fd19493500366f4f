-- The parts into which a name's text falls: what its readers take from the front.
use Rattle.std.specs.Prelude.{◌≡◌, ◌≢◌, ◌<◌, ◌^◌, ℕ, List, [], ◌∷◌, ◌++◌, codes, decimal, ⊤}
use Rattle.ub_base.specs.declared.clause.Kind.{Kind}
use Rattle.ub_base.specs.Frames.{Path}
use Rattle.c_names.specs.Names.{IsStep, HasSteps, IsFrame, IsPlace}
use Rattle.c_names.specs.Texts.{step_text, frame_text, numbers_text, kind_text}

-- the byte isn't in the list
abbrev pub Lacks : ℕ → List ℕ → Type 0
Lacks b [] = ⊤
Lacks b (x ∷ xs) = (x ≢ b) × Lacks b xs

-- the list is empty or begins with the byte
abbrev pub AtByte : ℕ → List ℕ → Type 0
AtByte b [] = ⊤
AtByte b (x ∷ xs) = x ≡ b

-- no number below the bound has this text
abbrev pub IsNoNumber : ℕ → List ℕ → Type 0
IsNoNumber bound text = (n : ℕ) → n < bound → decimal n ≢ text

-- no number below the bound and a space begin this text
abbrev pub BeginsWithNoNumber : ℕ → List ℕ → Type 0
BeginsWithNoNumber bound text = (n : ℕ) (rest : List ℕ) → n < bound → decimal n ++ (codes " " ++ rest) ≢ text

abbrev pub IsNoKind : List ℕ → Type 0
IsNoKind text = (k : Kind) → kind_text k ≢ text

-- steps, the oldest first
abbrev pub steps_text : List (ℕ × ℕ) → List ℕ
steps_text [] = []
steps_text (s ∷ more) = step_text s ++ steps_text more

-- no step begins this text, before its end or another step
abbrev pub BeginsWithNoStep : List ℕ → Type 0
BeginsWithNoStep text = (s : ℕ × ℕ) (rest : List ℕ) → IsStep s → AtByte 47 rest → step_text s ++ rest ≢ text

-- no path has this text
abbrev pub IsNoPathText : List ℕ → Type 0
IsNoPathText text = (path : Path) → HasSteps path → frame_text path ≢ text

abbrev pub IsNoFrameText : List ℕ → Type 0
IsNoFrameText text = (path : Path) → IsFrame path → frame_text path ≢ text

-- a text without spaces, two numbers and a kind
abbrev pub event_of : List ℕ → ℕ → ℕ → Kind → List ℕ
event_of frame turn node kind = frame ++ (numbers_text turn node ++ (codes " " ++ kind_text kind))

pub record FallsIntoEvent (text frame : List ℕ) (turn node : ℕ) (kind : Kind) : Type 0 where
  pub whole : event_of frame turn node kind ≡ text
  pub lacks : Lacks 32 frame
  pub turn_fits : turn < 2 ^ 64
  pub node_fits : node < 2 ^ 32

abbrev pub IsNoEventOf : List ℕ → Type 0
IsNoEventOf text = (frame : List ℕ) (turn node : ℕ) (kind : Kind) → Lacks 32 frame → turn < 2 ^ 64 → node < 2 ^ 32 → event_of frame turn node kind ≢ text

-- a text without spaces and two numbers
pub record FallsIntoPlace (text frame : List ℕ) (turn number : ℕ) : Type 0 where
  pub whole : frame ++ numbers_text turn number ≡ text
  pub lacks : Lacks 32 frame
  pub turn_fits : turn < 2 ^ 64
  pub number_fits : number < 2 ^ 32

abbrev pub IsNoPlaceOf : List ℕ → Type 0
IsNoPlaceOf text = (frame : List ℕ) (turn number : ℕ) → Lacks 32 frame → turn < 2 ^ 64 → number < 2 ^ 32 → frame ++ numbers_text turn number ≢ text

-- no place in a frame has this text
abbrev pub IsNoPlaceText : List ℕ → Type 0
IsNoPlaceText text = (frame : Path) (turn number : ℕ) → IsPlace frame turn number → frame_text frame ++ numbers_text turn number ≢ text
