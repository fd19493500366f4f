-- Picks that change places: of any program, address map, frame and store, whether or not the run goes on to an end (own).
use Rattle.std.specs.Prelude.{◌≡◌, ◌≢◌, ℕ, true, false, Some, None, is_some, List}
use Rattle.ub_base.specs.declared.clause.Kind.TheVariants.{Val, Eff}
use Rattle.ub_base.specs.declared.names.Item.{Item}
use Rattle.addr_map.specs.Conflict.{some_conflict}
use Rattle.c_typed.specs.declared.tree.Place.{Place}
use Rattle.c_typed.specs.Order.{place, is_body}
use Rattle.mem_spec.specs.Store.{Store}
use Rattle.c_model.specs.Program.{tree_of}
use Rattle.c_model.specs.Values.{Value}
use Rattle.c_model.specs.World.{World}
use Rattle.c_model.specs.Steps.{Local, Begun, Pick, Ev, MayPick}
use Rattle.c_model.specs.ChoiceLaws.{IsClosed, update_at}
use Rattle.c_model.specs.ModelMachine.{half}
use Rattle.c_model.specs.Machine.{Machine, Evaluation, act, value, its, Does, Made}
use Rattle.order_laws.specs.FrameEnds.{program_machine}
use Rattle.order_laws.specs.StoreParts.{Part, Seen, Fact, store_parts}
use Rattle.order_laws.specs.Asking.{LibraryAsked}

module _ (world : World) where
  -- the program's frames, which know their depth
  abbrev pub frames : Machine (Local × ℕ) Pick Value Store Item Part Seen Fact
  frames = program_machine world (store_parts world.rows)

  -- no two of the items conflict, as findings tell conflicts
  abbrev pub NoConflict : List Item → List Item → Type 0
  NoConflict is js = some_conflict world.rows is js ≡ false

  abbrev pub IsReady : Local × ℕ → Pick → Type 0
  IsReady f p = frames.ready f p ≡ true

  -- the frame behind a pick with this value
  abbrev pub behind : Local × ℕ → Pick → Value → Local × ℕ
  behind f p v = frames.next f p v

  -- two steps of two frames do the same in the other order, and leave one store
  abbrev pub FramesSwap : Type 0
  FramesSwap =
      (f g : Local × ℕ) (p q : Pick) (v w : Value) (is js : List Item) (s s1 s2 : Store)
      → Does frames f p s v is s1 → Does frames g q s1 w js s2 → NoConflict is js
      → (t : Store) × Does frames g q s w js t × Does frames f p t v is s2

  -- two steps of one frame that are ready at once do the same in the other order, and leave one store and frame
  abbrev pub StepsSwap : Type 0
  StepsSwap =
      (f : Local × ℕ) (p q : Pick) (v w : Value) (is js : List Item) (s s1 s2 : Store) → IsReady f p → IsReady f q → p ≢ q
      → Does frames f p s v is s1 → Does frames (behind f p v) q s1 w js s2 → NoConflict is js
      → (t : Store) × Does frames f q s w js t × Does frames (behind f q w) p t v is s2
      × (behind (behind f p v) q w ≡ behind (behind f q w) p v)

  -- two evaluations of one frame, each a step or a whole body with the picks of its frames, do the same in the other order
  abbrev pub EvaluationsSwap : Type 0
  EvaluationsSwap =
      (f : Local × ℕ) (p q : Pick) (b c : Evaluation Pick Value Item) (s s1 s2 : Store) → IsReady f p → IsReady f q → p ≢ q
      → Made frames b f p s s1 → Made frames c (behind f p (value b)) q s1 s2 → NoConflict (its b) (its c)
      → (t : Store) × Made frames c f q s t × Made frames b (behind f q (value c)) p t s2
      × (behind (behind f p (value b)) q (value c) ≡ behind (behind f q (value c)) p (value b))

  -- an evaluation that comes before both halves of an update does the same behind them, and may start there if it might before
  abbrev pub UpdateFirst : Type 0
  UpdateFirst =
      (f : Local × ℕ) (p q : Pick) (b : Evaluation Pick Value Item) (v w : Value) (is js : List Item) (s s1 s2 s3 : Store)
      → IsReady f p → IsReady f q → p ≢ q → frames.opens f q ≡ true
      → Made frames b f p s s1 → Made frames (act v is) (behind f p (value b)) q s1 s2
      → Made frames (act w js) (behind (behind f p (value b)) q v) (half q) s2 s3 → NoConflict (its b) is → NoConflict (its b) js
      → (t1 t2 : Store) × Made frames (act v is) f q s t1 × Made frames (act w js) (behind f q v) (half q) t1 t2
      × Made frames b (behind (behind f q v) (half q) w) p t2 s3
      × (behind (behind (behind f p (value b)) q v) (half q) w ≡ behind (behind (behind f q v) (half q) w) p (value b))
      × (frames.may_start f p ≡ true → frames.may_start (behind (behind f q v) (half q) w) p ≡ true)

  -- and between the two halves no body may start, at any state of a run
  abbrev pub NoneBetween : Type 0
  NoneBetween =
      (f : Local) (e : Begun) (u : Place) (m : ℕ) → IsClosed world f.scene e → update_at 0 (tree_of e.root) m ≡ true
      → is_some (e.given (place m Val)) ≡ true → e.given (place m Eff) ≡ None → is_body u.kind ≡ true → MayPick world f (Some e) (Ev u) → ⊥

-- So it is for every program whose library's scripts ask for the life of what they access.
abbrev pub TwoFramesSwap : Type 0
TwoFramesSwap = (world : World) → LibraryAsked world → FramesSwap world

abbrev pub TwoStepsSwap : Type 0
TwoStepsSwap = (world : World) → LibraryAsked world → StepsSwap world

abbrev pub BodyPasses : Type 0
BodyPasses = (world : World) → LibraryAsked world → EvaluationsSwap world

abbrev pub UpdatePasses : Type 0
UpdatePasses = (world : World) → LibraryAsked world → UpdateFirst world

abbrev pub UpdateIsWhole : Type 0
UpdateIsWhole = (world : World) → NoneBetween world
