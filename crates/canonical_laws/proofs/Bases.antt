-- The rooms of a machine that is going have places below 2^64: each frame below has fewer than 2^32, and fewer than 2^32 - 1 frames are held.
use Rattle.std.proofs.Common.{arith, ◌≡◌, ◌+◌, ◌-◌, ◌*◌, ◌^◌, ◌<◌, ◌≤◌, ℕ, suc, List, [], ◌∷◌, length, map, reverse, Option, Some, None, refl}
use Rattle.c_typed.specs.declared.program.Program.{Program}
use Rattle.c_typed.specs.declared.tree.Place.{Place}
use Rattle.c_model.specs.Runs.{State}
use Rattle.c_model.specs.Steps.{Begun, Local}
use Rattle.c_model.specs.World.{World}
use Rattle.run_control.specs.View.{Meaning}
use Rattle.run_statements.specs.declared.numbers.Numbers.{Numbers}
use Rattle.run_state.specs.declared.machine.Machine.{Machine}
use Rattle.run_state.specs.declared.machine.Open.{Open}
use Rattle.run_state.specs.declared.machine.Stage.{Stage}
use Rattle.run_state.specs.Stands.{IsAbove, StandsBegun}
use Rattle.run_laws.specs.Calls.{HasPlaces}
use Rattle.run_laws.specs.Frames.{IsOneOf, KeepsFrame}
use Rattle.run_laws.specs.Going.{IsGoing}
use Rattle.run_laws.specs.SetUp.{IsItsCode}
use Rattle.control_laws.proofs.Held.{HeldFrame, HeldFrames, with_waiting}
use Rattle.control_laws.proofs.Laws.{Laws}
use Rattle.control_laws.proofs.Rooms.{lays_out}
use Rattle.control_laws.proofs.Top as top

module _ (laws : Laws) (world : World) (p : Program) (meaning : Option ℕ → Meaning) (m : Machine) (n : ℕ) (numbers : Numbers)
    (code : IsItsCode p numbers m.image.code.now) where
  -- a frame that is held has fewer than 2^32 rooms
  rooms_in : (o : Open) (os : List Open) (h : Local × Place) (hs : List (Local × Place)) (k : HeldFrame world p meaning m n o os h hs) (stage : Option Stage)
      (b : Option Begun) → IsOneOf k.code.sees.code.expressions stage → StandsBegun world (meaning o.function) m (length os) o stage h.0.scene b (Some h.1)
      → o.rooms < 2 ^ 32
  rooms_in o os h hs k None None own x = absurd (cc (x))
  rooms_in o os h hs k None (Some e) own x = absurd x
  rooms_in o os h hs k (Some s) None own x = absurd x
  rooms_in o os h hs k (Some s) (Some e) own x =
      let few = (lays_out laws world p m o h.0 hs k.code code.expressions s.expression x.laid own x.at).lays.rooms.few in
      let rooms = x.rooms in
      omega (arith, few, rooms)

  -- so a frame's rooms begin behind fewer than 2^32 for each frame below
  bases : (o : Open) (f : Local) (os : List Open) (hs : List (Local × Place)) → (os ≡ [] → o.base ≡ 0) → IsAbove o f os (map with_waiting hs)
      → HeldFrames world p meaning m n os hs → o.base ≤ length hs * (2 ^ 32 - 1)
  bases o f [] [] lowest above k = let none = lowest refl in omega (arith, none)
  bases o f [] (h ∷ hs) lowest above k = absurd k
  bases o f (q ∷ os) [] lowest above k = absurd k
  bases o f (q ∷ os) (h ∷ hs) lowest above k =
      let below = bases q h.0 os hs k.0.keeps.lowest k.0.above k.1 in
      let rooms = rooms_in q os h hs k.0 q.stage h.0.begun k.0.code.sees.own k.0.stands.begun in
      let base = above.rooms in
      omega (arith, below, rooms, base)

module _ (laws : Laws) (world : World) (p : Program) (numbers : Numbers) (m : Machine) (st : State) (n : ℕ) (g : IsGoing world p numbers m st n) where
  pub has_places : length st.held ≤ n → suc n < 2 ^ 32 → HasPlaces m
  has_places held few =
      let base =
      bases laws world p (top.meaning laws world p numbers m st n g) m n numbers g.set_up.code m.top st.top (reverse m.below.items) st.held
      g.frames.0.lowest g.stands.frames.1 (top.held laws world p numbers m st n g) in
      omega (arith, base, held, few)
