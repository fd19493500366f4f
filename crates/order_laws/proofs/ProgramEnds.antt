-- The frames of a program keep the laws of picks that end the run.
use Rattle.std.proofs.Common.{◌≡◌, ℕ, Bool, true, false, List, Option, Some, None, refl}
use Rattle.ub_base.specs.declared.names.Item.{Item}
use Rattle.addr_map.specs.declared.map.Row.{Row}
use Rattle.mem_spec.specs.Store.{Store}
use Rattle.mem_spec.specs.Script.{Script, Give, Raise, Finish, Exceed, Misplace, Do, Act, Done, Raised, Ended, Outside, Unplaced, run}
use Rattle.c_model.specs.World.{World}
use Rattle.c_model.specs.Values.{Value}
use Rattle.c_model.specs.Moves.{Move, Stay, Start, End}
use Rattle.c_model.specs.Steps.{Local, Begun, Pick, Control, Ev, does, move}
use Rattle.c_model.specs.ModelMachine.{StorePart, done_by, gives, start_where, opens_in, half, frame_machine}
use Rattle.machine_laws.specs.Orders.{Stopped}
use Rattle.machine_laws.specs.EveryOrder.{EndLaws}
use Rattle.order_laws.specs.FrameEnds.{ended_by, frame_ends}
use Rattle.order_laws.proofs.NoEnd.{no_end_run, does_goes_on, effect_stays}

not_done : (a : Act Value) (e : Stopped ℕ Store Item) → ended_by a ≡ Some e → done_by a ≡ None
not_done (Done v is s) e h = absurd (cc)
not_done (Raised c) e h = refl
not_done (Ended n is s) e h = refl
not_done (Outside c n) e h = refl
not_done Unplaced e h = refl

ended_so : (a : Act Value) (e : Stopped ℕ Store Item) → ended_by a ≡ Some e → ((n : ℕ) (is : List Item) (s : Store) → a ≡ Ended n is s → ⊥) → ⊥
ended_so (Done v is s) e h k = cc
ended_so (Raised c) e h k = cc
ended_so (Ended n is s) e h k = k n is s refl
ended_so (Outside c n) e h k = cc
ended_so Unplaced e h k = cc

-- a body that starts a frame gives a value at once
not_started : (rows : List Row) (x : Script Value) (mv : Move Local) (s : Store) (g : Local) (e : Stopped ℕ Store Item) → ended_by (run rows x s) ≡ Some e
    → start_where (gives x) mv ≡ Start g → ⊥
not_started rows (Give v) mv s g e h k = cc
not_started rows (Raise c) mv s g e h k = cc
not_started rows (Exceed c n) mv s g e h k = cc
not_started rows Misplace mv s g e h k = cc
not_started rows (Finish n) mv s g e h k = stays mv k
  where
    stays : (mv : Move Local) → start_where false mv ≡ Start g → ⊥
    stays Stay k = cc
    stays (Start f) k = cc
    stays End k = cc
not_started rows (Do t f) mv s g e h k = stays mv k
  where
    stays : (mv : Move Local) → start_where false mv ≡ Start g → ⊥
    stays Stay k = cc
    stays (Start f) k = cc
    stays End k = cc

stays_where : (b : Bool) (mv : Move Local) (g : Local) → mv ≡ Stay → start_where b mv ≡ Start g → ⊥
stays_where true Stay g e k = cc
stays_where false Stay g e k = cc
stays_where b (Start f) g e k = cc
stays_where b End g e k = cc

module _ {Part Seen Fact : Type 0} (world : World) (parts : StorePart Part Seen Fact) where
  abbrev act_at : Local → Pick → Script Value
  act_at f p = does world f f.begun p

  half_of : (b : Option Begun) (g : Local) (q : Pick) (s : Store) (e : Stopped ℕ Store Item) → opens_in b q ≡ true
      → ended_by (run world.rows (act_at g (half q)) s) ≡ Some e → ⊥
  half_of None g Control s e o h = cc
  half_of (Some b) g Control s e o h = cc
  half_of b g (Ev u) s e o h =
      ended_so (run world.rows (act_at g (half (Ev u))) s) e h (λ n is s1. no_end_run world.rows (act_at g (half (Ev u))) s
      (does_goes_on world g g.begun u.node) n is s1)

  half_moves : (b : Option Begun) (g h : Local) (q : Pick) → opens_in b q ≡ true
      → start_where (gives (act_at g (half q))) (move world g g.begun (half q)) ≡ Start h → ⊥
  half_moves None g h Control o e = cc
  half_moves (Some b) g h Control o e = cc
  half_moves b g h (Ev u) o e =
      stays_where (gives (act_at g (half (Ev u)))) (move world g g.begun (half (Ev u))) h (effect_stays world g g.begun u.node) e

  pub end_laws : EndLaws (frame_machine world parts) (frame_ends world)
  end_laws = record {
    gives_none = λ f q s n is s1 e. not_done (run world.rows (act_at f q) s) (record { number = n; items = is; store = s1 }) e;
    starts_none = λ f g q s n is s1 e mv. not_started world.rows (act_at f q) (move world f f.begun q) s g (record { number = n; items = is; store = s1 }) e
        mv;
    half_goes_on = λ f g q s n is s1 o e. half_of f.begun g q s (record { number = n; items = is; store = s1 }) o e;
    half_stays = λ f g h q o mv. half_moves f.begun g h q o mv;
  }
