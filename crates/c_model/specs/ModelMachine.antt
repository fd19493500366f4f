-- The frames of a program as a machine, whatever is looked at in the store (own).
use Rattle.std.specs.Prelude.{◌≡◌, ℕ, ◌+◌, Bool, true, false, not, ◌&&◌, ◌||◌, nat_lt, List, length, Option, Some, None, is_some}
use Rattle.std.specs.List.{list_all}
use Rattle.ub_base.specs.declared.clause.Kind.TheVariants.{Val, Eff}
use Rattle.ub_base.specs.declared.names.Item.{Item}
use Rattle.c_typed.specs.declared.tree.Place.{Place}
use Rattle.c_typed.specs.Tree.{size}
use Rattle.c_typed.specs.Order.{place, is_val, is_body}
use Rattle.mem_spec.specs.Store.{Store}
use Rattle.mem_spec.specs.Script.{Script, Give, Act, Done, run}
use Rattle.c_model.specs.Program.{tree_of}
use Rattle.c_model.specs.Values.{Value}
use Rattle.c_model.specs.World.{World}
use Rattle.c_model.specs.Moves.{Move, Stay, Start}
use Rattle.c_model.specs.Steps.{Scene, Local, Begun, Pick, Control, Ev, move, does, next}
use Rattle.c_model.specs.Moments.{places_from}
use Rattle.c_model.specs.Machine.{Did, Machine, Rest, State, Order, RemainsAt, all_picks}
use Rattle.c_model.specs.MachineLaws.{StoreLaws, FrameLaws, OrderLaws, UpdateLaws, GoesOnTo}
use Rattle.c_model.specs.ChoiceLaws.{due_now, before_now, update_at}

-- what is looked at in a store, and what items say of it
pub record StorePart (Part Seen Fact : Type 0) : Type 0 where
  pub look : Part → Store → Seen
  pub alters : Item → Part → Bool
  pub clash : Item → Item → Bool
  pub says : List Item → Fact → Bool
  pub is_so : Fact → Store → Bool
  pub counted : Store → ℕ
  pub counts : Item → ℕ → ℕ

-- what an act did, where it gave a value
abbrev pub done_by : Act Value → Option (Did Value Store Item)
done_by (Done v is s) = Some (record { value = v; items = is; store = s })
done_by _ = None

-- a body starts where its act gives a value at once: that of an initializer, or of a call of a defined function by its type
abbrev pub gives : Script Value → Bool
gives (Give v) = true
gives _ = false

abbrev pub start_where : Bool → Move Local → Move Local
start_where false (Start g) = Stay
start_where b mv = mv

-- all places of so many nodes pass
abbrev pub every : (Place → Bool) → ℕ → Bool
every p n = list_all p (places_from 0 n)

abbrev pub nodes : Begun → ℕ
nodes e = size (tree_of e.root)

-- no update stands between its value and its effect
abbrev pub none_open : Begun → Bool
none_open e = every (λ u. not (update_at 0 (tree_of e.root) u.node && is_some (e.given (place u.node Val))) || is_some (e.given (place u.node Eff))) (nodes e)

abbrev pub may_start_in : Option Begun → Pick → Bool
may_start_in (Some e) (Ev u) = not (is_body u.kind) || none_open e
may_start_in _ _ = true

abbrev pub is_control : Pick → Bool
is_control Control = true
is_control (Ev u) = false

-- the value of an update
abbrev pub opens_in : Option Begun → Pick → Bool
opens_in (Some e) (Ev u) = is_val u.kind && update_at 0 (tree_of e.root) u.node
opens_in _ _ = false

abbrev pub half : Pick → Pick
half Control = Control
half (Ev u) = Ev (place u.node Eff)

abbrev pub done_in : Option Begun → Pick → Bool
done_in (Some e) (Ev u) = is_some (e.given u) && nat_lt u.node (nodes e)
done_in _ _ = true

module _ (world : World) where
  -- due, and all that comes before it done
  abbrev pub is_reached : Scene → Begun → Place → Bool
  is_reached f e u =
      due_now world f e u
      && every (λ v. not (due_now world f e v && before_now world f e v u) || is_some (e.given v)) (nodes e)

  abbrev pub is_closed : Scene → Begun → Bool
  is_closed f e = every (λ v. not (is_some (e.given v)) || is_reached f e v) (nodes e)

  abbrev pub ready_in : Scene → Option Begun → Pick → Bool
  ready_in f None Control = true
  ready_in f None (Ev u) = false
  ready_in f (Some e) Control = every (λ u. not (due_now world f e u) || is_some (e.given u)) (nodes e)
  ready_in f (Some e) (Ev u) = (is_reached f e u && not (is_some (e.given u))) && is_closed f e

  abbrev pub beside_in : Scene → Option Begun → Pick → Pick → Bool
  beside_in f (Some e) (Ev u) (Ev v) = not (before_now world f e u v) && not (before_now world f e v u)
  beside_in f _ _ _ = false

  abbrev pub level_in : Scene → Option Begun → Pick → Pick → Bool
  level_in f (Some e) (Ev u) (Ev v) = (is_reached f e u && is_reached f e v) && beside_in f (Some e) (Ev u) (Ev v)
  level_in f _ _ _ = false

  -- the machine of the program's frames; limits are no part of it
  abbrev pub frame_machine : {Part Seen Fact : Type 0} → StorePart Part Seen Fact → Machine Local Pick Value Store Item Part Seen Fact
  frame_machine parts = record {
    ready = λ f p. ready_in f.scene f.begun p;
    may_start = λ f p. may_start_in f.begun p;
    move = λ f p. start_where (gives (does world f f.begun p)) (move world f f.begun p);
    next = λ f p v. next world f f.begun p v;
    does = λ f p s. done_by (run world.rows (does world f f.begun p) s);
    is_control = is_control;
    opens = λ f p. opens_in f.begun p;
    half = half;
    beside = λ f p q. beside_in f.scene f.begun p q;
    level = λ f p q. level_in f.scene f.begun p q;
    is_done = λ f p. done_in f.begun p;
    look = parts.look;
    alters = parts.alters;
    clash = parts.clash;
    says = parts.says;
    is_so = parts.is_so;
    counted = parts.counted;
    counts = parts.counts;
  }

-- the frames of every program keep the laws of the frame, of the order and of updates
abbrev pub FramesKeepLaws : (Part Seen Fact : Type 0) → Type 0
FramesKeepLaws Part Seen Fact =
    (world : World)
    (parts : StorePart Part Seen Fact)
    → FrameLaws (frame_machine world parts) × OrderLaws (frame_machine world parts)
    × UpdateLaws (frame_machine world parts)

-- So where the acts keep the laws of the store, for what is looked at there: from frames and a store from which one run goes on without
-- conflicts to its end, every permitted order has at most as many picks, goes on until the run is over, and ends with that value and store.
abbrev pub FramesEndAlike : (Part Seen Fact : Type 0) → Type 0
FramesEndAlike Part Seen Fact =
    (world : World)
    (parts : StorePart Part Seen Fact) → StoreLaws (frame_machine world parts)
    → (a b : State Local Pick Value Store) (ps : List Pick) (gs : List (Rest Pick Value Item)) (v : Value) (s : Store)
    → RemainsAt (frame_machine world parts) a gs v s → Order (frame_machine world parts) a ps b
    → (n : ℕ) × (length ps + n ≡ all_picks gs) × GoesOnTo (frame_machine world parts) b n v s
