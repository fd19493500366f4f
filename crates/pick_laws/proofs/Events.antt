-- Behind an event that is done at once the machine goes on as before.
use Rattle.std.proofs.Common.{arith, ◌≡◌, ◌≢◌, ◌+◌, ◌<◌, ◌≤◌, ◌^◌, ℕ, suc, List, ◌∷◌, length, map, reverse, Option, Some, None, slice_get}
use Rattle.std.proofs.Common.{sym, ap, subst, ◌∙◌}
use Rattle.std.proofs.lemmas.List.{length-reverse}
use Rattle.std.proofs.lemmas.Option.{same_Some}
use Rattle.ub_base.specs.declared.names.Item.{Item}
use Rattle.c_typed.specs.declared.program.Program.{Program}
use Rattle.c_typed.specs.declared.tree.Place.{Place}
use Rattle.c_model.specs.Runs.{Running, State, step}
use Rattle.c_model.specs.Steps.{Begun, Ev, MayPick, Scene, with_given}
use Rattle.c_model.specs.Values.{Value}
use Rattle.c_model.specs.World.{World}
use Rattle.seq_order.specs.Marked.{taken_in}
use Rattle.run_layout.specs.Chosen.{IsKept}
use Rattle.run_layout.specs.declared.whole.Code.{Code}
use Rattle.run_statements.specs.declared.numbers.Numbers.{Numbers}
use Rattle.run_state.specs.declared.machine.Machine.{Machine}
use Rattle.run_state.specs.declared.machine.Open.{Open}
use Rattle.run_state.specs.declared.machine.Stage.{Stage}
use Rattle.run_state.specs.declared.watch.Begun.{Begun as Shown}
use Rattle.run_state.specs.Stands.{Stands}
use Rattle.run_answers.specs.Answering.{IsWithin}
use Rattle.run_answers.specs.Taking.{StandsOpen, after_event, store_after}
use Rattle.code_view.specs.Numbering.{meaning_of}
use Rattle.frame_laws.specs.Laws.{StepsOrdered}
use Rattle.frame_laws.specs.Named.{LawfulIsScoped}
use Rattle.frame_laws.specs.Reached.{StepsReached}
use Rattle.run_laws.specs.Staying.{MovesOn, moved_on}
use Rattle.run_laws.specs.Frames.{IsOneOf, KeepFrames, KeepsBegun, KeepsFrame, KeepsOpen, Sees, SeesFunction, function_of}
use Rattle.run_laws.specs.Going.{IsGoing, locals_of}
use Rattle.run_laws.specs.SetUp.{IsSetUp}
use Rattle.pick_laws.proofs.Under.{IsMore, frames_still}

-- ---- what an event that is done at once leaves of the machine
abbrev pub moved_with : (old : Machine) → Stage → ℕ → (new : Machine) → Machine
moved_with old s cursor new = record old {
  memory = new.memory;
  streams = new.streams;
  top = record old.top { stage = Some (record s { cursor = cursor }) };
  begun = new.begun;
  strayed = new.strayed;
  values = new.values;
  items = new.items;
  spare = new.spare;
}

pub record Moved (old : Machine) (s : Stage) (new : Machine) : Type 0 where
  pub cursor : ℕ
  pub rest : new ≡ moved_with old s cursor new
  pub begun : (j : ℕ) (b : Shown) → j ≢ length old.below.items → slice_get old.begun.items j ≡ Some b → slice_get new.begun.items j ≡ Some b
  pub values : length old.values.items ≤ length new.values.items

pub moved_by : (old : Machine) (s : Stage) (new : Machine) → MovesOn old s new → Moved old s new
moved_by old s new m = record {
  cursor = m.cursor;
  rest = m.rest ∙ (λ i. record (moved_on old s m.cursor new) { streams = sym (ap (λ (k : Machine). k.streams) m.rest) i });
  begun = m.begun;
  values = m.values;
}

-- ---- what is kept of a frame in which this full expression is open
pub kept_open : (world : World) (m : Machine) (height : ℕ) (o : Open) (stage : Option Stage) (f : Scene) (begun : Option Begun) (s : Stage) (e : Begun)
    → stage ≡ Some s → begun ≡ Some e → KeepsBegun world m height o stage f begun → KeepsOpen world m height o s f e
kept_open world m height o None f begun s e is at k = absurd (cc)
kept_open world m height o (Some t) f None s e is at k = absurd (cc)
kept_open world m height o (Some t) f (Some x) s e is at k =
    subst (λ (y : Begun). KeepsOpen world m height o s f y) (same_Some x e at)
    (subst (λ (z : Stage). KeepsOpen world m height o z f x) (same_Some t s is) k)

-- the frame sees the same function with its cursor elsewhere
abbrev pub moved_frame : Open → Stage → ℕ → Open
moved_frame o s cursor = record o { stage = Some (record s { cursor = cursor }) }

module _ (old new : Machine) (o : Open) (s : Stage) (cursor : ℕ) (stage : o.stage ≡ Some s) (code : new.image.code ≡ old.image.code)
    (locals : length old.locals.items ≤ length new.locals.items) where
  sees_function : (n : ℕ) → SeesFunction old o n → SeesFunction new (moved_frame o s cursor) n
  sees_function n x = record {
    code = x.code;
    at = ap (λ c. slice_get c.now.functions.items n) code ∙ x.at;
    blocks = x.blocks;
    expressions = x.expressions;
    above = x.above;
    places = let p = x.places in omega (arith, p, locals);
    own = subst (IsOneOf x.code.expressions) stage x.own;
  }

  pub sees_moved : (f : Option ℕ) → Sees old o f → Sees new (moved_frame o s cursor) f
  sees_moved None x = absurd x
  sees_moved (Some n) x = sees_function n x

module _ (world : World) (p : Program) (numbers : Numbers) (old new : Machine) (st : State) (n : ℕ) (e : Begun) (s : Stage) (u : Place) (v : Value)
    (is : List Item) (going : IsGoing world p numbers old st n) (stage : old.top.stage ≡ Some s) (begun : st.top.begun ≡ Some e) (m : Moved old s new) where
  abbrev next : State
  next = after_event world st e u v is (store_after new)

  abbrev stage_then : Stage
  stage_then = record s { cursor = m.cursor }

  abbrev below : List Open
  below = reverse old.below.items

  code_same : new.image.code ≡ old.image.code
  code_same = ap (λ (k : Machine). k.image.code) m.rest

  locals_same : length old.locals.items ≤ length new.locals.items
  locals_same = let same = ap (λ (k : Machine). length k.locals.items) m.rest in omega (arith, same)

  below_same : new.below ≡ old.below
  below_same = ap (λ (k : Machine). k.below) m.rest

  height : length below ≡ length old.below.items
  height = length-reverse old.below.items

  more_below : IsMore (length below) old new
  more_below = record {
    code = code_same;
    begun = λ j b lt is. m.begun j b (λ same. let h = height in absurd (omega (arith, lt, same, h))) is;
    values = m.values;
    locals = locals_same;
  }

  open_before : KeepsOpen world old (length below) old.top s st.top.scene e
  open_before = kept_open world old (length below) old.top old.top.stage st.top.scene st.top.begun s e stage begun going.frames.0.begun

  module _ (stays : StandsOpen world (meaning_of p numbers old.image.code.now) new next (with_given e u v)) where
    chosen_then : (b : Shown) → slice_get new.begun.items (length below) ≡ Some b → IsKept world st.top.scene (with_given e u v) (taken_in b.taken)
    chosen_then b is =
        stays.chosen b (ap (λ (k : ℕ). slice_get new.begun.items k) (ap (λ bs. length bs.items) below_same ∙ sym height) ∙ is)

    rooms_then : old.top.base + old.top.rooms ≤ length new.values.items
    rooms_then = subst (λ (k : Machine). k.top.base + k.top.rooms ≤ length new.values.items) m.rest stays.rooms

    top_then : KeepsFrame world new (moved_frame old.top s m.cursor) below next.top (suc n)
    top_then = record {
      begun = record { straight = open_before.straight; chosen = chosen_then; rooms = rooms_then };
      sees = sees_moved old new old.top s m.cursor stage code_same locals_same (function_of old.top.function below) going.frames.0.sees;
      turn = let t = going.frames.0.turn in omega (arith, t);
      base = let b = going.frames.0.base in let w = m.values in omega (arith, b, w);
      lowest = going.frames.0.lowest;
    }

    below_then : KeepFrames world new below (map (λ h. h.0) st.held) (suc n)
    below_then =
        frames_still world old new (meaning_of p numbers old.image.code.now) None below old.work.below st.held n (suc n) (omega arith) more_below
        going.stands.frames.2 going.frames.1

    frames_then : KeepFrames world new (new.top ∷ reverse new.below.items) (locals_of next) (suc n)
    frames_then = subst (λ (k : Machine). KeepFrames world new (k.top ∷ reverse k.below.items) (locals_of next) (suc n)) (sym m.rest) (top_then, below_then)

    pub goes_on : LawfulIsScoped → StepsOrdered → StepsReached → IsWithin world next → MayPick world st.top (Some e) (Ev u)
        → step world st (Ev u) ≡ Running next → suc n < 2 ^ 32 → IsGoing world p numbers new next (suc n)
    goes_on scoped ordered reached within may steps few = record {
      program = ap (λ (k : Machine). k.program.now) m.rest ∙ going.program;
      set_up = subst (λ (k : Machine). IsSetUp world p numbers k.image.code.now k.jumps) (sym m.rest) going.set_up;
      stands = subst (λ (c : Code). Stands world (meaning_of p numbers c) new next) (ap (λ c. c.now) (sym code_same)) stays.stands;
      within = within;
      ordered =
          ordered world st next (Ev u) (scoped p world going.set_up.whole.lawful going.set_up.world.program.functions) going.ordered steps;
      reached = reached world st next (Ev u) (subst (λ (b : Option Begun). MayPick world st.top b (Ev u)) (sym begun) may)
          going.reached steps;
      frames = frames_then;
      few = few;
    }
