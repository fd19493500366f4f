-- Behind a body that starts a frame the machine goes on in that frame.
use Rattle.std.proofs.Common.{arith, ◌≡◌, ◌<◌, ◌≤◌, ◌^◌, ℕ, suc, List, [], ◌∷◌, ◌++◌, length, map, reverse, Option, Some, None, slice_get}
use Rattle.std.proofs.Common.{sym, ap, subst, ◌∙◌}
use Rattle.std.proofs.lemmas.List.{reverse-append}
use Rattle.ub_base.specs.declared.names.Frame.{Frame}
use Rattle.c_typed.specs.declared.program.Program.{Program}
use Rattle.c_typed.specs.declared.tree.Place.{Place}
use Rattle.c_model.specs.Runs.{Running, State, step}
use Rattle.c_model.specs.Steps.{Begun, Ev, Local}
use Rattle.c_model.specs.World.{World}
use Rattle.run_layout.specs.declared.whole.Code.{Code}
use Rattle.run_statements.specs.declared.numbers.Numbers.{Numbers}
use Rattle.run_state.specs.declared.machine.Machine.{Machine}
use Rattle.run_state.specs.declared.machine.Open.{Open}
use Rattle.run_state.specs.declared.machine.Stage.{Stage}
use Rattle.run_state.specs.Stands.{Stands}
use Rattle.run_answers.specs.Answering.{IsWithin}
use Rattle.run_answers.specs.Starting.{numbered, started_state}
use Rattle.code_view.specs.Numbering.{meaning_of}
use Rattle.frame_laws.specs.Laws.{StepsOrdered}
use Rattle.frame_laws.specs.Named.{LawfulIsScoped}
use Rattle.frame_laws.specs.Reached.{AreReached}
use Rattle.run_laws.specs.Frames.{KeepFrames, KeepsBegun, KeepsFrame, KeepsOpen, Sees, function_of}
use Rattle.run_laws.specs.Going.{IsGoing, locals_of}
use Rattle.run_laws.specs.SetUp.{IsSetUp}
use Rattle.pick_laws.proofs.Events.{kept_open, moved_frame, sees_moved}
use Rattle.pick_laws.proofs.Under.{IsMore, frames_still}

onto_last : {A : Type 0} (xs : List A) (x : A) → reverse (xs ++ x ∷ []) ≡ x ∷ reverse xs
onto_last xs x = reverse-append xs (x ∷ [])

-- ---- what a frame that starts leaves of the machine, before it has its number
pub record HasStarted (old : Machine) (s : Stage) (new : Machine) : Type 0 where
  pub cursor : ℕ
  pub top : Open
  pub rest : new ≡ record old { below = new.below; top = top; work = new.work; values = new.values; locals = new.locals; depth = new.depth }
  pub below : new.below.items ≡ old.below.items ++ moved_frame old.top s cursor ∷ []
  pub values : length old.values.items ≤ length new.values.items
  pub locals : length old.locals.items ≤ length new.locals.items
  pub stage : top.stage ≡ None
  pub turn : top.turn ≡ 0
  pub base : top.base ≤ length new.values.items
  pub sees : Sees new top (function_of top.function (moved_frame old.top s cursor ∷ reverse old.below.items))

is_some_frame : (o : Open) (os : List Open) → o ∷ os ≡ [] → ⊥
is_some_frame o os none = cc (none)

-- ---- then it goes on
module _ (world : World) (p : Program) (numbers : Numbers) (old new : Machine) (st : State) (n : ℕ) (e : Begun) (s : Stage) (u : Place) (g : Local)
    (going : IsGoing world p numbers old st n) (stage : old.top.stage ≡ Some s) (begun : st.top.begun ≡ Some e) (h : HasStarted old s new)
    (frame : Frame) where
  abbrev next : State
  next = started_state world st u g

  abbrev then : Machine
  then = numbered new frame

  abbrev was : Open
  was = moved_frame old.top s h.cursor

  abbrev below : List Open
  below = reverse old.below.items

  -- the machine in its parts
  abbrev parts : Machine
  parts = record old {
    below = new.below;
    top = record h.top { frame = frame };
    work = new.work;
    values = new.values;
    locals = new.locals;
    depth = new.depth;
  }

  in_parts : then ≡ parts
  in_parts = ap (λ (k : Machine). numbered k frame) h.rest

  code_same : then.image.code ≡ old.image.code
  code_same = ap (λ (k : Machine). k.image.code) h.rest

  begun_same : then.begun ≡ old.begun
  begun_same = ap (λ (k : Machine). k.begun) h.rest

  more : (k : ℕ) → IsMore k old then
  more k = record {
    code = code_same;
    begun = λ j b lt is. ap (λ (v : _). slice_get v.items j) begun_same ∙ is;
    values = h.values;
    locals = h.locals;
  }

  open_before : KeepsOpen world old (length below) old.top s st.top.scene e
  open_before = kept_open world old (length below) old.top old.top.stage st.top.scene st.top.begun s e stage begun going.frames.0.begun

  open_then : KeepsOpen world then (length below) was (record s { cursor = h.cursor }) st.top.scene e
  open_then = record {
    straight = open_before.straight;
    chosen = λ b is. open_before.chosen b (ap (λ (v : _). slice_get v.items (length below)) (sym begun_same) ∙ is);
    rooms = let r = open_before.rooms in let v = h.values in omega (arith, r, v);
  }

  was_then : KeepsFrame world then was below st.top (suc n)
  was_then = record {
    begun = subst (KeepsBegun world then (length below) was (Some (record s { cursor = h.cursor })) st.top.scene) (sym begun) open_then;
    sees = sees_moved old then old.top s h.cursor stage code_same h.locals (function_of old.top.function below) going.frames.0.sees;
    turn = let t = going.frames.0.turn in omega (arith, t);
    base = let b = going.frames.0.base in let v = h.values in omega (arith, b, v);
    lowest = going.frames.0.lowest;
  }

  below_then : KeepFrames world then below (map (λ h. h.0) st.held) (suc n)
  below_then =
      frames_still world old then (meaning_of p numbers old.image.code.now) None below old.work.below st.held n (suc n) (omega arith) (more (length below))
      going.stands.frames.2 going.frames.1

  numbered_sees : (f : Option ℕ) → Sees new h.top f → Sees then (record h.top { frame = frame }) f
  numbered_sees None x = absurd x
  numbered_sees (Some k) x = record {
    code = x.code;
    at = x.at;
    blocks = x.blocks;
    expressions = x.expressions;
    above = x.above;
    places = x.places;
    own = x.own;
  }

  closed : (o : Option Stage) (b : Option Begun) → o ≡ None → KeepsBegun world then (suc (length below)) (record h.top { frame = frame }) o g.scene b
  closed None b is = tt
  closed (Some z) b is = absurd (cc)

  top_then : KeepsFrame world then (record h.top { frame = frame }) (was ∷ below) g (suc n)
  top_then = record {
    begun = closed h.top.stage g.begun h.stage;
    sees = numbered_sees (function_of h.top.function (was ∷ below)) h.sees;
    turn = let t = h.turn in omega (arith, t);
    base = h.base;
    lowest = λ none. absurd (is_some_frame was below none);
  }

  frames_then : KeepFrames world then (then.top ∷ reverse then.below.items) (locals_of next) (suc n)
  frames_then =
      subst (λ (t : Open). KeepFrames world then (t ∷ reverse then.below.items) (locals_of next) (suc n)) (sym (ap (λ (k : Machine). k.top) in_parts))
      (subst (λ (os : List Open). KeepFrames world then (record h.top { frame = frame } ∷ os) (locals_of next) (suc n))
      (sym (ap reverse h.below ∙ onto_last old.below.items was)) (top_then, (was_then, below_then)))

  pub goes_on : LawfulIsScoped → StepsOrdered → IsWithin world next → AreReached world next.top next.held
      → step world st (Ev u) ≡ Running next → suc n < 2 ^ 32 → Stands world (meaning_of p numbers old.image.code.now) then next
      → IsGoing world p numbers then next (suc n)
  goes_on scoped ordered within reached steps few stands = record {
    program = ap (λ (k : Machine). k.program.now) in_parts ∙ going.program;
    set_up = subst (λ (k : Machine). IsSetUp world p numbers k.image.code.now k.jumps) (sym in_parts) going.set_up;
    stands = subst (λ (c : Code). Stands world (meaning_of p numbers c) then next) (ap (λ c. c.now) (sym code_same)) stands;
    within = within;
    ordered = ordered world st next (Ev u) (scoped p world going.set_up.whole.lawful going.set_up.world.program.functions) going.ordered steps;
    reached = reached;
    frames = frames_then;
    few = few;
  }
