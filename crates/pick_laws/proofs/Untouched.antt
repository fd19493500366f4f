-- A machine that has touched nothing is going as it was; and no limit is passed where a run goes on.
use Rattle.std.proofs.Common.{arith, ◌≡◌, ◌+◌, ◌<◌, ◌≤◌, ℕ, suc, List, [], ◌∷◌, length, map, reverse, Option, Some, None, refl, sym, ap, subst, ◌∙◌}
use Rattle.ub_base.specs.declared.clause.Cause.{Cause}
use Rattle.ub_base.specs.declared.names.Item.{Item}
use Rattle.c_typed.specs.declared.program.Program.{Program}
use Rattle.c_typed.specs.declared.tree.Place.{Place}
use Rattle.mem_spec.specs.Script.{Act, Done, Raised, Ended, Outside, Unplaced, run}
use Rattle.c_model.specs.Runs.{
  Entry,
  Outcome,
  Refused,
  Raises,
  Over,
  No_row,
  Ends,
  Running,
  State,
  acted,
  back,
  depth_of,
  entry_of,
  enter_passes,
  limit_passed,
  limited,
  moved,
  step,
  within,
  without_row,
}
use Rattle.c_model.specs.Steps.{Begun, Local, Pick, Scene, does, move}
use Rattle.c_model.specs.Values.{Value}
use Rattle.c_model.specs.World.{World, Limits}
use Rattle.run_statements.specs.declared.numbers.Numbers.{Numbers}
use Rattle.run_state.specs.declared.machine.Machine.{Machine}
use Rattle.run_state.specs.declared.machine.Open.{Open}
use Rattle.run_state.specs.declared.machine.Stage.{Stage}
use Rattle.run_answers.proofs.Still.{items_stand}
use Rattle.run_answers.specs.Answering.{IsWithin}
use Rattle.run_answers.specs.Taking.{untouched}
use Rattle.code_view.specs.Numbering.{meaning_of}
use Rattle.run_laws.specs.Frames.{KeepFrames, KeepsBegun, KeepsFrame, Sees, function_of}
use Rattle.run_laws.specs.Going.{IsGoing, locals_of}

-- ---- a machine that has touched nothing
sees_same : (m : Machine) (o : Open) (f : Option ℕ) → Sees m o f → Sees (untouched m) o f
sees_same m o None s = absurd s
sees_same m o (Some n) s = record {
  code = s.code;
  at = s.at;
  blocks = s.blocks;
  expressions = s.expressions;
  above = s.above;
  places = s.places;
  own = s.own;
}

begun_same : (world : World) (m : Machine) (h : ℕ) (o : Open) (stage : Option Stage) (f : Scene) (e : Option Begun) → KeepsBegun world m h o stage f e
    → KeepsBegun world (untouched m) h o stage f e
begun_same world m h o None f e k = tt
begun_same world m h o (Some s) f None k = tt
begun_same world m h o (Some s) f (Some e) k = record { straight = k.straight; chosen = k.chosen; rooms = k.rooms }

frames_same : (world : World) (m : Machine) (os : List Open) (fs : List Local) (n : ℕ) → KeepFrames world m os fs n → KeepFrames world (untouched m) os fs n
frames_same world m [] fs n k = tt
frames_same world m (o ∷ os) [] n k = tt
frames_same world m (o ∷ os) (f ∷ fs) n k = (
  record {
    begun = begun_same world m (length os) o o.stage f.scene f.begun k.0.begun;
    sees = sees_same m o (function_of o.function os) k.0.sees;
    turn = k.0.turn;
    base = k.0.base;
    lowest = k.0.lowest;
  },
  frames_same world m os fs n k.1,
)

pub going_untouched : (world : World) (p : Program) (numbers : Numbers) (m : Machine) (st : State) (n : ℕ) → IsGoing world p numbers m st n
    → IsGoing world p numbers (untouched m) st n
going_untouched world p numbers m st n g = record {
  program = g.program;
  set_up = g.set_up;
  stands = items_stand world (meaning_of p numbers m.image.code.now) m [] m.spare st g.stands;
  within = g.within;
  ordered = g.ordered;
  reached = g.reached;
  frames = frames_same world m (m.top ∷ reverse m.below.items) (locals_of st) n g.frames;
  few = g.few;
}

-- ---- where a run goes on no limit is passed
abbrev state_in : Outcome → State → State
state_in (Running st) other = st
state_in o other = other

pub same_state : (a b : State) → Running a ≡ Running b → a ≡ b
same_state a b q = ap (λ o. state_in o a) q

through_within : (x : Option (Cause × ℕ)) (o : Outcome) (st : State) → within x o ≡ Running st → o ≡ Running st
through_within None o st q = q
through_within (Some c) o st q = absurd (cc (q))

none_passed : (x : Option (Cause × ℕ)) (o : Outcome) (st : State) → within x o ≡ Running st → x ≡ None
none_passed None o st q = refl
none_passed (Some c) o st q = absurd (cc (q))

module _ (world : World) (after : State) where
  limited_within : (o : Outcome) → limited world.limits o ≡ Running after → IsWithin world after
  limited_within Refused q = absurd (cc (q))
  limited_within (Raises c trace) q = absurd (cc (q))
  limited_within (Over c n) q = absurd (cc (q))
  limited_within No_row q = absurd (cc (q))
  limited_within (Ends n out trace) q = absurd (cc (q))
  limited_within (Running s) q =
      let same = same_state s after (through_within (limit_passed world.limits (depth_of s.top s.held) s.store) (Running s) after q) in
      subst (IsWithin world) same (none_passed (limit_passed world.limits (depth_of s.top s.held) s.store) (Running s) after q)

  acted_within : (st : State) (p : Pick) (a : Act Value) → acted world st p a ≡ Running after → IsWithin world after
  acted_within st p (Done v is s) q =
      limited_within (moved world st p (move world st.top st.top.begun p) v s (entry_of world st.top p is ∷ st.trace)) q
  acted_within st p (Raised c) q = absurd (cc (q))
  acted_within st p (Ended n is s) q = absurd (cc (q))
  acted_within st p (Outside c n) q = absurd (cc (q))
  acted_within st p Unplaced q = absurd (cc (through_within _ No_row after q))

  pub steps_within : (st : State) (p : Pick) → step world st p ≡ Running after → IsWithin world after
  steps_within st p q =
      acted_within st p (run world.rows (does world st.top st.top.begun p) st.store) (through_within (enter_passes world.limits st p) _ after q)
