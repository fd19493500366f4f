-- The event that comes next along the listing is the canonical pick.
use Rattle.std.proofs.Common.{slice_get, ◌≡◌, ◌+◌, ◌-◌, ◌^◌, ℕ, Bool, true, false, List, length, reverse, Option, Some, None, refl, sym, ap, subst, ◌∙◌}
use Rattle.std.specs.Prelude.{min}
use Rattle.std.specs.Borrow.{Bor}
use Rattle.c_typed.specs.declared.program.Program.{Program}
use Rattle.c_typed.specs.declared.tree.Place.{Place}
use Rattle.c_typed.specs.Order.{is_body}
use Rattle.mem_laws.specs.MoreRows.{Extends}
use Rattle.c_model.specs.Runs.{State, canonical_pick}
use Rattle.c_model.specs.Steps.{Begun, Ev, Pick}
use Rattle.c_model.specs.World.{World}
use Rattle.seq_order.specs.Marked.{taken_in}
use Rattle.run_layout.specs.declared.nodes.NodeInfo.{NodeInfo}
use Rattle.run_layout.specs.declared.steps.Due.{Due}
use Rattle.run_layout.specs.declared.steps.Expression.{Expression as Laid}
use Rattle.run_statements.specs.declared.numbers.Numbers.{Numbers}
use Rattle.run_state.specs.declared.machine.Machine.{Machine}
use Rattle.run_state.specs.declared.machine.Stage.{Stage}
use Rattle.run_state.specs.declared.watch.Begun.{Begun as Shown}
use Rattle.run_state.specs.Stands.{Stands}
use Rattle.run_listing.specs.Along.{Next}
use Rattle.run_answers.specs.Picks.{ByWay, ComesNext, Follows, FollowsCanonical, FollowsIn, ahead_part, at_cursor, top_of}
use Rattle.code_view.specs.Numbering.{meaning_of}
use Rattle.run_laws.specs.Calls.{OpenMayCallNext}
use Rattle.run_laws.specs.Given.{IsReady, OpenMayTakeNext}
use Rattle.run_laws.specs.Initial.{OpenMayStartNext}
use Rattle.run_laws.specs.Open.{IsOpen}
use Rattle.run_laws.specs.Going.{IsGoing}
use Rattle.run_laws.specs.Frames.{KeepsOpen}
use Rattle.pick_laws.proofs.Events.{kept_open}
use Rattle.pick_laws.specs.Next.{CallIsNext, CallsOwnAt, EventIsNext, InitializerIsNext}

-- the machine goes on to it
abbrev gone : Machine → Stage → ℕ → Machine
gone m s k = at_cursor m s (min (s.cursor + k) (2 ^ 64 - 1))

some_is : {A : Type 0} (x y : A) → Some x ≡ Some y → x ≡ y
some_is x y q = cc

follows_in : (m : Machine) (s : Stage) (next : ℕ × Bor Due) (stage : Option Stage) (top : Option Shown) → stage ≡ Some s → s.straight ≡ true
    → (b : Shown) → top ≡ Some b → Next (taken_in b.taken) (ahead_part m s) (Some next) → FollowsIn m stage top (gone m s next.0) (Some next.1)
follows_in m s next None top is straight b at c = absurd (cc)
follows_in m s next (Some t) None is straight b at c = absurd (cc)
follows_in m s next (Some t) (Some x) is straight b at c =
    subst (λ (z : Stage). ByWay z.straight m z x (gone m s next.0) (Some next.1)) (sym (some_is t s is))
    (subst (λ (z : Shown). ByWay s.straight m s z (gone m s next.0) (Some next.1)) (sym (some_is x b at))
    (subst (λ (z : Bool). ByWay z m s b (gone m s next.0) (Some next.1)) (sym straight) (next.0, c, refl)))

comes_follows : (m : Machine) (s : Stage) (next : ℕ × Bor Due) → m.top.stage ≡ Some s → s.straight ≡ true → ComesNext m s (Some next)
    → Follows m (gone m s next.0) (Some next.1)
comes_follows m s next stage straight c = follows_in m s next m.top.stage (top_of m) stage straight c.0 c.1 c.2

same_place : (u v : Place) → Ev u ≡ Ev v → u ≡ v
same_place u v q = cc

-- what comes next along the listing is the canonical pick
module _ (follows : FollowsCanonical) (world : World) (p : Program) (numbers : Numbers) (m : Machine) (st : State) (n : ℕ) (e : Begun) (s : Stage)
    (laid : Laid) (firsts : List ℕ) (nodes : List NodeInfo) (u : Place) (going : IsGoing world p numbers m st n)
    (o : IsOpen world (meaning_of p numbers m.image.code.now) m st e s laid firsts nodes) (is : canonical_pick world st.top st.top.begun ≡ Ev u) where
  pub straight : s.straight ≡ true
  straight =
      (kept_open world m (length (reverse m.below.items)) m.top m.top.stage st.top.scene st.top.begun s e o.stage o.stood.begun
      going.frames.0.begun).straight

  pub next_is : (next : ℕ × Bor Due) → ComesNext m s (Some next) → next.1.now.place ≡ u
  next_is next c =
      same_place next.1.now.place u
      (follows m (gone m s next.0) (Some next.1) (comes_follows m s next o.stage straight c) world (meaning_of p numbers m.image.code.now) st going.stands ∙ is)

  ready : Extends m.memory.rows world.rows → IsReady world m st
  ready extends = record { within = going.within; extends = extends }

pub event_next : FollowsCanonical → OpenMayTakeNext → EventIsNext
event_next follows may world p numbers m st n e s laid firsts nodes u going o extends is plain =
    may world (meaning_of p numbers m.image.code.now) m st e s laid firsts nodes o
    (ready follows world p numbers m st n e s laid firsts nodes u going o is extends)
    (straight follows world p numbers m st n e s laid firsts nodes u going o is)
    (λ next c. ap (λ (w : Place). is_body w.kind) (next_is follows world p numbers m st n e s laid firsts nodes u going o is next c) ∙ plain)

pub initializer_next : FollowsCanonical → OpenMayStartNext → InitializerIsNext
initializer_next follows may world p numbers m st n e s laid firsts nodes u x tree going o extends is body own at isolated =
    may world (meaning_of p numbers m.image.code.now) m st e s laid firsts nodes o
    (ready follows world p numbers m st n e s laid firsts nodes u going o is extends)
    (straight follows world p numbers m st n e s laid firsts nodes u going o is) own
    (λ next c. let place = next_is follows world p numbers m st n e s laid firsts nodes u going o is next c in record {
      node = x;
      tree = tree;
      there = ap (λ (w : Place). slice_get nodes w.node) place ∙ at;
      isolated = isolated;
      body = ap (λ (w : Place). w.kind) place ∙ body;
    })

pub call_next : FollowsCanonical → OpenMayCallNext → CallIsNext
call_next follows may world p numbers m st n e s laid firsts nodes u x discarded going o extends is body places callable at call own =
    may world (meaning_of p numbers m.image.code.now) m st e s laid firsts nodes o
    (ready follows world p numbers m st n e s laid firsts nodes u going o is extends)
    (straight follows world p numbers m st n e s laid firsts nodes u going o is) places callable
    (λ next c. let place = next_is follows world p numbers m st n e s laid firsts nodes u going o is next c in (
      record {
        node = x;
        discarded = discarded;
        there = ap (λ (w : Place). slice_get nodes w.node) place ∙ at;
        call = call;
        body = ap (λ (w : Place). w.kind) place ∙ body;
      },
      subst (λ (w : Place). CallsOwnAt world st.top.scene e w.node) (sym place) own,
    ))
