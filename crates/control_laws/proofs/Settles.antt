-- Where a full expression is open in the top frame, it stands as picks ask it; and where the control step is the canonical pick, it can be settled.
use Rattle.std.proofs.Common.{◌≡◌, ℕ, Bool, true, false, List, [], ◌∷◌, length, reverse, Option, Some, None, slice_get, refl, sym}
use Rattle.std.proofs.Common.{ap, subst, ◌∙◌}
use Rattle.std.specs.Prelude.{is_none}
use Rattle.std.proofs.lemmas.List.{length-reverse}
use Rattle.std.proofs.lemmas.List.Elements.{All-weaker}
use Rattle.std.proofs.lemmas.Option.{same_Some}
use Rattle.c_typed.specs.declared.program.Program.{Program}
use Rattle.c_typed.specs.declared.tree.Node.TheOpen as shape
use Rattle.c_typed.specs.declared.tree.Place.{Place}
use Rattle.c_typed.specs.declared.tree.Slot.{Slot}
use Rattle.c_typed.specs.declared.tree.Slot.TheVariants as slot
use Rattle.c_typed.specs.declared.tree.Typed.{Typed}
use Rattle.c_typed.specs.Sites.{Head, sites}
use Rattle.c_model.specs.ChoiceLaws.{IsClosed}
use Rattle.c_model.specs.Control.{Todo, ready_work}
use Rattle.c_model.specs.Runs.{State, canonical_pick, chosen_pick}
use Rattle.c_model.specs.Steps.{Begun, Control, MayPick, Scene, ends_with, is_settled, root_value, settled}
use Rattle.c_model.specs.World.{World}
use Rattle.listing_laws.specs.Along.{first_of}
use Rattle.listing_laws.proofs.Going.{settles_at_end, takes_first}
use Rattle.program_view.specs.Trees.{expr_of}
use Rattle.run_control.specs.declared.work.Use.{Use}
use Rattle.run_control.specs.declared.work.Use.TheVariants as for_use
use Rattle.run_control.specs.View.{Meaning, is_nothing}
use Rattle.run_layout.specs.declared.steps.Expression.{Expression as Laid}
use Rattle.run_statements.specs.declared.numbers.Numbers.{Numbers}
use Rattle.run_state.specs.declared.machine.Machine.{Machine}
use Rattle.run_state.specs.declared.machine.Open.{Open}
use Rattle.run_state.specs.declared.machine.Stage.{Stage}
use Rattle.run_state.specs.Stands.{StandsBegun, StandsDone, StandsExpression}
use Rattle.run_listing.specs.Cursor.{StandsStraight}
use Rattle.run_answers.specs.Answering.{CanGoOn}
use Rattle.run_answers.specs.Jumps.{HasCases}
use Rattle.run_answers.specs.Settling.{CanSettle, GoesBehind, IsUsable}
use Rattle.run_answers.specs.Taking.{StandsOpen}
use Rattle.code_view.specs.Named.{NamedIsOpen, NamesAreOpen, SlotIsOpen}
use Rattle.frame_laws.specs.Facts.{IsBehind}
use Rattle.frame_laws.specs.Frames.{open_blocks}
use Rattle.frame_laws.specs.Scopes.{ExprFits}
use Rattle.frame_laws.specs.Reached.{IsReachedIn}
use Rattle.frame_laws.proofs.FactsHold.{goes_behind, stays_in_scope}
use Rattle.run_laws.specs.Frames.{IsOneOf, KeepsBegun, KeepsOpen}
use Rattle.run_laws.specs.Going.{IsGoing}
use Rattle.control_laws.specs.Control.{ControlGoesOn, IsAtControl, IsOpenAs, OpenStandsSo, OpensSmall}
use Rattle.control_laws.proofs.Laws.{Laws}
use Rattle.control_laws.proofs.Rooms.{LaysOut, lays_out}
use Rattle.control_laws.proofs.Seen.{firsts}
use Rattle.control_laws.proofs.Steps.{can_step, labels_of}
use Rattle.control_laws.proofs.Top.{can_end, code, frame, lawful_now, meaning, names_open, objects, order_now, rooms}

-- what is open is so whatever was touched
slot_clear : (m : Machine) (firsts : List ℕ) (bs : List (ℕ × ℕ)) (s : Slot) → SlotIsOpen m firsts bs s → SlotIsOpen (record m { items = [] }) firsts bs s
slot_clear m firsts bs (slot.Auto block decl) h = h
slot_clear m firsts bs (slot.Static number) h = h

name_clear : (m : Machine) (firsts : List ℕ) (bs : List (ℕ × ℕ)) (h : Head) → NamedIsOpen m firsts bs h → NamedIsOpen (record m { items = [] }) firsts bs h
name_clear m firsts bs (shape.Obj named) is = slot_clear m firsts bs named is
name_clear m firsts bs (shape.List named bytes) is = slot_clear m firsts bs named is
name_clear m firsts bs _ is = tt

pub names_clear : (m : Machine) (firsts : List ℕ) (bs : List (ℕ × ℕ)) (t : Typed) → NamesAreOpen m firsts bs t
    → NamesAreOpen (record m { items = [] }) firsts bs t
names_clear m firsts bs t all =
    All-weaker (λ s. NamedIsOpen m firsts bs s.head) (λ s. NamedIsOpen (record m { items = [] }) firsts bs s.head)
    (λ s h. name_clear m firsts bs s.head h) (sites t) all

open_here : (world : World) (meaning : Meaning) (m : Machine) (height : ℕ) (o : Open) (stage : Option Stage) (f : Scene) (b : Option Begun) (s : Stage)
    (e : Begun) → StandsBegun world meaning m height o stage f b None → stage ≡ Some s → b ≡ Some e → StandsExpression world meaning m height o s f e None
open_here world meaning m height o None f b s e x stage begun = absurd (cc)
open_here world meaning m height o (Some r) f None s e x stage begun = absurd x
open_here world meaning m height o (Some r) f (Some z) s e x stage begun =
    subst (λ (k : Stage). StandsExpression world meaning m height o k f e None) (same_Some r s stage)
    (subst (λ (k : Begun). StandsExpression world meaning m height o r f k None) (same_Some z e begun) x)

keeps_here : (world : World) (m : Machine) (height : ℕ) (o : Open) (stage : Option Stage) (f : Scene) (b : Option Begun) (s : Stage) (e : Begun)
    → KeepsBegun world m height o stage f b → stage ≡ Some s → b ≡ Some e → KeepsOpen world m height o s f e
keeps_here world m height o None f b s e x stage begun = absurd (cc)
keeps_here world m height o (Some r) f None s e x stage begun = absurd (cc)
keeps_here world m height o (Some r) f (Some z) s e x stage begun =
    subst (λ (k : Stage). KeepsOpen world m height o k f e) (same_Some r s stage)
    (subst (λ (k : Begun). KeepsOpen world m height o r f k) (same_Some z e begun) x)

pub stage_there : (world : World) (meaning : Meaning) (m : Machine) (height : ℕ) (o : Open) (stage : Option Stage) (f : Scene) (b : Option Begun) (e : Begun)
    → StandsBegun world meaning m height o stage f b None → b ≡ Some e → (s : Stage) × (stage ≡ Some s)
stage_there world meaning m height o None f None e x begun = absurd (cc)
stage_there world meaning m height o None f (Some z) e x begun = absurd x
stage_there world meaning m height o (Some s) f b e x begun = (s, refl)

reached_here : (world : World) (f : Scene) (b : Option Begun) (e : Begun) → IsReachedIn world f b → b ≡ Some e → IsClosed world f e
reached_here world f b e r is = subst (IsReachedIn world f) is r

-- ---- the control step is picked only where it may be
no_event : (world : World) (o : Option Place) → chosen_pick world o ≡ Control → is_none o ≡ true
no_event world None is = refl
no_event world (Some u) is = absurd (cc)

straight_so : (world : World) (m : Machine) (height first cursor end : ℕ) (f : Scene) (e : Begun) (straight : Bool) → straight ≡ true
    → StandsDone straight world m height first cursor end f e None → StandsStraight world f m.image.code.now.listing.items first cursor end e None
straight_so world m height first cursor end f e true is d = d
straight_so world m height first cursor end f e false is d = absurd (cc)

same_ends : (world : World) (ws : Todo) → ends_with world ws ≡ is_nothing ws
same_ends world [] = refl
same_ends world (w ∷ ws) = refl

module _ (laws : Laws) (world : World) (p : Program) (numbers : Numbers) (m : Machine) (st : State) (n : ℕ) (g : IsGoing world p numbers m st n) (e : Begun)
    (begun : st.top.begun ≡ Some e) where
  module _ (s : Stage) (stage : m.top.stage ≡ Some s) where
    x : StandsExpression world (meaning laws world p numbers m st n g m.top.function) m (length m.below.items) m.top s st.top.scene e None
    x =
        open_here world (meaning laws world p numbers m st n g m.top.function) m (length m.below.items) m.top m.top.stage st.top.scene st.top.begun s e
        (frame laws world p numbers m st n g).begun stage begun

    keeps : KeepsOpen world m (length m.below.items) m.top s st.top.scene e
    keeps =
        subst (λ (k : ℕ). KeepsOpen world m k m.top s st.top.scene e) (length-reverse m.below.items)
        (keeps_here world m (length (reverse m.below.items)) m.top m.top.stage st.top.scene st.top.begun s e g.frames.0.begun stage begun)

    pub lays_here : (laid : Laid) → slice_get m.image.code.now.expressions.items s.expression ≡ Some laid
        → LaysOut m (firsts world p m m.top st.top st.held (code laws world p numbers m st n g)) laid
    lays_here laid at =
        let c = code laws world p numbers m st n g in
        lays_out laws world p m m.top st.top st.held c g.set_up.code.expressions s.expression laid (subst (IsOneOf c.sees.code.expressions) stage c.sees.own) at

    settled_so : canonical_pick world st.top (Some e) ≡ Control → is_settled world st.top e ≡ true
    settled_so pick =
        let straight =
        straight_so world m (length m.below.items) x.laid.first s.cursor x.laid.end st.top.scene e s.straight keeps.straight x.done in
        let next = takes_first world st.top e _ _ straight.along in
        settles_at_end world st.top e _ _ straight.along ∙ no_event world (first_of _) (sym next ∙ pick)

    -- what it names is open
    open_names : (laid : Laid) → slice_get m.image.code.now.expressions.items s.expression ≡ Some laid
        → NamesAreOpen m (firsts world p m m.top st.top st.held (code laws world p numbers m st n g)) st.top.scene.blocks laid.root.now
    open_names laid at =
        let same : e.root ≡ expr_of laid.root.now =
        x.root ∙ ap (λ (z : Laid). expr_of z.root.now) (same_Some x.laid laid (sym x.at ∙ at)) in
        names_open laws world p numbers m st n g laid.root.now
        (subst (ExprFits (objects laws world p numbers m st n g) (open_blocks st.top)) same (stays_in_scope world st.top st.held e g.ordered begun).names)

  -- ---- it can be settled
  behind : (o : Option ℕ) → m.top.function ≡ o
      → GoesBehind o m st e.what (settled world st.top (root_value world st.top e) e.what).todo
  behind (Some k) is =
      let f = sym (frame laws world p numbers m st n g).function ∙ is in
      let b = subst (IsBehind world st.top e) f (goes_behind world st.top st.held e g.ordered begun) in
      sym (same_ends world (ready_work (settled world st.top (root_value world st.top e) e.what).todo)) ∙ b (root_value world st.top e)
  behind None is =
      let f = sym (frame laws world p numbers m st n g).function ∙ is in
      let b = subst (IsBehind world st.top e) f (goes_behind world st.top st.held e g.ordered begun) in
      (b.0, λ last. can_end laws world p numbers m st n g)

  cases_of : (o : Option ℕ) (how : Use) → m.top.function ≡ o → HasCases m.image.code.now m.jumps o how
  cases_of None how is = tt
  cases_of (Some k) (for_use.Select b) is = labels_of laws world p numbers m st n g (Some k) is refl
  cases_of (Some k) for_use.Unused is = tt
  cases_of (Some k) (for_use.Branch s t) is = tt
  cases_of (Some k) (for_use.Enter s) is = tt
  cases_of (Some k) (for_use.GoRound b) is = tt
  cases_of (Some k) (for_use.GoAgain b) is = tt
  cases_of (Some k) for_use.Result is = tt

  usable : (s : Stage) (laid : Laid) → m.top.stage ≡ Some s → slice_get m.image.code.now.expressions.items s.expression ≡ Some laid
      → IsUsable m st.top.scene laid
  usable s laid stage at =
      let names = open_names s stage laid at in
      record {
        firsts = firsts world p m m.top st.top st.held (code laws world p numbers m st n g);
        value = (lays_here s stage laid at).lays.value;
        named = λ quiet.
            laws.root (record m { items = [] }) (firsts world p m m.top st.top st.held (code laws world p numbers m st n g)) st.top.scene.blocks s.expression
            laid (lawful_now laws world p numbers m st n g) (order_now laws world p numbers m st n g) at
            (names_clear m (firsts world p m m.top st.top st.held (code laws world p numbers m st n g)) st.top.scene.blocks laid.root.now names) quiet;
      }

  can_settle : CanSettle world m st e
  can_settle = record {
    behind = behind m.top.function refl;
    chooses = cases_of m.top.function m.top.how refl;
    addresses = g.set_up.world.addresses;
    usable = λ s laid stage at. usable s laid stage at;
  }

  -- ---- it stands as picks ask it
  stands_open : (s : Stage) → m.top.stage ≡ Some s → OpensSmall m st e → StandsOpen world (meaning laws world p numbers m st n g) m st e
  stands_open s stage small =
      let k = keeps s stage in
      record {
        stands = g.stands;
        begun = begun;
        chosen = λ b top. k.chosen b top;
        reached = reached_here world st.top.scene st.top.begun e g.reached.0 begun;
        arguments = (stays_in_scope world st.top st.held e g.ordered begun).arguments;
        result = small.result;
        rooms = k.rooms;
        below = rooms laws world p numbers m st n g;
      }

  pub is_open : (s : Stage) → m.top.stage ≡ Some s → OpensSmall m st e → IsOpenAs world p numbers m st e s
  is_open s stage small =
      let there = x s stage in
      let lays = lays_here s stage there.laid there.at in
      record {
        laid = there.laid;
        firsts = firsts world p m m.top st.top st.held (code laws world p numbers m st n g);
        nodes = lays.nodes;
        open_so = record {
          stood = stands_open s stage small;
          stage = stage;
          code = small.code;
          at = there.at;
          lays = lays.lays;
          names = open_names s stage there.laid there.at;
          ends = g.set_up.world.ends;
          small = small.given;
          bytes = small.bytes;
          lists = small.lists;
        };
        initializers = lays.initializers;
      }

pub open_stands_so : Laws → OpenStandsSo
open_stands_so laws world p numbers m st n e s g begun stage small = is_open laws world p numbers m st n g e begun s stage small

-- ---- the control step
pub control_goes_on : Laws → ControlGoesOn
control_goes_on laws world p numbers m st n g a pick = record {
  within = g.within;
  control = may st.top.begun refl pick;
  can = can st.top.begun refl;
}
  where
    may : (b : Option Begun) → st.top.begun ≡ b → canonical_pick world st.top b ≡ Control → MayPick world st.top b Control
    may None is pick = tt
    may (Some e) is pick =
        let s =
        stage_there world (meaning laws world p numbers m st n g m.top.function) m (length m.below.items) m.top m.top.stage st.top.scene st.top.begun e
        (frame laws world p numbers m st n g).begun is in
        settled_so laws world p numbers m st n g e is s.0 s.1 pick

    can : (b : Option Begun) → st.top.begun ≡ b → CanGoOn world m st b
    can None is = can_step laws world p numbers m st n g is (a.enters is)
    can (Some e) is = can_settle laws world p numbers m st n g e is
