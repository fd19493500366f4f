-- The top frame of a machine that is going: its function, its blocks, and what its full expression names.
use Rattle.std.proofs.Common.{arith, ◌≡◌, ℕ, ◌==◌, inl, inr, Bool, true, false, List, [], ◌∷◌}
use Rattle.std.proofs.Common.{length, map, reverse, Option, Some, None}
use Rattle.std.proofs.Common.{slice_get, refl, sym, ap, subst, ◌∙◌}
use Rattle.std.specs.Prelude.{◌||◌, is_some}
use Rattle.std.proofs.lemmas.Bool.Decides.{nat_tests}
use Rattle.std.proofs.lemmas.List.Elements.{All-weaker}
use Rattle.std.proofs.lemmas.Option.{same_Some}
use Rattle.ub_base.specs.declared.clause.Kind.TheVariants.{Body}
use Rattle.c_typed.specs.declared.program.Program.{Program}
use Rattle.c_typed.specs.declared.tree.Node.TheOpen as shape
use Rattle.c_typed.specs.declared.tree.Place.{Place}
use Rattle.c_typed.specs.declared.tree.Slot.{Slot}
use Rattle.c_typed.specs.declared.tree.Slot.TheVariants as slot
use Rattle.c_typed.specs.declared.tree.Typed.{Typed}
use Rattle.c_typed.specs.Lawful.{IsLawful}
use Rattle.c_typed.specs.Order.{place}
use Rattle.c_typed.specs.Sites.{Head, sites}
use Rattle.c_model.specs.Program.{Decl}
use Rattle.c_model.specs.Runs.{State}
use Rattle.c_model.specs.Steps.{Local, Scene}
use Rattle.c_model.specs.World.{World}
use Rattle.program_view.specs.Trees.{expr_of}
use Rattle.run_control.specs.View.{Meaning}
use Rattle.run_statements.specs.declared.numbers.Numbers.{Numbers}
use Rattle.run_state.specs.declared.machine.Machine.{Machine}
use Rattle.run_state.specs.declared.machine.Open.{Open}
use Rattle.run_state.specs.Operands.{IsThere, StandsObjects, is_open}
use Rattle.run_state.specs.Stands.{IsAbove, StandLocals, StandsFrame}
use Rattle.run_answers.specs.Beginning.{next_turn}
use Rattle.run_answers.specs.Ending.{CanEnd, HasRoomBelow, IsFunctionIn, KeepToRooms}
use Rattle.code_view.specs.Blocks.{HasBlockAt}
use Rattle.code_view.specs.Known.{AreInOrder}
use Rattle.code_view.specs.Named.{NamedIsOpen, NamesAreOpen, SlotIsOpen}
use Rattle.code_view.specs.Numbering.{meaning_of}
use Rattle.frame_laws.specs.Frames.{IsScoped, function_round, objects_round, open_blocks}
use Rattle.frame_laws.specs.Named.{named_at}
use Rattle.frame_laws.specs.Scopes.{AreOpen, ExprFits, HasObject, IsOneOf, Objects}
use Rattle.frame_laws.specs.Scopes as scopes
use Rattle.frame_laws.proofs.FactsHold.{held_wait}
use Rattle.frame_laws.proofs.LawfulPrograms.{lawful_is_scoped}
use Rattle.frame_laws.proofs.NamedNodes.{nodes_in_scope}
use Rattle.run_laws.specs.Frames.{function_of}
use Rattle.run_laws.specs.Going.{IsGoing}
use Rattle.control_laws.proofs.Held.{HeldFrames, held_frames, keep_to_rooms, ordered_below, room_below, round_same, same_functions, with_waiting}
use Rattle.control_laws.proofs.Laws.{Laws, top_frame}
use Rattle.control_laws.proofs.Seen.{OfCode, block_at, firsts, of_code, parameters}

-- ---- names of open blocks
same_number : (a b : ℕ) → a ≡ b → (a == b) ≡ true
same_number a b e = grind (arith, nat_tests, e)

or_right : (a b : Bool) → b ≡ true → (a || b) ≡ true
or_right true b h = refl
or_right false b h = h

open_is : (bs : List (ℕ × ℕ)) (k : ℕ) → IsOneOf k (map (λ b. b.0) bs) → is_open bs k ≡ true
open_is [] k is = absurd is
open_is (b ∷ bs) k (inl e) = ap (λ (z : Bool). z || is_open bs k) (same_number b.0 k e)
open_is (b ∷ bs) k (inr is) = or_right (b.0 == k) (is_open bs k) (open_is bs k is)

-- the body that waits is that of the frame above
pub waits_at : (o : Open) (f : Local) (os : List Open) (hs : List (Local × Place)) → IsAbove o f os (map with_waiting hs) → (h : Local × Place)
    (rest : List (Local × Place)) → hs ≡ h ∷ rest → h.1 ≡ place o.node Body
waits_at o f [] [] a h rest e = absurd (cc)
waits_at o f [] (g ∷ gs) a h rest e = absurd a
waits_at o f (p ∷ os) [] a h rest e = absurd a
waits_at o f (p ∷ os) (g ∷ gs) a h rest e =
    let same : g ≡ h = cc in
    subst (λ (z : Local × Place). z.1 ≡ place o.node Body) same (same_Some g.1 (place o.node Body) a.waits)

round_own : (f : Local) (hs : List (Local × Place)) (k : ℕ) → f.function ≡ Some k → function_round f hs ≡ Some k
round_own f [] k is = is
round_own f (h ∷ hs) k is = round_by f.function is
  where
    round_by : (o : Option ℕ) → o ≡ Some k → function_round (record f { function = o }) (h ∷ hs) ≡ Some k
    round_by (Some j) e = e
    round_by None e = absurd (cc)

locals_turned : (world : World) (m : Machine) (o : Open) (f : Scene) (bs : List (ℕ × ℕ)) → StandLocals world m o f bs
    → StandLocals world m o (next_turn f) bs
locals_turned world m o f [] l = tt
locals_turned world m o f (b ∷ bs) l = (l.0, locals_turned world m o f bs l.1)

module _ (laws : Laws) (world : World) (p : Program) (numbers : Numbers) (m : Machine) (st : State) (n : ℕ) (g : IsGoing world p numbers m st n) where
  abbrev pub meaning : Option ℕ → Meaning
  meaning = meaning_of p numbers m.image.code.now

  abbrev pub below : List Open
  below = reverse m.below.items

  pub scoped : IsScoped world
  scoped = lawful_is_scoped laws.text p world g.set_up.whole.lawful g.set_up.world.program.functions

  pub lawful_now : IsLawful m.program.now
  lawful_now = subst IsLawful (sym g.program) g.set_up.whole.lawful

  pub order_now : AreInOrder m.program.now m.image.code.now
  order_now = subst (λ (q : Program). AreInOrder q m.image.code.now) (sym g.program) g.set_up.code.order

  pub frame : StandsFrame world (meaning m.top.function) m (length m.below.items) m.top m.work.now m.left st.top None
  frame = top_frame world meaning m st g.stands

  pub held : HeldFrames world p meaning m n below st.held
  held =
      held_frames world p meaning m n g.set_up.code.functions g.set_up.world.program below m.work.below st.held g.stands.frames.2 g.frames.1
      (ordered_below world st.top st.held g.ordered) g.reached.1 (held_wait world st.top st.held g.ordered)

  pub code : OfCode world p m m.top st.top st.held
  code =
      of_code world p m m.top st.top st.held (function_of m.top.function below) (function_of m.top.function below) refl
      (round_same below st.held m.top.function st.top frame.function (same_functions world meaning m below m.work.below st.held g.stands.frames.2))
      g.frames.0.sees g.set_up.code.functions g.set_up.world.program

  pub number_is : (k : ℕ) → m.top.function ≡ Some k → code.number ≡ k
  number_is k is = same_Some code.number k (sym code.around ∙ round_own st.top st.held k (sym frame.function ∙ is))

  abbrev pub objects : Objects
  objects = objects_round world st.top st.held

  pub block_of : (k : ℕ) (ds : List Decl) → objects k ≡ Some ds
      → HasBlockAt m.image.code.now.tables code.sees.code (firsts world p m m.top st.top st.held code) (parameters world p m m.top st.top st.held code) ds k
  block_of k ds e = block_at world p m m.top st.top st.held code laws g.set_up.code.blocks k ds e

  -- ---- the frames below
  pub rooms : KeepToRooms m.image.code.now below st.held
  rooms = keep_to_rooms world p meaning m n laws numbers g.stands.listed g.set_up.code below st.held held

  pub room : HasRoomBelow m.image.code.now (length m.values.items) m.top.node below st.held
  room =
      room_below world p meaning m n laws numbers g.stands.listed g.set_up.code m.top.node below st.held
      (waits_at m.top st.top below st.held g.stands.frames.1) held

  function_in : (o : Option ℕ) → m.top.function ≡ o → IsFunctionIn m.program.now o
  function_in None is = tt
  function_in (Some k) is =
      let there = ap (λ j. slice_get p.functions j) (sym (number_is k is)) ∙ code.there in
      ap (λ (q : Program). is_some (slice_get q.functions k)) g.program ∙ ap is_some there

  pub can_end : CanEnd m st
  can_end = record { function = function_in m.top.function refl; rooms = rooms; room = room }

  -- ---- what its full expression names
  slot_open : (s : Slot) → scopes.IsOpen objects (open_blocks st.top) s
      → SlotIsOpen m (firsts world p m m.top st.top st.held code) st.top.scene.blocks s
  slot_open (slot.Static k) is = tt
  slot_open (slot.Auto b d) is = go (objects b) refl is.1
    where
      go : (o : Option (List Decl)) → objects b ≡ o → HasObject d o
          → IsThere m (firsts world p m m.top st.top st.held code) st.top.scene.blocks (slot.Auto b d)
      go None e h = absurd h
      go (Some ds) e h =
          laws.there m code.sees.code (firsts world p m m.top st.top st.held code) (parameters world p m m.top st.top st.held code) ds b d
          st.top.scene.blocks code.sees.blocks (block_of b ds e) h (open_is st.top.scene.blocks b is.0)

  head_open : (h : Head) → AreOpen objects (open_blocks st.top) (named_at h)
      → NamedIsOpen m (firsts world p m m.top st.top st.held code) st.top.scene.blocks h
  head_open (shape.Obj s) is = slot_open s is.0
  head_open (shape.List s bytes) is = slot_open s is.0
  head_open _ is = tt

  pub names_open : (t : Typed) → ExprFits objects (open_blocks st.top) (expr_of t)
      → NamesAreOpen m (firsts world p m m.top st.top st.held code) st.top.scene.blocks t
  names_open t fits =
      All-weaker (λ s. AreOpen objects (open_blocks st.top) (named_at s.head))
      (λ s. NamedIsOpen m (firsts world p m m.top st.top st.held code) st.top.scene.blocks s.head) (λ s is. head_open s.head is) (sites t)
      (nodes_in_scope objects (open_blocks st.top) t fits)

  pub stand_next : StandsObjects world m (next_turn st.top.scene)
  stand_next = record {
    rows = g.stands.memory.rows;
    addresses = g.set_up.world.addresses;
    places = g.stands.tables.places;
    locals = locals_turned world m m.top st.top.scene st.top.scene.blocks frame.locals;
  }
