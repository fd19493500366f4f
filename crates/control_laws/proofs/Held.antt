-- The frames that are held: their values keep to their rooms, and their objects to their places.
use Rattle.std.proofs.Common.{arith, ◌≡◌, ℕ, ◌+◌, ◌≤◌, List, [], ◌∷◌, length, map, Option, Some, None, slice_get, refl, sym, ap}
use Rattle.std.proofs.Common.{subst, ◌∙◌}
use Rattle.std.proofs.lemmas.Option.{same_Some}
use Rattle.ub_base.specs.declared.clause.Kind.TheVariants.{Body}
use Rattle.c_typed.specs.declared.program.Program.{Program}
use Rattle.c_typed.specs.declared.tree.Place.{Place}
use Rattle.c_typed.specs.Order.{place}
use Rattle.c_model.specs.ChoiceLaws.{IsNext}
use Rattle.c_model.specs.Steps.{Begun, Local}
use Rattle.c_model.specs.World.{World}
use Rattle.run_control.specs.declared.work.Work.{Work}
use Rattle.run_control.specs.View.{Meaning}
use Rattle.run_layout.specs.declared.steps.BlockCode.{BlockCode}
use Rattle.run_layout.specs.OfTrees.{ListsTrees}
use Rattle.run_layout.specs.Roots.{HaveCode}
use Rattle.run_statements.specs.declared.numbers.Numbers.{Numbers}
use Rattle.run_state.specs.declared.machine.Machine.{Machine}
use Rattle.run_state.specs.declared.machine.Open.{Open}
use Rattle.run_state.specs.declared.machine.Stage.{Stage}
use Rattle.run_state.specs.Meaning.{StandsProgram}
use Rattle.run_state.specs.Stands.{IsAbove, SeesLocals, StandFrames, StandsBegun, StandsFrame}
use Rattle.run_answers.specs.Ending.{HasRoomBelow, HasRoomIn, KeepToRooms, KeepsTo}
use Rattle.run_answers.specs.Entering.{AreBelow, KeepPlaces}
use Rattle.frame_laws.specs.Facts.{AllWait}
use Rattle.frame_laws.specs.Frames.{AreOrdered, function_round, objects_round, or_else}
use Rattle.frame_laws.specs.Reached.{AllWaitNext, WaitsNext}
use Rattle.run_laws.specs.Frames.{IsOneOf, KeepFrames, KeepsBegun, KeepsFrame, function_of}
use Rattle.run_laws.specs.SetUp.{IsItsCode}
use Rattle.control_laws.proofs.Laws.{Laws}
use Rattle.control_laws.proofs.Rooms.{in_rooms, lays_out, room_free}
use Rattle.control_laws.proofs.Rounds.{AllHave, open_have}
use Rattle.control_laws.proofs.Seen.{OfCode, block_at, firsts, of_code}

abbrev pub with_waiting : Local × Place → Local × Option Place
with_waiting h = (h.0, Some h.1)

-- the frames from some one down that are held
abbrev pub AreOrderedFrom : World → List (Local × Place) → Type 0
AreOrderedFrom world [] = Unit {0}
AreOrderedFrom world (h ∷ hs) = AreOrdered world h.0 hs

pub ordered_below : (world : World) (f : Local) (hs : List (Local × Place)) → AreOrdered world f hs → AreOrderedFrom world hs
ordered_below world f [] a = tt
ordered_below world f (h ∷ hs) a = a.2

-- ---- frames have the functions of the definitions
abbrev pub SameFunctions : List Open → List (Local × Place) → Type 0
SameFunctions [] [] = Unit {0}
SameFunctions (o ∷ os) (h ∷ hs) = (o.function ≡ h.0.function) × SameFunctions os hs
SameFunctions _ _ = ⊥

pub same_functions : (world : World) (meaning : Option ℕ → Meaning) (m : Machine) (os : List Open) (wss : List (List Work)) (hs : List (Local × Place))
    → StandFrames world meaning m None os wss (map with_waiting hs) → SameFunctions os hs
same_functions world meaning m [] wss [] s = tt
same_functions world meaning m [] wss (h ∷ hs) s = absurd s
same_functions world meaning m (o ∷ os) [] hs s = absurd s
same_functions world meaning m (o ∷ os) (ws ∷ wss) [] s = absurd s
same_functions world meaning m (o ∷ os) (ws ∷ wss) (h ∷ hs) s = (s.0.function, same_functions world meaning m os wss hs s.2)

-- so what each sees is a function of theirs
round_by : (n : Option ℕ) (os : List Open) (hs : List (Local × Place)) (rest : Option ℕ) → (n ≡ None → function_of None os ≡ rest)
    → function_of n os ≡ or_else n rest
round_by (Some k) os hs rest f = refl
round_by None os hs rest f = f refl

last_by : (n : Option ℕ) → function_of n [] ≡ n
last_by (Some k) = refl
last_by None = refl

pub round_same : (os : List Open) (hs : List (Local × Place)) (n : Option ℕ) (f : Local) → n ≡ f.function → SameFunctions os hs
    → function_of n os ≡ function_round f hs
round_same [] [] n f is all = last_by n ∙ is
round_same [] (h ∷ hs) n f is all = absurd all
round_same (o ∷ os) [] n f is all = absurd all
round_same (o ∷ os) (h ∷ hs) n f is all =
    round_by n (o ∷ os) (h ∷ hs) (function_round h.0 hs) (λ none. round_same os hs o.function h.0 all.0 all.1)
    ∙ ap (λ k. or_else k (function_round h.0 hs)) is

-- ---- a frame that is held
pub record HeldFrame (world : World) (p : Program) (meaning : Option ℕ → Meaning) (m : Machine) (n : ℕ) (o : Open) (os : List Open) (h : Local × Place)
    (hs : List (Local × Place)) : Type 0 where
  pub work : List Work
  pub stands : StandsFrame world (meaning o.function) m (length os) o work None h.0 (Some h.1)
  pub above : IsAbove o h.0 os (map with_waiting hs)
  pub keeps : KeepsFrame world m o os h.0 n
  pub ordered : AreOrdered world h.0 hs
  pub next : WaitsNext world h.0.scene h.0.begun h.1
  pub arguments : h.0.arguments ≡ []
  pub code : OfCode world p m o h.0 hs

abbrev pub HeldFrames : World → Program → (Option ℕ → Meaning) → Machine → ℕ → List Open → List (Local × Place) → Type 0
HeldFrames world p meaning m n [] [] = Unit {0}
HeldFrames world p meaning m n (o ∷ os) (h ∷ hs) = HeldFrame world p meaning m n o os h hs × HeldFrames world p meaning m n os hs
HeldFrames world p meaning m n _ _ = ⊥

module _ (world : World) (p : Program) (meaning : Option ℕ → Meaning) (m : Machine) (n : ℕ) where
  pub held_frames : HaveCode p.functions m.image.code.now → StandsProgram world p → (os : List Open) (wss : List (List Work)) (hs : List (Local × Place))
      → StandFrames world meaning m None os wss (map with_waiting hs) → KeepFrames world m os (map (λ h. h.0) hs) n → AreOrderedFrom world hs
      → AllWaitNext world hs → AllWait hs → HeldFrames world p meaning m n os hs
  held_frames have program [] wss [] s k a next waits = tt
  held_frames have program [] wss (h ∷ hs) s k a next waits = absurd s
  held_frames have program (o ∷ os) [] hs s k a next waits = absurd s
  held_frames have program (o ∷ os) (ws ∷ wss) [] s k a next waits = absurd s
  held_frames have program (o ∷ os) (ws ∷ wss) (h ∷ hs) s k a next waits =
      let same = round_same os hs o.function h.0 s.0.function (same_functions world meaning m os wss hs s.2) in (
        record {
          work = ws;
          stands = s.0;
          above = s.1;
          keeps = k.0;
          ordered = a;
          next = next.0;
          arguments = waits.2;
          code = of_code world p m o h.0 hs (function_of o.function os) (function_of o.function os) refl same k.0.sees have program;
        },
        held_frames have program os wss hs s.2 k.1 (ordered_below world h.0 hs a) next.1 waits.3,
      )

  -- ---- values keep to their rooms
  module _ (laws : Laws) (numbers : Numbers) (listed : ListsTrees m.image.code.now) (code : IsItsCode p numbers m.image.code.now) where
    keeps_to : (o : Open) (os : List Open) (h : Local × Place) (hs : List (Local × Place)) (k : HeldFrame world p meaning m n o os h hs)
        → (stage : Option Stage) (b : Option Begun) → IsOneOf k.code.sees.code.expressions stage
        → StandsBegun world (meaning o.function) m (length os) o stage h.0.scene b (Some h.1) → WaitsNext world h.0.scene b h.1
        → KeepsTo m.image.code.now o.rooms stage h.0 b
    keeps_to o os h hs k None b own x next = tt
    keeps_to o os h hs k (Some s) None own x next = tt
    keeps_to o os h hs k (Some s) (Some e) own x next = (
      k.arguments,
      in_rooms laws world (meaning o.function) m (length os) o s h.0.scene e (Some h.1) x listed (firsts world p m o h.0 hs k.code)
          (lays_out laws world p m o h.0 hs k.code code.expressions s.expression x.laid own x.at) next.0,
    )

    pub keep_to_rooms : (os : List Open) (hs : List (Local × Place)) → HeldFrames world p meaning m n os hs → KeepToRooms m.image.code.now os hs
    keep_to_rooms [] [] k = tt
    keep_to_rooms [] (h ∷ hs) k = tt
    keep_to_rooms (o ∷ os) [] k = tt
    keep_to_rooms (o ∷ os) (h ∷ hs) k =
        (keeps_to o os h hs k.0 o.stage h.0.begun k.0.code.sees.own k.0.stands.begun k.0.next, keep_to_rooms os hs k.1)

    -- the room of the node whose body waits is free
    free_in : (o : Open) (os : List Open) (h : Local × Place) (hs : List (Local × Place)) (node : ℕ) (k : HeldFrame world p meaning m n o os h hs)
        → h.1 ≡ place node Body → (stage : Option Stage) (b : Option Begun) → IsOneOf k.code.sees.code.expressions stage
        → StandsBegun world (meaning o.function) m (length os) o stage h.0.scene b (Some h.1) → WaitsNext world h.0.scene b h.1
        → KeepsBegun world m (length os) o stage h.0.scene b
        → HasRoomIn m.image.code.now (length m.values.items) (o.base + node) node stage b
    free_in o os h hs node k at None b own x next keeps = tt
    free_in o os h hs node k at (Some s) None own x next keeps = tt
    free_in o os h hs node k at (Some s) (Some e) own x next keeps =
        room_free laws world (meaning o.function) m (length os) o s h.0.scene e (Some h.1) x listed (firsts world p m o h.0 hs k.code)
        (lays_out laws world p m o h.0 hs k.code code.expressions s.expression x.laid own x.at) next.0 node
        (subst (IsNext world h.0.scene e) at next.1) (length m.values.items) keeps.rooms

    pub room_below : (node : ℕ) (os : List Open) (hs : List (Local × Place))
        → ((h : Local × Place) (hs' : List (Local × Place)) → hs ≡ h ∷ hs' → h.1 ≡ place node Body)
        → HeldFrames world p meaning m n os hs → HasRoomBelow m.image.code.now (length m.values.items) node os hs
    room_below node [] [] at k = tt
    room_below node [] (h ∷ hs) at k = tt
    room_below node (o ∷ os) [] at k = tt
    room_below node (o ∷ os) (h ∷ hs) at k =
        free_in o os h hs node k.0 (at h hs refl) o.stage h.0.begun k.0.code.sees.own k.0.stands.begun k.0.next k.0.keeps.begun

    -- ---- objects stand below those of the frame above
    are_below : (o : Open) (f : Local) (hs : List (Local × Place)) (c : OfCode world p m o f hs) (limit : ℕ) → o.above ≤ limit → (bs : List (ℕ × ℕ))
        → AllHave (objects_round world f hs) (map (λ b. b.0) bs) → AreBelow m.image.code.now o limit bs
    are_below o f hs c limit under [] all = tt
    are_below o f hs c limit under (b ∷ bs) all =
        let it = block_at world p m o f hs c laws code.blocks b.0 all.0.0 all.0.1 in
        let blocks = c.sees.blocks in
        let above = c.sees.above in (
          (λ z at.
              let same : it.block ≡ z =
              same_Some it.block z (sym it.at ∙ (ap (λ k. slice_get m.image.code.now.tables.blocks.items (k + b.0)) (sym blocks) ∙ at)) in
              let within = subst (λ (y : BlockCode). y.first + y.objects.count ≤ c.sees.code.objects) same it.within in
              omega (arith, within, above, under)),
          are_below o f hs c limit under bs all.1,
        )

    locals_under : (function : Option ℕ) (o below : Open) (f g : Local) → SeesLocals function o f below g → o.locals ≤ o.above → below.above ≤ o.above
    locals_under (Some k) o below f g sees le = let same = sees.0 in omega (arith, same, le)
    locals_under None o below f g sees le = let same = sees.1 in omega (arith, same)

    pub keep_places : (limit : ℕ) (os : List Open) (hs : List (Local × Place)) → HeldFrames world p meaning m n os hs
        → ((o : Open) (os' : List Open) → os ≡ o ∷ os' → o.above ≤ limit) → KeepPlaces m.image.code.now limit os hs
    keep_places limit [] [] k under = tt
    keep_places limit [] (h ∷ hs) k under = tt
    keep_places limit (o ∷ os) [] k under = tt
    keep_places limit (o ∷ os) (h ∷ hs) k under = (
      are_below o h.0 hs k.0.code limit (under o os refl) h.0.scene.blocks (open_have world hs h.0 k.0.ordered),
      keep_places limit os hs k.1 (next os hs k.0.above),
    )
      where
        lower : o.locals ≤ o.above
        lower = let above = k.0.code.sees.above in omega (arith, above)

        next : (ps : List Open) (gs : List (Local × Place)) → IsAbove o h.0 ps (map with_waiting gs) → (q : Open) (qs : List Open) → ps ≡ q ∷ qs
            → q.above ≤ limit
        next [] gs a q qs is = absurd (cc)
        next (r ∷ rs) [] a q qs is = absurd a
        next (r ∷ rs) (g ∷ gs) a q qs is =
            let same : r ≡ q = cc in
            let le = locals_under o.function o r h.0 g.0 a.locals lower in
            let top = under o os refl in
            let here : r.above ≤ limit = omega (arith, le, top) in
            subst (λ (z : Open). z.above ≤ limit) same here
