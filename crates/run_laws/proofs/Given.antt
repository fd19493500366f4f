-- What an event takes that may come next, and isn't a body, is given; so it can be taken.
use Rattle.std.proofs.Common.{arith, ◌≡◌, ◌+◌, ◌-◌, ◌<◌, ◌≤◌, ◌^◌, min, ℕ, zero, suc, Bool, true, false, List, [], ◌∷◌, length, take, drop}
use Rattle.std.proofs.Common.{Option, Some, None, slice_get, refl, sym, ap, subst, ◌∙◌}
use Rattle.std.specs.Borrow.{Bor}
use Rattle.std.proofs.lemmas.List.Elements.{All-weaker}
use Rattle.std.proofs.lemmas.Option.{same_Some}
use Rattle.ub_base.specs.declared.names.Item.{Item}
use Rattle.addr_map.specs.declared.map.Row.{Row}
use Rattle.c_typed.specs.declared.tree.Node.TheOpen as shape
use Rattle.c_typed.specs.declared.tree.Slot.{Slot}
use Rattle.c_typed.specs.declared.tree.Slot.TheVariants as slot
use Rattle.c_typed.specs.declared.tree.Typed.{Typed}
use Rattle.c_typed.specs.Order.{is_body}
use Rattle.c_typed.specs.Sites.{Head, sites}
use Rattle.c_model.specs.Program as model
use Rattle.c_model.specs.Program.{Expr, expr, tree_of}
use Rattle.c_model.specs.Runs.{State}
use Rattle.c_model.specs.Steps.{Begun, Ev, MayPick, Scene}
use Rattle.c_model.specs.World.{World}
use Rattle.program_view.specs.Trees.{expr_of}
use Rattle.run_control.specs.View.{Meaning}
use Rattle.run_layout.specs.declared.nodes.NodeInfo.{NodeInfo}
use Rattle.run_layout.specs.declared.steps.Due.{Due}
use Rattle.run_layout.specs.declared.steps.Expression.{Expression as Laid}
use Rattle.run_layout.specs.declared.steps.Listed.{Listed}
use Rattle.run_layout.specs.declared.steps.Listed.TheVariants as listed
use Rattle.run_layout.specs.Chosen.{Views}
use Rattle.run_layout.specs.EventActs.{IsDue, IsEntry}
use Rattle.run_layout.specs.OfTrees.{listing_in}
use Rattle.run_listing.specs.Along.{IsListed, part_of}
use Rattle.run_state.specs.declared.machine.Machine.{Machine}
use Rattle.run_state.specs.declared.machine.Stage.{Stage}
use Rattle.run_state.specs.Operands.{AreAddresses, StandsObjects}
use Rattle.run_state.specs.Stands.{StandLocals, StandsDone, StandsExpression, StandsValues}
use Rattle.run_answers.specs.Nodes.{ActsAreOfNodes, IsActOf, head_of, TakesGiven}
use Rattle.run_answers.specs.Takes as takes
use Rattle.run_answers.specs.Takes.{NodeStands, PermittedTakesGiven}
use Rattle.run_answers.specs.Picks.{whole_part, ComesNext, NextIsPermitted}
use Rattle.run_answers.specs.Taking.{HasRooms, IsAt, IsEventOf, past_event, passed_stage}
use Rattle.code_view.specs.Events.{EventsAreEvaluated, IsListedAt}
use Rattle.code_view.specs.Named.{ListIsThere, NamedIsOpen, NamesAreOpen, OpenIsKnown, OpenIsNamed, SlotIsOpen}
use Rattle.run_laws.specs.Asked.{CodeHasRooms}
use Rattle.run_laws.specs.Given.{MovesAreNear, OpenCanBeTaken, OpenMayTake, OpenMayTakeNext, OpenTakesGiven}
use Rattle.run_laws.specs.Open.{aside, IsOpen}
use Rattle.value_facts.specs.Small.{EndInTime}
use Rattle.run_laws.proofs.Frames.{one_open, top_frame}

-- each row begins at an address
pub addresses_of : (rows : List Row) → EndInTime rows → AreAddresses rows
addresses_of rows ends x r e = let l = ends x r e in omega (arith, l)

-- ---- what is said of a machine whatever its cursor is, and whatever it has touched
locals_aside : (world : World) (m : Machine) (stage : Option Stage) (items : List Item) (f : Scene) (bs : List (ℕ × ℕ)) → StandLocals world m m.top f bs
    → StandLocals world (aside m stage items) (aside m stage items).top f bs
locals_aside world m stage items f [] l = tt
locals_aside world m stage items f (b ∷ bs) l = (l.0, locals_aside world m stage items f bs l.1)

slot_aside : (m : Machine) (stage : Option Stage) (items : List Item) (firsts : List ℕ) (bs : List (ℕ × ℕ)) (s : Slot) → SlotIsOpen m firsts bs s
    → SlotIsOpen (aside m stage items) firsts bs s
slot_aside m stage items firsts bs (slot.Auto block decl) h = h
slot_aside m stage items firsts bs (slot.Static number) h = h

name_aside : (m : Machine) (stage : Option Stage) (items : List Item) (firsts : List ℕ) (bs : List (ℕ × ℕ)) (h : Head) → NamedIsOpen m firsts bs h
    → NamedIsOpen (aside m stage items) firsts bs h
name_aside m stage items firsts bs (shape.Obj named) is = slot_aside m stage items firsts bs named is
name_aside m stage items firsts bs (shape.List named bytes) is = slot_aside m stage items firsts bs named is
name_aside m stage items firsts bs _ is = tt

names_aside : (m : Machine) (stage : Option Stage) (items : List Item) (firsts : List ℕ) (bs : List (ℕ × ℕ)) (t : Typed) → NamesAreOpen m firsts bs t
    → NamesAreOpen (aside m stage items) firsts bs t
names_aside m stage items firsts bs t all =
    All-weaker (λ s. NamedIsOpen m firsts bs s.head) (λ s. NamedIsOpen (aside m stage items) firsts bs s.head)
    (λ s h. name_aside m stage items firsts bs s.head h) (sites t) all

pub values_aside : (world : World) (m : Machine) (stage : Option Stage) (items : List Item) (first end : ℕ) (f : Scene) (e : Begun)
    → StandsValues world m m.top.base first end f e → StandsValues world (aside m stage items) (aside m stage items).top.base first end f e
values_aside world m stage items first end f e v = record { val = v.val; body = v.body; update = v.update }

list_there : (m : Machine) (firsts : List ℕ) (bs : List (ℕ × ℕ)) (e : Expr) → ListIsThere m firsts bs e → takes.ListIsThere m firsts bs (head_of e)
list_there m firsts bs (expr (model.Listed named fillings) ty line es) h = h
list_there m firsts bs (expr _ ty line es) h = tt

-- ---- an entry of a part of the listing
within : {A : Type 0} (k : ℕ) (xs : List A) (n : ℕ) (x : A) → slice_get (take k xs) n ≡ Some x → n < k
within zero xs n x e = absurd (cc)
within (suc k) [] n x e = absurd (cc)
within (suc k) (y ∷ ys) zero x e = omega arith
within (suc k) (y ∷ ys) (suc n) x e = (let lt = within k ys n x e in omega (arith, lt))

in_front : {A : Type 0} (n : ℕ) (xs : List A) (i : ℕ) → i < n → slice_get (take n xs) i ≡ slice_get xs i
in_front zero xs i lt = absurd (omega (arith, lt))
in_front (suc n) [] i lt = refl
in_front (suc n) (x ∷ xs) zero lt = refl
in_front (suc n) (x ∷ xs) (suc i) lt = in_front n xs i (omega (arith, lt))

behind : {A : Type 0} (n : ℕ) (xs : List A) (i : ℕ) → slice_get (drop n xs) i ≡ slice_get xs (n + i)
behind zero xs i = ap (slice_get xs) (omega arith)
behind (suc n) [] i = refl
behind (suc n) (x ∷ xs) i = let e : suc (n + i) ≡ suc n + i = omega arith in behind n xs i ∙ ap (slice_get (x ∷ xs)) e

-- .. is one of the listing
listed_at : (listing : List Listed) (first end i : ℕ) (d : Due) → slice_get (part_of listing first end) i ≡ Some (listed.Event d)
    → (first + i < end) × (slice_get listing (first + i) ≡ Some (listed.Event d))
listed_at listing first end i d at =
    let lt = within (end - first) (drop first listing) i (listed.Event d) at in (
      omega (arith, lt),
      sym (behind first listing i) ∙ (sym (in_front (end - first) (drop first listing) i lt) ∙ at),
    )

-- .. which is one of the part
pub in_listing : (listing : List Listed) (laid : Laid) (d : Due) → IsListedAt listing laid d → IsListed (part_of listing laid.first laid.end) d
in_listing listing laid d is =
    let i = is.at in
    let first = is.first in
    let end = is.end in
    let same : laid.first + (i - laid.first) ≡ i = omega (arith, first) in (
      i - laid.first,
      in_front (laid.end - laid.first) (drop laid.first listing) (i - laid.first) (omega (arith, first, end))
          ∙ (behind laid.first listing (i - laid.first) ∙ (ap (slice_get listing) same ∙ is.entry)),
    )

-- what stands in a later part stands in the whole
in_whole : (listing : List Listed) (first cursor end i : ℕ) (d : Due) → first ≤ cursor → slice_get (part_of listing cursor end) i ≡ Some (listed.Event d)
    → IsListed (part_of listing first end) d
in_whole listing first cursor end i d le at =
    let there = listed_at listing cursor end i d at in
    let lt = there.0 in
    let same : first + ((cursor - first) + i) ≡ cursor + i = omega (arith, le) in (
      (cursor - first) + i,
      in_front (end - first) (drop first listing) ((cursor - first) + i) (omega (arith, lt, le))
          ∙ (behind first listing ((cursor - first) + i) ∙ (ap (slice_get listing) same ∙ there.1)),
    )

pub part_same : (listing : List Listed) (a b c d : ℕ) → a ≡ b → c ≡ d → part_of listing a c ≡ part_of listing b d
part_same listing a b c d h k = ap (λ (n : ℕ). part_of listing n c) h ∙ ap (λ (n : ℕ). part_of listing b n) k

-- ---- the full expression that is open
module _ (world : World) (meaning : Option ℕ → Meaning) (m : Machine) (st : State) (e : Begun) (s : Stage) (laid : Laid) (firsts : List ℕ)
    (nodes : List NodeInfo) (o : IsOpen world meaning m st e s laid firsts nodes) where
  abbrev f : Scene
  f = st.top.scene

  abbrev Stands : Begun → Type 0
  Stands x = StandsExpression world (meaning m.top.function) m (length m.below.items) m.top s f x None

  pub expression : Stands e
  expression =
      let frame = top_frame world meaning m st o.stood.stands in
      let there = one_open world (meaning m.top.function) m (length m.below.items) m.top m.top.stage s f st.top.begun frame.begun o.stage in
      subst Stands (same_Some there.0 e (sym there.1 ∙ o.stood.begun)) there.2

  same_laid : expression.laid ≡ laid
  same_laid = same_Some expression.laid laid (sym expression.at ∙ o.at)

  pub first_is : s.first ≡ laid.first
  first_is = expression.first ∙ ap (λ (z : Laid). z.first) same_laid

  pub end_is : s.end ≡ laid.end
  end_is = expression.end ∙ ap (λ (z : Laid). z.end) same_laid

  pub root_is : e.root ≡ expr_of laid.root.now
  root_is = expression.root ∙ ap (λ (z : Laid). expr_of z.root.now) same_laid

  pub rooms_is : m.top.rooms ≡ laid.rooms
  rooms_is = expression.rooms ∙ ap (λ (z : Laid). z.rooms) same_laid

  -- places in the listing are below 2^64
  pub end_small : s.end < 2 ^ 64
  end_small =
      let within = o.lays.within in
      let end = end_is in
      omega (arith, within, end, m.image.code.now.listing.ok.0)

  pub values_are : StandsValues world m m.top.base laid.first laid.end f e
  values_are = subst (λ (z : Laid). StandsValues world m m.top.base z.first z.end f e) same_laid expression.values

  -- an event that is listed of it
  pub listed_is : (d : Due) → IsListed (whole_part m s) d → IsListedAt m.image.code.now.listing.items laid d
  listed_is d is =
      let part = part_same m.image.code.now.listing.items s.first laid.first s.end laid.end first_is end_is in
      let there = listed_at m.image.code.now.listing.items laid.first laid.end is.0 d (ap (λ es. slice_get es is.0) (sym part) ∙ is.1) in
      record { at = laid.first + is.0; first = omega arith; end = there.0; entry = there.1 }

  pub entry_is : (d : Due) → IsListed (whole_part m s) d → IsEntry firsts m.image.code.now.tables nodes (listed.Event d)
  entry_is d is = let there = listed_is d is in o.lays.each there.at (listed.Event d) there.first there.end there.entry

  pub due_is : (d : Due) (x : NodeInfo) → IsListed (whole_part m s) d → slice_get nodes d.place.node ≡ Some x
      → IsDue firsts m.image.code.now.tables (length nodes) d x
  due_is d x is at =
      let entry = entry_is d is in
      subst (λ (z : NodeInfo). IsDue firsts m.image.code.now.tables (length nodes) d z) (same_Some entry.0 x (sym entry.1 ∙ at)) entry.2

  module _ (stage : Option Stage) (items : List Item) where
    abbrev n : Machine
    n = aside m stage items

    pub objects : StandsObjects world n f
    objects = record {
      rows = o.stood.stands.memory.rows;
      addresses = addresses_of world.rows o.ends;
      places = o.stood.stands.tables.places;
      locals = locals_aside world m stage items f f.blocks (top_frame world meaning m st o.stood.stands).locals;
    }

    names : NamesAreOpen n firsts f.blocks laid.root.now
    names = names_aside m stage items firsts f.blocks laid.root.now o.names

    pub views : OpenIsKnown → Views world f firsts 0 laid.root.now e.root
    views known =
        subst (Views world f firsts 0 laid.root.now) (sym root_is)
        (known world n f st.store firsts s.expression laid o.code.lawful o.code.order o.at (record {
          store = o.stood.stands.memory.store;
          sound = o.stood.stands.memory.sound;
          tagged = o.stood.stands.memory.tagged;
          bare = o.stood.stands.memory.bare;
          high = o.stood.stands.memory.high;
          rows = o.stood.stands.memory.rows;
        }) objects names)

    pub node_stands : OpenIsNamed → (i : ℕ) (x : NodeInfo) → slice_get nodes i ≡ Some x → NodeStands n firsts f.blocks x.tree.now
    node_stands named i x at =
        let it = named n firsts f.blocks nodes s.expression laid i x o.code.lawful o.code.order o.at o.lays.numbered names at in
        record { counts = it.counts; operands = it.operands; list = list_there n firsts f.blocks (expr_of x.tree.now) it.list }

    pub given_of : PermittedTakesGiven → OpenIsNamed → MovesAreNear → (d : Due) (x : NodeInfo) → IsListed (whole_part m s) d
        → MayPick world st.top (Some e) (Ev d.place) → is_body d.place.kind ≡ false → slice_get nodes d.place.node ≡ Some x
        → TakesGiven world n f e firsts (length nodes) d.place x
    given_of permitted named near d x is may plain at =
        let part = part_same m.image.code.now.listing.items s.first laid.first s.end laid.end first_is end_is in
        permitted world n f e firsts laid.root.now nodes d x laid.first laid.end is.0 objects
        (values_aside world m stage items laid.first laid.end f e values_are) root_is o.lays.numbered at (due_is d x is at)
        (ap (λ es. slice_get es is.0) (sym part) ∙ is.1) may plain (node_stands named d.place.node x at)
        (near m.program.now world f e.given firsts laid.root.now nodes d.place.node (suc d.place.node) x (o.code.trees s.expression laid o.at)
        o.lays.numbered at o.ends o.small)

    -- ---- it can be taken
    pub event_is : OpenIsKnown → EventsAreEvaluated → (d : Due) → IsListed (whole_part m s) d → IsEventOf world m.image.code.now f laid e d
    event_is known evaluated d is =
        let there = listed_is d is in
        record {
          firsts = firsts;
          nodes = nodes;
          lays = o.lays;
          views = views known;
          at = there.at;
          first = there.first;
          end = there.end;
          entry = there.entry;
          quiet = λ x at. evaluated m.image.code.now firsts nodes s.expression laid d x o.stood.stands.listed o.at o.lays there at;
        }

-- ---- its rooms
pub has_rooms : CodeHasRooms → (world : World) (meaning : Option ℕ → Meaning) (m : Machine) (st : State) (e : Begun) (s : Stage) (laid : Laid) (firsts : List ℕ)
    (nodes : List NodeInfo) → IsOpen world meaning m st e s laid firsts nodes → HasRooms (whole_part m s) m.top.rooms e
has_rooms rooms world meaning m st e s laid firsts nodes o =
    let part =
    part_same m.image.code.now.listing.items s.first laid.first s.end laid.end (first_is world meaning m st e s laid firsts nodes o)
    (end_is world meaning m st e s laid firsts nodes o) in
    subst (λ es. HasRooms es m.top.rooms e) (sym part)
    (subst (λ (n : ℕ). HasRooms (listing_in m.image.code.now.listing.items laid) n e) (sym (rooms_is world meaning m st e s laid firsts nodes o))
    (rooms m.image.code.now firsts nodes s.expression laid e o.stood.stands.listed o.at o.lays
    (root_is world meaning m st e s laid firsts nodes o)))

-- ---- the next event
straight_order : (world : World) (m : Machine) (height first cursor end : ℕ) (g : Scene) (x : Begun) (straight : Bool) → straight ≡ true
    → StandsDone straight world m height first cursor end g x None → first ≤ cursor
straight_order world m height first cursor end g x true is d = d.order.0
straight_order world m height first cursor end g x false is d = absurd (cc)

pub next_listed : (world : World) (meaning : Option ℕ → Meaning) (m : Machine) (st : State) (e : Begun) (s : Stage) (laid : Laid) (firsts : List ℕ)
    (nodes : List NodeInfo) → IsOpen world meaning m st e s laid firsts nodes → s.straight ≡ true → (next : ℕ × Bor Due) → ComesNext m s (Some next)
    → IsListed (whole_part m s) next.1.now
next_listed world meaning m st e s laid firsts nodes o straight next comes =
    let x = expression world meaning m st e s laid firsts nodes o in
    let le = straight_order world m (length m.below.items) x.laid.first s.cursor x.laid.end st.top.scene e s.straight straight x.done in
    let first = x.first in
    in_whole m.image.code.now.listing.items s.first s.cursor s.end next.0 next.1.now (omega (arith, le, first)) comes.2.0

-- the machine that has gone on to an event is the one with its cursor there
pub gone_on : (m now : Machine) (s : Stage) (d : Due) (straight : Bool) → IsAt straight m s d now → (z : Option Stage) × (now ≡ aside m z m.items)
gone_on m now s d true at = (Some (record s { cursor = min (s.cursor + at.1.0) (2 ^ 64 - 1) }), at.5)
gone_on m now s d false at = (m.top.stage, at)

pub record Laws : Type 0 where
  pub takes : PermittedTakesGiven
  pub acts : ActsAreOfNodes
  pub named : OpenIsNamed
  pub known : OpenIsKnown
  pub evaluated : EventsAreEvaluated
  pub near : MovesAreNear
  pub rooms : CodeHasRooms
  pub next : NextIsPermitted

pub laws_of : PermittedTakesGiven → ActsAreOfNodes → OpenIsNamed → OpenIsKnown → EventsAreEvaluated → MovesAreNear → CodeHasRooms → NextIsPermitted → Laws
laws_of takes acts named known evaluated near rooms next =
    record { takes = takes; acts = acts; named = named; known = known; evaluated = evaluated; near = near; rooms = rooms; next = next }

module _ (laws : Laws) where
  pub takes_given : OpenTakesGiven
  takes_given world meaning m st e s laid firsts nodes stage items d x o is may plain at =
      given_of world meaning m st e s laid firsts nodes o stage items laws.takes laws.named laws.near d x is may plain at

  pub act_is : (world : World) (meaning : Option ℕ → Meaning) (m : Machine) (st : State) (e : Begun) (s : Stage) (laid : Laid) (firsts : List ℕ)
      (nodes : List NodeInfo) → IsOpen world meaning m st e s laid firsts nodes → (stage : Option Stage) (items : List Item) (d : Due)
      → IsListed (whole_part m s) d → MayPick world st.top (Some e) (Ev d.place) → is_body d.place.kind ≡ false
      → IsActOf world (aside m stage items) st.top.scene e d
  act_is world meaning m st e s laid firsts nodes o stage items d is may plain =
      let entry = entry_is world meaning m st e s laid firsts nodes o d is in
      let x = entry.0 in
      let there = listed_is world meaning m st e s laid firsts nodes o d is in
      laws.acts world (aside m stage items) st.top.scene e firsts laid.root.now nodes d x
      (root_is world meaning m st e s laid firsts nodes o) o.lays.numbered entry.1 entry.2 plain
      (laws.evaluated m.image.code.now firsts nodes s.expression laid d x o.stood.stands.listed o.at o.lays there entry.1)
      (takes_given world meaning m st e s laid firsts nodes stage items d x o is may plain entry.1)

  pub can_be_taken : OpenCanBeTaken
  can_be_taken world meaning m st e s laid firsts nodes stage items d o is may plain = record {
    event = event_is world meaning m st e s laid firsts nodes o stage items laws.known laws.evaluated d is;
    plain = plain;
    act = act_is world meaning m st e s laid firsts nodes o (passed_stage stage) items d is may plain;
  }

  pub may_take : OpenMayTake
  may_take world meaning m now st e s laid firsts nodes d o ready none is may plain goes =
      let gone = gone_on m now s d s.straight goes in
      record {
        stood = o.stood;
        within = ready.within;
        items = none;
        stage = o.stage;
        end = end_small world meaning m st e s laid firsts nodes o;
        at = o.at;
        rooms = has_rooms laws.rooms world meaning m st e s laid firsts nodes o;
        event = event_is world meaning m st e s laid firsts nodes o m.top.stage m.items laws.known laws.evaluated d is;
        constants = o.code.constants;
        extends = ready.extends;
        plain = plain;
        may = may;
        goes = goes;
        act = subst (λ (k : Machine). IsActOf world (past_event k) st.top.scene e d) (sym gone.1)
            (act_is world meaning m st e s laid firsts nodes o (passed_stage gone.0) m.items d is may plain);
      }

  pub may_take_next : OpenMayTakeNext
  may_take_next world meaning m st e s laid firsts nodes o ready straight plain = record {
    stood = o.stood;
    within = ready.within;
    stage = o.stage;
    straight = straight;
    end = end_small world meaning m st e s laid firsts nodes o;
    at = o.at;
    rooms = has_rooms laws.rooms world meaning m st e s laid firsts nodes o;
    constants = o.code.constants;
    extends = ready.extends;
    each = λ next comes.
        let may : MayPick world st.top (Some e) (Ev next.1.now.place) =
        subst (λ (z : Option Begun). MayPick world st.top z (Ev next.1.now.place)) o.stood.begun
        ((laws.next m s next o.stage straight comes world meaning st o.stood.stands).0 refl) in
        can_be_taken world meaning m st e s laid firsts nodes (Some (record s { cursor = min (s.cursor + next.0) (2 ^ 64 - 1) })) [] next.1.now o
        (next_listed world meaning m st e s laid firsts nodes o straight next comes) may (plain next comes);
  }
