-- The body of an isolated initializer starts a frame, as the definitions say.
use Rattle.std.proofs.Common.{◌≡◌, ℕ, suc, ◌+◌, ◌^◌, ◌<◌, refl, sym, ap, ◌∙◌, subst, arith, List, [], ◌∷◌, length, map, reverse, Option, Some, None}
use Rattle.std.proofs.lemmas.List.{length-reverse, reverse-append}
use Rattle.ub_base.specs.declared.clause.Kind.{Kind}
use Rattle.ub_base.specs.declared.clause.Kind.TheVariants.{Body}
use Rattle.ub_base.specs.declared.names.Event.{Event}
use Rattle.ub_base.specs.declared.names.Frame.{Frame}
use Rattle.c_types.specs.Types.{CType}
use Rattle.c_typed.specs.declared.tree.Place.{Place}
use Rattle.c_typed.specs.Order.{place}
use Rattle.c_model.specs.Control.{Begin, Unused, ready_work}
use Rattle.c_model.specs.Program.{Expr, expr, Exprs, Isolated}
use Rattle.c_model.specs.Runs.{Running, State, acted, depth_of, entry_of, limit_passed, limited, moved, step, within}
use Rattle.c_model.specs.Steps.{Begun, Ev, Local, at_node, does, event_act, move, move_of}
use Rattle.c_model.specs.Values.{Nothing}
use Rattle.c_model.specs.World.{World}
use Rattle.mem_spec.specs.Script.{run}
use Rattle.run_control.specs.declared.work.Work.TheVariants as work
use Rattle.run_control.specs.Stacked.{Stacked}
use Rattle.run_control.specs.View.{Meaning}
use Rattle.run_layout.specs.declared.steps.Due.{Due}
use Rattle.run_layout.specs.declared.whole.Code.{Code}
use Rattle.run_state.specs.declared.machine.Machine.{Machine}
use Rattle.run_state.specs.declared.machine.Open.{Open}
use Rattle.run_state.specs.declared.machine.Stage.{Stage}
use Rattle.run_state.specs.Stands.{StandFrames, StandLocals, Stands, StandsFrame, StandsOn, frames_of, result_seen}
use Rattle.run_answers.specs.Opens.{StartsInitializer, started_on}
use Rattle.run_answers.specs.Answering.{IsWithin}
use Rattle.run_answers.specs.Ending.{KeepToRooms}
use Rattle.run_answers.specs.Picks.{at_cursor}
use Rattle.run_answers.specs.Starting.{ComesToStart, IsInitializer, StandsStarted, initializer_frame, numbered, started_state}
use Rattle.run_answers.specs.Taking.{StandsOpen}
use Rattle.run_answers.proofs.Opened.{top_frame}
use Rattle.run_answers.proofs.Still.{frames_aside, tables_aside}
use Rattle.run_answers.proofs.Waiting.{Waits}

-- ---- what the definitions do
pub place_is : (u : Place) (kind : Kind) → u.kind ≡ kind → u ≡ place u.node kind
place_is u kind is = λ i. record { node = u.node; kind = is i }

initializer_steps : (world : World) (st : State) (e : Begun) (n : ℕ) (tree : Expr) (ty : CType) (line : ℕ) (os : Exprs) → st.top.begun ≡ Some e →
    at_node 0 e.root n ≡ Some (expr (Isolated tree) ty line os) →
    step world st (Ev (place n Body))
    ≡ limited world.limits (Running (started_state world st (place n Body) (initializer_frame st.top.scene n tree)))
initializer_steps world st e n tree ty line os begun node =
    let u = place n Body in
    let trace = entry_of world st.top (Ev u) [] ∷ st.trace in
    ap (λ (b : Option Begun). acted world st (Ev u) (run world.rows (does world st.top b (Ev u)) st.store)) begun
    ∙ ap (λ (o : Option Expr). acted world st (Ev u) (run world.rows (event_act world st.top.scene e u o) st.store)) node
    ∙ ap (λ (b : Option Begun). limited world.limits (moved world st (Ev u) (move world st.top b (Ev u)) Nothing st.store trace)) begun
    ∙ ap (λ (o : Option Expr). limited world.limits (moved world st (Ev u) (move_of world st.top.scene e u o) Nothing st.store trace)) node

none_more : (d : ℕ) → 0 + d ≡ d
none_more d = omega arith

-- it counts for no limit
initializer_within : (world : World) (st : State) (u : Place) (n : ℕ) (tree : Expr) → IsWithin world st →
    limited world.limits (Running (started_state world st u (initializer_frame st.top.scene n tree)))
    ≡ Running (started_state world st u (initializer_frame st.top.scene n tree))
initializer_within world st u n tree is =
    let after = started_state world st u (initializer_frame st.top.scene n tree) in
    ap (λ (d : ℕ). within (limit_passed world.limits d st.store) (Running after)) (none_more (depth_of st.top st.held))
    ∙ ap (λ (l : Option _). within l (Running after)) is

-- ---- the frame has started
module _ (world : World) (meaning : Option ℕ → Meaning) (old past : Machine) (st : State) (e : Begun) (s : Stage) (d : Due)
    (stood : StandsOpen world meaning old st e) (w : Waits world meaning old past st s d.place) (few : old.top.base + old.top.rooms < 2 ^ 64)
    (event : IsInitializer old.image.code.now e d) where
  frame : StandsFrame world (meaning old.top.function) old (length old.below.items) old.top old.work.now old.left st.top None
  frame = top_frame world meaning old st stood.stands

  abbrev there : Open
  there = record old.top { stage = Some (record s { cursor = w.cursor }) }

  -- the frame that starts
  abbrev then_frame : Local
  then_frame = initializer_frame st.top.scene d.place.node event.tree

  abbrev then_state : State
  then_state = started_state world st d.place then_frame

  pub initializer_steps_to : IsWithin world st → step world st (Ev d.place) ≡ Running then_state
  initializer_steps_to is =
      subst (λ (u : Place). step world st (Ev u) ≡ Running (started_state world st u then_frame)) (sym (place_is d.place Body event.body))
      (initializer_steps world st e d.place.node event.tree event.ty event.line event.operands stood.begun event.node
      ∙ initializer_within world st (place d.place.node Body) d.place.node event.tree is)

  module _ (who : Event) (node : who.node ≡ d.place.node) (new : Machine) (opens : StartsInitializer (at_cursor old s w.cursor) event.number who new) where
    abbrev top_then : Frame → Open
    top_then n = record (started_on there who None there.blocks there.expressions there.locals there.above) { frame = n }

    abbrev there_then : Frame → Machine
    there_then n = record old { below = new.below; top = top_then n; work = new.work }

    locals_seen : (n : Frame) (bs : List (ℕ × ℕ)) → StandLocals world old old.top st.top.scene bs →
        StandLocals world (there_then n) (top_then n) then_frame.scene bs
    locals_seen n [] l = tt
    locals_seen n (b ∷ bs) l = (l.0, locals_seen n bs l.1)

    begins : (meaning None).root event.number ≡ event.tree
    begins = stood.stands.code.root None event.number event.laid event.at ∙ event.root

    top_stands : (n : Frame) → n.0 ≡ world.number then_frame.scene.path →
        StandsFrame world (meaning None) (there_then n) (suc (length old.below.items)) (top_then n) (work.Begin event.number ∷ []) old.left then_frame None
    top_stands n is = record {
      number = is;
      turn = refl;
      function = refl;
      arguments = tt;
      locals = locals_seen n st.top.scene.blocks frame.locals;
      result = sym (ap (result_seen old.memory None) stood.result);
      control = record {
        ready = ap (λ (r : Expr). ready_work (Begin r Unused ∷ [])) begins;
        behind = λ begun. ap (λ (r : Expr). Begin r Unused ∷ []) begins;
      };
      begun = refl;
    }

    on_it : (n : Frame) → StandsOn (top_then n) then_frame there st.top (Some d.place)
    on_it n = record {
      waits = ap (λ (u : Place). Some u) (place_is d.place Body event.body) ∙ ap (λ (k : ℕ). Some (place k Body)) (sym node);
      path = ap (λ (k : ℕ). (st.top.scene.turn, k) ∷ st.top.scene.path) (sym node);
      rooms = (omega (arith, few));
      locals = (refl, refl, refl, refl, refl);
    }

    held_stand : (n : Frame) → StandFrames world meaning (there_then n) None (there ∷ reverse old.below.items) (old.work.now ∷ old.work.below)
        ((st.top, Some d.place) ∷ map (λ h. (h.0, Some h.1)) st.held)
    held_stand n = frames_aside world meaning old (there_then n) None (there ∷ reverse old.below.items) (old.work.now ∷ old.work.below)
        ((st.top, Some d.place) ∷ map (λ h. (h.0, Some h.1)) st.held) w.frames

    -- the frames, from the top one down
    abbrev Frames : Frame → List Open → Stacked → Type 0
    Frames n os w = StandFrames world meaning (there_then n) old.left (top_then n ∷ os) (w.now ∷ w.below) (frames_of then_state)

    frames : (n : Frame) → n.0 ≡ world.number then_frame.scene.path →
        Frames n (there ∷ reverse old.below.items) (record { below = old.work.now ∷ old.work.below; now = work.Begin event.number ∷ [] })
    frames n is = (
      subst (λ (k : ℕ). StandsFrame world (meaning None) (there_then n) k (top_then n) (work.Begin event.number ∷ []) old.left then_frame None)
          (ap suc (sym (length-reverse old.below.items))) (top_stands n is),
      on_it n,
      held_stand n,
    )

    turned : reverse new.below.items ≡ there ∷ reverse old.below.items
    turned = ap reverse opens.below ∙ reverse-append old.below.items (there ∷ [])

    frames_then : (n : Frame) → n.0 ≡ world.number then_frame.scene.path → Frames n (reverse new.below.items) new.work
    frames_then n is =
        subst (λ (w : Stacked). Frames n (reverse new.below.items) w) (sym opens.left)
        (subst (λ (os : List Open). Frames n os (record { below = old.work.now ∷ old.work.below; now = work.Begin event.number ∷ [] })) (sym turned)
        (frames n is))

    stands_then : (n : Frame) → n.0 ≡ world.number then_frame.scene.path → Stands world meaning (there_then n) then_state
    stands_then n is = record {
      program = stood.stands.program;
      code = stood.stands.code;
      listed = stood.stands.listed;
      memory = stood.stands.memory;
      tables = tables_aside old (there_then n) stood.stands.tables;
      result = stood.stands.result;
      frames = frames_then n is;
      depth = stood.stands.depth ∙ sym (none_more (depth_of st.top st.held));
    }

    code_same : new.image.code.now ≡ old.image.code.now
    code_same = ap (λ (k : Machine). k.image.code.now) opens.rest

    stands_started : StandsStarted world meaning new then_state
    stands_started = record {
      stands = λ n is.
          subst (λ (k : Machine). Stands world meaning k then_state) (sym (ap (λ (k : Machine). numbered k n) opens.rest)) (stands_then n is);
      rooms = subst (λ (c : Code). KeepToRooms c (reverse new.below.items) then_state.held) (sym code_same)
          (subst (λ (os : List Open). KeepToRooms old.image.code.now os then_state.held) (sym turned) w.keeps);
      result = ap (λ (k : Machine). k.left) opens.rest ∙ stood.result;
    }

    initializer_comes : IsWithin world st → old.items ≡ [] → ComesToStart world meaning new (step world st (Ev d.place))
    initializer_comes is items = (then_state, initializer_steps_to is, sym (ap (λ (k : Machine). k.items) opens.rest ∙ items), stands_started)

  pub initializer_started : (who : Event) → who.node ≡ d.place.node → (new : Machine) → StartsInitializer past event.number who new → IsWithin world st →
      old.items ≡ [] → ComesToStart world meaning new (step world st (Ev d.place))
  initializer_started who node new opens is items =
      initializer_comes who node new (subst (λ (k : Machine). StartsInitializer k event.number who new) w.is opens) is items
