-- A machine that leaves the canonical way stands for what it stood for.
use Rattle.std.proofs.Common.{◌≡◌, ℕ, Bool, true, false, refl, sym, ap, ◌∙◌, subst, List, ◌∷◌, length, map, reverse, Option, Some, None, arith}
use Rattle.std.proofs.lemmas.List.{length-reverse}
use Rattle.c_typed.specs.declared.tree.Place.{Place}
use Rattle.c_model.specs.Runs.{State}
use Rattle.c_model.specs.Steps.{Begun, is_done as has_done}
use Rattle.c_model.specs.Values.{Value}
use Rattle.c_model.specs.World.{World}
use Rattle.prov_memory.proofs.KeepLemmas.{keeps_none}
use Rattle.program_view.specs.Laws.{TreesAreKept}
use Rattle.run_control.specs.View.{Meaning}
use Rattle.seq_order.specs.Marked.{done_in}
use Rattle.run_listing.specs.Cursor.{PassedIsDone, StandsStraight}
use Rattle.run_state.specs.declared.machine.Machine.{Machine}
use Rattle.run_state.specs.declared.machine.Open.{Open}
use Rattle.run_state.specs.declared.machine.Stage.{Stage}
use Rattle.run_state.specs.Stands.{HoldsAll, StandFrames, Stands, StandsBegun, StandsDone, StandsExpression, StandsFrame, frames_of}
use Rattle.run_answers.specs.Picks.{LeavesWay, by_way}
use Rattle.run_answers.specs.Straying.{LeavesStanding}
use Rattle.run_answers.specs.Taking.{StandsOpen}
use Rattle.run_answers.proofs.Behind.{open_at}
use Rattle.run_answers.proofs.Opened.{Opened, opened, top_frame}
use Rattle.run_answers.proofs.Standing.{frames_under, locals_on, moved_on}
use Rattle.run_answers.proofs.Still.{above_same}

straight_done : (straight : Bool) (world : World) (m : Machine) (s : Stage) (height : ℕ) (f : State) (e : Begun) → straight ≡ true →
    StandsDone straight world m height s.first s.cursor s.end f.top.scene e None →
    StandsStraight world f.top.scene m.image.code.now.listing.items s.first s.cursor s.end e None
straight_done true world m s height f e is d = d
straight_done false world m s height f e is d = absurd (cc)

module _ (trees : TreesAreKept) (passed : PassedIsDone) (world : World) (meaning : Option ℕ → Meaning) (old new : Machine) (st : State) (e : Begun)
    (s : Stage) (o : StandsOpen world meaning old st e) (stage : old.top.stage ≡ Some s) (straight : s.straight ≡ true) (leaves : LeavesWay old s new) where
  abbrev height : ℕ
  height = length old.below.items

  frame : StandsFrame world (meaning old.top.function) old height old.top old.work.now old.left st.top None
  frame = top_frame world meaning old st o.stands

  x : StandsExpression world (meaning old.top.function) old height old.top s st.top.scene e None
  x = open_at world (meaning old.top.function) old height old.top old.top.stage st.top.scene st.top.begun s e frame.begun stage o.begun

  look : Opened world old s x.shown st.top e
  look = opened trees world (meaning old.top.function) old s x.shown st.top e o.stands.listed x.shows x

  abbrev off : Stage
  off = record s { straight = false }

  abbrev there : Open
  there = record old.top { stage = Some off }

  abbrev end : Machine
  end = record old { strayed = new.strayed }

  kept : (u : Place) → done_in leaves.marks u ≡ has_done e u
  kept u =
      leaves.done x.shown x.shows u ∙ ap (λ (b : Bool). by_way b old s x.shown u) straight
      ∙ passed world st.top.scene old.image.code.now.listing.items s.first s.cursor s.end e _ u
      (straight_done s.straight world old s height st e straight look.done) look.listed

  expression : StandsExpression world (meaning old.top.function) (moved_on old end there) height there off st.top.scene e None
  expression = record {
    laid = x.laid;
    at = x.at;
    root = x.root;
    first = x.first;
    end = x.end;
    value = x.value;
    rooms = x.rooms;
    what = x.what;
    shown = x.shown;
    shows = x.shows;
    frame = x.frame;
    turn = x.turn;
    tree = x.tree;
    tree_root = x.tree_root;
    taken = x.taken;
    done = (leaves.marks, leaves.there, kept);
    values = record { val = x.values.val; body = x.values.body; update = x.values.update };
  }

  top_stands : StandsFrame world (meaning old.top.function) (moved_on old end there) height there old.work.now old.left st.top None
  top_stands = record {
    number = frame.number;
    turn = frame.turn;
    function = frame.function;
    arguments = subst (λ (vs : List Value). HoldsAll old.memory old.values.items old.top.base vs) (sym o.arguments) tt;
    locals = locals_on world old end there (keeps_none old.memory) old.top st.top.scene st.top.scene.blocks frame.locals;
    result = frame.result;
    control = frame.control;
    begun = subst (λ (b : Option Begun). StandsBegun world (meaning old.top.function) (moved_on old end there) height there (Some off) st.top.scene b None)
        (sym o.begun) expression;
  }

  frames : StandFrames world meaning (moved_on old end there) old.left (there ∷ reverse old.below.items) (old.work.now ∷ old.work.below) (frames_of st)
  frames = (
    subst (λ (n : ℕ). StandsFrame world (meaning old.top.function) (moved_on old end there) n there old.work.now old.left st.top None)
        (sym (length-reverse old.below.items)) top_stands,
    above_same old.top there st.top st.top (reverse old.below.items) (map (λ h. (h.0, Some h.1)) st.held)
        (record { base = refl; node = refl; function = refl; locals = refl; above = refl; first_block = refl })
        (record { path = refl; home = refl; blocks = refl }) o.stands.frames.1,
    frames_under world old end there (keeps_none old.memory) old.top.base height (λ j lt. refl) (λ j b ne at. at) leaves.others meaning old.top st.top
        (reverse old.below.items) old.work.below st.held (let n = length-reverse old.below.items in omega (arith, n)) (omega arith)
        o.stands.frames.1 o.below o.stands.frames.2,
  )

  stands : Stands world meaning (moved_on old end there) st
  stands = record {
    program = o.stands.program;
    code = o.stands.code;
    listed = o.stands.listed;
    memory = o.stands.memory;
    tables = record { places = o.stands.tables.places; vias = o.stands.tables.vias; fillings = o.stands.tables.fillings };
    frames = frames;
    depth = o.stands.depth;
    result = o.stands.result;
  }

  stands_open : StandsOpen world meaning (moved_on old end there) st e
  stands_open = record {
    stands = stands;
    begun = o.begun;
    chosen = o.chosen;
    reached = o.reached;
    arguments = o.arguments;
    result = o.result;
    rooms = o.rooms;
    below = o.below;
  }

  stands_off : StandsOpen world meaning new st e
  stands_off = subst (λ (k : Machine). StandsOpen world meaning k st e) (sym leaves.rest) stands_open

pub leaves_standing : TreesAreKept → PassedIsDone → LeavesStanding
leaves_standing trees passed world meaning old new st e s o stage straight leaves =
    stands_off trees passed world meaning old new st e s o stage straight leaves
