-- The frame in which a body waits: the cursor has passed the event, and the frame stands as it stood.
use Rattle.std.proofs.Common.{◌≡◌, ℕ, suc, ◌+◌, ◌<◌, Bool, true, false, refl, sym, ap, ◌∙◌, subst, arith, ◌∷◌, length, map, reverse, Option, Some, None}
use Rattle.std.specs.Prelude.{is_some}
use Rattle.std.proofs.lemmas.List.{length-reverse}
use Rattle.std.proofs.lemmas.Option.{same_Some}
use Rattle.ub_base.specs.declared.clause.Kind.TheVariants.{Val, Body}
use Rattle.c_typed.specs.declared.tree.Place.{Place}
use Rattle.c_typed.specs.Order.{place}
use Rattle.c_model.proofs.Decided.{has_due}
use Rattle.c_model.specs.Program.{tree_of}
use Rattle.c_model.specs.Runs.{State}
use Rattle.c_model.specs.Steps.{Begun, Scene, taken_by}
use Rattle.c_model.specs.World.{World}
use Rattle.program_view.specs.Laws.{TreesAreKept}
use Rattle.seq_order.specs.Marked.{taken_in}
use Rattle.run_control.specs.View.{Meaning}
use Rattle.run_layout.specs.declared.steps.Due.{Due}
use Rattle.run_listing.specs.Along.{Next, part_of}
use Rattle.run_listing.specs.Cursor.{StandsAtStart, StandsStraight}
use Rattle.run_listing.specs.Cursor as cursor
use Rattle.run_state.specs.declared.machine.Machine.{Machine}
use Rattle.run_state.specs.declared.machine.Open.{Open}
use Rattle.run_state.specs.declared.machine.Stage.{Stage}
use Rattle.run_state.specs.declared.watch.Begun.{Begun as Shown}
use Rattle.run_state.specs.Stands.{StandFrames, StandsBegun, StandsDone, StandsExpression, StandsFrame, result_seen}
use Rattle.run_answers.specs.Ending.{IsInRooms, KeepsTo, KeepToRooms, stage_part}
use Rattle.run_answers.specs.Picks.{at_cursor, top_of, whole_part}
use Rattle.run_answers.specs.Taking.{HasRooms, IsPast, StandsOpen}
use Rattle.run_answers.proofs.Giving.{node_within}
use Rattle.run_answers.proofs.Opened.{Opened, opened, top_frame}
use Rattle.run_answers.proofs.Still.{above_same}

-- ---- the full expression that is open
open_here : (world : World) (meaning : Meaning) (m : Machine) (height : ℕ) (o : Open) (stage : Option Stage) (f : Scene) (b : Option Begun) (s : Stage)
    (e : Begun) → StandsBegun world meaning m height o stage f b None → stage ≡ Some s → b ≡ Some e → StandsExpression world meaning m height o s f e None
open_here world meaning m height o None f b s e x stage begun = absurd (cc)
open_here world meaning m height o (Some r) f None s e x stage begun = absurd x
open_here world meaning m height o (Some r) f (Some z) s e x stage begun =
    subst (λ (k : Stage). StandsExpression world meaning m height o k f e None) (same_Some r s stage)
    (subst (λ (k : Begun). StandsExpression world meaning m height o r f k None) (same_Some z e begun) x)

-- the cursor has passed the event, whose body waits
record PassedTo (world : World) (old : Machine) (s : Stage) (f : Scene) (e : Begun) (d : Due) (height : ℕ) (straight : Bool) (past : Machine) : Type 0 where
  cursor : ℕ
  is : past ≡ at_cursor old s cursor
  stands : StandsDone straight world old height s.first cursor s.end f e (Some d.place)

passed_to : StandsAtStart → (world : World) (old : Machine) (s : Stage) (f : Scene) (e : Begun) (d : Due) (height : ℕ) (shown : Shown) →
    top_of old ≡ Some shown → cursor.IsListed world f old.image.code.now.listing.items s.first s.end e (taken_in shown.taken) → old.top.stage ≡ Some s →
    (straight : Bool) (past : Machine) → IsPast straight old s d past → StandsDone straight world old height s.first s.cursor s.end f e None →
    PassedTo world old s f e d height straight past
passed_to starts world old s f e d height shown top listed stage true past p done =
    let same : p.0 ≡ shown = same_Some p.0 shown (sym p.2 ∙ top) in
    record {
      cursor = suc (s.cursor + p.1.0);
      is = p.5;
      stands = subst (λ (z : Due).
          StandsStraight world f old.image.code.now.listing.items s.first (suc (s.cursor + p.1.0)) s.end e (Some z.place)) p.3
          (starts world f old.image.code.now.listing.items s.first s.cursor s.end e (taken_in shown.taken) p.1 done listed
          (subst (λ (z : Shown). Next (taken_in z.taken) (part_of old.image.code.now.listing.items s.cursor s.end) (Some p.1)) same p.4));
    }
passed_to starts world old s f e d height shown top listed stage false past p done = record {
  cursor = s.cursor;
  is = p ∙ ap (λ (z : Option Stage). record old { top = record old.top { stage = z } }) stage;
  stands = done;
}

-- in the top frame the body waits; the machine has changed nothing else yet
pub record Waits (world : World) (meaning : Option ℕ → Meaning) (old past : Machine) (st : State) (s : Stage) (u : Place) : Type 0 where
  pub cursor : ℕ
  pub is : past ≡ at_cursor old s cursor
  pub frames : StandFrames world meaning old None (record old.top { stage = Some (record s { cursor = cursor }) } ∷ reverse old.below.items)
      (old.work.now ∷ old.work.below) ((st.top, Some u) ∷ map (λ h. (h.0, Some h.1)) st.held)
  pub keeps : KeepToRooms old.image.code.now (record old.top { stage = Some (record s { cursor = cursor }) } ∷ reverse old.below.items) ((st.top, u) ∷ st.held)

module _ (trees : TreesAreKept) (starts : StandsAtStart) (world : World) (meaning : Option ℕ → Meaning) (old past : Machine) (st : State) (e : Begun)
    (s : Stage) (d : Due) (stood : StandsOpen world meaning old st e) (stage : old.top.stage ≡ Some s)
    (rooms : HasRooms (whole_part old s) old.top.rooms e) (passes : IsPast s.straight old s d past) where
  abbrev height : ℕ
  height = length old.below.items

  frame : StandsFrame world (meaning old.top.function) old height old.top old.work.now old.left st.top None
  frame = top_frame world meaning old st stood.stands

  x : StandsExpression world (meaning old.top.function) old height old.top s st.top.scene e None
  x = open_here world (meaning old.top.function) old height old.top old.top.stage st.top.scene st.top.begun s e frame.begun stage stood.begun

  look : Opened world old s x.shown st.top e
  look = opened trees world (meaning old.top.function) old s x.shown st.top e stood.stands.listed x.shows x

  way : PassedTo world old s st.top.scene e d height s.straight past
  way = passed_to starts world old s st.top.scene e d height x.shown x.shows look.listed stage s.straight past passes look.done

  -- the frame in which it waits
  abbrev there : Open
  there = record old.top { stage = Some (record s { cursor = way.cursor }) }

  waits_in : StandsExpression world (meaning old.top.function) old height there (record s { cursor = way.cursor }) st.top.scene e (Some d.place)
  waits_in = record {
    laid = x.laid;
    at = x.at;
    root = x.root;
    first = x.first;
    end = x.end;
    value = x.value;
    rooms = x.rooms;
    what = x.what;
    shown = x.shown;
    shows = x.shows;
    frame = x.frame;
    turn = x.turn;
    tree = x.tree;
    tree_root = x.tree_root;
    taken = x.taken;
    done = subst (λ (n : ℕ). StandsDone s.straight world old height n way.cursor x.laid.end st.top.scene e (Some d.place)) x.first
        (subst (λ (n : ℕ). StandsDone s.straight world old height s.first way.cursor n st.top.scene e (Some d.place)) x.end way.stands);
    values = x.values;
  }

  waits : StandsFrame world (meaning old.top.function) old height there old.work.now None st.top (Some d.place)
  waits = record {
    number = frame.number;
    turn = frame.turn;
    function = frame.function;
    arguments = frame.arguments;
    locals = frame.locals;
    result = frame.result ∙ ap (result_seen old.memory old.top.function) stood.result;
    control = frame.control;
    begun = subst (λ (b : Option Begun).
        StandsBegun world (meaning old.top.function) old height there (Some (record s { cursor = way.cursor })) st.top.scene b (Some d.place))
        (sym stood.begun) waits_in;
  }

  -- what is kept of the full expression stands in the rooms of its frame
  given_within : (u : Place) → is_some (e.given u) ≡ true → u.node < old.top.rooms
  given_within u given =
      let inside =
      node_within (taken_by world st.top.scene e) (tree_of e.root) u
      (has_due (taken_by world st.top.scene e) (tree_of e.root) 0 u ∙ (stood.reached u given).due) in
      let nodes = rooms.nodes in
      omega (arith, inside, nodes)

  in_rooms : IsInRooms (stage_part old.image.code.now s) old.top.rooms e
  in_rooms = record {
    val = λ k given. given_within (place k Val) given;
    body = λ k given. given_within (place k Body) given;
    update = rooms.within;
  }

  keeps_there : KeepsTo old.image.code.now there.rooms there.stage st.top st.top.begun
  keeps_there = subst (λ (b : Option Begun). KeepsTo old.image.code.now there.rooms there.stage st.top b) (sym stood.begun) (stood.arguments, in_rooms)

  pub waits_there : Waits world meaning old past st s d.place
  waits_there = record {
    cursor = way.cursor;
    is = way.is;
    frames = (
      subst (λ (k : ℕ). StandsFrame world (meaning old.top.function) old k there old.work.now None st.top (Some d.place))
          (sym (length-reverse old.below.items)) waits,
      above_same old.top there st.top st.top (reverse old.below.items) (map (λ h. (h.0, Some h.1)) st.held)
          (record { base = refl; node = refl; function = refl; locals = refl; above = refl; first_block = refl })
          (record { path = refl; home = refl; blocks = refl }) stood.stands.frames.1,
      stood.stands.frames.2,
    );
    keeps = (keeps_there, stood.below);
  }
