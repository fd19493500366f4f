-- What code_view gives of code is what run_machine asks of it.
use Rattle.std.proofs.Common.{◌≡◌, ℕ, true, false, List, refl, sym, subst, ◌∙◌}
use Rattle.c_model.specs.Steps.{Begun}
use Rattle.run_layout.specs.declared.steps.Act.{Act}
use Rattle.run_layout.specs.declared.steps.Act.TheVariants as act
use Rattle.run_layout.specs.declared.steps.Listed.{Listed}
use Rattle.run_layout.specs.OfTrees.{listing_in}
use Rattle.run_answers.specs.Performs.{gives_value, kept_room}
use Rattle.run_answers.specs.Ending.{IsUpdateRoom}
use Rattle.code_view.specs.Events.{stores}
use Rattle.code_view.specs.Rooms.{HasRoomsOf, IsUpdateRoomOf, RoomsAreThere, kept_at}
use Rattle.run_laws.specs.Asked.{RoomsAreAsked, CodeHasRooms, EventsAreAsked, LabelsAreAsked}

-- what stores gives no value
store_gives_none : (a : Act) → stores a ≡ true → gives_value a ≡ false
store_gives_none (act.Store n place value) h = refl
store_gives_none (act.Fill object n) h = refl
store_gives_none _ h = absurd (cc)

-- what an act keeps beside its node's value
same_kept : (a : Act) → kept_at a ≡ kept_room a
same_kept (act.Change c true ty place o room) = refl
same_kept (act.Change c false ty place o room) = refl
same_kept _ = refl

abbrev update_room : (entries : List Listed) (e : Begun) (room : ℕ) → IsUpdateRoom entries e room → IsUpdateRoomOf entries e.root room
update_room entries e room r = record {
  due = r.due;
  store = r.store;
  target = r.target;
  change = r.change;
  old = r.old;
  operands = r.operands;
  is_listed = r.listed;
  act = r.act;
  effect = r.effect;
  update = r.update;
}

pub rooms_asked : RoomsAreAsked
rooms_asked entries rooms e h = record {
  nodes = h.nodes;
  within = λ room r. h.within room (update_room entries e room r);
  apart = λ room r d is kept. h.apart room (update_room entries e room r) d is (same_kept d.act ∙ kept);
  effects = λ d is kind. store_gives_none d.act (h.effects d is kind);
}

pub code_has_rooms : RoomsAreThere → CodeHasRooms
code_has_rooms there code firsts nodes n laid e lists at lays root =
    rooms_asked (listing_in code.listing.items laid) laid.rooms e
    (subst (HasRoomsOf (listing_in code.listing.items laid) laid.rooms) (sym root) (there code firsts nodes n laid lists at lays))

pub events_asked : EventsAreAsked
events_asked world code f laid e d h = record {
  firsts = h.firsts;
  nodes = h.nodes;
  lays = h.lays;
  views = h.views;
  at = h.is_listed.at;
  first = h.is_listed.first;
  end = h.is_listed.end;
  entry = h.is_listed.entry;
  quiet = h.quiet;
}

pub labels_asked : LabelsAreAsked
labels_asked code jumps n h = record {
  function = h.function;
  bodies = h.bodies;
  body = h.body;
  at = h.at;
  labels = h.labels;
  there = h.there;
  same = h.same;
}
