use Rattle.std.proofs.Common.{◌≡◌, [], subst}
use Rattle.c_model.specs.Runs.{canonical_pick, chosen_pick}
use Rattle.run_listing.specs.Along.{place_of}
use Rattle.run_machine.proofs.Bodies.{next_bodies, none_body}
use Rattle.run_machine.proofs.Callees.{next_calls, none_call}
use Rattle.run_answers.specs.Picks.{top_of}
use Rattle.run_machine.proofs.Keeping.{event_kept, step_kept}
use Rattle.run_machine.proofs.LibraryNext.{next_completed, next_library, none_completed, none_library}
use Rattle.run_machine.proofs.Onward.{next_answers, next_completes, none_completes, none_next}
use Rattle.run_machine.proofs.Raised.{next_raises, none_raises}
use Rattle.run_machine.proofs.Named.{promised_of}
use Rattle.run_machine.proofs.RowsNext.{next_grows, step_grows}
use Rattle.run_machine.proofs.Strayed.{next_strayed, none_strayed}
use Rattle.run_answers.proofs.Staying.{event_untold, followed, step_told, steps_taken}
use Rattle.run_answers.proofs.Taken.{event_taken}
use Rattle.run_machine.proofs.Written.{streams_then}
use Rattle.run_machine.proofs.picks.canonical.Goals as goal

pub returns-in-Some : goal.returns-in-Some
returns-in-Some c = record {
  takes = λ world meaning st stands.
      let m = c.args.machine.now in
      let picks = c.law_picks.ensures.follows m c.follow.new.machine c.in_ok-next.next c.in_ok-next.ensures.follows world meaning st stands in
      event_taken c.take_event.result world meaning m (record c.follow.new.machine { items = [] }) st c.in-Some.due.now.place _ stands
      c.in_ok-next.ensures.frame.0 c.in_ok-next.ensures.frame.1
      (subst (λ o. chosen_pick world (place_of o) ≡ canonical_pick world st.top st.top.begun) c.in-Some.is picks) c.take_event.ensures.event;
  steps = event_untold c.law_picks.ensures.follows c.args.machine.now c.follow.new.machine c.take_event.new.machine c.in_ok-next.next c.in-Some.due
      c.take_event.result c.in_ok-next.ensures.follows c.in-Some.is;
  events = next_answers c.law_picks.ensures.next c.args.machine.now c.follow.new.machine c.take_event.new.machine c.clear.new.self c.in_ok-next.next
      c.in-Some.due c.take_event.result c.in_ok-next.ensures.follows c.in-Some.is c.clear.ensures
      (c.law_picks.ensures.follows c.args.machine.now c.follow.new.machine c.in_ok-next.next c.in_ok-next.ensures.follows) c.take_event.ensures.answers;
  completes = next_completes c.law_picks.ensures.next c.args.machine.now c.follow.new.machine c.take_event.new.machine c.clear.new.self c.in_ok-next.next
      c.in-Some.due c.take_event.result c.in_ok-next.ensures.follows c.in-Some.is c.clear.ensures
      (c.law_picks.ensures.follows c.args.machine.now c.follow.new.machine c.in_ok-next.next c.in_ok-next.ensures.follows) c.take_event.ensures.completes;
  bodies = next_bodies c.args.machine.now c.follow.new.machine c.take_event.new.machine c.clear.new.self c.in_ok-next.next c.in-Some.due
      c.take_event.result c.in_ok-next.ensures.follows c.in-Some.is c.clear.ensures
      (c.law_picks.ensures.follows c.args.machine.now c.follow.new.machine c.in_ok-next.next c.in_ok-next.ensures.follows) c.take_event.ensures.bodies;
  calls = next_calls c.args.machine.now c.follow.new.machine c.take_event.new.machine c.clear.new.self c.in_ok-next.next c.in-Some.due
      c.take_event.result c.in_ok-next.ensures.follows c.in-Some.is c.clear.ensures
      (c.law_picks.ensures.follows c.args.machine.now c.follow.new.machine c.in_ok-next.next c.in_ok-next.ensures.follows) c.take_event.ensures.calls;
  keeps = event_kept c.args.machine.now c.take_event.new.machine _ c.take_event.result c.take_event.ensures.event;
  libraries = next_library c.law_picks.ensures.next c.args.machine.now c.follow.new.machine c.take_event.new.machine c.clear.new.self c.in_ok-next.next
      c.in-Some.due c.take_event.result c.in_ok-next.ensures.follows c.in-Some.is c.clear.ensures
      (c.law_picks.ensures.follows c.args.machine.now c.follow.new.machine c.in_ok-next.next c.in_ok-next.ensures.follows) c.take_event.ensures.libraries;
  completes_libraries = next_completed c.law_picks.ensures.next c.args.machine.now c.follow.new.machine c.take_event.new.machine c.clear.new.self
      c.in_ok-next.next c.in-Some.due c.take_event.result c.in_ok-next.ensures.follows c.in-Some.is c.clear.ensures
      (c.law_picks.ensures.follows c.args.machine.now c.follow.new.machine c.in_ok-next.next c.in_ok-next.ensures.follows)
      c.take_event.ensures.completes_libraries;
  raises = next_raises c.args.machine.now c.follow.new.machine c.in-Some.due c.in_ok-next.next (record c.follow.new.machine { items = [] })
      c.take_event.result c.in_ok-next.ensures.follows c.in-Some.is
      (c.law_picks.ensures.follows c.args.machine.now c.follow.new.machine c.in_ok-next.next c.in_ok-next.ensures.follows)
      c.in_ok-next.ensures.frame.0 c.in_ok-next.ensures.frame.1 c.take_event.ensures.raised;
  rows = next_grows c.law_picks.ensures.next c.law_picks.ensures.follows c.args.machine.now c.follow.new.machine c.take_event.new.machine c.clear.new.self
      c.in_ok-next.next c.in-Some.due c.take_event.result c.in_ok-next.ensures.follows c.in-Some.is c.clear.ensures
      (c.law_picks.ensures.follows c.args.machine.now c.follow.new.machine c.in_ok-next.next c.in_ok-next.ensures.follows) c.take_event.ensures.rows;
  strayed = next_strayed c.args.machine.now c.follow.new.machine c.take_event.new.machine c.clear.new.self c.in_ok-next.next c.in-Some.due _
      c.take_event.result c.in_ok-next.ensures.follows c.in-Some.is c.clear.ensures
      (c.law_picks.ensures.follows c.args.machine.now c.follow.new.machine c.in_ok-next.next c.in_ok-next.ensures.follows) c.in_ok-next.ensures.listed
      (promised_of c.in-Some.due.now c.follow.new.machine c.take_event.new.machine c.clear.new.self c.take_event.result c.clear.ensures
      c.take_event.ensures.answers c.take_event.ensures.bodies c.take_event.ensures.calls c.take_event.ensures.libraries c.take_event.ensures.raised)
      c.take_event.ensures.rows c.take_event.ensures.event;
  streams = streams_then c.args.machine.now (record c.follow.new.machine { items = c.clear.new.self }) c.take_event.new.machine c.take_event.result
      c.follow.ensures.streams c.take_event.ensures.streams;
}

pub returns-in-None : goal.returns-in-None
returns-in-None c = record {
  takes = λ world meaning st stands.
      let picks = c.law_picks.ensures.follows c.args.machine.now c.follow.new.machine c.in_ok-next.next c.in_ok-next.ensures.follows world meaning st
      stands in
      steps_taken c.take_control.result world st _
      (subst (λ o. chosen_pick world (place_of o) ≡ canonical_pick world st.top st.top.begun) c.in-None.is picks) c.take_control.ensures.step;
  steps = step_told c.args.machine.now c.follow.new.machine c.take_control.new.machine c.in_ok-next.next c.clear.new.self c.take_control.result
      c.in_ok-next.ensures.follows c.in-None.is c.clear.ensures c.take_control.ensures.answers;
  events = none_next c.args.machine.now c.take_control.new.machine c.in_ok-next.next c.take_control.result c.in-None.is
      (c.law_picks.ensures.follows c.args.machine.now c.follow.new.machine c.in_ok-next.next c.in_ok-next.ensures.follows);
  completes = none_completes c.args.machine.now c.take_control.new.machine c.in_ok-next.next c.take_control.result c.in-None.is
      (c.law_picks.ensures.follows c.args.machine.now c.follow.new.machine c.in_ok-next.next c.in_ok-next.ensures.follows);
  bodies = none_body c.args.machine.now c.take_control.new.machine c.in_ok-next.next c.take_control.result c.in-None.is
      (c.law_picks.ensures.follows c.args.machine.now c.follow.new.machine c.in_ok-next.next c.in_ok-next.ensures.follows);
  calls = none_call c.args.machine.now c.take_control.new.machine c.in_ok-next.next c.take_control.result c.in-None.is
      (c.law_picks.ensures.follows c.args.machine.now c.follow.new.machine c.in_ok-next.next c.in_ok-next.ensures.follows);
  keeps = step_kept c.args.machine.now c.follow.new.machine c.take_control.new.machine c.clear.new.self c.take_control.result
      (followed c.args.machine.now c.args.machine.now.top.stage (top_of c.args.machine.now) c.follow.new.machine c.in_ok-next.next
      c.in_ok-next.ensures.follows c.in-None.is) c.take_control.ensures.keeps;
  libraries = none_library c.args.machine.now c.take_control.new.machine c.in_ok-next.next c.take_control.result c.in-None.is
      (c.law_picks.ensures.follows c.args.machine.now c.follow.new.machine c.in_ok-next.next c.in_ok-next.ensures.follows);
  completes_libraries = none_completed c.args.machine.now c.take_control.new.machine c.in_ok-next.next c.take_control.result c.in-None.is
      (c.law_picks.ensures.follows c.args.machine.now c.follow.new.machine c.in_ok-next.next c.in_ok-next.ensures.follows);
  raises = none_raises c.args.machine.now c.in_ok-next.next c.take_control.result c.in-None.is
      (c.law_picks.ensures.follows c.args.machine.now c.follow.new.machine c.in_ok-next.next c.in_ok-next.ensures.follows);
  rows = step_grows c.args.machine.now c.follow.new.machine c.take_control.new.machine c.in_ok-next.next c.clear.new.self c.take_control.result
      c.in_ok-next.ensures.follows c.in-None.is c.clear.ensures
      (c.law_picks.ensures.follows c.args.machine.now c.follow.new.machine c.in_ok-next.next c.in_ok-next.ensures.follows) c.take_control.ensures.rows;
  strayed = none_strayed c.args.machine.now c.take_control.new.machine c.in_ok-next.next c.take_control.result c.in-None.is
      (c.law_picks.ensures.follows c.args.machine.now c.follow.new.machine c.in_ok-next.next c.in_ok-next.ensures.follows) c.take_control.ensures.step;
  streams = streams_then c.args.machine.now (record c.follow.new.machine { items = c.clear.new.self }) c.take_control.new.machine c.take_control.result
      c.follow.ensures.streams c.take_control.ensures.streams;
}
