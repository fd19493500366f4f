use Rattle.std.proofs.Common.{◌∙◌, ap, refl, Ok, Err}
use Rattle.run_answers.specs.declared.pick.Pick.TheVariants as pick
use Rattle.run_answers.specs.Picks.{event_at}
use Rattle.run_answers.proofs.Answered.{completed_done, completed_else, completed_ended, taken_done, taken_ended, taken_started, taken_stopped}
use Rattle.run_machine.proofs.Bodies.{body_done, body_ended, body_started, body_stopped}
use Rattle.run_machine.proofs.Callees.{call_done, call_ended, call_started, call_stopped}
use Rattle.run_machine.proofs.LibraryCompletes.{completed_called}
use Rattle.run_machine.proofs.LibraryTaken.{called_done, called_ended, called_started, called_stopped}
use Rattle.run_machine.proofs.Raised.{finished_raises, raised_by}
use Rattle.run_machine.proofs.RowsNext as next
use Rattle.run_machine.proofs.RowsTaken as rows
use Rattle.run_machine.proofs.Written.{finished_streams, stopped_streams}
use Rattle.run_machine.proofs.events.take_event.Goals as goal

pub returns-in-Ok-Done-clause-answers : goal.returns-in-Ok-Done-clause-answers
returns-in-Ok-Done-clause-answers c =
    taken_done c.law_events.ensures.steps c.args.due.now c.args.machine.now c.pass_event.new.machine c.perform.new.machine
    c.finish_event.new.machine c.perform.result c.finish_event.result c.pass_event.ensures
    (c.perform.ensures.exact, c.perform.ensures.changes, c.perform.ensures.effect) (c.in-Ok-Done.is ∙ ap Ok c.in-Ok-Done.field-0-is)
    c.finish_event.ensures.follows

pub returns-in-Ok-Started-clause-answers : goal.returns-in-Ok-Started-clause-answers
returns-in-Ok-Started-clause-answers c =
    taken_started c.law_events.ensures.steps c.args.due.now c.args.machine.now c.pass_event.new.machine c.perform.new.machine
    c.perform.new.machine c.perform.result (Ok (pick.Starts (event_at c.args.machine.now c.args.due.now.place))) c.pass_event.ensures
    (c.perform.ensures.exact, c.perform.ensures.changes, c.perform.ensures.effect) (c.in-Ok-Started.is ∙ ap Ok c.in-Ok-Started.field-0-is)

pub returns-in-Ok-End-clause-answers : goal.returns-in-Ok-End-clause-answers
returns-in-Ok-End-clause-answers c =
    taken_ended c.law_events.ensures.steps c.args.due.now c.args.machine.now c.pass_event.new.machine c.perform.new.machine
    c.finish_event-in-Ok-End.new.machine c.perform.result c.finish_event-in-Ok-End.result c.pass_event.ensures
    (c.perform.ensures.exact, c.perform.ensures.changes, c.perform.ensures.effect) _ (c.in-Ok-End.is ∙ ap Ok c.in-Ok-End.field-0-is)

pub returns-in-Err-clause-answers : goal.returns-in-Err-clause-answers
returns-in-Err-clause-answers c =
    taken_stopped c.law_events.ensures.steps c.args.due.now c.args.machine.now c.pass_event.new.machine c.perform.new.machine
    c.perform.new.machine c.perform.result (Ok (pick.Starts (event_at c.args.machine.now c.args.due.now.place))) c.pass_event.ensures
    (c.perform.ensures.exact, c.perform.ensures.changes, c.perform.ensures.effect) c.in-Err.fault c.args.due.now.line c.of.result c.in-Err.is c.of.ensures

pub returns-in-Ok-Done-clause-bodies : goal.returns-in-Ok-Done-clause-bodies
returns-in-Ok-Done-clause-bodies c =
    body_done c.law_view.ensures.trees c.law_cursor.ensures.starts c.args.due.now c.args.machine.now c.pass_event.new.machine c.perform.new.machine
    (event_at c.args.machine.now c.args.due.now.place) refl c.perform.result c.pass_event.ensures c.perform.ensures.bodies
    c.finish_event.new.machine c.finish_event.result (c.in-Ok-Done.is ∙ ap Ok c.in-Ok-Done.field-0-is)

pub returns-in-Ok-Started-clause-bodies : goal.returns-in-Ok-Started-clause-bodies
returns-in-Ok-Started-clause-bodies c =
    body_started c.law_view.ensures.trees c.law_cursor.ensures.starts c.args.due.now c.args.machine.now c.pass_event.new.machine c.perform.new.machine
    (event_at c.args.machine.now c.args.due.now.place) refl c.perform.result c.pass_event.ensures c.perform.ensures.bodies
    (c.in-Ok-Started.is ∙ ap Ok c.in-Ok-Started.field-0-is) (event_at c.args.machine.now c.args.due.now.place)

pub returns-in-Ok-End-clause-bodies : goal.returns-in-Ok-End-clause-bodies
returns-in-Ok-End-clause-bodies c =
    body_ended c.law_view.ensures.trees c.law_cursor.ensures.starts c.args.due.now c.args.machine.now c.pass_event.new.machine c.perform.new.machine
    (event_at c.args.machine.now c.args.due.now.place) refl c.perform.result c.pass_event.ensures c.perform.ensures.bodies
    c.finish_event-in-Ok-End.new.machine c.finish_event-in-Ok-End.result _ (c.in-Ok-End.is ∙ ap Ok c.in-Ok-End.field-0-is)

pub returns-in-Err-clause-bodies : goal.returns-in-Err-clause-bodies
returns-in-Err-clause-bodies c =
    body_stopped c.law_view.ensures.trees c.law_cursor.ensures.starts c.args.due.now c.args.machine.now c.pass_event.new.machine c.perform.new.machine
    (event_at c.args.machine.now c.args.due.now.place) refl c.perform.result c.pass_event.ensures c.perform.ensures.bodies c.in-Err.fault
    c.args.due.now.line c.of.result c.in-Err.is c.of.ensures

pub returns-in-Ok-Done-clause-completes : goal.returns-in-Ok-Done-clause-completes
returns-in-Ok-Done-clause-completes c =
    completed_done c.law_events.ensures.steps c.args.due.now c.args.machine.now c.pass_event.new.machine
    c.perform.new.machine c.finish_event.new.machine c.perform.result c.finish_event.result c.pass_event.ensures
    (c.perform.ensures.exact, c.perform.ensures.changes, c.perform.ensures.effect) c.law_events.ensures.completes
    (c.in-Ok-Done.is ∙ ap Ok c.in-Ok-Done.field-0-is) c.finish_event.ensures.follows c.finish_event.ensures.completes

pub returns-in-Ok-Started-clause-completes : goal.returns-in-Ok-Started-clause-completes
returns-in-Ok-Started-clause-completes c =
    completed_else c.law_events.ensures.steps c.args.due.now c.args.machine.now c.pass_event.new.machine
    c.perform.new.machine c.perform.new.machine c.perform.result (Ok (pick.Starts (event_at c.args.machine.now c.args.due.now.place)))
    c.pass_event.ensures (c.perform.ensures.exact, c.perform.ensures.changes, c.perform.ensures.effect) (λ world u o. tt)

pub returns-in-Ok-End-clause-completes : goal.returns-in-Ok-End-clause-completes
returns-in-Ok-End-clause-completes c =
    completed_ended c.law_events.ensures.steps c.args.due.now c.args.machine.now c.pass_event.new.machine
    c.perform.new.machine c.finish_event-in-Ok-End.new.machine c.perform.result c.finish_event-in-Ok-End.result c.pass_event.ensures
    (c.perform.ensures.exact, c.perform.ensures.changes, c.perform.ensures.effect) _ (c.in-Ok-End.is ∙ ap Ok c.in-Ok-End.field-0-is)

pub returns-in-Err-clause-completes : goal.returns-in-Err-clause-completes
returns-in-Err-clause-completes c =
    completed_else c.law_events.ensures.steps c.args.due.now c.args.machine.now c.pass_event.new.machine
    c.perform.new.machine c.perform.new.machine c.perform.result (Err c.of.result) c.pass_event.ensures
    (c.perform.ensures.exact, c.perform.ensures.changes, c.perform.ensures.effect) (λ world u o. tt)

pub returns-in-Ok-Done-clause-calls : goal.returns-in-Ok-Done-clause-calls
returns-in-Ok-Done-clause-calls c =
    call_done c.law_view.ensures.trees c.law_cursor.ensures.starts c.args.due.now c.args.machine.now c.pass_event.new.machine c.perform.new.machine
    (event_at c.args.machine.now c.args.due.now.place) refl c.perform.result c.pass_event.ensures c.perform.ensures.calls
    c.finish_event.new.machine c.finish_event.result (c.in-Ok-Done.is ∙ ap Ok c.in-Ok-Done.field-0-is)

pub returns-in-Ok-Started-clause-calls : goal.returns-in-Ok-Started-clause-calls
returns-in-Ok-Started-clause-calls c =
    call_started c.law_view.ensures.trees c.law_cursor.ensures.starts c.args.due.now c.args.machine.now c.pass_event.new.machine c.perform.new.machine
    (event_at c.args.machine.now c.args.due.now.place) refl c.perform.result c.pass_event.ensures c.perform.ensures.calls
    (c.in-Ok-Started.is ∙ ap Ok c.in-Ok-Started.field-0-is) (event_at c.args.machine.now c.args.due.now.place)

pub returns-in-Ok-End-clause-calls : goal.returns-in-Ok-End-clause-calls
returns-in-Ok-End-clause-calls c =
    call_ended c.law_view.ensures.trees c.law_cursor.ensures.starts c.args.due.now c.args.machine.now c.pass_event.new.machine c.perform.new.machine
    (event_at c.args.machine.now c.args.due.now.place) refl c.perform.result c.pass_event.ensures c.perform.ensures.calls
    c.finish_event-in-Ok-End.new.machine c.finish_event-in-Ok-End.result _ (c.in-Ok-End.is ∙ ap Ok c.in-Ok-End.field-0-is)

pub returns-in-Err-clause-calls : goal.returns-in-Err-clause-calls
returns-in-Err-clause-calls c =
    call_stopped c.law_view.ensures.trees c.law_cursor.ensures.starts c.args.due.now c.args.machine.now c.pass_event.new.machine c.perform.new.machine
    (event_at c.args.machine.now c.args.due.now.place) refl c.perform.result c.pass_event.ensures c.perform.ensures.calls c.in-Err.fault
    c.args.due.now.line c.of.result c.in-Err.is c.of.ensures

pub returns-in-Ok-Done-clause-libraries : goal.returns-in-Ok-Done-clause-libraries
returns-in-Ok-Done-clause-libraries c =
    called_done c.law_bodies.ensures.stands c.law_bodies.ensures.steps c.law_library.ensures.rows c.law_library.ensures.steps c.args.due.now
    c.args.machine.now c.pass_event.new.machine c.perform.new.machine c.perform.result c.pass_event.ensures c.perform.ensures.calls
    (c.in-Ok-Done.is ∙ ap Ok c.in-Ok-Done.field-0-is) c.finish_event.new.machine c.finish_event.result c.finish_event.ensures.follows

pub returns-in-Ok-Started-clause-libraries : goal.returns-in-Ok-Started-clause-libraries
returns-in-Ok-Started-clause-libraries c =
    called_started c.law_bodies.ensures.stands c.law_bodies.ensures.steps c.law_library.ensures.rows c.law_library.ensures.steps c.args.due.now
    c.args.machine.now c.pass_event.new.machine c.perform.new.machine c.perform.result c.pass_event.ensures c.perform.ensures.calls
    (c.in-Ok-Started.is ∙ ap Ok c.in-Ok-Started.field-0-is) c.perform.new.machine (Ok (pick.Starts (event_at c.args.machine.now c.args.due.now.place)))

pub returns-in-Ok-End-clause-libraries : goal.returns-in-Ok-End-clause-libraries
returns-in-Ok-End-clause-libraries c =
    called_ended c.law_bodies.ensures.stands c.law_bodies.ensures.steps c.law_library.ensures.rows c.law_library.ensures.steps c.args.due.now
    c.args.machine.now c.pass_event.new.machine c.perform.new.machine c.perform.result c.pass_event.ensures c.perform.ensures.calls
    _ (c.in-Ok-End.is ∙ ap Ok c.in-Ok-End.field-0-is) c.finish_event-in-Ok-End.new.machine c.finish_event-in-Ok-End.result
    c.finish_event-in-Ok-End.ensures.follows

pub returns-in-Err-clause-libraries : goal.returns-in-Err-clause-libraries
returns-in-Err-clause-libraries c =
    called_stopped c.law_bodies.ensures.stands c.law_bodies.ensures.steps c.law_library.ensures.rows c.law_library.ensures.steps c.args.due.now
    c.args.machine.now c.pass_event.new.machine c.perform.new.machine c.perform.result c.pass_event.ensures c.perform.ensures.calls
    c.in-Err.fault c.args.due.now.line c.of.result c.in-Err.is c.of.ensures

pub returns-in-Ok-Done-clause-completes_libraries : goal.returns-in-Ok-Done-clause-completes_libraries
returns-in-Ok-Done-clause-completes_libraries c =
    completed_called c.law_bodies.ensures.completes c.args.due.now c.args.machine.now c.finish_event.new.machine c.finish_event.result
    (returns-in-Ok-Done-clause-libraries c) c.finish_event.ensures.completes

pub returns-in-Ok-Started-clause-completes_libraries : goal.returns-in-Ok-Started-clause-completes_libraries
returns-in-Ok-Started-clause-completes_libraries c =
    completed_called c.law_bodies.ensures.completes c.args.due.now c.args.machine.now c.perform.new.machine
    (Ok (pick.Starts (event_at c.args.machine.now c.args.due.now.place))) (returns-in-Ok-Started-clause-libraries c) tt

pub returns-in-Ok-End-clause-completes_libraries : goal.returns-in-Ok-End-clause-completes_libraries
returns-in-Ok-End-clause-completes_libraries c =
    completed_called c.law_bodies.ensures.completes c.args.due.now c.args.machine.now c.finish_event-in-Ok-End.new.machine c.finish_event-in-Ok-End.result
    (returns-in-Ok-End-clause-libraries c) c.finish_event-in-Ok-End.ensures.completes

pub returns-in-Err-clause-completes_libraries : goal.returns-in-Err-clause-completes_libraries
returns-in-Err-clause-completes_libraries c =
    completed_called c.law_bodies.ensures.completes c.args.due.now c.args.machine.now c.perform.new.machine (Err c.of.result)
    (returns-in-Err-clause-libraries c) tt

pub returns-in-Ok-Done-clause-raised : goal.returns-in-Ok-Done-clause-raised
returns-in-Ok-Done-clause-raised c = finished_raises c.args.machine.now _ _ _ c.args.due.now _ _ c.finish_event.result c.finish_event.ensures.follows

pub returns-in-Ok-End-clause-raised : goal.returns-in-Ok-End-clause-raised
returns-in-Ok-End-clause-raised c =
    finished_raises c.args.machine.now _ _ _ c.args.due.now _ _ c.finish_event-in-Ok-End.result c.finish_event-in-Ok-End.ensures.follows

pub returns-in-Err-clause-raised : goal.returns-in-Err-clause-raised
returns-in-Err-clause-raised c = raised_by c.args.machine.now c.args.due.now c.in-Err.fault c.of.result c.of.ensures

pub returns-in-Ok-Done-clause-rows : goal.returns-in-Ok-Done-clause-rows
returns-in-Ok-Done-clause-rows c = record {
  events = rows.rows_done c.law_events.ensures.steps c.args.due.now c.args.machine.now c.pass_event.new.machine c.perform.new.machine
      c.finish_event.new.machine c.perform.result c.finish_event.result c.pass_event.ensures
      (c.perform.ensures.exact, c.perform.ensures.changes, c.perform.ensures.effect)
      (c.in-Ok-Done.is ∙ ap Ok c.in-Ok-Done.field-0-is) c.finish_event.ensures.memory;
  libraries = rows.called_done c.law_bodies.ensures.stands c.law_bodies.ensures.steps c.law_library.ensures.rows c.law_library.ensures.steps c.args.due.now
      c.args.machine.now c.pass_event.new.machine c.perform.new.machine c.perform.result c.pass_event.ensures c.perform.ensures.calls
      (c.in-Ok-Done.is ∙ ap Ok c.in-Ok-Done.field-0-is) c.finish_event.new.machine c.finish_event.result c.finish_event.ensures.memory;
  bodies = next.body_done c.law_view.ensures.trees c.law_cursor.ensures.starts c.args.due.now c.args.machine.now c.pass_event.new.machine
      c.perform.new.machine (event_at c.args.machine.now c.args.due.now.place) refl c.perform.result c.pass_event.ensures c.perform.ensures.bodies
      c.finish_event.new.machine c.finish_event.result (c.in-Ok-Done.is ∙ ap Ok c.in-Ok-Done.field-0-is);
  calls = next.call_done c.law_view.ensures.trees c.law_cursor.ensures.starts c.args.due.now c.args.machine.now c.pass_event.new.machine
      c.perform.new.machine (event_at c.args.machine.now c.args.due.now.place) refl c.perform.result c.pass_event.ensures c.perform.ensures.calls
      c.finish_event.new.machine c.finish_event.result (c.in-Ok-Done.is ∙ ap Ok c.in-Ok-Done.field-0-is);
}

pub returns-in-Ok-Started-clause-rows : goal.returns-in-Ok-Started-clause-rows
returns-in-Ok-Started-clause-rows c = record {
  events = rows.rows_started c.law_events.ensures.steps c.args.due.now c.args.machine.now c.pass_event.new.machine c.perform.new.machine
      c.perform.new.machine c.perform.result (Ok (pick.Starts (event_at c.args.machine.now c.args.due.now.place))) c.pass_event.ensures
      (c.perform.ensures.exact, c.perform.ensures.changes, c.perform.ensures.effect) (c.in-Ok-Started.is ∙ ap Ok c.in-Ok-Started.field-0-is);
  libraries = rows.called_started c.law_bodies.ensures.stands c.law_bodies.ensures.steps c.law_library.ensures.rows c.law_library.ensures.steps c.args.due.now
      c.args.machine.now c.pass_event.new.machine c.perform.new.machine c.perform.result c.pass_event.ensures c.perform.ensures.calls
      (c.in-Ok-Started.is ∙ ap Ok c.in-Ok-Started.field-0-is) (event_at c.args.machine.now c.args.due.now.place);
  bodies = next.body_started c.law_view.ensures.trees c.law_cursor.ensures.starts c.args.due.now c.args.machine.now c.pass_event.new.machine
      c.perform.new.machine (event_at c.args.machine.now c.args.due.now.place) refl c.perform.result c.pass_event.ensures c.perform.ensures.bodies
      (c.in-Ok-Started.is ∙ ap Ok c.in-Ok-Started.field-0-is) (event_at c.args.machine.now c.args.due.now.place);
  calls = next.call_started c.law_view.ensures.trees c.law_cursor.ensures.starts c.args.due.now c.args.machine.now c.pass_event.new.machine
      c.perform.new.machine (event_at c.args.machine.now c.args.due.now.place) refl c.perform.result c.pass_event.ensures c.perform.ensures.calls
      (c.in-Ok-Started.is ∙ ap Ok c.in-Ok-Started.field-0-is) (event_at c.args.machine.now c.args.due.now.place);
}

pub returns-in-Ok-End-clause-rows : goal.returns-in-Ok-End-clause-rows
returns-in-Ok-End-clause-rows c = record {
  events = rows.rows_ended c.law_events.ensures.steps c.args.due.now c.args.machine.now c.pass_event.new.machine c.perform.new.machine
      c.finish_event-in-Ok-End.new.machine c.perform.result c.finish_event-in-Ok-End.result c.pass_event.ensures
      (c.perform.ensures.exact, c.perform.ensures.changes, c.perform.ensures.effect) _ (c.in-Ok-End.is ∙ ap Ok c.in-Ok-End.field-0-is);
  libraries = rows.called_ended c.law_bodies.ensures.stands c.law_bodies.ensures.steps c.law_library.ensures.rows c.law_library.ensures.steps c.args.due.now
      c.args.machine.now c.pass_event.new.machine c.perform.new.machine c.perform.result c.pass_event.ensures c.perform.ensures.calls
      _ (c.in-Ok-End.is ∙ ap Ok c.in-Ok-End.field-0-is) c.finish_event-in-Ok-End.new.machine c.finish_event-in-Ok-End.result
      c.finish_event-in-Ok-End.ensures.memory;
  bodies = next.body_ended c.law_view.ensures.trees c.law_cursor.ensures.starts c.args.due.now c.args.machine.now c.pass_event.new.machine
      c.perform.new.machine (event_at c.args.machine.now c.args.due.now.place) refl c.perform.result c.pass_event.ensures c.perform.ensures.bodies
      c.finish_event-in-Ok-End.new.machine c.finish_event-in-Ok-End.result _ (c.in-Ok-End.is ∙ ap Ok c.in-Ok-End.field-0-is);
  calls = next.call_ended c.law_view.ensures.trees c.law_cursor.ensures.starts c.args.due.now c.args.machine.now c.pass_event.new.machine
      c.perform.new.machine (event_at c.args.machine.now c.args.due.now.place) refl c.perform.result c.pass_event.ensures c.perform.ensures.calls
      c.finish_event-in-Ok-End.new.machine c.finish_event-in-Ok-End.result _ (c.in-Ok-End.is ∙ ap Ok c.in-Ok-End.field-0-is);
}

pub returns-in-Err-clause-rows : goal.returns-in-Err-clause-rows
returns-in-Err-clause-rows c = record {
  events = rows.rows_stopped c.law_events.ensures.steps c.args.due.now c.args.machine.now c.pass_event.new.machine c.perform.new.machine
      c.perform.new.machine c.perform.result (Err c.of.result) c.pass_event.ensures
      (c.perform.ensures.exact, c.perform.ensures.changes, c.perform.ensures.effect) c.in-Err.fault c.of.result c.in-Err.is c.perform.ensures.rows;
  libraries = rows.called_stopped c.law_bodies.ensures.stands c.law_bodies.ensures.steps c.law_library.ensures.rows c.law_library.ensures.steps c.args.due.now
      c.args.machine.now c.pass_event.new.machine c.perform.new.machine c.perform.result c.pass_event.ensures c.perform.ensures.calls
      c.in-Err.fault c.args.due.now.line c.of.result c.in-Err.is c.of.ensures;
  bodies = next.body_stopped c.law_view.ensures.trees c.law_cursor.ensures.starts c.args.due.now c.args.machine.now c.pass_event.new.machine
      c.perform.new.machine (event_at c.args.machine.now c.args.due.now.place) refl c.perform.result c.pass_event.ensures c.perform.ensures.bodies
      c.in-Err.fault c.args.due.now.line c.of.result c.in-Err.is c.of.ensures;
  calls = next.call_stopped c.law_view.ensures.trees c.law_cursor.ensures.starts c.args.due.now c.args.machine.now c.pass_event.new.machine
      c.perform.new.machine (event_at c.args.machine.now c.args.due.now.place) refl c.perform.result c.pass_event.ensures c.perform.ensures.calls
      c.in-Err.fault c.args.due.now.line c.of.result c.in-Err.is c.of.ensures;
}

pub returns-in-Ok-Done-clause-streams : goal.returns-in-Ok-Done-clause-streams
returns-in-Ok-Done-clause-streams c =
    finished_streams c.args.machine.now _ _ _ c.args.due.now _ c.finish_event.new.machine c.finish_event.result c.finish_event.ensures.follows

pub returns-in-Ok-Started-clause-streams : goal.returns-in-Ok-Started-clause-streams
returns-in-Ok-Started-clause-streams c = tt

pub returns-in-Ok-End-clause-streams : goal.returns-in-Ok-End-clause-streams
returns-in-Ok-End-clause-streams c =
    finished_streams c.args.machine.now _ _ _ c.args.due.now _ c.finish_event-in-Ok-End.new.machine c.finish_event-in-Ok-End.result
    c.finish_event-in-Ok-End.ensures.follows

pub returns-in-Err-clause-streams : goal.returns-in-Err-clause-streams
returns-in-Err-clause-streams c =
    stopped_streams c.args.machine.now c.pass_event.new.machine c.perform.new.machine c.perform.result c.in-Err.fault c.of.result c.pass_event.ensures
    c.in-Err.is c.perform.ensures.streams
