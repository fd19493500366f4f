use Rattle.canonical_laws.proofs.Along.{along_comes}
use Rattle.canonical_laws.proofs.Control.{control_may}
use Rattle.canonical_laws.proofs.law_along.Goals as goal

pub returns : goal.returns
returns c =
    along_comes (record {
      control = c.law_pick.ensures.control;
      events = c.law_pick.ensures.events;
      libraries = c.law_pick.ensures.libraries;
      initializers = c.law_pick.ensures.initializers;
      calls = c.law_pick.ensures.calls;
      may = control_may c.law_control.ensures c.law_entered_arguments.ensures;
      asked = c.law_event_asked.ensures;
      held = c.law_held.ensures.keeps;
      step_idle = c.law_idle.ensures.steps;
      event_idle = c.law_idle.ensures.events;
      library_idle = c.law_idle.ensures.libraries;
      initializer_idle = c.law_idle.ensures.initializers;
      call_idle = c.law_idle.ensures.calls;
      placed = c.law_placed_values.ensures.keeps;
      unresulted = c.law_unresulted.ensures.keeps;
      arguments = c.law_arguments.ensures.keeps;
    })
