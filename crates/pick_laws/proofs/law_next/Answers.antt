use Rattle.pick_laws.proofs.Next.{call_next, event_next, initializer_next}
use Rattle.pick_laws.proofs.law_next.Goals as goal

pub returns : goal.returns
returns c = record {
  events = event_next c.law_picks.ensures.follows c.law_given.ensures.next;
  initializers = initializer_next c.law_picks.ensures.follows c.law_initial.ensures.next;
  calls = call_next c.law_picks.ensures.follows c.law_calls.ensures.next;
}
