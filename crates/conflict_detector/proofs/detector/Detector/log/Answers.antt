use Rattle.std.proofs.Common.{refl, inl, inr, arith}
use Rattle.conflict_detector.specs.Recorded as follow
use Rattle.conflict_detector.proofs.Leaving.{empty_after}
use Rattle.conflict_detector.proofs.detector.Detector.log.Goals as goal

pub returns-in_ok-close-in-Closes-clause-follows : goal.returns-in_ok-close-in-Closes-clause-follows
returns-in_ok-close-in-Closes-clause-follows c = λ roots b os last numbered r in_it may.
    let d = c.in-Closes.ensures.decided in
    let e = empty_after c.args.event.frame os in_it c.args.self.now.open c.close.new.self c.in_ok-close-in-Closes.ensures.follows r.follows r.started in
    follow.is_closed (record {
      quiet = d.2 roots b r.known last numbered;
      body = d.1;
      idle = record { known = r.known; none = refl; main = e.0; bare = e.1; follows = e.2 };
    })

pub returns-in_ok-close-in-Closes-clause-idle : goal.returns-in_ok-close-in-Closes-clause-idle
returns-in_ok-close-in-Closes-clause-idle c = λ roots b last same i.
    absurd (let some = c.in-Closes.ensures.decided.0 in let z = i.none in omega (arith, some, z))

pub returns-in_ok-step-in-Items-clause-follows : goal.returns-in_ok-step-in-Items-clause-follows
returns-in_ok-step-in-Items-clause-follows c = λ roots b os last numbered r in_it may.
    let d = c.in-Items.ensures.decided in
    let reached = c.in_ok-reach-in-Items.ensures.follows os r.follows in_it r.started in
    follow.is_passed (record {
      quiet = d.3 roots b r.known last numbered;
      bodiless = d.1;
      none = d.2;
      frames = reached.0;
      reached = reached.1;
      stays = record {
        known = r.known;
        some = r.some;
        started = reached.1.started;
        follows = record { follows = c.step.ensures.follows reached.0 reached.2.follows; names = reached.2.names };
      };
    })

pub returns-in_ok-step-in-Items-clause-idle : goal.returns-in_ok-step-in-Items-clause-idle
returns-in_ok-step-in-Items-clause-idle c = λ roots b last same i. absurd (let some = c.in-Items.ensures.decided.0 in let z = i.none in omega (arith, some, z))

pub returns-in_ok-log_event-in-Begins-clause-follows : goal.returns-in_ok-log_event-in-Begins-clause-follows
returns-in_ok-log_event-in-Begins-clause-follows c = λ roots b os last numbered r in_it may.
    absurd (let some = r.some in omega (arith, some, c.in-Begins.ensures))

pub returns-in_ok-log_event-in-Begins-clause-idle : goal.returns-in_ok-log_event-in-Begins-clause-idle
returns-in_ok-log_event-in-Begins-clause-idle c = λ roots b last same i. inr (λ s may.
    let g = c.in_ok-restart-in-Begins.ensures.starts roots b last i s in
    (g.0, g.1, c.in_ok-log_event-in-Begins.ensures.follows roots b _ last g.2 (inl same) (may g.0 g.1)))

pub returns-in_ok-log_event-in-Event-clause-follows : goal.returns-in_ok-log_event-in-Event-clause-follows
returns-in_ok-log_event-in-Event-clause-follows c = λ roots b os last numbered r in_it may.
    follow.is_told (c.in_ok-log_event-in-Event.ensures.follows roots b os last r in_it may)

pub returns-in_ok-log_event-in-Event-clause-idle : goal.returns-in_ok-log_event-in-Event-clause-idle
returns-in_ok-log_event-in-Event-clause-idle c = λ roots b last same i. absurd (let z = i.none in omega (arith, z, c.in-Event.ensures))

pub returns-in_ok-close-in-Closes-clause-left : goal.returns-in_ok-close-in-Closes-clause-left
returns-in_ok-close-in-Closes-clause-left c = λ no body roots b right last numbered. c.in-Closes.ensures.decided.2 roots b right last numbered

pub returns-in_ok-step-in-Items-clause-left : goal.returns-in_ok-step-in-Items-clause-left
returns-in_ok-step-in-Items-clause-left c = λ no body roots b right last numbered. absurd (c.in-Items.ensures.decided.1 body)

pub returns-in_ok-log_event-in-Begins-clause-told : goal.returns-in_ok-log_event-in-Begins-clause-told
returns-in_ok-log_event-in-Begins-clause-told c = λ yes roots b os last r in_it may. absurd (let some = r.some in omega (arith, some, c.in-Begins.ensures))

pub returns-in_ok-log_event-in-Event-clause-told : goal.returns-in_ok-log_event-in-Event-clause-told
returns-in_ok-log_event-in-Event-clause-told c = λ yes roots b os last r in_it may. (
  c.in_ok-log_event-in-Event.ensures.follows roots b os last r in_it may,
  c.in_ok-log_event-in-Event.ensures.counts,
)
