-- What a canonical pick comes to.
use Rattle.std.proofs.Common.{◌≡◌, ◌<◌, ◌^◌, ℕ, suc, List, [], Option, Some, None, Result, Ok, Err, refl, sym, ap, subst, ◌∙◌}
use Rattle.ub_base.specs.declared.names.Frame.{Frame}
use Rattle.c_typed.specs.declared.program.Program.{Program}
use Rattle.c_typed.specs.declared.tree.Place.{Place}
use Rattle.mem_objects.specs.Keeps.{RowsStay}
use Rattle.c_model.specs.Runs.{Outcome, Running, State, canonical_pick, step}
use Rattle.c_model.specs.Steps.{Begun, Control, Ev, MayPick, Pick as Model_pick}
use Rattle.c_model.specs.World.{World}
use Rattle.run_layout.specs.declared.nodes.NodeInfo.{NodeInfo}
use Rattle.run_layout.specs.declared.steps.Expression.{Expression as Laid}
use Rattle.run_layout.specs.declared.whole.Code.{Code}
use Rattle.run_statements.specs.declared.numbers.Numbers.{Numbers}
use Rattle.run_state.specs.declared.halt.Halt.{Halt}
use Rattle.run_state.specs.declared.halt.Halt.TheVariants as halt
use Rattle.run_state.specs.declared.machine.Machine.{Machine}
use Rattle.run_state.specs.declared.machine.Stage.{Stage}
use Rattle.run_state.specs.Stands.{Stands}
use Rattle.run_answers.specs.declared.pick.Pick.{Pick}
use Rattle.run_answers.specs.declared.pick.Pick.TheVariants as pick
use Rattle.run_answers.specs.Answering.{Answers, AnswersCanonical, AnswersPick, ComesTo, MayGoOn, newest_items}
use Rattle.run_answers.specs.Keeping.{KeepsPick, KeepsStep}
use Rattle.run_answers.specs.Starting.{
  AnswersNextBody,
  AnswersNextCall,
  AnswersStart,
  CallsFunction,
  MayCallNext,
  MayStartNext,
  StartsIsolated,
  numbered,
}
use Rattle.run_answers.specs.Taking.{AnswersNext, AnswersTaken, MayTakeNext, after_event, store_after, untouched}
use Rattle.code_view.specs.Numbering.{meaning_of}
use Rattle.run_laws.specs.Open.{IsOpen}
use Rattle.run_laws.specs.Going.{IsGoing}
use Rattle.pick_laws.specs.Going.{CallGoesOn, EventGoesOn, InitializerGoesOn, StepGoesOn}
use Rattle.pick_laws.specs.Picks.{CallComes, Comes, ControlComes, EventComes, GoesFrom, GoesOn, InitializerComes}
use Rattle.pick_laws.proofs.Untouched.{going_untouched, same_state, steps_within}

-- ---- what is answered where a pick isn't taken says nothing of meanings
err_same : (world : World) (p : Program) (numbers : Numbers) (old new : Machine) (e : Halt) (o : Outcome)
    → Answers world (meaning_of p numbers old.image.code.now) (Err e) new o → Answers world (meaning_of p numbers new.image.code.now) (Err e) new o
err_same world p numbers old new (halt.Raised event line clause) o a = a
err_same world p numbers old new (halt.Over cause number) o a = a
err_same world p numbers old new halt.Unplaced o a = a
err_same world p numbers old new halt.NoMemory o a = a

module _ (world : World) (p : Program) (numbers : Numbers) (old new : Machine) (st : State) (n : ℕ) (g : GoesFrom world p numbers old st n new) where
  -- a control step
  control_comes : StepGoesOn → (r : Result Pick Halt) → MayGoOn world old st
      → AnswersPick world (meaning_of p numbers old.image.code.now) r new (step world st Control) → KeepsPick old new r
      → Comes world p numbers n new r (step world st Control)
  control_comes goes (Ok (pick.Step None)) may a k =
      let c = a g.rows in (
        c.0,
        c.1,
        c.2,
        goes world p numbers old new st c.0 n g.going may k c.1 c.3 (steps_within world c.0 st Control c.1) g.few,
      )
  control_comes goes (Ok (pick.Step (Some status))) may a k = a
  control_comes goes (Ok (pick.Starts event)) may a k = absurd a
  control_comes goes (Ok (pick.Event event completed status)) may a k = absurd a
  control_comes goes (Err e) may a k = err_same world p numbers old new e (step world st Control) a

  -- an event that isn't a body
  event_comes : EventGoesOn → (e : Begun) (s : Stage) (laid : Laid) (firsts : List ℕ) (nodes : List NodeInfo) (u : Place) (r : Result Pick Halt)
      → IsOpen world (meaning_of p numbers old.image.code.now) (untouched old) st e s laid firsts nodes
      → AnswersTaken world (meaning_of p numbers old.image.code.now) (untouched old) st e s laid u r new (step world st (Ev u))
      → Comes world p numbers n new r (step world st (Ev u))
  event_comes goes e s laid firsts nodes u (Ok (pick.Event event completed None)) o a =
      let c = a g.rows in
      let d = c.0 in
      let v = c.1 in
      let steps = subst (λ w. step world st (Ev w) ≡ Running (after_event world st e w v new.items (store_after new))) (sym c.2) c.4 in
      subst (λ w. GoesOn world p numbers n new (step world st (Ev w))) c.2 (
        after_event world st e d.place v new.items (store_after new),
        steps,
        refl,
        goes world p numbers (untouched old) new st n e s laid firsts nodes d v (going_untouched world p numbers old st n g.going) o c.3 steps
            (steps_within world (after_event world st e d.place v new.items (store_after new)) st (Ev d.place) steps) g.few,
      )
  event_comes goes e s laid firsts nodes u (Ok (pick.Event event completed (Some status))) o a = absurd a
  event_comes goes e s laid firsts nodes u (Ok (pick.Starts event)) o a = absurd a
  event_comes goes e s laid firsts nodes u (Ok (pick.Step status)) o a = absurd a
  event_comes goes e s laid firsts nodes u (Err h) o a = err_same world p numbers old new h (step world st (Ev u)) a

  -- a body that starts a frame
  start_comes : (Started : Type 0) (u : Place) (r : Result Pick Halt) → ((after : State) → step world st (Ev u) ≡ Running after → Started → (frame : Frame)
      → Stands world (meaning_of p numbers old.image.code.now) (numbered new frame) after → IsGoing world p numbers (numbered new frame) after (suc n))
      → AnswersStart world (meaning_of p numbers old.image.code.now) Started r new (step world st (Ev u)) → Comes world p numbers n new r (step world st (Ev u))
  start_comes Started u (Ok (pick.Starts event)) goes a =
      (a.0.0, a.0.1, a.0.2, λ frame is. goes a.0.0 a.0.1 a.1 frame (a.0.3.stands frame is))
  start_comes Started u (Ok (pick.Event event completed status)) goes a = absurd a
  start_comes Started u (Ok (pick.Step status)) goes a = absurd a
  start_comes Started u (Err h) goes a = err_same world p numbers old new h (step world st (Ev u)) a

  initializer_comes : InitializerGoesOn → (e : Begun) (s : Stage) (u : Place) (r : Result Pick Halt)
      → MayStartNext world (meaning_of p numbers old.image.code.now) old st e s → canonical_pick world st.top st.top.begun ≡ Ev u
      → AnswersStart world (meaning_of p numbers old.image.code.now) (StartsIsolated world (untouched old) st e s u new (step world st (Ev u))) r new
      (step world st (Ev u)) → Comes world p numbers n new r (step world st (Ev u))
  initializer_comes goes e s u r may is a =
      start_comes (StartsIsolated world (untouched old) st e s u new (step world st (Ev u))) u r
      (λ after steps started frame stands. goes world p numbers (untouched old) new st after n e s u frame (going_untouched world p numbers old st n g.going)
      may.stage may.stood.begun is steps (subst (StartsIsolated world (untouched old) st e s u new) steps started) stands
      (steps_within world after st (Ev u) steps) g.few) a

  call_comes : CallGoesOn → (e : Begun) (s : Stage) (u : Place) (r : Result Pick Halt) → MayCallNext world (meaning_of p numbers old.image.code.now) old st e s
      → canonical_pick world st.top st.top.begun ≡ Ev u
      → AnswersStart world (meaning_of p numbers old.image.code.now)
      (CallsFunction world (meaning_of p numbers old.image.code.now) (untouched old) st e s u new (step world st (Ev u))) r new (step world st (Ev u))
      → Comes world p numbers n new r (step world st (Ev u))
  call_comes goes e s u r may is a =
      start_comes (CallsFunction world (meaning_of p numbers old.image.code.now) (untouched old) st e s u new (step world st (Ev u))) u r
      (λ after steps started frame stands. goes world p numbers (untouched old) new st after n e s u frame (going_untouched world p numbers old st n g.going)
      may.stood.begun is steps (subst (CallsFunction world (meaning_of p numbers old.image.code.now) (untouched old) st e s u new) steps started) stands
      (steps_within world after st (Ev u) steps) g.few) a

pub controls : StepGoesOn → ControlComes
controls goes world p numbers old new st n r answers keeps g may =
    control_comes world p numbers old new st n g goes r may (answers world (meaning_of p numbers old.image.code.now) st g.going.stands may) keeps

pub events : EventGoesOn → EventComes
events goes world p numbers old new st n e s laid firsts nodes u r answers g may o is =
    event_comes world p numbers old new st n g goes e s laid firsts nodes u r o (answers world (meaning_of p numbers old.image.code.now) st e s laid u may is)

pub initializers : InitializerGoesOn → InitializerComes
initializers goes world p numbers old new st n e s u r answers g may is =
    initializer_comes world p numbers old new st n g goes e s u r may is (answers world (meaning_of p numbers old.image.code.now) st e s u may is)

pub calls : CallGoesOn → CallComes
calls goes world p numbers old new st n e s u r answers g may is =
    call_comes world p numbers old new st n g goes e s u r may is (answers world (meaning_of p numbers old.image.code.now) st e s u may is)
