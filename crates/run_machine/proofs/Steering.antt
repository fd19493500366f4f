-- What control steps leave to do.
use Rattle.std.proofs.Common.{◌≡◌, ℕ, Bool, true, false, refl, sym, ap, ◌∙◌, subst, List, ◌∷◌, Option, Some, None}
use Rattle.std.specs.Prelude.{Result, Ok, Err, OnOk, is_some}
use Rattle.c_model.specs.Control.{Todo, gone_to, leaves, on_with, out_of, ready_work}
use Rattle.c_model.specs.Steps.{Local, control_next}
use Rattle.c_model.specs.World.{World}
use Rattle.run_control.specs.declared.links.Link.{Link}
use Rattle.run_control.specs.declared.links.Place.{Place}
use Rattle.std.specs.Borrow.{Bor}
use Rattle.run_control.specs.declared.statement.Block.{Block}
use Rattle.run_control.specs.declared.moves.Move.TheVariants.{Out, On, Back}
use Rattle.run_control.specs.declared.work.Step.{Step}
use Rattle.run_control.specs.declared.work.Step.TheVariants as step
use Rattle.run_control.specs.declared.work.Work.{Work}
use Rattle.run_control.specs.Links.{work_from}
use Rattle.run_control.specs.Moves.{moved}
use Rattle.run_control.specs.Stacked.{Stacked, Closes}
use Rattle.run_control.specs.View.{Meaning, is_nothing, readied, step_of, todo_of}
use Rattle.run_state.specs.declared.machine.Stage.{Stage}
use Rattle.run_state.specs.Stands.{StandsControl}
use Rattle.run_answers.specs.Moving.{GoesOn, IsGone, Leaves, StepLeaves, TakesStep}

both : (b : Bool) → b ≡ true → b ≡ false → ⊥
both true e f = cc
both false e f = cc

some_none : {A : Type 0} (o : Option A) → o ≡ None → is_some o ≡ true → ⊥
some_none None n e = cc
some_none (Some x) n e = cc

-- ---- the frame ends, or goes on
pub goes_over : (m : Meaning) (old mid new : Stacked) → is_nothing (ready_work (todo_of m old.now)) ≡ true → mid.below ≡ old.below →
    Closes mid.below true new → GoesOn m old new
goes_over m old mid new over below closes = record {
  on = λ e. absurd (both (is_nothing (ready_work (todo_of m old.now))) over e);
  ends = λ e. subst (λ (frames : List (List Work)). Closes frames true new) below closes;
}

pub goes_further : (m : Meaning) (old new : Stacked) → is_nothing (ready_work (todo_of m old.now)) ≡ false → new.below ≡ old.below →
    ready_work (todo_of m new.now) ≡ ready_work (todo_of m old.now) → GoesOn m old new
goes_further m old new over below ready = record {
  on = λ e. (below, ready);
  ends = λ e. absurd (both (is_nothing (ready_work (todo_of m old.now))) e over);
}

-- ---- single steps
stands_as : (m : Meaning) (ws : List Work) (f : Local) → todo_of m ws ≡ f.todo → StandsControl m ws f
stands_as m ws f e = record { ready = ap ready_work e; behind = λ b. e }

-- one that leaves the rest as it is
pub leaves_same : (m : Meaning) (s : Step) (old new : Stacked) → new ≡ old →
    ((world : World) (f : Local) → (control_next world f (step_of m s ∷ todo_of m old.now)).todo ≡ todo_of m old.now) → Leaves m s old new
leaves_same m s old new e rest = (
  ap (λ (k : Stacked). k.below) e,
  λ world f none. stands_as m new.now (control_next world f (step_of m s ∷ todo_of m old.now))
      (ap (λ (k : Stacked). todo_of m k.now) e ∙ sym (rest world f)),
)

-- one that moves
pub leaves_moved : (m : Meaning) (s : Step) (old new : Stacked) (how : Todo → Todo) → new.below ≡ old.below →
    todo_of m new.now ≡ how (todo_of m old.now) →
    ((world : World) (f : Local) → (control_next world f (step_of m s ∷ todo_of m old.now)).todo ≡ how (todo_of m old.now)) → Leaves m s old new
leaves_moved m s old new how below now moves = (
  below,
  λ world f none. stands_as m new.now (control_next world f (step_of m s ∷ todo_of m old.now)) (now ∙ sym (moves world f)),
)

-- one that leaves a block
pub leaves_block : (m : Meaning) (s : Step) (old mid new : Stacked) → mid ≡ old →
    ((world : World) (f : Local) → (control_next world f (step_of m s ∷ todo_of m old.now)).todo ≡ todo_of m old.now) →
    ((world : World) (f : Local) → (control_next world f (step_of m s ∷ todo_of m old.now)).begun ≡ f.begun) → GoesOn m mid new →
    (is_nothing (ready_work (todo_of m old.now)) ≡ false → Leaves m s old new)
    × (is_nothing (ready_work (todo_of m old.now)) ≡ true → Closes old.below true new)
leaves_block m s old mid new same rest begun goes =
    let stays = subst (λ (k : Stacked). GoesOn m k new) same goes in (
      λ e. (
        (stays.on e).0,
        λ world f none. record {
          ready = (stays.on e).1 ∙ sym (ap ready_work (rest world f));
          behind = λ b. absurd (some_none (control_next world f (step_of m s ∷ todo_of m old.now)).begun (begun world f ∙ none) b);
        },
      ),
      λ e. stays.ends e,
    )

-- ---- of calls whose result is handed on
pub frame_ends : {A E : Type 0} (r : Result A E) (old mid new : Stacked) (over : Bool) → over ≡ true →
    ((m : Meaning) → over ≡ is_nothing (ready_work (todo_of m old.now))) → mid.below ≡ old.below → OnOk r (Closes mid.below true new) →
    OnOk r ((m : Meaning) → GoesOn m old new)
frame_ends (Ok x) old mid new over is ends below closes = λ m. goes_over m old mid new (sym (ends m) ∙ is) below closes
frame_ends (Err e) old mid new over is ends below closes = tt

pub block_left : {A E : Type 0} (r : Result A E) (links : List Link) (s : Step) (b : Bor Block) (old mid new : Stacked) → s ≡ step.Leave b → mid ≡ old →
    OnOk r ((m : Meaning) → GoesOn m mid new) → OnOk r ((m : Meaning) → StepLeaves m links s old new)
block_left (Ok x) links s b old mid new is same goes = λ m.
    subst (λ (t : Step). StepLeaves m links t old new) (sym is)
    (leaves_block m (step.Leave b) old mid new same (λ world f. refl) (λ world f. refl) (goes m))
block_left (Err e) links s b old mid new is same goes = tt

pub label_gone : {A E : Type 0} (r : Result A E) (links : List Link) (s : Step) (k : ℕ) (old new : Stacked) → s ≡ step.GoTo k →
    OnOk r ((m : Meaning) → IsGone m links old new) → OnOk r ((m : Meaning) → StepLeaves m links s old new)
label_gone (Ok x) links s k old new is gone = λ m. subst (λ (t : Step). StepLeaves m links t old new) (sym is) (gone m)
label_gone (Err e) links s k old new is gone = tt

pub gone_out : {A E : Type 0} (r : Result A E) (links : List Link) (s : Step) (old new : Stacked) → s ≡ step.GoOut → OnOk r (new.below ≡ old.below) →
    OnOk r ((m : Meaning) → todo_of m new.now ≡ moved Out (todo_of m old.now)) → OnOk r ((m : Meaning) → StepLeaves m links s old new)
gone_out (Ok x) links s old new is below now = λ m.
    subst (λ (t : Step). StepLeaves m links t old new) (sym is) (leaves_moved m step.GoOut old new out_of below (now m) (λ world f. refl))
gone_out (Err e) links s old new is below now = tt

pub gone_on : {A E : Type 0} (r : Result A E) (links : List Link) (s : Step) (old new : Stacked) → s ≡ step.GoOn → OnOk r (new.below ≡ old.below) →
    OnOk r ((m : Meaning) → todo_of m new.now ≡ moved On (todo_of m old.now)) → OnOk r ((m : Meaning) → StepLeaves m links s old new)
gone_on (Ok x) links s old new is below now = λ m.
    subst (λ (t : Step). StepLeaves m links t old new) (sym is) (leaves_moved m step.GoOn old new on_with below (now m) (λ world f. refl))
gone_on (Err e) links s old new is below now = tt

pub gone_back : {A E : Type 0} (r : Result A E) (links : List Link) (s : Step) (old new : Stacked) → s ≡ step.GoBack → OnOk r (new.below ≡ old.below) →
    OnOk r ((m : Meaning) → todo_of m new.now ≡ moved Back (todo_of m old.now)) → OnOk r ((m : Meaning) → StepLeaves m links s old new)
gone_back (Ok x) links s old new is below now = λ m.
    subst (λ (t : Step). StepLeaves m links t old new) (sym is) (leaves_moved m step.GoBack old new leaves below (now m) (λ world f. refl))
gone_back (Err e) links s old new is below now = tt

pub gone_by : (m : Meaning) (links same : List Link) (old new : Stacked) (target : Place) → same ≡ links → new.below ≡ old.below →
    todo_of m new.now ≡ gone_to (todo_of m old.now) (Some (todo_of m (work_from same target))) → IsGone m links old new
gone_by m links same old new target is below now =
    (below, target, now ∙ ap (λ (ls : List Link). gone_to (todo_of m old.now) (Some (todo_of m (work_from ls target)))) is)

pub takes_step : {A E : Type 0} (r : Result A E) (links : List Link) (o : Option Step) (s : Step) (stage : Option Stage) (old mid new : Stacked) → o ≡ Some s →
    mid.below ≡ old.below → ((m : Meaning) → readied m o (todo_of m mid.now) ≡ ready_work (todo_of m old.now)) →
    OnOk r ((m : Meaning) → StepLeaves m links s mid new) → OnOk r (stage ≡ None → (m : Meaning) → TakesStep m links old new)
takes_step (Ok x) links o s stage old mid new is below ready does = λ none m.
    (s, mid, below, ap (λ (p : Option Step). readied m p (todo_of m mid.now)) (sym is) ∙ ready m, does m)
takes_step (Err e) links o s stage old mid new is below ready does = tt
