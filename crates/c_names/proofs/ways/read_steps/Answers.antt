use Rattle.std.proofs.Common.{◌≡◌, ◌++◌, ◌∙◌, sym, subst, arith, codes, Some, None}
use Rattle.std.proofs.lemmas.Slice.Eq.{strip_prefix_is}
use Rattle.std.proofs.lemmas.Bool.Decides.{Decides-eqb}
use Rattle.c_names.specs.Names.{HasSteps}
use Rattle.c_names.specs.Parts.{steps_text}
use Rattle.c_names.proofs.PathTexts.{IsNoPathText-from_main, IsNoPathText-from_step, read_more, HasSteps-push, frame_text-read}
use Rattle.c_names.proofs.ways.read_steps.Goals as goal

pub returns-in_default : goal.returns-in_default
returns-in_default c = IsNoPathText-from_main c.args.text.now (strip_prefix_is Decides-eqb c.args.text.now (codes "main") None c.in_default.ensures.cases)

pub returns-in_default-first_step : goal.returns-in_default-first_step
returns-in_default-first_step c =
    IsNoPathText-from_step c.args.text.now c.loop-rest.rest.now c.loop-rest.steps.items c.loop-rest.invariant.whole c.loop-rest.invariant.steps
    c.loop-rest.invariant.at
    (omega arith) c.in_default-first_step.ensures

pub loop-rest-preserved : goal.loop-rest-preserved
loop-rest-preserved c = record {
  whole =
      subst (λ items. c.args.text.now ≡ codes "main" ++ (steps_text items ++ c.in-Some-first_step.more.now)) (sym c.in_ok-push.ensures.items)
      (read_more c.args.text.now c.loop-rest.rest.now c.in-Some-first_step.more.now c.loop-rest.steps.items c.in-Some-first_step.step
      c.loop-rest.invariant.whole c.in-Some-first_step.ensures.0);
  steps = subst HasSteps (sym c.in_ok-push.ensures.items)
      (HasSteps-push c.loop-rest.steps.items c.in-Some-first_step.step c.loop-rest.invariant.steps c.in-Some-first_step.ensures.1);
  at = λ some. c.in-Some-first_step.ensures.2;
}

pub returns : goal.returns
returns c = (
  frame_text-read c.args.text.now c.loop-rest.rest.now c.loop-rest.steps.items c.loop-rest.invariant.whole (omega arith),
  c.loop-rest.invariant.steps,
)
