use Rattle.std.proofs.Common.{◌∙◌, Some, ap, subst, sym}
use Rattle.std.proofs.lemmas.Option.{slice_get-get_or}
use Rattle.run_layout.specs.declared.steps.CallCode.{CallCode}
use Rattle.run_answers.specs.Calling.{Calls}
use Rattle.run_events.proofs.Called.{same_call}
use Rattle.run_events.proofs.acts.call_of.Goals as goal

pub returns : goal.returns
returns c = record {
  calls = λ call there.
      let m = c.args.machine.now in
      subst (λ (k : CallCode). Calls m k c.args.event c.call.new.machine c.call.result)
      (same_call c.index.result.now call (ap (λ (k : CallCode). Some k) c.index.ensures
      ∙ sym (slice_get-get_or m.image.code.now.tables.calls.items c.args.number c.index.result.now c.requires.there) ∙ there))
      c.call.ensures.calls;
  streams = c.call.ensures.streams;
}
