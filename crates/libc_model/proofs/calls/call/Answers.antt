use Rattle.std.proofs.Common.{List, refl, subst}
use Rattle.mem_objects.specs.declared.answer.LibAnswer.TheVariants as answers
use Rattle.mem_objects.specs.declared.value.Value.{Value}
use Rattle.mem_objects.specs.Memory.{store_of}
use Rattle.mem_objects.specs.Tags.{AreTagged}
use Rattle.libc_arguments.specs.Answers.{ArgumentsMade, GivesMade, IsCall, allocates}
use Rattle.libc_arguments.specs.Seen.{values_seen}
use Rattle.libc_arguments.proofs.Keeping.{value_made}
use Rattle.libc_model.proofs.calls.call.Goals as goal

pub returns-in-Ok-clause-made : goal.returns-in-Ok-clause-made
returns-in-Ok-clause-made c =
    let m = c.args.m.now in
    subst (λ (xs : List Value). IsCall c.args.f (values_seen xs) m c.args.io.now → AreTagged m → ArgumentsMade m (values_seen xs)
    → GivesMade c.value_of.new.m (answers.Value c.in-Ok.value)) c.as_slice.ensures (λ call tagged made.
    value_made (allocates c.args.f) m c.value_of.new.m c.args.f (values_seen c.as_slice.result.now) c.args.who (answers.Value c.in-Ok.value)
    c.value_of.new.t (store_of m c.args.io.now) (store_of c.value_of.new.m c.value_of.new.io) refl
    (λ is. c.in-Ok.ensures.made is call) (c.in-Ok.ensures.exact call) (c.value_of.ensures.kept call.known tagged) made)

pub returns-in-Err-clause-made : goal.returns-in-Err-clause-made
returns-in-Err-clause-made c =
    let m = c.args.m.now in
    subst (λ (xs : List Value). IsCall c.args.f (values_seen xs) m c.args.io.now → AreTagged m → ArgumentsMade m (values_seen xs)
    → GivesMade c.value_of.new.m c.in-Err.answer) c.as_slice.ensures (λ call tagged made.
    value_made (allocates c.args.f) m c.value_of.new.m c.args.f (values_seen c.as_slice.result.now) c.args.who c.in-Err.answer
    c.value_of.new.t (store_of m c.args.io.now) (store_of c.value_of.new.m c.value_of.new.io) refl
    (λ is. c.in-Err.ensures.made is call) (c.in-Err.ensures.exact call) (c.value_of.ensures.kept call.known tagged) made)
