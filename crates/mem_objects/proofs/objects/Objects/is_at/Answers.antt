use Rattle.std.proofs.Common.{◌≡◌, ◌∙◌, ap, Some, sym, true, rules, refl}
use Rattle.std.proofs.lemmas.Option.{slice_get_read}
use Rattle.mem_objects.specs.Held.{Held}
use Rattle.mem_objects.proofs.HeldLemmas.{named_at}
use Rattle.mem_objects.proofs.objects.Objects.is_at.Goals as goal

pub returns-in-Some : goal.returns-in-Some
returns-in-Some c =
    let by : c.eq.result ≡ true → c.object.inside.name ≡ c.args.name = search rules in
    λ t. rw (← c.self.view_is, ← c.deref.ensures.value)
    (named_at c.deref.result.now c.args.at c.in-Some.object.now
    (slice_get_read c.deref.result.now _ c.args.at c.in-Some.object.now refl c.in-Some.ensures.lookup.3.0 c.in-Some.ensures.lookup.1) ∙ ap Some
    (ap (λ (h : Held). h.name) (sym c.object.view_is) ∙ by t))
