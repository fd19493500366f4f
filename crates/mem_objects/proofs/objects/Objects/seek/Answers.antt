use Rattle.std.proofs.Common.{◌≡◌, ℕ, ◌∙◌, subst, sym, slice_get, Option}
use Rattle.std.specs.Option.{option_and_then}
use Rattle.std.specs.HashMap as hash
use Rattle.addr_map.specs.Sound.{object_eq}
use Rattle.mem_objects.specs.Held.{held_of}
use Rattle.mem_objects.proofs.HeldLemmas.{found_is, once_at}
use Rattle.mem_objects.proofs.objects.Objects.seek.Goals as goal

pub returns-then-is_at-clause-object : goal.returns-then-is_at-clause-object
returns-then-is_at-clause-object c =
    c.get.ensures.object ∙ rw (← c.self.view_is)
    (sym (found_is c.self.inside.list.items _ c.args.name (rw c.self.view_is (c.is_at.ensures c.if-is_at.true))
    (once_at (hash.get object_eq c.self.inside.indices) c.self.inside.list.items c.args.name _ c.self.invariant (rw c.self.view_is (c.is_at.ensures
    c.if-is_at.true)))))

pub returns-in-None-clause-object : goal.returns-in-None-clause-object
returns-in-None-clause-object c =
    sym (subst (λ (at : Option ℕ). held_of c.args.self.now c.args.name ≡ option_and_then (λ k. slice_get c.args.self.now k) at) c.in-None.is
    c.indexed.ensures.object)

pub returns-in-Some-clause-object : goal.returns-in-Some-clause-object
returns-in-Some-clause-object c =
    c.get-in-Some.ensures.object ∙ sym
    (subst (λ (at : Option ℕ). held_of c.args.self.now c.args.name ≡ option_and_then (λ k. slice_get c.args.self.now k) at) c.in-Some.is
    c.indexed.ensures.object)
