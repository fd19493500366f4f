use Rattle.std.proofs.Common.{◌≡◌, ℕ, subst, slice_get, Option, Some}
use Rattle.std.specs.Prelude.{IfSome}
use Rattle.std.specs.Option.{option_and_then}
use Rattle.std.specs.HashMap as hash
use Rattle.addr_map.specs.Sound.{object_eq}
use Rattle.mem_objects.specs.Held.{held_of, name_at}
use Rattle.mem_objects.proofs.HeldLemmas.{found_is, once_at}
use Rattle.mem_objects.proofs.objects.Objects.find.Goals as goal

pub returns-then-is_at-clause-object : goal.returns-then-is_at-clause-object
returns-then-is_at-clause-object c =
    rw (← c.self.view_is) (found_is c.self.inside.list.items _ c.args.name (rw c.self.view_is (c.is_at.ensures c.if-is_at.true))
    (once_at (hash.get object_eq c.self.inside.indices) c.self.inside.list.items c.args.name _ c.self.invariant (rw c.self.view_is (c.is_at.ensures
    c.if-is_at.true))))

pub returns-in_err-at-clause-object : goal.returns-in_err-at-clause-object
returns-in_err-at-clause-object c =
    rw c.from_residual.ensures
    (subst (λ (at : Option ℕ). held_of c.args.self.now c.args.name ≡ option_and_then (λ k. slice_get c.args.self.now k) at) c.in_err-at.was
    c.indexed.ensures.object)

pub returns-clause-some : goal.returns-clause-some
returns-clause-some c = subst (λ (at : Option ℕ). IfSome at (λ k. name_at c.args.self.now k ≡ Some c.args.name)) c.in_ok-at.was c.indexed.ensures.some

pub returns-clause-object : goal.returns-clause-object
returns-clause-object c =
    subst (λ (at : Option ℕ). held_of c.args.self.now c.args.name ≡ option_and_then (λ k. slice_get c.args.self.now k) at) c.in_ok-at.was
    c.indexed.ensures.object
