-- The value of an operand that points to an object.
use Rattle.std.proofs.Common.{◌≡◌, ℕ, ◌+◌, Option, Some, None, ℤ, refl, sym, ap, ◌∙◌, slice_get}
use Rattle.std.specs.Prelude.{option_map}
use Rattle.std.proofs.lemmas.Option.{same_Some}
use Rattle.ub_base.specs.declared.names.ObjName.TheVariants as object
use Rattle.exposure.specs.declared.prov.Prov.{Prov}
use Rattle.mem_objects.specs.declared.value.Value.{Value as Kept_value}
use Rattle.mem_objects.specs.declared.value.Value.TheVariants as kept
use Rattle.mem_objects.specs.Memory.{Kept}
use Rattle.c_model.specs.Values.{Ptr, pointer_of, pointer_value}
use Rattle.run_values.specs.declared.values.Pointer.{Pointer}
use Rattle.run_values.specs.Views.{value_in, pointer_at}
use Rattle.run_layout.specs.declared.steps.Operand.{Operand}
use Rattle.run_layout.specs.declared.steps.Operand.TheVariants as operand
use Rattle.run_state.specs.declared.machine.Machine.{Machine}
use Rattle.run_state.specs.Operands.{into_local, operand_in, pointer_into}

-- only a pointer is seen as one
seen_as : (m : Kept) (v : Kept_value) (a : ℕ) (p : Prov) → value_in m v ≡ Ptr a p → v ≡ kept.Ptr a p
seen_as m (kept.Ptr b q) a p e = cc
seen_as m (kept.Int z) a p e = absurd (cc)
seen_as m (kept.Func b) a p e = absurd (cc)
seen_as m (kept.Block b) a p e = absurd (cc)
seen_as m kept.Missing a p e = absurd (cc)
seen_as m kept.Nothing a p e = absurd (cc)

module _ (empty : Kept) (v : Kept_value) (p : Pointer) (seen : (k : Kept) → value_in k v ≡ pointer_value (pointer_at p)) where
  -- a pointer that is seen as this one is it
  same_as : (h : Kept_value) (a : ℕ) (q : Prov) → h ≡ kept.Ptr a q → pointer_at p ≡ pointer_of (value_in empty h) → v ≡ h
  same_as h a q is e =
      seen_as empty v a q (seen empty ∙ ap pointer_value (e ∙ ap (λ (w : Kept_value). pointer_of (value_in empty w)) is)) ∙ sym is

  found : {A : Type 0} (f : A → Kept_value) (o : Option A) (h : Kept_value) → ((x : A) → (a : ℕ) × (q : Prov) × (f x ≡ kept.Ptr a q)) →
      option_map f o ≡ Some h → pointer_at p ≡ pointer_of (value_in empty h) → v ≡ h
  found f None h points is e = absurd (cc)
  found f (Some x) h points is e =
      let there = points x in
      same_as h there.0 there.1 (sym (same_Some _ _ is) ∙ there.2) e

  pub pointer_there : (m : Machine) (o : Operand) (h : Kept_value) → ((z : ℤ) → o ≡ operand.Integer z → ⊥) → ((a : ℕ) → o ≡ operand.Function a → ⊥) →
      ((n : ℕ) → o ≡ operand.Done n → ⊥) → operand_in m o ≡ Some h → pointer_at p ≡ pointer_of (value_in empty h) → v ≡ h
  pointer_there m (operand.Integer z) h no_integer no_function no_room is e = absurd (no_integer z refl)
  pointer_there m (operand.Function a) h no_integer no_function no_room is e = absurd (no_function a refl)
  pointer_there m (operand.Done n) h no_integer no_function no_room is e = absurd (no_room n refl)
  pointer_there m (operand.Address a) h no_integer no_function no_room is e = same_as h a _ (sym (same_Some _ _ is)) e
  pointer_there m (operand.Local number offset) h no_integer no_function no_room is e =
      found (into_local offset) (slice_get m.locals.items (m.top.locals + number)) h (λ x. (_, _, refl)) is e
  pointer_there m (operand.Static number offset) h no_integer no_function no_room is e =
      found (pointer_into (object.Static number) offset) (slice_get m.places.objects number) h (λ x. (_, _, refl)) is e
  pointer_there m (operand.Literal number offset) h no_integer no_function no_room is e =
      found (pointer_into (object.Lit number) offset) (slice_get m.places.literals number) h (λ x. (_, _, refl)) is e
