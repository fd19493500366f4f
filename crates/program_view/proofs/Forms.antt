-- The form of a type has the scalars of the type.
use Rattle.std.proofs.Common.{◌≡◌, ℕ, zero, suc, ◌+◌, ◌*◌, Bool, true, false, List, [], ◌∷◌, ◌++◌, length, Option, Some, None}
use Rattle.std.proofs.Common.{refl, sym, ap, ◌∙◌, append_assoc, zero-add, inl, inr, arith}
use Rattle.std.specs.Prelude.{slice_get, ◌==◌, if◌then◌else◌}
use Rattle.std.proofs.lemmas.List.{map-append}
use Rattle.std.proofs.lemmas.Bool.Decides.{eqb_tells}
use Rattle.c_types.specs.declared.tags.Member.{Member}
use Rattle.c_types.specs.declared.tags.Tag.{Tag}
use Rattle.c_types.specs.Types.{CType, void, int, enumeration, pointer, array, struct, union, function}
use Rattle.c_types.specs.Layout.{size_of, type_of_member, member_offset}
use Rattle.c_types.specs.Shapes.{Form, Forms, leaf, repeat, parts, none, place}
use Rattle.c_types.specs.Leaves.{Scalar, moved as further, shifted, repeated_scalars, scalars_with, member_scalars, tag_scalars, scalars_by}
use Rattle.c_types.specs.Leaves.{leaves, all_leaves}
use Rattle.program_view.specs.Objects.{repeated, placed, moved, form_with, member_forms, tag_forms, forms_by}
use Rattle.program_view.specs.Laws.{FormsHaveScalars}

shifted_none : (xs : List Scalar) → shifted 0 xs ≡ xs
shifted_none [] = refl
shifted_none (x ∷ xs) =
    let f : ℕ → List Scalar → List Scalar = λ n ys. (record { offset = n; ty = x.ty }) ∷ ys in
    ap (λ (n : ℕ). f n (shifted 0 xs)) (zero-add x.offset) ∙ ap (f x.offset) (shifted_none xs)

shifted_twice : (a b : ℕ) (xs : List Scalar) → shifted (a + b) xs ≡ shifted a (shifted b xs)
shifted_twice a b [] = refl
shifted_twice a b (x ∷ xs) =
    let f : ℕ → List Scalar → List Scalar = λ n ys. (record { offset = n; ty = x.ty }) ∷ ys in
    let same : (a + b) + x.offset ≡ a + (b + x.offset) = omega arith in
    ap (λ (n : ℕ). f n (shifted (a + b) xs)) same ∙ ap (f (a + (b + x.offset))) (shifted_twice a b xs)

once : (step : ℕ) (xs : List Scalar) → repeated_scalars 1 step xs ≡ xs
once step xs = let none : 0 * step ≡ 0 = omega arith in ap (λ (n : ℕ). shifted n xs) none ∙ shifted_none xs

is_one : (n : ℕ) → (n == 1) ≡ true → n ≡ 1
is_one n h = elim (eqb_tells n 1) [ inl p ↦ p.1 | inr p ↦ absurd (cc) ]

of_repeated : (n step : ℕ) (part : Form) → leaves (repeated n step part) ≡ repeated_scalars n step (leaves part)
of_repeated n step part = go (n == 1) (is_one n)
  where
    go : (b : Bool) → (b ≡ true → n ≡ 1) → leaves (if b then part else repeat n step part) ≡ repeated_scalars n step (leaves part)
    go true h = sym (once step (leaves part)) ∙ ap (λ (k : ℕ). repeated_scalars k step (leaves part)) (sym (h refl))
    go false h = refl

of_moved : (at : ℕ) (ps rest : Forms) → all_leaves (moved at ps rest) ≡ shifted at (all_leaves ps) ++ all_leaves rest
of_moved at none rest = refl
of_moved at (place offset part ps) rest =
    ap (λ (ys : List Scalar). shifted (at + offset) (leaves part) ++ ys) (of_moved at ps rest)
    ∙ (ap (λ (xs : List Scalar). xs ++ (shifted at (all_leaves ps) ++ all_leaves rest)) (shifted_twice at offset (leaves part))
    ∙ (sym (append_assoc (shifted at (shifted offset (leaves part))) (shifted at (all_leaves ps)) (all_leaves rest))
    ∙ ap (λ (xs : List Scalar). xs ++ all_leaves rest) (sym (map-append (further at) (shifted offset (leaves part)) (all_leaves ps)))))

of_placed : (at : ℕ) (f : Form) (rest : Forms) → all_leaves (placed at f rest) ≡ shifted at (leaves f) ++ all_leaves rest
of_placed at (leaf ty) rest = refl
of_placed at (repeat count step part) rest = refl
of_placed at (parts ps) rest = of_moved at ps rest

module _ (f : ℕ → Forms) (s : ℕ → List Scalar) (same : (tag : ℕ) → all_leaves (f tag) ≡ s tag) (tags : List Tag) where
  of_type : (ty : CType) → leaves (form_with f tags ty) ≡ scalars_with s tags ty
  of_type void = refl
  of_type (int kind) = refl
  of_type (enumeration tag) = refl
  of_type (pointer constant ty) = refl
  of_type (array constant ty None) = of_repeated 0 (size_of tags ty) (form_with f tags ty)
  of_type (array constant ty (Some n)) =
      of_repeated n (size_of tags ty) (form_with f tags ty) ∙ ap (repeated_scalars n (size_of tags ty)) (of_type ty)
  of_type (struct tag) = same tag
  of_type (union tag) = same tag
  of_type (function result params variadic) = refl

  of_members : (tag i : ℕ) (ms : List Member) → all_leaves (member_forms f tags tag i ms) ≡ member_scalars s tags tag i ms
  of_members tag i [] = refl
  of_members tag i (m ∷ ms) =
      of_placed (member_offset tags tag i) (form_with f tags (type_of_member m)) (member_forms f tags tag (i + 1) ms)
      ∙ (ap (λ (xs : List Scalar). shifted (member_offset tags tag i) xs ++ all_leaves (member_forms f tags tag (i + 1) ms)) (of_type (type_of_member m))
      ∙ ap (λ (xs : List Scalar). shifted (member_offset tags tag i) (scalars_with s tags (type_of_member m)) ++ xs) (of_members tag (i + 1) ms))

  of_tag : (tag : ℕ) (t : Option Tag) → all_leaves (tag_forms f tags tag t) ≡ tag_scalars s tags tag t
  of_tag tag None = refl
  of_tag tag (Some t) = of_members tag 0 t.members

of_tags : (n : ℕ) (tags : List Tag) (tag : ℕ) → all_leaves (forms_by n tags tag) ≡ scalars_by n tags tag
of_tags zero tags tag = refl
of_tags (suc n) tags tag = of_tag (forms_by n tags) (scalars_by n tags) (of_tags n tags) tags tag (slice_get tags tag)

pub forms_have_scalars : FormsHaveScalars
forms_have_scalars tags ty = of_type (forms_by (length tags) tags) (scalars_by (length tags) tags) (of_tags (length tags) tags) tags ty
