-- Each scalar and each named member of a complete type begins within it, so no offset is cut short.
use Rattle.std.proofs.Common.{
  ◌≡◌,
  ℕ,
  zero,
  suc,
  ◌+◌,
  ◌-◌,
  ◌*◌,
  ◌^◌,
  ◌≤◌,
  min,
  List,
  [],
  ◌∷◌,
  ◌++◌,
  length,
  map,
  Option,
  Some,
  None,
  refl,
  sym,
  ap,
  subst,
  ◌∙◌,
  zero-add,
  arith,
}
use Rattle.std.specs.Prelude.{slice_get, IsSome}
use Rattle.c_types.specs.declared.tags.Member.{Member}
use Rattle.c_types.specs.declared.tags.Tag.{Tag}
use Rattle.c_types.specs.declared.tags.Extent.{Extent}
use Rattle.c_types.specs.Types.{CType, void, int, enumeration, pointer, array, struct, union, function}
use Rattle.c_types.specs.Layout.{extent, extents, extent_of, repeated, size_in, type_of_member, member_offset, extent_of_tag}
use Rattle.c_types.specs.Leaves.{Scalar, shifted, repeated_scalars, scalars_with, member_scalars, tag_scalars, scalars_by, scalars}
use Rattle.c_types.specs.Table.{IsSettled}
use Rattle.layout.specs.Listed.{capped}
use Rattle.layout.proofs.Slots.{Fits, fits, tag_small, limited_some}

-- offsets of at most so much
abbrev pub Under : ℕ → List Scalar → Type 0
Under size [] = Unit {0}
Under size (s ∷ ss) = (s.offset ≤ size) × Under size ss

under_append : (n : ℕ) (xs ys : List Scalar) → Under n xs → Under n ys → Under n (xs ++ ys)
under_append n [] ys h k = k
under_append n (x ∷ xs) ys h k = (h.0, under_append n xs ys h.1 k)

under_shifted : (o n m : ℕ) (xs : List Scalar) → o + n ≤ m → Under n xs → Under m (shifted o xs)
under_shifted o n m [] h u = tt
under_shifted o n m (x ∷ xs) h u = let here : x.offset ≤ n = u.0 in (omega arith, under_shifted o n m xs h u.1)

under_more : (n m : ℕ) (xs : List Scalar) → n ≤ m → Under n xs → Under m xs
under_more n m [] h u = tt
under_more n m (x ∷ xs) h u = let here : x.offset ≤ n = u.0 in (omega arith, under_more n m xs h u.1)

one_more : (n s : ℕ) → n * s + s ≤ suc n * s
one_more n s = omega arith

under_repeated : (n s : ℕ) (xs : List Scalar) → Under s xs → Under (n * s) (repeated_scalars n s xs)
under_repeated zero s xs u = tt
under_repeated (suc n) s xs u =
    let more = one_more n s in
    let less : n * s ≤ suc n * s = omega arith in
    under_append (suc n * s) (repeated_scalars n s xs) (shifted (n * s) xs)
    (under_more (n * s) (suc n * s) (repeated_scalars n s xs) less (under_repeated n s xs u))
    (under_shifted (n * s) s (suc n * s) xs more u)

under_array : (n : ℕ) (x : Option Extent) (e : Extent) (xs : List Scalar) → repeated n x ≡ Some e → ((d : Extent) → x ≡ Some d → Under d.size xs) →
    Under e.size (repeated_scalars n (size_in x) xs)
under_array n None e xs h u = absurd (cc)
under_array n (Some d) e xs h u =
    let l = limited_some (extent_of (n * d.size) d.align) e h in
    subst (λ (y : Extent). Under y.size (repeated_scalars n d.size xs)) l.0 (under_repeated n d.size xs (u d refl))

repeated_small : (n : ℕ) (x : Option Extent) (e : Extent) → repeated n x ≡ Some e → e.size ≤ 2 ^ 40
repeated_small n None e h = absurd (cc)
repeated_small n (Some d) e h = (limited_some (extent_of (n * d.size) d.align) e h).1

capped_all : (xs : List Scalar) → Under (2 ^ 40) xs → map capped xs ≡ xs
capped_all [] u = refl
capped_all (x ∷ xs) u =
    let small : x.offset ≤ 2 ^ 40 = u.0 in
    let same : min x.offset (2 ^ 64 - 1) ≡ x.offset = omega arith in
    let f : ℕ → List Scalar → List Scalar = λ n ys. (record { offset = n; ty = x.ty }) ∷ ys in
    ap (λ (n : ℕ). f n (map capped xs)) same ∙ ap (f x.offset) (capped_all xs u.1)

pub at_next : (i j : ℕ) → i + 1 + j ≡ i + suc j
at_next i j = omega arith

some_extent : (o : Option Extent) (P : Type 0) → IsSome o → ((e : Extent) → o ≡ Some e → P) → P
some_extent None P h f = absurd (cc)
some_extent (Some e) P h f = f e refl

module _ (tags : List Tag) (settled : IsSettled tags) (of_tag : ℕ → List Scalar)
    (inner : (tag : ℕ) (e : Extent) → extents tags tag ≡ Some e → Under e.size (of_tag tag)) where
  under_type : (t : CType) (e : Extent) → extent (extents tags) t ≡ Some e → Under e.size (scalars_with of_tag tags t)
  under_type void e h = tt
  under_type (int kind) e h = (omega arith, tt)
  under_type (enumeration tag) e h = (omega arith, tt)
  under_type (pointer c t) e h = (omega arith, tt)
  under_type (array c t None) e h = tt
  under_type (array c t (Some count)) e h = under_array count (extent (extents tags) t) e (scalars_with of_tag tags t) h (λ d k. under_type t d k)
  under_type (struct tag) e h = inner tag e h
  under_type (union tag) e h = inner tag e h
  under_type (function r ps v) e h = tt

  under_members : (tag : ℕ) (e : Extent) (i : ℕ) (ms : List Member) → ((j : ℕ) (m : Member) → slice_get ms j ≡ Some m → Fits tags tag (i + j) m e.size) →
      Under e.size (member_scalars of_tag tags tag i ms)
  under_members tag e i [] f = tt
  under_members tag e i (m ∷ ms) f =
      let here = f 0 m refl in
      let same : i + 0 ≡ i = omega arith in
      let ends : member_offset tags tag i + here.own.size ≤ e.size = subst (λ k. member_offset tags tag k + here.own.size ≤ e.size) same here.ends in
      let one : List Scalar = scalars_with of_tag tags (type_of_member m) in
      under_append e.size (shifted (member_offset tags tag i) one) (member_scalars of_tag tags tag (i + 1) ms)
      (under_shifted (member_offset tags tag i) here.own.size e.size one ends (under_type (type_of_member m) here.own here.owns))
      (under_members tag e (i + 1) ms (λ j x at. subst (λ k. Fits tags tag k x e.size) (sym (at_next i j)) (f (suc j) x at)))

  under_content : (tag : ℕ) (o : Option Tag) (e : Extent) → slice_get tags tag ≡ o → extents tags tag ≡ Some e → Under e.size (tag_scalars of_tag tags tag o)
  under_content tag None e g h = tt
  under_content tag (Some t) e g h = under_members tag e 0 t.members
      (λ j m at. subst (λ k. Fits tags tag k m e.size) (sym (zero-add j)) (fits tags settled tag t e g h j m at))

module _ (tags : List Tag) (settled : IsSettled tags) where
  under_tag : (n tag : ℕ) (e : Extent) → extents tags tag ≡ Some e → Under e.size (scalars_by n tags tag)
  under_tag zero tag e h = tt
  under_tag (suc n) tag e h = under_content tags settled (scalars_by n tags) (under_tag n) tag (slice_get tags tag) e refl h

  pub tag_le : (tag : ℕ) (e : Extent) → extents tags tag ≡ Some e → (o : Option Tag) → slice_get tags tag ≡ o → e.size ≤ 2 ^ 40
  tag_le tag e h None g = let none : extents tags tag ≡ None = settled.known tag ∙ ap (extent_of_tag (extents tags)) g in absurd (cc)
  tag_le tag e h (Some t) g = tag_small tags settled tag t e g h

  small_type : (n : ℕ) (t : CType) (e : Extent) → extent (extents tags) t ≡ Some e → Under (2 ^ 40) (scalars_with (scalars_by n tags) tags t)
  small_type n void e h = tt
  small_type n (int kind) e h = (omega arith, tt)
  small_type n (enumeration tag) e h = (omega arith, tt)
  small_type n (pointer c t) e h = (omega arith, tt)
  small_type n (array c t None) e h = tt
  small_type n (array c t (Some count)) e h =
      under_more e.size (2 ^ 40) (scalars_with (scalars_by n tags) tags (array c t (Some count))) (repeated_small count (extent (extents tags) t) e h)
      (under_type tags settled (scalars_by n tags) (under_tag n) (array c t (Some count)) e h)
  small_type n (struct tag) e h = under_more e.size (2 ^ 40) (scalars_by n tags tag) (tag_le tag e h (slice_get tags tag) refl) (under_tag n tag e h)
  small_type n (union tag) e h = under_more e.size (2 ^ 40) (scalars_by n tags tag) (tag_le tag e h (slice_get tags tag) refl) (under_tag n tag e h)
  small_type n (function r ps v) e h = tt

  pub exact_scalars : (t : CType) → IsSome (extent (extents tags) t) → map capped (scalars tags t) ≡ scalars tags t
  exact_scalars t h =
      capped_all (scalars tags t)
      (some_extent (extent (extents tags) t) (Under (2 ^ 40) (scalars tags t)) h (λ e g. small_type (length tags) t e g))
