-- The steps of placing the members of a structure or union.
use Rattle.std.proofs.Common.{
  ◌≡◌,
  ℕ,
  ◌+◌,
  ◌*◌,
  ◌^◌,
  ◌<◌,
  ◌≤◌,
  List,
  [],
  ◌∷◌,
  ◌++◌,
  length,
  get_or,
  map,
  Some,
  None,
  refl,
  sym,
  ap,
  subst,
  ◌∙◌,
  append-nil,
  inl,
  inr,
  true,
  arith,
  rules,
}
use Rattle.std.specs.Prelude.{slice_get, nat_lt, ◌⊎◌}
use Rattle.std.proofs.lemmas.Bool.{ltb-true}
use Rattle.std.proofs.lemmas.Option.{slice_get-get_or}
use Rattle.c_types.specs.declared.tags.Member.{Member}
use Rattle.c_types.specs.declared.tags.Tag.{Tag}
use Rattle.c_types.specs.declared.tags.Extent.{Extent}
use Rattle.c_types.specs.declared.shape.Shape.{Shape}
use Rattle.c_types.specs.declared.shape.Placed.{Placed, roll-Placed}
use Rattle.c_types.specs.Types.{CType, type_of, struct, union}
use Rattle.c_types.specs.declared.ty.Ty.{Ty}
use Rattle.c_types.specs.declared.ty.Ty as TheTy
use Rattle.c_types.specs.Layout.{extent, extents, type_of_member, member_offset}
use Rattle.c_types.specs.Leaves.{Scalar, shifted, scalars_with, scalars_by, leaves, all_leaves}
use Rattle.c_types.specs.Shapes.{Put, form_of, forms_of, put_of}
use Rattle.c_types.specs.Table.{IsSettled}
use Rattle.layout.specs.Opened.{single_of, entered, contribution, remaining, IsRoomy, AreRoomy, weight_with, weight_by, open_work, work}
use Rattle.layout.specs.declared.shapes.Open.{Open}
use Rattle.layout.proofs.Added.{shifted_none}
use Rattle.layout.proofs.Scalars.{all_leaves-more, put_of-roll, type_of_member-seen}
use Rattle.layout.proofs.Within.{tag_le}
use Rattle.layout.proofs.Opened.{
  single_scalars,
  single_extent,
  single_weight,
  remaining-more,
  work-more,
  roomy-more,
  roomy-fewer,
  remaining-entered,
  work-entered,
  roomy-entered,
  nothing_left,
  left-no_member,
  after,
  contribution_is,
  work_is,
  fits_is,
  placed_so,
  opened_so,
}

-- the scalars of the parts
abbrev pub seen : List Placed → List Scalar
seen ps = all_leaves (forms_of (map put_of ps))

pub begins :
    (tags : List Tag) (depth tag : ℕ) (parts : List Placed) (made opened : List Open) → IsSettled tags → parts ≡ [] → made ≡ [] →
    opened ≡ entered depth tag 0 made →
    (seen parts ++ remaining tags opened ≡ scalars_by depth tags tag) × (AreRoomy tags opened × (work tags opened ≤ 1 + weight_by depth tags tag))
begins tags depth tag parts made opened settled p m o =
    let is : opened ≡ entered depth tag 0 [] = o ∙ ap (entered depth tag 0) m in
    let less = work-entered tags depth tag 0 [] in
    let room : (e : Extent) → extents tags tag ≡ Some e → 0 + e.size ≤ 2 ^ 40 = λ e h. let small = tag_le tags settled tag e h (slice_get tags tag) refl in
    omega arith in (
      ap (λ (ps : List Placed). seen ps ++ remaining tags opened) p
          ∙ (ap (remaining tags) is
          ∙ (remaining-entered tags depth tag 0 []
          ∙ (append-nil (shifted 0 (scalars_by depth tags tag)) ∙ shifted_none (scalars_by depth tags tag)))),
      (
        subst (AreRoomy tags) (sym is) (roomy-entered tags depth tag 0 [] tt room),
        subst (λ (os : List Open). work tags os ≤ 1 + weight_by depth tags tag) (sym is) (omega arith),
      ),
    )

pub pops :
    (tags : List Tag) (os mid : List Open) (o : Open) (bound : ℕ) → os ≡ mid ++ o ∷ [] → AreRoomy tags os → work tags os ≤ bound →
    (2 * open_work tags o < 2 * bound + 1) × (IsRoomy tags o × AreRoomy tags mid)
pops tags os mid o bound is roomy le =
    let both = roomy-fewer tags mid o (subst (AreRoomy tags) is roomy) in
    let sum : open_work tags o + work tags mid ≤ bound = subst (λ (n : ℕ). n ≤ bound) (ap (work tags) is ∙ work-more tags mid o) le in
    (omega arith, (both.1, both.0))

pub smaller : (tags : List Tag) (os mid new : List Open) (o : Open) → os ≡ mid ++ o ∷ [] → work tags new < open_work tags o + work tags mid →
    work tags new < work tags os
smaller tags os mid new o is less = subst (λ (n : ℕ). work tags new < n) (sym (ap (work tags) is ∙ work-more tags mid o)) less

pub goes_on :
    (tags : List Tag) (os mid new : List Open) (o : Open) (parts placed : List Placed) (total : List Scalar) (bound : ℕ) → os ≡ mid ++ o ∷ [] →
    seen placed ++ remaining tags new ≡ seen parts ++ (contribution tags o ++ remaining tags mid) → AreRoomy tags new →
    work tags new < open_work tags o + work tags mid →
    (seen parts ++ remaining tags os ≡ total) × (AreRoomy tags os × (work tags os ≤ bound)) →
    (seen placed ++ remaining tags new ≡ total) × (AreRoomy tags new × (work tags new ≤ bound))
goes_on tags os mid new o parts placed total bound is step roomy less before =
    let fewer = smaller tags os mid new o is less in
    let le : work tags os ≤ bound = before.1.1 in (
      step ∙ (ap (λ (xs : List Scalar). seen parts ++ xs) (sym (ap (remaining tags) is ∙ remaining-more tags mid o)) ∙ before.0),
      (roomy, omega arith),
    )

pub ends : (tags : List Tag) (os : List Open) (parts : List Placed) (total : List Scalar) → os ≡ [] → seen parts ++ remaining tags os ≡ total →
    seen parts ≡ total
ends tags os parts total none is = sym (append-nil (seen parts)) ∙ (ap (λ (x : List Open). seen parts ++ remaining tags x) (sym none) ∙ is)

-- an element by its number
pub at_number : (part ms : List Member) (i : ℕ) (m : Member) → part ≡ ms → true ≡ nat_lt i (length part) → m ≡ get_or part i m → Some m ≡ slice_get ms i
at_number part ms i m same lt is =
    ap Some is ∙ (sym (slice_get-get_or part i m (ltb-true i (length part) (sym lt))) ∙ ap (λ (xs : List Member). slice_get xs i) same)

pub no_member :
    (tags : List Tag) (o : Open) (t : Tag) (done rest : List Scalar) → Some t ≡ slice_get tags o.tag → None ≡ slice_get t.members o.next →
    done ++ rest ≡ done ++ (contribution tags o ++ rest)
no_member tags o t done rest at none =
    let nothing = nothing_left tags o (left-no_member tags o t (sym at) (sym none)) in
    ap (λ (xs : List Scalar). done ++ (xs ++ rest)) (sym nothing.0)

module _ (tags : List Tag) (o : Open) (t : Tag) (m : Member) (at : Some t ≡ slice_get tags o.tag) (is : Some m ≡ slice_get t.members o.next) where
  pub within : (offset : ℕ) → IsSettled tags → IsRoomy tags o → offset ≡ member_offset tags o.tag o.next → o.offset + offset < 2 ^ 64
  within offset settled roomy same =
      let f = fits_is tags o t m (sym at) (sym is) settled roomy in
      let room : o.offset + member_offset tags o.tag o.next + f.0.size ≤ 2 ^ 40 = f.1.1 in
      omega (arith, same)

  pub falls : (ty : CType) → ty ≡ single_of (type_of m.qual.ty) → 2 * weight_with (weight_by o.depth tags) ty + 2 < 2 * open_work tags o
  falls ty same =
      let w : ℕ → ℕ = weight_by o.depth tags in
      let less = single_weight w (type_of_member m) in
      let own : weight_with w ty ≡ weight_with w (single_of (type_of_member m)) =
      ap (weight_with w) same ∙ ap (λ (x : CType). weight_with w (single_of x)) (sym (type_of_member-seen m)) in
      let whole = work_is tags o t m (sym at) (sym is) in
      omega (arith, own, whole)

  -- the scalars of the member, as of what it is an array of one of
  brings : (ty : CType) (offset at_offset : ℕ) → ty ≡ single_of (type_of m.qual.ty) → offset ≡ member_offset tags o.tag o.next →
      at_offset ≡ o.offset + offset →
      contribution tags o ≡ shifted at_offset (scalars_with (scalars_by o.depth tags) tags ty) ++ contribution tags (after o)
  brings ty offset at_offset same stands sum =
      let f : ℕ → List Scalar = scalars_by o.depth tags in
      let own : scalars_with f tags (type_of_member m) ≡ scalars_with f tags ty
      = sym (single_scalars f tags (type_of_member m)) ∙
      (ap (λ (x : CType). scalars_with f tags (single_of x)) (type_of_member-seen m) ∙ ap (scalars_with f tags) (sym same)) in
      let begins_at : o.offset + member_offset tags o.tag o.next ≡ at_offset = omega (arith, stands, sum) in
      contribution_is tags o t m (sym at) (sym is)
      ∙ (ap (λ (n : ℕ). shifted n (scalars_with f tags (type_of_member m)) ++ contribution tags (after o)) begins_at
      ∙ ap (λ (xs : List Scalar). shifted at_offset xs ++ contribution tags (after o)) own)

  pub part_placed :
      (ty : CType) (offset at_offset : ℕ) (s : Shape) (parts placed : List Placed) (os new : List Open) → ty ≡ single_of (type_of m.qual.ty) →
      offset ≡ member_offset tags o.tag o.next →
      at_offset ≡ o.offset + offset → leaves (form_of s) ≡ scalars_with (scalars_by o.depth tags) tags ty → placed ≡ parts ++
      roll-Placed (record { offset = at_offset; part = s }) ∷ [] →
      new ≡ os ++ after o ∷ [] → seen placed ++ remaining tags new ≡ seen parts ++ (contribution tags o ++ remaining tags os)
  part_placed ty offset at_offset s parts placed os new same stands sum own p n =
      let put : Placed = roll-Placed (record { offset = at_offset; part = s }) in
      let one : List Scalar = shifted at_offset (scalars_with (scalars_by o.depth tags) tags ty) in
      let more : seen placed ≡ seen parts ++ one
      = ap seen p ∙ (all_leaves-more parts put ∙ ap (λ (xs : List Scalar). seen parts ++ xs)
      (ap (λ (q : Put). shifted q.offset (leaves q.part)) (put_of-roll at_offset s) ∙ ap (shifted at_offset) own)) in
      placed_so (seen parts) one (contribution tags (after o)) (remaining tags os) (seen placed) (remaining tags new) (seen placed ++ remaining tags new)
      (contribution tags o)
      more (ap (remaining tags) n ∙ remaining-more tags os (after o)) (brings ty offset at_offset same stands sum) refl

  pub part_roomy : (os new : List Open) → IsRoomy tags o → AreRoomy tags os → new ≡ os ++ after o ∷ [] → AreRoomy tags new
  part_roomy os new own others n = subst (AreRoomy tags) (sym n) (roomy-more tags os (after o) others own)

  pub part_less : (os new : List Open) → new ≡ os ++ after o ∷ [] → work tags new < open_work tags o + work tags os
  part_less os new n =
      let more : work tags new ≡ open_work tags (after o) + work tags os = ap (work tags) n ∙ work-more tags os (after o) in
      let whole = work_is tags o t m (sym at) (sym is) in
      omega (arith, more, whole)

  module _ (ty : CType) (tag offset at_offset : ℕ) (same : ty ≡ single_of (type_of m.qual.ty)) (kind : (ty ≡ struct tag) ⊎ (ty ≡ union tag))
      (stands : offset ≡ member_offset tags o.tag o.next)
      (sum : at_offset ≡ o.offset + offset) where
    scalars_are : scalars_with (scalars_by o.depth tags) tags ty ≡ scalars_by o.depth tags tag
    scalars_are = elim kind [ inl p ↦ ap (scalars_with (scalars_by o.depth tags) tags) p | inr p ↦ ap (scalars_with (scalars_by o.depth tags) tags) p ]

    weight_is : weight_with (weight_by o.depth tags) ty ≡ 1 + weight_by o.depth tags tag
    weight_is = elim kind [ inl p ↦ ap (weight_with (weight_by o.depth tags)) p | inr p ↦ ap (weight_with (weight_by o.depth tags)) p ]

    extent_is : extent (extents tags) ty ≡ extents tags tag
    extent_is = elim kind [ inl p ↦ ap (extent (extents tags)) p | inr p ↦ ap (extent (extents tags)) p ]

    pub tag_placed : (done : List Scalar) (os mid new : List Open) → mid ≡ os ++ after o ∷ [] → new ≡ entered o.depth tag at_offset mid →
        done ++ remaining tags new ≡ done ++ (contribution tags o ++ remaining tags os)
    tag_placed done os mid new n e =
        let one : List Scalar = shifted at_offset (scalars_by o.depth tags tag) in
        let left : remaining tags new ≡ one ++ (contribution tags (after o) ++ remaining tags os)
        = ap (remaining tags) e ∙ (remaining-entered tags o.depth tag at_offset mid ∙ ap (λ (xs : List Scalar). one ++ xs)
        (ap (remaining tags) n ∙ remaining-more tags os (after o))) in
        opened_so done one (contribution tags (after o)) (remaining tags os) (remaining tags new) (contribution tags o) left
        (brings ty offset at_offset same stands sum ∙ ap (λ (xs : List Scalar). shifted at_offset xs ++ contribution tags (after o)) scalars_are)

    pub tag_less : (os mid new : List Open) → mid ≡ os ++ after o ∷ [] → new ≡ entered o.depth tag at_offset mid →
        work tags new < open_work tags o + work tags os
    tag_less os mid new n e =
        let more : work tags mid ≡ open_work tags (after o) + work tags os = ap (work tags) n ∙ work-more tags os (after o) in
        let entered_work : work tags new ≤ 1 + weight_by o.depth tags tag + work tags mid
        = subst (λ (x : List Open). work tags x ≤ 1 + weight_by o.depth tags tag + work tags mid) (sym e) (work-entered tags o.depth tag at_offset mid) in
        let w : ℕ → ℕ = weight_by o.depth tags in
        let less = single_weight w (type_of_member m) in
        let own : weight_with w ty ≡ weight_with w (single_of (type_of_member m)) =
        ap (weight_with w) same ∙ ap (λ (x : CType). weight_with w (single_of x)) (sym (type_of_member-seen m)) in
        let whole = work_is tags o t m (sym at) (sym is) in
        omega (arith, more, own, whole, weight_is)

    pub tag_roomy : (os mid new : List Open) → IsSettled tags → IsRoomy tags o → AreRoomy tags os → mid ≡ os ++ after o ∷ [] →
        new ≡ entered o.depth tag at_offset mid → AreRoomy tags new
    tag_roomy os mid new settled roomy others n e =
        let f = fits_is tags o t m (sym at) (sym is) settled roomy in
        let room : o.offset + member_offset tags o.tag o.next + f.0.size ≤ 2 ^ 40 = f.1.1 in
        let inner : (x : Extent) → extents tags tag ≡ Some x → at_offset + x.size ≤ 2 ^ 40
        = λ x h.
        let as_single : extent (extents tags) (single_of (type_of_member m)) ≡ Some x
        = ap (λ (u : CType). extent (extents tags) (single_of u)) (type_of_member-seen m) ∙ (ap (extent (extents tags)) (sym same) ∙ (extent_is ∙ h)) in
        let less : x.size ≤ f.0.size = single_extent (extents tags) (type_of_member m) f.0 x f.1.0 as_single in
        omega (arith, stands, sum) in
        subst (AreRoomy tags) (sym e) (roomy-entered tags o.depth tag at_offset mid (part_roomy os mid roomy others n) inner)

struct_seen : (tag : ℕ) → type_of (TheTy.Struct tag) ≡ struct tag
struct_seen tag = search (rules, TheTy.the_lemmas)

union_seen : (tag : ℕ) → type_of (TheTy.Union tag) ≡ union tag
union_seen tag = search (rules, TheTy.the_lemmas)

pub kind_is : (of : Ty) (tag : ℕ) → (of ≡ TheTy.Struct tag) ⊎ (of ≡ TheTy.Union tag) → (type_of of ≡ struct tag) ⊎ (type_of of ≡ union tag)
kind_is of tag is = elim is [ inl p ↦ inl (ap type_of p ∙ struct_seen tag) | inr p ↦ inr (ap type_of p ∙ union_seen tag) ]

pub whole_is :
    (f : ℕ → List Scalar) (tags : List Tag) (t u : CType) (xs : List Scalar) → u ≡ single_of t → xs ≡ scalars_with f tags u → xs ≡ scalars_with f tags t
whole_is f tags t u xs same is = is ∙ (ap (scalars_with f tags) same ∙ single_scalars f tags t)

pub single_falls : (f : ℕ → ℕ) (t u : CType) → u ≡ single_of t → 2 * weight_with f u + 2 < 2 * weight_with f t + 3
single_falls f t u same = let less = single_weight f t in let own = ap (weight_with f) same in omega (arith, own)
