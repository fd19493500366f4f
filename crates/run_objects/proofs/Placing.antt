-- The steps of placing the members of a structure or union.
use Rattle.std.proofs.Common.{◌≡◌, ℕ, ◌+◌, ◌*◌, ◌^◌, ◌<◌, ◌≤◌, true, false, List, [], ◌∷◌, ◌++◌, length, get_or, map, Option, Some, None, refl, sym, ap, subst}
use Rattle.std.proofs.Common.{◌∙◌, inl, inr, arith}
use Rattle.std.specs.Prelude.{slice_get, nat_lt, ◌⊎◌}
use Rattle.std.proofs.lemmas.Bool.{ltb-true}
use Rattle.std.proofs.lemmas.Option.{slice_get-get_or}
use Rattle.c_types.specs.declared.tags.Member.{Member}
use Rattle.c_types.specs.declared.tags.Tag.{Tag}
use Rattle.c_types.specs.declared.tags.Extent.{Extent}
use Rattle.c_types.specs.declared.shape.Shape.{Shape}
use Rattle.c_types.specs.declared.shape.Placed.{Placed, roll-Placed}
use Rattle.c_types.specs.Types.{CType, type_of, void, int, enumeration, pointer, array, struct, union, function}
use Rattle.c_types.specs.Layout.{extent, extents, type_of_member, member_offset}
use Rattle.c_types.specs.Shapes.{Form, Forms, Put, none, place, parts, form_of, forms_of, put_of}
use Rattle.c_types.specs.Table.{IsSettled}
use Rattle.layout.proofs.Scalars.{put_of-roll, type_of_member-seen}
use Rattle.layout.proofs.Within.{tag_le}
use Rattle.program_view.specs.Objects.{form_with, forms_by, moved, placed}
use Rattle.run_objects.specs.Opened.{
  single_of,
  tag_in,
  is_placed,
  opened_form,
  before,
  entered,
  contribution,
  remaining,
  IsRoomy,
  AreRoomy,
  weight_with,
  weight_by,
  open_work,
  work,
}
use Rattle.run_objects.specs.declared.shapes.Open.{Open}
use Rattle.run_objects.proofs.Opened.{
  single_form,
  single_extent,
  single_weight,
  remaining-more,
  work-more,
  roomy-more,
  roomy-fewer,
  remaining-entered,
  work-entered,
  roomy-entered,
  nothing_left,
  left-no_member,
  left-no_tag,
  after,
  inner,
  contribution_is,
  work_is,
  fits_is,
  moved_twice,
  moved_none,
  before-more,
  before_none,
}

-- the parts so far, before others
abbrev pub seen : List Placed → Forms → Forms
seen ps rest = before (map put_of ps) rest

pub begins :
    (tags : List Tag) (depth tag : ℕ) (placed : List Placed) (made opened : List Open) → IsSettled tags → placed ≡ [] → made ≡ [] →
    opened ≡ entered depth tag 0 made →
    (seen placed (remaining tags opened none) ≡ forms_by depth tags tag) × (AreRoomy tags opened × (work tags opened ≤ 1 + weight_by depth tags tag))
begins tags depth tag placed made opened settled p m o =
    let is : opened ≡ entered depth tag 0 [] = o ∙ ap (entered depth tag 0) m in
    let less = work-entered tags depth tag 0 [] in
    let room : (e : Extent) → extents tags tag ≡ Some e → 0 + e.size ≤ 2 ^ 40 = λ e h. let small = tag_le tags settled tag e h (slice_get tags tag) refl in
    omega arith in (
      ap (λ (ps : List Placed). seen ps (remaining tags opened none)) p
          ∙ (ap (λ (os : List Open). remaining tags os none) is
          ∙ (remaining-entered tags depth tag 0 [] none ∙ moved_none (forms_by depth tags tag))),
      (
        subst (AreRoomy tags) (sym is) (roomy-entered tags depth tag 0 [] tt room),
        subst (λ (os : List Open). work tags os ≤ 1 + weight_by depth tags tag) (sym is) (omega arith),
      ),
    )

pub pops :
    (tags : List Tag) (os mid : List Open) (o : Open) (bound : ℕ) → os ≡ mid ++ o ∷ [] → AreRoomy tags os → work tags os ≤ bound →
    (2 * open_work tags o < 2 * bound + 1) × (IsRoomy tags o × AreRoomy tags mid)
pops tags os mid o bound is roomy le =
    let both = roomy-fewer tags mid o (subst (AreRoomy tags) is roomy) in
    let sum : open_work tags o + work tags mid ≤ bound = subst (λ (n : ℕ). n ≤ bound) (ap (work tags) is ∙ work-more tags mid o) le in
    (omega arith, (both.1, both.0))

pub smaller : (tags : List Tag) (os mid new : List Open) (o : Open) → os ≡ mid ++ o ∷ [] → work tags new < open_work tags o + work tags mid →
    work tags new < work tags os
smaller tags os mid new o is less = subst (λ (n : ℕ). work tags new < n) (sym (ap (work tags) is ∙ work-more tags mid o)) less

pub goes_on :
    (tags : List Tag) (os mid new : List Open) (o : Open) (old placed : List Placed) (total : Forms) (bound : ℕ) → os ≡ mid ++ o ∷ [] →
    seen placed (remaining tags new none) ≡ seen old (contribution tags o (remaining tags mid none)) → AreRoomy tags new →
    work tags new < open_work tags o + work tags mid →
    (seen old (remaining tags os none) ≡ total) × (AreRoomy tags os × (work tags os ≤ bound)) →
    (seen placed (remaining tags new none) ≡ total) × (AreRoomy tags new × (work tags new ≤ bound))
goes_on tags os mid new o old placed total bound is step roomy less before_it =
    let fewer = smaller tags os mid new o is less in
    let le : work tags os ≤ bound = before_it.1.1 in (
      step ∙ (ap (seen old) (sym (ap (λ (xs : List Open). remaining tags xs none) is ∙ remaining-more tags mid o none)) ∙ before_it.0),
      (roomy, omega arith),
    )

pub ends : (tags : List Tag) (os : List Open) (placed : List Placed) (total : Forms) → os ≡ [] → seen placed (remaining tags os none) ≡ total →
    forms_of (map put_of placed) ≡ total
ends tags os placed total nothing is =
    sym (before_none placed) ∙ (ap (λ (x : List Open). seen placed (remaining tags x none)) (sym nothing) ∙ is)

-- an element by its number
pub at_number : (part ms : List Member) (i : ℕ) (m : Member) → part ≡ ms → true ≡ nat_lt i (length part) → m ≡ get_or part i m → Some m ≡ slice_get ms i
at_number part ms i m same lt is =
    ap Some is ∙ (sym (slice_get-get_or part i m (ltb-true i (length part) (sym lt))) ∙ ap (λ (xs : List Member). slice_get xs i) same)

pub no_member :
    (tags : List Tag) (o : Open) (t : Tag) (old : List Placed) (rest : Forms) → Some t ≡ slice_get tags o.tag → None ≡ slice_get t.members o.next →
    seen old rest ≡ seen old (contribution tags o rest)
no_member tags o t old rest at nothing =
    let empty = nothing_left tags o (left-no_member tags o t (sym at) (sym nothing)) in
    ap (seen old) (sym (empty.0 rest))

pub no_tag : (tags : List Tag) (o : Open) (old : List Placed) (rest : Forms) → None ≡ slice_get tags o.tag → seen old rest ≡ seen old (contribution tags o rest)
no_tag tags o old rest nothing =
    let empty = nothing_left tags o (left-no_tag tags o (sym nothing)) in
    ap (seen old) (sym (empty.0 rest))

-- by the kind of a type
of_tag : (t : CType) (tag : ℕ) → tag_in t ≡ Some tag → (t ≡ struct tag) ⊎ (t ≡ union tag)
of_tag (struct n) tag h = let same : n ≡ tag = cc in inl (ap struct same)
of_tag (union n) tag h = let same : n ≡ tag = cc in inr (ap union same)
of_tag void tag h = absurd (cc)
of_tag (int kind) tag h = absurd (cc)
of_tag (enumeration n) tag h = absurd (cc)
of_tag (pointer c t) tag h = absurd (cc)
of_tag (array c t n) tag h = absurd (cc)
of_tag (function r ps v) tag h = absurd (cc)

pub kind_is : (t : CType) (tag : ℕ) (found : Option ℕ) → found ≡ tag_in t → found ≡ Some tag → (t ≡ struct tag) ⊎ (t ≡ union tag)
kind_is t tag found e h = of_tag t tag (sym e ∙ h)

-- a part with a place of its own
own_place : (f : ℕ → Forms) (tags : List Tag) (t : CType) (n : ℕ) (rest : Forms) → is_placed t ≡ true →
    placed n (opened_form f tags t) rest ≡ place n (opened_form f tags t) rest
own_place f tags (int kind) n rest h = refl
own_place f tags (enumeration tag) n rest h = refl
own_place f tags (pointer c t) n rest h = refl
own_place f tags (array c t count) n rest h = refl
own_place f tags void n rest h = absurd (cc)
own_place f tags (struct tag) n rest h = absurd (cc)
own_place f tags (union tag) n rest h = absurd (cc)
own_place f tags (function r ps v) n rest h = absurd (cc)

-- what is no object has no parts
no_place : (f : ℕ → Forms) (tags : List Tag) (t : CType) → tag_in t ≡ None → is_placed t ≡ false → opened_form f tags t ≡ parts none
no_place f tags void a b = refl
no_place f tags (function r ps v) a b = refl
no_place f tags (int kind) a b = absurd (cc)
no_place f tags (enumeration tag) a b = absurd (cc)
no_place f tags (pointer c t) a b = absurd (cc)
no_place f tags (array c t count) a b = absurd (cc)
no_place f tags (struct tag) a b = absurd (cc)
no_place f tags (union tag) a b = absurd (cc)

module _ (tags : List Tag) (o : Open) (t : Tag) (m : Member) (at : Some t ≡ slice_get tags o.tag) (is : Some m ≡ slice_get t.members o.next) where
  pub within : (offset : ℕ) → IsSettled tags → IsRoomy tags o → offset ≡ member_offset tags o.tag o.next → o.offset + offset < 2 ^ 64
  within offset settled roomy same =
      let f = fits_is tags o t m (sym at) (sym is) settled roomy in
      let room : o.offset + member_offset tags o.tag o.next + f.0.size ≤ 2 ^ 40 = f.1.1 in
      omega (arith, same)

  pub falls : (ty : CType) → ty ≡ single_of (type_of m.qual.ty) → 2 * weight_with (weight_by o.depth tags) ty + 2 < 2 * open_work tags o
  falls ty same =
      let w : ℕ → ℕ = weight_by o.depth tags in
      let less = single_weight w (type_of_member m) in
      let own : weight_with w ty ≡ weight_with w (single_of (type_of_member m)) =
      ap (weight_with w) same ∙ ap (λ (x : CType). weight_with w (single_of x)) (sym (type_of_member-seen m)) in
      let whole = work_is tags o t m (sym at) (sym is) in
      omega (arith, own, whole)

  -- the form of the member, as of what it is an array of one of
  own_form : (ty : CType) → ty ≡ single_of (type_of m.qual.ty) →
      form_with (forms_by o.depth tags) tags (type_of_member m) ≡ opened_form (forms_by o.depth tags) tags ty
  own_form ty same =
      let f : ℕ → Forms = forms_by o.depth tags in
      sym (single_form f tags (type_of_member m))
      ∙ (ap (λ (x : CType). opened_form f tags (single_of x)) (type_of_member-seen m) ∙ ap (opened_form f tags) (sym same))

  brings : (ty : CType) (rest : Forms) → ty ≡ single_of (type_of m.qual.ty) → contribution tags o rest ≡
      moved o.offset (placed (member_offset tags o.tag o.next) (opened_form (forms_by o.depth tags) tags ty) (inner tags o t m (sym at) (sym is))) rest
  brings ty rest same =
      contribution_is tags o t m (sym at) (sym is) rest
      ∙ ap (λ (x : Form). moved o.offset (placed (member_offset tags o.tag o.next) x (inner tags o t m (sym at) (sym is))) rest) (own_form ty same)

  pub part_placed :
      (ty : CType) (offset at_offset : ℕ) (s : Shape) (old new_parts : List Placed) (os new : List Open) → ty ≡ single_of (type_of m.qual.ty) →
      is_placed ty ≡ true → offset ≡ member_offset tags o.tag o.next → at_offset ≡ o.offset + offset →
      form_of s ≡ opened_form (forms_by o.depth tags) tags ty → new_parts ≡ old ++ roll-Placed (record { offset = at_offset; part = s }) ∷ [] →
      new ≡ os ++ after o ∷ [] → seen new_parts (remaining tags new none) ≡ seen old (contribution tags o (remaining tags os none))
  part_placed ty offset at_offset s old new_parts os new same own stands sum formed p n =
      let f : ℕ → Forms = forms_by o.depth tags in
      let put : Placed = roll-Placed (record { offset = at_offset; part = s }) in
      let rest : Forms = remaining tags os none in
      let left : remaining tags new none ≡ contribution tags (after o) rest =
      ap (λ (xs : List Open). remaining tags xs none) n ∙ remaining-more tags os (after o) none in
      let begins_at : o.offset + member_offset tags o.tag o.next ≡ at_offset = omega (arith, stands, sum) in
      let whole : contribution tags o rest ≡ place at_offset (form_of s) (contribution tags (after o) rest) =
      brings ty rest same
      ∙ (ap (λ (xs : Forms). moved o.offset xs rest)
      (own_place f tags ty (member_offset tags o.tag o.next) (inner tags o t m (sym at) (sym is)) own)
      ∙ (ap (λ (k : ℕ). place k (opened_form f tags ty) (contribution tags (after o) rest)) begins_at
      ∙ ap (λ (x : Form). place at_offset x (contribution tags (after o) rest)) (sym formed))) in
      ap (λ (ps : List Placed). seen ps (remaining tags new none)) p
      ∙ (before-more old put (remaining tags new none)
      ∙ (ap (λ (q : Put). seen old (place q.offset q.part (remaining tags new none))) (put_of-roll at_offset s)
      ∙ (ap (λ (xs : Forms). seen old (place at_offset (form_of s) xs)) left ∙ ap (seen old) (sym whole))))

  -- a member without parts
  pub nothing_placed : (ty : CType) (old : List Placed) (os new : List Open) → ty ≡ single_of (type_of m.qual.ty) → tag_in ty ≡ None → is_placed ty ≡ false →
      new ≡ os ++ after o ∷ [] → seen old (remaining tags new none) ≡ seen old (contribution tags o (remaining tags os none))
  nothing_placed ty old os new same no_tag_in not_placed n =
      let f : ℕ → Forms = forms_by o.depth tags in
      let rest : Forms = remaining tags os none in
      let left : remaining tags new none ≡ contribution tags (after o) rest =
      ap (λ (xs : List Open). remaining tags xs none) n ∙ remaining-more tags os (after o) none in
      let whole : contribution tags o rest ≡ contribution tags (after o) rest =
      brings ty rest same
      ∙ ap (λ (x : Form). moved o.offset (placed (member_offset tags o.tag o.next) x (inner tags o t m (sym at) (sym is))) rest)
      (no_place f tags ty no_tag_in not_placed) in
      ap (seen old) (left ∙ sym whole)

  pub part_roomy : (os new : List Open) → IsRoomy tags o → AreRoomy tags os → new ≡ os ++ after o ∷ [] → AreRoomy tags new
  part_roomy os new own others n = subst (AreRoomy tags) (sym n) (roomy-more tags os (after o) others own)

  pub part_less : (os new : List Open) → new ≡ os ++ after o ∷ [] → work tags new < open_work tags o + work tags os
  part_less os new n =
      let more : work tags new ≡ open_work tags (after o) + work tags os = ap (work tags) n ∙ work-more tags os (after o) in
      let whole = work_is tags o t m (sym at) (sym is) in
      omega (arith, more, whole)

  module _ (ty : CType) (tag offset at_offset : ℕ) (same : ty ≡ single_of (type_of m.qual.ty)) (kind : (ty ≡ struct tag) ⊎ (ty ≡ union tag))
      (stands : offset ≡ member_offset tags o.tag o.next)
      (sum : at_offset ≡ o.offset + offset) where
    form_is : opened_form (forms_by o.depth tags) tags ty ≡ parts (forms_by o.depth tags tag)
    form_is = elim kind [ inl p ↦ ap (opened_form (forms_by o.depth tags) tags) p | inr p ↦ ap (opened_form (forms_by o.depth tags) tags) p ]

    weight_is : weight_with (weight_by o.depth tags) ty ≡ 1 + weight_by o.depth tags tag
    weight_is = elim kind [ inl p ↦ ap (weight_with (weight_by o.depth tags)) p | inr p ↦ ap (weight_with (weight_by o.depth tags)) p ]

    extent_is : extent (extents tags) ty ≡ extents tags tag
    extent_is = elim kind [ inl p ↦ ap (extent (extents tags)) p | inr p ↦ ap (extent (extents tags)) p ]

    pub tag_placed : (old : List Placed) (os mid new : List Open) → mid ≡ os ++ after o ∷ [] → new ≡ entered o.depth tag at_offset mid →
        seen old (remaining tags new none) ≡ seen old (contribution tags o (remaining tags os none))
    tag_placed old os mid new n e =
        let f : ℕ → Forms = forms_by o.depth tags in
        let rest : Forms = remaining tags os none in
        let begins_at : o.offset + member_offset tags o.tag o.next ≡ at_offset = omega (arith, stands, sum) in
        let left : remaining tags new none ≡ moved at_offset (f tag) (contribution tags (after o) rest) =
        ap (λ (xs : List Open). remaining tags xs none) e ∙ (remaining-entered tags o.depth tag at_offset mid none
        ∙ ap (moved at_offset (f tag)) (ap (λ (xs : List Open). remaining tags xs none) n ∙ remaining-more tags os (after o) none)) in
        let whole : contribution tags o rest ≡ moved at_offset (f tag) (contribution tags (after o) rest) =
        brings ty rest same
        ∙ (ap (λ (x : Form). moved o.offset (placed (member_offset tags o.tag o.next) x (inner tags o t m (sym at) (sym is))) rest) form_is
        ∙ (moved_twice o.offset (member_offset tags o.tag o.next) (f tag) (inner tags o t m (sym at) (sym is)) rest
        ∙ ap (λ (k : ℕ). moved k (f tag) (contribution tags (after o) rest)) begins_at)) in
        ap (seen old) (left ∙ sym whole)

    pub tag_less : (os mid new : List Open) → mid ≡ os ++ after o ∷ [] → new ≡ entered o.depth tag at_offset mid →
        work tags new < open_work tags o + work tags os
    tag_less os mid new n e =
        let more : work tags mid ≡ open_work tags (after o) + work tags os = ap (work tags) n ∙ work-more tags os (after o) in
        let entered_work : work tags new ≤ 1 + weight_by o.depth tags tag + work tags mid
        = subst (λ (x : List Open). work tags x ≤ 1 + weight_by o.depth tags tag + work tags mid) (sym e) (work-entered tags o.depth tag at_offset mid) in
        let w : ℕ → ℕ = weight_by o.depth tags in
        let less = single_weight w (type_of_member m) in
        let own : weight_with w ty ≡ weight_with w (single_of (type_of_member m)) =
        ap (weight_with w) same ∙ ap (λ (x : CType). weight_with w (single_of x)) (sym (type_of_member-seen m)) in
        let whole = work_is tags o t m (sym at) (sym is) in
        omega (arith, more, own, whole, weight_is)

    pub tag_roomy : (os mid new : List Open) → IsSettled tags → IsRoomy tags o → AreRoomy tags os → mid ≡ os ++ after o ∷ [] →
        new ≡ entered o.depth tag at_offset mid → AreRoomy tags new
    tag_roomy os mid new settled roomy others n e =
        let f = fits_is tags o t m (sym at) (sym is) settled roomy in
        let room : o.offset + member_offset tags o.tag o.next + f.0.size ≤ 2 ^ 40 = f.1.1 in
        let inner : (x : Extent) → extents tags tag ≡ Some x → at_offset + x.size ≤ 2 ^ 40
        = λ x h.
        let as_single : extent (extents tags) (single_of (type_of_member m)) ≡ Some x
        = ap (λ (u : CType). extent (extents tags) (single_of u)) (type_of_member-seen m) ∙ (ap (extent (extents tags)) (sym same) ∙ (extent_is ∙ h)) in
        let less : x.size ≤ f.0.size = single_extent (extents tags) (type_of_member m) f.0 x f.1.0 as_single in
        omega (arith, stands, sum) in
        subst (AreRoomy tags) (sym e) (roomy-entered tags o.depth tag at_offset mid (part_roomy os mid roomy others n) inner)

pub whole_is : (f : ℕ → Forms) (tags : List Tag) (t u : CType) (x : Form) → u ≡ single_of t → x ≡ opened_form f tags u → x ≡ form_with f tags t
whole_is f tags t u x same is = is ∙ (ap (opened_form f tags) same ∙ single_form f tags t)

pub single_falls : (f : ℕ → ℕ) (t u : CType) → u ≡ single_of t → 2 * weight_with f u + 2 < 2 * weight_with f t + 3
single_falls f t u same = let less = single_weight f t in let own = ap (weight_with f) same in omega (arith, own)
