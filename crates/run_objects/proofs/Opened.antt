-- What opening, placing and closing structures and unions keeps: the form, the room and the work that is left.
use Rattle.std.proofs.Common.{
  ◌≡◌,
  ℕ,
  zero,
  suc,
  ◌+◌,
  ◌*◌,
  ◌^◌,
  ◌≤◌,
  Bool,
  true,
  false,
  List,
  [],
  ◌∷◌,
  ◌++◌,
  drop,
  map,
  add-one,
  Option,
  Some,
  None,
  refl,
  sym,
  ap,
  subst,
  ◌∙◌,
  inl,
  inr,
  arith,
}
use Rattle.std.specs.Prelude.{slice_get, ◌==◌, if◌then◌else◌}
use Rattle.std.proofs.lemmas.Bool.Decides.{eqb_tells}
use Rattle.c_types.specs.declared.tags.Member.{Member}
use Rattle.c_types.specs.declared.tags.Tag.{Tag}
use Rattle.c_types.specs.declared.tags.Extent.{Extent}
use Rattle.c_types.specs.declared.shape.Placed.{Placed}
use Rattle.c_types.specs.Types.{CType, void, int, enumeration, pointer, array, struct, union, function}
use Rattle.c_types.specs.Layout.{Known, extent, extents, extent_of, repeated, size_of, type_of_member, member_offset}
use Rattle.c_types.specs.Shapes.{Forms, repeat, none, place, put_of, forms_of}
use Rattle.c_types.specs.Table.{IsSettled}
use Rattle.layout.proofs.Slots.{fits, limited_some}
use Rattle.program_view.specs.Objects.{form_with, forms_by, member_forms, moved, placed, tag_forms}
use Rattle.run_objects.specs.Opened.{
  single_of,
  opened_form,
  before,
  entered,
  members_in,
  left_in,
  contribution,
  remaining,
  IsRoomy,
  AreRoomy,
  weight_with,
  members_weight,
  weight_by,
  open_work,
  work,
}
use Rattle.run_objects.specs.declared.shapes.Open.{Open}

-- arrays of one element

is_one : (n : ℕ) → (n == 1) ≡ true → n ≡ 1
is_one n h = elim (eqb_tells n 1) [ inl p ↦ p.1 | inr p ↦ absurd (cc) ]

array_form :
    (f : ℕ → Forms) (tags : List Tag) (c : Bool) (t : CType) (n : ℕ) → opened_form f tags (single_of t) ≡ form_with f tags t → (b : Bool) →
    opened_form f tags (if b then single_of t else array c t (Some n)) ≡
    (if b then form_with f tags t else repeat n (size_of tags t) (form_with f tags t))
array_form f tags c t n same true = same
array_form f tags c t n same false = refl

pub single_form : (f : ℕ → Forms) (tags : List Tag) (t : CType) → opened_form f tags (single_of t) ≡ form_with f tags t
single_form f tags void = refl
single_form f tags (int kind) = refl
single_form f tags (enumeration tag) = refl
single_form f tags (pointer c t) = refl
single_form f tags (array c t None) = refl
single_form f tags (array c t (Some n)) = array_form f tags c t n (single_form f tags t) (n == 1)
single_form f tags (struct tag) = refl
single_form f tags (union tag) = refl
single_form f tags (function r ps v) = refl

element_extent :
    (n : ℕ) (x : Option Extent) (a e : Extent) → n ≡ 1 → repeated n x ≡ Some a → ((d : Extent) → x ≡ Some d → e.size ≤ d.size) → e.size ≤ a.size
element_extent n None a e one h inner = absurd (cc)
element_extent n (Some d) a e one h inner =
    let l = limited_some (extent_of (n * d.size) d.align) a h in
    let small : e.size ≤ d.size = inner d refl in
    let same : n * d.size ≡ a.size = ap (λ (y : Extent). y.size) l.0 in
    let as_one : 1 * d.size ≡ n * d.size = ap (λ (k : ℕ). k * d.size) (sym one) in
    omega arith

same_extent : (x : Option Extent) (a e : Extent) → x ≡ Some a → x ≡ Some e → e.size ≤ a.size
same_extent x a e h g = let same : a ≡ e = cc in subst (λ (y : Extent). y.size ≤ a.size) same (omega arith)

array_extent :
    (known : Known) (c : Bool) (t : CType) (n : ℕ) (a e : Extent) →
    ((d : Extent) → extent known t ≡ Some d → extent known (single_of t) ≡ Some e → e.size ≤ d.size) →
    (b : Bool) → (b ≡ true → n ≡ 1) → repeated n (extent known t) ≡ Some a → extent known (if b then single_of t else array c t (Some n)) ≡ Some e →
    e.size ≤ a.size
array_extent known c t n a e inner true h whole part = element_extent n (extent known t) a e (h refl) whole (λ d g. inner d g part)
array_extent known c t n a e inner false h whole part = same_extent (repeated n (extent known t)) a e whole part

pub single_extent : (known : Known) (t : CType) (a e : Extent) → extent known t ≡ Some a → extent known (single_of t) ≡ Some e → e.size ≤ a.size
single_extent known void a e h g = absurd (cc)
single_extent known (int kind) a e h g = same_extent (extent known (int kind)) a e h g
single_extent known (enumeration tag) a e h g = same_extent (extent known (enumeration tag)) a e h g
single_extent known (pointer c t) a e h g = same_extent (extent known (pointer c t)) a e h g
single_extent known (array c t None) a e h g = absurd (cc)
single_extent known (array c t (Some n)) a e h g = array_extent known c t n a e (λ d p q. single_extent known t d e p q) (n == 1) (is_one n) h g
single_extent known (struct tag) a e h g = same_extent (known tag) a e h g
single_extent known (union tag) a e h g = same_extent (known tag) a e h g
single_extent known (function r ps v) a e h g = absurd (cc)

array_weight : (f : ℕ → ℕ) (c : Bool) (t : CType) (n : ℕ) → weight_with f (single_of t) ≤ weight_with f t →
    (b : Bool) → weight_with f (if b then single_of t else array c t (Some n)) ≤ 1 + weight_with f t
array_weight f c t n h true = omega arith
array_weight f c t n h false = omega arith

pub single_weight : (f : ℕ → ℕ) (t : CType) → weight_with f (single_of t) ≤ weight_with f t
single_weight f void = omega arith
single_weight f (int kind) = omega arith
single_weight f (enumeration tag) = omega arith
single_weight f (pointer c t) = omega arith
single_weight f (array c t None) = omega arith
single_weight f (array c t (Some n)) = array_weight f c t n (single_weight f t) (n == 1)
single_weight f (struct tag) = omega arith
single_weight f (union tag) = omega arith
single_weight f (function r ps v) = omega arith

-- one opened more

pub remaining-more : (tags : List Tag) (os : List Open) (o : Open) (rest : Forms) →
    remaining tags (os ++ o ∷ []) rest ≡ contribution tags o (remaining tags os rest)
remaining-more tags [] o rest = refl
remaining-more tags (p ∷ ps) o rest = remaining-more tags ps o (contribution tags p rest)

pub work-more : (tags : List Tag) (os : List Open) (o : Open) → work tags (os ++ o ∷ []) ≡ open_work tags o + work tags os
work-more tags [] o = omega arith
work-more tags (p ∷ ps) o = let more = work-more tags ps o in omega arith

pub roomy-more : (tags : List Tag) (os : List Open) (o : Open) → AreRoomy tags os → IsRoomy tags o → AreRoomy tags (os ++ o ∷ [])
roomy-more tags [] o h g = (g, tt)
roomy-more tags (p ∷ ps) o h g = (h.0, roomy-more tags ps o h.1 g)

pub roomy-fewer : (tags : List Tag) (os : List Open) (o : Open) → AreRoomy tags (os ++ o ∷ []) → AreRoomy tags os × IsRoomy tags o
roomy-fewer tags [] o h = (tt, h.0)
roomy-fewer tags (p ∷ ps) o h = let rest = roomy-fewer tags ps o h.1 in ((h.0, rest.0), rest.1)

content_forms : (f : ℕ → Forms) (tags : List Tag) (tag : ℕ) (o : Option Tag) →
    member_forms f tags tag 0 (drop 0 (members_in o)) ≡ tag_forms f tags tag o
content_forms f tags tag None = refl
content_forms f tags tag (Some t) = refl

pub remaining-entered : (tags : List Tag) (depth tag offset : ℕ) (os : List Open) (rest : Forms) →
    remaining tags (entered depth tag offset os) rest ≡ moved offset (forms_by depth tags tag) (remaining tags os rest)
remaining-entered tags zero tag offset os rest = refl
remaining-entered tags (suc depth) tag offset os rest =
    remaining-more tags os (record { tag = tag; next = 0; offset = offset; depth = depth }) rest
    ∙ ap (λ (ps : Forms). moved offset ps (remaining tags os rest)) (content_forms (forms_by depth tags) tags tag (slice_get tags tag))

pub work-entered : (tags : List Tag) (depth tag offset : ℕ) (os : List Open) →
    work tags (entered depth tag offset os) ≤ 1 + weight_by depth tags tag + work tags os
work-entered tags zero tag offset os = omega arith
work-entered tags (suc depth) tag offset os = let more = work-more tags os (record { tag = tag; next = 0; offset = offset; depth = depth }) in omega arith

pub roomy-entered : (tags : List Tag) (depth tag offset : ℕ) (os : List Open) → AreRoomy tags os →
    ((e : Extent) → extents tags tag ≡ Some e → offset + e.size ≤ 2 ^ 40) → AreRoomy tags (entered depth tag offset os)
roomy-entered tags zero tag offset os h g = h
roomy-entered tags (suc depth) tag offset os h g = roomy-more tags os (record { tag = tag; next = 0; offset = offset; depth = depth }) h g

-- one member more

pub moved_twice : (a b : ℕ) (ps inner rest : Forms) → moved a (moved b ps inner) rest ≡ moved (a + b) ps (moved a inner rest)
moved_twice a b none inner rest = refl
moved_twice a b (place offset part ps) inner rest =
    let same : a + (b + offset) ≡ a + b + offset = omega arith in
    ap (λ (n : ℕ). place n part (moved a (moved b ps inner) rest)) same ∙ ap (place (a + b + offset) part) (moved_twice a b ps inner rest)

pub moved_none : (ps : Forms) → moved 0 ps none ≡ ps
moved_none none = refl
moved_none (place offset part ps) =
    let same : 0 + offset ≡ offset = omega arith in
    ap (λ (n : ℕ). place n part (moved 0 ps none)) same ∙ ap (place offset part) (moved_none ps)

-- parts before others
pub before-more : (parts : List Placed) (p : Placed) (rest : Forms) →
    before (map put_of (parts ++ p ∷ [])) rest ≡ before (map put_of parts) (place (put_of p).offset (put_of p).part rest)
before-more [] p rest = refl
before-more (q ∷ qs) p rest = ap (place (put_of q).offset (put_of q).part) (before-more qs p rest)

pub before_none : (parts : List Placed) → before (map put_of parts) none ≡ forms_of (map put_of parts)
before_none [] = refl
before_none (q ∷ qs) = ap (place (put_of q).offset (put_of q).part) (before_none qs)

drop_here : (ms : List Member) (i : ℕ) (m : Member) → slice_get ms i ≡ Some m → drop i ms ≡ m ∷ drop (suc i) ms
drop_here [] i m h = absurd (cc)
drop_here (x ∷ xs) zero m h = let same : x ≡ m = cc in ap (λ (y : Member). y ∷ xs) same
drop_here (x ∷ xs) (suc i) m h = drop_here xs i m h

drop_past : (ms : List Member) (i : ℕ) → slice_get ms i ≡ None → drop i ms ≡ []
drop_past [] zero h = refl
drop_past [] (suc i) h = refl
drop_past (x ∷ xs) zero h = absurd (cc)
drop_past (x ∷ xs) (suc i) h = drop_past xs i h

-- where no member is left
pub nothing_left : (tags : List Tag) (o : Open) → left_in tags o ≡ [] →
    ((rest : Forms) → contribution tags o rest ≡ rest) × (open_work tags o ≡ 1)
nothing_left tags o h = (
  λ rest. ap (λ (ms : List Member). moved o.offset (member_forms (forms_by o.depth tags) tags o.tag o.next ms) rest) h,
  ap (λ (ms : List Member). 1 + members_weight (weight_by o.depth tags) ms) h,
)

pub left-no_tag : (tags : List Tag) (o : Open) → slice_get tags o.tag ≡ None → left_in tags o ≡ []
left-no_tag tags o h = ap (λ (x : Option Tag). drop o.next (members_in x)) h ∙ drop_past [] o.next refl

pub left-no_member : (tags : List Tag) (o : Open) (t : Tag) → slice_get tags o.tag ≡ Some t → slice_get t.members o.next ≡ None → left_in tags o ≡ []
left-no_member tags o t at h = ap (λ (x : Option Tag). drop o.next (members_in x)) at ∙ drop_past t.members o.next h

-- the same structure or union with one member fewer to place
abbrev pub after : Open → Open
after o = record { tag = o.tag; next = o.next + 1; offset = o.offset; depth = o.depth }

module _ (tags : List Tag) (o : Open) (t : Tag) (m : Member) (at : slice_get tags o.tag ≡ Some t) (is : slice_get t.members o.next ≡ Some m) where
  left_is : left_in tags o ≡ m ∷ left_in tags (after o)
  left_is =
      ap (λ (x : Option Tag). drop o.next (members_in x)) at
      ∙ (drop_here t.members o.next m is
      ∙ (ap (λ (k : ℕ). m ∷ drop k t.members) (sym (add-one o.next))
      ∙ ap (λ (x : Option Tag). m ∷ drop (o.next + 1) (members_in x)) (sym at)))

  -- what is left behind the member
  abbrev pub inner : Forms
  inner = member_forms (forms_by o.depth tags) tags o.tag (o.next + 1) (left_in tags (after o))

  pub contribution_is : (rest : Forms) →
      contribution tags o rest ≡ moved o.offset (placed (member_offset tags o.tag o.next) (form_with (forms_by o.depth tags) tags (type_of_member m)) inner)
      rest
  contribution_is rest =
      ap (λ (ms : List Member). moved o.offset (member_forms (forms_by o.depth tags) tags o.tag o.next ms) rest) left_is

  pub work_is : open_work tags o ≡ 1 + weight_with (weight_by o.depth tags) (type_of_member m) + open_work tags (after o)
  work_is =
      let seen = ap (λ (ms : List Member). 1 + members_weight (weight_by o.depth tags) ms) left_is in
      omega (arith, seen)

  complete : IsSettled tags → (x : Option Extent) → extents tags o.tag ≡ x → (e : Extent) × (extents tags o.tag ≡ Some e)
  complete settled None h =
      let none : t.members ≡ [] = settled.filled o.tag t at h in
      let lost : slice_get [] o.next ≡ Some m = subst (λ (ms : List Member). slice_get ms o.next ≡ Some m) none is in
      absurd (cc)
  complete settled (Some e) h = (e, h)

  pub fits_is : (settled : IsSettled tags) → IsRoomy tags o → (own : Extent) ×
      ((extent (extents tags) (type_of_member m) ≡ Some own) × (o.offset + member_offset tags o.tag o.next + own.size ≤ 2 ^ 40))
  fits_is settled roomy =
      let whole = complete settled (extents tags o.tag) refl in
      let room : o.offset + whole.0.size ≤ 2 ^ 40 = roomy whole.0 whole.1 in
      let f = fits tags settled o.tag t whole.0 at whole.1 o.next m is in
      let ends : member_offset tags o.tag o.next + f.own.size ≤ whole.0.size = f.ends in
      (f.own, (f.owns, omega arith))
