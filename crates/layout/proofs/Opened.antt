-- What opening, placing and closing structures and unions keeps: the scalars, the room and the work that is left.
use Rattle.std.proofs.Common.{
  ◌≡◌,
  ℕ,
  zero,
  suc,
  ◌+◌,
  ◌*◌,
  ◌^◌,
  ◌≤◌,
  Bool,
  true,
  false,
  List,
  [],
  ◌∷◌,
  ◌++◌,
  drop,
  add-one,
  Option,
  Some,
  None,
  refl,
  sym,
  ap,
  subst,
  ◌∙◌,
  append_assoc,
  append-nil,
  inl,
  inr,
  arith,
}
use Rattle.std.specs.Prelude.{slice_get, ◌==◌, if◌then◌else◌}
use Rattle.std.proofs.lemmas.List.{map-append}
use Rattle.std.proofs.lemmas.Bool.Decides.{eqb_tells}
use Rattle.c_types.specs.declared.tags.Member.{Member}
use Rattle.c_types.specs.declared.tags.Tag.{Tag}
use Rattle.c_types.specs.declared.tags.Extent.{Extent}
use Rattle.c_types.specs.Types.{CType, void, int, enumeration, pointer, array, struct, union, function}
use Rattle.c_types.specs.Layout.{Known, extent, extents, extent_of, repeated, size_of, type_of_member, member_offset}
use Rattle.c_types.specs.Leaves.{Scalar, moved, shifted, repeated_scalars, scalars_with, member_scalars, tag_scalars, scalars_by}
use Rattle.c_types.specs.Table.{IsSettled}
use Rattle.layout.specs.Opened.{
  single_of,
  entered,
  members_in,
  left_in,
  contribution,
  remaining,
  IsRoomy,
  AreRoomy,
  weight_with,
  members_weight,
  weight_by,
  open_work,
  work,
}
use Rattle.layout.specs.declared.shapes.Open.{Open}
use Rattle.layout.proofs.Added.{shifted_none}
use Rattle.layout.proofs.Slots.{fits, limited_some}

-- arrays of one element

is_one : (n : ℕ) → (n == 1) ≡ true → n ≡ 1
is_one n h = elim (eqb_tells n 1) [ inl p ↦ p.1 | inr p ↦ absurd (cc) ]

once : (step : ℕ) (xs : List Scalar) → repeated_scalars 1 step xs ≡ xs
once step xs = let none : 0 * step ≡ 0 = omega arith in ap (λ (n : ℕ). shifted n xs) none ∙ shifted_none xs

array_scalars :
    (f : ℕ → List Scalar) (tags : List Tag) (c : Bool) (t : CType) (n : ℕ) → scalars_with f tags (single_of t) ≡ scalars_with f tags t → (b : Bool) →
    (b ≡ true → n ≡ 1) →
    scalars_with f tags (if b then single_of t else array c t (Some n)) ≡ repeated_scalars n (size_of tags t) (scalars_with f tags t)
array_scalars f tags c t n same true h =
    same ∙ (sym (once (size_of tags t) (scalars_with f tags t)) ∙ ap (λ (k : ℕ). repeated_scalars k (size_of tags t) (scalars_with f tags t)) (sym (h refl)))
array_scalars f tags c t n same false h = refl

pub single_scalars : (f : ℕ → List Scalar) (tags : List Tag) (t : CType) → scalars_with f tags (single_of t) ≡ scalars_with f tags t
single_scalars f tags void = refl
single_scalars f tags (int kind) = refl
single_scalars f tags (enumeration tag) = refl
single_scalars f tags (pointer c t) = refl
single_scalars f tags (array c t None) = refl
single_scalars f tags (array c t (Some n)) = array_scalars f tags c t n (single_scalars f tags t) (n == 1) (is_one n)
single_scalars f tags (struct tag) = refl
single_scalars f tags (union tag) = refl
single_scalars f tags (function r ps v) = refl

element_extent :
    (n : ℕ) (x : Option Extent) (a e : Extent) → n ≡ 1 → repeated n x ≡ Some a → ((d : Extent) → x ≡ Some d → e.size ≤ d.size) → e.size ≤ a.size
element_extent n None a e one h inner = absurd (cc)
element_extent n (Some d) a e one h inner =
    let l = limited_some (extent_of (n * d.size) d.align) a h in
    let small : e.size ≤ d.size = inner d refl in
    let same : n * d.size ≡ a.size = ap (λ (y : Extent). y.size) l.0 in
    let as_one : 1 * d.size ≡ n * d.size = ap (λ (k : ℕ). k * d.size) (sym one) in
    omega arith

same_extent : (x : Option Extent) (a e : Extent) → x ≡ Some a → x ≡ Some e → e.size ≤ a.size
same_extent x a e h g = let same : a ≡ e = cc in subst (λ (y : Extent). y.size ≤ a.size) same (omega arith)

array_extent :
    (known : Known) (c : Bool) (t : CType) (n : ℕ) (a e : Extent) →
    ((d : Extent) → extent known t ≡ Some d → extent known (single_of t) ≡ Some e → e.size ≤ d.size) →
    (b : Bool) → (b ≡ true → n ≡ 1) → repeated n (extent known t) ≡ Some a → extent known (if b then single_of t else array c t (Some n)) ≡ Some e →
    e.size ≤ a.size
array_extent known c t n a e inner true h whole part = element_extent n (extent known t) a e (h refl) whole (λ d g. inner d g part)
array_extent known c t n a e inner false h whole part = same_extent (repeated n (extent known t)) a e whole part

pub single_extent : (known : Known) (t : CType) (a e : Extent) → extent known t ≡ Some a → extent known (single_of t) ≡ Some e → e.size ≤ a.size
single_extent known void a e h g = absurd (cc)
single_extent known (int kind) a e h g = same_extent (extent known (int kind)) a e h g
single_extent known (enumeration tag) a e h g = same_extent (extent known (enumeration tag)) a e h g
single_extent known (pointer c t) a e h g = same_extent (extent known (pointer c t)) a e h g
single_extent known (array c t None) a e h g = absurd (cc)
single_extent known (array c t (Some n)) a e h g = array_extent known c t n a e (λ d p q. single_extent known t d e p q) (n == 1) (is_one n) h g
single_extent known (struct tag) a e h g = same_extent (known tag) a e h g
single_extent known (union tag) a e h g = same_extent (known tag) a e h g
single_extent known (function r ps v) a e h g = absurd (cc)

array_weight : (f : ℕ → ℕ) (c : Bool) (t : CType) (n : ℕ) → weight_with f (single_of t) ≤ weight_with f t →
    (b : Bool) → weight_with f (if b then single_of t else array c t (Some n)) ≤ 1 + weight_with f t
array_weight f c t n h true = omega arith
array_weight f c t n h false = omega arith

pub single_weight : (f : ℕ → ℕ) (t : CType) → weight_with f (single_of t) ≤ weight_with f t
single_weight f void = omega arith
single_weight f (int kind) = omega arith
single_weight f (enumeration tag) = omega arith
single_weight f (pointer c t) = omega arith
single_weight f (array c t None) = omega arith
single_weight f (array c t (Some n)) = array_weight f c t n (single_weight f t) (n == 1)
single_weight f (struct tag) = omega arith
single_weight f (union tag) = omega arith
single_weight f (function r ps v) = omega arith

-- one opened more

pub remaining-more : (tags : List Tag) (os : List Open) (o : Open) → remaining tags (os ++ o ∷ []) ≡ contribution tags o ++ remaining tags os
remaining-more tags [] o = sym (append-nil (contribution tags o))
remaining-more tags (p ∷ ps) o =
    ap (λ (xs : List Scalar). xs ++ contribution tags p) (remaining-more tags ps o) ∙ append_assoc (contribution tags o) (remaining tags ps)
    (contribution tags p)

pub work-more : (tags : List Tag) (os : List Open) (o : Open) → work tags (os ++ o ∷ []) ≡ open_work tags o + work tags os
work-more tags [] o = omega arith
work-more tags (p ∷ ps) o = let more = work-more tags ps o in omega arith

pub roomy-more : (tags : List Tag) (os : List Open) (o : Open) → AreRoomy tags os → IsRoomy tags o → AreRoomy tags (os ++ o ∷ [])
roomy-more tags [] o h g = (g, tt)
roomy-more tags (p ∷ ps) o h g = (h.0, roomy-more tags ps o h.1 g)

pub roomy-fewer : (tags : List Tag) (os : List Open) (o : Open) → AreRoomy tags (os ++ o ∷ []) → AreRoomy tags os × IsRoomy tags o
roomy-fewer tags [] o h = (tt, h.0)
roomy-fewer tags (p ∷ ps) o h = let rest = roomy-fewer tags ps o h.1 in ((h.0, rest.0), rest.1)

content_scalars : (f : ℕ → List Scalar) (tags : List Tag) (tag : ℕ) (o : Option Tag) →
    member_scalars f tags tag 0 (drop 0 (members_in o)) ≡ tag_scalars f tags tag o
content_scalars f tags tag None = refl
content_scalars f tags tag (Some t) = refl

pub remaining-entered : (tags : List Tag) (depth tag offset : ℕ) (os : List Open) →
    remaining tags (entered depth tag offset os) ≡ shifted offset (scalars_by depth tags tag) ++ remaining tags os
remaining-entered tags zero tag offset os = refl
remaining-entered tags (suc depth) tag offset os =
    remaining-more tags os (record { tag = tag; next = 0; offset = offset; depth = depth })
    ∙ ap (λ (xs : List Scalar). shifted offset xs ++ remaining tags os) (content_scalars (scalars_by depth tags) tags tag (slice_get tags tag))

pub work-entered : (tags : List Tag) (depth tag offset : ℕ) (os : List Open) →
    work tags (entered depth tag offset os) ≤ 1 + weight_by depth tags tag + work tags os
work-entered tags zero tag offset os = omega arith
work-entered tags (suc depth) tag offset os = let more = work-more tags os (record { tag = tag; next = 0; offset = offset; depth = depth }) in omega arith

pub roomy-entered : (tags : List Tag) (depth tag offset : ℕ) (os : List Open) → AreRoomy tags os →
    ((e : Extent) → extents tags tag ≡ Some e → offset + e.size ≤ 2 ^ 40) → AreRoomy tags (entered depth tag offset os)
roomy-entered tags zero tag offset os h g = h
roomy-entered tags (suc depth) tag offset os h g = roomy-more tags os (record { tag = tag; next = 0; offset = offset; depth = depth }) h g

-- one member more

shifted_twice : (a b : ℕ) (xs : List Scalar) → shifted a (shifted b xs) ≡ shifted (a + b) xs
shifted_twice a b [] = refl
shifted_twice a b (x ∷ xs) =
    let same : a + (b + x.offset) ≡ a + b + x.offset = omega arith in
    let f : ℕ → List Scalar → List Scalar = λ n ys. (record { offset = n; ty = x.ty }) ∷ ys in
    ap (λ (n : ℕ). f n (shifted a (shifted b xs))) same ∙ ap (f (a + b + x.offset)) (shifted_twice a b xs)

drop_here : (ms : List Member) (i : ℕ) (m : Member) → slice_get ms i ≡ Some m → drop i ms ≡ m ∷ drop (suc i) ms
drop_here [] i m h = absurd (cc)
drop_here (x ∷ xs) zero m h = let same : x ≡ m = cc in ap (λ (y : Member). y ∷ xs) same
drop_here (x ∷ xs) (suc i) m h = drop_here xs i m h

drop_past : (ms : List Member) (i : ℕ) → slice_get ms i ≡ None → drop i ms ≡ []
drop_past [] zero h = refl
drop_past [] (suc i) h = refl
drop_past (x ∷ xs) zero h = absurd (cc)
drop_past (x ∷ xs) (suc i) h = drop_past xs i h

-- where no member is left
pub nothing_left : (tags : List Tag) (o : Open) → left_in tags o ≡ [] → (contribution tags o ≡ []) × (open_work tags o ≡ 1)
nothing_left tags o h = (
  ap (λ (ms : List Member). shifted o.offset (member_scalars (scalars_by o.depth tags) tags o.tag o.next ms)) h,
  ap (λ (ms : List Member). 1 + members_weight (weight_by o.depth tags) ms) h,
)

pub left-no_tag : (tags : List Tag) (o : Open) → slice_get tags o.tag ≡ None → left_in tags o ≡ []
left-no_tag tags o h = ap (λ (x : Option Tag). drop o.next (members_in x)) h ∙ drop_past [] o.next refl

pub left-no_member : (tags : List Tag) (o : Open) (t : Tag) → slice_get tags o.tag ≡ Some t → slice_get t.members o.next ≡ None → left_in tags o ≡ []
left-no_member tags o t at h = ap (λ (x : Option Tag). drop o.next (members_in x)) at ∙ drop_past t.members o.next h

-- the same structure or union with one member fewer to place
abbrev pub after : Open → Open
after o = record { tag = o.tag; next = o.next + 1; offset = o.offset; depth = o.depth }

module _ (tags : List Tag) (o : Open) (t : Tag) (m : Member) (at : slice_get tags o.tag ≡ Some t) (is : slice_get t.members o.next ≡ Some m) where
  left_is : left_in tags o ≡ m ∷ left_in tags (after o)
  left_is =
      ap (λ (x : Option Tag). drop o.next (members_in x)) at
      ∙ (drop_here t.members o.next m is
      ∙ (ap (λ (k : ℕ). m ∷ drop k t.members) (sym (add-one o.next))
      ∙ ap (λ (x : Option Tag). m ∷ drop (o.next + 1) (members_in x)) (sym at)))

  pub contribution_is :
      contribution tags o ≡ shifted (o.offset + member_offset tags o.tag o.next) (scalars_with (scalars_by o.depth tags) tags (type_of_member m)) ++
      contribution tags (after o)
  contribution_is =
      let f : ℕ → List Scalar = scalars_by o.depth tags in
      let one : List Scalar = scalars_with f tags (type_of_member m) in
      let rest : List Scalar = member_scalars f tags o.tag (o.next + 1) (left_in tags (after o)) in
      ap (λ (ms : List Member). shifted o.offset (member_scalars f tags o.tag o.next ms)) left_is
      ∙ (map-append (moved o.offset) (shifted (member_offset tags o.tag o.next) one) rest
      ∙ ap (λ (xs : List Scalar). xs ++ contribution tags (after o)) (shifted_twice o.offset (member_offset tags o.tag o.next) one))

  pub work_is : open_work tags o ≡ 1 + weight_with (weight_by o.depth tags) (type_of_member m) + open_work tags (after o)
  work_is =
      let seen = ap (λ (ms : List Member). 1 + members_weight (weight_by o.depth tags) ms) left_is in
      omega (arith, seen)

  complete : IsSettled tags → (x : Option Extent) → extents tags o.tag ≡ x → (e : Extent) × (extents tags o.tag ≡ Some e)
  complete settled None h =
      let none : t.members ≡ [] = settled.filled o.tag t at h in
      let lost : slice_get [] o.next ≡ Some m = subst (λ (ms : List Member). slice_get ms o.next ≡ Some m) none is in
      absurd (cc)
  complete settled (Some e) h = (e, h)

  pub fits_is : (settled : IsSettled tags) → IsRoomy tags o → (own : Extent) ×
      ((extent (extents tags) (type_of_member m) ≡ Some own) × (o.offset + member_offset tags o.tag o.next + own.size ≤ 2 ^ 40))
  fits_is settled roomy =
      let whole = complete settled (extents tags o.tag) refl in
      let room : o.offset + whole.0.size ≤ 2 ^ 40 = roomy whole.0 whole.1 in
      let f = fits tags settled o.tag t whole.0 at whole.1 o.next m is in
      let ends : member_offset tags o.tag o.next + f.own.size ≤ whole.0.size = f.ends in
      (f.own, (f.owns, omega arith))

-- a list of parts before, what the member brings, and what is left of its structure or union and of those around it
pub placed_so :
    (done one next rest new left whole current : List Scalar) → new ≡ done ++ one → left ≡ next ++ rest → current ≡ one ++ next → whole ≡ new ++ left →
    whole ≡ done ++ (current ++ rest)
placed_so done one next rest new left whole current n l c w =
    w
    ∙ (ap (λ (xs : List Scalar). xs ++ left) n
    ∙ (ap (λ (xs : List Scalar). (done ++ one) ++ xs) l
    ∙ (append_assoc done one (next ++ rest)
    ∙ (ap (λ (xs : List Scalar). done ++ xs) (sym (append_assoc one next rest))
    ∙ ap (λ (xs : List Scalar). done ++ (xs ++ rest)) (sym c)))))

pub opened_so :
    (done one next rest left current : List Scalar) → left ≡ one ++ (next ++ rest) → current ≡ one ++ next → done ++ left ≡ done ++ (current ++ rest)
opened_so done one next rest left current l c =
    ap (λ (xs : List Scalar). done ++ xs) (l ∙ (sym (append_assoc one next rest) ∙ ap (λ (xs : List Scalar). xs ++ rest) (sym c)))
