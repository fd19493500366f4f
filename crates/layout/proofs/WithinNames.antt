-- Each named member begins within its structure or union, so no offset is cut short.
use Rattle.std.proofs.Common.{
  ◌≡◌,
  ℕ,
  zero,
  suc,
  ◌+◌,
  ◌-◌,
  ◌^◌,
  ◌≤◌,
  min,
  Bool,
  true,
  false,
  List,
  [],
  ◌∷◌,
  ◌++◌,
  length,
  map,
  Option,
  Some,
  None,
  refl,
  sym,
  ap,
  subst,
  zero-add,
  arith,
}
use Rattle.std.specs.Prelude.{slice_get, if◌then◌else◌}
use Rattle.std.specs.Option.{option_map}
use Rattle.std.specs.Str.{bytes_eq}
use Rattle.c_types.specs.declared.tags.Member.{Member}
use Rattle.c_types.specs.declared.tags.Tag.{Tag}
use Rattle.c_types.specs.declared.tags.Extent.{Extent}
use Rattle.c_types.specs.Types.{CType, void, int, enumeration, pointer, array, struct, union, function, qualified_of}
use Rattle.c_types.specs.Layout.{extent, extents, type_of_member, member_offset}
use Rattle.c_types.specs.Table.{IsSettled}
use Rattle.layout.specs.Names.{Named, Place, place, farther, itself, also_const, inside, if_named, brought, member_names, tag_names, names_by, names, named}
use Rattle.layout.specs.Listed.{nearer}
use Rattle.layout.proofs.Slots.{Fits, fits, tag_small}
use Rattle.layout.proofs.Within.{at_next}

-- offsets of at most so much
abbrev pub Under : ℕ → List Named → Type 0
Under size [] = Unit {0}
Under size (s ∷ ss) = (s.offset ≤ size) × Under size ss

under_append : (n : ℕ) (xs ys : List Named) → Under n xs → Under n ys → Under n (xs ++ ys)
under_append n [] ys h k = k
under_append n (x ∷ xs) ys h k = (h.0, under_append n xs ys h.1 k)

under_farther : (o n m : ℕ) (xs : List Named) → o + n ≤ m → Under n xs → Under m (map (farther o) xs)
under_farther o n m [] h u = tt
under_farther o n m (x ∷ xs) h u = let here : x.offset ≤ n = u.0 in (omega arith, under_farther o n m xs h u.1)

under_more : (n m : ℕ) (xs : List Named) → n ≤ m → Under n xs → Under m xs
under_more n m [] h u = tt
under_more n m (x ∷ xs) h u = let here : x.offset ≤ n = u.0 in (omega arith, under_more n m xs h u.1)

under_const : (size : ℕ) (c : Bool) (ns : List Named) → Under size ns → Under size (map (also_const c) ns)
under_const size c [] u = tt
under_const size c (n ∷ ns) u = (u.0, under_const size c ns u.1)

under_brought : (size : ℕ) (name : List ℕ) (own : Named) (inner : List Named) → own.offset ≡ 0 → Under size inner → Under size (if_named name (own ∷ []) inner)
under_brought size [] own inner e u = u
under_brought size (c ∷ cs) own inner e u = (omega arith, tt)

module _ (tags : List Tag) (settled : IsSettled tags) (of_tag : ℕ → List Named)
    (inner : (tag : ℕ) (e : Extent) → extents tags tag ≡ Some e → Under e.size (of_tag tag)) where
  under_inside : (t : CType) (e : Extent) → extent (extents tags) t ≡ Some e → Under e.size (inside of_tag t)
  under_inside void e h = tt
  under_inside (int kind) e h = tt
  under_inside (enumeration tag) e h = tt
  under_inside (pointer c t) e h = tt
  under_inside (array c t count) e h = tt
  under_inside (struct tag) e h = inner tag e h
  under_inside (union tag) e h = inner tag e h
  under_inside (function r ps v) e h = tt

  under_members : (tag : ℕ) (e : Extent) (i : ℕ) (ms : List Member) → ((j : ℕ) (m : Member) → slice_get ms j ≡ Some m → Fits tags tag (i + j) m e.size) →
      Under e.size (member_names of_tag tags tag i ms)
  under_members tag e i [] f = tt
  under_members tag e i (m ∷ ms) f =
      let here = f 0 m refl in
      let same : i + 0 ≡ i = omega arith in
      let ends : member_offset tags tag i + here.own.size ≤ e.size = subst (λ k. member_offset tags tag k + here.own.size ≤ e.size) same here.ends in
      let one : List Named = brought of_tag m in
      let c : Bool = (qualified_of m.qual).constant in
      under_append e.size (map (farther (member_offset tags tag i)) one) (member_names of_tag tags tag (i + 1) ms)
      (under_farther (member_offset tags tag i) here.own.size e.size one ends
      (under_brought here.own.size m.name (itself m) (map (also_const c) (inside of_tag (type_of_member m))) refl
      (under_const here.own.size c (inside of_tag (type_of_member m)) (under_inside (type_of_member m) here.own here.owns))))
      (under_members tag e (i + 1) ms (λ j x at. subst (λ k. Fits tags tag k x e.size) (sym (at_next i j)) (f (suc j) x at)))

  under_content : (tag : ℕ) (o : Option Tag) (e : Extent) → slice_get tags tag ≡ o → extents tags tag ≡ Some e → Under e.size (tag_names of_tag tags tag o)
  under_content tag None e g h = tt
  under_content tag (Some t) e g h = under_members tag e 0 t.members
      (λ j m at. subst (λ k. Fits tags tag k m e.size) (sym (zero-add j)) (fits tags settled tag t e g h j m at))

module _ (tags : List Tag) (settled : IsSettled tags) where
  under_tag : (n tag : ℕ) (e : Extent) → extents tags tag ≡ Some e → Under e.size (names_by n tags tag)
  under_tag zero tag e h = tt
  under_tag (suc n) tag e h = under_content tags settled (names_by n tags) (under_tag n) tag (slice_get tags tag) e refl h

  small_content : (n tag : ℕ) (o : Option Tag) (x : Option Extent) → slice_get tags tag ≡ o → extents tags tag ≡ x →
      Under (2 ^ 40) (tag_names (names_by n tags) tags tag o)
  small_content n tag None x g h = tt
  small_content n tag (Some t) None g h =
      let f : List Member → List Named = member_names (names_by n tags) tags tag 0 in
      subst (λ (ms : List Member). Under (2 ^ 40) (f ms)) (sym (settled.filled tag t g h)) tt
  small_content n tag (Some t) (Some e) g h =
      under_more e.size (2 ^ 40) (tag_names (names_by n tags) tags tag (Some t)) (tag_small tags settled tag t e g h)
      (under_content tags settled (names_by n tags) (under_tag n) tag (Some t) e g h)

  small_names : (n tag : ℕ) → Under (2 ^ 40) (names_by n tags tag)
  small_names zero tag = tt
  small_names (suc n) tag = small_content n tag (slice_get tags tag) (extents tags tag) refl refl

  near_pick : (b : Bool) (n : Named) (x : Option Place) → min n.offset (2 ^ 64 - 1) ≡ n.offset → option_map nearer x ≡ x →
      option_map nearer (if b then Some (place n) else x) ≡ (if b then Some (place n) else x)
  near_pick true n x e h = let f : ℕ → Option Place = λ k. Some (record { offset = k; qual = n.qual; constant = n.constant }) in ap f e
  near_pick false n x e h = h

  near_named : (name : List ℕ) (ns : List Named) → Under (2 ^ 40) ns → option_map nearer (named name ns) ≡ named name ns
  near_named name [] u = refl
  near_named name (n ∷ ns) u =
      let small : n.offset ≤ 2 ^ 40 = u.0 in
      near_pick (bytes_eq n.name name) n (named name ns) (omega arith) (near_named name ns u.1)

  pub exact_names : (name : List ℕ) (tag : ℕ) → option_map nearer (named name (names tags tag)) ≡ named name (names tags tag)
  exact_names name tag = near_named name (names tags tag) (small_names (length tags) tag)
