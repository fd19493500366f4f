-- The first member of a name, from one member to the next.
use Rattle.std.proofs.Common.{
  ◌≡◌,
  ℕ,
  zero,
  suc,
  ◌+◌,
  ◌-◌,
  ◌^◌,
  ◌<◌,
  ◌≤◌,
  min,
  Bool,
  true,
  false,
  List,
  [],
  ◌∷◌,
  ◌++◌,
  length,
  get_or,
  drop,
  drop-cons,
  add-one,
  map,
  Option,
  Some,
  None,
  refl,
  sym,
  ap,
  ◌∙◌,
  arith,
}
use Rattle.std.specs.Prelude.{if◌then◌else◌}
use Rattle.std.specs.Option.{option_map}
use Rattle.std.specs.Str.{bytes_eq}
use Rattle.c_types.specs.declared.tags.Member.{Member}
use Rattle.c_types.specs.declared.tags.Tag.{Tag}
use Rattle.c_types.specs.Types.{qualified_of}
use Rattle.c_types.specs.Layout.{member_offset, type_of_member}
use Rattle.layout.specs.Names.{Named, Place, place, farther, also_const, itself, inside, if_named, brought, member_names, named}
use Rattle.layout.specs.Listed.{nearer, const_place}

-- the same place, further on
abbrev pub further : ℕ → Place → Place
further by p = record p { offset = by + p.offset }

abbrev pub or_else : Option Place → Option Place → Option Place
or_else None y = y
or_else (Some x) y = Some x

picked : (b : Bool) (o : ℕ) (n : Named) (x y : Option Place) → x ≡ option_map (further o) y →
    (if b then Some (place (farther o n)) else x) ≡ option_map (further o) (if b then Some (place n) else y)
picked true o n x y h = refl
picked false o n x y h = h

named-farther : (name : List ℕ) (o : ℕ) (ns : List Named) → named name (map (farther o) ns) ≡ option_map (further o) (named name ns)
named-farther name o [] = refl
named-farther name o (n ∷ ns) = picked (bytes_eq n.name name) o n (named name (map (farther o) ns)) (named name ns) (named-farther name o ns)

picked_const : (b c : Bool) (n : Named) (x y : Option Place) → x ≡ option_map (const_place c) y →
    (if b then Some (place (also_const c n)) else x) ≡ option_map (const_place c) (if b then Some (place n) else y)
picked_const true c n x y h = refl
picked_const false c n x y h = h

named-const : (name : List ℕ) (c : Bool) (ns : List Named) → named name (map (also_const c) ns) ≡ option_map (const_place c) (named name ns)
named-const name c [] = refl
named-const name c (n ∷ ns) = picked_const (bytes_eq n.name name) c n (named name (map (also_const c) ns)) (named name ns) (named-const name c ns)

const_nearer : (c : Bool) (x : Option Place) → option_map nearer (option_map (const_place c) x) ≡ option_map (const_place c) (option_map nearer x)
const_nearer c None = refl
const_nearer c (Some p) = refl

near_const : (name : List ℕ) (c : Bool) (ns : List Named) →
    option_map nearer (named name (map (also_const c) ns)) ≡ option_map (const_place c) (option_map nearer (named name ns))
near_const name c ns = ap (option_map nearer) (named-const name c ns) ∙ const_nearer c (named name ns)

unnamed : (text name : List ℕ) (c : Bool) (own ns inner : List Named) (r s : Option Place) → length text ≡ 0 → inner ≡ ns →
    r ≡ option_map nearer (named name ns) → s ≡ option_map (const_place c) r →
    s ≡ option_map nearer (named name (if_named text own (map (also_const c) inner)))
unnamed [] name c own ns inner r s z i e k =
    let at : List Named → Option Place = λ l. option_map nearer (named name (map (also_const c) l)) in
    k ∙ (ap (option_map (const_place c)) e ∙ (sym (near_const name c ns) ∙ ap at (sym i)))
unnamed (x ∷ xs) name c own ns inner r s z i e k = absurd (omega (arith, z))

-- the first of a name inside an unnamed structure or union
pub found_inside :
    (name : List ℕ) (f : ℕ → List Named) (m : Member) (ns : List Named) (r s : Option Place) → length m.name ≡ 0 → inside f (type_of_member m) ≡ ns →
    r ≡ option_map nearer (named name ns) → s ≡ option_map (const_place (qualified_of m.qual).constant) r → s ≡ option_map nearer (named name (brought f m))
found_inside name f m ns r s z i e k = unnamed m.name name (qualified_of m.qual).constant (itself m ∷ []) ns (inside f (type_of_member m)) r s z i e k

chosen : (b : Bool) (p : Place) (x y z : Option Place) → x ≡ or_else y z → (if b then Some p else x) ≡ or_else (if b then Some p else y) z
chosen true p x y z h = refl
chosen false p x y z h = h

named-append : (name : List ℕ) (ns ms : List Named) → named name (ns ++ ms) ≡ or_else (named name ns) (named name ms)
named-append name [] ms = refl
named-append name (n ∷ ns) ms = chosen (bytes_eq n.name name) (place n) (named name (ns ++ ms)) (named name ns) (named name ms) (named-append name ns ms)

next_names :
    (f : ℕ → List Named) (tags : List Tag) (tag i : ℕ) (ms : List Member) (m : Member) → i < length ms → m ≡ get_or ms i m →
    member_names f tags tag i (drop i ms) ≡ map (farther (member_offset tags tag i)) (brought f m) ++ member_names f tags tag (i + 1) (drop (i + 1) ms)
next_names f tags tag i ms m h e =
    ap (member_names f tags tag i) (drop-cons ms i m h)
    ∙ (ap (λ x. member_names f tags tag i (x ∷ drop (suc i) ms)) (sym e)
    ∙ ap (λ k. map (farther (member_offset tags tag i)) (brought f m) ++ member_names f tags tag (i + 1) (drop k ms)) (sym (add-one i)))

named_next :
    (name : List ℕ) (f : ℕ → List Named) (tags : List Tag) (tag i : ℕ) (ms : List Member) (m : Member) → i < length ms → m ≡ get_or ms i m →
    named name (member_names f tags tag i (drop i ms))
    ≡ or_else (option_map (further (member_offset tags tag i)) (named name (brought f m))) (named name (member_names f tags tag (i + 1) (drop (i + 1) ms)))
named_next name f tags tag i ms m h e =
    let rest : Option Place = named name (member_names f tags tag (i + 1) (drop (i + 1) ms)) in
    ap (named name) (next_names f tags tag i ms m h e)
    ∙ (named-append name (map (farther (member_offset tags tag i)) (brought f m)) (member_names f tags tag (i + 1) (drop (i + 1) ms))
    ∙ ap (λ (x : Option Place). or_else x rest) (named-farther name (member_offset tags tag i) (brought f m)))

hit : (o : ℕ) (x y : Option Place) (p : Place) → option_map nearer x ≡ Some p →
    option_map nearer (or_else (option_map (further o) x) y) ≡ Some (record p { offset = min (o + p.offset) (2 ^ 64 - 1) })
hit o None y p h = absurd (cc)
hit o (Some q) y p h =
    let is : nearer q ≡ p = cc in
    let same : min (o + q.offset) (2 ^ 64 - 1) ≡ min (o + min q.offset (2 ^ 64 - 1)) (2 ^ 64 - 1) = omega arith in
    let at : ℕ → Option Place = λ n. Some (record q { offset = n }) in
    let on : Place → Option Place = λ r. Some (record r { offset = min (o + r.offset) (2 ^ 64 - 1) }) in
    ap at same ∙ ap on is

miss : (o : ℕ) (x y : Option Place) → option_map nearer x ≡ None → or_else (option_map (further o) x) y ≡ y
miss o None y h = refl
miss o (Some q) y h = absurd (cc)

-- the member at a place has the name
pub found_here :
    (name : List ℕ) (f : ℕ → List Named) (tags : List Tag) (tag i : ℕ) (ms : List Member) (m : Member) (r : Option Place) (p : Place) (total : Option Place)
    (at o : ℕ) →
    i < length ms → m ≡ get_or ms i m → r ≡ option_map nearer (named name (brought f m)) → r ≡ Some p → o ≡ member_offset tags tag i →
    at ≡ min (o + p.offset) (2 ^ 64 - 1) →
    option_map nearer (named name (member_names f tags tag i (drop i ms))) ≡ total → Some (record p { offset = at }) ≡ total
found_here name f tags tag i ms m r p total at o h e is some stands sum before =
    let rest : Option Place = named name (member_names f tags tag (i + 1) (drop (i + 1) ms)) in
    let put : ℕ → Option Place = λ n. Some (record p { offset = n }) in
    let far : ℕ → ℕ = λ n. min (n + p.offset) (2 ^ 64 - 1) in
    ap put (sum ∙ ap far stands)
    ∙ (sym (hit (member_offset tags tag i) (named name (brought f m)) rest p (sym is ∙ some))
    ∙ (sym (ap (option_map nearer) (named_next name f tags tag i ms m h e))
    ∙ before))

-- it hasn't
pub found_later :
    (name : List ℕ) (f : ℕ → List Named) (tags : List Tag) (tag i : ℕ) (ms : List Member) (m : Member) (r : Option Place) (total : Option Place) →
    i < length ms → m ≡ get_or ms i m → r ≡ option_map nearer (named name (brought f m)) → r ≡ None →
    option_map nearer (named name (member_names f tags tag i (drop i ms))) ≡ total →
    option_map nearer (named name (member_names f tags tag (i + 1) (drop (i + 1) ms))) ≡ total
found_later name f tags tag i ms m r total h e is none before =
    ap (option_map nearer)
    (sym (miss (member_offset tags tag i) (named name (brought f m)) (named name (member_names f tags tag (i + 1) (drop (i + 1) ms))) (sym is ∙ none))
    ∙ sym (named_next name f tags tag i ms m h e))
    ∙ before
