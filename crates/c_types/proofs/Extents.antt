-- The extents of tags as tags are declared and completed.
use Rattle.std.proofs.Common.{◌≡◌, ℕ, zero, suc, ◌+◌, ◌≤◌, List, [], ◌∷◌, ◌++◌, length, Option, Some, None, refl, sym, ap, ◌∙◌, arith}
use Rattle.std.specs.Prelude.{slice_get}
use Rattle.c_types.specs.declared.tags.TagKind.{TagKind}
use Rattle.c_types.specs.declared.tags.Member.{Member}
use Rattle.c_types.specs.declared.tags.Tag.{Tag}
use Rattle.c_types.specs.declared.tags.Extent.{Extent}
use Rattle.c_types.specs.Types.{CType, void, int, enumeration, pointer, array, struct, union, function}
use Rattle.c_types.specs.Layout.{
  Known,
  extent,
  repeated,
  placed,
  and_then,
  members_extent,
  type_of_member,
  padded,
  if_any,
  no_members,
  tag_extent,
  extent_of_tag,
  known_by,
}
use Rattle.c_types.specs.Table.{counted, completions}

-- what is known there is known here
abbrev pub OptBelow : Option Extent → Option Extent → Type 0
OptBelow x y = (e : Extent) → x ≡ Some e → y ≡ Some e

abbrev pub Below : Known → Known → Type 0
Below k m = (tag : ℕ) → OptBelow (k tag) (m tag)

pub both : (x y : Option Extent) → OptBelow x y → OptBelow y x → x ≡ y
both None None f g = refl
both None (Some e) f g = g e refl
both (Some d) y f g = sym (f d refl)

repeated_grows : (n : ℕ) (x y : Option Extent) → OptBelow x y → OptBelow (repeated n x) (repeated n y)
repeated_grows n None y f e h = absurd (cc)
repeated_grows n (Some d) y f e h = ap (repeated n) (f d refl) ∙ h

pub extent_grows : (k m : Known) → Below k m → (t : CType) → OptBelow (extent k t) (extent m t)
extent_grows k m b void e h = h
extent_grows k m b (int kind) e h = h
extent_grows k m b (enumeration tag) e h = h
extent_grows k m b (pointer c t) e h = h
extent_grows k m b (array c t None) e h = h
extent_grows k m b (array c t (Some n)) e h = repeated_grows n (extent k t) (extent m t) (extent_grows k m b t) e h
extent_grows k m b (struct tag) e h = b tag e h
extent_grows k m b (union tag) e h = b tag e h
extent_grows k m b (function r ps v) e h = h

placed_grows : (kind : TagKind) (before : Extent) (x y : Option Extent) → OptBelow x y → OptBelow (placed kind before x) (placed kind before y)
placed_grows kind before None y f e h = absurd (cc)
placed_grows kind before (Some d) y f e h = ap (placed kind before) (f d refl) ∙ h

then_grows : (x y : Option Extent) (f g : Extent → Option Extent) → OptBelow x y →
    ((d : Extent) → OptBelow (f d) (g d)) → OptBelow (and_then x f) (and_then y g)
then_grows None y f g b s e h = absurd (cc)
then_grows (Some d) y f g b s e h = ap (λ o. and_then o g) (b d refl) ∙ s d e h

members_grow : (kind : TagKind) (k m : Known) → Below k m → (x y : Option Extent) → OptBelow x y →
    (ms : List Member) → OptBelow (members_extent kind k x ms) (members_extent kind m y ms)
members_grow kind k m b x y f [] = f
members_grow kind k m b x y f (t ∷ ms) =
    members_grow kind k m b
    (and_then x (λ d. placed kind d (extent k (type_of_member t))))
    (and_then y (λ d. placed kind d (extent m (type_of_member t))))
    (then_grows x y (λ d. placed kind d (extent k (type_of_member t))) (λ d. placed kind d (extent m (type_of_member t))) f
    (λ d. placed_grows kind d (extent k (type_of_member t)) (extent m (type_of_member t)) (extent_grows k m b (type_of_member t))))
    ms

if_any_grows : (ms : List Member) (x y : Option Extent) → OptBelow x y → OptBelow (if_any ms x) (if_any ms y)
if_any_grows [] x y f e h = h
if_any_grows (m ∷ ms) x y f e h = f e h

pub tag_grows : (k m : Known) → Below k m → (t : Tag) → OptBelow (tag_extent k t) (tag_extent m t)
tag_grows k m b t =
    if_any_grows t.members
    (and_then (members_extent t.kind k (Some no_members) t.members) padded)
    (and_then (members_extent t.kind m (Some no_members) t.members) padded)
    (then_grows (members_extent t.kind k (Some no_members) t.members) (members_extent t.kind m (Some no_members) t.members) padded padded
    (members_grow t.kind k m b (Some no_members) (Some no_members) (λ e h. h) t.members) (λ d e h. h))

pub option_grows : (k m : Known) → Below k m → (o : Option Tag) → OptBelow (extent_of_tag k o) (extent_of_tag m o)
option_grows k m b None e h = h
option_grows k m b (Some t) e h = tag_grows k m b t e h

-- without members nothing is known
if_none : (ms : List Member) (x : Option Extent) → ms ≡ [] → if_any ms x ≡ None
if_none [] x h = refl
if_none (m ∷ ms) x h = absurd (cc)

pub no_extent : (k : Known) (t : Tag) → t.members ≡ [] → tag_extent k t ≡ None
no_extent k t h = if_none t.members (and_then (members_extent t.kind k (Some no_members) t.members) padded) h

-- a tag more, which has no members yet
more_at : (k : Known) (tags : List Tag) (t : Tag) → t.members ≡ [] →
    (tag : ℕ) → extent_of_tag k (slice_get (tags ++ t ∷ []) tag) ≡ extent_of_tag k (slice_get tags tag)
more_at k [] t h zero = no_extent k t h
more_at k [] t h (suc n) = refl
more_at k (u ∷ us) t h zero = refl
more_at k (u ∷ us) t h (suc n) = more_at k us t h n

pub known_by-more : (n : ℕ) (tags : List Tag) (t : Tag) → t.members ≡ [] → (tag : ℕ) → known_by n (tags ++ t ∷ []) tag ≡ known_by n tags tag
known_by-more zero tags t h tag = refl
known_by-more (suc n) tags t h tag =
    more_at (known_by n (tags ++ t ∷ [])) tags t h tag
    ∙ (λ i. extent_of_tag (λ u. known_by-more n tags t h u i) (slice_get tags tag))

pub completions-more : (tags : List Tag) (t : Tag) → t.members ≡ [] → completions (tags ++ t ∷ []) ≡ completions tags
completions-more [] t h = ap (λ ms. counted ms + 0) h
completions-more (u ∷ us) t h = ap (λ n. counted u.members + n) (completions-more us t h)

pub completions-le : (tags : List Tag) → completions tags ≤ length tags
completions-le [] = omega arith
completions-le (t ∷ ts) = let one = counted-le t.members in omega (arith, one, completions-le ts)
  where
    counted-le : (ms : List Member) → counted ms ≤ 1
    counted-le [] = omega arith
    counted-le (m ∷ ms) = omega arith
