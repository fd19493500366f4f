-- The extents with the limit are those without it, where a type is complete and within it.
use Rattle.std.proofs.Common.{◌≡◌, ℕ, zero, suc, ◌≤◌, ◌^◌, List, [], ◌∷◌, length, Option, Some, None, refl, ap, ◌∙◌, arith}
use Rattle.std.specs.Prelude.{Bool, true, false, ◌&&◌, nat_le, slice_get, if◌then◌else◌}
use Rattle.std.proofs.lemmas.Bool.Decides.{nat_tests}
use Rattle.c_types.specs.declared.tags.TagKind.{TagKind}
use Rattle.c_types.specs.declared.tags.Member.{Member}
use Rattle.c_types.specs.declared.tags.Tag.{Tag}
use Rattle.c_types.specs.declared.tags.Extent.{Extent}
use Rattle.c_types.specs.Types.{CType, void, int, enumeration, pointer, array, struct, union, function}
use Rattle.c_types.specs.Layout.{
  Known,
  extent,
  extents,
  repeated,
  limited,
  placed,
  and_then,
  members_extent,
  type_of_member,
  padded,
  if_any,
  no_members,
  with_member,
  extent_of_tag,
  known_by,
}
use Rattle.layout_laws.specs.Complete.{
  complete_with,
  all_complete,
  has_members,
  complete_tag,
  complete_by,
  is_complete,
  times,
  whole_with,
  whole_members,
  rounded_up,
  whole_tag,
  whole_by,
  whole_extent,
  is_small,
  within_with,
  all_within,
  within_tag,
  within_by,
  is_within,
  only_if,
}

tested : (b : Bool) (e : Extent) → (if b then Some e else None) ≡ only_if b e
tested true e = refl
tested false e = refl

limited_if : (e : Extent) → limited e ≡ only_if (is_small e) e
limited_if e = tested (nat_le e.size (2 ^ 40)) e

repeated_if : (n : ℕ) (b : Bool) (e : Extent) → repeated n (only_if b e) ≡ only_if (b && is_small (times n e)) (times n e)
repeated_if n false e = refl
repeated_if n true e = limited_if (times n e)

placed_if : (kind : TagKind) (before : Extent) (b : Bool) (e : Extent) →
    placed kind before (only_if b e) ≡ only_if (b && is_small (with_member kind before e)) (with_member kind before e)
placed_if kind before false e = refl
placed_if kind before true e = limited_if (with_member kind before e)

and_assoc : (a b c : Bool) → ((a && b) && c) ≡ (a && (b && c))
and_assoc false b c = refl
and_assoc true b c = refl

module _ (known : Known) (c w : ℕ → Bool) (s : ℕ → Extent) (h : (tag : ℕ) → known tag ≡ only_if (c tag && w tag) (s tag)) where
  extent_if : (t : CType) → extent known t ≡ only_if (complete_with c t && within_with w s t) (whole_with s t)
  extent_if void = refl
  extent_if (int kind) = refl
  extent_if (enumeration tag) = refl
  extent_if (pointer k t) = refl
  extent_if (array k t None) = refl
  extent_if (array k t (Some n)) =
      ap (repeated n) (extent_if t)
      ∙ (repeated_if n (complete_with c t && within_with w s t) (whole_with s t)
      ∙ ap (λ b. only_if b (times n (whole_with s t))) (and_assoc (complete_with c t) (within_with w s t) (is_small (times n (whole_with s t)))))
  extent_if (struct tag) = h tag
  extent_if (union tag) = h tag
  extent_if (function r ps v) = refl

-- the outcome where the test holds
kept : Bool → Option Extent → Option Extent
kept true o = o
kept false o = None

then_kept : (b : Bool) (before : Extent) (f : Extent → Option Extent) → and_then (only_if b before) f ≡ kept b (f before)
unfolding kept
then_kept true before f = refl
then_kept false before f = refl

-- where what follows is small, so is what stands before
kept_step : (b sb k sn : Bool) (next : Extent) → (sn ≡ true → sb ≡ true) → kept (b && sb) (only_if (k && sn) next) ≡ only_if ((b && k) && sn) next
unfolding kept
kept_step false sb k sn next h = refl
kept_step true true k sn next h = refl
kept_step true false false sn next h = refl
kept_step true false true false next h = refl
kept_step true false true true next h = let bad : false ≡ true = h refl in absurd (cc)

smaller : (m n : ℕ) → m ≤ n → nat_le n (2 ^ 40) ≡ true → nat_le m (2 ^ 40) ≡ true
smaller m n le h = grind (arith, nat_tests)

grows : (kind : TagKind) (before e : Extent) → before.size ≤ (with_member kind before e).size
grows kind before e = omega arith

and_mix : (b ck wk call wall s : Bool) → (((b && (ck && wk)) && call) && (wall && s)) ≡ ((b && (ck && call)) && ((wk && wall) && s))
and_mix false ck wk call wall s = refl
and_mix true false wk call wall s = refl
and_mix true true true call wall s = refl
and_mix true true false false wall s = refl
and_mix true true false true wall s = refl

module _ (kind : TagKind) (known : Known) (c w : ℕ → Bool) (s : ℕ → Extent) (h : (tag : ℕ) → known tag ≡ only_if (c tag && w tag) (s tag)) where
  next_if : (b : Bool) (before : Extent) (t : CType) →
      and_then (only_if (b && is_small before) before) (λ x. placed kind x (extent known t))
      ≡ only_if ((b && (complete_with c t && within_with w s t)) && is_small (with_member kind before (whole_with s t)))
      (with_member kind before (whole_with s t))
  next_if b before t =
      let e = whole_with s t in
      let next = with_member kind before e in
      let k = complete_with c t && within_with w s t in
      then_kept (b && is_small before) before (λ x. placed kind x (extent known t))
      ∙ (ap (λ o. kept (b && is_small before) (placed kind before o)) (extent_if known c w s h t)
      ∙ (ap (kept (b && is_small before)) (placed_if kind before k e)
      ∙ kept_step b (is_small before) k (is_small next) next (smaller before.size next.size (grows kind before e))))

  members_if : (ms : List Member) (b : Bool) (before : Extent) →
      and_then (members_extent kind known (only_if (b && is_small before) before) ms) padded
      ≡ only_if ((b && all_complete c ms) && (all_within w s ms && is_small (rounded_up (whole_members kind s before ms))))
      (rounded_up (whole_members kind s before ms))
  members_if [] b before =
      let next = rounded_up before in
      then_kept (b && is_small before) before padded
      ∙ (ap (kept (b && is_small before)) (limited_if next)
      ∙ kept_step b (is_small before) true (is_small next) next (smaller before.size next.size (omega arith)))
  members_if (m ∷ ms) b before =
      let t = type_of_member m in
      let next = with_member kind before (whole_with s t) in
      let last = rounded_up (whole_members kind s next ms) in
      ap (λ o. and_then (members_extent kind known o ms) padded) (next_if b before t)
      ∙ (members_if ms (b && (complete_with c t && within_with w s t)) next
      ∙ ap (λ x. only_if x last) (and_mix b (complete_with c t) (within_with w s t) (all_complete c ms) (all_within w s ms) (is_small last)))

  any_if : (ms : List Member) →
      if_any ms (and_then (members_extent kind known (Some no_members) ms) padded)
      ≡ only_if ((has_members ms && all_complete c ms) && (all_within w s ms && is_small (rounded_up (whole_members kind s no_members ms))))
      (rounded_up (whole_members kind s no_members ms))
  any_if [] = refl
  any_if (m ∷ ms) = members_if (m ∷ ms) true no_members

tag_if : (known : Known) (c w : ℕ → Bool) (s : ℕ → Extent) → ((tag : ℕ) → known tag ≡ only_if (c tag && w tag) (s tag)) →
    (o : Option Tag) → extent_of_tag known o ≡ only_if (complete_tag c o && within_tag w s o) (whole_tag s o)
tag_if known c w s h None = refl
tag_if known c w s h (Some t) = any_if t.kind known c w s h t.members

known_if : (n : ℕ) (tags : List Tag) (tag : ℕ) → known_by n tags tag ≡ only_if (complete_by n tags tag && within_by n tags tag) (whole_by n tags tag)
known_if zero tags tag = refl
known_if (suc n) tags tag = tag_if (known_by n tags) (complete_by n tags) (within_by n tags) (whole_by n tags) (known_if n tags) (slice_get tags tag)

pub extent-limited : (tags : List Tag) (t : CType) → extent (extents tags) t ≡ only_if (is_complete tags t && is_within tags t) (whole_extent tags t)
extent-limited tags t = extent_if (extents tags) (complete_by (length tags) tags) (within_by (length tags) tags) (whole_by (length tags) tags)
    (known_if (length tags) tags) t
