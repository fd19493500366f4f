-- Each member of a structure or union ends within it.
use Rattle.std.proofs.Common.{◌≡◌, ℕ, zero, suc, ◌+◌, ◌^◌, ◌≤◌, List, [], ◌∷◌, take, Option, Some, None, refl, sym, ap, subst, ◌∙◌, arith}
use Rattle.std.specs.Prelude.{slice_get, max, nat_le}
use Rattle.std.proofs.lemmas.Bool.{leb-true}
use Rattle.std.proofs.lemmas.Option.{cond_some}
use Rattle.c_types.specs.declared.tags.TagKind.{TagKind}
use Rattle.c_types.specs.declared.tags.Member.{Member}
use Rattle.c_types.specs.declared.tags.Tag.{Tag}
use Rattle.c_types.specs.declared.tags.Extent.{Extent}
use Rattle.c_types.specs.Layout.{
  Known,
  extent,
  extents,
  extent_of,
  limited,
  rounded,
  offset,
  with_member,
  and_then,
  placed,
  members_extent,
  no_members,
  padded,
  if_any,
  tag_extent,
  extent_of_tag,
  type_of_member,
  extent_of_member,
  offset_behind,
  offset_in,
  number_in,
  member_offset,
}
use Rattle.c_types.specs.Table.{IsSettled}

pub limited_some : (a e : Extent) → limited a ≡ Some e → (a ≡ e) × (e.size ≤ 2 ^ 40)
limited_some a e h =
    let parts = cond_some (nat_le a.size (2 ^ 40)) a e h in
    let small : a.size ≤ 2 ^ 40 = leb-true a.size (2 ^ 40) parts.0 in
    (parts.1, subst (λ (x : Extent). x.size ≤ 2 ^ 40) parts.1 small)

pub padded_some : (b e : Extent) → padded b ≡ Some e → (b.size ≤ e.size) × (e.size ≤ 2 ^ 40)
padded_some b e h =
    let l = limited_some (extent_of (rounded b.align b.size) b.align) e h in
    let grown : b.size ≤ rounded b.align b.size = omega arith in
    (subst (λ (x : Extent). b.size ≤ x.size) l.0 grown, l.1)

pub then_some : (x : Option Extent) (e : Extent) → and_then x padded ≡ Some e → (b : Extent) × ((x ≡ Some b) × (padded b ≡ Some e))
then_some None e h = absurd (cc)
then_some (Some b) e h = (b, (refl, h))

-- the members before make the extent before
pub record Slot (kind : TagKind) (k : Known) (before : Option Extent) (member : Option Extent) (size : ℕ) : Type 0 where
  pub start : Extent
  pub own : Extent
  pub starts : before ≡ Some start
  pub owns : member ≡ Some own
  pub ends : offset kind start own + own.size ≤ size

pub record Step (kind : TagKind) (b0 b1 : Extent) (member : Option Extent) : Type 0 where
  pub own : Extent
  pub owns : member ≡ Some own
  pub is : with_member kind b0 own ≡ b1

placed_some : (kind : TagKind) (b0 b1 : Extent) (member : Option Extent) → placed kind b0 member ≡ Some b1 → Step kind b0 b1 member
placed_some kind b0 b1 None h = absurd (cc)
placed_some kind b0 b1 (Some e) h = let l = limited_some (with_member kind b0 e) b1 h in record { own = e; owns = refl; is = l.0 }

step_grows : (kind : TagKind) (b0 b1 e : Extent) → with_member kind b0 e ≡ b1 → (b0.size ≤ b1.size) × (offset kind b0 e + e.size ≤ b1.size)
step_grows kind b0 b1 e h =
    let size : max b0.size (offset kind b0 e + e.size) ≡ b1.size = ap (λ (x : Extent). x.size) h in
    (omega (arith, size), omega (arith, size))

none_stays : (kind : TagKind) (k : Known) (ms : List Member) → members_extent kind k None ms ≡ None
none_stays kind k [] = refl
none_stays kind k (m ∷ ms) = none_stays kind k ms

grows_on :
    (kind : TagKind) (k : Known) (b0 b : Extent) (m : Member) (ms : List Member) (o : Option Extent) → placed kind b0 (extent k (type_of_member m)) ≡ o →
    members_extent kind k o ms ≡ Some b → ((b1 : Extent) → members_extent kind k (Some b1) ms ≡ Some b → b1.size ≤ b.size) → b0.size ≤ b.size
grows_on kind k b0 b m ms None p h rest = let none = none_stays kind k ms in absurd (cc)
grows_on kind k b0 b m ms (Some b1) p h rest =
    let s = placed_some kind b0 b1 (extent k (type_of_member m)) p in
    let up = step_grows kind b0 b1 s.own s.is in
    let on = rest b1 h in
    omega arith

pub grows : (kind : TagKind) (k : Known) (b0 b : Extent) (ms : List Member) → members_extent kind k (Some b0) ms ≡ Some b → b0.size ≤ b.size
grows kind k b0 b [] h = let same : b0 ≡ b = cc in subst (λ (x : Extent). b0.size ≤ x.size) same (omega arith)
grows kind k b0 b (m ∷ ms) h = grows_on kind k b0 b m ms (placed kind b0 (extent k (type_of_member m))) refl h (λ b1 g. grows kind k b1 b ms g)

slot_on :
    (kind : TagKind) (k : Known) (b0 b : Extent) (n : Member) (ms : List Member) (i : ℕ) (m : Member) (o : Option Extent) →
    placed kind b0 (extent k (type_of_member n)) ≡ o →
    members_extent kind k o ms ≡ Some b → slice_get (n ∷ ms) i ≡ Some m →
    ((b1 : Extent) (j : ℕ) → members_extent kind k (Some b1) ms ≡ Some b → slice_get ms j ≡ Some m →
    Slot kind k (members_extent kind k (Some b1) (take j ms)) (extent k (type_of_member m)) b.size) →
    Slot kind k (members_extent kind k (Some b0) (take i (n ∷ ms))) (extent k (type_of_member m)) b.size
slot_on kind k b0 b n ms i m None p h g rest = let none = none_stays kind k ms in absurd (cc)
slot_on kind k b0 b n ms zero m (Some b1) p h g rest =
    let same : n ≡ m = cc in
    let s = placed_some kind b0 b1 (extent k (type_of_member n)) p in
    let up = step_grows kind b0 b1 s.own s.is in
    let on = grows kind k b1 b ms h in
    subst (λ (x : Member). Slot kind k (Some b0) (extent k (type_of_member x)) b.size) same
    (record { start = b0; own = s.own; starts = refl; owns = s.owns; ends = omega arith })
slot_on kind k b0 b n ms (suc i) m (Some b1) p h g rest =
    subst (λ (x : Option Extent). Slot kind k (members_extent kind k x (take i ms)) (extent k (type_of_member m)) b.size) (sym p) (rest b1 i h g)

pub slot :
    (kind : TagKind) (k : Known) (b0 b : Extent) (ms : List Member) (i : ℕ) (m : Member) → members_extent kind k (Some b0) ms ≡ Some b →
    slice_get ms i ≡ Some m →
    Slot kind k (members_extent kind k (Some b0) (take i ms)) (extent k (type_of_member m)) b.size
slot kind k b0 b [] i m h g = absurd (cc)
slot kind k b0 b (n ∷ ms) i m h g =
    slot_on kind k b0 b n ms i m (placed kind b0 (extent k (type_of_member n))) refl h g (λ b1 j r q. slot kind k b1 b ms j m r q)

if_any_some : (ms : List Member) (x : Option Extent) (e : Extent) → if_any ms x ≡ Some e → x ≡ Some e
if_any_some [] x e h = absurd (cc)
if_any_some (m ∷ ms) x e h = h

-- a member of a complete tag, with its extent
pub record Fits (tags : List Tag) (tag i : ℕ) (m : Member) (size : ℕ) : Type 0 where
  pub own : Extent
  pub owns : extent (extents tags) (type_of_member m) ≡ Some own
  pub ends : member_offset tags tag i + own.size ≤ size

offset_is : (kind : TagKind) (before member : Option Extent) (start own : Extent) → before ≡ Some start → member ≡ Some own →
    number_in (offset_behind kind before member) ≡ offset kind start own
offset_is kind None member start own b m = absurd (cc)
offset_is kind (Some s) None start own b m = absurd (cc)
offset_is kind (Some s) (Some o) start own b m = let same : s ≡ start = cc in let one : o ≡ own = cc in ap (λ (x : Extent). offset kind x o) same ∙ ap
    (λ (x : Extent). offset kind start x) one

module _ (tags : List Tag) (settled : IsSettled tags) (tag : ℕ) (t : Tag) (e : Extent) (at : slice_get tags tag ≡ Some t)
    (known : extents tags tag ≡ Some e) where
  whole : (b : Extent) × ((members_extent t.kind (extents tags) (Some no_members) t.members ≡ Some b) × (padded b ≡ Some e))
  whole =
      let seen : tag_extent (extents tags) t ≡ Some e = ap (extent_of_tag (extents tags)) (sym at) ∙ (sym (settled.known tag) ∙ known) in
      then_some (members_extent t.kind (extents tags) (Some no_members) t.members) e (if_any_some t.members _ e seen)

  pub fits : (i : ℕ) (m : Member) → slice_get t.members i ≡ Some m → Fits tags tag i m e.size
  fits i m g =
      let s = slot t.kind (extents tags) no_members whole.0 t.members i m whole.1.0 g in
      let room = padded_some whole.0 e whole.1.1 in
      let there : extent_of_member (extents tags) (slice_get t.members i) ≡ Some s.own = ap (extent_of_member (extents tags)) g ∙ s.owns in
      let stands : member_offset tags tag i ≡ offset t.kind s.start s.own
      = ap (λ (o : Option Tag). number_in (offset_in (extents tags) o i)) at
      ∙ offset_is t.kind (members_extent t.kind (extents tags) (Some no_members) (take i t.members)) (extent_of_member (extents tags) (slice_get t.members i))
      s.start s.own s.starts there in
      let ends = s.ends in
      record { own = s.own; owns = s.owns; ends = omega arith }

  pub tag_small : e.size ≤ 2 ^ 40
  tag_small = (padded_some whole.0 e whole.1.1).1
