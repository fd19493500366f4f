-- Structures and unions that are held have the extents that the definition gives those that are seen.
use Rattle.std.proofs.Common.{◌≡◌, ◌∙◌, refl, ap, sym, ℕ, zero, suc, List, [], ◌∷◌, map, length, Option, Some, None}
use Rattle.std.specs.Prelude.{is_some, slice_get}
use Rattle.std.specs.Option.{option_map}
use Rattle.std.proofs.lemmas.Option.{slice_get-map}
use Rattle.std.proofs.Math.Path.{fun_ext}
use Rattle.c_types.specs.Types.{CType}
use Rattle.c_types.specs.declared.tags.Tag.{Tag}
use Rattle.c_types.specs.declared.tags.Member.{Member}
use Rattle.c_types.specs.declared.tags.TagKind.{TagKind}
use Rattle.c_types.specs.declared.tags.Extent.{Extent}
use Rattle.c_types.specs.Layout as below
use Rattle.c_types.specs.Layout.{Known, and_then, padded, no_members, placed, extent}
use Rattle.typing_env.specs.Seen.{member_seen, tag_seen}
use Rattle.typing_words.specs.Tags.{members_extent, if_any, extent_of_tag, known_by, extents, is_complete}

length_same : (tags : List Tag) → length (map tag_seen tags) ≡ length tags
length_same [] = refl
length_same (t ∷ ts) = ap (λ (n : ℕ). suc n) (length_same ts)

members_same : (kind : TagKind) (known : Known) (before : Option Extent) (ms : List Member) →
    members_extent kind known before (map member_seen ms) ≡ below.members_extent kind known before ms
members_same kind known before [] = refl
members_same kind known before (m ∷ ms) =
    members_same kind known (and_then before (λ b. placed kind b (extent known (below.type_of_member m)))) ms

content_same : (known : Known) (kind : TagKind) (ms : List Member) →
    if_any (map member_seen ms) (and_then (members_extent kind known (Some no_members) (map member_seen ms)) padded)
    ≡ below.if_any ms (and_then (below.members_extent kind known (Some no_members) ms) padded)
content_same known kind [] = refl
content_same known kind (m ∷ ms) = ap (λ (e : Option Extent). and_then e padded) (members_same kind known (Some no_members) (m ∷ ms))

extent_same : (known : Known) (t : Option Tag) → extent_of_tag known (option_map tag_seen t) ≡ below.extent_of_tag known t
extent_same known None = refl
extent_same known (Some t) = content_same known t.kind t.members

known_same : (n : ℕ) (tags : List Tag) (tag : ℕ) → known_by n (map tag_seen tags) tag ≡ below.known_by n tags tag
known_same zero tags tag = refl
known_same (suc n) tags tag =
    ap (extent_of_tag (known_by n (map tag_seen tags))) (slice_get-map tag_seen tags tag)
    ∙ (ap (λ (k : Known). extent_of_tag k (option_map tag_seen (slice_get tags tag))) (fun_ext (known_same n tags))
    ∙ extent_same (below.known_by n tags) (slice_get tags tag))

pub extents_same : (tags : List Tag) (tag : ℕ) → extents (map tag_seen tags) tag ≡ below.extents tags tag
extents_same tags tag = ap (λ (n : ℕ). known_by n (map tag_seen tags) tag) (length_same tags) ∙ known_same (length tags) tags tag

-- a type is complete where it has an extent
pub complete_is : (tags : List Tag) (t : CType) → is_some (extent (below.extents tags) t) ≡ is_complete (map tag_seen tags) t
complete_is tags t = ap (λ (k : Known). is_some (extent k t)) (fun_ext (λ tag. sym (extents_same tags tag)))
