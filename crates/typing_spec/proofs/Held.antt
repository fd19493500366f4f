-- What is held is seen as itself, with the same extents and the same members.
use Rattle.std.proofs.Common.{◌≡◌, ◌∙◌, refl, ap, sym, ℕ, zero, suc, Bool, List, [], ◌∷◌, ◌++◌, map, length, Option, Some, None, rules}
use Rattle.std.specs.Prelude.{◌+◌, take, slice_get}
use Rattle.std.specs.Option.{option_map}
use Rattle.std.proofs.lemmas.Option.{slice_get-map}
use Rattle.std.proofs.Math.Path.{fun_ext}
use Rattle.c_types.specs.Types.{CType, Params, none, more, void, int, enumeration, pointer, array, struct, union, function}
use Rattle.c_types.specs.Types.{type_of, params_of, Qualified, qualified_of}
use Rattle.c_types.specs.declared.ty.Ty as TheTy
use Rattle.c_types.specs.declared.tags.Tag.{Tag}
use Rattle.c_types.specs.declared.tags.Member.{Member}
use Rattle.c_types.specs.declared.tags.TagKind.{TagKind}
use Rattle.c_types.specs.declared.tags.Extent.{Extent}
use Rattle.c_types.specs.Layout as below
use Rattle.c_types.specs.Layout.{Known, and_then, padded, no_members, offset_behind, number_in, placed, extent}
use Rattle.layout.specs.Names as named
use Rattle.layout.specs.Names.{Named, farther}
use Rattle.typing_env.specs.Seen.{SeenMember, SeenTag, member_seen, tag_seen}
use Rattle.typing_words.specs.Tags.{HeldIsSeen, HasExtents, HasNames, ty_of, quals_of, qual_of, member_held, tag_held, held}
use Rattle.typing_words.specs.Tags.{members_extent, if_any, extent_of_tag, known_by, extents, extent_of_member, offset_in}
use Rattle.typing_words.specs.Tags.{brought, member_names, tag_names, names_by, names}

function_back : (r : CType) (ps : Params) (v : Bool) →
    type_of (ty_of (function r ps v)) ≡ function (type_of (ty_of r)) (params_of (map qualified_of (quals_of ps))) v
function_back r ps v = search (rules, TheTy.the_lemmas)

pointer_back : (c : Bool) (t : CType) → type_of (ty_of (pointer c t)) ≡ pointer c (type_of (ty_of t))
pointer_back c t = search (rules, TheTy.the_lemmas)

array_back : (c : Bool) (t : CType) (n : Option ℕ) → type_of (ty_of (array c t n)) ≡ array c (type_of (ty_of t)) n
array_back c t n = search (rules, TheTy.the_lemmas)

qual_back : (q : Qualified) → qualified_of (qual_of q) ≡ record { constant = q.constant; ty = type_of (ty_of q.ty) }
qual_back q = search (rules, TheTy.the_lemmas)

more_back : (c : Bool) (t : CType) (ps : Params) →
    params_of (map qualified_of (quals_of (more c t ps))) ≡ more c (type_of (ty_of t)) (params_of (map qualified_of (quals_of ps)))
more_back c t ps = rw (qual_back (record { constant = c; ty = t })) refl

mutual
  pub type_back : (t : CType) → type_of (ty_of t) ≡ t
  type_back void = search (rules, TheTy.the_lemmas)
  type_back (int k) = search (rules, TheTy.the_lemmas)
  type_back (enumeration n) = search (rules, TheTy.the_lemmas)
  type_back (struct n) = search (rules, TheTy.the_lemmas)
  type_back (union n) = search (rules, TheTy.the_lemmas)
  type_back (pointer c t) = pointer_back c t ∙ ap (pointer c) (type_back t)
  type_back (array c t n) = array_back c t n ∙ ap (λ s. array c s n) (type_back t)
  type_back (function r ps v) =
      function_back r ps v
      ∙ (ap (λ s. function s (params_of (map qualified_of (quals_of ps))) v) (type_back r) ∙ ap (λ qs. function r qs v) (params_back ps))

  pub params_back : (ps : Params) → params_of (map qualified_of (quals_of ps)) ≡ ps
  params_back none = refl
  params_back (more c t ps) =
      more_back c t ps
      ∙ (ap (λ s. more c s (params_of (map qualified_of (quals_of ps)))) (type_back t) ∙ ap (more c t) (params_back ps))

pub qual_is : (q : Qualified) → qualified_of (qual_of q) ≡ q
qual_is q = qual_back q ∙ ap (λ (t : CType). let x : Qualified = record { constant = q.constant; ty = t } in x) (type_back q.ty)

member_is : (m : SeenMember) → member_seen (member_held m) ≡ m
member_is m = ap (λ (q : Qualified). let x : SeenMember = record { name = m.name; qual = q } in x) (qual_is m.qual)

members_are : (ms : List SeenMember) → map member_seen (map member_held ms) ≡ ms
members_are [] = refl
members_are (m ∷ ms) = ap (λ (x : SeenMember). x ∷ map member_seen (map member_held ms)) (member_is m) ∙ ap (λ (xs : List SeenMember). m ∷ xs) (members_are ms)

tag_is : (t : SeenTag) → tag_seen (tag_held t) ≡ t
tag_is t = ap (λ (ms : List SeenMember). let x : SeenTag = record { kind = t.kind; members = ms } in x) (members_are t.members)

-- what is held is seen as itself
pub tags_are : HeldIsSeen
tags_are [] = refl
tags_are (t ∷ ts) = ap (λ (x : SeenTag). x ∷ map tag_seen (held ts)) (tag_is t) ∙ ap (λ (xs : List SeenTag). t ∷ xs) (tags_are ts)

length_same : (tags : List Tag) → length (map tag_seen tags) ≡ length tags
length_same [] = refl
length_same (t ∷ ts) = ap (λ (n : ℕ). suc n) (length_same ts)

members_same : (kind : TagKind) (known : Known) (before : Option Extent) (ms : List Member) →
    members_extent kind known before (map member_seen ms) ≡ below.members_extent kind known before ms
members_same kind known before [] = refl
members_same kind known before (m ∷ ms) =
    members_same kind known (and_then before (λ b. placed kind b (extent known (below.type_of_member m)))) ms

content_same : (known : Known) (kind : TagKind) (ms : List Member) →
    if_any (map member_seen ms) (and_then (members_extent kind known (Some no_members) (map member_seen ms)) padded)
    ≡ below.if_any ms (and_then (below.members_extent kind known (Some no_members) ms) padded)
content_same known kind [] = refl
content_same known kind (m ∷ ms) = ap (λ (e : Option Extent). and_then e padded) (members_same kind known (Some no_members) (m ∷ ms))

extent_same : (known : Known) (t : Option Tag) → extent_of_tag known (option_map tag_seen t) ≡ below.extent_of_tag known t
extent_same known None = refl
extent_same known (Some t) = content_same known t.kind t.members

known_same : (n : ℕ) (tags : List Tag) (tag : ℕ) → known_by n (map tag_seen tags) tag ≡ below.known_by n tags tag
known_same zero tags tag = refl
known_same (suc n) tags tag =
    ap (extent_of_tag (known_by n (map tag_seen tags))) (slice_get-map tag_seen tags tag)
    ∙ (ap (λ (k : Known). extent_of_tag k (option_map tag_seen (slice_get tags tag))) (fun_ext (known_same n tags))
    ∙ extent_same (below.known_by n tags) (slice_get tags tag))

extents_same : (tags : List Tag) (tag : ℕ) → extents (map tag_seen tags) tag ≡ below.extents tags tag
extents_same tags tag = ap (λ (n : ℕ). known_by n (map tag_seen tags) tag) (length_same tags) ∙ known_same (length tags) tags tag

taken_same : (i : ℕ) (ms : List Member) → take i (map member_seen ms) ≡ map member_seen (take i ms)
taken_same zero ms = refl
taken_same (suc i) [] = refl
taken_same (suc i) (m ∷ ms) = ap (λ xs. member_seen m ∷ xs) (taken_same i ms)

member_extent_same : (known : Known) (m : Option Member) → extent_of_member known (option_map member_seen m) ≡ below.extent_of_member known m
member_extent_same known None = refl
member_extent_same known (Some m) = refl

offset_same : (known : Known) (i : ℕ) (t : Option Tag) → offset_in known (option_map tag_seen t) i ≡ below.offset_in known t i
offset_same known i None = refl
offset_same known i (Some t) =
    ap (λ xs. offset_behind t.kind (members_extent t.kind known (Some no_members) xs) (extent_of_member known (slice_get (map member_seen t.members) i)))
    (taken_same i t.members)
    ∙ (ap (λ e. offset_behind t.kind e (extent_of_member known (slice_get (map member_seen t.members) i)))
    (members_same t.kind known (Some no_members) (take i t.members))
    ∙ ap (λ e. offset_behind t.kind (below.members_extent t.kind known (Some no_members) (take i t.members)) e)
    (ap (extent_of_member known) (slice_get-map member_seen t.members i) ∙ member_extent_same known (slice_get t.members i)))

place_same : (tags : List Tag) (tag i : ℕ) →
    number_in (offset_in (extents (map tag_seen tags)) (slice_get (map tag_seen tags) tag) i) ≡ below.member_offset tags tag i
place_same tags tag i =
    ap (λ t. number_in (offset_in (extents (map tag_seen tags)) t i)) (slice_get-map tag_seen tags tag)
    ∙ (ap (λ (k : Known). number_in (offset_in k (option_map tag_seen (slice_get tags tag)) i)) (fun_ext (extents_same tags))
    ∙ ap number_in (offset_same (below.extents tags) i (slice_get tags tag)))

member_names_same : (of_tag : ℕ → List Named) (tags : List Tag) (tag i : ℕ) (ms : List Member) →
    member_names of_tag (map tag_seen tags) tag i (map member_seen ms) ≡ named.member_names of_tag tags tag i ms
member_names_same of_tag tags tag i [] = refl
member_names_same of_tag tags tag i (m ∷ ms) =
    ap (λ n. map (farther n) (brought of_tag (member_seen m)) ++ member_names of_tag (map tag_seen tags) tag (i + 1) (map member_seen ms))
    (place_same tags tag i)
    ∙ ap (λ xs. map (farther (below.member_offset tags tag i)) (named.brought of_tag m) ++ xs) (member_names_same of_tag tags tag (i + 1) ms)

tag_names_same : (of_tag : ℕ → List Named) (tags : List Tag) (tag : ℕ) (t : Option Tag) →
    tag_names of_tag (map tag_seen tags) tag (option_map tag_seen t) ≡ named.tag_names of_tag tags tag t
tag_names_same of_tag tags tag None = refl
tag_names_same of_tag tags tag (Some t) = member_names_same of_tag tags tag 0 t.members

names_by_same : (n : ℕ) (tags : List Tag) (tag : ℕ) → names_by n (map tag_seen tags) tag ≡ named.names_by n tags tag
names_by_same zero tags tag = refl
names_by_same (suc n) tags tag =
    ap (tag_names (names_by n (map tag_seen tags)) (map tag_seen tags) tag) (slice_get-map tag_seen tags tag)
    ∙ (ap (λ of_tag. tag_names of_tag (map tag_seen tags) tag (option_map tag_seen (slice_get tags tag))) (fun_ext (names_by_same n tags))
    ∙ tag_names_same (named.names_by n tags) tags tag (slice_get tags tag))

names_same : (tags : List Tag) (tag : ℕ) → names (map tag_seen tags) tag ≡ named.names tags tag
names_same tags tag = ap (λ (n : ℕ). names_by n (map tag_seen tags) tag) (length_same tags) ∙ names_by_same (length tags) tags tag

-- the extents and the members of structures and unions are those of the crates below
pub extents_are : HasExtents
extents_are tags tag = sym (extents_same (held tags) tag) ∙ ap (λ (ts : List SeenTag). extents ts tag) (tags_are tags)

pub names_are : HasNames
names_are tags tag = sym (names_same (held tags) tag) ∙ ap (λ (ts : List SeenTag). names ts tag) (tags_are tags)
