-- The end of a member list: when a structure or union may have these members, and what is known then.
use Rattle.std.proofs.Common.{◌≡◌, ℕ, zero, suc, ◌≤◌, Bool, true, false, true≢false, List, [], ◌∷◌, length, map, refl, sym, ap, ◌∙◌, arith}
use Rattle.std.specs.Prelude.{not, ◌&&◌, if◌then◌else◌, is_some, slice_get, Option, Some, None}
use Rattle.std.specs.Option.{option_map}
use Rattle.std.proofs.lemmas.Option.{slice_get-map, none-some}
use Rattle.c_types.specs.Layout as below
use Rattle.c_types.specs.Table.{IsSettled}
use Rattle.c_types.specs.declared.tags.Extent.{Extent}
use Rattle.c_types.specs.declared.tags.Member.{Member}
use Rattle.c_types.specs.declared.tags.Tag.{Tag}
use Rattle.c_types.specs.declared.tags.TagKind.{TagKind}
use Rattle.c_types.specs.declared.tags.TagKind.TheVariants.{Struct, Union}
use Rattle.typing_env.specs.Env.{Env, and_then}
use Rattle.typing_env.specs.Seen.{SeenMember, SeenTag, member_seen, tag_seen}
use Rattle.typing_words.specs.Tags.{extents, is_complete, are_distinct, names, completed}
use Rattle.typing_words.specs.Words.{plain, tagged, has_members, close_tag}
use Rattle.type_declarators.specs.Members.{may_complete}
use Rattle.type_declarators.proofs.Extents.{extents_same}

-- 1. A structure or union has members where it has an extent.

none_false : {A : Type 0} (o : Option A) → o ≡ None → is_some o ≡ false
none_false o e = ap is_some e

some_by : (known : Option Extent) (m : Member) (ms members : List Member) → m ∷ ms ≡ members → (known ≡ None → members ≡ []) → is_some known ≡ true
some_by (Some e) m ms members is filled = refl
some_by None m ms members is filled = absurd (cc (is, filled refl))

members_by : (tags : List Tag) (known : Option Extent) (t : Tag) (members : List Member) → t.members ≡ members
    → known ≡ below.extent_of_tag (below.extents tags) (Some t) → (known ≡ None → t.members ≡ []) → is_some known ≡ has_members (Some (tag_seen t))
members_by tags known t [] e is filled =
    none_false known (is ∙ ap (λ ms. below.if_any ms (below.and_then (below.members_extent t.kind (below.extents tags) (Some below.no_members) t.members)
    below.padded)) e)
    ∙ sym (ap (λ ms. has_members (Some (record { kind = t.kind; members = map member_seen ms }))) e)
members_by tags known t (m ∷ ms) e is filled =
    some_by known m ms t.members (sym e) filled
    ∙ sym (ap (λ ms. has_members (Some (record { kind = t.kind; members = map member_seen ms }))) e)

settled_by : (tags : List Tag) (tag : ℕ) (o : Option Tag) → IsSettled tags → slice_get tags tag ≡ o
    → is_some (below.extents tags tag) ≡ has_members (option_map tag_seen o)
settled_by tags tag None settled e = none_false (below.extents tags tag) (settled.known tag ∙ ap (below.extent_of_tag (below.extents tags)) e)
settled_by tags tag (Some t) settled e =
    members_by tags (below.extents tags tag) t t.members refl (settled.known tag ∙ ap (below.extent_of_tag (below.extents tags)) e) (settled.filled tag t e)

pub members_are : (tags : List Tag) (tag : ℕ) → IsSettled tags
    → is_some (below.extents tags tag) ≡ has_members (slice_get (map tag_seen tags) tag)
members_are tags tag settled = settled_by tags tag (slice_get tags tag) settled refl ∙ ap has_members (sym (slice_get-map tag_seen tags tag))

slice_get_none : (tags : List Tag) (tag : ℕ) → length tags ≤ tag → slice_get tags tag ≡ None
slice_get_none [] tag out = refl
slice_get_none (t ∷ ts) zero out = absurd (omega arith)
slice_get_none (t ∷ ts) (suc tag) out = slice_get_none ts tag (omega arith)

-- 2. Those that are held, as they are seen.

pub completed_seen : (tags : List Tag) (tag : ℕ) (members : List Member)
    → completed (map tag_seen tags) tag (map member_seen members) ≡ map tag_seen (below.completed tags tag members)
completed_seen [] tag members = refl
completed_seen (t ∷ ts) zero members = refl
completed_seen (t ∷ ts) (suc tag) members = ap (λ xs. tag_seen t ∷ xs) (completed_seen ts tag members)

out_by : (n : ℕ) (tags : List Tag) (tag : ℕ) → slice_get tags tag ≡ None → below.known_by n tags tag ≡ None
out_by zero tags tag e = refl
out_by (suc n) tags tag e = ap (below.extent_of_tag (below.known_by n tags)) e

completed_none : (tags : List Tag) (tag : ℕ) (members : List Member) → slice_get tags tag ≡ None → slice_get (below.completed tags tag members) tag ≡ None
completed_none [] tag members e = e
completed_none (t ∷ ts) zero members e = absurd (none-some t (sym e))
completed_none (t ∷ ts) (suc tag) members e = completed_none ts tag members e

-- one that isn't there stays without an extent
pub completed_out : (tags : List Tag) (tag : ℕ) (members : List Member) → slice_get tags tag ≡ None
    → is_some (below.extents (below.completed tags tag members) tag) ≡ false
completed_out tags tag members e =
    none_false (below.extents (below.completed tags tag members) tag)
    (out_by (length (below.completed tags tag members)) (below.completed tags tag members) tag (completed_none tags tag members e))

-- 3. The definition.

complete_tagged : (tags : List Tag) (kind : TagKind) (tag : ℕ) → is_complete (map tag_seen tags) (tagged kind tag) ≡ is_some (below.extents tags tag)
complete_tagged tags Struct tag = ap is_some (extents_same tags tag)
complete_tagged tags Union tag = ap is_some (extents_same tags tag)

pub complete_number : (tags : List SeenTag) (kind : TagKind) (tag : ℕ) → is_complete tags (tagged kind tag) ≡ is_some (extents tags tag)
complete_number tags Struct tag = refl
complete_number tags Union tag = refl

tested : {A : Type 0} (a b d : Bool) (q : A) (f : Env → Env) (env : Env)
    → and_then (if a then Some (tt {0}, env) else None) (λ _. λ (x : Env). and_then (if b then Some (tt {0}, x) else None)
    (λ _. λ (y : Env). and_then (if d then Some (tt {0}, y) else None) (λ _. λ (z : Env). Some (q, f z))))
    ≡ (if a && (b && d) then Some (q, f env) else None)
tested true true true q f env = refl
tested true true false q f env = refl
tested true false d q f env = refl
tested false b d q f env = refl

pub close_is : (kind : TagKind) (number : ℕ) (members : List SeenMember) (env : Env)
    → close_tag kind number members env
    ≡ (if not (has_members (slice_get env.tags number)) && (is_complete (completed env.tags number members) (tagged kind number)
    && are_distinct (names (completed env.tags number members) number))
    then Some (plain (tagged kind number), record env { tags = completed env.tags number members }) else None)
unfolding close_tag
close_is kind number members env =
    tested (not (has_members (slice_get env.tags number))) (is_complete (completed env.tags number members) (tagged kind number))
    (are_distinct (names (completed env.tags number members) number)) (plain (tagged kind number))
    (λ e. record e { tags = completed e.tags number members }) env

may_by : (kind : TagKind) (number : ℕ) (tags : List Tag) (members : List Member) (d : Bool) → d ≡ true
    → (not (has_members (slice_get (map tag_seen tags) number))
    && (is_complete (completed (map tag_seen tags) number (map member_seen members)) (tagged kind number) && d))
    ≡ may_complete tags number members
may_by kind number tags members d e =
    ap (λ b. not (has_members (slice_get (map tag_seen tags) number))
    && (is_complete (completed (map tag_seen tags) number (map member_seen members)) (tagged kind number) && b)) e
    ∙ ap (λ b. not (has_members (slice_get (map tag_seen tags) number)) && b)
    (and_true (is_complete (completed (map tag_seen tags) number (map member_seen members)) (tagged kind number)))
    ∙ ap (λ b. not (has_members (slice_get (map tag_seen tags) number)) && b)
    (ap (λ ts. is_complete ts (tagged kind number)) (completed_seen tags number members) ∙ complete_tagged (below.completed tags number members) kind number)
  where
    and_true : (b : Bool) → (b && true) ≡ b
    and_true true = refl
    and_true false = refl

closed_by : (kind : TagKind) (number : ℕ) (tags : List Tag) (members : List Member) (env : Env) (b : Bool) → map tag_seen tags ≡ env.tags
    → are_distinct (names (completed (map tag_seen tags) number (map member_seen members)) number) ≡ true → may_complete tags number members ≡ b
    → close_tag kind number (map member_seen members) env
    ≡ (if b then Some (plain (tagged kind number), record env { tags = map tag_seen (below.completed tags number members) }) else None)
closed_by kind number tags members env b is apart may =
    close_is kind number (map member_seen members) env
    ∙ ap (λ ts. if not (has_members (slice_get ts number)) && (is_complete (completed ts number (map member_seen members)) (tagged kind number)
    && are_distinct (names (completed ts number (map member_seen members)) number))
    then Some (plain (tagged kind number), record env { tags = completed ts number (map member_seen members) }) else None) (sym is)
    ∙ ap (λ t. if t then Some (plain (tagged kind number), record env { tags = completed (map tag_seen tags) number (map member_seen members) }) else None)
    (may_by kind number tags members (are_distinct (names (completed (map tag_seen tags) number (map member_seen members)) number)) apart ∙ may)
    ∙ ap (λ ts. if b then Some (plain (tagged kind number), record env { tags = ts }) else None) (completed_seen tags number members)

pub closed : (kind : TagKind) (number : ℕ) (tags : List Tag) (members : List Member) (env : Env) → map tag_seen tags ≡ env.tags
    → are_distinct (names (completed (map tag_seen tags) number (map member_seen members)) number) ≡ true → may_complete tags number members ≡ true
    → close_tag kind number (map member_seen members) env
    ≡ Some (plain (tagged kind number), record env { tags = map tag_seen (below.completed tags number members) })
closed kind number tags members env is apart may = closed_by kind number tags members env true is apart may

not_may : {A : Type 0} (a b d : Bool) (q : A) → (a && b) ≡ false → (if a && (b && d) then Some q else None) ≡ None
not_may true true d q e = absurd (true≢false e)
not_may true false d q e = refl
not_may false b d q e = refl

pub not_closed : (kind : TagKind) (number : ℕ) (tags : List Tag) (members : List Member) (env : Env) → map tag_seen tags ≡ env.tags
    → may_complete tags number members ≡ false → close_tag kind number (map member_seen members) env ≡ None
not_closed kind number tags members env is may =
    let ms = map member_seen members in
    close_is kind number ms env
    ∙ not_may (not (has_members (slice_get env.tags number))) (is_complete (completed env.tags number ms) (tagged kind number))
    (are_distinct (names (completed env.tags number ms) number)) (plain (tagged kind number), record env { tags = completed env.tags number ms })
    (ap (λ ts. not (has_members (slice_get ts number)) && is_complete (completed ts number ms) (tagged kind number)) (sym is)
    ∙ ap (λ b. not (has_members (slice_get (map tag_seen tags) number)) && b)
    (ap (λ ts. is_complete ts (tagged kind number)) (completed_seen tags number members) ∙ complete_tagged (below.completed tags number members) kind number)
    ∙ may)

both_true : (a b : Bool) → (not a && b) ≡ true → (a ≡ false) × (b ≡ true)
both_true true b e = absurd (true≢false (sym e))
both_true false b e = (refl, e)

-- one that may be completed has no members, and is complete with these
pub may_parts : (tags : List Tag) (number : ℕ) (members : List Member) → may_complete tags number members ≡ true
    → (has_members (slice_get (map tag_seen tags) number) ≡ false)
    × (is_some (extents (completed (map tag_seen tags) number (map member_seen members)) number) ≡ true)
may_parts tags number members may =
    let p = both_true (has_members (slice_get (map tag_seen tags) number)) (is_some (below.extents (below.completed tags number members) number)) may in (
      p.0,
      ap is_some (ap (λ ts. extents ts number) (completed_seen tags number members) ∙ extents_same (below.completed tags number members) number) ∙ p.1,
    )

-- 4. When a structure or union may be completed.

may_be : (tags : List Tag) (tag : ℕ) (members : List Member) (a b : Bool) → has_members (slice_get (map tag_seen tags) tag) ≡ a
    → is_some (below.extents (below.completed tags tag members) tag) ≡ b → may_complete tags tag members ≡ (not a && b)
may_be tags tag members a b e is =
    ap (λ x. not x && is_some (below.extents (below.completed tags tag members) tag)) e ∙ ap (λ y. not a && y) is

and_false : (b : Bool) → (b && false) ≡ false
and_false true = refl
and_false false = refl

pub has_them : (tags : List Tag) (tag : ℕ) (members : List Member) (complete : Bool) → IsSettled tags → complete ≡ is_some (below.extents tags tag)
    → complete ≡ true → may_complete tags tag members ≡ false
has_them tags tag members complete settled e is =
    may_be tags tag members true (is_some (below.extents (below.completed tags tag members) tag))
    (sym (members_are tags tag settled) ∙ sym e ∙ is) refl

pub is_out : (tags : List Tag) (tag : ℕ) (members : List Member) → length tags ≤ tag → may_complete tags tag members ≡ false
is_out tags tag members out =
    may_be tags tag members (has_members (slice_get (map tag_seen tags) tag)) false refl (completed_out tags tag members (slice_get_none tags tag out))
    ∙ and_false (not (has_members (slice_get (map tag_seen tags) tag)))

pub may_or_not : (tags : List Tag) (tag : ℕ) (members : List Member) (complete done : Bool) → IsSettled tags → complete ≡ is_some (below.extents tags tag)
    → complete ≡ false → done ≡ is_some (below.extents (below.completed tags tag members) tag) → may_complete tags tag members ≡ done
may_or_not tags tag members complete done settled e is so =
    may_be tags tag members false done (sym (members_are tags tag settled) ∙ sym e ∙ is) (sym so)
