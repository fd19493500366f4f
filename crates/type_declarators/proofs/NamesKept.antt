-- The names in a structure or union stay when further tags are declared and completed.
use Rattle.std.proofs.Common.{◌≡◌, ◌≢◌, ℕ, zero, suc, ◌+◌, ◌≤◌, Bool, true, false, List, [], ◌∷◌, ◌++◌, length, map, refl, sym, ap, ◌∙◌, true≢false, arith}
use Rattle.std.specs.Prelude.{is_some, slice_get, Option, Some, None}
use Rattle.std.proofs.lemmas.List.{map-append}
use Rattle.c_types.specs.Types.{CType, void, int, enumeration, pointer, array, struct, union, function}
use Rattle.c_types.specs.declared.tags.TagKind.{TagKind}
use Rattle.c_types.specs.declared.tags.Extent.{Extent}
use Rattle.c_types.specs.Layout.{Known, extent, placed, and_then, padded, no_members, number_in}
use Rattle.layout.specs.Names.{Named, if_named, also_const, farther}
use Rattle.layout.specs.Names as layout
use Rattle.typing_env.specs.Seen.{SeenMember, SeenTag}
use Rattle.typing_words.specs.Tags.{members_extent, if_any, extent_of_tag, known_by, extents, completed, members_in, inside}
use Rattle.typing_words.specs.Tags.{offset_in, itself, brought, member_names, tag_names, names_by}
use Rattle.typing_words.specs.Words.{has_members}
use Rattle.type_declarators.specs.MemberNames.{names_in, own_or, brought_by, all_brought, Keeps}

-- 1. Names alone.

farther_texts : (by : ℕ) (ns : List Named) → map (λ n. n.name) (map (farther by) ns) ≡ map (λ n. n.name) ns
farther_texts by [] = refl
farther_texts by (n ∷ ns) = ap (λ xs. n.name ∷ xs) (farther_texts by ns)

const_texts : (c : Bool) (ns : List Named) → map (λ n. n.name) (map (also_const c) ns) ≡ map (λ n. n.name) ns
const_texts c [] = refl
const_texts c (n ∷ ns) = ap (λ xs. n.name ∷ xs) (const_texts c ns)

inside_texts : (of_tag : ℕ → List Named) (t : CType)
    → map (λ n. n.name) (layout.inside of_tag t) ≡ inside [] (λ tag. map (λ n. n.name) (of_tag tag)) t
inside_texts of_tag void = refl
inside_texts of_tag (int kind) = refl
inside_texts of_tag (enumeration tag) = refl
inside_texts of_tag (pointer c t) = refl
inside_texts of_tag (array c t n) = refl
inside_texts of_tag (struct tag) = refl
inside_texts of_tag (union tag) = refl
inside_texts of_tag (function r ps v) = refl

if_texts : (name text : List ℕ) (m : SeenMember) (inner : List Named) → m.name ≡ text → text ≡ name
    → map (λ n. n.name) (if_named text (itself m ∷ []) inner) ≡ own_or text (map (λ n. n.name) inner)
if_texts name [] m inner e is = refl
if_texts name (c ∷ cs) m inner e is = ap (λ x. x ∷ []) e

brought_texts : (of_tag : ℕ → List Named) (m : SeenMember)
    → map (λ n. n.name) (brought of_tag m) ≡ brought_by (λ tag. map (λ n. n.name) (of_tag tag)) m
brought_texts of_tag m =
    if_texts m.name m.name m (map (also_const (m.qual).constant) (layout.inside of_tag (m.qual).ty)) refl refl
    ∙ ap (own_or m.name) (const_texts (m.qual).constant (layout.inside of_tag (m.qual).ty) ∙ inside_texts of_tag (m.qual).ty)

pub member_texts : (of_tag : ℕ → List Named) (tags : List SeenTag) (tag i : ℕ) (ms : List SeenMember)
    → map (λ n. n.name) (member_names of_tag tags tag i ms) ≡ all_brought (λ k. map (λ n. n.name) (of_tag k)) ms
member_texts of_tag tags tag i [] = refl
member_texts of_tag tags tag i (m ∷ ms) =
    let by = number_in (offset_in (extents tags) (slice_get tags tag) i) in
    map-append (λ (n : Named). n.name) (map (farther by) (brought of_tag m)) (member_names of_tag tags tag (i + 1) ms)
    ∙ ap (λ xs. xs ++ map (λ n. n.name) (member_names of_tag tags tag (i + 1) ms)) (farther_texts by (brought of_tag m) ∙ brought_texts of_tag m)
    ∙ ap (λ xs. brought_by (λ k. map (λ n. n.name) (of_tag k)) m ++ xs) (member_texts of_tag tags tag (i + 1) ms)

-- the names with fewer than so many tags one inside the other
abbrev texts_by : ℕ → List SeenTag → ℕ → List (List ℕ)
texts_by n tags tag = map (λ x. x.name) (names_by n tags tag)

tag_texts : (of_tag : ℕ → List Named) (tags : List SeenTag) (tag : ℕ) (o : Option SeenTag)
    → map (λ n. n.name) (tag_names of_tag tags tag o) ≡ all_brought (λ k. map (λ n. n.name) (of_tag k)) (members_in o)
tag_texts of_tag tags tag None = refl
tag_texts of_tag tags tag (Some t) = member_texts of_tag tags tag 0 t.members

texts_step : (n : ℕ) (tags : List SeenTag) (tag : ℕ) → texts_by (suc n) tags tag ≡ all_brought (texts_by n tags) (members_in (slice_get tags tag))
texts_step n tags tag = tag_texts (names_by n tags) tags tag (slice_get tags tag)

-- 2. Members of a structure or union that has an extent.

abbrev pub AllKnown : Known → List SeenMember → Type 0
AllKnown known [] = Unit {0}
AllKnown known (m ∷ ms) = (is_some (extent known (m.qual).ty) ≡ true) × AllKnown known ms

then_some : (o : Option Extent) (f : Extent → Option Extent) → is_some (and_then o f) ≡ true → is_some o ≡ true
then_some None f e = e
then_some (Some d) f e = refl

some_before : (kind : TagKind) (known : Known) (before : Option Extent) (ms : List SeenMember) → is_some (members_extent kind known before ms) ≡ true
    → is_some before ≡ true
some_before kind known before [] e = e
some_before kind known before (m ∷ ms) e =
    then_some before (λ b. placed kind b (extent known (m.qual).ty))
    (some_before kind known (and_then before (λ b. placed kind b (extent known (m.qual).ty))) ms e)

placed_some : (kind : TagKind) (before known : Option Extent) → is_some (and_then before (λ b. placed kind b known)) ≡ true → is_some known ≡ true
placed_some kind None known e = absurd (true≢false (sym e))
placed_some kind (Some b) None e = e
placed_some kind (Some b) (Some d) e = refl

all_known : (kind : TagKind) (known : Known) (before : Option Extent) (ms : List SeenMember) → is_some (members_extent kind known before ms) ≡ true
    → AllKnown known ms
all_known kind known before [] e = tt
all_known kind known before (m ∷ ms) e = (
  placed_some kind before (extent known (m.qual).ty)
      (some_before kind known (and_then before (λ b. placed kind b (extent known (m.qual).ty))) ms e),
  all_known kind known (and_then before (λ b. placed kind b (extent known (m.qual).ty))) ms e,
)

any_some : (ms : List SeenMember) (o : Option Extent) → is_some (if_any ms o) ≡ true → is_some o ≡ true
any_some [] o e = absurd (true≢false (sym e))
any_some (m ∷ ms) o e = e

pub of_tag_known : (known : Known) (o : Option SeenTag) → is_some (extent_of_tag known o) ≡ true → AllKnown known (members_in o)
of_tag_known known None e = tt
of_tag_known known (Some t) e =
    all_known t.kind known (Some no_members) t.members
    (then_some (members_extent t.kind known (Some no_members) t.members) padded
    (any_some t.members (and_then (members_extent t.kind known (Some no_members) t.members) padded) e))

any_members : (t : SeenTag) (ms : List SeenMember) (o : Option Extent) → t.members ≡ ms → is_some (if_any ms o) ≡ true → has_members (Some t) ≡ true
any_members t [] o is e = absurd (true≢false (sym e))
any_members t (m ∷ ms) o is e = ap (λ xs. has_members (Some (record t { members = xs }))) is

members_of_known : (known : Known) (o : Option SeenTag) → is_some (extent_of_tag known o) ≡ true → has_members o ≡ true
members_of_known known None e = e
members_of_known known (Some t) e =
    any_members t t.members (and_then (members_extent t.kind known (Some no_members) t.members) padded) refl e

pub known_members : (n : ℕ) (tags : List SeenTag) (tag : ℕ) → is_some (known_by n tags tag) ≡ true → has_members (slice_get tags tag) ≡ true
known_members zero tags tag e = absurd (true≢false (sym e))
known_members (suc n) tags tag e = members_of_known (known_by n tags) (slice_get tags tag) e

-- 3. Names stay.

inside_same : (f g : ℕ → List (List ℕ)) (known : Known) (t : CType) → ((tag : ℕ) → is_some (known tag) ≡ true → f tag ≡ g tag)
    → is_some (extent known t) ≡ true → inside [] f t ≡ inside [] g t
inside_same f g known void same e = refl
inside_same f g known (int kind) same e = refl
inside_same f g known (enumeration tag) same e = refl
inside_same f g known (pointer c t) same e = refl
inside_same f g known (array c t n) same e = refl
inside_same f g known (struct tag) same e = same tag e
inside_same f g known (union tag) same e = same tag e
inside_same f g known (function r ps v) same e = refl

all_same : (f g : ℕ → List (List ℕ)) (known : Known) (ms : List SeenMember) → ((tag : ℕ) → is_some (known tag) ≡ true → f tag ≡ g tag)
    → AllKnown known ms → all_brought f ms ≡ all_brought g ms
all_same f g known [] same all = refl
all_same f g known (m ∷ ms) same all =
    ap (λ xs. own_or m.name xs ++ all_brought f ms) (inside_same f g known (m.qual).ty same all.0)
    ∙ ap (λ xs. brought_by g m ++ xs) (all_same f g known ms same all.1)

texts_stay : (n m : ℕ) (tags now : List SeenTag) → ((tag : ℕ) → has_members (slice_get tags tag) ≡ true → slice_get now tag ≡ slice_get tags tag)
    → n ≤ m → (tag : ℕ) → is_some (known_by n tags tag) ≡ true → texts_by m now tag ≡ texts_by n tags tag
texts_stay zero m tags now keeps le tag e = absurd (true≢false (sym e))
texts_stay (suc n) zero tags now keeps le tag e = absurd (omega arith)
texts_stay (suc n) (suc m) tags now keeps le tag e =
    texts_step m now tag
    ∙ ap (λ o. all_brought (texts_by m now) (members_in o)) (keeps tag (known_members (suc n) tags tag e))
    ∙ all_same (texts_by m now) (texts_by n tags) (known_by n tags) (members_in (slice_get tags tag))
    (λ k known. texts_stay n m tags now keeps (omega arith) k known) (of_tag_known (known_by n tags) (slice_get tags tag) e)
    ∙ sym (texts_step n tags tag)

-- of a structure or union that is complete
pub names_stay : (tags now : List SeenTag) → Keeps tags now → (tag : ℕ) → is_some (extents tags tag) ≡ true → names_in now tag ≡ names_in tags tag
names_stay tags now keeps tag e = texts_stay (length tags) (length now) tags now keeps.1 keeps.0 tag e

-- 4. A structure or union that gets its members.

pub length_completed : (tags : List SeenTag) (tag : ℕ) (ms : List SeenMember) → length (completed tags tag ms) ≡ length tags
length_completed [] tag ms = refl
length_completed (t ∷ ts) zero ms = refl
length_completed (t ∷ ts) (suc tag) ms = ap suc (length_completed ts tag ms)

pub completed_other : (tags : List SeenTag) (tag : ℕ) (ms : List SeenMember) (k : ℕ) → k ≢ tag → slice_get (completed tags tag ms) k ≡ slice_get tags k
completed_other [] tag ms k other = refl
completed_other (t ∷ ts) zero ms zero other = absurd (other refl)
completed_other (t ∷ ts) zero ms (suc k) other = refl
completed_other (t ∷ ts) (suc tag) ms zero other = refl
completed_other (t ∷ ts) (suc tag) ms (suc k) other = completed_other ts tag ms k (λ e. other (ap suc e))

pub completed_keeps : (tags : List SeenTag) (tag : ℕ) (ms : List SeenMember) → has_members (slice_get tags tag) ≡ false → Keeps tags (completed tags tag ms)
completed_keeps tags tag ms none = (
  (let e = length_completed tags tag ms in omega (arith, e)),
  λ k some. completed_other tags tag ms k
      (λ e. true≢false (sym some ∙ ap (λ x. has_members (slice_get tags x)) e ∙ none)),
)

pub completed_members : (tags : List SeenTag) (tag : ℕ) (ms : List SeenMember) → is_some (slice_get tags tag) ≡ true
    → members_in (slice_get (completed tags tag ms) tag) ≡ ms
completed_members [] tag ms e = absurd (true≢false (sym e))
completed_members (t ∷ ts) zero ms e = refl
completed_members (t ∷ ts) (suc tag) ms e = completed_members ts tag ms e

pub completed_there : (tags : List SeenTag) (tag : ℕ) (ms : List SeenMember) → is_some (slice_get (completed tags tag ms) tag) ≡ true
    → is_some (slice_get tags tag) ≡ true
completed_there [] tag ms e = e
completed_there (t ∷ ts) zero ms e = refl
completed_there (t ∷ ts) (suc tag) ms e = completed_there ts tag ms e

extent_there : (known : Known) (o : Option SeenTag) → is_some (extent_of_tag known o) ≡ true → is_some o ≡ true
extent_there known None e = e
extent_there known (Some t) e = refl

names_step : (l : ℕ) (tags : List SeenTag) (tag : ℕ) → is_some (known_by l tags tag) ≡ true
    → texts_by l tags tag ≡ all_brought (texts_by l tags) (members_in (slice_get tags tag))
names_step zero tags tag e = absurd (true≢false (sym e))
names_step (suc n) tags tag e =
    texts_step n tags tag
    ∙ sym (all_same (texts_by (suc n) tags) (texts_by n tags) (known_by n tags) (members_in (slice_get tags tag))
    (λ k known. texts_stay n (suc n) tags tags (λ j has. refl) (omega arith) k known) (of_tag_known (known_by n tags) (slice_get tags tag) e))

pub known_there : (l : ℕ) (tags : List SeenTag) (tag : ℕ) → is_some (known_by l tags tag) ≡ true → is_some (slice_get tags tag) ≡ true
known_there zero tags tag e = absurd (true≢false (sym e))
known_there (suc n) tags tag e = extent_there (known_by n tags) (slice_get tags tag) e

-- .. brings the names of these members, where it is complete with them
pub names_completed : (tags : List SeenTag) (tag : ℕ) (ms : List SeenMember) → is_some (extents (completed tags tag ms) tag) ≡ true
    → names_in (completed tags tag ms) tag ≡ all_brought (names_in (completed tags tag ms)) ms
names_completed tags tag ms e =
    let now = completed tags tag ms in
    names_step (length now) now tag e
    ∙ ap (all_brought (names_in now)) (completed_members tags tag ms (completed_there tags tag ms (known_there (length now) now tag e)))
