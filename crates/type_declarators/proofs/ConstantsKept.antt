-- Which structures and unions have a const member, as further tags are declared and completed.
use Rattle.std.proofs.Common.{◌≡◌, ◌≢◌, ℕ, zero, suc, ◌+◌, ◌≤◌, Bool, true, false, List}
use Rattle.std.proofs.Common.{[], ◌∷◌, ◌++◌, length, map, refl, sym, ap, ◌∙◌, subst, true≢false, arith}
use Rattle.std.specs.Prelude.{◌||◌, is_some, slice_get, Option, Some, None, Result, Ok, Err, OnOk}
use Rattle.std.proofs.lemmas.Option.{none-some, same_Some}
use Rattle.c_lex.specs.TokenText.{TokenText}
use Rattle.c_types.specs.Types.{CType, void, int, enumeration, pointer, array, struct, union, function}
use Rattle.c_types.specs.declared.tags.Extent.{Extent}
use Rattle.c_types.specs.Layout.{Known, extent, repeated}
use Rattle.typing_env.specs.Seen.{SeenMember, SeenTag, member_seen, tag_seen}
use Rattle.typing_words.specs.Tags.{known_by, extents, completed, members_in, has_const, some_const, const_by, constants}
use Rattle.typing_words.specs.Words.{has_members}
use Rattle.type_scope.specs.Tagged.{constant_in, has_constant}
use Rattle.type_scope.specs.declared.rows.TagRow.{TagRow}
use Rattle.type_scope.specs.declared.state.State.{State}
use Rattle.type_declarators.specs.MemberNames.{Keeps, IsWhole, HasSymbols}
use Rattle.type_declarators.specs.ConstantMembers.{TellsAmong, TellsIn, HasConstant, HasConstants}
use Rattle.type_declarators.specs.declared.tag.MemberList.{MemberList}
use Rattle.type_declarators.proofs.NamesKept.{AllKnown, of_tag_known, known_members, completed_keeps, completed_other, completed_members, completed_there}
use Rattle.type_declarators.proofs.NamesKept.{known_there, length_completed}
use Rattle.type_declarators.proofs.NamesNoted.{keeps_both, keeps_itself, by_tag, slice_get_more, get_before, length_more}

-- 1. A type that has an extent.

count_known : (known : Known) (c : Bool) (t : CType) (n : Option ℕ) → is_some (extent known (array c t n)) ≡ true → is_some (extent known t) ≡ true
count_known known c t None e = absurd (true≢false (sym e))
count_known known c t (Some n) e = repeated_some n (extent known t) e
  where
    repeated_some : (n : ℕ) (o : Option Extent) → is_some (repeated n o) ≡ true → is_some o ≡ true
    repeated_some n None e = e
    repeated_some n (Some d) e = refl

const_same : (f g : ℕ → Bool) (known : Known) (t : CType) → ((tag : ℕ) → is_some (known tag) ≡ true → f tag ≡ g tag) → is_some (extent known t) ≡ true
    → has_const f t ≡ has_const g t
const_same f g known void same e = refl
const_same f g known (int kind) same e = refl
const_same f g known (enumeration tag) same e = refl
const_same f g known (pointer c t) same e = refl
const_same f g known (array c t n) same e = ap (λ b. c || b) (const_same f g known t same (count_known known c t n e))
const_same f g known (struct tag) same e = same tag e
const_same f g known (union tag) same e = same tag e
const_same f g known (function r ps v) same e = refl

some_same : (f g : ℕ → Bool) (known : Known) (ms : List SeenMember) → ((tag : ℕ) → is_some (known tag) ≡ true → f tag ≡ g tag) → AllKnown known ms
    → some_const f ms ≡ some_const g ms
some_same f g known [] same all = refl
some_same f g known (m ∷ ms) same all =
    ap (λ b. (m.qual).constant || (b || some_const f ms)) (const_same f g known (m.qual).ty same all.0)
    ∙ ap (λ b. (m.qual).constant || (has_const g (m.qual).ty || b)) (some_same f g known ms same all.1)

-- 2. It stays.

const_stays : (n m : ℕ) (tags now : List SeenTag) → ((tag : ℕ) → has_members (slice_get tags tag) ≡ true → slice_get now tag ≡ slice_get tags tag)
    → n ≤ m → (tag : ℕ) → is_some (known_by n tags tag) ≡ true → const_by m now tag ≡ const_by n tags tag
const_stays zero m tags now keeps le tag e = absurd (true≢false (sym e))
const_stays (suc n) zero tags now keeps le tag e = absurd (omega arith)
const_stays (suc n) (suc m) tags now keeps le tag e =
    ap (λ o. some_const (const_by m now) (members_in o)) (keeps tag (known_members (suc n) tags tag e))
    ∙ some_same (const_by m now) (const_by n tags) (known_by n tags) (members_in (slice_get tags tag))
    (λ k known. const_stays n m tags now keeps (omega arith) k known) (of_tag_known (known_by n tags) (slice_get tags tag) e)

-- of a structure or union that is complete
constants_stay : (tags now : List SeenTag) → Keeps tags now → (tag : ℕ) → is_some (extents tags tag) ≡ true → constants now tag ≡ constants tags tag
constants_stay tags now keeps tag e = const_stays (length tags) (length now) tags now keeps.1 keeps.0 tag e

const_step : (l : ℕ) (tags : List SeenTag) (tag : ℕ) → is_some (known_by l tags tag) ≡ true
    → const_by l tags tag ≡ some_const (const_by l tags) (members_in (slice_get tags tag))
const_step zero tags tag e = absurd (true≢false (sym e))
const_step (suc n) tags tag e =
    sym (some_same (const_by (suc n) tags) (const_by n tags) (known_by n tags) (members_in (slice_get tags tag))
    (λ k known. const_stays n (suc n) tags tags (λ j has. refl) (omega arith) k known) (of_tag_known (known_by n tags) (slice_get tags tag) e))

-- of one that gets these members, where it is complete with them
constants_completed : (tags : List SeenTag) (tag : ℕ) (ms : List SeenMember) → is_some (extents (completed tags tag ms) tag) ≡ true
    → constants (completed tags tag ms) tag ≡ some_const (constants (completed tags tag ms)) ms
constants_completed tags tag ms e =
    let now = completed tags tag ms in
    const_step (length now) now tag e
    ∙ ap (some_const (constants now)) (completed_members tags tag ms (completed_there tags tag ms (known_there (length now) now tag e)))

-- 3. One without members has none.

any_none : (o : Option SeenTag) → has_members o ≡ false → members_in o ≡ []
any_none None e = refl
any_none (Some t) e = of_list t.members t refl e
  where
    of_list : (ms : List SeenMember) (t : SeenTag) → t.members ≡ ms → has_members (Some t) ≡ false → t.members ≡ []
    of_list [] t is e = is
    of_list (m ∷ ms) t is e = absurd (true≢false (sym (ap (λ xs. has_members (Some (record t { members = xs }))) is) ∙ e))

const_none : (n : ℕ) (tags : List SeenTag) (tag : ℕ) → has_members (slice_get tags tag) ≡ false → const_by n tags tag ≡ false
const_none zero tags tag e = refl
const_none (suc n) tags tag e = ap (some_const (const_by n tags)) (any_none (slice_get tags tag) e)

told_by : (s : State) (tag : ℕ) (b : Bool) → has_members (slice_get (map tag_seen s.tags) tag) ≡ b → HasConstants s
    → has_constant s tag ≡ constants (map tag_seen s.tags) tag
told_by s tag true e has = has.noted tag e (map tag_seen s.tags) (keeps_itself (map tag_seen s.tags))
told_by s tag false e has = has.none tag e ∙ sym (const_none (length (map tag_seen s.tags)) (map tag_seen s.tags) tag e)

pub told : (s : State) → HasConstants s → (tag : ℕ) → has_constant s tag ≡ constants (map tag_seen s.tags) tag
told s has tag = told_by s tag (has_members (slice_get (map tag_seen s.tags) tag)) refl has

-- 4. A member more.

or_assoc : (a b c : Bool) → (a || (b || c)) ≡ ((a || b) || c)
or_assoc true b c = refl
or_assoc false b c = refl

or_nothing : (a : Bool) → (a || false) ≡ a
or_nothing true = refl
or_nothing false = refl

some_more : (f : ℕ → Bool) (ms : List SeenMember) (m : SeenMember)
    → some_const f (ms ++ m ∷ []) ≡ (some_const f ms || ((m.qual).constant || has_const f (m.qual).ty))
some_more f [] m = ap (λ b. (m.qual).constant || b) (or_nothing (has_const f (m.qual).ty))
some_more f (x ∷ ms) m =
    ap (λ b. (x.qual).constant || (has_const f (x.qual).ty || b)) (some_more f ms m)
    ∙ ap (λ b. (x.qual).constant || b) (or_assoc (has_const f (x.qual).ty) (some_const f ms) ((m.qual).constant || has_const f (m.qual).ty))
    ∙ or_assoc (x.qual).constant (has_const f (x.qual).ty || some_const f ms) ((m.qual).constant || has_const f (m.qual).ty)

-- what is noted of a complete type is so
type_told : (s : State) (t : CType) (now : List SeenTag) → HasConstants s → Keeps (map tag_seen s.tags) now
    → is_some (extent (extents (map tag_seen s.tags)) t) ≡ true → has_const (has_constant s) t ≡ has_const (constants now) t
type_told s t now has keeps e =
    let tags = map tag_seen s.tags in
    const_same (has_constant s) (constants now) (extents tags) t
    (λ tag known. has.noted tag (known_members (length tags) tags tag known) now keeps) e

pub has_more_constant : (s : State) (list middle after : MemberList) (m : SeenMember) (flag : Bool) → HasConstants s
    → is_some (extent (extents (map tag_seen s.tags)) (m.qual).ty) ≡ true → HasConstant (map tag_seen s.tags) list
    → middle.constant ≡ list.constant → after.constant ≡ (middle.constant || flag)
    → flag ≡ ((m.qual).constant || has_const (has_constant s) (m.qual).ty)
    → map member_seen after.members ≡ map member_seen list.members ++ m ∷ [] → HasConstant (map tag_seen s.tags) after
has_more_constant s list middle after m flag noted whole has same more is added now keeps =
    more
    ∙ ap (λ b. b || flag) (same ∙ has now keeps)
    ∙ ap (λ b. some_const (constants now) (map member_seen list.members) || b)
    (is ∙ ap (λ b. (m.qual).constant || b) (type_told s (m.qual).ty now noted keeps whole))
    ∙ sym (some_more (constants now) (map member_seen list.members) m)
    ∙ sym (ap (some_const (constants now)) added)

-- an unnamed structure or union that is complete
whole_tag : (tags : List SeenTag) (number tag : ℕ) → tag ≡ number → is_some (extents tags number) ≡ true → is_some (extents tags tag) ≡ true
whole_tag tags number tag e whole = ap (λ k. is_some (extents tags k)) e ∙ whole

pub whole_extent : (tags : List SeenTag) (t : CType) → IsWhole tags t → is_some (extent (extents tags) t) ≡ true
whole_extent tags (struct tag) whole = whole_tag tags whole.0 tag (same_Some tag whole.0 whole.1) whole.2
whole_extent tags (union tag) whole = whole_tag tags whole.0 tag (same_Some tag whole.0 whole.1) whole.2
whole_extent tags void whole = absurd (none-some whole.0 whole.1)
whole_extent tags (int kind) whole = absurd (none-some whole.0 whole.1)
whole_extent tags (enumeration tag) whole = absurd (none-some whole.0 whole.1)
whole_extent tags (pointer c t) whole = absurd (none-some whole.0 whole.1)
whole_extent tags (array c t n) whole = absurd (none-some whole.0 whole.1)
whole_extent tags (function r ps v) whole = absurd (none-some whole.0 whole.1)

-- 5. One that is completed, and one that is new.

told_later : (tags now : List SeenTag) (tag : ℕ) (flag : Bool) → Keeps tags now → TellsIn tags tag flag → TellsIn now tag flag
told_later tags now tag flag keeps told later more = told later (keeps_both tags now later keeps more)

completed_told : (tags : List SeenTag) (number : ℕ) (ms : List SeenMember) (flag : Bool) → TellsAmong tags ms flag
    → has_members (slice_get tags number) ≡ false → is_some (extents (completed tags number ms) number) ≡ true
    → TellsIn (completed tags number ms) number flag
completed_told tags number ms flag told none whole later keeps =
    let now = completed tags number ms in
    told now (completed_keeps tags number ms none)
    ∙ sym (constants_completed tags number ms whole)
    ∙ sym (constants_stay now later keeps number whole)

pub closed_constants : (s now : State) (number : ℕ) (ms : List SeenMember) (flag : Bool)
    → map tag_seen now.tags ≡ completed (map tag_seen s.tags) number ms → TellsAmong (map tag_seen s.tags) ms flag
    → has_members (slice_get (map tag_seen s.tags) number) ≡ false → is_some (extents (completed (map tag_seen s.tags) number ms) number) ≡ true
    → length (now.tag_rows).items ≡ length (s.tag_rows).items → has_constant now number ≡ flag
    → ((k : ℕ) → k ≢ number → slice_get (now.tag_rows).items k ≡ slice_get (s.tag_rows).items k) → HasConstants s → HasConstants now
closed_constants s now number ms flag is told none whole count here others has =
    let tags = map tag_seen s.tags in
    let done = completed tags number ms in
    record {
      rows = count ∙ has.rows ∙ sym (length_completed tags number ms) ∙ sym (ap length is);
      noted = subst (λ (ts : List SeenTag). (k : ℕ) → has_members (slice_get ts k) ≡ true → TellsIn ts k (has_constant now k)) (sym is)
          (by_tag (λ k. has_members (slice_get done k) ≡ true → TellsIn done k (has_constant now k)) number
          (λ some. subst (λ b. TellsIn done number b) (sym here) (completed_told tags number ms flag told none whole))
          (λ k other some.
          subst (λ b. TellsIn done k b) (sym (ap constant_in (others k other)))
          (told_later tags done k (has_constant s k) (completed_keeps tags number ms none)
          (has.noted k (sym (ap has_members (completed_other tags number ms k other)) ∙ some)))));
      none = subst (λ (ts : List SeenTag). (k : ℕ) → has_members (slice_get ts k) ≡ false → has_constant now k ≡ false) (sym is)
          (by_tag (λ k. has_members (slice_get done k) ≡ false → has_constant now k ≡ false) number
          (λ empty. absurd (true≢false (sym (known_members (length done) done number whole) ∙ empty)))
          (λ k other empty.
          ap constant_in (others k other) ∙ has.none k (sym (ap has_members (completed_other tags number ms k other)) ∙ empty)));
    }

row_more : (rows : List TagRow) (row : TagRow) (k : ℕ) → row.constant ≡ false → constant_in (slice_get (rows ++ row ∷ []) k) ≡ constant_in (slice_get rows k)
row_more [] row zero clear = clear
row_more [] row (suc k) clear = refl
row_more (r ∷ rows) row zero clear = refl
row_more (r ∷ rows) row (suc k) clear = row_more rows row k clear

none_before : (ts : List SeenTag) (x : SeenTag) (k : ℕ) → has_members (slice_get (ts ++ x ∷ []) k) ≡ false → has_members (slice_get ts k) ≡ false
none_before [] x k e = refl
none_before (t ∷ ts) x zero e = e
none_before (t ∷ ts) x (suc k) e = none_before ts x k e

more_constants : (s now : State) (x : SeenTag) (row : TagRow) → x.members ≡ [] → row.constant ≡ false
    → map tag_seen now.tags ≡ map tag_seen s.tags ++ x ∷ [] → (now.tag_rows).items ≡ (s.tag_rows).items ++ row ∷ [] → HasConstants s → HasConstants now
more_constants s now x row none clear is rows has =
    let tags = map tag_seen s.tags in
    let more = tags ++ x ∷ [] in
    let keeps : Keeps tags more = ((let e = length_more tags x in omega (arith, e)), λ k some. get_before tags x k some) in
    let same : (k : ℕ) → has_constant now k ≡ has_constant s k =
    λ k. ap (λ (rs : List TagRow). constant_in (slice_get rs k)) rows ∙ row_more (s.tag_rows).items row k clear in
    record {
      rows = ap length rows ∙ length_more (s.tag_rows).items row ∙ ap (λ n. n + 1) has.rows ∙ sym (length_more tags x) ∙ sym (ap length is);
      noted = subst (λ (ts : List SeenTag). (k : ℕ) → has_members (slice_get ts k) ≡ true → TellsIn ts k (has_constant now k)) (sym is)
          (λ k some.
          let p = slice_get_more tags x k none some in
          subst (λ b. TellsIn more k b) (sym (same k))
          (told_later tags more k (has_constant s k) keeps (has.noted k (sym (ap has_members p.0) ∙ some))));
      none = subst (λ (ts : List SeenTag). (k : ℕ) → has_members (slice_get ts k) ≡ false → has_constant now k ≡ false) (sym is)
          (λ k empty. same k ∙ has.none k (none_before tags x k empty));
    }

pub new_constants : {E : Type 0} (r : Result ℕ E) (s now : State) (x : SeenTag) → x.members ≡ []
    → OnOk r ((row : TagRow) × (row.constant ≡ false) × ((now.tag_rows).items ≡ (s.tag_rows).items ++ row ∷ []))
    → OnOk r (map tag_seen now.tags ≡ map tag_seen s.tags ++ x ∷ []) → OnOk r (HasConstants s → HasConstants now)
new_constants (Ok n) s now x none p e = λ has. more_constants s now x p.0 none p.1 e p.2 has
new_constants (Err e) s now x none p q = tt

-- 6. Where a unit begins.

length_none : (s : State) → s.tags ≡ [] → (s.tag_rows).items ≡ [] → length (s.tag_rows).items ≡ length (map tag_seen s.tags)
length_none s tags rows = ap length rows ∙ sym (ap (λ ts. length (map tag_seen ts)) tags)

no_members : (s : State) (tag : ℕ) → s.tags ≡ [] → has_members (slice_get (map tag_seen s.tags) tag) ≡ false
no_members s tag e = ap (λ ts. has_members (slice_get (map tag_seen ts) tag)) e

pub begin_symbols : (t : TokenText) (s : State) → s.tags ≡ [] → (s.tag_rows).items ≡ [] → HasSymbols t s
begin_symbols t s tags rows = (length_none s tags rows, λ tag some. absurd (true≢false (sym some ∙ no_members s tag tags)))

pub begin_constants : (s : State) → s.tags ≡ [] → (s.tag_rows).items ≡ [] → HasConstants s
begin_constants s tags rows = record {
  rows = length_none s tags rows;
  noted = λ tag some. absurd (true≢false (sym some ∙ no_members s tag tags));
  none = λ tag empty. ap (λ rs. constant_in (slice_get rs tag)) rows;
}
