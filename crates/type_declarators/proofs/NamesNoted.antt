-- The symbols of members that are noted, as members are added and structures and unions are completed.
use Rattle.std.proofs.Common.{◌≡◌, ◌≢◌, ℕ, zero, suc, ◌+◌, ◌<◌, Bool, true, false, List, []}
use Rattle.std.proofs.Common.{◌∷◌, ◌++◌, length, map, refl, sym, ap, ◌∙◌, subst, true≢false, arith, inl, inr}
use Rattle.std.specs.Prelude.{not, ◌&&◌, if◌then◌else◌, is_some, slice_get, Some, None, Result, Ok, Err, OnOk}
use Rattle.std.proofs.lemmas.Bool.Decides.{eqb_tells}
use Rattle.std.proofs.lemmas.List.{append_assoc}
use Rattle.std.proofs.lemmas.Option.{none-some, same_Some}
use Rattle.std.specs.BTreeSet.{contains}
use Rattle.std.specs.Ordering.{nat_cmp}
use Rattle.c_lex.specs.TokenText.{TokenText, text_at}
use Rattle.c_types.specs.Types.{CType, Qualified, void, int, enumeration, pointer, array, struct, union, function}
use Rattle.c_types.specs.declared.tags.TagKind.{TagKind}
use Rattle.typing_env.specs.Env.{symbol_in}
use Rattle.typing_env.specs.Seen.{SeenMember, SeenTag, member_seen, tag_seen}
use Rattle.typing_words.specs.Tags.{inside, is_complete, are_distinct, names, completed, extents}
use Rattle.typing_words.specs.Words.{plain, tagged, has_members}
use Rattle.type_scope.specs.declared.rows.TagRow.{TagRow}
use Rattle.type_scope.specs.declared.state.State.{State}
use Rattle.type_declarators.specs.MemberNames.{names_in, own_or, brought_by, all_brought, Keeps, AreSymbols, are_apart, AreNamed, IsClash, IsWhole}
use Rattle.type_declarators.specs.MemberNames.{IsNoted, symbols_of, symbols_in, HasSymbols, HasNames, AddsSymbols, has_symbol, tag_number}
use Rattle.type_declarators.specs.declared.tag.MemberList.{MemberList}
use Rattle.type_declarators.proofs.Completing.{close_is, complete_number}
use Rattle.type_declarators.proofs.NamesKept.{names_stay, known_members, completed_keeps, completed_other, length_completed, names_completed}
use Rattle.type_declarators.proofs.NamesTold.{symbols_more, not_distinct, name_told}

-- 1. Tags that are kept.

pub keeps_both : (a b c : List SeenTag) → Keeps a b → Keeps b c → Keeps a c
keeps_both a b c p q = (
  (let x = p.0 in let y = q.0 in omega arith),
  λ tag has. q.1 tag (ap has_members (p.1 tag has) ∙ has) ∙ p.1 tag has,
)

pub keeps_itself : (a : List SeenTag) → Keeps a a
keeps_itself a = (omega arith, λ tag has. refl)

-- 2. Members that are added.

pub all_append : (f : ℕ → List (List ℕ)) (a b : List SeenMember) → all_brought f (a ++ b) ≡ all_brought f a ++ all_brought f b
all_append f [] b = refl
all_append f (m ∷ a) b = ap (λ xs. brought_by f m ++ xs) (all_append f a b) ∙ sym (append_assoc (brought_by f m) (all_brought f a) (all_brought f b))

append_none : {A : Type 0} (xs : List A) → xs ++ [] ≡ xs
append_none [] = refl
append_none (x ∷ xs) = ap (λ ys. x ∷ ys) (append_none xs)

-- what a member brings has these symbols, also when further tags are known
abbrev pub Brings : TokenText → List SeenTag → SeenMember → List ℕ → Type 0
Brings t tags m symbols = (now : List SeenTag) → Keeps tags now → AreSymbols t symbols (brought_by (names_in now) m)

pub named_more : (t : TokenText) (tags : List SeenTag) (ms : List SeenMember) (m : SeenMember) (a b : List ℕ) → AreNamed t tags ms a → Brings t tags m b
    → AreNamed t tags (ms ++ m ∷ []) (a ++ b)
named_more t tags ms m a b named brings now keeps =
    let f = names_in now in
    subst (λ xs. AreSymbols t (a ++ b) xs)
    (sym (all_append f ms (m ∷ []) ∙ ap (λ xs. all_brought f ms ++ xs) (append_none (brought_by f m))))
    (symbols_more t a b (all_brought f ms) (brought_by f m) (named now keeps) (brings now keeps))

pub own_named : (text : List ℕ) (inner : List (List ℕ)) → text ≢ [] → own_or text inner ≡ text ∷ []
own_named [] inner some = absurd (some refl)
own_named (c ∷ cs) inner some = refl

pub brings_name : (t : TokenText) (tags : List SeenTag) (at symbol : ℕ) (q : Qualified) → text_at t at ≢ []
    → symbol ≡ symbol_in t (slice_get t.list at) → Brings t tags (record { name = text_at t at; qual = q }) (symbol ∷ [])
brings_name t tags at symbol q some e now keeps =
    subst (λ xs. AreSymbols t (symbol ∷ []) xs) (sym (own_named (text_at t at) (inside [] (names_in now) q.ty) some)) (name_told t at symbol some e)

-- an unnamed structure or union
inside_tag : (f : ℕ → List (List ℕ)) (t : CType) (number : ℕ) → tag_number t ≡ Some number → inside [] f t ≡ f number
inside_tag f (struct tag) number e = ap f (same_Some tag number e)
inside_tag f (union tag) number e = ap f (same_Some tag number e)
inside_tag f void number e = absurd (none-some number e)
inside_tag f (int kind) number e = absurd (none-some number e)
inside_tag f (enumeration tag) number e = absurd (none-some number e)
inside_tag f (pointer c t) number e = absurd (none-some number e)
inside_tag f (array c t n) number e = absurd (none-some number e)
inside_tag f (function r ps v) number e = absurd (none-some number e)

pub brings_inside : (t : TokenText) (s : State) (q : Qualified) (number : ℕ) → Some number ≡ tag_number q.ty → IsWhole (map tag_seen s.tags) q.ty
    → HasSymbols t s → Brings t (map tag_seen s.tags) (record { name = []; qual = q }) (symbols_in s number)
brings_inside t s q number is whole has now keeps =
    let same : whole.0 ≡ number = same_Some whole.0 number (sym whole.1 ∙ sym is) in
    let known : is_some (extents (map tag_seen s.tags) number) ≡ true = ap (λ k. is_some (extents (map tag_seen s.tags) k)) (sym same) ∙ whole.2 in
    subst (λ xs. AreSymbols t (symbols_in s number) xs) (sym (inside_tag (names_in now) q.ty number (sym is)))
    (has.1 number (known_members (length (map tag_seen s.tags)) (map tag_seen s.tags) number known) now keeps)

-- a list with a member more
pub has_more_names : (t : TokenText) (tags : List SeenTag) (list middle now : MemberList) (m : SeenMember) (others : List ℕ) → HasNames t tags list
    → AddsSymbols others list middle → now ≡ record middle { members = now.members; constant = now.constant }
    → map member_seen now.members ≡ map member_seen list.members ++ m ∷ [] → Brings t tags m others → HasNames t tags now
has_more_names t tags list middle now m others has adds rest more brings = record {
  named = subst (λ xs. AreNamed t tags (map member_seen now.members) xs) (sym (ap (λ (l : MemberList). (l.symbols).items) rest ∙ adds.added))
      (subst (λ ms. AreNamed t tags ms ((list.symbols).items ++ others)) (sym more)
      (named_more t tags (map member_seen list.members) m (list.symbols).items others has.named brings));
  held = λ k.
      ap (λ (l : MemberList). contains nat_cmp l.names k) rest ∙ adds.held has.held k
      ∙ sym (ap (λ (l : MemberList). has_symbol k (l.symbols).items) rest);
  apart = ap (λ (l : MemberList). are_apart (l.symbols).items) rest ∙ adds.apart has.held has.apart;
}

-- 3. Members that clash.

clash_by : (a b d : Bool) {A : Type 0} (q : A) → (a ≡ true → b ≡ true → d ≡ false) → (if a && (b && d) then Some q else None) ≡ None
clash_by false b d q f = refl
clash_by true false d q f = refl
clash_by true true d q f = ap (λ x. if x then Some q else None) (f refl refl)

pub not_true : (b : Bool) → not b ≡ true → b ≡ false
not_true true e = sym e
not_true false e = refl

pub clash_is : (t : TokenText) (tags : List SeenTag) (before : List SeenMember) (m : SeenMember) (symbols others : List ℕ) → AreNamed t tags before symbols
    → Brings t tags m others → are_apart (symbols ++ others) ≡ false → IsClash tags before m
clash_is t tags before m symbols others named brings apart kind number behind env keeps =
    let ms = before ++ m ∷ behind in
    let now = completed env.tags number ms in
    let f = names_in now in
    close_is kind number ms env
    ∙ clash_by (not (has_members (slice_get env.tags number))) (is_complete now (tagged kind number)) (are_distinct (names now number))
    (plain (tagged kind number), record env { tags = now })
    (λ none whole.
    let kept : Keeps tags now = keeps_both tags env.tags now keeps
    (completed_keeps env.tags number ms (not_true (has_members (slice_get env.tags number)) none)) in
    not_distinct t (symbols ++ others) (all_brought f before ++ brought_by f m) (all_brought f behind) (names now number)
    (symbols_more t symbols others (all_brought f before) (brought_by f m) (named now kept) (brings now kept)) apart
    (names_completed env.tags number ms (sym (complete_number now kind number) ∙ whole)
    ∙ all_append f before (m ∷ behind)
    ∙ sym (append_assoc (all_brought f before) (brought_by f m) (all_brought f behind))))

-- 4. A structure or union that is completed, and one that is new.

noted_later : (t : TokenText) (tags now : List SeenTag) (tag : ℕ) (symbols : List ℕ) → Keeps tags now → IsNoted t tags tag symbols → IsNoted t now tag symbols
noted_later t tags now tag symbols keeps noted later more = noted later (keeps_both tags now later keeps more)

pub by_tag : (P : ℕ → Type 0) (number : ℕ) → P number → ((k : ℕ) → k ≢ number → P k) → (k : ℕ) → P k
by_tag P number here others k = elim (eqb_tells k number) [ inl p ↦ subst P (sym p.1) here | inr p ↦ others k p.1 ]

-- the symbols of the completed one are those of its members
completed_noted : (t : TokenText) (tags : List SeenTag) (number : ℕ) (ms : List SeenMember) (symbols : List ℕ) → AreNamed t tags ms symbols
    → has_members (slice_get tags number) ≡ false → is_some (extents (completed tags number ms) number) ≡ true
    → IsNoted t (completed tags number ms) number symbols
completed_noted t tags number ms symbols named none whole later keeps =
    let now = completed tags number ms in
    subst (λ xs. AreSymbols t symbols xs) (sym (names_stay now later keeps number whole ∙ names_completed tags number ms whole))
    (named now (completed_keeps tags number ms none))

pub closed_noted : (t : TokenText) (s now : State) (number : ℕ) (ms : List SeenMember) (symbols : List ℕ) →
    map tag_seen now.tags ≡ completed (map tag_seen s.tags) number ms
    → AreNamed t (map tag_seen s.tags) ms symbols → has_members (slice_get (map tag_seen s.tags) number) ≡ false
    → is_some (extents (completed (map tag_seen s.tags) number ms) number) ≡ true
    → length (now.tag_rows).items ≡ length (s.tag_rows).items → symbols_in now number ≡ symbols
    → ((k : ℕ) → k ≢ number → slice_get (now.tag_rows).items k ≡ slice_get (s.tag_rows).items k) → HasSymbols t s → HasSymbols t now
closed_noted t s now number ms symbols is named none whole count here others has =
    let tags = map tag_seen s.tags in
    let done = completed tags number ms in (
      count ∙ has.0 ∙ sym (length_completed tags number ms) ∙ sym (ap length is),
      subst (λ (ts : List SeenTag). (k : ℕ) → has_members (slice_get ts k) ≡ true → IsNoted t ts k (symbols_in now k)) (sym is)
          (by_tag (λ k. has_members (slice_get done k) ≡ true → IsNoted t done k (symbols_in now k)) number
          (λ some. subst (λ xs. IsNoted t done number xs) (sym here) (completed_noted t tags number ms symbols named none whole))
          (λ k other some.
          subst (λ xs. IsNoted t done k xs) (sym (ap symbols_of (others k other)))
          (noted_later t tags done k (symbols_in s k) (completed_keeps tags number ms none)
          (has.1 k (sym (ap has_members (completed_other tags number ms k other)) ∙ some))))),
    )

members_within : (ts : List SeenTag) (k : ℕ) (ms : List SeenMember) → has_members (slice_get (completed ts k ms) k) ≡ true → k < length ts
members_within [] k ms some = absurd (true≢false (sym some))
members_within (t ∷ ts) zero ms some = omega arith
members_within (t ∷ ts) (suc k) ms some = let less = members_within ts k ms some in omega arith

-- it has its row
within_by : (ts : List SeenTag) (k : ℕ) (ms : List SeenMember) → is_some (extents (completed ts k ms) k) ≡ true → k < length ts
within_by ts k ms whole = members_within ts k ms (known_members (length (completed ts k ms)) (completed ts k ms) k whole)

pub row_at : (s : State) (number : ℕ) (ms : List SeenMember) → length (s.tag_rows).items ≡ length (map tag_seen s.tags)
    → is_some (extents (completed (map tag_seen s.tags) number ms) number) ≡ true → number < length (s.tag_rows).items
row_at s number ms e whole = let less = within_by (map tag_seen s.tags) number ms whole in omega (arith, e, less)

pub noted_at : (t : TokenText) (s : State) (number : ℕ) (ms : List SeenMember) → HasSymbols t s
    → is_some (extents (completed (map tag_seen s.tags) number ms) number) ≡ true → number < length (s.tag_rows).items
noted_at t s number ms has whole = row_at s number ms has.0 whole

pub slice_get_more : (ts : List SeenTag) (x : SeenTag) (k : ℕ) → x.members ≡ [] → has_members (slice_get (ts ++ x ∷ []) k) ≡ true
    → (slice_get (ts ++ x ∷ []) k ≡ slice_get ts k) × (k < length ts)
slice_get_more [] x zero none some = absurd (true≢false (sym some ∙ ap (λ ms. has_members (Some (record x { members = ms }))) none))
slice_get_more [] x (suc k) none some = absurd (true≢false (sym some))
slice_get_more (t ∷ ts) x zero none some = (refl, omega arith)
slice_get_more (t ∷ ts) x (suc k) none some = let p = slice_get_more ts x k none some in (p.0, (let q = p.1 in omega arith))

pub get_before : (ts : List SeenTag) (x : SeenTag) (k : ℕ) → has_members (slice_get ts k) ≡ true → slice_get (ts ++ x ∷ []) k ≡ slice_get ts k
get_before [] x k some = absurd (true≢false (sym some))
get_before (t ∷ ts) x zero some = refl
get_before (t ∷ ts) x (suc k) some = get_before ts x k some

pub length_more : {A : Type 0} (ts : List A) (x : A) → length (ts ++ x ∷ []) ≡ length ts + 1
length_more [] x = refl
length_more (t ∷ ts) x = let e = length_more ts x in omega (arith, e)

pub more_noted : (t : TokenText) (s now : State) (x : SeenTag) → x.members ≡ [] → map tag_seen now.tags ≡ map tag_seen s.tags ++ x ∷ []
    → length (now.tag_rows).items ≡ length (s.tag_rows).items + 1 → ((k : ℕ) → k < length (s.tag_rows).items → symbols_in now k ≡ symbols_in s k)
    → HasSymbols t s → HasSymbols t now
more_noted t s now x none is count same has =
    let tags = map tag_seen s.tags in
    let more = tags ++ x ∷ [] in
    let keeps : Keeps tags more = ((let e = length_more tags x in omega (arith, e)), λ k some. get_before tags x k some) in (
      count ∙ ap (λ n. n + 1) has.0 ∙ sym (length_more tags x) ∙ sym (ap length is),
      subst (λ (ts : List SeenTag). (k : ℕ) → has_members (slice_get ts k) ≡ true → IsNoted t ts k (symbols_in now k)) (sym is)
          (λ k some.
          let p = slice_get_more tags x k none some in
          subst (λ xs. IsNoted t more k xs) (sym (same k (let e = has.0 in let less = p.1 in omega (arith, e, less))))
          (noted_later t tags more k (symbols_in s k) keeps (has.1 k (sym (ap has_members p.0) ∙ some)))),
    )

row_before : (rows : List TagRow) (row : TagRow) (k : ℕ) → k < length rows → slice_get (rows ++ row ∷ []) k ≡ slice_get rows k
row_before [] row k less = absurd (omega arith)
row_before (r ∷ rows) row zero less = refl
row_before (r ∷ rows) row (suc k) less = row_before rows row k (omega arith)

pub new_noted : {E : Type 0} (r : Result ℕ E) (s now : State) (kind : TagKind)
    → OnOk r ((row : TagRow) × (row.constant ≡ false) × ((now.tag_rows).items ≡ (s.tag_rows).items ++ row ∷ []))
    → OnOk r (map tag_seen now.tags ≡ map tag_seen s.tags ++ record { kind = kind; members = [] } ∷ [])
    → OnOk r ((t : TokenText) → HasSymbols t s → HasSymbols t now)
new_noted (Ok n) s now kind p e =
    λ t has.
    more_noted t s now (record { kind = kind; members = [] }) refl e (ap length p.2 ∙ length_more (s.tag_rows).items p.0)
    (λ k less.
    ap (λ rows. symbols_of (slice_get rows k)) p.2 ∙ ap symbols_of (row_before (s.tag_rows).items p.0 k less)) has
new_noted (Err e) s now kind p q = tt
