-- What a cursor keeps, as tokens are taken and names declared.
use Rattle.std.proofs.Common.{
  ◌≡◌,
  ℕ,
  ◌+◌,
  ◌<◌,
  Bool,
  false,
  List,
  [],
  ◌∷◌,
  length,
  drop,
  get_or,
  map,
  refl,
  sym,
  ◌∙◌,
  ap,
  subst,
  arith,
  inl,
  inr,
  Some,
  None,
  Ok,
  Err,
}
use Rattle.std.specs.Prelude.{if◌then◌else◌, nat_lt, Result, OnOk, OnErr, All, slice_index_or}
use Rattle.std.specs.Option.{option_map}
use Rattle.std.proofs.lemmas.Bool.{cases_lt, lt-ltb, cond-true}
use Rattle.std.proofs.lemmas.List.{take-map, drop-map, map-append}
use Rattle.std.proofs.lemmas.List.Elements.{All-push, All-take, All-drop, All-map}
use Rattle.std.proofs.lemmas.Option.{slice_get_past}
use Rattle.c_lex.specs.TokenText.{TokenText, text_at}
use Rattle.c_lex.specs.declared.token.Token.{Token}
use Rattle.c_lex.specs.declared.token.TokenKind.{TokenKind}
use Rattle.c_lex.specs.declared.token.TokenKind.TheVariants as token
use Rattle.c_ast.specs.Input.{Input, kind, next, declared, lookup, is_typedef}
use Rattle.parse_cursor.specs.Cursors.{IsCursor}
use Rattle.parse_cursor.specs.Declarations.{IsWithin, InScope, said, said_of, is_typedef_in, names_typedef, with_name, first_names, declared_at, closed_at}
use Rattle.c_spelling.specs.Spelling.{IsSpelling}
use Rattle.parse_cursor.specs.Spelling.{IsNumbered}
use Rattle.parse_cursor.specs.declared.refusal.Refusal.{Refusal}
use Rattle.parse_cursor.specs.declared.scope.Declared.{Declared}
use Rattle.parse_cursor.specs.declared.scope.Named.{Named}
use Rattle.parse_cursor.proofs.Known.{is_typedef_at}
use Rattle.parse_cursor.proofs.Spellings.{same_lookup}

-- a token comes next
pub kind_within : (i : Input) (k : TokenKind) → kind i ≡ Some k → i.at < length i.tokens.list
unfolding kind
kind_within i k is = elim (cases_lt i.at (length i.tokens.list)) [
  | inl less ↦ less
  | inr past ↦
      (let none : option_map (λ (t : Token). t.kind) None ≡ Some k =
      sym (ap (option_map (λ (t : Token). t.kind)) (slice_get_past i.tokens.list i.at past)) ∙ is
      in absurd (cc))
]

pub next_at : (i : Input) → i.at < length i.tokens.list → next i ≡ record i { at = i.at + 1 }
unfolding next
next_at i h = ap (λ b. record i { at = if b then i.at + 1 else i.at }) (lt-ltb i.at (length i.tokens.list) h)

pub typedef_here : (i : Input) (at : ℕ) (r : Bool) → at ≡ i.at → (at < length i.tokens.list → r ≡ names_typedef at i)
    → kind i ≡ Some token.Name → r ≡ is_typedef i
unfolding is_typedef
typedef_here i at r same h is =
    h (subst (λ n. n < length i.tokens.list) (sym same) (kind_within i token.Name is)) ∙ ap (λ n. names_typedef n i) same

pub typedef_after : (i : Input) (at : ℕ) (r : Bool) → at ≡ (next i).at → (at < length i.tokens.list → r ≡ names_typedef at i)
    → kind (next i) ≡ Some token.Name → r ≡ is_typedef (next i)
unfolding next
typedef_after i at r same h is = typedef_here (next i) at r same h is

-- what the scope says of a token's number is what the declarations say of its text
pub same_typedef : (t : TokenText) (at : ℕ) (spelled : List ℕ) (scope : InScope) (p : List Declared) (n : ℕ) → IsCursor t at spelled scope p →
    n < length spelled
    → is_typedef_in scope (get_or spelled n 0) ≡ lookup t (text_at t n) false (map said_of scope.names)
same_typedef t at spelled scope p n c h =
    let low = c.spelling.within n h in
    let whole = c.spelling.whole in
    let count = c.count in
    let within : get_or spelled n 0 < scope.count = omega arith in
    is_typedef_at scope (get_or spelled n 0) within ∙ same_lookup t spelled n false scope.names c.spelling h c.numbered

-- ---- a declaration

declared_ok : (t : TokenText) (at : ℕ) (spelled : List ℕ) (scope : InScope) (ps : List Declared) (d : Declared) → IsCursor t at spelled scope ps →
    d.at < length spelled
    → IsCursor t at spelled (with_name d (get_or spelled d.at 0) scope) ps
declared_ok t at spelled scope ps d c h = record {
  within = c.within;
  spelling = c.spelling;
  count = c.count;
  numbered = All-push (IsNumbered spelled) scope.names
      (record { declared = d; name = get_or spelled d.at 0; hidden = is_typedef_in scope (get_or spelled d.at 0) })
      c.numbered (record { within = h; name = refl });
  kept = c.kept;
}

pub declared_cursor : (t : TokenText) (at : ℕ) (spelled : List ℕ) (old new : InScope) (ps : List Declared) (d : Declared) (r : Result (Unit {0}) Refusal)
    → IsCursor t at spelled old ps → d.at < length spelled → OnOk r (new ≡ with_name d (get_or spelled d.at 0) old) → OnErr r (new ≡ old)
    → IsCursor t at spelled new ps
declared_cursor t at spelled old new ps d (Ok u) c h ok err = subst (λ s. IsCursor t at spelled s ps) (sym ok) (declared_ok t at spelled old ps d c h)
declared_cursor t at spelled old new ps d (Err e) c h ok err = subst (λ s. IsCursor t at spelled s ps) (sym err) c

-- how a cursor shows
abbrev pub shown : TokenText → ℕ → InScope → List (ℕ × Bool) → Input
shown t at scope prototype = record { tokens = t; at = at; names = map said_of scope.names; prototype = prototype }

declared_shown : (t : TokenText) (at : ℕ) (scope : InScope) (p : List (ℕ × Bool)) (d : Declared) (name : ℕ) → d.at < length t.list
    → shown t at (with_name d name scope) p ≡ declared_at d.at d.typedef (shown t at scope p)
unfolding declared
declared_shown t at scope p d name h =
    let x : Named = record { declared = d; name = name; hidden = is_typedef_in scope name } in
    ap (λ ns. record { tokens = t; at = at; names = ns; prototype = p }) (map-append said_of scope.names (x ∷ []))
    ∙ sym (cond-true (nat_lt d.at (length t.list)) (declared d.at d.typedef (shown t at scope p)) (shown t at scope p) (lt-ltb d.at (length t.list) h))

pub declared_view : (t : TokenText) (at : ℕ) (spelled : List ℕ) (old new : InScope) (p : List (ℕ × Bool)) (ps : List Declared) (d : Declared) (i : Input)
    (r : Result (Unit {0}) Refusal)
    → IsCursor t at spelled old ps → d.at < length spelled → shown t at old p ≡ i → OnOk r (new ≡ with_name d (get_or spelled d.at 0) old)
    → OnOk r (shown t at new p ≡ declared_at d.at d.typedef i)
declared_view t at spelled old new p ps d i (Ok u) c h is ok =
    let whole = c.spelling.whole in
    let within : d.at < length t.list = omega arith in
    ap (λ s. shown t at s p) ok ∙ declared_shown t at old p d (get_or spelled d.at 0) within ∙ ap (declared_at d.at d.typedef) is
declared_view t at spelled old new p ps d i (Err e) c h is ok = tt

-- ---- the end of a scope

pub closed_cursor : (t : TokenText) (at : ℕ) (spelled : List ℕ) (old new : InScope) (ps : List Declared) (count : ℕ) → IsCursor t at spelled old ps →
    new ≡ first_names count old
    → IsCursor t at spelled new ps
closed_cursor t at spelled old new ps count c is = subst (λ s. IsCursor t at spelled s ps) (sym is) (record {
  within = c.within;
  spelling = c.spelling;
  count = c.count;
  numbered = All-take (IsNumbered spelled) count old.names c.numbered;
  kept = c.kept;
})

pub closed_view : (t : TokenText) (at : ℕ) (old new : InScope) (p : List (ℕ × Bool)) (count : ℕ) (i : Input) → new ≡ first_names count old →
    shown t at old p ≡ i
    → shown t at new p ≡ closed_at count i
closed_view t at old new p count i is now =
    ap (λ s. shown t at s p) is ∙ ap (λ ns. record { tokens = t; at = at; names = ns; prototype = p }) (sym (take-map said_of count old.names)) ∙ ap
    (closed_at count) now

-- ---- parameters that are kept

said_each : (xs : List Named) → map said (map (λ (x : Named). x.declared) xs) ≡ map said_of xs
said_each [] = refl
said_each (x ∷ xs) = ap (λ r. said x.declared ∷ r) (said_each xs)

pub said_since : (names : List Named) (count : ℕ) → map said (map (λ (x : Named). x.declared) (drop count names)) ≡ drop count (map said_of names)
said_since names count = said_each (drop count names) ∙ sym (drop-map said_of count names)

each_within : (t : TokenText) (spelled : List ℕ) (xs : List Named) → IsSpelling t spelled → All (IsNumbered spelled) xs
    → All (IsWithin t) (map (λ (x : Named). x.declared) xs)
each_within t spelled xs s all =
    All-map (IsWithin t) (λ (x : Named). x.declared) xs (λ k d h. subst (λ n. (slice_index_or xs k d).declared.at < n) s.whole (all k d h).within)

-- the declarations in scope from the first ones on are tokens of the text
pub within_since : (t : TokenText) (at : ℕ) (spelled : List ℕ) (scope : InScope) (p : List Declared) (count : ℕ) → IsCursor t at spelled scope p
    → All (IsWithin t) (map (λ (x : Named). x.declared) (drop count scope.names))
within_since t at spelled scope p count c =
    each_within t spelled (drop count scope.names) c.spelling (All-drop (IsNumbered spelled) count scope.names c.numbered)
