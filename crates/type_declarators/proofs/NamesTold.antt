-- The names of members, and their symbols: no name is there twice where no symbol is.
use Rattle.std.proofs.Common.{◌≡◌, ◌≢◌, ℕ, zero, suc, ◌+◌, Bool, true, false, List, [], ◌∷◌, ◌++◌, map, refl, sym, ap, ◌∙◌, true≢false, arith}
use Rattle.std.specs.Prelude.{◌==◌, not, ◌&&◌, ◌||◌, if◌then◌else◌, is_some, slice_get, Option, Some, None}
use Rattle.std.specs.Str.{bytes_eq}
use Rattle.std.proofs.lemmas.Bool.{eq-eqb, eqb-true}
use Rattle.std.proofs.lemmas.List.{map-append}
use Rattle.std.proofs.lemmas.Option.{none-some}
use Rattle.std.proofs.lemmas.Slice.Eq.{bytes_eq-Decides}
use Rattle.c_lex.specs.TokenText.{TokenText, span_text, text_at}
use Rattle.c_lex.specs.declared.token.Token.{Token}
use Rattle.layout.specs.Names.{Named}
use Rattle.typing_env.specs.Env.{spelled_first, symbol_in}
use Rattle.typing_env.specs.Seen.{SeenMember, SeenTag}
use Rattle.typing_words.specs.Tags.{has_name, are_distinct, names, completed, extents}
use Rattle.typing_words.specs.Words.{has_members}
use Rattle.type_declarators.specs.MemberNames.{symbol_of_name, AreSymbols, has_symbol, are_apart, AreNamed}
use Rattle.type_declarators.proofs.NamesKept.{completed_keeps, names_completed}

-- 1. Names that are apart.

has_text : List ℕ → List (List ℕ) → Bool
has_text name [] = false
has_text name (x ∷ xs) = bytes_eq x name || has_text name xs

texts_apart : List (List ℕ) → Bool
texts_apart [] = true
texts_apart (x ∷ xs) = not (has_text x xs) && texts_apart xs

has_by : (name : List ℕ) (ns : List Named) → has_name name ns ≡ has_text name (map (λ n. n.name) ns)
unfolding has_text
has_by name [] = refl
has_by name (n ∷ ns) = ap (λ b. bytes_eq n.name name || b) (has_by name ns)

distinct_by : (ns : List Named) → are_distinct ns ≡ texts_apart (map (λ n. n.name) ns)
unfolding texts_apart
distinct_by [] = refl
distinct_by (n ∷ ns) =
    ap (λ b. not b && are_distinct ns) (has_by n.name ns) ∙ ap (λ b. not (has_text n.name (map (λ m. m.name) ns)) && b) (distinct_by ns)

-- 2. Symbols tell names apart.

Spelled : TokenText → List (List ℕ) → Type 0
Spelled t [] = Unit {0}
Spelled t (x ∷ xs) = (text_at t (symbol_of_name t x) ≡ x) × Spelled t xs

first_of : (x y : List ℕ) (xs ys : List (List ℕ)) → x ∷ xs ≡ y ∷ ys → x ≡ y
first_of x y xs ys e = cc

rest_of : (x y : List ℕ) (xs ys : List (List ℕ)) → x ∷ xs ≡ y ∷ ys → xs ≡ ys
rest_of x y xs ys e = cc

spelled_by : (t : TokenText) (xs : List (List ℕ)) → map (text_at t) (map (symbol_of_name t) xs) ≡ xs → Spelled t xs
unfolding Spelled
spelled_by t [] e = tt
spelled_by t (x ∷ xs) e =
    let here = text_at t (symbol_of_name t x) in
    let more = map (text_at t) (map (symbol_of_name t) xs) in
    (first_of here x more xs e, spelled_by t xs (rest_of here x more xs e))

same_by : (a b : Bool) → (a ≡ true → b ≡ true) → (b ≡ true → a ≡ true) → a ≡ b
same_by true b f g = sym (f refl)
same_by false true f g = g refl
same_by false false f g = refl

same_symbol : (t : TokenText) (x y : List ℕ) → text_at t (symbol_of_name t x) ≡ x → text_at t (symbol_of_name t y) ≡ y
    → bytes_eq x y ≡ (symbol_of_name t x == symbol_of_name t y)
same_symbol t x y sx sy =
    same_by (bytes_eq x y) (symbol_of_name t x == symbol_of_name t y)
    (λ e. eq-eqb (symbol_of_name t x) (symbol_of_name t y) (ap (symbol_of_name t) ((bytes_eq-Decides x y).0 e)))
    (λ e. (bytes_eq-Decides x y).1 (sym sx ∙ ap (text_at t) (eqb-true (symbol_of_name t x) (symbol_of_name t y) e) ∙ sy))

has_same : (t : TokenText) (y : List ℕ) (xs : List (List ℕ)) → text_at t (symbol_of_name t y) ≡ y → Spelled t xs
    → has_text y xs ≡ has_symbol (symbol_of_name t y) (map (symbol_of_name t) xs)
unfolding Spelled has_text
has_same t y [] sy all = refl
has_same t y (x ∷ xs) sy all =
    ap (λ b. b || has_text y xs) (same_symbol t x y all.0 sy)
    ∙ ap (λ b. (symbol_of_name t x == symbol_of_name t y) || b) (has_same t y xs sy all.1)

apart_same : (t : TokenText) (xs : List (List ℕ)) → Spelled t xs → texts_apart xs ≡ are_apart (map (symbol_of_name t) xs)
unfolding Spelled texts_apart
apart_same t [] all = refl
apart_same t (x ∷ xs) all =
    ap (λ b. not b && texts_apart xs) (has_same t x xs all.0 all.1)
    ∙ ap (λ b. not (has_symbol (symbol_of_name t x) (map (symbol_of_name t) xs)) && b) (apart_same t xs all.1)

pub distinct_told : (t : TokenText) (symbols : List ℕ) (ns : List Named) → AreSymbols t symbols (map (λ n. n.name) ns) → are_distinct ns ≡ are_apart symbols
distinct_told t symbols ns are =
    let xs = map (λ (n : Named). n.name) ns in
    distinct_by ns ∙ apart_same t xs (spelled_by t xs (ap (map (text_at t)) are.1 ∙ are.0)) ∙ ap are_apart are.1

and_false : (a : Bool) → (a && false) ≡ false
and_false true = refl
and_false false = refl

-- what isn't apart stays so
longer_step : (b rest more : Bool) → (rest ≡ true → more ≡ true) → (b || rest) ≡ true → (b || more) ≡ true
longer_step true rest more f e = refl
longer_step false rest more f e = f e

has_longer : (name : List ℕ) (xs ys : List (List ℕ)) → has_text name xs ≡ true → has_text name (xs ++ ys) ≡ true
unfolding has_text
has_longer name [] ys e = absurd (true≢false (sym e))
has_longer name (x ∷ xs) ys e = longer_step (bytes_eq x name) (has_text name xs) (has_text name (xs ++ ys)) (has_longer name xs ys) e

longer_by : (b h r s : Bool) → (b ≡ true → h ≡ true) → (not b && r) ≡ false → (r ≡ false → s ≡ false) → (not h && s) ≡ false
longer_by true h r s f e g = ap (λ x. not x && s) (f refl)
longer_by false h r s f e g = ap (λ x. not h && x) (g e) ∙ and_false (not h)

not_apart_longer : (xs ys : List (List ℕ)) → texts_apart xs ≡ false → texts_apart (xs ++ ys) ≡ false
unfolding texts_apart
not_apart_longer [] ys e = absurd (true≢false e)
not_apart_longer (x ∷ xs) ys e =
    longer_by (has_text x xs) (has_text x (xs ++ ys)) (texts_apart xs) (texts_apart (xs ++ ys)) (has_longer x xs ys) e (not_apart_longer xs ys)

pub not_distinct : (t : TokenText) (symbols : List ℕ) (xs ys : List (List ℕ)) (ns : List Named) → AreSymbols t symbols xs → are_apart symbols ≡ false
    → map (λ n. n.name) ns ≡ xs ++ ys → are_distinct ns ≡ false
not_distinct t symbols xs ys ns are apart e =
    distinct_by ns ∙ ap texts_apart e
    ∙ not_apart_longer xs ys
    (apart_same t xs (spelled_by t xs (ap (map (text_at t)) are.1 ∙ are.0)) ∙ ap are_apart are.1 ∙ apart)

-- 3. More symbols.

pub symbols_more : (t : TokenText) (a b : List ℕ) (x y : List (List ℕ)) → AreSymbols t a x → AreSymbols t b y → AreSymbols t (a ++ b) (x ++ y)
symbols_more t a b x y p q = (
  map-append (text_at t) a b ∙ ap (λ xs. xs ++ map (text_at t) b) p.0 ∙ ap (λ ys. x ++ ys) q.0,
  map-append (symbol_of_name t) x y ∙ ap (λ xs. xs ++ map (symbol_of_name t) y) p.1 ∙ ap (λ ys. a ++ ys) q.1,
)

or_later : (a b c : Bool) → (a || (b || c)) ≡ ((a || b) || c)
or_later true b c = refl
or_later false b c = refl

pub has_more : (n : ℕ) (a b : List ℕ) → has_symbol n (a ++ b) ≡ (has_symbol n a || has_symbol n b)
has_more n [] b = refl
has_more n (m ∷ a) b = ap (λ x. (m == n) || x) (has_more n a b) ∙ or_later (m == n) (has_symbol n a) (has_symbol n b)

or_nothing : (a : Bool) → (a || false) ≡ a
or_nothing true = refl
or_nothing false = refl

pub has_one_more : (n m : ℕ) (a : List ℕ) → has_symbol n (a ++ m ∷ []) ≡ (has_symbol n a || (m == n))
has_one_more n m a = has_more n a (m ∷ []) ∙ ap (λ b. has_symbol n a || b) (or_nothing (m == n))

eq_sym : (a b : ℕ) → (a == b) ≡ (b == a)
eq_sym a b = same_by (a == b) (b == a) (λ e. eq-eqb b a (sym (eqb-true a b e))) (λ e. eq-eqb a b (sym (eqb-true b a e)))

apart_step : (p q a b : Bool) → (not (p || q) && (a && not b)) ≡ ((not p && a) && not (q || b))
apart_step true q a b = refl
apart_step false true true b = refl
apart_step false true false b = refl
apart_step false false a b = refl

pub apart_more : (n : ℕ) (a : List ℕ) → are_apart (a ++ n ∷ []) ≡ (are_apart a && not (has_symbol n a))
apart_more n [] = refl
apart_more n (m ∷ a) =
    ap (λ b. not b && are_apart (a ++ n ∷ [])) (has_one_more m n a)
    ∙ ap (λ b. not (has_symbol m a || (n == m)) && b) (apart_more n a)
    ∙ apart_step (has_symbol m a) (n == m) (are_apart a) (has_symbol n a)
    ∙ ap (λ e. (not (has_symbol m a) && are_apart a) && not (e || has_symbol n a)) (eq_sym n m)

clash_by : (b : Bool) (m n : ℕ) (a rest : List ℕ) → (m == n) ≡ b → (b || has_symbol n a) ≡ true
    → (has_symbol n a ≡ true → are_apart (a ++ n ∷ rest) ≡ false) → (not (has_symbol m (a ++ n ∷ rest)) && are_apart (a ++ n ∷ rest)) ≡ false
clash_by true m n a rest e has more =
    ap (λ x. not x && are_apart (a ++ n ∷ rest))
    (has_more m a (n ∷ rest) ∙ ap (λ x. has_symbol m a || (x || has_symbol m rest)) (eq_sym n m ∙ e) ∙ or_true (has_symbol m a))
  where
    or_true : (a : Bool) → (a || true) ≡ true
    or_true true = refl
    or_true false = refl
clash_by false m n a rest e has more = ap (λ x. not (has_symbol m (a ++ n ∷ rest)) && x) (more has) ∙ and_false (not (has_symbol m (a ++ n ∷ rest)))

-- a symbol that is there already
pub clash : (n : ℕ) (a rest : List ℕ) → has_symbol n a ≡ true → are_apart (a ++ n ∷ rest) ≡ false
clash n [] rest has = absurd (true≢false (sym has))
clash n (m ∷ a) rest has = clash_by (m == n) m n a rest refl has (clash n a rest)

-- 4. The symbol of a token's name.

none_further : (n : ℕ) → n ≡ n + 0
none_further n = omega arith

further : (base i : ℕ) → (base + 1) + i ≡ base + suc i
further base i = omega arith

Found : List ℕ → List ℕ → ℕ → List Token → Type 0
Found source text base ts = (i : ℕ) × (spelled_first source text base ts ≡ base + i) × (span_text source (slice_get ts i) ≡ text)

found_step : (source text : List ℕ) (base : ℕ) (t : Token) (ts : List Token) (b : Bool) → bytes_eq (span_text source (Some t)) text ≡ b
    → (b ≡ false → Found source text (base + 1) ts) → Found source text base (t ∷ ts)
unfolding Found
found_step source text base t ts true e more = (
  zero,
  ap (λ x. if x then base else spelled_first source text (base + 1) ts) e ∙ none_further base,
  (bytes_eq-Decides (span_text source (Some t)) text).0 e,
)
found_step source text base t ts false e more =
    let p = more refl in (
      suc p.0,
      ap (λ x. if x then base else spelled_first source text (base + 1) ts) e ∙ p.1 ∙ further base p.0,
      p.2,
    )

found_from : (source text : List ℕ) (base : ℕ) (ts : List Token) (k : ℕ) (tok : Token) → slice_get ts k ≡ Some tok
    → span_text source (Some tok) ≡ text
    → Found source text base ts
unfolding Found
found_from source text base [] k tok is spelled = absurd (none-some tok is)
found_from source text base (t ∷ ts) zero tok is spelled =
    found_step source text base t ts (bytes_eq (span_text source (Some t)) text) refl
    (λ e. absurd (true≢false (sym ((bytes_eq-Decides (span_text source (Some t)) text).1 (ap (span_text source) is ∙ spelled)) ∙ e)))
found_from source text base (t ∷ ts) (suc k) tok is spelled =
    found_step source text base t ts (bytes_eq (span_text source (Some t)) text) refl (λ e. found_from source text (base + 1) ts k tok is spelled)

spelled_here : (t : TokenText) (at : ℕ) (tok : Token) → slice_get t.list at ≡ Some tok
    → text_at t (symbol_of_name t (text_at t at)) ≡ text_at t at
unfolding Found
spelled_here t at tok is =
    let p = found_from t.source (text_at t at) 0 t.list at tok is (sym (ap (span_text t.source) is)) in
    let e : spelled_first t.source (text_at t at) 0 t.list ≡ p.0 = omega (arith, p.1) in
    ap (text_at t) e ∙ p.2

symbol_here : (t : TokenText) (at : ℕ) (o : Option Token) → slice_get t.list at ≡ o → is_some o ≡ true
    → symbol_in t (slice_get t.list at) ≡ symbol_of_name t (text_at t at)
symbol_here t at None is some = absurd (true≢false (sym some))
symbol_here t at (Some tok) is some = ap (symbol_in t) is ∙ sym (ap (λ o. symbol_of_name t (span_text t.source o)) is)

name_here : (t : TokenText) (at symbol : ℕ) (o : Option Token) → slice_get t.list at ≡ o → text_at t at ≢ [] → symbol ≡ symbol_in t (slice_get t.list at)
    → AreSymbols t (symbol ∷ []) (text_at t at ∷ [])
name_here t at symbol None is some e = absurd (some (ap (span_text t.source) is))
name_here t at symbol (Some tok) is some e =
    let s : symbol ≡ symbol_of_name t (text_at t at) = e ∙ symbol_here t at (Some tok) is refl in (
      ap (λ k. text_at t k ∷ []) s ∙ ap (λ x. x ∷ []) (spelled_here t at tok is),
      ap (λ k. k ∷ []) (sym s),
    )

pub name_told : (t : TokenText) (at symbol : ℕ) → text_at t at ≢ [] → symbol ≡ symbol_in t (slice_get t.list at)
    → AreSymbols t (symbol ∷ []) (text_at t at ∷ [])
name_told t at symbol some e = name_here t at symbol (slice_get t.list at) refl some e

-- 5. A structure or union that gets its members.

pub completed_distinct : (t : TokenText) (tags : List SeenTag) (tag : ℕ) (ms : List SeenMember) (symbols : List ℕ) → AreNamed t tags ms symbols
    → has_members (slice_get tags tag) ≡ false → is_some (extents (completed tags tag ms) tag) ≡ true
    → are_distinct (names (completed tags tag ms) tag) ≡ are_apart symbols
completed_distinct t tags tag ms symbols named none whole =
    let now = completed tags tag ms in
    let are = named now (completed_keeps tags tag ms none) in
    let e = names_completed tags tag ms whole in
    distinct_told t symbols (names now tag) (are.0 ∙ sym e, ap (map (symbol_of_name t)) e ∙ are.1)
