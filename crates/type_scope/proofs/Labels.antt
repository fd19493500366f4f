-- The labels of a function, after each change.
use Rattle.std.proofs.Common.{◌≡◌, ℕ, zero, suc, ◌+◌, Bool, true, false, cond, List, [], ◌∷◌, ◌++◌, length, drop, refl, sym, ap, ◌∙◌, true≢false, arith}
use Rattle.std.specs.Prelude.{nat_eq, nat_lt, not, ◌==◌, ◌||◌, ◌&&◌, is_some, if◌then◌else◌, slice_get, Option, Some, None}
use Rattle.std.specs.List.{position, position_or_len}
use Rattle.std.specs.Map.{keys_of}
use Rattle.std.proofs.lemmas.Bool.{eqb-true, eq-eqb, ltb-true, lt-ltb}
use Rattle.std.proofs.lemmas.Option.{same_Some, none-some}
use Rattle.std.proofs.lemmas.List.Recursion.{or_push}
use Rattle.std.proofs.Math.Seq.{drop-nil}
use Rattle.indexmap.specs.IndexMap.{insert_entry}
use Rattle.type_scope.specs.declared.task.Label.{Label}
use Rattle.type_scope.specs.Labels.{has_number, place_of, one_symbol, all_in, is_undefined, is_defined_row}

same_by : (t u : Bool) → (t ≡ true → u ≡ true) → (u ≡ true → t ≡ true) → t ≡ u
same_by true u f g = sym (f refl)
same_by false true f g = g refl
same_by false false f g = refl

eq_sym : (a b : ℕ) → nat_eq a b ≡ (b == a)
eq_sym a b = same_by (nat_eq a b) (b == a) (λ t. eq-eqb b a (sym (eqb-true a b t))) (λ u. eq-eqb a b (sym (eqb-true b a u)))

-- 1. Where a symbol stands.

place_by : (t u : Bool) (i n rest : ℕ) → t ≡ u → rest ≡ (i + 1) + n → (if u then i else rest) ≡ i + cond (not t) (1 + n) 0
place_by true true i n rest e is = omega arith
place_by true false i n rest e is = absurd (true≢false e)
place_by false true i n rest e is = absurd (true≢false (sym e))
place_by false false i n rest e is = is ∙ omega arith

place_from : (k i : ℕ) (ks : List ℕ) → place_of k i ks ≡ i + position_or_len (nat_eq k) ks
place_from k i [] = omega arith
place_from k i (m ∷ ks) =
    place_by (nat_eq k m) (m == k) i (position_or_len (nat_eq k) ks) (place_of k (i + 1) ks) (eq_sym k m) (place_from k (i + 1) ks)

pub place_is : (k : ℕ) (ks : List ℕ) → position_or_len (nat_eq k) ks ≡ place_of k 0 ks
place_is k ks = sym (place_from k 0 ks ∙ omega arith)

within_by : (t : Bool) (p place : ℕ) → Some place ≡ cond t (Some p) None → (place ≡ p) × (t ≡ true)
within_by true p place e = (same_Some place p e, refl)
within_by false p place e = absurd (none-some place (sym e))

pub place_found : (k place : ℕ) (ks : List ℕ) → Some place ≡ position (nat_eq k) ks → place ≡ place_of k 0 ks
place_found k place ks e = (within_by (nat_lt (position_or_len (nat_eq k) ks) (length ks)) (position_or_len (nat_eq k) ks) place e).0 ∙ place_is k ks

has_by : (t u : Bool) (n len : ℕ) (rest : Bool) → t ≡ u → (nat_lt n len ≡ true → rest ≡ true)
    → nat_lt (cond (not t) (1 + n) 0) (suc len) ≡ true → (u || rest) ≡ true
has_by true true n len rest e f less = refl
has_by true false n len rest e f less = absurd (true≢false e)
has_by false true n len rest e f less = refl
has_by false false n len rest e f less =
    let below = ltb-true (1 + n) (suc len) less in
    f (lt-ltb n len (omega arith))

has_within : (k : ℕ) (ks : List ℕ) → nat_lt (position_or_len (nat_eq k) ks) (length ks) ≡ true → has_number k ks ≡ true
has_within k [] less = less
has_within k (m ∷ ks) less =
    has_by (nat_eq k m) (m == k) (position_or_len (nat_eq k) ks) (length ks) (has_number k ks) (eq_sym k m) (has_within k ks) less

pub one_found : (k place : ℕ) (ks : List ℕ) → Some place ≡ position (nat_eq k) ks → ks ≡ one_symbol k ks
one_found k place ks e =
    let less = (within_by (nat_lt (position_or_len (nat_eq k) ks) (length ks)) (position_or_len (nat_eq k) ks) place e).1 in
    sym (ap (λ t. if t then ks else ks ++ k ∷ []) (has_within k ks less))

-- 2. One symbol more.

one_by : (t u h : Bool) (k m : ℕ) (ks rest : List ℕ) → t ≡ u → rest ≡ (if h then ks else ks ++ k ∷ [])
    → (if t then m ∷ ks else m ∷ rest) ≡ (if u || h then m ∷ ks else m ∷ ks ++ k ∷ [])
one_by true true h k m ks rest e is = refl
one_by true false h k m ks rest e is = absurd (true≢false e)
one_by false true h k m ks rest e is = absurd (true≢false (sym e))
one_by false false true k m ks rest e is = ap (λ xs. m ∷ xs) is
one_by false false false k m ks rest e is = ap (λ xs. m ∷ xs) is

keys_if : (t : Bool) (k : ℕ) (v : Label) (e : ℕ × Label) (es fs : List (ℕ × Label))
    → keys_of (if t then (e.0, v) ∷ es else e ∷ fs) ≡ (if t then e.0 ∷ keys_of es else e.0 ∷ keys_of fs)
keys_if true k v e es fs = refl
keys_if false k v e es fs = refl

pub one_more_symbol : (k : ℕ) (v : Label) (es : List (ℕ × Label)) → keys_of (insert_entry nat_eq es k v) ≡ one_symbol k (keys_of es)
one_more_symbol k v [] = refl
one_more_symbol k v (e ∷ es) =
    keys_if (nat_eq k e.0) k v e es (insert_entry nat_eq es k v)
    ∙ one_by (nat_eq k e.0) (e.0 == k) (has_number k (keys_of es)) k e.0 (keys_of es) (keys_of (insert_entry nat_eq es k v)) (eq_sym k e.0)
    (one_more_symbol k v es)

-- 3. Which are defined.

pub none_of : {A : Type 0} (o : Option A) → is_some o ≡ false → o ≡ None
none_of None e = refl
none_of (Some a) e = absurd (true≢false e)

-- one that is named alone
named_by : (t : Bool) (line : ℕ) (new old : Option Label) → new ≡ cond t (Some (record { line = line; defined = false })) old
    → (t ≡ true → old ≡ None) → is_defined_row new ≡ is_defined_row old
named_by true line new old e none = ap is_defined_row e ∙ sym (ap is_defined_row (none refl))
named_by false line new old e none = ap is_defined_row e

pub named_row : (k q line : ℕ) (f : ℕ → Option Label) (new : Option Label)
    → new ≡ cond (nat_eq k q) (Some (record { line = line; defined = false })) (f q) → f k ≡ None → is_defined_row new ≡ is_defined_row (f q)
named_row k q line f new e none = named_by (nat_eq k q) line new (f q) e (λ t. sym (ap f (eqb-true k q t)) ∙ none)

or_true : (b : Bool) → true ≡ (b || true)
or_true true = refl
or_true false = refl

or_none : (b : Bool) → b ≡ (b || false)
or_none true = refl
or_none false = refl

-- one that is defined
defined_by : (t u : Bool) (line : ℕ) (new old : Option Label) → t ≡ u → new ≡ cond t (Some (record { line = line; defined = true })) old
    → is_defined_row new ≡ (is_defined_row old || u)
defined_by true true line new old same e = ap is_defined_row e ∙ or_true (is_defined_row old)
defined_by true false line new old same e = absurd (true≢false same)
defined_by false true line new old same e = absurd (true≢false (sym same))
defined_by false false line new old same e = ap is_defined_row e ∙ or_none (is_defined_row old)

pub defined_row : (k q line : ℕ) (new old : Option Label)
    → new ≡ cond (nat_eq k q) (Some (record { line = line; defined = true })) old → is_defined_row new ≡ (is_defined_row old || (k == q))
defined_row k q line new old e = defined_by (nat_eq k q) (k == q) line new old refl e

pub has_one_more : (q k : ℕ) (ms : List ℕ) → has_number q (ms ++ k ∷ []) ≡ (has_number q ms || (k == q))
has_one_more q k ms = or_push (has_number q) (λ m. m == q) refl (λ x xs. refl) ms k

-- 4. Whether each is defined.

and_true : (a b : Bool) → not a ≡ false → b ≡ (a && b)
and_true true b e = refl
and_true false b e = absurd (true≢false e)

and_false : (a b : Bool) → not a ≡ true → (a && b) ≡ false
and_false true b e = absurd (true≢false (sym e))
and_false false b e = refl

-- the labels from a place on, where the one there is defined
pub defined_next : (i : ℕ) (ls ms : List ℕ) → is_undefined (slice_get ls i) ms ≡ false → all_in (drop (i + 1) ls) ms ≡ all_in (drop i ls) ms
defined_next i [] ms e = ap (λ xs. all_in xs ms) (drop-nil (i + 1) ∙ sym (drop-nil i))
defined_next zero (l ∷ ls) ms e = and_true (has_number l ms) (all_in ls ms) e
defined_next (suc i) (l ∷ ls) ms e =
    let next : suc i + 1 ≡ suc (i + 1) = omega arith in
    ap (λ n. all_in (drop n (l ∷ ls)) ms) next ∙ defined_next i ls ms e

-- .. and where it isn't
pub undefined_here : (i : ℕ) (ls ms : List ℕ) → is_undefined (slice_get ls i) ms ≡ true → all_in (drop i ls) ms ≡ false
undefined_here i [] ms e = absurd (true≢false (sym e))
undefined_here zero (l ∷ ls) ms e = and_false (has_number l ms) (all_in ls ms) e
undefined_here (suc i) (l ∷ ls) ms e = undefined_here i ls ms e

-- what is known of labels, where one is defined
pub has_defined : (k : ℕ) (defined : List ℕ) (before after : ℕ → Bool) → ((s : ℕ) → before s ≡ has_number s defined)
    → ((s : ℕ) → after s ≡ (before s || (k == s))) → (s : ℕ) → after s ≡ has_number s (defined ++ k ∷ [])
has_defined k defined before after old new s =
    new s ∙ ap (λ b. b || (k == s)) (old s) ∙ sym (has_one_more s k defined)
