-- The type that counted type specifiers name.
use Rattle.std.proofs.Common.{◌≡◌, ℕ, ◌+◌, ◌≤◌, min, Bool, true, false, List, [], ◌∷◌, ◌++◌, length, refl, sym, ap, ◌∙◌, true≢false, arith}
use Rattle.std.proofs.Common.{◌⊎◌, inl, inr, rules}
use Rattle.std.specs.Prelude.{nat_le, ◌==◌, ◌&&◌, if◌then◌else◌, Option, Some, None}
use Rattle.std.proofs.lemmas.Bool.{eqb-true, eq-eqb}
use Rattle.std.proofs.lemmas.Bool.Decides.{nat_tests}
use Rattle.std.proofs.lemmas.Option.{same_Some, none-some}
use denote.Enum.Bare.{same_true, true_same}
use Rattle.c_lex.specs.declared.token.Word.{Word}
use Rattle.c_lex.specs.declared.token.Word.TheVariants as w
use Rattle.c_lex.specs.contracts.token.Word.{the_type as word_type}
use Rattle.c_types.specs.Types.{CType}
use Rattle.typing_words.specs.Words.{role, is_word, without, put_first, is_so, are_same_words, type_named, type_table, is_no_word}
use Rattle.type_declarators.specs.Keywords.{one_more, no_types, is_type_role}
use Rattle.type_declarators.specs.Keywords.{TypeWord, a_void, a_boolean, a_character, a_short, an_int, a_long, a_signed, an_unsigned}
use Rattle.type_declarators.specs.Keywords.{word_of, kept, times, are_types, AreCounted, counts_of, are_same, named_by}
use Rattle.type_declarators.specs.declared.words.Types.{Types}
use Rattle.type_declarators.proofs.Keywords.{step_count, zero_kept}

-- 1. Words.

is_self : (v : Word) → is_word v v ≡ true
unfolding is_word
is_self v = true_same word_type v v refl

is_it : (v u : Word) → is_word v u ≡ true → v ≡ u
unfolding is_word
is_it v u e = same_true word_type (search rules) v u e

not_none : {A : Type 0} (a : A) (P : Type 0) → Some a ≡ None → P
not_none a P e = absurd (none-some a (sym e))

none_by : (b : Bool) (v : Word) (vs : List Word) (o : Option (List Word)) (n : ℕ) → (if b then Some vs else put_first v o) ≡ None
    → (o ≡ None → n ≡ 0) → (if b then n + 1 else n) ≡ 0
none_by true v vs o n e f = not_none vs (n + 1 ≡ 0) e
none_by false v vs None n e f = f refl
none_by false v vs (Some us) n e f = not_none (v ∷ us) (n ≡ 0) e

-- a word that can't be taken out doesn't stand there
without_none : (word : Word) (vs : List Word) → without word vs ≡ None → times word vs ≡ 0
without_none word [] e = refl
without_none word (v ∷ vs) e = none_by (is_word v word) v vs (without word vs) (times word vs) e (without_none word vs)

swap_by : (a b : Bool) (n m : ℕ) → n ≡ (if b then m + 1 else m)
    → (if a then n + 1 else n) ≡ (if b then (if a then m + 1 else m) + 1 else (if a then m + 1 else m))
swap_by true true n m e = ap (λ k. k + 1) e
swap_by true false n m e = ap (λ k. k + 1) e
swap_by false true n m e = e
swap_by false false n m e = e

some_by : (word v u : Word) (b : Bool) (vs us : List Word) (o : Option (List Word)) → is_word v word ≡ b
    → (if b then Some vs else put_first v o) ≡ Some us
    → ((xs : List Word) → o ≡ Some xs → times u vs ≡ (if is_word word u then times u xs + 1 else times u xs))
    → times u (v ∷ vs) ≡ (if is_word word u then times u us + 1 else times u us)
some_by word v u true vs us o is e f =
    ap (λ x. if is_word x u then times u vs + 1 else times u vs) (is_it v word is)
    ∙ ap (λ xs. if is_word word u then times u xs + 1 else times u xs) (same_Some vs us e)
some_by word v u false vs us None is e f = absurd (none-some us e)
some_by word v u false vs us (Some xs) is e f =
    swap_by (is_word v u) (is_word word u) (times u vs) (times u xs) (f xs refl)
    ∙ ap (λ ys. if is_word word u then times u ys + 1 else times u ys) (same_Some (v ∷ xs) us e)

-- each word stands there as often as before, but the one that is taken out
without_some : (word u : Word) (vs us : List Word) → without word vs ≡ Some us
    → times u vs ≡ (if is_word word u then times u us + 1 else times u us)
without_some word u [] us e = absurd (none-some us e)
without_some word u (v ∷ vs) us e =
    some_by word v u (is_word v word) vs us (without word vs) refl e (λ xs is. without_some word u vs xs is)

zero_by : (b : Bool) (n : ℕ) → b ≡ true → (if b then n + 1 else n) ≡ 0 → true ≡ false
zero_by true n is e = absurd (omega arith)
zero_by false n is e = sym is

cancel_by : (b : Bool) (m n : ℕ) → (if b then m + 1 else m) ≡ (if b then n + 1 else n) → m ≡ n
cancel_by true m n e = omega arith
cancel_by false m n e = e

same_to_by : (word : Word) (row words : List Word) (o : Option (List Word)) → without word words ≡ o
    → ((u : Word) → times u (word ∷ row) ≡ times u words)
    → ((us : List Word) → ((u : Word) → times u row ≡ times u us) → are_same_words row us ≡ true) → is_so (are_same_words row) o ≡ true
same_to_by word row words None is f rest = sym (zero_by (is_word word word) (times word row) (is_self word) (f word ∙ without_none word words is))
same_to_by word row words (Some us) is f rest =
    rest us (λ u. cancel_by (is_word word u) (times u row) (times u us) (f u ∙ without_some word u words us is))

-- lists in which each word stands as often are the same words in some order
same_to : (row words : List Word) → ((u : Word) → times u row ≡ times u words) → are_same_words row words ≡ true
same_to [] [] f = refl
same_to [] (v ∷ vs) f = sym (zero_by (is_word v v) (times v vs) (is_self v) (sym (f v)))
same_to (word ∷ row) words f = same_to_by word row words (without word words) refl f (λ us g. same_to row us g)

same_from_by : (word : Word) (row words : List Word) (o : Option (List Word)) → without word words ≡ o → is_so (are_same_words row) o ≡ true
    → ((us : List Word) → are_same_words row us ≡ true → (u : Word) → times u row ≡ times u us) → (u : Word) → times u (word ∷ row) ≡ times u words
same_from_by word row words None is e rest u = absurd (true≢false (sym e))
same_from_by word row words (Some us) is e rest u =
    ap (λ n. if is_word word u then n + 1 else n) (rest us e u) ∙ sym (without_some word u words us is)

same_from : (row words : List Word) → are_same_words row words ≡ true → (u : Word) → times u row ≡ times u words
same_from [] [] e u = refl
same_from [] (v ∷ vs) e u = absurd (true≢false (sym e))
same_from (word ∷ row) words e u = same_from_by word row words (without word words) refl e (λ us same. same_from row us same) u

-- 2. Counts.

row_by : (b : Bool) (a n : ℕ) → a ≡ min n 255 → (if b then one_more a else a) ≡ min (if b then n + 1 else n) 255
row_by true a n e = omega arith
row_by false a n e = e

-- a list is counted
row_counts : (k : TypeWord) (row : List Word) → kept k (counts_of row) ≡ min (times (word_of k) row) 255
row_counts k [] = zero_kept k
row_counts k (v ∷ vs) =
    step_count k v (counts_of vs) ∙ row_by (is_word v (word_of k)) (kept k (counts_of vs)) (times (word_of k) vs) (row_counts k vs)

length_by : (b : Bool) (n l : ℕ) → n ≤ l → (if b then n + 1 else n) ≤ l + 1
length_by true n l e = omega arith
length_by false n l e = omega arith

times_few : (u : Word) (row : List Word) → times u row ≤ length row
times_few u [] = omega arith
times_few u (v ∷ vs) = let h = length_by (is_word v u) (times u vs) (length vs) (times_few u vs) in omega (arith, h)

which_type : (u : Word) → ((k : TypeWord) × (u ≡ word_of k)) ⊎ (is_type_role (role u) ≡ false)
which_type w.Void = inl (a_void, refl)
which_type w.Boolean = inl (a_boolean, refl)
which_type w.Char = inl (a_character, refl)
which_type w.Short = inl (a_short, refl)
which_type w.Int = inl (an_int, refl)
which_type w.Long = inl (a_long, refl)
which_type w.Signed = inl (a_signed, refl)
which_type w.Unsigned = inl (an_unsigned, refl)
which_type _ = inr refl

and_left : (a b : Bool) → (a && b) ≡ true → a ≡ true
and_left true b e = refl
and_left false b e = e

and_right : (a b : Bool) → (a && b) ≡ true → b ≡ true
and_right true b e = e
and_right false b e = absurd (true≢false (sym e))

both : (a b : Bool) → a ≡ true → b ≡ true → (a && b) ≡ true
both true b e f = f
both false b e f = e

other_by : (v u : Word) (b : Bool) (n : ℕ) → is_word v u ≡ b → is_type_role (role v) ≡ true → is_type_role (role u) ≡ false → n ≡ 0
    → (if b then n + 1 else n) ≡ 0
other_by v u true n is type other zero = absurd (true≢false (sym type ∙ ap (λ x. is_type_role (role x)) (is_it v u is) ∙ other))
other_by v u false n is type other zero = zero

-- among type specifiers stands no other word
other_zero : (u : Word) (vs : List Word) → is_type_role (role u) ≡ false → are_types vs ≡ true → times u vs ≡ 0
other_zero u [] other types = refl
other_zero u (v ∷ vs) other types =
    other_by v u (is_word v u) (times u vs) refl (and_left (is_type_role (role v)) (are_types vs) types) other
    (other_zero u vs other (and_right (is_type_role (role v)) (are_types vs) types))

same_fields : (a b : Types) → are_same a b ≡ true → (k : TypeWord) → kept k a ≡ kept k b
same_fields a b e k =
    let e1 = and_right (a.void == b.void) _ e in
    let e2 = and_right (a.boolean == b.boolean) _ e1 in
    let e3 = and_right (a.character == b.character) _ e2 in
    let e4 = and_right (a.short == b.short) _ e3 in
    let e5 = and_right (a.int == b.int) _ e4 in
    let e6 = and_right (a.long == b.long) _ e5 in
    elim k as (λ x. kept x a ≡ kept x b) [
      | a_void ↦ eqb-true a.void b.void (and_left (a.void == b.void) _ e)
      | a_boolean ↦ eqb-true a.boolean b.boolean (and_left (a.boolean == b.boolean) _ e1)
      | a_character ↦ eqb-true a.character b.character (and_left (a.character == b.character) _ e2)
      | a_short ↦ eqb-true a.short b.short (and_left (a.short == b.short) _ e3)
      | an_int ↦ eqb-true a.int b.int (and_left (a.int == b.int) _ e4)
      | a_long ↦ eqb-true a.long b.long (and_left (a.long == b.long) _ e5)
      | a_signed ↦ eqb-true a.signed b.signed (and_left (a.signed == b.signed) _ e6)
      | an_unsigned ↦ eqb-true a.unsigned b.unsigned (and_right (a.signed == b.signed) _ e6)
    ]

all_fields : (a b : Types) → ((k : TypeWord) → kept k a ≡ kept k b) → are_same a b ≡ true
all_fields a b f =
    both (a.void == b.void) _ (eq-eqb a.void b.void (f a_void))
    (both (a.boolean == b.boolean) _ (eq-eqb a.boolean b.boolean (f a_boolean))
    (both (a.character == b.character) _ (eq-eqb a.character b.character (f a_character))
    (both (a.short == b.short) _ (eq-eqb a.short b.short (f a_short))
    (both (a.int == b.int) _ (eq-eqb a.int b.int (f an_int))
    (both (a.long == b.long) _ (eq-eqb a.long b.long (f a_long))
    (both (a.signed == b.signed) _ (eq-eqb a.signed b.signed (f a_signed)) (eq-eqb a.unsigned b.unsigned (f an_unsigned))))))))

same_by : (t u : Bool) → (t ≡ true → u ≡ true) → (u ≡ true → t ≡ true) → t ≡ u
same_by true u f g = sym (f refl)
same_by false true f g = g refl
same_by false false f g = refl

few_same : (a b m n : ℕ) → a ≡ b → a ≡ min m 255 → b ≡ min n 255 → n ≤ 4 → m ≡ n
few_same a b m n e f g few = omega arith

-- 3. Rows of the table.

times_same : (t : Types) (row words : List Word) → AreCounted t words → are_types row ≡ true → length row ≤ 4 → are_same t (counts_of row) ≡ true
    → (u : Word) → times u row ≡ times u words
times_same t row words c types few same u = elim (which_type u) [
  | inl p ↦
      (let k = p.0 in
      let low : times (word_of k) row ≤ 4 = let h = times_few (word_of k) row in omega arith in
      let e : times (word_of k) words ≡ times (word_of k) row =
      few_same (kept k t) (kept k (counts_of row)) (times (word_of k) words) (times (word_of k) row) (same_fields t (counts_of row) same k)
      (c.counts k) (row_counts k row) low in
      ap (λ x. times x row) p.1 ∙ sym e ∙ ap (λ x. times x words) (sym p.1))
  | inr other ↦ other_zero u row other types ∙ sym (other_zero u words other c.types)
]

-- the words are those of the row just where their counts are
pub row_is : (t : Types) (row words : List Word) → AreCounted t words → are_types row ≡ true → length row ≤ 4
    → are_same t (counts_of row) ≡ are_same_words row words
row_is t row words c types few = same_by (are_same t (counts_of row)) (are_same_words row words)
    (λ same. same_to row words (times_same t row words c types few same))
    (λ same. all_fields t (counts_of row) (λ k. c.counts k
    ∙ ap (λ n. min n 255) (sym (same_from row words same (word_of k))) ∙ sym (row_counts k row)))

abbrev are_rows : List (List Word × CType) → Bool
are_rows [] = true
are_rows (row ∷ rows) = (are_types row.0 && nat_le (length row.0) 4) && are_rows rows

few_by : (n : ℕ) → nat_le n 4 ≡ true → n ≤ 4
few_by n e = grind (arith, nat_tests)

rows_are : (t : Types) (words : List Word) → AreCounted t words → (rows : List (List Word × CType)) → are_rows rows ≡ true
    → named_by t rows ≡ type_named words rows
rows_are t words c [] e = refl
rows_are t words c (row ∷ rows) e =
    let first = and_left (are_types row.0 && nat_le (length row.0) 4) (are_rows rows) e in
    let types = and_left (are_types row.0) (nat_le (length row.0) 4) first in
    let few = few_by (length row.0) (and_right (are_types row.0) (nat_le (length row.0) 4) first) in
    ap (λ b. if b then Some row.1 else named_by t rows) (row_is t row.0 words c types few)
    ∙ ap (λ o. if are_same_words row.0 words then Some row.1 else o)
    (rows_are t words c rows (and_right (are_types row.0 && nat_le (length row.0) 4) (are_rows rows) e))

-- the type that the words name (6.7.2p2)
pub named_is : (t : Types) (words : List Word) → AreCounted t words → named_by t type_table ≡ type_named words type_table
named_is t words c = rows_are t words c type_table refl

no_word : (words : List Word) → are_same_words [] words ≡ is_no_word words
no_word [] = refl
no_word (v ∷ vs) = refl

-- no type specifier stands there
pub none_is : (t : Types) (words : List Word) → AreCounted t words → are_same t no_types ≡ is_no_word words
none_is t words c = row_is t [] words c refl (omega arith) ∙ no_word words

-- 4. Rows behind others.

first_by : (b : Bool) (t : Types) (x y : CType) (rows more : List (List Word × CType)) → Some x ≡ (if b then Some y else named_by t rows)
    → (Some x ≡ named_by t rows → Some x ≡ named_by t (rows ++ more)) → Some x ≡ (if b then Some y else named_by t (rows ++ more))
first_by true t x y rows more e f = e
first_by false t x y rows more e f = f e

pub first_rows : (t : Types) (x : CType) (rows more : List (List Word × CType)) → Some x ≡ named_by t rows → Some x ≡ named_by t (rows ++ more)
first_rows t x [] more e = absurd (none-some x (sym e))
first_rows t x (row ∷ rows) more e = first_by (are_same t (counts_of row.0)) t x row.1 rows more e (first_rows t x rows more)

next_by : (b : Bool) (t : Types) (y : CType) (rows more : List (List Word × CType)) → None ≡ (if b then Some y else named_by t rows)
    → (None ≡ named_by t rows → named_by t more ≡ named_by t (rows ++ more)) → named_by t more ≡ (if b then Some y else named_by t (rows ++ more))
next_by true t y rows more e f = absurd (none-some y e)
next_by false t y rows more e f = f e
