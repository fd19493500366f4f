-- What the spellings of the kinds have in common, and what tells them apart.
use Rattle.std.proofs.Common.{◌≡◌, ℕ, ◌<◌, Bool, true, false, List, [], ◌∷◌, length, Option, Some, None, codes, refl, ap, sym, subst, ◌∙◌, arith, rules}
use Rattle.std.specs.Prelude.{if◌then◌else◌, ◌==◌, ◌||◌, ◌&&◌, ◌+◌, ◌-◌, ◌*◌}
use Rattle.std.specs.List.{list_all}
use Rattle.std.specs.Str.{bytes_eq, all_ascii_digits}
use Rattle.std.specs.Int.{is_in_range}
use Rattle.std.proofs.lemmas.Str.Parse.{IsNumeralModel, numerals_by_fold}
use Rattle.first_form.proofs.Runs.{both}
use Rattle.std.specs.Char.{is_ascii_digit}
use Rattle.std.proofs.lemmas.Fmt.{decimal_nonempty, digits_decimal}
use Rattle.first_form.specs.Bytes.{is_white, is_name_byte, is_number_byte, begins, run_of}
use Rattle.first_form.specs.Tokens.{IsConstant, IsSpelling, goes_on, mark_text, word_text}
use Rattle.first_form.specs.declared.token.TokenKind.{TokenKind}
use Rattle.first_form.specs.declared.token.TokenKind.TheVariants.{Name, Keyword, Number, Punct}
use Rattle.first_form.specs.declared.token.Word.{Word}
use Rattle.first_form.specs.declared.token.Word.TheVariants.{Int, Void, Return}
use Rattle.first_form.specs.declared.token.Mark.{Mark}
use Rattle.first_form.specs.declared.token.Mark.TheVariants.{OpenParen, CloseParen, OpenBrace, CloseBrace, Semicolon, Plus, Minus, Star, Slash, Percent}

-- a spelling begins with no white space, and goes on with bytes of the run that its first byte starts
pub record Shape (kind : TokenKind) (text : List ℕ) : Type 0 where
  pub first : ℕ
  pub tail : List ℕ
  pub is : text ≡ first ∷ tail
  pub black : is_white first ≡ false
  pub run : list_all (run_of first) tail ≡ true
  pub same : goes_on kind ≡ run_of first

digit_is_number_byte : (d : ℕ) → is_ascii_digit d ≡ true → is_number_byte d ≡ true
digit_is_number_byte d digit = ap (λ b. (((b || is_in_range 65 90 d) || is_in_range 97 122 d) || (d == 95)) || (d == 46)) digit

digit_is_black : (d : ℕ) → is_ascii_digit d ≡ true → is_white d ≡ false
digit_is_black d digit = grind arith

digits_run : (ds : List ℕ) → all_ascii_digits ds ≡ true → list_all is_number_byte ds ≡ true
digits_run [] all = refl
digits_run (d ∷ ds) all =
    let parts = both (is_ascii_digit d) (all_ascii_digits ds) all in
    ap (λ b. b && list_all is_number_byte ds) (digit_is_number_byte d parts.0) ∙ digits_run ds parts.1

-- the bytes of a number
digits_shape : (text : List ℕ) → all_ascii_digits text ≡ true → 0 < length text → Shape Number text
digits_shape [] all some = absurd (omega arith)
digits_shape (d ∷ ds) all some =
    let parts = both (is_ascii_digit d) (all_ascii_digits ds) all in
    let same : is_number_byte ≡ run_of d =
    ap {B = ℕ → Bool} (λ (b : Bool) (x : ℕ). if b then is_number_byte x else (if is_name_byte d then is_name_byte x else false)) (sym parts.0) in
    record { first = d; tail = ds; is = refl; black = digit_is_black d parts.0; run = ap (λ p. list_all p ds) (sym same) ∙ digits_run ds parts.1; same = same }

read_on : ℕ → List ℕ → ℕ
read_on n [] = n
read_on n (c ∷ cs) = read_on (10 * n + (c - 48)) cs

own : IsNumeralModel (λ ds. all_ascii_digits ds ≡ true) (read_on 0)
unfolding read_on
own = numerals_by_fold _ (search rules) read_on (search rules)

number_is_digits : (text : List ℕ) (n : ℕ) → IsConstant text n → all_ascii_digits text ≡ true
number_is_digits text n k = subst (λ t. all_ascii_digits t ≡ true) (sym k.digits) (digits_decimal own n (omega (arith, k.small)))

number_shape : (text : List ℕ) (n : ℕ) → IsConstant text n → Shape Number text
number_shape text n k = digits_shape text (number_is_digits text n k) (rw k.digits (decimal_nonempty n (omega (arith, k.small))))

begins_with_digit : (text : List ℕ) → all_ascii_digits text ≡ true → 0 < length text → begins is_ascii_digit text ≡ true
begins_with_digit [] all some = absurd (omega arith)
begins_with_digit (d ∷ ds) all some = (both (is_ascii_digit d) (all_ascii_digits ds) all).0

word_shape : (word : Word) → Shape (Keyword word) (word_text word)
word_shape Int = record { first = 105; tail = codes "nt"; is = refl; black = refl; run = refl; same = refl }
word_shape Void = record { first = 118; tail = codes "oid"; is = refl; black = refl; run = refl; same = refl }
word_shape Return = record { first = 114; tail = codes "eturn"; is = refl; black = refl; run = refl; same = refl }

mark_shape : (mark : Mark) → Shape (Punct mark) (mark_text mark)
mark_shape OpenParen = record { first = 40; tail = []; is = refl; black = refl; run = refl; same = refl }
mark_shape CloseParen = record { first = 41; tail = []; is = refl; black = refl; run = refl; same = refl }
mark_shape OpenBrace = record { first = 123; tail = []; is = refl; black = refl; run = refl; same = refl }
mark_shape CloseBrace = record { first = 125; tail = []; is = refl; black = refl; run = refl; same = refl }
mark_shape Semicolon = record { first = 59; tail = []; is = refl; black = refl; run = refl; same = refl }
mark_shape Plus = record { first = 43; tail = []; is = refl; black = refl; run = refl; same = refl }
mark_shape Minus = record { first = 45; tail = []; is = refl; black = refl; run = refl; same = refl }
mark_shape Star = record { first = 42; tail = []; is = refl; black = refl; run = refl; same = refl }
mark_shape Slash = record { first = 47; tail = []; is = refl; black = refl; run = refl; same = refl }
mark_shape Percent = record { first = 37; tail = []; is = refl; black = refl; run = refl; same = refl }

pub shape : (kind : TokenKind) (text : List ℕ) → IsSpelling kind text → Shape kind text
shape Name text is = subst (Shape Name) (sym is) (record { first = 109; tail = codes "ain"; is = refl; black = refl; run = refl; same = refl })
shape (Keyword word) text is = subst (Shape (Keyword word)) (sym is) (word_shape word)
shape Number text number = number_shape text number.0 number.1
shape (Punct mark) text is = subst (Shape (Punct mark)) (sym is) (mark_shape mark)

-- the kind that a spelling shows
abbrev kind_from : List ℕ → Option TokenKind
kind_from text =
    if begins is_ascii_digit text then Some Number else
    (if bytes_eq text (codes "main") then Some Name else
    (if bytes_eq text (codes "int") then Some (Keyword Int) else
    (if bytes_eq text (codes "void") then Some (Keyword Void) else
    (if bytes_eq text (codes "return") then Some (Keyword Return) else
    (if bytes_eq text (codes "(") then Some (Punct OpenParen) else
    (if bytes_eq text (codes ")") then Some (Punct CloseParen) else
    (if bytes_eq text (codes "{") then Some (Punct OpenBrace) else
    (if bytes_eq text (codes "}") then Some (Punct CloseBrace) else
    (if bytes_eq text (codes ";") then Some (Punct Semicolon) else
    (if bytes_eq text (codes "+") then Some (Punct Plus) else
    (if bytes_eq text (codes "-") then Some (Punct Minus) else
    (if bytes_eq text (codes "*") then Some (Punct Star) else
    (if bytes_eq text (codes "/") then Some (Punct Slash) else
    (if bytes_eq text (codes "%") then Some (Punct Percent) else None))))))))))))))

word_from : (word : Word) → kind_from (word_text word) ≡ Some (Keyword word)
word_from Int = refl
word_from Void = refl
word_from Return = refl

mark_from : (mark : Mark) → kind_from (mark_text mark) ≡ Some (Punct mark)
mark_from OpenParen = refl
mark_from CloseParen = refl
mark_from OpenBrace = refl
mark_from CloseBrace = refl
mark_from Semicolon = refl
mark_from Plus = refl
mark_from Minus = refl
mark_from Star = refl
mark_from Slash = refl
mark_from Percent = refl

kind_from_spelling : (kind : TokenKind) (text : List ℕ) → IsSpelling kind text → kind_from text ≡ Some kind
kind_from_spelling Name text is = ap kind_from is
kind_from_spelling (Keyword word) text is = ap kind_from is ∙ word_from word
kind_from_spelling Number text number =
    let k = number.1 in
    let digit = begins_with_digit text (number_is_digits text number.0 k) (rw k.digits (decimal_nonempty number.0 (omega (arith, k.small)))) in
    rw digit refl
kind_from_spelling (Punct mark) text is = ap kind_from is ∙ mark_from mark

-- a spelling has one kind
pub kinds_agree : (kind other : TokenKind) (text : List ℕ) → IsSpelling kind text → IsSpelling other text → kind ≡ other
kinds_agree kind other text is too =
    let e = sym (kind_from_spelling kind text is) ∙ kind_from_spelling other text too in cc
