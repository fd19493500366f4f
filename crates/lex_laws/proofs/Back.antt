-- What stands at the front of a text is what the function finds.
use Rattle.std.proofs.Common.{◌≡◌, ℕ, ◌+◌, Bool, true, false, ◌&&◌, ◌||◌, ◌==◌, List, [], ◌∷◌, ◌++◌, length, take, Option, Some, None, Ok, Err, refl, ap}
use Rattle.std.proofs.Common.{sym, subst, ◌∙◌, inl, inr, if◌then◌else◌, arith}
use Rattle.std.specs.Char.{is_ascii_digit}
use Rattle.std.specs.List.{prefix_len}
use Rattle.std.proofs.lemmas.Bool.Decides.{nat_tests}
use Rattle.c_lex.specs.Bytes.{begins, begins_name, is_blank, is_in_line, is_name_byte}
use Rattle.c_lex.specs.Integers.{is_integer}
use Rattle.c_lex.specs.Marks.{IsMark, mark_text, other_text}
use Rattle.c_lex.specs.Pieces.{comment_piece, kind_of_word, literal_piece, mark_piece, name_piece, number_piece, piece_of, slash_piece}
use Rattle.c_lex.specs.Runs.{number_end}
use Rattle.c_lex.specs.Words.{word_of}
use Rattle.c_lex.specs.declared.piece.Piece.TheVariants as p
use Rattle.c_lex.specs.declared.piece.Wrong.TheVariants as w
use Rattle.c_lex.specs.declared.token.Mark.{Mark}
use Rattle.c_lex.specs.declared.token.Mark.TheVariants.{OpenBracket}
use Rattle.c_lex.specs.declared.token.TokenKind.{TokenKind}
use Rattle.c_lex.specs.declared.token.TokenKind.TheVariants.{Name, Keyword, Number, CharLit, StringLit, Punct}
use Rattle.c_lex.specs.declared.token.Word.{Word}
use Rattle.lex_laws.specs.Fronts.{BeginsComment, BeginsFraction, BeginsNumber, IsBlanks, IsBlockComment, IsLineComment, IsName, IsNumber, IsOpen}
use Rattle.lex_laws.specs.Fronts.{IsOpenComment, IsPrefixed}
use Rattle.lex_laws.specs.Lexes.{HasBadNumber, IsOpening, IsPiece, IsToken, Piece, Blanks, LineFeed, Comment, PassedLine, Marker, Spelled}
use Rattle.lex_laws.proofs.Closings.{comment_found, comment_lost, literal_found, literal_lost}
use Rattle.lex_laws.proofs.Lines.{marker_read, passed_read}
use Rattle.lex_laws.proofs.Marks.{longest_read, mark_size}
use Rattle.lex_laws.proofs.Numbers.{end_of_goes, integer_back, integer_is}
use Rattle.lex_laws.proofs.Parts.{front_of, len_is}
use Rattle.lex_laws.proofs.Pieces.{first_same, number_is, one_more, piece_for}
use Rattle.lex_laws.proofs.Words.{keyword_word, name_piece_is, name_word}

-- the text begins with this byte, and goes on so
moved : (fresh : Bool) (b c : ℕ) (bs cs : List ℕ) → b ∷ bs ≡ c ∷ cs → piece_of fresh b bs ≡ piece_of fresh c cs
moved fresh b c bs cs e =
    let head : b ≡ c = first_same b c bs cs e in
    let tail : bs ≡ cs = (let q = e in cc) in
    λ i. piece_of fresh (head i) (tail i)

-- ---- names

begins_here : (fresh : Bool) (c : ℕ) (cs : List ℕ) → begins_name c ≡ true → piece_of fresh c cs ≡ name_piece (c ∷ cs) (1 + prefix_len is_name_byte cs)
begins_here fresh c cs h = rw h refl

name_here : (fresh : Bool) (part rest : List ℕ) (w : Option Word) (b : ℕ) (bs : List ℕ) → b ∷ bs ≡ part ++ rest → IsName part rest
    → (IsPrefixed part rest → ⊥) → word_of part ≡ w → piece_of fresh b bs ≡ Ok (p.Spelled (kind_of_word w) (length part))
name_here fresh part rest w b bs same h bare word =
    let whole : b ∷ bs ≡ h.first ∷ (h.others ++ rest) = same ∙ ap (λ f. f ++ rest) h.spelled in
    let len : 1 + prefix_len is_name_byte (h.others ++ rest) ≡ length part =
    ap (λ n. 1 + n) (len_is is_name_byte h.others rest (h.others ++ rest) refl h.run) ∙ one_more (length h.others) ∙ sym (ap length h.spelled) in
    moved fresh b h.first bs (h.others ++ rest) whole
    ∙ begins_here fresh h.first (h.others ++ rest) h.begins_so
    ∙ name_piece_is (h.first ∷ (h.others ++ rest)) part rest (1 + prefix_len is_name_byte (h.others ++ rest)) w (sym whole ∙ same) len bare word

token_name : (fresh : Bool) (part rest : List ℕ) (b : ℕ) (bs : List ℕ) → b ∷ bs ≡ part ++ rest → IsToken Name part rest
    → piece_of fresh b bs ≡ Ok (p.Spelled Name (length part))
token_name fresh part rest b bs same h = name_here fresh part rest None b bs same h.0 h.2 (name_word part h.1)

token_keyword : (fresh : Bool) (word : Word) (part rest : List ℕ) (b : ℕ) (bs : List ℕ) → b ∷ bs ≡ part ++ rest → IsToken (Keyword word) part rest
    → piece_of fresh b bs ≡ Ok (p.Spelled (Keyword word) (length part))
token_keyword fresh word part rest b bs same h = name_here fresh part rest (Some word) b bs same h.0 h.2 (keyword_word part word h.1)

-- ---- numbers

-- a byte that no name, line feed or white space begins with
abbrev IsOther : ℕ → Type 0
IsOther c = (begins_name c ≡ false) × ((c == 10) ≡ false) × (is_blank c ≡ false)

digit_other : (c : ℕ) → is_ascii_digit c ≡ true → IsOther c
digit_other c h = (grind (arith, nat_tests), grind (arith, nat_tests), grind (arith, nat_tests))

number_other : (c : ℕ) (x : Bool) → (is_ascii_digit c || ((c == 46) && x)) ≡ true → IsOther c
number_other c x h = by (is_ascii_digit c) (c == 46) refl refl h
  where
    by : (d t : Bool) → is_ascii_digit c ≡ d → (c == 46) ≡ t → (d || (t && x)) ≡ true → IsOther c
    by true t is dot h = digit_other c is
    by false true is dot h = subst IsOther (sym (number_is c 46 dot)) (refl, refl, refl)
    by false false is dot h = absurd (cc)

number_begins : (fresh : Bool) (c : ℕ) (cs : List ℕ) → IsOther c → BeginsNumber c cs → piece_of fresh c cs ≡ number_piece (c ∷ cs) (number_end 1 c cs)
number_begins fresh c cs other h = rw (other.0, other.1, other.2, h) refl

number_here : (fresh : Bool) (part rest : List ℕ) (b : ℕ) (bs : List ℕ) → b ∷ bs ≡ part ++ rest → IsNumber part rest
    → piece_of fresh b bs ≡ (if is_integer part then Ok (p.Spelled Number (length part)) else Err w.BadNumber)
number_here fresh part rest b bs same h =
    let whole : b ∷ bs ≡ h.first ∷ (h.others ++ rest) = same ∙ ap (λ f. f ++ rest) h.spelled in
    let other = number_other h.first (begins is_ascii_digit (h.others ++ rest)) h.begins_so in
    let len : number_end 1 h.first (h.others ++ rest) ≡ length part =
    end_of_goes 1 h.first h.others rest h.goes ∙ one_more (length h.others) ∙ sym (ap length h.spelled) in
    let front : take (number_end 1 h.first (h.others ++ rest)) (h.first ∷ (h.others ++ rest)) ≡ part =
    ap (λ n. take n (h.first ∷ (h.others ++ rest))) len ∙ front_of part rest (h.first ∷ (h.others ++ rest)) (sym whole ∙ same) in
    moved fresh b h.first bs (h.others ++ rest) whole
    ∙ number_begins fresh h.first (h.others ++ rest) other h.begins_so
    ∙ (λ i. if is_integer (front i) then Ok (p.Spelled Number (len i)) else Err w.BadNumber)

token_number : (fresh : Bool) (part rest : List ℕ) (b : ℕ) (bs : List ℕ) → b ∷ bs ≡ part ++ rest → IsToken Number part rest
    → piece_of fresh b bs ≡ Ok (p.Spelled Number (length part))
token_number fresh part rest b bs same h = number_here fresh part rest b bs same h.0
    ∙ ap (λ t. if t then Ok (p.Spelled Number (length part)) else Err w.BadNumber) (integer_back part h.1)

none_true : (t : Bool) → (t ≡ true → ⊥) → t ≡ false
none_true true never = absurd (never refl)
none_true false never = refl

pub bad_number_here : (fresh : Bool) (b : ℕ) (bs : List ℕ) → HasBadNumber (b ∷ bs) → piece_of fresh b bs ≡ Err w.BadNumber
bad_number_here fresh b bs h = number_here fresh h.part h.rest b bs h.spelled h.is
    ∙ ap (λ t. if t then Ok (p.Spelled Number (length h.part)) else Err w.BadNumber) (none_true (is_integer h.part) (λ e. h.not_integer
    (integer_is h.part e)))

-- ---- literals and comments

token_string : (fresh : Bool) (part rest : List ℕ) (b : ℕ) (bs : List ℕ) → b ∷ bs ≡ part ++ rest → IsToken StringLit part rest
    → piece_of fresh b bs ≡ Ok (p.Spelled StringLit (length part))
token_string fresh part rest b bs same h =
    let head : b ≡ 34 = first_same b 34 bs ((h.body ++ 34 ∷ []) ++ rest) (same ∙ ap (λ f. f ++ rest) h.spelled) in
    let e = literal_found 34 part rest bs (λ q. absurd (omega arith)) h (ap (λ c. c ∷ bs) (sym head) ∙ same) in
    ap (λ c. piece_of fresh c bs) head ∙ ap (literal_piece StringLit) e.1 ∙ ap (λ n. Ok (p.Spelled StringLit n)) e.2

token_char : (fresh : Bool) (part rest : List ℕ) (b : ℕ) (bs : List ℕ) → b ∷ bs ≡ part ++ rest → IsToken CharLit part rest
    → piece_of fresh b bs ≡ Ok (p.Spelled CharLit (length part))
token_char fresh part rest b bs same h =
    let head : b ≡ 39 = first_same b 39 bs ((h.body ++ 39 ∷ []) ++ rest) (same ∙ ap (λ f. f ++ rest) h.spelled) in
    let e = literal_found 39 part rest bs (λ q. absurd (omega arith)) h (ap (λ c. c ∷ bs) (sym head) ∙ same) in
    ap (λ c. piece_of fresh c bs) head ∙ ap (literal_piece CharLit) e.1 ∙ ap (λ n. Ok (p.Spelled CharLit n)) e.2

block_comment : (fresh : Bool) (part rest : List ℕ) (b : ℕ) (bs : List ℕ) → b ∷ bs ≡ part ++ rest → IsBlockComment part
    → piece_of fresh b bs ≡ Ok (p.Passed (length part))
block_comment fresh part rest b bs same h =
    let behind = (h.inside ++ 47 ∷ []) ++ rest in
    let whole : b ∷ bs ≡ 47 ∷ 42 ∷ behind = same ∙ ap (λ f. f ++ rest) h.spelled in
    let e = comment_found part rest behind h (sym whole ∙ same) in
    moved fresh b 47 bs (42 ∷ behind) whole ∙ ap comment_piece e.1 ∙ ap (λ n. Ok (p.Passed n)) e.2

line_comment : (fresh : Bool) (part rest : List ℕ) (b : ℕ) (bs : List ℕ) → b ∷ bs ≡ part ++ rest → IsLineComment part rest
    → piece_of fresh b bs ≡ Ok (p.Passed (length part))
line_comment fresh part rest b bs same h =
    let whole : b ∷ bs ≡ 47 ∷ 47 ∷ (h.body ++ rest) = same ∙ ap (λ f. f ++ rest) h.spelled in
    let len = len_is is_in_line h.body rest (h.body ++ rest) refl h.run in
    moved fresh b 47 bs (47 ∷ (h.body ++ rest)) whole
    ∙ ap (λ n. Ok (p.Passed n)) (let e = ap length h.spelled in omega arith)

pub opening_here : (fresh : Bool) (b : ℕ) (bs : List ℕ) → IsOpening (b ∷ bs) → piece_of fresh b bs ≡ Err w.OpenLiteral
opening_here fresh b bs (inl h) =
    let head : b ≡ 34 = first_same b 34 bs h.behind h.spelled in
    ap (λ c. piece_of fresh c bs) head ∙ ap (literal_piece StringLit) (literal_lost 34 bs (subst (λ c. IsOpen 34 (c ∷ bs)) head h))
opening_here fresh b bs (inr (inl h)) =
    let head : b ≡ 39 = first_same b 39 bs h.behind h.spelled in
    ap (λ c. piece_of fresh c bs) head ∙ ap (literal_piece CharLit) (literal_lost 39 bs (subst (λ c. IsOpen 39 (c ∷ bs)) head h))
opening_here fresh b bs (inr (inr h)) =
    moved fresh b 47 bs (42 ∷ h.behind) h.spelled
    ∙ ap comment_piece (comment_lost h.behind (subst IsOpenComment h.spelled h))

-- ---- punctuators

-- the first byte of a spelling
abbrev first : List ℕ → ℕ
first [] = 0
first (c ∷ cs) = c

abbrev IsPlain : ℕ → Type 0
IsPlain c = (begins_name c ≡ false) × ((c == 10) ≡ false) × (is_blank c ≡ false) × (is_ascii_digit c ≡ false) × ((c == 34) ≡ false) × ((c == 39) ≡ false)
    × ((c == 35) ≡ false)

text_plain : (mark : Mark) → IsPlain (first (mark_text mark))
text_plain OpenBracket = (refl, refl, refl, refl, refl, refl, refl)
text_plain _ = (refl, refl, refl, refl, refl, refl, refl)

other_plain : (mark : Mark) → IsPlain (first (other_text mark))
other_plain OpenBracket = (refl, refl, refl, refl, refl, refl, refl)
other_plain _ = (refl, refl, refl, refl, refl, refl, refl)

mark_plain : (mark : Mark) (part : List ℕ) → IsMark mark part → IsPlain (first part)
mark_plain mark part (inl e) = subst (λ t. IsPlain (first t)) (sym e) (text_plain mark)
mark_plain mark part (inr e) = subst (λ t. IsPlain (first t)) (sym e) (other_plain mark)

slash_mark : (tail : List ℕ) → (BeginsComment (47 ∷ tail) → ⊥) → slash_piece (47 ∷ tail) tail ≡ mark_piece (47 ∷ tail)
slash_mark [] none = refl
slash_mark (c ∷ cs) none =
    let star : (c == 42) ≡ false = none_true (c == 42) (λ e. none (cs, inr (ap (λ d. 47 ∷ d ∷ cs) (number_is c 42 e)))) in
    let slash : (c == 47) ≡ false = none_true (c == 47) (λ e. none (cs, inl (ap (λ d. 47 ∷ d ∷ cs) (number_is c 47 e)))) in
    rw (star, slash) refl

no_fraction : (c : ℕ) (cs : List ℕ) → (BeginsFraction (c ∷ cs) → ⊥) → ((c == 46) && begins is_ascii_digit cs) ≡ false
no_fraction c [] none = by (c == 46)
  where
    by : (t : Bool) → (t && false) ≡ false
    by true = refl
    by false = refl
no_fraction c (d ∷ ds) none = none_true _ (λ e. none (
  d,
  (
    ds,
    ap (λ x. x ∷ d ∷ ds) (number_is c 46 (left (c == 46) (is_ascii_digit d) e)),
    right (c == 46)
        (is_ascii_digit d) e,
  ),
))
  where
    left : (x y : Bool) → (x && y) ≡ true → x ≡ true
    left true y e = refl
    left false y e = e

    right : (x y : Bool) → (x && y) ≡ true → y ≡ true
    right true y e = e
    right false y e = absurd (cc)

mark_here : (fresh : Bool) (c : ℕ) (cs : List ℕ) → IsPlain c → (BeginsComment (c ∷ cs) → ⊥) → (BeginsFraction (c ∷ cs) → ⊥)
    → piece_of fresh c cs ≡ mark_piece (c ∷ cs)
mark_here fresh c cs plain no_comment none = by (c == 47) refl
  where
    by : (t : Bool) → (c == 47) ≡ t → piece_of fresh c cs ≡ mark_piece (c ∷ cs)
    by true e = subst (λ d. (BeginsComment (d ∷ cs) → ⊥) → piece_of fresh d cs ≡ mark_piece (d ∷ cs)) (sym (number_is c 47 e))
        (λ never. slash_mark cs never) no_comment
    by false e =
        rw (plain.0, plain.1, plain.2, plain.3, no_fraction c cs none, plain.4, plain.5, e, plain.6) refl

head_of : (mark : Mark) (part rest : List ℕ) (b : ℕ) (bs : List ℕ) → IsMark mark part → b ∷ bs ≡ part ++ rest → first part ≡ b
head_of mark [] rest b bs is e = elim (mark_size mark [] is) [
  | inl n ↦ absurd (omega arith)
  | inr r ↦ elim r [ inl n ↦ absurd (omega arith) | inr n ↦ absurd (omega arith) ]
]
head_of mark (c ∷ cs) rest b bs is e = let q = e in cc

token_mark : (fresh : Bool) (mark : Mark) (part rest : List ℕ) (b : ℕ) (bs : List ℕ) → b ∷ bs ≡ part ++ rest → IsToken (Punct mark) part rest
    → piece_of fresh b bs ≡ Ok (p.Spelled (Punct mark) (length part))
token_mark fresh mark part rest b bs same h =
    let plain : IsPlain b = subst IsPlain (head_of mark part rest b bs h.spelled same) (mark_plain mark part h.spelled) in
    mark_here fresh b bs plain (λ c. h.no_comment (subst BeginsComment same c)) (λ c. h.no_fraction (subst BeginsFraction same c))
    ∙ longest_read (b ∷ bs) part rest mark same h.spelled (λ other spelling after is is_text. h.longest other spelling after is (sym same ∙ is_text))

-- ---- all of them

token_here : (fresh : Bool) (kind : TokenKind) (part rest : List ℕ) (b : ℕ) (bs : List ℕ) → b ∷ bs ≡ part ++ rest → IsToken kind part rest
    → piece_of fresh b bs ≡ Ok (p.Spelled kind (length part))
token_here fresh Name part rest b bs same h = token_name fresh part rest b bs same h
token_here fresh (Keyword word) part rest b bs same h = token_keyword fresh word part rest b bs same h
token_here fresh Number part rest b bs same h = token_number fresh part rest b bs same h
token_here fresh CharLit part rest b bs same h = token_char fresh part rest b bs same h
token_here fresh StringLit part rest b bs same h = token_string fresh part rest b bs same h
token_here fresh (Punct mark) part rest b bs same h = token_mark fresh mark part rest b bs same h

blank_other : (c : ℕ) → is_blank c ≡ true → (begins_name c ≡ false) × ((c == 10) ≡ false)
blank_other c h = (grind (arith, nat_tests), grind (arith, nat_tests))

blank_begins : (fresh : Bool) (c : ℕ) (cs : List ℕ) → (begins_name c ≡ false) × ((c == 10) ≡ false) → is_blank c ≡ true
    → piece_of fresh c cs ≡ Ok (p.Blank (1 + prefix_len is_blank cs))
blank_begins fresh c cs other h = rw (other.0, other.1, h) refl

blanks_here : (fresh : Bool) (part rest : List ℕ) (b : ℕ) (bs : List ℕ) → b ∷ bs ≡ part ++ rest → IsBlanks part rest
    → piece_of fresh b bs ≡ Ok (p.Blank (length part))
blanks_here fresh [] rest b bs same h = let n = h.some in absurd (omega arith)
blanks_here fresh (c ∷ cs) rest b bs same h =
    let other = blank_other c h.run.each.0 in
    let len = len_is is_blank cs rest (cs ++ rest) refl (record { each = h.run.each.1; stops = h.run.stops }) in
    moved fresh b c bs (cs ++ rest) same ∙ blank_begins fresh c (cs ++ rest) other h.run.each.0
    ∙ ap (λ n. Ok (p.Blank n)) (omega arith)

pub piece_here : (fresh : Bool) (piece : Piece) (part rest : List ℕ) (b : ℕ) (bs : List ℕ) → b ∷ bs ≡ part ++ rest → IsPiece fresh piece part rest
    → piece_of fresh b bs ≡ Ok (piece_for piece (length part))
piece_here fresh Blanks part rest b bs same h = blanks_here fresh part rest b bs same h
piece_here fresh LineFeed part rest b bs same h = moved fresh b 10 bs rest (same ∙ ap (λ f. f ++ rest) h)
piece_here fresh Comment part rest b bs same (inl h) = block_comment fresh part rest b bs same h
piece_here fresh Comment part rest b bs same (inr h) = line_comment fresh part rest b bs same h
piece_here fresh PassedLine part rest b bs same h =
    let head : b ≡ 35 = first_same b 35 bs (h.1.0 ++ rest) (same ∙ ap (λ f. f ++ rest) h.1.1.0.spelled) in
    (λ i. piece_of (h.0 i) (head i) bs) ∙ passed_read bs part h.1.0 rest (ap (λ c. c ∷ bs) (sym head) ∙ same) h.1.1.0 h.1.1.1
piece_here fresh (Marker number) part rest b bs same h =
    let head : b ≡ 35 = first_same b 35 bs ((h.1.line ++ h.1.feed) ++ rest) (same ∙ ap (λ f. f ++ rest) h.1.spelled) in
    (λ i. piece_of (h.0 i) (head i) bs) ∙ marker_read bs part rest number (ap (λ c. c ∷ bs) (sym head) ∙ same) h.1
piece_here fresh (Spelled kind) part rest b bs same h = token_here fresh kind part rest b bs same h
