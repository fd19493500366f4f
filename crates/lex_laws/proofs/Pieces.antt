-- What the function finds at the front of a text is what stands there.
use Rattle.std.proofs.Common.{◌≡◌, ℕ, suc, ◌+◌, Bool, true, false, ◌&&◌, ◌||◌, ◌==◌, List, [], ◌∷◌, ◌++◌, length, take, drop, Option, Result, Ok, Err, refl}
use Rattle.std.proofs.Common.{ap, sym, subst, ◌∙◌, inl, inr, if◌then◌else◌, arith}
use Rattle.std.specs.Char.{is_ascii_digit}
use Rattle.std.specs.List.{prefix_len}
use Rattle.std.proofs.lemmas.Bool.Decides.{nat_tests}
use Rattle.c_lex.specs.Bytes.{begins, begins_name, is_blank, is_in_line, is_name_byte, is_quote}
use Rattle.c_lex.specs.Integers.{is_integer}
use Rattle.c_lex.specs.Pieces.{comment_piece, directive_piece, is_prefix, kind_of_word, literal_piece, mark_piece, name_piece, number_piece, piece_of}
use Rattle.c_lex.specs.Pieces.{slash_piece}
use Rattle.c_lex.specs.Runs.{comment_end, literal_end, number_end}
use Rattle.c_lex.specs.Words.{word_of}
use Rattle.c_lex.specs.declared.piece.Piece.{Piece as Lexed}
use Rattle.c_lex.specs.declared.piece.Piece.TheVariants as p
use Rattle.c_lex.specs.declared.piece.Wrong.{Wrong}
use Rattle.c_lex.specs.declared.piece.Wrong.TheVariants as w
use Rattle.c_lex.specs.declared.token.TokenKind.TheVariants.{Number, CharLit, StringLit, Punct}
use Rattle.lex_laws.specs.Fronts.{BeginsComment, BeginsFraction, IsName, IsNumber}
use Rattle.lex_laws.specs.Lexes.{HasBadNumber, IsOpening, IsPiece, Piece, Blanks, LineFeed, Comment, PassedLine, Marker, Spelled}
use Rattle.lex_laws.proofs.Closings.{Closing, closed, unclosed, closing_of, Commenting, ended, endless, commenting_of}
use Rattle.lex_laws.proofs.Lines.{Directing, directing_of, passed, marker, neither}
use Rattle.lex_laws.proofs.Marks.{Marking, marked, marking_of, unmarked}
use Rattle.lex_laws.proofs.Numbers.{goes_of, integer_back, integer_is}
use Rattle.lex_laws.proofs.Parts.{Run, behind_of, front_of, run_of}
use Rattle.lex_laws.proofs.Words.{prefix_back, word_kind}

-- the piece of the function for a piece of so many bytes
abbrev pub piece_for : Piece → ℕ → Lexed
piece_for Blanks n = p.Blank n
piece_for LineFeed n = p.LineEnd
piece_for Comment n = p.Passed n
piece_for PassedLine n = p.Passed n
piece_for (Marker number) n = p.Marker number n
piece_for (Spelled kind) n = p.Spelled kind n

-- this piece of the function stands at the front
pub record Front (fresh : Bool) (text : List ℕ) (found : Lexed) : Type 0 where
  pub piece : Piece
  pub part : List ℕ
  pub rest : List ℕ
  pub spelled : text ≡ part ++ rest
  pub is : IsPiece fresh piece part rest
  pub same : found ≡ piece_for piece (length part)

-- what is found tells what stands at the front
abbrev pub Judged : Bool → List ℕ → Result Lexed Wrong → Type 0
Judged fresh text (Ok found) = Front fresh text found
Judged fresh text (Err w.Stray) = Unit {0}
Judged fresh text (Err w.OpenLiteral) = IsOpening text
Judged fresh text (Err w.BadNumber) = HasBadNumber text

if_judged : (P : Result Lexed Wrong → Type 0) (t : Bool) (x y : Result Lexed Wrong) → (t ≡ true → P x) → (t ≡ false → P y) → P (if t then x else y)
if_judged P true x y first second = first refl
if_judged P false x y first second = second refl

pub number_is : (m n : ℕ) → (m == n) ≡ true → m ≡ n
number_is m n h = grind (arith, nat_tests)

pub same_false : (m n : ℕ) → m ≡ n → (m == n) ≡ false → ⊥
same_false m n e h = grind (arith, nat_tests)

pub one_more : (n : ℕ) → 1 + n ≡ suc n
one_more n = omega arith

and_false : (x y : Bool) → (x && y) ≡ false → x ≡ true → y ≡ true → ⊥
and_false true true e a b = let q = e in cc
and_false true false e a b = let q = b in cc
and_false false y e a b = let q = a in cc

-- ---- names

name_as : (b : ℕ) (bs : List ℕ) (r : Run is_name_byte bs) → name_piece (b ∷ bs) (1 + prefix_len is_name_byte bs)
    ≡ (if is_prefix (b ∷ r.part) && begins is_quote r.rest then Err w.Stray else Ok (p.Spelled (kind_of_word (word_of (b ∷ r.part))) (length (b ∷ r.part))))
name_as b bs r =
    let len : 1 + prefix_len is_name_byte bs ≡ length (b ∷ r.part) = ap (λ n. 1 + n) r.len ∙ one_more (length r.part) in
    let spelled : b ∷ bs ≡ (b ∷ r.part) ++ r.rest = ap (λ xs. b ∷ xs) r.spelled in
    let front : take (1 + prefix_len is_name_byte bs) (b ∷ bs) ≡ b ∷ r.part = ap (λ n. take n (b ∷ bs)) len
    ∙ front_of (b ∷ r.part) r.rest (b ∷ bs) spelled in
    let behind : drop (1 + prefix_len is_name_byte bs) (b ∷ bs) ≡ r.rest = ap (λ n. drop n (b ∷ bs)) len ∙ behind_of (b ∷ r.part) r.rest (b ∷ bs) spelled in
    λ i. if is_prefix (front i) && begins is_quote (behind i) then Err w.Stray else Ok (p.Spelled (kind_of_word (word_of (front i))) (len i))

name_front : (b : ℕ) (bs : List ℕ) (r : Run is_name_byte bs) → begins_name b ≡ true → IsName (b ∷ r.part) r.rest
name_front b bs r h = record { first = b; others = r.part; spelled = refl; begins_so = h; run = r.run }

name_judged : (fresh : Bool) (b : ℕ) (bs : List ℕ) → begins_name b ≡ true → Judged fresh (b ∷ bs) (name_piece (b ∷ bs) (1 + prefix_len is_name_byte bs))
name_judged fresh b bs h =
    let r = run_of is_name_byte bs in
    subst (Judged fresh (b ∷ bs)) (sym (name_as b bs r))
    (if_judged (Judged fresh (b ∷ bs)) (is_prefix (b ∷ r.part) && begins is_quote r.rest) _ _ (λ is. tt)
    (λ bare. record {
      piece = Spelled (kind_of_word (word_of (b ∷ r.part)));
      part = b ∷ r.part;
      rest = r.rest;
      spelled = ap (λ xs. b ∷ xs) r.spelled;
      is = word_kind (b ∷ r.part) r.rest (word_of (b ∷ r.part)) refl (name_front b bs r h)
          (λ both. and_false _ _ bare (prefix_back (b ∷ r.part) both.0) both.1);
      same = refl;
    }))

-- ---- numbers

number_judged : (fresh : Bool) (b : ℕ) (bs : List ℕ) → (is_ascii_digit b || ((b == 46) && begins is_ascii_digit bs)) ≡ true
    → Judged fresh (b ∷ bs) (number_piece (b ∷ bs) (number_end 1 b bs))
number_judged fresh b bs h =
    let g = goes_of b bs in
    let len : number_end 1 b bs ≡ length (b ∷ g.part) = g.end 1 ∙ one_more (length g.part) in
    let spelled : b ∷ bs ≡ (b ∷ g.part) ++ g.rest = ap (λ xs. b ∷ xs) g.spelled in
    let front : take (number_end 1 b bs) (b ∷ bs) ≡ b ∷ g.part = ap (λ n. take n (b ∷ bs)) len ∙ front_of (b ∷ g.part) g.rest (b ∷ bs) spelled in
    let number : IsNumber (b ∷ g.part) g.rest = record {
      first = b;
      others = g.part;
      spelled = refl;
      begins_so = subst (λ xs. (is_ascii_digit b || ((b == 46) && begins is_ascii_digit xs)) ≡ true) g.spelled h;
      goes = g.goes;
    } in
    let read : number_piece (b ∷ bs) (number_end 1 b bs) ≡ (if is_integer (b ∷ g.part) then Ok (p.Spelled Number (length
    (b ∷ g.part))) else Err w.BadNumber) =
    (λ i. if is_integer (front i) then Ok (p.Spelled Number (len i)) else Err w.BadNumber) in
    subst (Judged fresh (b ∷ bs)) (sym read)
    (if_judged (Judged fresh (b ∷ bs)) (is_integer (b ∷ g.part)) _ _
    (λ is. record { piece = Spelled Number; part = b ∷ g.part; rest = g.rest; spelled = spelled; is = (number, integer_is (b ∷ g.part) is); same = refl })
    (λ none. record {
      part = b ∷ g.part;
      rest = g.rest;
      spelled = spelled;
      is = number;
      not_integer = λ is. let e : true ≡ false = sym (integer_back (b ∷ g.part) is) ∙ none in cc;
    }))

-- ---- literals, comments and punctuators

string_judged : (fresh : Bool) (bs : List ℕ) (o : Option ℕ) → Closing 34 (34 ∷ bs) o → Judged fresh (34 ∷ bs) (literal_piece StringLit o)
string_judged fresh bs o (closed part rest spelled is n some len) = subst (λ f. Judged fresh (34 ∷ bs) (literal_piece StringLit f)) (sym some)
    (record { piece = Spelled StringLit; part = part; rest = rest; spelled = spelled; is = is; same = ap (p.Spelled StringLit) len })
string_judged fresh bs o (unclosed is none) = subst (λ f. Judged fresh (34 ∷ bs) (literal_piece StringLit f)) (sym none) (inl is)

char_judged : (fresh : Bool) (bs : List ℕ) (o : Option ℕ) → Closing 39 (39 ∷ bs) o → Judged fresh (39 ∷ bs) (literal_piece CharLit o)
char_judged fresh bs o (closed part rest spelled is n some len) = subst (λ f. Judged fresh (39 ∷ bs) (literal_piece CharLit f)) (sym some)
    (record { piece = Spelled CharLit; part = part; rest = rest; spelled = spelled; is = is; same = ap (p.Spelled CharLit) len })
char_judged fresh bs o (unclosed is none) = subst (λ f. Judged fresh (39 ∷ bs) (literal_piece CharLit f)) (sym none) (inr (inl is))

comment_judged : (fresh : Bool) (bs : List ℕ) (o : Option ℕ) → Commenting (47 ∷ 42 ∷ bs) o → Judged fresh (47 ∷ 42 ∷ bs) (comment_piece o)
comment_judged fresh bs o (ended part rest spelled is n some len) = subst (λ f. Judged fresh (47 ∷ 42 ∷ bs) (comment_piece f)) (sym some)
    (record { piece = Comment; part = part; rest = rest; spelled = spelled; is = inl is; same = ap p.Passed len })
comment_judged fresh bs o (endless is none) = subst (λ f. Judged fresh (47 ∷ 42 ∷ bs) (comment_piece f)) (sym none) (inr (inr is))

line_judged : (fresh : Bool) (bs : List ℕ) → Judged fresh (47 ∷ 47 ∷ bs) (Ok (p.Passed (1 + prefix_len is_in_line (47 ∷ bs))))
line_judged fresh bs =
    let r = run_of is_in_line bs in
    record {
      piece = Comment;
      part = 47 ∷ 47 ∷ r.part;
      rest = r.rest;
      spelled = ap (λ xs. 47 ∷ 47 ∷ xs) r.spelled;
      is = inr (record { body = r.part; spelled = refl; run = r.run });
      same = ap p.Passed (let l = r.len in omega arith);
    }

mark_judged : (fresh : Bool) (text : List ℕ) (r : Result Lexed Wrong) → Marking text r → (BeginsComment text → ⊥) → (BeginsFraction text → ⊥)
    → Judged fresh text r
mark_judged fresh text _ (marked mark n l) no_comment no_fraction = record {
  piece = Spelled (Punct mark);
  part = l.part;
  rest = l.rest;
  spelled = l.spelled;
  is = record {
    spelled = l.is;
    longest = λ other spelling after is same. (let h = l.longest other spelling after is (l.spelled ∙ same) in let e = l.len in omega arith);
    no_comment = λ c. no_comment (subst BeginsComment (sym l.spelled) c);
    no_fraction = λ c. no_fraction (subst BeginsFraction (sym l.spelled) c);
  };
  same = ap (p.Spelled (Punct mark)) (sym l.len);
}
mark_judged fresh text _ (unmarked never) no_comment no_fraction = tt

pub first_same : (b c : ℕ) (bs cs : List ℕ) → b ∷ bs ≡ c ∷ cs → b ≡ c
first_same b c bs cs e = cc

no_fraction_at : (b : ℕ) (bs : List ℕ) → ((b == 46) && begins is_ascii_digit bs) ≡ false → BeginsFraction (b ∷ bs) → ⊥
no_fraction_at b bs none f =
    let e : b ∷ bs ≡ 46 ∷ f.0 ∷ f.1.0 = f.1.1 in
    let head : b ≡ 46 = first_same b 46 bs (f.0 ∷ f.1.0) e in
    let tail : bs ≡ f.0 ∷ f.1.0 = (let q = e in cc) in
    let is : ((b == 46) && begins is_ascii_digit bs) ≡ is_ascii_digit f.0 = (λ i. (head i == 46) && begins is_ascii_digit (tail i)) in
    let bad : true ≡ false = sym f.1.2 ∙ sym is ∙ none in cc

no_comment_alone : BeginsComment (47 ∷ []) → ⊥
no_comment_alone (c, inl e) = cc
no_comment_alone (c, inr e) = cc

second_same : (b c d e : ℕ) (cs es : List ℕ) → b ∷ c ∷ cs ≡ d ∷ e ∷ es → c ≡ e
second_same b c d e cs es q = cc

no_comment_behind : (c : ℕ) (cs : List ℕ) → (c == 42) ≡ false → (c == 47) ≡ false → BeginsComment (47 ∷ c ∷ cs) → ⊥
no_comment_behind c cs no_star no_slash (k, inl e) = same_false c 47 (second_same 47 c 47 47 cs k e) no_slash
no_comment_behind c cs no_star no_slash (k, inr e) = same_false c 42 (second_same 47 c 47 42 cs k e) no_star

slash_judged : (fresh : Bool) (tail : List ℕ) → Judged fresh (47 ∷ tail) (slash_piece (47 ∷ tail) tail)
slash_judged fresh [] = mark_judged fresh (47 ∷ []) _ (marking_of (47 ∷ []))
    no_comment_alone (no_fraction_at 47 [] refl)
slash_judged fresh (c ∷ cs) = if_judged (Judged fresh (47 ∷ c ∷ cs)) (c == 42) _ _
    (λ star. subst (λ d. Judged fresh (47 ∷ d ∷ cs) (comment_piece (comment_end 0 false cs))) (sym (number_is c 42 star)) (comment_judged fresh cs _
    (commenting_of cs)))
    (λ no_star. if_judged (Judged fresh (47 ∷ c ∷ cs)) (c == 47) _ _
    (λ slash. subst (λ d. Judged fresh (47 ∷ d ∷ cs) (Ok (p.Passed (1 + prefix_len is_in_line (d ∷ cs))))) (sym (number_is c 47 slash))
    (line_judged fresh cs))
    (λ no_slash. mark_judged fresh (47 ∷ c ∷ cs) _ (marking_of (47 ∷ c ∷ cs))
    (no_comment_behind c cs no_star no_slash) (no_fraction_at 47 (c ∷ cs) refl)))

directive_judged : (tail : List ℕ) (r : Result Lexed Wrong) → Directing tail r → Judged true (35 ∷ tail) r
directive_judged tail _ (passed part line rest n same is is_passed len) =
    record { piece = PassedLine; part = part; rest = rest; spelled = same; is = (refl, (line, (is, is_passed))); same = ap p.Passed len }
directive_judged tail _ (marker part rest number n same is len) =
    record { piece = Marker number; part = part; rest = rest; spelled = same; is = (refl, is); same = ap (p.Marker number) len }
directive_judged tail _ neither = tt

-- ---- all of them

blanks_judged : (fresh : Bool) (b : ℕ) (bs : List ℕ) → is_blank b ≡ true → Judged fresh (b ∷ bs) (Ok (p.Blank (1 + prefix_len is_blank bs)))
blanks_judged fresh b bs h =
    let r = run_of is_blank bs in
    record {
      piece = Blanks;
      part = b ∷ r.part;
      rest = r.rest;
      spelled = ap (λ xs. b ∷ xs) r.spelled;
      is = record { some = omega arith; run = record { each = (h, r.run.each); stops = r.run.stops } };
      same = ap p.Blank (let l = r.len in omega arith);
    }

or_right : (x y : Bool) → (x || y) ≡ false → y ≡ false
or_right true y e = let q = e in absurd (cc)
or_right false y e = e

no_comment_at : (b : ℕ) (bs : List ℕ) → (b == 47) ≡ false → BeginsComment (b ∷ bs) → ⊥
no_comment_at b bs no_slash (c, inl e) = same_false b 47 (first_same b 47 bs (47 ∷ c) e) no_slash
no_comment_at b bs no_slash (c, inr e) = same_false b 47 (first_same b 47 bs (42 ∷ c) e) no_slash

last_judged : (fresh : Bool) (b : ℕ) (bs : List ℕ) → (is_ascii_digit b || ((b == 46) && begins is_ascii_digit bs)) ≡ false → (b == 47) ≡ false
    → Judged fresh (b ∷ bs) (if (b == 35) && fresh then directive_piece bs else mark_piece (b ∷ bs))
last_judged fresh b bs no_number no_slash = by (b == 35) fresh refl
  where
    by : (t f : Bool) → (b == 35) ≡ t → Judged f (b ∷ bs) (if t && f then directive_piece bs else mark_piece (b ∷ bs))
    by true true is = subst (λ d. Judged true (d ∷ bs) (directive_piece bs)) (sym (number_is b 35 is)) (directive_judged bs _ (directing_of bs))
    by true false is = mark_judged false (b ∷ bs) _ (marking_of (b ∷ bs)) (no_comment_at b bs no_slash) (no_fraction_at b bs (or_right
        (is_ascii_digit b) _ no_number))
    by false f is = mark_judged f (b ∷ bs) _ (marking_of (b ∷ bs)) (no_comment_at b bs no_slash) (no_fraction_at b bs (or_right
        (is_ascii_digit b) _ no_number))

pub piece_judged : (fresh : Bool) (b : ℕ) (bs : List ℕ) → Judged fresh (b ∷ bs) (piece_of fresh b bs)
piece_judged fresh b bs =
    if_judged (Judged fresh (b ∷ bs)) (begins_name b) _ _ (name_judged fresh b bs) (λ no_name.
    if_judged (Judged fresh (b ∷ bs)) (b == 10) _ _
    (λ is. record { piece = LineFeed; part = b ∷ []; rest = bs; spelled = refl; is = ap (λ c. c ∷ []) (number_is b 10 is); same = refl }) (λ no_feed.
    if_judged (Judged fresh (b ∷ bs)) (is_blank b) _ _ (blanks_judged fresh b bs) (λ no_blank.
    if_judged (Judged fresh (b ∷ bs)) (is_ascii_digit b || ((b == 46) && begins is_ascii_digit bs)) _ _ (number_judged fresh b bs) (λ no_number.
    if_judged (Judged fresh (b ∷ bs)) (b == 34) _ _
    (λ is. subst (λ c. Judged fresh (c ∷ bs) (literal_piece StringLit (literal_end 34 0 false bs))) (sym (number_is b 34 is))
    (string_judged fresh bs _ (closing_of 34 bs (λ e. absurd (omega arith))))) (λ no_string.
    if_judged (Judged fresh (b ∷ bs)) (b == 39) _ _
    (λ is. subst (λ c. Judged fresh (c ∷ bs) (literal_piece CharLit (literal_end 39 0 false bs))) (sym (number_is b 39 is))
    (char_judged fresh bs _ (closing_of 39 bs (λ e. absurd (omega arith))))) (λ no_char.
    if_judged (Judged fresh (b ∷ bs)) (b == 47) _ _
    (λ is. subst (λ c. Judged fresh (c ∷ bs) (slash_piece (c ∷ bs) bs)) (sym (number_is b 47 is)) (slash_judged fresh bs))
    (last_judged fresh b bs no_number)))))))
