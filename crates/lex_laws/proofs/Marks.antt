-- The tables of punctuators hold their spellings, and the longest is read.
use Rattle.std.proofs.Common.{◌≡◌, ◌⊎◌, ℕ, ◌≤◌, Bool, true, false, ◌==◌, List, ◌++◌, length, take, drop, codes, Option, Some, None, Result, Ok, Err, refl}
use Rattle.std.proofs.Common.{ap, sym, subst, ◌∙◌, inl, inr, if◌then◌else◌, lit≤, arith}
use Rattle.std.specs.Str.{bytes_eq}
use Rattle.std.proofs.lemmas.List.{take-append-drop}
use Rattle.std.proofs.lemmas.Slice.Eq.{bytes_eq-Decides}
use Rattle.c_lex.specs.Marks.{IsMark, mark_of_one, mark_of_three, mark_of_two, mark_text, other_text}
use Rattle.c_lex.specs.Pieces.{mark_else, mark_piece}
use Rattle.c_lex.specs.declared.piece.Piece.{Piece as Lexed}
use Rattle.c_lex.specs.declared.piece.Piece.TheVariants as p
use Rattle.c_lex.specs.declared.piece.Wrong.{Wrong}
use Rattle.c_lex.specs.declared.piece.Wrong.TheVariants.{Stray}
use Rattle.c_lex.specs.declared.token.Mark.{Mark}
use Rattle.c_lex.specs.declared.token.Mark.TheVariants.{Ampersand, AmpersandEqual, AndAnd, Arrow, Bang, BangEqual, Bar, BarEqual, Caret, CaretEqual}
use Rattle.c_lex.specs.declared.token.Mark.TheVariants.{CloseBrace, CloseBracket, CloseParen, Colon, Comma, Dot, Ellipsis, Equal, EqualEqual, Greater}
use Rattle.c_lex.specs.declared.token.Mark.TheVariants.{GreaterEqual, Less, LessEqual, Minus, MinusEqual, MinusMinus, OpenBrace, OpenBracket, OpenParen}
use Rattle.c_lex.specs.declared.token.Mark.TheVariants.{OrOr, Percent, PercentEqual, Plus, PlusEqual, PlusPlus, Question, Semicolon, ShiftLeft}
use Rattle.c_lex.specs.declared.token.Mark.TheVariants.{ShiftLeftEqual, ShiftRight, ShiftRightEqual, Slash, SlashEqual, Star, StarEqual, Tilde}
use Rattle.c_lex.specs.declared.token.TokenKind.TheVariants.{Punct}
use Rattle.lex_laws.proofs.Parts.{front_of}

-- ---- the tables

-- a mark that is spelled so, of so many bytes
abbrev pub IsSized : ℕ → List ℕ → Mark → Type 0
IsSized n text mark = IsMark mark text × (length text ≡ n)

row : (n : ℕ) (text spelling : List ℕ) (t : Bool) (more : Option Mark) (a b : Mark) → bytes_eq text spelling ≡ t → (text ≡ spelling → IsSized n text a)
    → (more ≡ Some b → IsSized n text b) → (if t then Some a else more) ≡ Some b → IsSized n text b
row n text spelling true more a b is here below e = subst (IsSized n text) (let w = e in cc) (here ((bytes_eq-Decides text spelling).0 is))
row n text spelling false more a b is here below e = below e

pub three_is : (text : List ℕ) (b : Mark) → mark_of_three text ≡ Some b → IsSized 3 text b
three_is text b =
    row 3 text (codes "...") _ _ Ellipsis b refl (λ e. (inl e, ap length e))
    (row 3 text (codes "<<=") _ _ ShiftLeftEqual b refl (λ e. (inl e, ap length e))
    (row 3 text (codes ">>=") _ _ ShiftRightEqual b refl (λ e. (inl e, ap length e))
    (λ e. absurd (cc))))

pub two_is : (text : List ℕ) (b : Mark) → mark_of_two text ≡ Some b → IsSized 2 text b
two_is text b =
    row 2 text (codes "->") _ _ Arrow b refl (λ e. (inl e, ap length e))
    (row 2 text (codes "++") _ _ PlusPlus b refl (λ e. (inl e, ap length e))
    (row 2 text (codes "--") _ _ MinusMinus b refl (λ e. (inl e, ap length e))
    (row 2 text (codes "<<") _ _ ShiftLeft b refl (λ e. (inl e, ap length e))
    (row 2 text (codes ">>") _ _ ShiftRight b refl (λ e. (inl e, ap length e))
    (row 2 text (codes "<=") _ _ LessEqual b refl (λ e. (inl e, ap length e))
    (row 2 text (codes ">=") _ _ GreaterEqual b refl (λ e. (inl e, ap length e))
    (row 2 text (codes "==") _ _ EqualEqual b refl (λ e. (inl e, ap length e))
    (row 2 text (codes "!=") _ _ BangEqual b refl (λ e. (inl e, ap length e))
    (row 2 text (codes "&&") _ _ AndAnd b refl (λ e. (inl e, ap length e))
    (row 2 text (codes "||") _ _ OrOr b refl (λ e. (inl e, ap length e))
    (row 2 text (codes "*=") _ _ StarEqual b refl (λ e. (inl e, ap length e))
    (row 2 text (codes "/=") _ _ SlashEqual b refl (λ e. (inl e, ap length e))
    (row 2 text (codes "%=") _ _ PercentEqual b refl (λ e. (inl e, ap length e))
    (row 2 text (codes "+=") _ _ PlusEqual b refl (λ e. (inl e, ap length e))
    (row 2 text (codes "-=") _ _ MinusEqual b refl (λ e. (inl e, ap length e))
    (row 2 text (codes "&=") _ _ AmpersandEqual b refl (λ e. (inl e, ap length e))
    (row 2 text (codes "^=") _ _ CaretEqual b refl (λ e. (inl e, ap length e))
    (row 2 text (codes "|=") _ _ BarEqual b refl (λ e. (inl e, ap length e))
    (row 2 text (codes "<:") _ _ OpenBracket b refl (λ e. (inr e, ap length e))
    (row 2 text (codes ":>") _ _ CloseBracket b refl (λ e. (inr e, ap length e))
    (row 2 text (codes "<%") _ _ OpenBrace b refl (λ e. (inr e, ap length e))
    (row 2 text (codes "%>") _ _ CloseBrace b refl (λ e. (inr e, ap length e))
    (λ e. absurd (cc))))))))))))))))))))))))

pub one_is : (text : List ℕ) (b : Mark) → mark_of_one text ≡ Some b → IsSized 1 text b
one_is text b =
    row 1 text (codes "[") _ _ OpenBracket b refl (λ e. (inl e, ap length e))
    (row 1 text (codes "]") _ _ CloseBracket b refl (λ e. (inl e, ap length e))
    (row 1 text (codes "(") _ _ OpenParen b refl (λ e. (inl e, ap length e))
    (row 1 text (codes ")") _ _ CloseParen b refl (λ e. (inl e, ap length e))
    (row 1 text (codes "{") _ _ OpenBrace b refl (λ e. (inl e, ap length e))
    (row 1 text (codes "}") _ _ CloseBrace b refl (λ e. (inl e, ap length e))
    (row 1 text (codes ".") _ _ Dot b refl (λ e. (inl e, ap length e))
    (row 1 text (codes "&") _ _ Ampersand b refl (λ e. (inl e, ap length e))
    (row 1 text (codes "*") _ _ Star b refl (λ e. (inl e, ap length e))
    (row 1 text (codes "+") _ _ Plus b refl (λ e. (inl e, ap length e))
    (row 1 text (codes "-") _ _ Minus b refl (λ e. (inl e, ap length e))
    (row 1 text (codes "~") _ _ Tilde b refl (λ e. (inl e, ap length e))
    (row 1 text (codes "!") _ _ Bang b refl (λ e. (inl e, ap length e))
    (row 1 text (codes "/") _ _ Slash b refl (λ e. (inl e, ap length e))
    (row 1 text (codes "%") _ _ Percent b refl (λ e. (inl e, ap length e))
    (row 1 text (codes "<") _ _ Less b refl (λ e. (inl e, ap length e))
    (row 1 text (codes ">") _ _ Greater b refl (λ e. (inl e, ap length e))
    (row 1 text (codes "^") _ _ Caret b refl (λ e. (inl e, ap length e))
    (row 1 text (codes "|") _ _ Bar b refl (λ e. (inl e, ap length e))
    (row 1 text (codes "?") _ _ Question b refl (λ e. (inl e, ap length e))
    (row 1 text (codes ":") _ _ Colon b refl (λ e. (inl e, ap length e))
    (row 1 text (codes ";") _ _ Semicolon b refl (λ e. (inl e, ap length e))
    (row 1 text (codes "=") _ _ Equal b refl (λ e. (inl e, ap length e))
    (row 1 text (codes ",") _ _ Comma b refl (λ e. (inl e, ap length e))
    (λ e. absurd (cc)))))))))))))))))))))))))

-- the table of so many bytes
abbrev pub mark_at : ℕ → List ℕ → Option Mark
mark_at n text = if n == 3 then mark_of_three text else (if n == 2 then mark_of_two text else mark_of_one text)

text_read : (mark : Mark) → mark_at (length (mark_text mark)) (mark_text mark) ≡ Some mark
text_read Ellipsis = refl
text_read _ = refl

other_read : (mark : Mark) → mark_at (length (other_text mark)) (other_text mark) ≡ Some mark
other_read OpenBracket = refl
other_read _ = refl

pub is_read : (mark : Mark) (text : List ℕ) → IsMark mark text → mark_at (length text) text ≡ Some mark
is_read mark text (inl e) = ap (λ t. mark_at (length t) t) e ∙ text_read mark
is_read mark text (inr e) = ap (λ t. mark_at (length t) t) e ∙ other_read mark

text_size : (mark : Mark) → (length (mark_text mark) ≡ 1) ⊎ ((length (mark_text mark) ≡ 2) ⊎ (length (mark_text mark) ≡ 3))
text_size Ampersand = inl refl
text_size AmpersandEqual = inr (inl refl)
text_size AndAnd = inr (inl refl)
text_size Arrow = inr (inl refl)
text_size Bang = inl refl
text_size BangEqual = inr (inl refl)
text_size Bar = inl refl
text_size BarEqual = inr (inl refl)
text_size Caret = inl refl
text_size CaretEqual = inr (inl refl)
text_size CloseBrace = inl refl
text_size CloseBracket = inl refl
text_size CloseParen = inl refl
text_size Colon = inl refl
text_size Comma = inl refl
text_size Dot = inl refl
text_size Ellipsis = inr (inr refl)
text_size Equal = inl refl
text_size EqualEqual = inr (inl refl)
text_size Greater = inl refl
text_size GreaterEqual = inr (inl refl)
text_size Less = inl refl
text_size LessEqual = inr (inl refl)
text_size Minus = inl refl
text_size MinusEqual = inr (inl refl)
text_size MinusMinus = inr (inl refl)
text_size OpenBrace = inl refl
text_size OpenBracket = inl refl
text_size OpenParen = inl refl
text_size OrOr = inr (inl refl)
text_size Percent = inl refl
text_size PercentEqual = inr (inl refl)
text_size Plus = inl refl
text_size PlusEqual = inr (inl refl)
text_size PlusPlus = inr (inl refl)
text_size Question = inl refl
text_size Semicolon = inl refl
text_size ShiftLeft = inr (inl refl)
text_size ShiftLeftEqual = inr (inr refl)
text_size ShiftRight = inr (inl refl)
text_size ShiftRightEqual = inr (inr refl)
text_size Slash = inl refl
text_size SlashEqual = inr (inl refl)
text_size Star = inl refl
text_size StarEqual = inr (inl refl)
text_size Tilde = inl refl

other_size : (mark : Mark) → (length (other_text mark) ≡ 1) ⊎ ((length (other_text mark) ≡ 2) ⊎ (length (other_text mark) ≡ 3))
other_size OpenBracket = inr (inl refl)
other_size CloseBracket = inr (inl refl)
other_size OpenBrace = inr (inl refl)
other_size CloseBrace = inr (inl refl)
other_size Ampersand = inl refl
other_size AmpersandEqual = inr (inl refl)
other_size AndAnd = inr (inl refl)
other_size Arrow = inr (inl refl)
other_size Bang = inl refl
other_size BangEqual = inr (inl refl)
other_size Bar = inl refl
other_size BarEqual = inr (inl refl)
other_size Caret = inl refl
other_size CaretEqual = inr (inl refl)
other_size CloseParen = inl refl
other_size Colon = inl refl
other_size Comma = inl refl
other_size Dot = inl refl
other_size Ellipsis = inr (inr refl)
other_size Equal = inl refl
other_size EqualEqual = inr (inl refl)
other_size Greater = inl refl
other_size GreaterEqual = inr (inl refl)
other_size Less = inl refl
other_size LessEqual = inr (inl refl)
other_size Minus = inl refl
other_size MinusEqual = inr (inl refl)
other_size MinusMinus = inr (inl refl)
other_size OpenParen = inl refl
other_size OrOr = inr (inl refl)
other_size Percent = inl refl
other_size PercentEqual = inr (inl refl)
other_size Plus = inl refl
other_size PlusEqual = inr (inl refl)
other_size PlusPlus = inr (inl refl)
other_size Question = inl refl
other_size Semicolon = inl refl
other_size ShiftLeft = inr (inl refl)
other_size ShiftLeftEqual = inr (inr refl)
other_size ShiftRight = inr (inl refl)
other_size ShiftRightEqual = inr (inr refl)
other_size Slash = inl refl
other_size SlashEqual = inr (inl refl)
other_size Star = inl refl
other_size StarEqual = inr (inl refl)
other_size Tilde = inl refl

pub mark_size : (mark : Mark) (text : List ℕ) → IsMark mark text → (length text ≡ 1) ⊎ ((length text ≡ 2) ⊎ (length text ≡ 3))
mark_size mark text (inl e) = subst (λ t. (length t ≡ 1) ⊎ ((length t ≡ 2) ⊎ (length t ≡ 3))) (sym e) (text_size mark)
mark_size mark text (inr e) = subst (λ t. (length t ≡ 1) ⊎ ((length t ≡ 2) ⊎ (length t ≡ 3))) (sym e) (other_size mark)

-- ---- the longest

-- a mark stands in front with so many bytes, and none with more
pub record Longest (text : List ℕ) (mark : Mark) (n : ℕ) : Type 0 where
  pub part : List ℕ
  pub rest : List ℕ
  pub spelled : text ≡ part ++ rest
  pub is : IsMark mark part
  pub len : length part ≡ n
  pub longest : (other : Mark) (spelling after : List ℕ) → IsMark other spelling → text ≡ spelling ++ after → length spelling ≤ n

-- no mark of so many bytes stands in front
abbrev pub NoMark : ℕ → List ℕ → Type 0
NoMark n text = (other : Mark) (spelling after : List ℕ) → IsMark other spelling → text ≡ spelling ++ after → length spelling ≡ n → ⊥

front_read : (n : ℕ) (text spelling after : List ℕ) (other : Mark) → IsMark other spelling → text ≡ spelling ++ after → length spelling ≡ n
    → mark_at n (take n text) ≡ Some other
front_read n text spelling after other is same len =
    let front : take n text ≡ spelling = ap (λ k. take k text) (sym len) ∙ front_of spelling after text same in
    ap (mark_at n) front ∙ ap (λ k. mark_at k spelling) (sym len) ∙ is_read other spelling is

none_read : (n : ℕ) (text : List ℕ) → mark_at n (take n text) ≡ None → NoMark n text
none_read n text none other spelling after is same len =
    let e : None ≡ Some other = sym none ∙ front_read n text spelling after other is same len in cc

-- what is read of a text as a mark
pub data Marking (text : List ℕ) : Result Lexed Wrong → Type 0 where
  marked : (mark : Mark) (n : ℕ) → Longest text mark n → Marking text (Ok (p.Spelled (Punct mark) n))
  unmarked : ((mark : Mark) (spelling after : List ℕ) → IsMark mark spelling → text ≡ spelling ++ after → ⊥) → Marking text (Err Stray)

longest_of : (text : List ℕ) (mark : Mark) (n : ℕ) → IsSized n (take n text) mark
    → ((other : Mark) (spelling after : List ℕ) → IsMark other spelling → text ≡ spelling ++ after → length spelling ≤ n) → Longest text mark n
longest_of text mark n sized longest = record {
  part = take n text;
  rest = drop n text;
  spelled = sym (take-append-drop n text);
  is = sized.0;
  len = sized.1;
  longest = longest;
}

sized_by : (n : ℕ) (other : Mark) (spelling : List ℕ) (most : ℕ) → IsMark other spelling → ((length spelling ≡ 1) → 1 ≤ most) → ((length spelling ≡ 2)
    → 2 ≤ most) → ((length spelling ≡ 3) → 3 ≤ most)
    → length spelling ≤ most
sized_by n other spelling most is a b c = elim (mark_size other spelling is) [
  | inl e ↦ (let h = a e in omega arith)
  | inr r ↦ elim r [ inl e ↦ (let h = b e in omega arith) | inr e ↦ (let h = c e in omega arith) ]
]

pub marking_of : (text : List ℕ) → Marking text (mark_piece text)
marking_of text = by (mark_of_three (take 3 text)) (mark_of_two (take 2 text)) (mark_of_one (take 1 text)) refl refl refl
  where
    by : (a b c : Option Mark) → mark_of_three (take 3 text) ≡ a → mark_of_two (take 2 text) ≡ b → mark_of_one (take 1 text) ≡ c
        → Marking text (mark_else a 3 (mark_else b 2 (mark_else c 1 (Err Stray))))
    by (Some m) b c x y z = marked m 3 (longest_of text m 3 (three_is (take 3 text) m x)
        (λ other spelling after is same. sized_by 3 other spelling 3 is (λ e. lit≤ tt) (λ e. lit≤ tt) (λ e. lit≤ tt)))
    by None (Some m) c x y z = marked m 2 (longest_of text m 2 (two_is (take 2 text) m y)
        (λ other spelling after is same. sized_by 2 other spelling 2 is (λ e. lit≤ tt) (λ e. lit≤ tt)
        (λ e. absurd (none_read 3 text x other spelling after is same e))))
    by None None (Some m) x y z = marked m 1 (longest_of text m 1 (one_is (take 1 text) m z)
        (λ other spelling after is same. sized_by 1 other spelling 1 is (λ e. lit≤ tt)
        (λ e. absurd (none_read 2 text y other spelling after is same e)) (λ e. absurd (none_read 3 text x other spelling after is same e))))
    by None None None x y z = unmarked (λ other spelling after is same. elim (mark_size other spelling is) [
      | inl e ↦ none_read 1 text z other spelling after is same e
      | inr r ↦ elim r [ inl e ↦ none_read 2 text y other spelling after is same e | inr e ↦ none_read 3 text x other spelling after is same e ]
    ])

-- the longest mark is read
pub longest_read : (text part rest : List ℕ) (mark : Mark) → text ≡ part ++ rest → IsMark mark part
    → ((other : Mark) (spelling after : List ℕ) → IsMark other spelling → text ≡ spelling ++ after → length spelling ≤ length part)
    → mark_piece text ≡ Ok (p.Spelled (Punct mark) (length part))
longest_read text part rest mark same is longest = by (mark_piece text) (marking_of text)
  where
    by : (r : Result Lexed Wrong) → Marking text r → r ≡ Ok (p.Spelled (Punct mark) (length part))
    by _ (marked m n l) =
        let most = longest m l.part l.rest l.is l.spelled in
        let least = l.longest mark part rest is same in
        let len : n ≡ length part = (let e = l.len in omega arith) in
        let here = front_read n text part rest mark is same (sym len) in
        let there = front_read n text l.part l.rest m l.is l.spelled l.len in
        let one : m ≡ mark = (let e : Some m ≡ Some mark = sym there ∙ here in cc) in
        (λ i. Ok (p.Spelled (Punct (one i)) (len i)))
    by _ (unmarked never) = absurd (never mark part rest is same)
