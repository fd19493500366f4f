-- Lines that begin with `#`.
use Rattle.std.proofs.Common.{◌≡◌, ◌⊎◌, ℕ, ◌+◌, ◌<◌, Bool, true, false, ◌||◌, List, [], ◌∷◌, ◌++◌, length, take, drop, min, codes, Option, Some, None, Result}
use Rattle.std.proofs.Common.{Ok}
use Rattle.std.proofs.Common.{Err, refl, ap, sym, subst, ◌∙◌, inl, inr, if◌then◌else◌, append_assoc, length-append, arith}
use Rattle.std.specs.Char.{is_ascii_digit}
use Rattle.std.specs.List.{prefix_len}
use Rattle.std.specs.Str.{bytes_eq}
use Rattle.std.proofs.lemmas.Bool.Decides.{nat_tests}
use Rattle.std.proofs.lemmas.List.{append-nil}
use Rattle.std.proofs.lemmas.Slice.Eq.{bytes_eq-Decides}
use Rattle.c_lex.specs.Bytes.{is_blank, is_in_line, is_name_byte}
use Rattle.c_lex.specs.Pieces.{directive_body, directive_number, directive_piece, is_passed_word, line_piece, marker_number, skip_blank}
use Rattle.c_lex.specs.declared.piece.Piece.{Piece as Lexed}
use Rattle.c_lex.specs.declared.piece.Piece.TheVariants as p
use Rattle.c_lex.specs.declared.piece.Wrong.{Wrong}
use Rattle.c_lex.specs.declared.piece.Wrong.TheVariants.{Stray}
use Rattle.lex_laws.specs.Fronts.{Each, IsLine, IsLineWord, IsMarker, IsMarkerLine, IsPassedLine, IsPassedWord, IsRun, Stops}
use Rattle.lex_laws.proofs.Markers.{IsNumbered, numbered_back, numbered_is, skipped}
use Rattle.lex_laws.proofs.Parts.{Run, behind_of, front_of, len_is, run_of}

-- what is read of a line that begins with `#`, behind it
pub data Directing (tail : List ℕ) : Result Lexed Wrong → Type 0 where
  passed : (part line rest : List ℕ) (n : ℕ) → 35 ∷ tail ≡ part ++ rest → IsLine part line rest → IsPassedLine line → n ≡ length part
      → Directing tail (Ok (p.Passed n))
  marker : (part rest : List ℕ) (number n : ℕ) → 35 ∷ tail ≡ part ++ rest → IsMarker part rest number → n ≡ length part
      → Directing tail (Ok (p.Marker number n))
  neither : Directing tail (Err Stray)

-- a line as it is taken apart
pub record Line (tail : List ℕ) : Type 0 where
  pub line : Run is_in_line tail
  pub blanks : Run is_blank line.part
  pub word : Run is_name_byte blanks.rest

line_of : (tail : List ℕ) → Line tail
line_of tail =
    let line = run_of is_in_line tail in
    let blanks = run_of is_blank line.part in
    record { line = line; blanks = blanks; word = run_of is_name_byte blanks.rest }

abbrev of_word : List ℕ → ℕ → List ℕ → List ℕ → List ℕ → Result Lexed Wrong
of_word tail len body word more =
    if is_passed_word word then Ok (p.Passed (1 + len)) else
    (if bytes_eq word (codes "line") then directive_number tail (skip_blank more) else directive_number tail body)

-- the directive, by the parts of its line
directive_is : (tail : List ℕ) (l : Line tail) → directive_piece tail ≡ of_word tail (length l.line.part) l.blanks.rest l.word.part l.word.rest
directive_is tail l =
    let front : take (prefix_len is_in_line tail) tail ≡ l.line.part = ap (λ n. take n tail) l.line.len
    ∙ front_of l.line.part l.line.rest tail l.line.spelled in
    let body : skip_blank (take (prefix_len is_in_line tail) tail) ≡ l.blanks.rest = ap skip_blank front ∙ skipped l.line.part l.blanks in
    ap (directive_body tail) body
    ∙ (λ i. of_word tail (l.line.len i) l.blanks.rest (word i) (more i))
  where
    word : take (prefix_len is_name_byte l.blanks.rest) l.blanks.rest ≡ l.word.part
    word = ap (λ n. take n l.blanks.rest) l.word.len ∙ front_of l.word.part l.word.rest l.blanks.rest l.word.spelled

    more : drop (prefix_len is_name_byte l.blanks.rest) l.blanks.rest ≡ l.word.rest
    more = ap (λ n. drop n l.blanks.rest) l.word.len ∙ behind_of l.word.part l.word.rest l.blanks.rest l.word.spelled

-- ---- the line feed of a marker

feed_is : (b : ℕ) → is_in_line b ≡ false → b ≡ 10
feed_is b e = grind (arith, nat_tests)

-- a marker's part, what is left, and its length
pub record Feed (tail line behind : List ℕ) : Type 0 where
  pub feed : List ℕ
  pub rest : List ℕ
  pub spelled : 35 ∷ tail ≡ (35 ∷ (line ++ feed)) ++ rest
  pub ends : ((feed ≡ []) × (rest ≡ [])) ⊎ (feed ≡ 10 ∷ [])
  pub len : min (length tail + 1) (length line + 2) ≡ length (35 ∷ (line ++ feed))

feed_of : (tail line behind : List ℕ) → tail ≡ line ++ behind → Stops is_in_line behind → Feed tail line behind
feed_of tail line [] is stops = record {
  feed = [];
  rest = [];
  spelled = ap (λ xs. 35 ∷ xs) (is ∙ sym (append-nil (line ++ [])));
  ends = inl (refl, refl);
  len = let n : length tail ≡ length (line ++ []) = ap length is in simp (append-nil) (let m : length tail ≡ length line = n
      ∙ ap length (append-nil line) in omega arith);
}
feed_of tail line (b ∷ bs) is stops =
    let same : b ≡ 10 = feed_is b stops in
    record {
      feed = 10 ∷ [];
      rest = bs;
      spelled = ap (λ xs. 35 ∷ xs) (is ∙ ap (λ c. line ++ c ∷ bs) same ∙ sym (append_assoc line (10 ∷ []) bs));
      ends = inr refl;
      len = let n : length tail ≡ length line + length (b ∷ bs) = ap length is ∙ length-append line (b ∷ bs) in
          let m : length (line ++ 10 ∷ []) ≡ length line + 1 = length-append line (10 ∷ []) in omega arith;
    }

marked_len : (tail : List ℕ) (l : Line tail) → min (length tail + 1) (prefix_len is_in_line tail + 2) ≡ min (length tail + 1) (length l.line.part + 2)
marked_len tail l = ap (λ n. min (length tail + 1) (n + 2)) l.line.len

-- ---- from the function to the relation

number_line : (blanks word gap text line : List ℕ) (number : ℕ) → line ≡ blanks ++ (word ++ (gap ++ text)) → Each is_blank blanks → Each is_blank gap
    → Stops is_blank text
    → ((n : IsNumbered text number) → IsLineWord word gap n.digits) → IsNumbered text number → IsMarkerLine line number
number_line blanks word gap text line number spelled blank gaps stops is_word n = record {
  blanks = blanks;
  word = word;
  gap = gap;
  digits = n.digits;
  space = n.space;
  tail = n.tail;
  spelled = spelled ∙ ap (λ t. blanks ++ (word ++ (gap ++ t))) n.spelled;
  are_blanks = blank;
  is_word = is_word n;
  are_gap = record { each = gaps; stops = stopped text n.digits (n.space ++ n.tail) n.spelled n.some stops };
  some = n.some;
  are_digits = n.are_digits;
  are_space = n.are_space;
  is_tail = n.is_tail;
  is_number = n.is_number;
  within = n.within;
}
  where
    stopped : (text digits more : List ℕ) → text ≡ digits ++ more → 0 < length digits → Stops is_blank text → Stops is_blank digits
    stopped text [] more is some stops = tt
    stopped text (d ∷ ds) more is some stops = subst (Stops is_blank) is stops

directing_number : (tail : List ℕ) (l : Line tail) (text : List ℕ) → ((number : ℕ) → IsNumbered text number → IsMarkerLine l.line.part number)
    → Directing tail (directive_number tail text)
directing_number tail l text made = by (marker_number text (prefix_len is_ascii_digit text)) refl
  where
    by : (o : Option ℕ) → marker_number text (prefix_len is_ascii_digit text) ≡ o
        → Directing tail (line_piece (min (length tail + 1) (prefix_len is_in_line tail + 2)) o)
    by None is = neither
    by (Some number) is =
        let f = feed_of tail l.line.part l.line.rest l.line.spelled l.line.run.stops in
        marker (35 ∷ (l.line.part ++ f.feed)) f.rest number (min (length tail + 1) (prefix_len is_in_line tail + 2)) f.spelled
        (record {
          line = l.line.part;
          feed = f.feed;
          spelled = refl;
          each = l.line.run.each;
          ends = f.ends;
          is_marker = made number (numbered_is text number is);
        })
        (marked_len tail l ∙ f.len)

-- ---- the words of lines that are passed over

passed_row : (t : Bool) (text spelling : List ℕ) (more : Bool) (P : Type 0) → bytes_eq text spelling ≡ t → (text ≡ spelling → P) → (more ≡ true → P)
    → (t || more) ≡ true → P
passed_row true text spelling more P is here below e = here ((bytes_eq-Decides text spelling).0 is)
passed_row false text spelling more P is here below e = below e

passed_is : (word : List ℕ) → is_passed_word word ≡ true → IsPassedWord word
passed_is word = passed_row _ word (codes "pragma") _ _ refl inl
    (passed_row _ word (codes "define") _ _ refl (λ e. inr (inl e)) (λ e. inr (inr ((bytes_eq-Decides word (codes "undef")).0 e))))

passed_back : (word : List ℕ) → IsPassedWord word → is_passed_word word ≡ true
passed_back word (inl e) = ap is_passed_word e
passed_back word (inr (inl e)) = ap is_passed_word e
passed_back word (inr (inr e)) = ap is_passed_word e

directing_word : (tail : List ℕ) (l : Line tail) (a b : Bool) → is_passed_word l.word.part ≡ a → bytes_eq l.word.part (codes "line") ≡ b
    → Directing tail (if a then Ok (p.Passed (1 + length l.line.part)) else
    (if b then directive_number tail (skip_blank l.word.rest) else directive_number tail l.blanks.rest))
directing_word tail l true b is other =
    passed (35 ∷ l.line.part) l.line.part l.line.rest (1 + length l.line.part) (ap (λ xs. 35 ∷ xs) l.line.spelled)
    (record { spelled = refl; run = l.line.run })
    (record {
      blanks = l.blanks.part;
      word = l.word.part;
      more = l.word.rest;
      spelled = l.blanks.spelled ∙ ap (λ t. l.blanks.part ++ t) l.word.spelled;
      is_word = passed_is l.word.part is;
      each = l.blanks.run.each;
      whole = l.word.run.stops;
    })
    (omega arith)
directing_word tail l false true is other =
    let word : l.word.part ≡ codes "line" = (bytes_eq-Decides l.word.part (codes "line")).0 other in
    let gap = run_of is_blank l.word.rest in
    directing_number tail l (skip_blank l.word.rest)
    (λ number n. number_line l.blanks.part (codes "line") gap.part gap.rest l.line.part number
    (l.blanks.spelled ∙ ap (λ t. l.blanks.part ++ t) (l.word.spelled ∙ ap (λ w. w ++ l.word.rest) word)
    ∙ ap (λ t. l.blanks.part ++ (codes "line" ++ t)) gap.spelled)
    l.blanks.run.each gap.run.each gap.run.stops
    (λ m. inr (
      refl,
      stops_in gap.part m.digits (m.space ++ m.tail) (subst (Stops is_name_byte) (gap.spelled
          ∙ ap (λ t. gap.part ++ t) m.spelled) l.word.run.stops),
    ))
    (subst (λ t. IsNumbered t number) (skipped l.word.rest gap) n))
  where
    stops_in : (gap digits more : List ℕ) → Stops is_name_byte (gap ++ (digits ++ more)) → Stops is_name_byte (gap ++ digits)
    stops_in [] [] more h = tt
    stops_in [] (d ∷ ds) more h = h
    stops_in (g ∷ gs) digits more h = h
directing_word tail l false false is other = directing_number tail l l.blanks.rest
    (λ number n. number_line l.blanks.part [] [] l.blanks.rest l.line.part number l.blanks.spelled l.blanks.run.each tt l.blanks.run.stops
    (λ m. inl (refl, refl)) n)

pub directing_of : (tail : List ℕ) → Directing tail (directive_piece tail)
directing_of tail =
    let l = line_of tail in
    subst (Directing tail) (sym (directive_is tail l))
    (directing_word tail l (is_passed_word l.word.part) (bytes_eq l.word.part (codes "line")) refl refl)

-- ---- from the relation to the function

line_parts : (part line rest tail : List ℕ) → IsLine part line rest → 35 ∷ tail ≡ part ++ rest → tail ≡ line ++ rest
line_parts part line rest tail h same = let e = same ∙ ap (λ f. f ++ rest) h.spelled in cc

abbrev given_run : (p : ℕ → Bool) (part rest text : List ℕ) → text ≡ part ++ rest → IsRun p part rest → Run p text
given_run p part rest text is run = record { part = part; rest = rest; spelled = is; run = run; len = len_is p part rest text is run }

-- blanks stop and a name goes on at a word of these
word_stops : (word more : List ℕ) → IsPassedWord word → Stops is_blank (word ++ more)
word_stops word more (inl e) = subst (λ w. Stops is_blank (w ++ more)) (sym e) refl
word_stops word more (inr (inl e)) = subst (λ w. Stops is_blank (w ++ more)) (sym e) refl
word_stops word more (inr (inr e)) = subst (λ w. Stops is_blank (w ++ more)) (sym e) refl

word_each : (word : List ℕ) → IsPassedWord word → Each is_name_byte word
word_each word (inl e) = subst (Each is_name_byte) (sym e) (refl, (refl, (refl, (refl, (refl, (refl, tt))))))
word_each word (inr (inl e)) = subst (Each is_name_byte) (sym e) (refl, (refl, (refl, (refl, (refl, (refl, tt))))))
word_each word (inr (inr e)) = subst (Each is_name_byte) (sym e) (refl, (refl, (refl, (refl, (refl, tt)))))

pub passed_read : (tail part line rest : List ℕ) → 35 ∷ tail ≡ part ++ rest → IsLine part line rest → IsPassedLine line
    → directive_piece tail ≡ Ok (p.Passed (length part))
passed_read tail part line rest same h g =
    let l : Line tail = record {
      line = given_run is_in_line line rest tail (line_parts part line rest tail h same) h.run;
      blanks = given_run is_blank g.blanks (g.word ++ g.more) line g.spelled (record { each = g.each; stops = word_stops g.word g.more g.is_word });
      word = given_run is_name_byte g.word g.more (g.word ++ g.more) refl (record { each = word_each g.word g.is_word; stops = g.whole });
    } in
    directive_is tail l
    ∙ ap (λ t. if t then Ok (p.Passed (1 + length line)) else
    (if bytes_eq g.word (codes "line") then directive_number tail (skip_blank g.more) else directive_number tail (g.word ++ g.more)))
    (passed_back g.word g.is_word)
    ∙ ap (λ n. Ok (p.Passed n)) (let e = ap length h.spelled in omega arith)

feed_stops : (feed rest : List ℕ) → ((feed ≡ []) × (rest ≡ [])) ⊎ (feed ≡ 10 ∷ []) → Stops is_in_line (feed ++ rest)
feed_stops feed rest (inl (none, end)) = subst (λ f. Stops is_in_line (f ++ rest)) (sym none) (subst (Stops is_in_line) (sym end) tt)
feed_stops feed rest (inr is) = subst (λ f. Stops is_in_line (f ++ rest)) (sym is) refl

feed_len : (tail line feed rest : List ℕ) → tail ≡ line ++ (feed ++ rest) → ((feed ≡ []) × (rest ≡ [])) ⊎ (feed ≡ 10 ∷ [])
    → min (length tail + 1) (length line + 2) ≡ length (35 ∷ (line ++ feed))
feed_len tail line feed rest is ends =
    let n : length tail ≡ length line + (length feed + length rest) = ap length is ∙ length-append line (feed ++ rest)
    ∙ ap (λ k. length line + k) (length-append feed rest) in
    let m : length (line ++ feed) ≡ length line + length feed = length-append line feed in
    elim ends [
      | inl e ↦ (let f : length feed ≡ 0 = ap length e.0 in let r : length rest ≡ 0 = ap length e.1 in omega arith)
      | inr e ↦ (let f : length feed ≡ 1 = ap length e in omega arith)
    ]

digit_first : (digits more : List ℕ) → 0 < length digits → Each is_ascii_digit digits
    → (d : ℕ) × ((ds : List ℕ) × (digits ≡ d ∷ ds) × (is_ascii_digit d ≡ true))
digit_first [] more some each = absurd (omega arith)
digit_first (d ∷ ds) more some each = (d, (ds, refl, each.0))

-- a word that begins with a digit is none of these, nor `line`
no_word : (digits more word rest spelling : List ℕ) (c : ℕ) (cs : List ℕ) → 0 < length digits → Each is_ascii_digit digits → digits ++ more ≡ word ++ rest
    → spelling ≡ c ∷ cs → is_ascii_digit c ≡ false → bytes_eq word spelling ≡ false
no_word digits more word rest spelling c cs some each same is other = by (bytes_eq word spelling) refl
  where
    by : (t : Bool) → bytes_eq word spelling ≡ t → bytes_eq word spelling ≡ false
    by false e = e
    by true e =
        let f = digit_first digits more some each in
        let w : word ≡ c ∷ cs = (bytes_eq-Decides word spelling).0 e ∙ is in
        let first : f.0 ∷ (f.1.0 ++ more) ≡ c ∷ (cs ++ rest) = sym (ap (λ d. d ++ more) f.1.1) ∙ same ∙ ap (λ x. x ++ rest) w in
        let head : f.0 ≡ c = (let q = first in cc) in
        let bad : true ≡ false = sym f.1.2 ∙ ap is_ascii_digit head ∙ other in
        absurd (cc)

no_blank : (digits more : List ℕ) → 0 < length digits → Each is_ascii_digit digits → Stops is_blank (digits ++ more)
no_blank [] more some each = absurd (omega arith)
no_blank (d ∷ ds) more some each = digit_no_blank d each.0
  where
    digit_no_blank : (d : ℕ) → is_ascii_digit d ≡ true → is_blank d ≡ false
    digit_no_blank d h = grind (arith, nat_tests)

stops_on : (gap digits more : List ℕ) → 0 < length digits → Stops is_name_byte (gap ++ digits) → Stops is_name_byte (gap ++ (digits ++ more))
stops_on [] [] more some h = absurd (omega arith)
stops_on [] (d ∷ ds) more some h = h
stops_on (g ∷ gs) digits more some h = h

blank_stops : (digits more : List ℕ) → 0 < length digits → Stops is_blank digits → Stops is_blank (digits ++ more)
blank_stops [] more some h = absurd (omega arith)
blank_stops (d ∷ ds) more some h = h

numbered : (line : List ℕ) (number : ℕ) (m : IsMarkerLine line number) → IsNumbered (m.digits ++ (m.space ++ m.tail)) number
numbered line number m = record {
  digits = m.digits;
  space = m.space;
  tail = m.tail;
  spelled = refl;
  some = m.some;
  are_digits = m.are_digits;
  are_space = m.are_space;
  is_tail = m.is_tail;
  is_number = m.is_number;
  within = m.within;
}

marker_of_number : (tail part text : List ℕ) (number : ℕ) (l : Line tail) → IsNumbered text number
    → min (length tail + 1) (length l.line.part + 2) ≡ length part
    → directive_number tail text ≡ Ok (p.Marker number (length part))
marker_of_number tail part text number l n len =
    ap (line_piece (min (length tail + 1) (prefix_len is_in_line tail + 2))) (numbered_back text number n)
    ∙ ap (λ k. Ok (p.Marker number k)) (marked_len tail l ∙ len)

by_word : (tail part line behind : List ℕ) (number : ℕ) → tail ≡ line ++ behind → Each is_in_line line → Stops is_in_line behind
    → min (length tail + 1) (length line + 2) ≡ length part → (m : IsMarkerLine line number) → IsLineWord m.word m.gap m.digits
    → directive_piece tail ≡ Ok (p.Marker number (length part))
by_word tail part line behind number left each stops len m (inl (bare, none)) =
    let text = m.digits ++ (m.space ++ m.tail) in
    let spelled : line ≡ m.blanks ++ text = m.spelled ∙ (λ i. m.blanks ++ (bare i ++ (none i ++ text))) in
    let l : Line tail = record {
      line = given_run is_in_line line behind tail left (record { each = each; stops = stops });
      blanks = given_run is_blank m.blanks text line spelled (record {
        each = m.are_blanks;
        stops = no_blank m.digits
            (m.space ++ m.tail) m.some m.are_digits.each;
      });
      word = run_of is_name_byte text;
    } in
    let word = run_of is_name_byte text in
    let passed : is_passed_word word.part ≡ false =
    (λ i. differs (codes "pragma") 112 (codes "ragma") refl refl i || (differs (codes "define") 100 (codes "efine") refl refl i
    || differs (codes "undef") 117 (codes "ndef") refl refl i)) in
    let lined : bytes_eq word.part (codes "line") ≡ false =
    no_word m.digits (m.space ++ m.tail) word.part word.rest (codes "line") 108 (codes "ine") m.some m.are_digits.each word.spelled refl refl in
    directive_is tail l
    ∙ (λ i. if passed i then Ok (p.Passed (1 + length line)) else (if lined i then directive_number tail
    (skip_blank word.rest) else directive_number tail text))
    ∙ marker_of_number tail part text number l (numbered line number m) len
  where
    differs : (spelling : List ℕ) (c : ℕ) (cs : List ℕ) → spelling ≡ c ∷ cs → is_ascii_digit c ≡ false
        → bytes_eq (run_of is_name_byte (m.digits ++ (m.space ++ m.tail))).part spelling ≡ false
    differs spelling c cs =
        let word = run_of is_name_byte (m.digits ++ (m.space ++ m.tail)) in
        no_word m.digits (m.space ++ m.tail) word.part word.rest spelling c cs m.some m.are_digits.each word.spelled
by_word tail part line behind number left each stops len m (inr (is, whole)) =
    let text = m.digits ++ (m.space ++ m.tail) in
    let spelled : line ≡ m.blanks ++ (codes "line" ++ (m.gap ++ text)) = m.spelled ∙ ap (λ w. m.blanks ++ (w ++ (m.gap ++ text))) is in
    let l : Line tail = record {
      line = given_run is_in_line line behind tail left (record { each = each; stops = stops });
      blanks = given_run is_blank m.blanks (codes "line" ++ (m.gap ++ text)) line spelled (record { each = m.are_blanks; stops = refl });
      word = given_run is_name_byte (codes "line") (m.gap ++ text) (codes "line" ++ (m.gap ++ text)) refl
          (record { each = (refl, (refl, (refl, (refl, tt)))); stops = stops_on m.gap m.digits (m.space ++ m.tail) m.some whole });
    } in
    let gap = given_run is_blank m.gap text (m.gap ++ text) refl
    (record { each = m.are_gap.each; stops = blank_stops m.digits (m.space ++ m.tail) m.some m.are_gap.stops }) in
    directive_is tail l
    ∙ ap (directive_number tail) (skipped (m.gap ++ text) gap)
    ∙ marker_of_number tail part text number l (numbered line number m) len

pub marker_read : (tail part rest : List ℕ) (number : ℕ) → 35 ∷ tail ≡ part ++ rest → IsMarker part rest number
    → directive_piece tail ≡ Ok (p.Marker number (length part))
marker_read tail part rest number same h =
    let whole : 35 ∷ tail ≡ 35 ∷ (h.line ++ (h.feed ++ rest)) = same ∙ ap (λ f. f ++ rest) h.spelled
    ∙ ap (λ xs. 35 ∷ xs) (append_assoc h.line h.feed rest) in
    let left : tail ≡ h.line ++ (h.feed ++ rest) = (let e = whole in cc) in
    let len : min (length tail + 1) (length h.line + 2) ≡ length part = feed_len tail h.line h.feed rest left h.ends ∙ sym (ap length h.spelled) in
    by_word tail part h.line (h.feed ++ rest) number left h.each (feed_stops h.feed rest h.ends) len h.is_marker h.is_marker.is_word
