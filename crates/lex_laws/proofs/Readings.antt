-- The function on lists reads a text as the relation does.
use Rattle.std.proofs.Common.{◌≡◌, ℕ, zero, suc, ◌+◌, ◌<◌, ◌≤◌, Bool, true, false, List, [], ◌∷◌, ◌++◌, length, drop, Result, Ok, Err, refl, ap, sym, subst}
use Rattle.std.proofs.Common.{◌∙◌, inl, inr, append_assoc, length-append, arith}
use Rattle.std.specs.Prelude.{◌==◌, count_by, not}
use Rattle.std.proofs.lemmas.Bool.Decides.{nat_tests}
use Rattle.std.proofs.lemmas.List.{append-nil}
use Rattle.c_lex.specs.Bytes.{is_in_line}
use Rattle.c_lex.specs.Pieces.{fresh_after, len_of, piece_of}
use Rattle.c_lex.specs.Tokens.{Lexed as AllLexed, fault_of, lex_from, lex_piece, lexed, line_after, put_before, tokens_of}
use Rattle.c_lex.specs.declared.piece.Piece.{Piece as Lexed}
use Rattle.c_lex.specs.declared.piece.Wrong.{Wrong}
use Rattle.c_lex.specs.declared.piece.Wrong.TheVariants as w
use Rattle.c_lex.specs.declared.token.LexFault.{LexFault}
use Rattle.c_lex.specs.declared.token.LexFault.TheVariants as fault
use Rattle.c_lex.specs.declared.token.Token.{Token}
use Rattle.c_lex.specs.declared.token.TokenKind.{TokenKind}
use Rattle.c_lex.specs.declared.token.TokenKind.TheVariants.{Name, Keyword, Number, CharLit, StringLit, Punct}
use Rattle.lex_laws.specs.Fronts.{Each}
use Rattle.lex_laws.specs.Lexes.{FailsAt, HasBadNumber, IsFault, IsOpening, IsPiece, IsStray, IsToken, Leads, Lexes, Place, Piece, Blanks, LineFeed}
use Rattle.lex_laws.specs.Lexes.{Comment, PassedLine, Marker, Spelled, behind, fresh_behind, line_behind, start, stays, steps, token_of}
use Rattle.lex_laws.proofs.Back.{bad_number_here, opening_here, piece_here}
use Rattle.lex_laws.proofs.Marks.{mark_size}
use Rattle.lex_laws.proofs.Parts.{behind_of, front_of}
use Rattle.lex_laws.proofs.Pieces.{Judged, piece_for, piece_judged}

-- ---- a piece

-- a piece has a byte or more
token_some : (kind : TokenKind) (part rest : List ℕ) → IsToken kind part rest → 0 < length part
token_some Name part rest h = let e = ap length h.0.spelled in omega arith
token_some (Keyword word) part rest h = let e = ap length h.0.spelled in omega arith
token_some Number part rest h = let e = ap length h.0.spelled in omega arith
token_some CharLit part rest h = let e = ap length h.spelled in omega arith
token_some StringLit part rest h = let e = ap length h.spelled in omega arith
token_some (Punct mark) part rest h = elim (mark_size mark part h.spelled) [
  | inl n ↦ omega arith
  | inr r ↦ elim r [ inl n ↦ omega arith | inr n ↦ omega arith ]
]

piece_some : (fresh : Bool) (piece : Piece) (part rest : List ℕ) → IsPiece fresh piece part rest → 0 < length part
piece_some fresh Blanks part rest h = h.some
piece_some fresh LineFeed part rest h = let e = ap length h in omega arith
piece_some fresh Comment part rest (inl h) = let e = ap length h.spelled in omega arith
piece_some fresh Comment part rest (inr h) = let e = ap length h.spelled in omega arith
piece_some fresh PassedLine part rest h = let e = ap length h.1.1.0.spelled in omega arith
piece_some fresh (Marker number) part rest h = let e = ap length h.1.spelled in omega arith
piece_some fresh (Spelled kind) part rest h = token_some kind part rest h

-- its bytes, its token, its line and the freshness behind it are those of the function's piece
len_same : (fresh : Bool) (piece : Piece) (part rest : List ℕ) → IsPiece fresh piece part rest → len_of (piece_for piece (length part)) ≡ length part
len_same fresh Blanks part rest h = refl
len_same fresh LineFeed part rest h = sym (ap length h)
len_same fresh Comment part rest h = refl
len_same fresh PassedLine part rest h = refl
len_same fresh (Marker number) part rest h = refl
len_same fresh (Spelled kind) part rest h = refl

tokens_same : (piece : Piece) (part : List ℕ) (at line : ℕ) → tokens_of (piece_for piece (length part)) at line ≡ token_of piece part at line
tokens_same Blanks part at line = refl
tokens_same LineFeed part at line = refl
tokens_same Comment part at line = refl
tokens_same PassedLine part at line = refl
tokens_same (Marker number) part at line = refl
tokens_same (Spelled kind) part at line = refl

fresh_same : (piece : Piece) (n : ℕ) (fresh : Bool) → fresh_after (piece_for piece n) fresh ≡ fresh_behind piece fresh
fresh_same Blanks n fresh = refl
fresh_same LineFeed n fresh = refl
fresh_same Comment n fresh = refl
fresh_same PassedLine n fresh = refl
fresh_same (Marker number) n fresh = refl
fresh_same (Spelled kind) n fresh = refl

no_feeds : (line : List ℕ) → Each is_in_line line → count_by (λ b. b == 10) line ≡ 0
no_feeds [] each = refl
no_feeds (b ∷ bs) each =
    let other : (b == 10) ≡ false = by b each.0 in rw other (no_feeds bs each.1)
  where
    by : (b : ℕ) → not (b == 10) ≡ true → (b == 10) ≡ false
    by b h = grind (arith, nat_tests)

line_same : (fresh : Bool) (piece : Piece) (part rest text : List ℕ) (line : ℕ) → text ≡ part ++ rest → IsPiece fresh piece part rest
    → line_after (piece_for piece (length part)) line text ≡ line_behind piece part line
line_same fresh Blanks part rest text line is h = refl
line_same fresh LineFeed part rest text line is h = refl
line_same fresh Comment part rest text line is h = ap (λ t. line + count_by (λ b. b == 10) t) (front_of part rest text is)
line_same fresh PassedLine part rest text line is h =
    ap (λ t. line + count_by (λ b. b == 10) t) (front_of part rest text is ∙ h.1.1.0.spelled)
    ∙ (let n = no_feeds h.1.0 h.1.1.0.run.each in omega arith)
line_same fresh (Marker number) part rest text line is h = refl
line_same fresh (Spelled kind) part rest text line is h = refl

-- ---- the function at a place

abbrev pub read_at : ℕ → Place → AllLexed
read_at n q = lex_from n q.at q.line q.fresh q.rest

twice : (first second : List Token) (all : AllLexed) → put_before first (put_before second all) ≡ put_before (first ++ second) all
twice first second (Ok tokens) = ap Ok (sym (append_assoc first second tokens))
twice first second (Err f) = refl

none_first : (all : AllLexed) → all ≡ put_before [] all
none_first (Ok tokens) = refl
none_first (Err f) = refl

left_behind : (fresh : Bool) (piece : Piece) (part rest text : List ℕ) → text ≡ part ++ rest → IsPiece fresh piece part rest
    → drop (len_of (piece_for piece (length part))) text ≡ rest
left_behind fresh piece part rest text is h = ap (λ k. drop k text) (len_same fresh piece part rest h) ∙ behind_of part rest text is

-- a piece is read before what is behind it
read_piece : (n : ℕ) (q : Place) (piece : Piece) (part rest : List ℕ) → q.rest ≡ part ++ rest → IsPiece q.fresh piece part rest
    → read_at (suc n) q ≡ put_before (token_of piece part q.at q.line) (read_at n (behind piece part q rest))
read_piece n q piece part rest is h = by q.rest is
  where
    by : (text : List ℕ) → text ≡ part ++ rest
        → lex_from (suc n) q.at q.line q.fresh text ≡ put_before (token_of piece part q.at q.line) (read_at n (behind piece part q rest))
    by [] is = let some = piece_some q.fresh piece part rest h in let e : 0 ≡ length
        (part ++ rest) = ap length is in let l = length-append part rest in absurd (omega arith)
    by (b ∷ bs) is =
        let left = left_behind q.fresh piece part rest (b ∷ bs) is h in
        ap (lex_piece (lex_from n) q.at q.line q.fresh (b ∷ bs)) (piece_here q.fresh piece part rest b bs is h)
        ∙ (λ i. put_before (tokens_same piece part q.at q.line i)
        (lex_from n (q.at + len_same q.fresh piece part rest h i) (line_same q.fresh piece part rest (b ∷ bs) q.line is h i)
        (fresh_same piece (length part) q.fresh i) (left i)))

-- what leads to a place is read before it
pub leads_read : (q r : Place) (tokens : List Token) → Leads q tokens r → (n : ℕ) → length q.rest ≤ n
    → (m : ℕ) × ((length r.rest ≤ m) × (read_at n q ≡ put_before tokens (read_at m r)))
leads_read q r _ (stays _) n enough = (n, (enough, none_first (read_at n q)))
leads_read q r _ (steps piece part rest _ _ tokens is h more) zero enough =
    let some = piece_some q.fresh piece part rest h in let e = ap length is in let l = length-append part rest in absurd (omega arith)
leads_read q r _ (steps piece part rest _ _ tokens is h more) (suc n) enough =
    let some = piece_some q.fresh piece part rest h in
    let e = ap length is in
    let l = length-append part rest in
    let found = leads_read (behind piece part q rest) r tokens more n (omega arith) in (
      found.0,
      (
        found.1.0,
        read_piece n q piece part rest is h ∙ ap (put_before (token_of piece part q.at q.line)) found.1.1
            ∙ twice (token_of piece part q.at q.line) tokens (read_at found.0 r),
      ),
    )

-- ---- from the relation to the function

read_end : (m : ℕ) (r : Place) → r.rest ≡ [] → read_at m r ≡ Ok []
read_end zero r end = refl
read_end (suc m) r end = ap (lex_from (suc m) r.at r.line r.fresh) end

pub lexes_read : (text : List ℕ) (tokens : List Token) → Lexes text tokens → lexed text ≡ Ok tokens
lexes_read text tokens h =
    let found = leads_read (start text) h.0 tokens h.1.0 (length text) (omega arith) in
    found.1.1 ∙ ap (put_before tokens) (read_end found.0 h.0 h.1.1) ∙ ap Ok (append-nil tokens)

read_wrong : (m : ℕ) (r : Place) (b : ℕ) (bs : List ℕ) (wrong : Wrong) → r.rest ≡ b ∷ bs → length r.rest ≤ m → piece_of r.fresh b bs ≡ Err wrong
    → read_at m r ≡ Err (fault_of wrong r.at)
read_wrong zero r b bs wrong is enough e = let l = ap length is in absurd (omega arith)
read_wrong (suc m) r b bs wrong is enough e =
    ap (lex_from (suc m) r.at r.line r.fresh) is ∙ ap (lex_piece (lex_from m) r.at r.line r.fresh (b ∷ bs)) e

-- a place where no piece stands
pub stray_here : (fresh : Bool) (b : ℕ) (bs : List ℕ) → IsStray fresh (b ∷ bs) → piece_of fresh b bs ≡ Err w.Stray
stray_here fresh b bs h = by (piece_of fresh b bs) (piece_judged fresh b bs)
  where
    by : (r : Result Lexed Wrong) → Judged fresh (b ∷ bs) r → r ≡ Err w.Stray
    by (Ok found) front = absurd (h.no_piece front.piece front.part front.rest front.spelled front.is)
    by (Err w.Stray) judged = refl
    by (Err w.OpenLiteral) judged = absurd (h.not_open judged)
    by (Err w.BadNumber) judged = absurd (h.no_number judged)

-- a fault at a place is the function's
fault_read : (text : List ℕ) (r : Place) (tokens : List Token) (b : ℕ) (bs : List ℕ) (wrong : Wrong) (f : LexFault) → Leads (start text) tokens r
    → r.rest ≡ b ∷ bs
    → piece_of r.fresh b bs ≡ Err wrong → fault_of wrong r.at ≡ f → lexed text ≡ Err f
fault_read text r tokens b bs wrong f leads is e same =
    let found = leads_read (start text) r tokens leads (length text) (omega arith) in
    found.1.1 ∙ ap (put_before tokens) (read_wrong found.0 r b bs wrong is found.1.0 e) ∙ ap Err same

none_of_open : IsOpening [] → ⊥
none_of_open (inl h) = let e = h.spelled in cc
none_of_open (inr (inl h)) = let e = h.spelled in cc
none_of_open (inr (inr h)) = let e = h.spelled in cc

none_of_number : HasBadNumber [] → ⊥
none_of_number h = let n = ap length h.is.spelled in let e = ap length h.spelled in let l = length-append h.part h.rest in omega arith

fails_by : (text : List ℕ) (r : Place) (tokens : List Token) (f : LexFault) → Leads (start text) tokens r → (rest : List ℕ) → r.rest ≡ rest → IsFault r f
    → lexed text ≡ Err f
fails_by text r tokens (fault.Stray at) leads [] is h =
    let some = h.1.some in let e : length r.rest ≡ 0 = ap length is in absurd (omega arith)
fails_by text r tokens (fault.Stray at) leads (b ∷ bs) is h =
    fault_read text r tokens b bs w.Stray (fault.Stray at) leads is (stray_here r.fresh b bs (subst (IsStray r.fresh) is h.1)) (ap fault.Stray (sym h.0))
fails_by text r tokens (fault.OpenLiteral at) leads [] is h = absurd (none_of_open (subst IsOpening is h.1))
fails_by text r tokens (fault.OpenLiteral at) leads (b ∷ bs) is h =
    fault_read text r tokens b bs w.OpenLiteral (fault.OpenLiteral at) leads is (opening_here r.fresh b bs (subst IsOpening is h.1)) (ap fault.OpenLiteral
    (sym h.0))
fails_by text r tokens (fault.BadNumber at) leads [] is h = absurd (none_of_number (subst HasBadNumber is h.1))
fails_by text r tokens (fault.BadNumber at) leads (b ∷ bs) is h =
    fault_read text r tokens b bs w.BadNumber (fault.BadNumber at) leads is (bad_number_here r.fresh b bs (subst HasBadNumber is h.1)) (ap fault.BadNumber
    (sym h.0))
fails_by text r tokens fault.NoMemory leads rest is h = absurd h

pub fails_read : (text : List ℕ) (f : LexFault) → FailsAt text f → lexed text ≡ Err f
fails_read text f h = fails_by text h.0 h.1.0 f h.1.1 h.0.rest refl h.1.2

-- ---- from the function to the relation

-- pieces lead to the end, or to a place where none stands
pub data Reading (q : Place) (all : AllLexed) : Type 0 where
  done : (tokens : List Token) (r : Place) → Leads q tokens r → r.rest ≡ [] → all ≡ Ok tokens → Reading q all
  fails : (tokens : List Token) (r : Place) (f : LexFault) → Leads q tokens r → IsFault r f → all ≡ Err f → Reading q all

reading_on : (n : ℕ) (q : Place) (piece : Piece) (part rest : List ℕ) → (is : q.rest ≡ part ++ rest) → (h : IsPiece q.fresh piece part rest)
    → Reading (behind piece part q rest) (read_at n (behind piece part q rest)) → Reading q (read_at (suc n) q)
reading_on n q piece part rest is h (done tokens r leads end e) =
    done (token_of piece part q.at q.line ++ tokens) r (steps piece part rest q r tokens is h leads) end
    (read_piece n q piece part rest is h ∙ ap (put_before (token_of piece part q.at q.line)) e)
reading_on n q piece part rest is h (fails tokens r f leads at e) =
    fails (token_of piece part q.at q.line ++ tokens) r f (steps piece part rest q r tokens is h leads) at
    (read_piece n q piece part rest is h ∙ ap (put_before (token_of piece part q.at q.line)) e)

no_piece_here : (fresh : Bool) (b : ℕ) (bs : List ℕ) (wrong : Wrong) → piece_of fresh b bs ≡ Err wrong → (piece : Piece) (part rest : List ℕ)
    → b ∷ bs ≡ part ++ rest
    → IsPiece fresh piece part rest → ⊥
no_piece_here fresh b bs wrong e piece part rest is h =
    let bad : Ok (piece_for piece (length part)) ≡ Err wrong = sym (piece_here fresh piece part rest b bs is h) ∙ e in cc

two_wrongs : (fresh : Bool) (b : ℕ) (bs : List ℕ) (x y : Wrong) → piece_of fresh b bs ≡ Err x → piece_of fresh b bs ≡ Err y → x ≡ y
two_wrongs fresh b bs x y e f = let q = sym e ∙ f in cc

stray_is : (fresh : Bool) (b : ℕ) (bs : List ℕ) → piece_of fresh b bs ≡ Err w.Stray → IsStray fresh (b ∷ bs)
stray_is fresh b bs e = record {
  some = omega arith;
  no_piece = no_piece_here fresh b bs w.Stray e;
  not_open = λ h. let q = two_wrongs fresh b bs w.Stray w.OpenLiteral e (opening_here fresh b bs h) in absurd (cc);
  no_number = λ h. let q = two_wrongs fresh b bs w.Stray w.BadNumber e (bad_number_here fresh b bs h) in absurd (cc);
}

wrong_is : (q : Place) (b : ℕ) (bs : List ℕ) (wrong : Wrong) → q.rest ≡ b ∷ bs → piece_of q.fresh b bs ≡ Err wrong → Judged q.fresh (b ∷ bs) (Err wrong)
    → IsFault q (fault_of wrong q.at)
wrong_is q b bs w.Stray is e judged = (refl, subst (IsStray q.fresh) (sym is) (stray_is q.fresh b bs e))
wrong_is q b bs w.OpenLiteral is e judged = (refl, subst IsOpening (sym is) judged)
wrong_is q b bs w.BadNumber is e judged = (refl, subst HasBadNumber (sym is) judged)

at_piece : (n : ℕ) (q : Place) (b : ℕ) (bs : List ℕ) (r : Result Lexed Wrong) → q.rest ≡ b ∷ bs → length q.rest ≤ suc n
    → ((p : Place) → length p.rest ≤ n → Reading p (read_at n p)) → piece_of q.fresh b bs ≡ r → Judged q.fresh (b ∷ bs) r → Reading q (read_at (suc n) q)
at_piece n q b bs (Ok found) is enough more e front =
    let some = piece_some q.fresh front.piece front.part front.rest front.is in
    let l = ap length (is ∙ front.spelled) in
    let a = length-append front.part front.rest in
    reading_on n q front.piece front.part front.rest (is ∙ front.spelled) front.is (more (behind front.piece front.part q front.rest) (omega arith))
at_piece n q b bs (Err wrong) is enough more e judged =
    fails [] q (fault_of wrong q.at) (stays q) (wrong_is q b bs wrong is e judged) (read_wrong (suc n) q b bs wrong is enough e)

reading_step : (n : ℕ) (q : Place) → length q.rest ≤ suc n → ((p : Place) → length p.rest ≤ n → Reading p (read_at n p)) → Reading q (read_at (suc n) q)
reading_step n q enough more = by q.rest refl
  where
    by : (rest : List ℕ) → q.rest ≡ rest → Reading q (read_at (suc n) q)
    by [] is = done [] q (stays q) is (read_end (suc n) q is)
    by (b ∷ bs) is = at_piece n q b bs (piece_of q.fresh b bs) is enough more refl (piece_judged q.fresh b bs)

none_from_length : (xs : List ℕ) → length xs ≤ 0 → xs ≡ []
none_from_length [] none = refl
none_from_length (x ∷ xs) none = absurd (omega arith)

pub reading_of : (n : ℕ) (q : Place) → length q.rest ≤ n → Reading q (read_at n q)
reading_of zero q enough = done [] q (stays q) (none_from_length q.rest enough) refl
reading_of (suc n) q enough = reading_step n q enough (reading_of n)

same_tokens : (a b : List Token) → ◌≡◌ {A = AllLexed} (Ok a) (Ok b) → a ≡ b
same_tokens a b e = cc

pub same_fault : (a b : LexFault) → ◌≡◌ {A = AllLexed} (Err a) (Err b) → a ≡ b
same_fault a b e = cc

pub not_both : (a : List Token) (b : LexFault) → ◌≡◌ {A = AllLexed} (Ok a) (Err b) → ⊥
not_both a b e = cc

pub read_lexes : (text : List ℕ) (tokens : List Token) → lexed text ≡ Ok tokens → Lexes text tokens
read_lexes text tokens e = by (lexed text) refl (reading_of (length text) (start text) (omega arith))
  where
    by : (all : AllLexed) → lexed text ≡ all → Reading (start text) all → Lexes text tokens
    by all is (done found r leads end same) = subst (Lexes text) (same_tokens found tokens (sym same ∙ sym is ∙ e)) (r, (leads, end))
    by all is (fails found r f leads at same) = absurd (not_both tokens f (sym e ∙ is ∙ same))

pub read_fails : (text : List ℕ) (f : LexFault) → lexed text ≡ Err f → FailsAt text f
read_fails text f e = by (lexed text) refl (reading_of (length text) (start text) (omega arith))
  where
    by : (all : AllLexed) → lexed text ≡ all → Reading (start text) all → FailsAt text f
    by all is (done found r leads end same) = absurd (not_both found f (sym same ∙ sym is ∙ e))
    by all is (fails found r g leads at same) = subst (FailsAt text) (same_fault g f (sym same ∙ sym is ∙ e)) (r, (found, leads, at))

pub one_list : (text : List ℕ) (a b : List Token) → Lexes text a → Lexes text b → a ≡ b
one_list text a b x y = same_tokens a b (sym (lexes_read text a x) ∙ lexes_read text b y)

pub one_fault : (text : List ℕ) (a b : LexFault) → FailsAt text a → FailsAt text b → a ≡ b
one_fault text a b x y = same_fault a b (sym (fails_read text a x) ∙ fails_read text b y)

pub never_both : (text : List ℕ) (tokens : List Token) (f : LexFault) → Lexes text tokens → FailsAt text f → ⊥
never_both text tokens f x y = not_both tokens f (sym (lexes_read text tokens x) ∙ fails_read text f y)
