-- The tokens so far, and those of what is left.
use Rattle.std.proofs.Common.{
  ◌≡◌,
  ℕ,
  zero,
  suc,
  ◌+◌,
  ◌^◌,
  ◌<◌,
  ◌≤◌,
  Bool,
  true,
  List,
  [],
  ◌∷◌,
  ◌++◌,
  length,
  take,
  drop,
  refl,
  ap,
  sym,
  subst,
  ◌∙◌,
  arith,
  append_assoc,
  length-drop,
  length-take,
  Ok,
  Err,
}
use Rattle.std.proofs.lemmas.List.{drop-drop, append-nil}
use Rattle.std.specs.Prelude.{◌==◌}
use Rattle.std.proofs.lemmas.List.Sums.{count_by-le-length}
use Rattle.c_lex.specs.Pieces.{piece_of, len_of, line_of, fresh_after}
use Rattle.c_lex.specs.TokenText.{AreSpans, SpansRise}
use Rattle.c_lex.proofs.Spans.{wider, one_more_span}
use Rattle.c_lex.specs.Tokens.{lex_from, lex_piece, lexed, Lexed, put_before, tokens_of, line_after, fault_of}
use Rattle.c_lex.specs.declared.piece.Piece.{Piece}
use Rattle.c_lex.specs.declared.piece.Piece.TheVariants.{Blank, LineEnd, Passed, Marker, Spelled}
use Rattle.c_lex.specs.declared.piece.Wrong.{Wrong}
use Rattle.c_lex.specs.declared.token.Token.{Token}

-- these tokens were given, and what stands from a place on is left
pub record SoFar (text : List ℕ) (given : List Token) (at line : ℕ) (fresh : Bool) : Type 0 where
  pub pieces : ℕ
  pub enough : length text ≤ at + pieces
  pub within : at ≤ length text
  pub few_lines : line ≤ at + 2147483648
  pub is : lexed text ≡ put_before given (lex_from pieces at line fresh (drop at text))
  pub spans : SpansRise 0 at given

none_before : (all : Lexed) → all ≡ put_before [] all
none_before (Ok tokens) = refl
none_before (Err fault) = refl

pub so_far_none : (text : List ℕ) → SoFar text [] 0 1 true
so_far_none text = record {
  pieces = length text;
  enough = omega arith;
  within = omega arith;
  few_lines = omega arith;
  is = none_before (lexed text);
  spans =
      omega arith;
}

twice_before : (first second : List Token) (all : Lexed) → put_before first (put_before second all) ≡ put_before (first ++ second) all
twice_before first second (Ok tokens) = ap Ok (sym (append_assoc first second tokens))
twice_before first second (Err fault) = refl

one_more : (given : List Token) (pieces at line : ℕ) (fresh : Bool) (rest : List ℕ) (b : ℕ) (bs : List ℕ) (p : Piece)
    → rest ≡ b ∷ bs → piece_of fresh b bs ≡ Ok p
    → put_before given (lex_from (suc pieces) at line fresh rest)
    ≡ put_before (given ++ tokens_of p at line) (lex_from pieces (at + len_of p) (line_after p line rest) (fresh_after p fresh) (drop (len_of p) rest))
one_more given pieces at line fresh rest b bs p is piece =
    ap (λ r. put_before given (lex_from (suc pieces) at line fresh r)) is
    ∙ ap (λ q. put_before given (lex_piece (lex_from pieces) at line fresh (b ∷ bs) q)) piece
    ∙ twice_before given (tokens_of p at line) _
    ∙ ap (λ r. put_before (given ++ tokens_of p at line) (lex_from pieces (at + len_of p) (line_after p line r) (fresh_after p fresh) (drop (len_of p) r)))
    (sym is)

-- what a piece is rises behind those so far
more_spans : (p : Piece) (given : List Token) (at line : ℕ) → SpansRise 0 at given → 0 < len_of p → SpansRise 0 (at + len_of p) (given ++ tokens_of p at line)
more_spans (Blank n) given at line rise some = subst (λ ts. SpansRise 0 (at + n) ts) (sym (append-nil given)) (wider 0 at (at + n) given rise (omega arith))
more_spans LineEnd given at line rise some = subst (λ ts. SpansRise 0 (at + 1) ts) (sym (append-nil given)) (wider 0 at (at + 1) given rise (omega arith))
more_spans (Passed n) given at line rise some = subst (λ ts. SpansRise 0 (at + n) ts) (sym (append-nil given)) (wider 0 at (at + n) given rise (omega arith))
more_spans (Marker m n) given at line rise some = subst (λ ts. SpansRise 0 (at + n) ts) (sym (append-nil given)) (wider 0 at (at + n) given rise (omega arith))
more_spans (Spelled k n) given at line rise some = one_more_span 0 at given (record { kind = k; start = at; end = at + n; line = line }) rise (omega arith)
    (omega arith)

more_from : (text : List ℕ) (given : List Token) (pieces at line : ℕ) (fresh : Bool) (b : ℕ) (bs : List ℕ) (p : Piece)
    → length text ≤ at + pieces → at ≤ length text
    → lexed text ≡ put_before given (lex_from pieces at line fresh (drop at text))
    → drop at text ≡ b ∷ bs → piece_of fresh b bs ≡ Ok p → 0 < len_of p → len_of p ≤ length (drop at text)
    → line_after p line (drop at text) ≤ at + len_of p + 2147483648
    → SpansRise 0 at given
    → SoFar text (given ++ tokens_of p at line) (at + len_of p) (line_after p line (drop at text)) (fresh_after p fresh)
more_from text given zero at line fresh b bs p enough within so_far is piece some most few spans =
    let left = length-drop at text in let len = ap length is in absurd (omega arith)
more_from text given (suc pieces) at line fresh b bs p enough within so_far is piece some most few spans =
    let left = length-drop at text in
    record {
      pieces = pieces;
      enough = omega arith;
      within = omega arith;
      few_lines = few;
      is = so_far ∙ one_more given pieces at line fresh (drop at text) b bs p is piece
          ∙ ap (λ r. put_before (given ++ tokens_of p at line) (lex_from pieces (at + len_of p) (line_after p line (drop at text)) (fresh_after p fresh) r))
          (drop-drop (len_of p) at text ∙ ap (λ k. drop k text) (omega arith));
      spans = more_spans p given at line spans some;
    }

-- a piece more
pub so_far_more : (text : List ℕ) (given : List Token) (at line : ℕ) (fresh : Bool) (b : ℕ) (bs : List ℕ) (p : Piece)
    → SoFar text given at line fresh
    → drop at text ≡ b ∷ bs → piece_of fresh b bs ≡ Ok p → 0 < len_of p → len_of p ≤ length (drop at text)
    → line_after p line (drop at text) ≤ at + len_of p + 2147483648
    → SoFar text (given ++ tokens_of p at line) (at + len_of p) (line_after p line (drop at text)) (fresh_after p fresh)
so_far_more text given at line fresh b bs p s is piece some most few =
    more_from text given s.pieces at line fresh b bs p s.enough s.within s.is is piece some most few s.spans

nothing_left : (given : List Token) (pieces at line : ℕ) (fresh : Bool) → put_before given (lex_from pieces at line fresh []) ≡ Ok given
nothing_left given zero at line fresh = ap Ok (append-nil given)
nothing_left given (suc pieces) at line fresh = ap Ok (append-nil given)

-- at the end the tokens so far are all
pub all_given : (text : List ℕ) (given : List Token) (at line : ℕ) (fresh : Bool) → SoFar text given at line fresh → drop at text ≡ [] → lexed text ≡ Ok given
all_given text given at line fresh s end =
    s.is ∙ ap (λ r. put_before given (lex_from s.pieces at line fresh r)) end ∙ nothing_left given s.pieces at line fresh

fault_from : (text : List ℕ) (given : List Token) (pieces at line : ℕ) (fresh : Bool) (b : ℕ) (bs : List ℕ) (w : Wrong)
    → length text ≤ at + pieces → at ≤ length text → drop at text ≡ b ∷ bs → piece_of fresh b bs ≡ Err w
    → put_before given (lex_from pieces at line fresh (drop at text)) ≡ Err (fault_of w at)
fault_from text given zero at line fresh b bs w enough within is wrong =
    let left = length-drop at text in let len = ap length is in absurd (omega arith)
fault_from text given (suc pieces) at line fresh b bs w enough within is wrong =
    ap (λ r. put_before given (lex_from (suc pieces) at line fresh r)) is
    ∙ ap (λ q. put_before given (lex_piece (lex_from pieces) at line fresh (b ∷ bs) q)) wrong

-- what is no piece is the fault of the text
pub fault_here : (text : List ℕ) (given : List Token) (at line : ℕ) (fresh : Bool) (b : ℕ) (bs : List ℕ) (w : Wrong) → SoFar text given at line fresh
    → drop at text ≡ b ∷ bs → piece_of fresh b bs ≡ Err w → lexed text ≡ Err (fault_of w at)
fault_here text given at line fresh b bs w s is wrong =
    s.is ∙ fault_from text given s.pieces at line fresh b bs w s.enough s.within is wrong

few_after : (p : Piece) (at line : ℕ) (rest : List ℕ) → line ≤ at + 2147483648 → 0 < len_of p → len_of p ≤ length rest → line_of p ≤ 2147483647
    → line_after p line rest ≤ at + len_of p + 2147483648
few_after (Blank n) at line rest few some most small = omega arith
few_after LineEnd at line rest few some most small = omega arith
few_after (Passed n) at line rest few some most small =
    let lines = count_by-le-length (λ b. b == 10) (take n rest) in let len = length-take n rest in omega arith
few_after (Marker m n) at line rest few some most small = omega arith
few_after (Spelled k n) at line rest few some most small = omega arith

-- a turn of the loop
pub so_far_step : {text : List ℕ} {given next : List Token} {at line : ℕ} {fresh : Bool} (rest : List ℕ) (b : ℕ) (bs : List ℕ) (p : Piece) (len line2 : ℕ)
    (fresh2 : Bool)
    → SoFar text given at line fresh → rest ≡ drop at text → rest ≡ b ∷ bs → Ok p ≡ piece_of fresh b bs
    → 0 < len_of p → len_of p ≤ length rest → line_of p ≤ 2147483647
    → next ≡ given ++ tokens_of p at line → line2 ≡ line_after p line rest → fresh2 ≡ fresh_after p fresh → len ≡ len_of p
    → SoFar text next (at + len) line2 fresh2
so_far_step {text = text} {given = given} {next = next} {at = at} {line = line} {fresh = fresh} rest b bs p len line2 fresh2 s is cons piece some most small
    next_is line_is fresh_is len_is =
    let few = few_after p at line (drop at text) s.few_lines some (subst (λ r. len_of p ≤ length r) is most) small in
    let more = so_far_more text given at line fresh b bs p s (sym is ∙ cons) (sym piece) some (subst (λ r. len_of p ≤ length r) is most) few in
    subst (λ g. SoFar text g (at + len) line2 fresh2) (sym next_is)
    (subst (λ n. SoFar text (given ++ tokens_of p at line) (at + n) line2 fresh2) (sym len_is)
    (subst (λ f. SoFar text (given ++ tokens_of p at line) (at + len_of p) line2 f) (sym fresh_is)
    (subst (λ l. SoFar text (given ++ tokens_of p at line) (at + len_of p) l (fresh_after p fresh)) (sym (line_is ∙ ap (λ r. line_after p line r) is)) more)))

none_from_length : (xs : List ℕ) → length xs ≡ 0 → xs ≡ []
none_from_length [] none = refl
none_from_length (x ∷ xs) none = absurd (omega arith)

pub all_given_at_end : {text : List ℕ} {given : List Token} {at line : ℕ} {fresh : Bool} → SoFar text given at line fresh → length text ≤ at →
    lexed text ≡ Ok given
all_given_at_end {text = text} {given = given} {at = at} {line = line} {fresh = fresh} s end =
    let left = length-drop at text in all_given text given at line fresh s (none_from_length (drop at text) (omega arith))

-- before the end something is left
pub not_left : (text rest : List ℕ) (at : ℕ) → rest ≡ drop at text → length rest ≡ 0 → at < length text → ⊥
not_left text rest at is none before = let left = length-drop at text in let len = ap length is in omega arith

-- the tokens lie in the text
pub spans_at_end : {text : List ℕ} {given : List Token} {at line : ℕ} {fresh : Bool} → SoFar text given at line fresh → length text ≤ 2 ^ 20 →
    AreSpans text given
spans_at_end {text = text} {given = given} {at = at} {line = line} {fresh = fresh} s small =
    record { small = small; rise = wider 0 at (length text) given s.spans s.within }
