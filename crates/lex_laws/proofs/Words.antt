-- Identifiers and keywords.
use Rattle.std.proofs.Common.{◌≡◌, ℕ, Bool, true, false, ◌&&◌, List, ◌++◌, length, take, drop, codes, Option, Some, None, Ok, Err, refl, ap, sym, ◌∙◌, inl}
use Rattle.std.proofs.Common.{inr, if◌then◌else◌}
use Rattle.std.specs.Str.{bytes_eq}
use Rattle.std.proofs.lemmas.Slice.Eq.{bytes_eq-Decides}
use Rattle.c_lex.specs.Bytes.{begins, is_quote}
use Rattle.c_lex.specs.Pieces.{is_prefix, kind_of_word, name_piece}
use Rattle.c_lex.specs.Words.{word_of, word_text}
use Rattle.c_lex.specs.declared.piece.Piece.TheVariants as p
use Rattle.c_lex.specs.declared.piece.Wrong.TheVariants.{Stray}
use Rattle.c_lex.specs.declared.token.Word.{Word}
use Rattle.c_lex.proofs.Tables.{word_of_is, word_of_none, word_of_text}
use Rattle.lex_laws.specs.Fronts.{IsName, IsPrefix, IsPrefixed}
use Rattle.lex_laws.specs.Lexes.{IsToken}
use Rattle.lex_laws.proofs.Parts.{behind_of, front_of}

prefix_row : (t : Bool) (text spelling : List ℕ) (more : Bool) (P : Type 0) → bytes_eq text spelling ≡ t → (text ≡ spelling → P) → (more ≡ true → P)
    → (if t then true else more) ≡ true → P
prefix_row true text spelling more P is here below e = here ((bytes_eq-Decides text spelling).0 is)
prefix_row false text spelling more P is here below e = below e

pub prefix_is : (text : List ℕ) → is_prefix text ≡ true → IsPrefix text
prefix_is text = prefix_row _ text (codes "L") _ _ refl inl (prefix_row _ text (codes "u") _ _ refl (λ e. inr (inl e))
    (prefix_row _ text (codes "U") _ _ refl (λ e. inr (inr (inl e))) (prefix_row _ text (codes "u8") _ _ refl (λ e. inr (inr (inr e))) (λ e. absurd (cc)))))

pub prefix_back : (text : List ℕ) → IsPrefix text → is_prefix text ≡ true
prefix_back text (inl e) = ap is_prefix e
prefix_back text (inr (inl e)) = ap is_prefix e
prefix_back text (inr (inr (inl e))) = ap is_prefix e
prefix_back text (inr (inr (inr e))) = ap is_prefix e

-- a word is the token that is spelled so
pub word_kind : (part rest : List ℕ) (w : Option Word) → word_of part ≡ w → IsName part rest → (IsPrefixed part rest → ⊥)
    → IsToken (kind_of_word w) part rest
word_kind part rest None is name bare = (name, word_of_none part is, bare)
word_kind part rest (Some w) is name bare = (name, word_of_is part w is, bare)

none_by : (w : Option Word) → ((b : Word) → w ≡ Some b → ⊥) → w ≡ None
none_by None never = refl
none_by (Some w) never = absurd (never w refl)

pub name_word : (part : List ℕ) → ((w : Word) → part ≡ word_text w → ⊥) → word_of part ≡ None
name_word part never = none_by (word_of part) (λ b is. never b (word_of_is part b is))

pub keyword_word : (part : List ℕ) (w : Word) → part ≡ word_text w → word_of part ≡ Some w
keyword_word part w is = ap word_of is ∙ word_of_text w

both_false : (x y : Bool) → (x ≡ true → y ≡ true → ⊥) → (x && y) ≡ false
both_false true true never = absurd (never refl refl)
both_false true false never = refl
both_false false y never = refl

-- a word that stands in front, where no prefix of a literal does
pub name_piece_is : (text part rest : List ℕ) (n : ℕ) (w : Option Word) → text ≡ part ++ rest → n ≡ length part → (IsPrefixed part rest → ⊥)
    → word_of part ≡ w
    → name_piece text n ≡ Ok (p.Spelled (kind_of_word w) (length part))
name_piece_is text part rest n w is len bare word =
    let front : take n text ≡ part = ap (λ k. take k text) len ∙ front_of part rest text is in
    let behind : drop n text ≡ rest = ap (λ k. drop k text) len ∙ behind_of part rest text is in
    let test : (is_prefix (take n text) && begins is_quote (drop n text)) ≡ false =
    both_false _ _ (λ a b. bare (prefix_is part (sym (ap is_prefix front) ∙ a), sym (ap (begins is_quote) behind) ∙ b)) in
    ap (λ t. if t then Err Stray else Ok (p.Spelled (kind_of_word (word_of (take n text))) n)) test
    ∙ (λ i. Ok (p.Spelled (kind_of_word (word_at front i)) (len i)))
  where
    word_at : take n text ≡ part → word_of (take n text) ≡ w
    word_at front = ap word_of front ∙ word
