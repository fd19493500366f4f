-- The tokens so far, and those of what is left.
use Rattle.std.proofs.Common.{◌≡◌, ℕ, ◌+◌, ◌-◌, ◌≤◌, true, List, [], ◌∷◌, ◌++◌, length, take, drop, refl, ap, sym, subst, ◌∙◌, arith}
use Rattle.std.proofs.Common.{append_assoc, length-drop, Some, None, Ok, Err, Option, Result}
use Rattle.std.specs.Prelude.{◌==◌}
use Rattle.std.specs.List.{list_all}
use Rattle.std.proofs.lemmas.List.{append-nil, drop-drop, take_rest}
use Rattle.std.proofs.lemmas.List.Sums.{count_by-le-length}
use Rattle.first_form.specs.Bytes.{is_white}
use Rattle.first_form.specs.Tokens.{GivesNext, IsNext, Lexes, LexesFrom}
use Rattle.first_form.specs.declared.token.Token.{Token}
use Rattle.first_form.specs.declared.fault.FormFault.{FormFault}
use Rattle.first_form.proofs.Spellings.{shape}
use Rattle.first_form.proofs.NextTokens.{lies, same_next, not_all_white}

-- these tokens were given, and what stands from a place on is left
pub record SoFar (text : List ℕ) (given : List Token) (at line : ℕ) : Type 0 where
  pub within : at ≤ length text
  pub few_lines : line ≤ at + 1
  pub found : (more : List Token) → LexesFrom at line (drop at text) more → Lexes text (given ++ more)
  pub only : (tokens : List Token) → Lexes text tokens → (more : List Token) × (tokens ≡ given ++ more) × LexesFrom at line (drop at text) more

pub so_far_none : (text : List ℕ) → SoFar text [] 0 1
so_far_none text = record { within = omega arith; few_lines = omega arith; found = λ more lexes. lexes; only = λ tokens lexes. (tokens, refl, lexes) }

next_is_not_white : {at line : ℕ} {rest : List ℕ} {t : Token} → IsNext at line rest t → list_all is_white rest ≡ true → ⊥
next_is_not_white {rest = rest} {t = t} next white =
    let s = shape t.kind next.spelling next.lexeme.spelled in
    not_all_white rest s.first (s.tail ++ next.after) ((lies next).behind ∙ ap (λ xs. xs ++ next.after) s.is) white

begins_with : {at line : ℕ} {rest : List ℕ} {t : Token} (next : IsNext at line rest t) (more : List Token) → LexesFrom at line rest more
    → (others : List Token) × (more ≡ t ∷ others) × LexesFrom t.end t.line next.after others
begins_with next [] white = absurd (next_is_not_white next white)
begins_with {t = t} next (m ∷ ms) lexes =
    let same = same_next lexes.0 next in (
      ms,
      ap (λ x. x ∷ ms) same.0,
      subst (λ (x : Token). LexesFrom x.end x.line next.after ms) same.0 (subst (λ a. LexesFrom m.end m.line a ms) same.1 lexes.1),
    )

none_left : (at line : ℕ) (rest : List ℕ) (more : List Token) → LexesFrom at line rest more → list_all is_white rest ≡ true → more ≡ []
none_left at line rest [] lexes white = refl
none_left at line rest (m ∷ ms) lexes white = absurd (next_is_not_white lexes.0 white)

few_lines_more : {at line : ℕ} {rest : List ℕ} {t : Token} (next : IsNext at line rest t) → line ≤ at + 1 → t.line ≤ t.end + 1
few_lines_more next few =
    let lines = count_by-le-length (λ b. b == 10) next.blank in
    let a = next.line in let b = next.start in let c = next.end in omega arith

pub so_far_more : (text : List ℕ) (given : List Token) (at line : ℕ) (t : Token) → SoFar text given at line
    → GivesNext at line (drop at text) (Ok (Some t)) → SoFar text (given ++ t ∷ []) t.end t.line
so_far_more text given at line t so_far (next, rest_is, later, within) =
    let left = length-drop at text in
    let place : drop (t.end - at) (drop at text) ≡ drop t.end text = drop-drop (t.end - at) at text ∙ ap (λ k. drop k text) (omega arith) in
    let rest : next.after ≡ drop t.end text = rest_is ∙ place in
    record {
      within = omega (arith, so_far.within);
      few_lines = few_lines_more next so_far.few_lines;
      found = λ more lexes. subst (Lexes text) (sym (append_assoc given (t ∷ []) more))
          (so_far.found (t ∷ more) (next, subst (λ a. LexesFrom t.end t.line a more) (sym rest) lexes));
      only = λ tokens lexes.
          let old = so_far.only tokens lexes in
          let new = begins_with next old.0 old.2 in
          (new.0, old.1 ∙ ap (λ xs. given ++ xs) new.1 ∙ sym (append_assoc given (t ∷ []) new.0), subst (λ a. LexesFrom t.end t.line a new.0) rest new.2);
    }

pub all_found : (text : List ℕ) (given : List Token) (at line : ℕ) → SoFar text given at line → GivesNext at line (drop at text) (Ok None) → Lexes text given
all_found text given at line so_far white = subst (Lexes text) (append-nil given) (so_far.found [] white)

pub all_only : (text : List ℕ) (given : List Token) (at line : ℕ) → SoFar text given at line → GivesNext at line (drop at text) (Ok None)
    → (tokens : List Token) → Lexes text tokens → given ≡ tokens
all_only text given at line so_far white tokens lexes =
    let old = so_far.only tokens lexes in
    sym (old.1 ∙ ap (λ xs. given ++ xs) (none_left at line (drop at text) old.0 old.2 white) ∙ append-nil given)

none_lexes : (at line : ℕ) (rest : List ℕ) (more : List Token) (fault : FormFault) → LexesFrom at line rest more → GivesNext at line rest (Err fault) → ⊥
none_lexes at line rest [] fault lexes none = none.1 lexes
none_lexes at line rest (m ∷ ms) fault lexes none = none.2 m lexes.0

pub none_has_tokens : (text : List ℕ) (given : List Token) (at line : ℕ) (fault : FormFault) → SoFar text given at line
    → GivesNext at line (drop at text) (Err fault)
    → (tokens : List Token) → Lexes text tokens → ⊥
none_has_tokens text given at line fault so_far none tokens lexes =
    let old = so_far.only tokens lexes in none_lexes at line (drop at text) old.0 fault old.2 none

-- what is read at a place of the text, where the result is this
pub read_at : (text : List ℕ) (at line : ℕ) {r s : Result (Option Token) FormFault} → r ≡ s
    → GivesNext at line (take (length text - at) (drop at text)) r → GivesNext at line (drop at text) s
read_at text at line {r = r} {s = s} is gives =
    subst (λ rest. GivesNext at line rest s) (take_rest text at) (subst (GivesNext at line (take (length text - at) (drop at text))) is gives)

lexes_from_unique : (at line : ℕ) (rest : List ℕ) (tokens others : List Token) → LexesFrom at line rest tokens → LexesFrom at line rest others →
    tokens ≡ others
lexes_from_unique at line rest [] others lexes too = sym (none_left at line rest others too lexes)
lexes_from_unique at line rest (t ∷ ts) others lexes too =
    let b = begins_with lexes.0 others too in
    ap (λ xs. t ∷ xs) (lexes_from_unique t.end t.line (lexes.0).after ts b.0 lexes.1 b.2) ∙ sym b.1

-- a text has one list of tokens
pub lexes_unique : (text : List ℕ) (tokens others : List Token) → Lexes text tokens → Lexes text others → tokens ≡ others
lexes_unique text tokens others lexes too = lexes_from_unique 0 1 text tokens others lexes too
