-- What the newest declaration of a token says, by numbers and by texts.
use Rattle.std.proofs.Common.{
  ◌≡◌,
  ℕ,
  ◌<◌,
  Bool,
  List,
  [],
  ◌∷◌,
  length,
  get_or,
  map,
  refl,
  ◌∙◌,
  ap,
  arith,
}
use Rattle.std.specs.Prelude.{◌==◌, if◌then◌else◌}
use Rattle.std.specs.Str.{bytes_eq}
use Rattle.std.proofs.lemmas.List.Elements.{All-tail}
use Rattle.c_lex.specs.TokenText.{TokenText, text_at}
use Rattle.c_ast.specs.Input.{lookup}
use Rattle.c_spelling.specs.Spelling.{IsSpelling}
use Rattle.c_spelling.proofs.Spellings.{same_number}
use Rattle.parse_cursor.specs.Declarations.{said_of, newest}
use Rattle.parse_cursor.specs.Spelling.{IsNumbered, AreNumbered}
use Rattle.parse_cursor.specs.declared.scope.Named.{Named}

-- what the newest declaration of a token's number says is what that of its text says
pub same_lookup : (t : TokenText) (spelled : List ℕ) (at : ℕ) (found : Bool) (names : List Named) → IsSpelling t spelled → at < length spelled
    → AreNumbered spelled names → newest (get_or spelled at 0) found names ≡ lookup t (text_at t at) found (map said_of names)
unfolding newest
same_lookup t spelled at found [] all h numbered = refl
same_lookup t spelled at found (x ∷ xs) all h numbered =
    let here : IsNumbered spelled x = numbered 0 x (omega arith) in
    let e : (x.name == get_or spelled at 0) ≡ bytes_eq (text_at t x.declared.at) (text_at t at) =
    ap (λ n. n == get_or spelled at 0) here.name ∙ same_number t spelled x.declared.at at all here.within h in
    same_lookup t spelled at (if x.name == get_or spelled at 0 then x.declared.typedef else found) xs all h (All-tail (IsNumbered spelled) x xs numbered)
    ∙ ap (λ b. lookup t (text_at t at) (if b then x.declared.typedef else found) (map said_of xs)) e
