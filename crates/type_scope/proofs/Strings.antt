-- String literals from a token on.
use Rattle.std.proofs.Common.{◌≡◌, ℕ, zero, suc, ◌+◌, List, [], ◌∷◌, drop, refl, ap, ◌∙◌, arith}
use Rattle.std.specs.Prelude.{if◌then◌else◌, slice_get}
use Rattle.std.specs.Option.{option_map}
use Rattle.c_lex.specs.declared.token.Token.{Token}
use Rattle.type_scope.specs.Strings.{is_string, strings_of}

next : (n : ℕ) → suc (n + 1) ≡ suc n + 1
next n = omega arith

-- one more, or none
pub strings_step : (ts : List Token) (at : ℕ)
    → strings_of (drop at ts) ≡ (if is_string (option_map (λ token. token.kind) (slice_get ts at)) then strings_of (drop (at + 1) ts) + 1 else 0)
strings_step [] zero = refl
strings_step [] (suc n) = refl
strings_step (t ∷ ts) zero = refl
strings_step (t ∷ ts) (suc n) =
    strings_step ts n
    ∙ ap (λ k. if is_string (option_map (λ token. token.kind) (slice_get ts n)) then strings_of (drop k (t ∷ ts)) + 1 else 0) (next n)
