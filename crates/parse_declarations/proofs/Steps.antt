-- One step of a loop, by the functions that read its parts.
use Rattle.std.proofs.Common.{◌≡◌, ℕ, suc, List, [], ◌∷◌, ◌++◌, Some, refl}
use Rattle.std.specs.Prelude.{None, if◌then◌else◌}
use Rattle.c_ast.specs.Input.{Input}
use Rattle.c_ast.specs.declared.declaration.Init.{Init}
use Rattle.c_ast.specs.declared.declaration.InitEntry.{InitEntry}
use Rattle.c_lex.specs.declared.token.Mark.TheVariants as m
use Rattle.parse_spec.specs.Initializers.{designation, entries_from, entry_of}
use Rattle.parse_spec.specs.Steps.{Outcome, Parser, ◌>>=◌, ◌>>◌, and_then, pure, eat, expect}
use Rattle.parse_declarations.specs.Parts.{one_init_entry}

made_after : {A B C : Type 0} (o : Outcome A) (h : A → B) (g : B → Parser C)
    → and_then o (λ a. g (h a)) ≡ and_then (and_then o (λ a. pure (h a))) g
made_after None h g = refl
made_after (Some p) h g = refl

pub both_after : {A B C D : Type 0} (o : Outcome A) (f : Parser B) (h : A → B → C) (g : C → Parser D)
    → and_then o (λ a i. and_then (f i) (λ b. g (h a b))) ≡ and_then (and_then o (λ a i. and_then (f i) (λ b. pure (h a b)))) g
both_after None f h g = refl
both_after (Some p) f h g = made_after (f p.1) (h p.0) g

-- behind an initializer of a list
abbrev pub init_behind : Parser Init → ℕ → List InitEntry → Parser (List InitEntry)
init_behind initializer n found = do
  more ← eat m.Comma
  if more then (do done ← eat m.CloseBrace; if done then pure found else entries_from initializer n found)
      else (do expect m.CloseBrace; pure found)

pub entries_more : (initializer : Parser Init) (n : ℕ) (found : List InitEntry) (i : Input)
    → entries_from initializer (suc n) found i
    ≡ and_then (one_init_entry initializer i) (λ a. init_behind initializer n (found ++ a ∷ []))
unfolding entries_from one_init_entry
entries_more initializer n found i = both_after (designation i) initializer entry_of (λ a. init_behind initializer n (found ++ a ∷ []))
