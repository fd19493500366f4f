-- The declarations that are in scope, the oldest first (6.2.1).
use Rattle.std.specs.Prelude.{◌≡◌, ℕ, ◌<◌, ◌≤◌, ◌==◌, Bool, false, nat_lt, nat_le, if◌then◌else◌, List, [], ◌∷◌, ◌++◌, Option, Some, None, refl}
use Rattle.std.specs.Coded.{Coded, code_by, coded×, coded_ℕ}
use Rattle.std.specs.List.{All}

-- a declaration: its symbol, how many scopes enclose it, and what it means
pub record Declared (M : Type 0) : Type 0 where
  pub symbol : ℕ
  pub depth : ℕ
  pub meaning : M

abbrev pub declared_code : {M : Type 0} → Coded M → Coded (Declared M)
declared_code {M} code = code_by (ℕ × (ℕ × M)) (coded× coded_ℕ (coded× coded_ℕ code))
    (λ d. (d.symbol, (d.depth, d.meaning))) (λ p. record { symbol = p.0; depth = p.1.0; meaning = p.1.1 }) (λ _. refl)

abbrev pub or_else : {A : Type 0} → Option A → Option A → Option A
or_else (Some x) y = Some x
or_else None y = y

-- the declaration of the symbol that is visible: the innermost (6.2.1p4)
abbrev pub visible : {M : Type 0} → ℕ → List (Declared M) → Option (Declared M)
visible symbol [] = None
visible symbol (d ∷ ds) = or_else (visible symbol ds) (if d.symbol == symbol then Some d else None)

-- the same where it is in the scope of this depth
abbrev pub at_depth : {M : Type 0} → ℕ → Option (Declared M) → Option (Declared M)
at_depth depth None = None
at_depth depth (Some d) = if d.depth == depth then Some d else None

abbrev pub kept : {M : Type 0} → ℕ → Declared M → List (Declared M) → List (Declared M)
kept depth d [] = if nat_lt d.depth depth then d ∷ [] else []
kept depth d (e ∷ es) = d ∷ (e ∷ es)

-- what is left where the scopes of this depth and of greater ones end
abbrev pub left : {M : Type 0} → ℕ → List (Declared M) → List (Declared M)
left depth [] = []
left depth (d ∷ ds) = kept depth d (left depth ds)

-- a list that another one begins with
abbrev pub IsFront : {A : Type 0} → List A → List A → Type 0
IsFront {A} front all = (rest : List A) × (all ≡ front ++ rest)

-- whether the newest is in a scope of this depth or of a greater one
abbrev pub ends_at : {M : Type 0} → ℕ → List (Declared M) → Bool
ends_at depth [] = false
ends_at depth (d ∷ []) = nat_le depth d.depth
ends_at depth (d ∷ ds) = ends_at depth ds

-- the same declaration in the scope of this depth
abbrev pub put_at : {M : Type 0} → ℕ → Declared M → Declared M
put_at depth d = record d { depth = depth }

abbrev pub changed_in : {M : Type 0} → ℕ → M → Declared M → List (Declared M) → List (Declared M) → Option (Declared M) → List (Declared M)
changed_in symbol meaning d ds rest (Some inner) = d ∷ rest
changed_in symbol meaning d ds rest None = (if d.symbol == symbol then record d { meaning = meaning } else d) ∷ ds

-- the visible declaration of the symbol gets another meaning
abbrev pub changed : {M : Type 0} → ℕ → M → List (Declared M) → List (Declared M)
changed symbol meaning [] = []
changed symbol meaning (d ∷ ds) = changed_in symbol meaning d ds (changed symbol meaning ds) (visible symbol ds)

-- a declaration hides those of its symbol before it, and no other (6.2.1p4)
abbrev pub InnerHides : Type 0 → Type 0
InnerHides M = (symbol : ℕ) (ds : List (Declared M)) (d : Declared M) →
    visible symbol (ds ++ d ∷ []) ≡ (if d.symbol == symbol then Some d else visible symbol ds)

-- where the scopes end that were opened, just what was declared outside them is left (6.2.1p4)
abbrev pub EndRestores : Type 0 → Type 0
EndRestores M = (depth : ℕ) (outer inner : List (Declared M)) →
    All (λ d. d.depth < depth) outer → All (λ d. depth ≤ d.depth) inner → left depth (outer ++ inner) ≡ outer
