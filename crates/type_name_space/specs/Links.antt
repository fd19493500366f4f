-- How the bindings are linked: where the newest of each symbol stands, and which one it hides (own).
use Rattle.std.specs.Prelude.{◌≡◌, ℕ, zero, suc, ◌==◌, Bool, if◌then◌else◌, List, [], ◌∷◌, ◌++◌, get_or, Option, Some, None}
use Rattle.std.specs.Borrow.{Bor}
use Rattle.type_name_space.specs.declared.space.Binding.{Binding}
use Rattle.type_name_space.specs.Scopes.{Declared}

abbrev pub declared_of : {M : Type 0} → Binding M → Declared M
declared_of b = record { symbol = b.symbol; depth = b.depth; meaning = b.meaning }

abbrev pub seen : {M : Type 0} → Option (Bor (Binding M)) → Option (Declared M)
seen None = None
seen (Some b) = Some (declared_of b.now)

abbrev pub place_behind : ℕ → Bool → ℕ
place_behind zero here = if here then 1 else 0
place_behind (suc n) here = suc (suc n)

-- one more than the place of the newest binding of the symbol; 0 where there is none
abbrev pub place_of : {M : Type 0} → ℕ → List (Binding M) → ℕ
place_of symbol [] = 0
place_of symbol (b ∷ bs) = place_behind (place_of symbol bs) (b.symbol == symbol)

-- each of these, behind those before, knows the place of the one that it hides
abbrev pub AreLinked : {M : Type 0} → List (Binding M) → List (Binding M) → Type 0
AreLinked before [] = Unit {0}
AreLinked before (b ∷ bs) = (b.hidden ≡ place_of b.symbol before) × AreLinked (before ++ b ∷ []) bs

pub record IsLinked {M : Type 0} (newest : List ℕ) (bindings : List (Binding M)) : Type 0 where
  pub found : (symbol : ℕ) → get_or newest symbol 0 ≡ place_of symbol bindings
  pub linked : AreLinked [] bindings

-- the binding at a place has another meaning
abbrev pub renamed : {M : Type 0} → ℕ → M → List (Binding M) → List (Binding M)
renamed at meaning [] = []
renamed zero meaning (b ∷ bs) = record b { meaning = meaning } ∷ bs
renamed (suc n) meaning (b ∷ bs) = b ∷ renamed n meaning bs
