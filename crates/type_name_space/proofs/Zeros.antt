-- A list of places that is 0 past its end.
use Rattle.std.proofs.Common.{◌≡◌, ℕ, zero, suc, List, [], ◌∷◌, ◌++◌, get_or, refl}

-- a further 0 changes none
pub zero_more : (places : List ℕ) (s : ℕ) → get_or (places ++ 0 ∷ []) s 0 ≡ get_or places s 0
zero_more [] zero = refl
zero_more [] (suc s) = refl
zero_more (p ∷ places) zero = refl
zero_more (p ∷ places) (suc s) = zero_more places s
