-- What a loop has seen of a list.
use Rattle.std.proofs.Common.{◌≡◌, ℕ, ◌+◌, ◌<◌, ◌≤◌, List, length, get_or, take, All, subst}
use Rattle.std.proofs.lemmas.List.{take_all}
use Rattle.std.proofs.lemmas.List.Elements.{All-more}

module _ {X : Type 0} (P : X → Type 0) where
  pub more : (xs : List X) (i : ℕ) (x : X) → i < length xs → x ≡ get_or xs i x → P x → All P (take i xs) → All P (take (i + 1) xs)
  more xs i x lt is p h = All-more P xs i x lt h (subst P is p)

  pub whole : (xs : List X) (i : ℕ) → length xs ≤ i → All P (take i xs) → All P xs
  whole xs i le h = subst (All P) (take_all i xs le) h
