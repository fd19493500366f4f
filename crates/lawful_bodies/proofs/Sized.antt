-- What holds of each object of a block, by its place.
use Rattle.std.proofs.Common.{◌≡◌, ℕ, ◌+◌, ◌<◌, ◌≤◌, List, length, get_or, take, map, subst, take_all}
use Rattle.std.specs.List.{All}
use Rattle.std.proofs.lemmas.List.Elements.{All-more, All-map}

pub more : {X : Type 0} (P : X → Type 0) (xs : List X) (i : ℕ) (x : X) → i < length xs → x ≡ get_or xs i x → P x → All P (take i xs) → All P (take (i + 1) xs)
more P xs i x l e p h = All-more P xs i x l h (subst P e p)

pub whole : {X Y : Type 0} (P : Y → Type 0) (f : X → Y) (xs : List X) (i : ℕ) → length xs ≤ i → All (λ x. P (f x)) (take i xs) → All P (map f xs)
whole {X} P f xs i l h = All-map P f xs (subst (All (λ (x : X). P (f x))) (take_all i xs l) h)
