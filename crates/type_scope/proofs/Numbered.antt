-- String literals by number: one more, and those before a place.
use Rattle.std.proofs.Common.{◌≡◌, ℕ, ◌<◌, ◌≤◌, suc, List, [], ◌∷◌, ◌++◌, length, map, take, drop, refl, sym, ap, ◌∙◌, arith}
use Rattle.std.specs.Prelude.{get_or, slice_get, Option, Some, Result, Ok, Err, IfOk, OnOk}
use Rattle.std.specs.List.{remove}
use Rattle.std.specs.Option.{option_map}
use Rattle.std.proofs.lemmas.List.{map-append, take-map, take-take, take-append-le, length-take, length-take-le, length-map}
use Rattle.std.proofs.lemmas.Option.{slice_get-map, slice_get-get_or, same_Some}

-- 1. Lists.

-- those before a place, where one behind it is taken out
pub take_removed : {X : Type 0} (xs : List X) (k i : ℕ) → k ≤ i → i < length xs → take k (remove xs i) ≡ take k xs
take_removed xs k i le less =
    take-append-le k (take i xs) (drop (suc i) xs) (omega (arith, length-take i xs)) ∙ take-take k i xs le

pub map_removed : {X Y : Type 0} (f : X → Y) (xs : List X) (k i : ℕ) → k ≤ i → i < length xs → take k (map f (remove xs i)) ≡ take k (map f xs)
map_removed f xs k i le less = take-map f k (remove xs i) ∙ ap (map f) (take_removed xs k i le less) ∙ sym (take-map f k xs)

-- the one that is taken out
pub map_taken : {X Y : Type 0} (f : X → Y) (xs : List X) (i : ℕ) (x : X) → i < length xs → x ≡ get_or xs i x → slice_get (map f xs) i ≡ Some (f x)
map_taken f xs i x less is =
    slice_get-map f xs i ∙ ap (option_map f) (slice_get-get_or xs i x less) ∙ ap (λ y. Some (f y)) (sym is)

-- 2. Names, and the bytes of each.

pub named_more : (f : ℕ → Option (List ℕ)) (names : List ℕ) (name : ℕ) (bytes : List ℕ) (was now : List (List ℕ)) → f name ≡ Some bytes
    → now ≡ was ++ bytes ∷ [] → map f names ≡ map (λ b. Some b) was → map f (names ++ name ∷ []) ≡ map (λ b. Some b) now
named_more f names name bytes was now is more all =
    map-append f names (name ∷ [])
    ∙ ap (λ xs. xs ++ f name ∷ []) all
    ∙ ap (λ x. map (λ b. Some b) was ++ x ∷ []) is
    ∙ sym (map-append (λ (b : List ℕ). Some b) was (bytes ∷ []))
    ∙ sym (ap (λ bs. map (λ b. Some b) bs) more)

pub named_before : (f : ℕ → Option (List ℕ)) (names : List ℕ) (k : ℕ) (was now : List (List ℕ)) → now ≡ take k was
    → map f names ≡ map (λ b. Some b) was → map f (take k names) ≡ map (λ b. Some b) now
named_before f names k was now is all =
    sym (take-map f k names)
    ∙ ap (take k) all
    ∙ take-map (λ (b : List ℕ). Some b) k was
    ∙ sym (ap (λ bs. map (λ b. Some b) bs) is)

pub named_at : (f : ℕ → Option (List ℕ)) (names : List ℕ) (k name : ℕ) (bytes : List ℕ) (was : List (List ℕ)) → slice_get names k ≡ Some name
    → slice_get was k ≡ Some bytes → map f names ≡ map (λ b. Some b) was → f name ≡ Some bytes
named_at f names k name bytes was is there all =
    same_Some (f name) (Some bytes)
    (sym (ap (option_map f) is) ∙ sym (slice_get-map f names k) ∙ ap (λ xs. slice_get xs k) all ∙ slice_get-map (λ (b : List ℕ). Some b) was k
    ∙ ap (option_map (λ (b : List ℕ). Some b)) there)

pub removed_before : {X Y : Type 0} (f : X → Y) (xs ys : List X) (k i : ℕ) → k ≤ i → i < length xs → ys ≡ remove xs i
    → take k (map f ys) ≡ take k (map f xs)
removed_before f xs ys k i le less is = ap (λ zs. take k (map f zs)) is ∙ map_removed f xs k i le less

pub length_named : (f : ℕ → Option (List ℕ)) (names : List ℕ) (was : List (List ℕ)) → map f names ≡ map (λ b. Some b) was → length names ≡ length was
length_named f names was all =
    sym (length-map names f) ∙ ap length all ∙ length-map was (λ (b : List ℕ). Some b)

-- one is kept, and stands behind those before the place
pub named_kept : (f : ℕ → Option (List ℕ)) (names : List ℕ) (k number name : ℕ) (bytes : List ℕ) (was middle now : List (List ℕ))
    → slice_get names number ≡ Some name → slice_get was number ≡ Some bytes → middle ≡ take k was → now ≡ middle ++ bytes ∷ []
    → map f names ≡ map (λ b. Some b) was → map f (take k names ++ name ∷ []) ≡ map (λ b. Some b) now
named_kept f names k number name bytes was middle now is there before more all =
    named_more f (take k names) name bytes middle now (named_at f names number name bytes was is there all) more
    (named_before f names k was middle before all)

pub kept_number : {E : Type 0} (r : Result ℕ E) (k number : ℕ) (was middle : List (List ℕ)) → IfOk r (λ n. n ≡ length middle)
    → (k ≤ number → middle ≡ take k was) → IfOk r (λ n. k ≤ number → number < length was → n ≡ k)
kept_number (Ok n) k number was middle is before =
    λ le less. is ∙ ap length (before le) ∙ length-take-le k was (omega arith)
kept_number (Err e) k number was middle is before = tt

pub kept_named : {E : Type 0} (r : Result ℕ E) (k number : ℕ) (bytes : List ℕ) (was middle now : List (List ℕ))
    → OnOk r (now ≡ middle ++ bytes ∷ []) → slice_get was number ≡ Some bytes → (k ≤ number → middle ≡ take k was)
    → OnOk r (k ≤ number → (f : ℕ → Option (List ℕ)) (names : List ℕ) (name : ℕ) → slice_get names number ≡ Some name
    → map f names ≡ map (λ b. Some b) was → map f (take k names ++ name ∷ []) ≡ map (λ b. Some b) now)
kept_named (Ok n) k number bytes was middle now more there before =
    λ le f names name is all. named_kept f names k number name bytes was middle now is there (before le) more all
kept_named (Err e) k number bytes was middle now more there before = tt
