-- The longest run of bytes of a class.
use Rattle.std.proofs.Common.{◌≡◌, ℕ, ◌+◌, Bool, true, false, ◌&&◌, List, [], ◌∷◌, ◌++◌, length, drop, take, refl, ap, ◌∙◌, cond, arith}
use Rattle.std.specs.List.{prefix_len, list_all}
use Rattle.std.proofs.lemmas.Grind.{common_steps}
use Rattle.first_form.specs.Bytes.{begins}

-- a class with no byte has no run
pub prefix_len_no : (p : ℕ → Bool) (xs : List ℕ) → ((x : ℕ) → p x ≡ false) → prefix_len p xs ≡ 0
prefix_len_no p [] none = refl
prefix_len_no p (x ∷ xs) none = ap (λ b. cond b (1 + prefix_len p xs) 0) (none x)

begins_step : (b : Bool) (p : ℕ → Bool) (x : ℕ) (xs : List ℕ) → p x ≡ b → begins p (drop (prefix_len p xs) xs) ≡ false
    → begins p (drop (cond b (1 + prefix_len p xs) 0) (x ∷ xs)) ≡ false
begins_step true p x xs is rest = grind (arith, common_steps)
begins_step false p x xs is rest = is

-- behind a run stands no byte of its class
pub begins-drop_run : (p : ℕ → Bool) (xs : List ℕ) → begins p (drop (prefix_len p xs) xs) ≡ false
begins-drop_run p [] = refl
begins-drop_run p (x ∷ xs) = begins_step (p x) p x xs refl (begins-drop_run p xs)

list_all_step : (b : Bool) (p : ℕ → Bool) (x : ℕ) (xs : List ℕ) → p x ≡ b → list_all p (take (prefix_len p xs) xs) ≡ true
    → list_all p (take (cond b (1 + prefix_len p xs) 0) (x ∷ xs)) ≡ true
list_all_step true p x xs is rest = grind (arith, common_steps)
list_all_step false p x xs is rest = refl

-- a run is of the class
pub list_all-take_run : (p : ℕ → Bool) (xs : List ℕ) → list_all p (take (prefix_len p xs) xs) ≡ true
list_all-take_run p [] = refl
list_all-take_run p (x ∷ xs) = list_all_step (p x) p x xs refl (list_all-take_run p xs)

pub both : (a b : Bool) → a && b ≡ true → (a ≡ true) × (b ≡ true)
both true b h = (refl, h)
both false b h = let bad : (false ≡ true) = h in cc

-- bytes of a class, and behind them none of it
pub run_of_front : (p : ℕ → Bool) (xs ys : List ℕ) → list_all p xs ≡ true → begins p ys ≡ false → prefix_len p (xs ++ ys) ≡ length xs
run_of_front p [] [] all stops = refl
run_of_front p [] (y ∷ ys) all stops = ap (λ b. cond b (1 + prefix_len p ys) 0) stops
run_of_front p (x ∷ xs) ys all stops =
    let parts = both (p x) (list_all p xs) all in
    let rest = run_of_front p xs ys parts.1 stops in
    ap (λ b. cond b (1 + prefix_len p (xs ++ ys)) 0) parts.0 ∙ omega arith
