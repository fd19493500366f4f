-- Rounding up gives the least multiple that isn't below.
use Rattle.std.proofs.Common.{◌≡◌, ℕ, zero, suc, ◌+◌, ◌-◌, ◌*◌, ◌/◌, ◌%◌, ◌<◌, ◌≤◌, ◌⊎◌, inl, inr, refl, ap, ◌∙◌, arith}
use Rattle.std.proofs.lemmas.Bool.{cases_lt}
use Rattle.std.proofs.lemmas.Nat.{mod-mul-add, div-add-mod', mod_below, mul-le}
use Rattle.std.proofs.Math.Nat.{add-mul}
use Rattle.c_types.specs.Layout.{rounded}

-- what is added to reach a multiple
slack : (d r : ℕ) → r < d → ((r ≡ 0) × ((d - r) % d ≡ 0)) ⊎ ((0 < r) × ((d - r) % d ≡ d - r))
slack d zero h = inl (refl, let e : d - 0 ≡ 1 * d + 0 = omega arith in ap (λ n. n % d) e ∙ mod-mul-add 1 d 0 h)
slack d (suc r) h = inr (omega arith, let e : d - suc r ≡ 0 * d + (d - suc r) = omega arith in ap (λ n. n % d) e ∙ mod-mul-add 0 d (d - suc r) (omega arith))

pub rounded-above : (d n : ℕ) → n ≤ rounded d n
rounded-above d n = omega arith

-- one time more
once_more : (q d : ℕ) → (q + 1) * d ≡ q * d + d
once_more q d = let e : (q + 1) * d ≡ q * d + 1 * d = add-mul q 1 d in let one : 1 * d ≡ d = omega arith in omega arith

-- an offset between two multiples goes to the upper one
up : (d n : ℕ) → 0 < n % d → (d - n % d) % d ≡ d - n % d → n % d < d → rounded d n ≡ (n / d + 1) * d
up d n more e below =
    let split : n / d * d + n % d ≡ n = div-add-mod' n d in
    let next : (n / d + 1) * d ≡ n / d * d + d = once_more (n / d) d in
    omega arith

pub rounded-multiple : (d n : ℕ) → 0 < d → rounded d n % d ≡ 0
rounded-multiple d n positive = elim (slack d (n % d) (mod_below n d positive)) [
  | inl h ↦ (let same : rounded d n ≡ n = omega arith in ap (λ m. m % d) same ∙ h.0)
  | inr h ↦ (let same : rounded d n ≡ (n / d + 1) * d + 0 = let e = up d n h.0 h.1 (mod_below n d positive) in omega arith in ap
      (λ m. m % d) same ∙ mod-mul-add (n / d + 1) d 0 positive)
]

-- a multiple that isn't below an offset with a rest is above the multiple below it
higher : (d n m : ℕ) → 0 < n % d → n ≤ m → m % d ≡ 0 → (n / d + 1) * d ≤ m
higher d n m more le even =
    let split : n / d * d + n % d ≡ n = div-add-mod' n d in
    let whole : m / d * d + m % d ≡ m = div-add-mod' m d in
    elim (cases_lt (n / d) (m / d)) [
      | inl h ↦ (let above : (n / d + 1) * d ≤ m / d * d = mul-le (n / d + 1) d (m / d) d (omega arith) (omega arith) in omega arith)
      | inr h ↦ (let under : m / d * d ≤ n / d * d = mul-le (m / d) d (n / d) d h (omega arith) in absurd (omega arith))
    ]

pub rounded-least : (d n m : ℕ) → 0 < d → n ≤ m → m % d ≡ 0 → rounded d n ≤ m
rounded-least d n m positive le even = elim (slack d (n % d) (mod_below n d positive)) [
  | inl h ↦ omega arith
  | inr h ↦ (let e = up d n h.0 h.1 (mod_below n d positive) in let f = higher d n m h.0 le even in omega arith)
]
