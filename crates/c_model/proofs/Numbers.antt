-- The numbering of the samples gives each frame a number of its own.
use Rattle.std.proofs.Common.{◌≡◌, ◌<◌, ◌≤◌, ◌⊎◌, inl, inr, ℕ, zero, suc, ◌+◌, ◌-◌, ◌*◌, ◌/◌, [], ◌∷◌, refl, sym, ap, ap₂, ◌∙◌, subst, arith}
use Rattle.std.proofs.Math.Nat.{mul-add-div, mul-suc, suc-mul}
use Rattle.ub_base.specs.Frames.{Path}
use Rattle.c_model.specs.World.{NumbersFrames}
use Rattle.c_model.specs.Numbering.{pair_number, frame_number}

abbrev triangle : ℕ → ℕ
triangle n = n * suc n / 2

shuffle : (x k : ℕ) → x + k + k ≡ 2 * k + x
shuffle x k = omega arith

product : (n : ℕ) → suc n * suc (suc n) ≡ 2 * suc n + n * suc n
product n = mul-suc (suc n) (suc n) ∙ ap (λ z. z + suc n) (suc-mul n (suc n)) ∙ shuffle (n * suc n) (suc n)

rises : (n : ℕ) → triangle (suc n) ≡ suc n + triangle n
rises n = ap (λ z. z / 2) (product n) ∙ mul-add-div (omega arith) (suc n) (n * suc n)

-- each row of numbers begins behind the rows before it
behind : (s d : ℕ) → triangle s + suc s ≤ triangle (suc (d + s))
behind s zero = let r = rises s in omega (arith, r)
behind s (suc d) = let r = rises (suc (d + s)) in let h = behind s d in omega (arith, r, h)

lower : (s t b d : ℕ) → s < t → b ≤ s → triangle s + b ≡ triangle t + d → ⊥
lower s t b d l k e =
    let h = behind s (t - suc s) in
    let q : suc ((t - suc s) + s) ≡ t = omega (arith, l) in
    let g : triangle s + suc s ≤ triangle t = subst (λ z. triangle s + suc s ≤ triangle z) q h in
    omega (arith, g, k, e)

compare : (s t : ℕ) → (s < t) ⊎ ((s ≡ t) ⊎ (t < s))
compare zero zero = inr (inl refl)
compare zero (suc t) = inl (omega arith)
compare (suc s) zero = inr (inr (omega arith))
compare (suc s) (suc t) = go (compare s t)
  where
    go : (s < t) ⊎ ((s ≡ t) ⊎ (t < s)) → (suc s < suc t) ⊎ ((suc s ≡ suc t) ⊎ (suc t < suc s))
    go (inl l) = inl (omega (arith, l))
    go (inr (inl e)) = inr (inl (ap suc e))
    go (inr (inr g)) = inr (inr (omega (arith, g)))

both : (a b c d : ℕ) → pair_number a b ≡ pair_number c d → (a ≡ c) × (b ≡ d)
both a b c d e = go (compare (a + b) (c + d))
  where
    go : (a + b < c + d) ⊎ ((a + b ≡ c + d) ⊎ (c + d < a + b)) → (a ≡ c) × (b ≡ d)
    go (inl l) = absurd (lower (a + b) (c + d) b d l (omega arith) e)
    go (inr (inr g)) = absurd (lower (c + d) (a + b) d b g (omega arith) (sym e))
    go (inr (inl q)) =
        let t : triangle (a + b) ≡ triangle (c + d) = ap triangle q in
        let r : b ≡ d = omega (arith, t, e) in
        (omega (arith, q, r), r)

distinct : (f g : Path) → frame_number f ≡ frame_number g → f ≡ g
distinct [] [] e = refl
distinct [] (r ∷ g) e = absurd (cc)
distinct (s ∷ f) [] e = absurd (cc)
distinct (s ∷ f) (r ∷ g) e =
    let outer = both (pair_number s.0 s.1) (frame_number f) (pair_number r.0 r.1) (frame_number g) (omega (arith, e)) in
    let inner = both s.0 s.1 r.0 r.1 outer.0 in
    ap₂ (λ p q. p ∷ q) (ap₂ (λ x y. (x, y)) inner.0 inner.1) (distinct f g outer.1)

pub numbered : NumbersFrames frame_number
numbered = record { main = refl; distinct = distinct }
