-- Both halves of a test.
use Rattle.std.proofs.Common.{◌≡◌, Bool, true, false, ◌&&◌, ◌||◌, sym, ◌∙◌, true≢false}

pub both : (g d r : Bool) → g ≡ true → r ≡ d → r ≡ (g && d)
both true d r h e = e
both false d r h e = absurd (true≢false (sym h))

pub first_fails : (g d r : Bool) → g ≡ false → r ≡ false → r ≡ (g && d)
first_fails true d r h e = absurd (true≢false h)
first_fails false d r h e = e

pub first_holds : (g d r : Bool) → g ≡ true → r ≡ true → r ≡ (g || d)
first_holds true d r h e = e
first_holds false d r h e = absurd (true≢false (sym h))

pub second : (g d r : Bool) → g ≡ false → r ≡ d → r ≡ (g || d)
second true d r h e = absurd (true≢false h)
second false d r h e = e

pub third : (a b d r : Bool) → r ≡ (a && b) → r ≡ false → r ≡ (a && (b && d))
third true true d r e h = absurd (true≢false (sym e ∙ h))
third true false d r e h = h
third false b d r e h = h
