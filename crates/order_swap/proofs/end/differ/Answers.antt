use Rattle.std.proofs.Common.{◌≡◌, Bool, true, false, not, refl}
use Rattle.std.specs.Prelude.{◌↔◌, IsTrue}
use Rattle.std.proofs.lemmas.Bool.{false≢true}
use Rattle.order_swap.proofs.end.differ.Goals as goal

negated : (r : Bool) (P : Type 0) → (IsTrue r ↔ P) → (IsTrue (not r) ↔ (P → ⊥))
negated true P e = (λ h. absurd (false≢true h), λ n. absurd (n (e.0 refl)))
negated false P e = (λ h p. false≢true (e.1 p), λ n. refl)

pub returns : goal.returns
returns c = negated c.are_equal.result (c.args.other.now ≡ c.args.end.now) c.are_equal.ensures
