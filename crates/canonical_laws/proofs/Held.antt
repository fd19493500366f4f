-- No more frames are held than picks were taken.
use Rattle.std.proofs.Common.{arith, ◌≡◌, ◌+◌, ◌≤◌, ℕ, zero, suc, List, [], ◌∷◌, length, refl, sym, ap, subst}
use Rattle.c_typed.specs.declared.tree.Place.{Place}
use Rattle.c_model.specs.Runs.{Ends, No_row, Outcome, Over, Raises, Refused, Running, State, canonical_after, canonical_pick, entry_of, on_running, start, step}
use Rattle.c_model.specs.Steps.{Local, Pick, move}
use Rattle.c_model.specs.Values.{Value}
use Rattle.c_model.specs.World.{World}
use Rattle.value_facts.proofs.Steps.{has_gone, has_started, moved_keeps, same_state}
use Rattle.canonical_laws.specs.Held.{CanonicalHoldsFew, StartHoldsNone, StepsHoldOneMore}

pub start_holds_none : StartHoldsNone
start_holds_none world input vs st q = ap (λ (s : State). length s.held) (sym (has_started world input vs st q).state)

one_more : {A : Type 0} (x : A) (xs ys : List A) → ys ≡ x ∷ xs → length xs ≤ suc (length ys)
one_more x xs ys e = let l = ap length e in omega (arith, l)

pub steps_hold_one_more : StepsHoldOneMore
steps_hold_one_more world st after p q =
    let g = has_gone world st p after q in
    moved_keeps world st g.value g.store (entry_of world st.top p g.items ∷ st.trace) (λ s. length s.held ≤ suc (length st.held)) p
    (move world st.top st.top.begun p) (λ is. omega arith) (λ u h is starts. omega arith) (λ ends h rest is. one_more h rest st.held is) after g.moved_to

-- with so many held, at most as many more as picks are taken
module _ (world : World) where
  few_after : (n k : ℕ) (st after : State) → length st.held ≤ k → canonical_after world n st ≡ Running after → length after.held ≤ k + n
  few_after zero k st after l q = let same = ap (λ (s : State). length s.held) (same_state st after q) in omega (arith, l, same)
  few_after (suc n) k st after l q =
      stepped (step world st (canonical_pick world st.top st.top.begun))
      (λ between e. let m = steps_hold_one_more world st between (canonical_pick world st.top st.top.begun) e in omega (arith, l, m))
      (λ between m. few_after n (suc k) between after m) q
    where
      stepped : (o : Outcome) → ((between : State) → o ≡ Running between → length between.held ≤ suc k)
          → ((between : State) → length between.held ≤ suc k → canonical_after world n between ≡ Running after → length after.held ≤ suc k + n)
          → on_running o (canonical_after world n) ≡ Running after → length after.held ≤ k + suc n
      stepped (Running between) f g q = let l = g between (f between refl) q in omega (arith, l)
      stepped Refused f g q = absurd (cc (q))
      stepped (Raises c trace) f g q = absurd (cc (q))
      stepped (Over c k) f g q = absurd (cc (q))
      stepped No_row f g q = absurd (cc (q))
      stepped (Ends status out trace) f g q = absurd (cc (q))

pub canonical_holds_few : CanonicalHoldsFew
canonical_holds_few world input vs n st after begins goes =
    let none = start_holds_none world input vs st begins in
    let few = few_after world n 0 st after (omega (arith, none)) goes in
    omega (arith, few)
