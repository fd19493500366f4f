-- What a pick more leaves of a run, and of the worlds that suit it.
use Rattle.std.proofs.Common.{◌≡◌, ◌+◌, ◌-◌, ℕ, suc, zero, arith, refl, sym, ap, subst, List, [], ◌∷◌, inl, inr, Some}
use Rattle.std.proofs.lemmas.List.Elements.{All-head, All-tail}
use Rattle.ub_base.specs.Frames.{Path, Row as Started_frame}
use Rattle.addr_map.specs.declared.map.Row.{Row}
use Rattle.mem_laws.specs.MoreRows.{Extends}
use Rattle.c_model.specs.Runs.{Ends, No_row, Outcome, Over, Raises, Refused, Running, State, canonical_after, canonical_pick, on_running, step}
use Rattle.c_model.specs.World.{World}
use Rattle.frame_numbers.specs.Numbers.{NumbersStay, number_in}
use Rattle.run_state.specs.declared.machine.Machine.{Machine}
use Rattle.run_answers.specs.declared.pick.Pick.{Pick}
use Rattle.run_answers.specs.declared.pick.Pick.TheVariants as pick
use Rattle.canonical_laws.specs.Along.{HasRowsOf}
use Rattle.core_run.specs.Calls.{row_by}
use Rattle.core_run.specs.Canonical.{Suits}
use Rattle.core_run.specs.Steps.{Grows}

-- ---- one pick more
some_running : (a b : State) → Running a ≡ Running b → a ≡ b
some_running a b q = ap (λ (o : Outcome). state_of o a) q
  where
    state_of : Outcome → State → State
    state_of (Running st) other = st
    state_of o other = other

module _ (world : World) where
  behind : (o : Outcome) → on_running o (canonical_after world zero) ≡ o
  behind Refused = refl
  behind (Raises c trace) = refl
  behind (Over c n) = refl
  behind No_row = refl
  behind (Ends n out trace) = refl
  behind (Running st) = refl

  pub one_more : (n : ℕ) (first st : State) → canonical_after world n first ≡ Running st
      → canonical_after world (suc n) first ≡ step world st (canonical_pick world st.top st.top.begun)
  one_more zero first st q =
      subst (λ (z : State). canonical_after world (suc zero) first ≡ step world z (canonical_pick world z.top z.top.begun)) (some_running first st q)
      (behind (step world first (canonical_pick world first.top first.top.begun)))
  one_more (suc n) first st q =
      from (λ s r. one_more n s st r) (step world first (canonical_pick world first.top first.top.begun)) q
    where
      from : ((s : State) → canonical_after world n s ≡ Running st
          → canonical_after world (suc n) s ≡ step world st (canonical_pick world st.top st.top.begun)) → (o : Outcome)
          → on_running o (canonical_after world n) ≡ Running st
          → on_running o (canonical_after world (suc n)) ≡ step world st (canonical_pick world st.top st.top.begun)
      from again Refused r = absurd (cc (r))
      from again (Raises c trace) r = absurd (cc (r))
      from again (Over c k) r = absurd (cc (r))
      from again No_row r = absurd (cc (r))
      from again (Ends k out trace) r = absurd (cc (r))
      from again (Running s) r = again s r

-- ---- worlds that suit what comes after suit what was before
pub grown_numbers : NumbersStay → (p : Pick) (old new : List Started_frame) → Grows p old new → (f : Path) (n : ℕ) → number_in old f ≡ Some n
    → number_in new f ≡ Some n
grown_numbers stay (pick.Step status) old new g f n q = subst (λ (z : List Started_frame). number_in z f ≡ Some n) (sym g) q
grown_numbers stay (pick.Event event completed status) old new g f n q = subst (λ (z : List Started_frame). number_in z f ≡ Some n) (sym g) q
grown_numbers stay (pick.Starts event) old new (inl g) f n q = subst (λ (z : List Started_frame). number_in z f ≡ Some n) (sym g) q
grown_numbers stay (pick.Starts event) old new (inr g) f n q =
    subst (λ (z : List Started_frame). number_in z f ≡ Some n) (sym g) (stay old (row_by event ∷ []) f n q)

pub suits_before : NumbersStay → (p : Pick) (past : List Row) (earlier : List (List Row)) (old new : List Started_frame) (rows : List Row) (number : Path → ℕ)
    → Grows p old new → Suits (past ∷ earlier) new rows number → Suits earlier old rows number
suits_before stay p past earlier old new rows number g s = record {
  map = s.map;
  has = All-tail (λ (z : List Row). Extends z rows) past earlier s.has;
  numbers = λ f n q. s.numbers f n (grown_numbers stay p old new g f n q);
}

pub suits_same : (past : List Row) (earlier : List (List Row)) (frames : List Started_frame) (rows : List Row) (number : Path → ℕ)
    → Suits (past ∷ earlier) frames rows number → Suits earlier frames rows number
suits_same past earlier frames rows number s = record { map = s.map; has = All-tail (λ (z : List Row). Extends z rows) past earlier s.has; numbers = s.numbers }

pub rows_of_both : (old new : Machine) (earlier : List (List Row)) (frames : List Started_frame) (rows : List Row) (number : Path → ℕ)
    → Suits (new.memory.rows ∷ old.memory.rows ∷ earlier) frames rows number → HasRowsOf rows old new
rows_of_both old new earlier frames rows number s = record {
  before = All-head (λ (z : List Row). Extends z rows) old.memory.rows earlier
      (All-tail (λ (z : List Row). Extends z rows) new.memory.rows (old.memory.rows ∷ earlier) s.has);
  behind = All-head (λ (z : List Row). Extends z rows) new.memory.rows (old.memory.rows ∷ earlier) s.has;
  apart = s.map.apart;
}

pub plus_one : (n : ℕ) → n + 1 ≡ suc n
plus_one n = omega arith

pub less_one : (n : ℕ) → n ≡ (n + 1) - 1
less_one n = omega arith
