use Rattle.std.proofs.Common.{◌≡◌, ℕ, zero, suc, false, true≢false, List, [], ◌∷◌, None, refl, sym, ap, ◌∙◌, subst}
use Rattle.ub_base.specs.declared.clause.Kind.TheVariants.{Val, Eff, Body}
use Rattle.ub_base.specs.declared.names.Item.TheVariants.{Read, Write, Output}
use Rattle.c_typed.specs.Order.{place}
use Rattle.c_model.specs.Values.{Value}
use Rattle.c_model.specs.World.{World}
use Rattle.c_model.specs.Steps.{Pick}
use Rattle.c_model.specs.Runs.{Entry, State, Outcome, Refused, Raises, Over, No_row, Ends, Running, is_running, on_running}
use Rattle.c_model.specs.Runs.{trace_of, start, step, After, here, refused, last, more, too_late, canonical_pick, canonical_after}
use Rattle.c_model.specs.Findings.{first, later, newest, older}
use Rattle.c_model.specs.Claims.{ComesTo, starts, stops, refuses, canonical_picks, CanonicallyComesTo, other_newer}
use Rattle.c_model.specs.FindingLaws.{GoesOrEnds, PairMet}
use Rattle.c_model.proofs.Decided.{lt_of}
use Rattle.c_model.proofs.Closed.{before_found}
use Rattle.c_model.proofs.FindingsTrue.{races_met, quarrels_met}
use Rattle.model_samples.specs.Build.{world_of, main_object}
use Rattle.model_samples.specs.Traces.{sum, sum_pair, prints, prints_pair}
use Rattle.model_samples.proofs.law_traces.Goals as goal

abbrev state_in : Outcome → State → State
state_in (Running st) other = st
state_in o other = other

same_state : (a b : State) → Running a ≡ Running b → a ≡ b
same_state a b q = ap (λ o. state_in o a) q

stays : (o : Outcome) (k : State → Outcome) → is_running o ≡ false → on_running o k ≡ o
stays Refused k f = refl
stays (Raises c trace) k f = refl
stays (Over c n) k f = refl
stays No_row k f = refl
stays (Ends s out trace) k f = refl
stays (Running st) k f = absurd (true≢false f)

-- an order that is permitted comes to what its picks lead to
module _ (world : World) where
  ended : (st : State) (p q : Pick) (ps : List Pick) (o : Outcome) → is_running (step world st p) ≡ false → After world st (p ∷ q ∷ ps) o → GoesOrEnds o → ⊥
  ended st p q ps _ f (refused _ _ _ h) g = g
  ended st p q ps o f (more _ next' _ _ _ _ m e a) g = true≢false (sym (ap is_running e) ∙ f)
  ended st p q ps _ f (too_late _ _ _ _ m h) g = g

  on_none : (o : Outcome) → on_running o (canonical_after world 0) ≡ o
  on_none Refused = refl
  on_none (Raises c trace) = refl
  on_none (Over c n) = refl
  on_none No_row = refl
  on_none (Ends s out trace) = refl
  on_none (Running st) = refl

  abbrev Leads : ℕ → Type 0
  Leads n = (st : State) (o : Outcome) → After world st (canonical_picks world n (Running st)) o → GoesOrEnds o → o ≡ canonical_after world n st

  one : (st : State) (o : Outcome) → After world st (canonical_pick world st.top st.top.begun ∷ []) o → GoesOrEnds o →
      o ≡ step world st (canonical_pick world st.top st.top.begun)
  one st _ (refused _ _ _ h) g = absurd g
  one st _ (last _ _ m) g = refl

  at_pick : (n : ℕ) → Leads (suc n) → (st : State) (o r : Outcome) → step world st (canonical_pick world st.top st.top.begun) ≡ r
      → After world st (canonical_pick world st.top st.top.begun ∷ canonical_picks world (suc n) r) o → GoesOrEnds o →
      o ≡ on_running r (canonical_after world (suc n))
  at_pick n again st _ (Running st') q (refused _ _ _ h) g = absurd g
  at_pick n again st o (Running st') q (more _ next' _ _ _ _ m e a) g =
      again st' o (subst (λ z. After world z (canonical_picks world (suc n) (Running st')) o) (same_state next' st' (sym e ∙ q)) a) g
  at_pick n again st _ (Running st') q (too_late _ _ _ _ m f) g = absurd g
  at_pick n again st o Refused q a g = absurd (ended st _ _ _ o (ap is_running q) a g)
  at_pick n again st o (Raises c trace) q a g = absurd (ended st _ _ _ o (ap is_running q) a g)
  at_pick n again st o (Over c k) q a g = absurd (ended st _ _ _ o (ap is_running q) a g)
  at_pick n again st o No_row q a g = absurd (ended st _ _ _ o (ap is_running q) a g)
  at_pick n again st o (Ends s out trace) q a g = absurd (ended st _ _ _ o (ap is_running q) a g)

  none_left : (st : State) (o : Outcome) → After world st [] o → o ≡ Running st
  none_left st _ (here _) = refl

  leads : (n : ℕ) → Leads n
  leads zero = λ st o a g. none_left st o a
  leads (suc zero) = λ st o a g. one st o a g ∙ sym (on_none _)
  leads (suc (suc n)) = λ st o a g. at_pick n (leads (suc n)) st o _ refl a g

  arrives : (n : ℕ) (input : List ℕ) (vs : List Value) (ps : List Pick) (o : Outcome) → ps ≡ canonical_picks world n (start world input vs)
      → ComesTo world input vs ps o → GoesOrEnds o → o ≡ on_running (start world input vs) (canonical_after world n)
  arrives n input vs _ _ p (starts st ps o q a) g =
      leads n st o (subst (λ z. After world st z o) (p ∙ ap (canonical_picks world n) q) a) g ∙ sym (ap (λ z. on_running z (canonical_after world n)) q)
  arrives n input vs _ _ p (stops o q f) g = sym (stays o (canonical_after world n) f) ∙ sym (ap (λ z. on_running z (canonical_after world n)) q)
  arrives n input vs _ _ p (refuses _ ps f) g = absurd g

  permitted : (n : ℕ) (input : List ℕ) (vs : List Value) → PairMet world input vs n
      → CanonicallyComesTo world input vs n (on_running (start world input vs) (canonical_after world n))
  permitted n input vs m = subst (λ o. CanonicallyComesTo world input vs n o) (arrives n input vs _ _ refl m.permitted m.goes_or_ends) m.permitted

abbrev nth : ℕ → List Entry → Entry
nth n [] = record { path = []; turn = 0; place = None; begun = None; line = 0; items = [] }
nth zero (e ∷ es) = e
nth (suc n) (e ∷ es) = nth n es

abbrev sums : Outcome
sums = on_running (start (world_of sum) [] []) (canonical_after (world_of sum) 9)

abbrev sum_trace : List Entry
sum_trace = trace_of sums

pub returns-clause-race : goal.returns-clause-race
returns-clause-race c = record {
  outcome = sums;
  permitted = permitted (world_of sum) 9 [] [] (races_met (world_of sum) 200 [] [] sum_pair 9 refl);
  race = other_newer (nth 0 sum_trace) (nth 1 sum_trace)
      (record { of_frame = refl; of_turn = refl; of_line = refl })
      (record { of_frame = refl; of_turn = refl; of_line = refl })
      (record {
        both = newest (nth 0 sum_trace) (nth 1 sum_trace) _ (place 3 Val) (place 1 Eff) refl (first (nth 1 sum_trace) _ (place 1 Eff) refl) refl refl;
        apart = record { not_before = λ b. true≢false (sym (before_found _ _ _ _ b)); not_after = λ b. true≢false (sym (before_found _ _ _ _ b)) };
        bodiless = refl;
        clash = refl;
      })
      (record {
        first = Write (main_object 0) 0 1;
        second = Read (main_object 0) 0 1;
        told = refl;
        of_first = (1, lt_of _ _ refl, refl);
        of_second = (1, lt_of _ _ refl, refl);
        conflict = refl;
      });
}

abbrev printed : Outcome
printed = on_running (start (world_of prints) [] []) (canonical_after (world_of prints) 6)

abbrev print_trace : List Entry
print_trace = trace_of printed

pub returns-clause-quarrel : goal.returns-clause-quarrel
returns-clause-quarrel c = record {
  outcome = printed;
  permitted = permitted (world_of prints) 6 [] [] (quarrels_met (world_of prints) 200 [] [] prints_pair 6 refl);
  quarrel = other_newer (nth 1 print_trace) (nth 3 print_trace)
      (record { of_frame = refl; of_turn = refl; of_line = refl })
      (record { of_frame = refl; of_turn = refl; of_line = refl })
      (record {
        both = older _ (nth 1 print_trace) (nth 3 print_trace) _ (place 4 Body) (place 1 Body)
            (newest (nth 1 print_trace) (nth 3 print_trace) _ (place 4 Body) (place 1 Body) refl
            (later _ (nth 3 print_trace) _ (place 1 Body) (first (nth 3 print_trace) _ (place 1 Body) refl)) refl refl);
        apart = record { not_before = λ b. true≢false (sym (before_found _ _ _ _ b)); not_after = λ b. true≢false (sym (before_found _ _ _ _ b)) };
        clash = refl;
        no_race = λ r. true≢false r.bodiless;
      })
      (record {
        first = Output;
        second = Output;
        told = refl;
        of_first = (0, lt_of _ _ refl, refl);
        of_second = (0, lt_of _ _ refl, refl);
        conflict = refl;
      });
}
