-- What is found first where the next pick doesn't go on.
use Rattle.std.proofs.Common.{◌≡◌, ℕ, suc, List, [], ◌∷◌, length, Option, Some, None, refl, sym, ap, subst, ◌∙◌}
use Rattle.ub_base.specs.declared.clause.Cause.{Cause}
use Rattle.ub_base.specs.declared.clause.Clause.{Clause}
use Rattle.c_typed.specs.declared.tree.Place.{Place}
use Rattle.mem_spec.specs.Script.{Act, Done, Raised, Ended, Outside, Unplaced}
use Rattle.mem_spec.specs.Store.{Store}
use Rattle.c_model.specs.FirstFinding.{Finding, Clean, Undefined, all_open, ends_in, found_in, raised_at}
use Rattle.c_model.specs.Moments.{Open}
use Rattle.c_model.specs.Moves.{Move, Stay, Start, End}
use Rattle.c_model.specs.Runs.{Entry, State, Outcome, Refused, Raises, Over, No_row, Ends, Running, acted, back, canonical_pick, entry_of, limited, moved, step}
use Rattle.c_model.specs.Runs.{trace_of, within}
use Rattle.c_model.specs.Steps.{Begun, Control, Ev, Local, Pick, Scene, move}
use Rattle.c_model.specs.Values.{Value}
use Rattle.c_model.specs.World.{Limits, World}
use Rattle.detector_laws.specs.Looked.{GoesFree, none, more}
use Rattle.detector_laws.specs.Shown.{all_begun, begun_below, begun_in}
use Rattle.detector_laws.proofs.Firsts.{free_picks_pass, last_pick_tells}
use Rattle.ending_laws.specs.First.{BudgetIsFirst, EndIsFirst, LimitIsFirst, RaiseIsFirst, ReturnIsClean}
use Rattle.ending_laws.specs.Frames.{IsFindingOf, all_ending}
use Rattle.ending_laws.proofs.Entries.{leaves_entry}
use Rattle.ending_laws.proofs.Nested.{open_are_nested}
use Rattle.ending_laws.proofs.Union.{first_of_all}

-- ---- a raised clause
raised_within : (x : Option (Cause × ℕ)) (o : Outcome) (c : Clause) (later : List Entry) → within x o ≡ Raises c later → o ≡ Raises c later
raised_within None o c later q = q
raised_within (Some d) o c later q = absurd (cc (q))

raised_limited : (limits : Limits) (o : Outcome) (c : Clause) (later : List Entry) → limited limits o ≡ Raises c later → o ≡ Raises c later
raised_limited limits Refused c later q = q
raised_limited limits (Raises d trace) c later q = q
raised_limited limits (Over d n) c later q = q
raised_limited limits No_row c later q = q
raised_limited limits (Ends n out trace) c later q = q
raised_limited limits (Running s) c later q = absurd (let z = raised_within _ (Running s) c later q in cc (z))

module _ (world : World) (st : State) where
  back_raises : (hs : List (Local × Place)) (v : Value) (s : Store) (trace : List Entry) (c : Clause) (later : List Entry) →
      back world hs v s trace ≡ Raises c later → ⊥
  back_raises [] v s trace c later q = cc (q)
  back_raises (h ∷ hs) v s trace c later q = cc (q)

  moved_raises : (p : Pick) (m : Move Local) (v : Value) (s : Store) (trace : List Entry) (c : Clause) (later : List Entry) →
      moved world st p m v s trace ≡ Raises c later → ⊥
  moved_raises Control Stay v s trace c later q = cc (q)
  moved_raises (Ev u) Stay v s trace c later q = cc (q)
  moved_raises Control (Start g) v s trace c later q = cc (q)
  moved_raises (Ev u) (Start g) v s trace c later q = cc (q)
  moved_raises Control End v s trace c later q = back_raises st.held v s trace c later q
  moved_raises (Ev u) End v s trace c later q = back_raises st.held v s trace c later q

  acted_raises : (p : Pick) (act : Act Value) (c : Clause) (later : List Entry) → acted world st p act ≡ Raises c later →
      later ≡ entry_of world st.top p [] ∷ st.trace
  acted_raises p (Done v is s) c later q =
      absurd (moved_raises p (move world st.top st.top.begun p) v s (entry_of world st.top p is ∷ st.trace) c later (raised_limited world.limits _ c later q))
  acted_raises p (Raised d) c later q = sym (ap trace_of q)
  acted_raises p (Ended n is s) c later q = absurd (cc (q))
  acted_raises p (Outside d n) c later q = absurd (cc (q))
  acted_raises p Unplaced c later q = absurd (let z = raised_within _ No_row c later q in cc (z))

  raises_entry : (p : Pick) (c : Clause) (later : List Entry) → step world st p ≡ Raises c later → later ≡ entry_of world st.top p [] ∷ st.trace
  raises_entry p c later q = acted_raises p _ c later (raised_within _ _ c later q)

-- so many entries as picks
entries : (world : World) (first st : State) (n : ℕ) → first.trace ≡ [] → GoesFree world first n st → length st.trace ≡ n
entries world first _ _ q none = ap length q
entries world first _ _ q (more n st next before r g) =
    ap length (leaves_entry world st (canonical_pick world st.top st.top.begun) next r).newest ∙ ap suc (entries world first st n q before)

pub raise_is_first : RaiseIsFirst
raise_is_first world first st n left c later empty before q =
    let p = canonical_pick world st.top st.top.begun in
    last_pick_tells world first st n left (Raises c later) before q
    ∙ (ap (raised_at c) (raises_entry world st p c later q)
    ∙ ap (raised_behind c (entry_of world st.top p [])) (entries world first st n empty before))
  where
    raised_behind : Clause → Entry → ℕ → Finding
    raised_behind d x m = Undefined d x.path x.turn x.place x.line (suc m)

pub limit_is_first : LimitIsFirst
limit_is_first world first st n left c number before q = last_pick_tells world first st n left (Over c number) before q

pub budget_is_first : BudgetIsFirst
budget_is_first world first st n before = free_picks_pass world first st n 0 before

-- ---- an end of the run
module _ (world : World) (later : List Entry) where
  open_in : (f : Local) (o : Option Begun) (below : List (Scene × Begun)) (inner : List Open) →
      all_ending world later below (ends_in world later f o inner) ≡ all_ending world later (begun_in f.scene o below) inner
  open_in f None below inner = refl
  open_in f (Some e) below inner = refl

  open_below : (hs : List (Local × Place)) (inner : List Open) → all_open world later hs inner ≡ all_ending world later (begun_below hs) inner
  open_below [] inner = refl
  open_below (h ∷ hs) inner = open_below hs (ends_in world later h.0 h.0.begun inner) ∙ open_in h.0 h.0.begun (begun_below hs) inner

pub end_is_first : EndIsFirst
end_is_first world first st n left status output later frames ts r before free q told is =
    subst (IsFindingOf world later (all_begun st) (suc n) (Clean status output (suc n)) r)
    (sym (last_pick_tells world first st n left (Ends status output later) before q
    ∙ ap (λ os. found_in world later os (suc n) (Clean status output (suc n))) same))
    (first_of_all world st.trace later frames (all_begun st) ts r (suc n) (Clean status output (suc n)) (open_are_nested world st free) told is)
  where
    same : all_open world later st.held (ends_in world later st.top st.top.begun []) ≡ all_ending world later (all_begun st) []
    same = open_below world later st.held (ends_in world later st.top st.top.begun []) ∙ open_in world later st.top st.top.begun (begun_below st.held) []

pub return_is_clean : ReturnIsClean
return_is_clean world first st n left status output later before q held begun =
    last_pick_tells world first st n left (Ends status output later) before q
    ∙ (λ i. found_in world later (all_open world later (held i) (ends_in world later st.top (begun i) [])) (suc n) (Clean status output (suc n)))
