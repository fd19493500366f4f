-- Orders of picks keep the frames ordered.
use Rattle.std.proofs.Common.{◌≡◌, ℕ, zero, suc, List, ◌∷◌, refl, subst}
use Rattle.c_model.specs.World.{World}
use Rattle.c_model.specs.Steps.{Pick}
use Rattle.c_model.specs.Runs.{State, Outcome, Refused, Raises, Over, No_row, Ends, Running, After, here, refused, last, more, too_late, on_running}
use Rattle.c_model.specs.Runs.{step}
use Rattle.c_model.specs.Runs.{canonical_pick, canonical_after}
use Rattle.program_view.specs.View.{world_of}
use Rattle.frame_laws.specs.Frames.{IsScoped, AreOrdered}
use Rattle.frame_laws.specs.Laws.{OrdersOrdered, CanonicalOrdered}
use Rattle.frame_laws.specs.Named.{LawfulIsScoped, MainIsDefined, RunsAreOrdered}
use Rattle.frame_laws.proofs.StateKeeps.{same_state, starts_ordered, steps_ordered}

module _ (world : World) (scoped : IsScoped world) where
  abbrev Ordered : State → Type 0
  Ordered st = AreOrdered world st.top st.held

  by_order : (st : State) (ps : List Pick) (o : Outcome) → After world st ps o → Ordered st → (after : State) → o ≡ Running after → Ordered after
  by_order _ _ _ (here st) a after q = subst Ordered (same_state st after q) a
  by_order _ _ _ (refused st p ps m) a after q = absurd (cc (q))
  by_order _ _ _ (last st p m) a after q = steps_ordered world st after p scoped a q
  by_order _ _ _ (more st next p r ps o m e later) a after q =
      by_order next (r ∷ ps) o later (steps_ordered world st next p scoped a e) after q
  by_order _ _ _ (too_late st p r ps m e) a after q = absurd (cc (q))

  by_canonical : (n : ℕ) (st : State) → Ordered st → (after : State) → canonical_after world n st ≡ Running after → Ordered after
  by_canonical zero st a after q = subst Ordered (same_state st after q) a
  by_canonical (suc n) st a after q =
      stepped (step world st (canonical_pick world st.top st.top.begun)) (λ next e. steps_ordered world st next _ scoped a e) (by_canonical n) q
    where
      stepped : (o : Outcome) → ((next : State) → o ≡ Running next → Ordered next)
          → ((next : State) → Ordered next → (z : State) → canonical_after world n next ≡ Running z → Ordered z)
          → on_running o (canonical_after world n) ≡ Running after → Ordered after
      stepped (Running next) f g q = g next (f next refl) after q
      stepped Refused f g q = absurd (cc (q))
      stepped (Raises c trace) f g q = absurd (cc (q))
      stepped (Over c k) f g q = absurd (cc (q))
      stepped No_row f g q = absurd (cc (q))
      stepped (Ends status out trace) f g q = absurd (cc (q))

pub orders_ordered : OrdersOrdered
orders_ordered world st after ps scoped a order = by_order world scoped st ps (Running after) order a after refl

pub canonical_ordered : CanonicalOrdered
canonical_ordered world n st after scoped a q = by_canonical world scoped n st a after q

-- in each run of a lawful program
pub runs_are_ordered : LawfulIsScoped → MainIsDefined → RunsAreOrdered
runs_are_ordered lawful main p arguments rows number limits input vs ps st after h block starts order =
    let world = world_of p arguments rows number limits in
    let scoped : IsScoped world = lawful p world h refl in
    orders_ordered world st after ps scoped (starts_ordered world input vs st scoped (main p world refl refl block) starts) order
