-- The frames below the top one are listed with it: their paths are the ends of its own.
use Rattle.std.proofs.Common.{◌≡◌, ℕ, true, refl, sym, subst, List, [], ◌∷◌, inl, inr, map, reverse, Option, Some, None}
use Rattle.std.specs.Prelude.{is_some}
use Rattle.ub_base.specs.Frames.{Path, Row}
use Rattle.c_typed.specs.declared.tree.Place.{Place}
use Rattle.c_model.specs.Runs.{State}
use Rattle.c_model.specs.Steps.{Local}
use Rattle.c_model.specs.World.{World}
use Rattle.frame_numbers.specs.Numbers.{number_in, started_in}
use Rattle.run_control.specs.View.{Meaning}
use Rattle.run_state.specs.declared.machine.Machine.{Machine}
use Rattle.run_state.specs.declared.machine.Open.{Open}
use Rattle.run_state.specs.Stands.{IsAbove, Stands}
use Rattle.canonical_laws.specs.Listed.{TopIsListed}
use Rattle.canonical_laws.proofs.Steps.{GoesIn}

started_some : (rows : List Row) (s : ℕ × ℕ) (o : Option ℕ) → is_some (started_in rows s o) ≡ true → is_some o ≡ true
started_some rows s None q = q
started_some rows s (Some n) q = refl

abbrev with_waiting : List (Local × Place) → List (Local × Option Place)
with_waiting hs = map (λ h. (h.0, Some h.1)) hs

below_listed : (rows : List Row) (o : Open) (f : Local) (os : List Open) (h : Local × Place) (hs : List (Local × Place))
    → IsAbove o f os (with_waiting (h ∷ hs)) → is_some (number_in rows f.scene.path) ≡ true → is_some (number_in rows h.0.scene.path) ≡ true
below_listed rows o f [] h hs a q = absurd a
below_listed rows o f (b ∷ bs) h hs a q =
    started_some rows (h.0.scene.turn, o.node) (number_in rows h.0.scene.path) (subst (λ (w : Path). is_some (number_in rows w) ≡ true) a.path q)

listed_in : (rows : List Row) (st : State) (o : Open) (os : List Open) (held : List (Local × Place)) (path : Path) → IsAbove o st.top os (with_waiting held)
    → GoesIn st held path → TopIsListed rows st → is_some (number_in rows path) ≡ true
listed_in rows st o os [] path a g q = subst (λ (w : Path). is_some (number_in rows w) ≡ true) (sym g) q
listed_in rows st o os (h ∷ hs) path a (inl g) q = subst (λ (w : Path). is_some (number_in rows w) ≡ true) (sym g) q
listed_in rows st o os (h ∷ hs) path a (inr g) q =
    subst (λ (w : Path). is_some (number_in rows w) ≡ true) (sym g) (below_listed rows o st.top os h hs a q)

pub goes_listed : (world : World) (meaning : Option ℕ → Meaning) (m : Machine) (st after : State) → Stands world meaning m st
    → GoesIn st st.held after.top.scene.path → (rows : List Row) → TopIsListed rows st → TopIsListed rows after
goes_listed world meaning m st after stands g rows q =
    listed_in rows st m.top (reverse m.below.items) st.held after.top.scene.path stands.frames.1 g q

pub same_listed : (st after : State) → after.top.scene.path ≡ st.top.scene.path → (rows : List Row) → TopIsListed rows st → TopIsListed rows after
same_listed st after is rows q = subst (λ (w : Path). is_some (number_in rows w) ≡ true) (sym is) q
