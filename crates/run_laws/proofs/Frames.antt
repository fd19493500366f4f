-- The top frame of a machine that stands for a state, and the full expression that is open in it.
use Rattle.std.proofs.Common.{◌≡◌, ℕ, zero, suc, List, [], ◌∷◌, length, Option, Some, None, slice_get, refl, subst}
use Rattle.std.proofs.lemmas.List.{length-reverse}
use Rattle.std.proofs.lemmas.List.Elements.{All-head, All-tail}
use Rattle.std.proofs.lemmas.Option.{same_Some}
use Rattle.std.specs.List.{All}
use Rattle.c_model.specs.Runs.{State}
use Rattle.c_model.specs.Steps.{Begun, Scene}
use Rattle.c_model.specs.World.{World}
use Rattle.run_control.specs.View.{Meaning}
use Rattle.run_state.specs.declared.machine.Machine.{Machine}
use Rattle.run_state.specs.declared.machine.Open.{Open}
use Rattle.run_state.specs.declared.machine.Stage.{Stage}
use Rattle.run_state.specs.Stands.{Stands, StandsBegun, StandsExpression, StandsFrame}

pub top_frame : (world : World) (meaning : Option ℕ → Meaning) (m : Machine) (st : State) → Stands world meaning m st
    → StandsFrame world (meaning m.top.function) m (length m.below.items) m.top m.work.now m.left st.top None
top_frame world meaning m st s =
    subst (λ (n : ℕ). StandsFrame world (meaning m.top.function) m n m.top m.work.now m.left st.top None) (length-reverse m.below.items) s.frames.0

pub one_open : (world : World) (meaning : Meaning) (m : Machine) (height : ℕ) (o : Open) (stage : Option Stage) (s : Stage) (f : Scene) (e : Option Begun)
    → StandsBegun world meaning m height o stage f e None → stage ≡ Some s
    → (x : Begun) × (e ≡ Some x) × StandsExpression world meaning m height o s f x None
one_open world meaning m height o None s f e b h = absurd (cc)
one_open world meaning m height o (Some t) s f None b h = absurd b
one_open world meaning m height o (Some t) s f (Some x) b h =
    (x, refl, subst (λ (z : Stage). StandsExpression world meaning m height o z f x None) (same_Some t s h) b)

-- what holds of each holds of this one
pub each_at : {A : Type 0} (P : A → Type 0) (xs : List A) (n : ℕ) (x : A) → slice_get xs n ≡ Some x → All P xs → P x
each_at P [] zero x at h = absurd (cc)
each_at P [] (suc n) x at h = absurd (cc)
each_at P (y ∷ ys) zero x at h = subst P (same_Some y x at) (All-head P y ys h)
each_at P (y ∷ ys) (suc n) x at h = each_at P ys n x at (All-tail P y ys h)
