-- Where the control step may be picked, no due event is left, so that it is the canonical pick.
use Rattle.std.proofs.Common.{◌≡◌, ◌||◌, not, Bool, true, false, refl, sym, ap, ◌∙◌, true≢false, List, [], ◌∷◌, Option, Some, None}
use Rattle.std.specs.Prelude.{is_none, if◌then◌else◌}
use Rattle.c_typed.specs.declared.tree.Place.{Place}
use Rattle.c_typed.specs.Decide.{first_place}
use Rattle.c_typed.specs.Order.{events, has, same_place}
use Rattle.c_model.specs.Program.{tree_of}
use Rattle.c_model.specs.Runs.{canonical_pick, chosen_pick}
use Rattle.c_model.specs.Steps.{Begun, Control, Ev, Local, MayPick, is_done, taken_by}
use Rattle.c_model.specs.World.{World}
use Rattle.c_model.proofs.Listed.{none_left, same_place_eq}

done_one : (e : Begun) (us : List Place) (x u : Place) →
    (is_none (first_place (λ w. not (is_done e w)) us) ≡ true → has us u ≡ true → is_done e u ≡ true) → (b : Bool) → is_done e x ≡ b →
    is_none (if not b then Some x else first_place (λ w. not (is_done e w)) us) ≡ true → (c : Bool) → same_place u x ≡ c → (c || has us u) ≡ true →
    is_done e u ≡ true
done_one e us x u later false d left c same there = absurd (true≢false (sym left))
done_one e us x u later true d left true same there = ap (is_done e) (same_place_eq u x same) ∙ d
done_one e us x u later true d left false same there = later left there

pub done_at : (e : Begun) (us : List Place) (u : Place) → is_none (first_place (λ w. not (is_done e w)) us) ≡ true → has us u ≡ true →
    is_done e u ≡ true
done_at e [] u none h = absurd (true≢false (sym h))
done_at e (x ∷ us) u none h = done_one e us x u (done_at e us u) (is_done e x) refl none (same_place u x) refl h

pub control_first : (world : World) (f : Local) (e : Option Begun) → MayPick world f e Control → canonical_pick world f e ≡ Control
control_first world f None may = refl
control_first world f (Some e) may =
    let t = taken_by world f.scene e in
    ap (chosen_pick world) (none_left (tree_of e.root) t (is_done e) (λ w h. done_at e (events t 0 (tree_of e.root)) w may h))

pub no_event : (u : Place) → Ev u ≡ Control → ⊥
no_event u h = cc
