-- A full expression before an event of it and behind that.
use Rattle.std.proofs.Common.{◌≡◌, true, false, List, [], ◌∷◌, ◌++◌, append_assoc, Option, Some, None, is_some, refl, sym, ap, subst, ◌∙◌, true≢false}
use Rattle.c_typed.specs.declared.tree.Place.{Place}
use Rattle.c_typed.specs.Order.{has, same_place}
use Rattle.c_model.specs.Moments.{has_shown, items_by}
use Rattle.c_model.specs.Program.{tree_of}
use Rattle.c_model.specs.Runs.{Entry}
use Rattle.c_model.specs.Steps.{Begun, Local, Scene, is_done, taken_by, with_given}
use Rattle.c_model.specs.Values.{Value}
use Rattle.c_model.specs.World.{World}
use Rattle.c_model.proofs.Listed.{same_place_eq}
use Rattle.listing_laws.proofs.Going.{goes_further}
use Rattle.detector_laws.specs.Frames.{StandsFree, TakesEvent}
use Rattle.detector_laws.proofs.Chosen.{chooses}
use Rattle.detector_laws.proofs.Free.{done_as, not_passed, or_false}
use Rattle.detector_laws.proofs.Paths.{not_true}

left_none : (o : Option Value) → is_some o ≡ false → o ≡ None
left_none None h = refl
left_none (Some v) h = absurd (true≢false h)

-- what was passed isn't the next event
pub other_than : (passed : List Place) (u w : Place) → has passed u ≡ false → has passed w ≡ true → same_place w u ≡ false
other_than passed u w fresh h =
    not_true (same_place w u) (λ s. true≢false (sym (subst (λ z. has passed z ≡ true) (same_place_eq w u s) h) ∙ fresh))

module _ (world : World) (trace later : List Entry) (f : Scene) (e : Begun) (passed ahead : List Place) (u : Place) (v : Value)
    (s : StandsFree world trace f e passed (u ∷ ahead))
    (stay : (w : Place) → has passed w ≡ true → items_by later later f.path f.turn w ≡ items_by trace trace f.path f.turn w) where
  left : e.given u ≡ None
  left =
      left_none (e.given u)
      (sym (or_false (is_done e u)) ∙ (sym (s.along.done u) ∙ not_passed world f e passed ahead u s.along))

  pub takes : (top : Local) → top.scene ≡ f → top.begun ≡ Some (with_given e u v) → TakesEvent world trace later f e u top
  takes top at is =
      let r = goes_further world f e passed ahead u v s.along in
      let c = chooses world f e u v left in
      record {
        value = v;
        scene = at;
        begun = is;
        passed = passed;
        ahead = ahead;
        further = r.0;
        before = s;
        along = r.1;
        chooses = c;
        taken = record { formed = s.formed; before = sym s.along.listed; behind = sym r.1.listed ∙ append_assoc passed (u ∷ []) r.0 };
        around = record {
          grows = c.grows;
          tree_before = refl;
          taken_before = refl;
          shows_before = ap (has_shown (tree_of e.root) (taken_by world f e)) (done_as world f e passed (u ∷ ahead) s.along);
          tree = refl;
          taken = refl;
          shows = ap (has_shown (tree_of e.root) (taken_by world f (with_given e u v))) (done_as world f (with_given e u v) (passed ++ u ∷ []) r.0 r.1);
          items = stay;
        };
      }
