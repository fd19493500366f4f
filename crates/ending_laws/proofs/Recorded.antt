-- What was told where the run ends is what the definitions have.
use Rattle.std.proofs.Common.{◌≡◌, ◌⊎◌, inl, inr, ⊎_elim, ℕ, zero, suc, Bool, false, ◌||◌, List, [], ◌∷◌, ◌++◌, Some, sym, ap, subst, ◌∙◌}
use Rattle.std.specs.Prelude.{slice_get}
use Rattle.std.proofs.lemmas.Option.{same_Some}
use Rattle.ub_base.specs.declared.names.Item.{Item}
use Rattle.c_typed.specs.declared.tree.Place.{Place}
use Rattle.c_typed.specs.Order.{has, is_body}
use Rattle.c_model.specs.Moments.{items_by}
use Rattle.finding_laws.specs.Forgotten.{HasItemsOf}
use Rattle.finding_laws.specs.LeastPairs.{HasItems}
use Rattle.run_evaluations.specs.Told.{Evaluation, evaluation, last_given, has as has_item}
use Rattle.evaluation_log.specs.Touched.{touched}
use Rattle.std.specs.Prelude.{length}
use Rattle.telling_laws.specs.Standing.{places}
use Rattle.telling_laws.proofs.Besides.{of_either}
use Rattle.telling_laws.proofs.Splits.{given_last, last_split, places_push}
use Rattle.telling_laws.proofs.Stands.{gives_standing}
use Rattle.detector_laws.proofs.Free.{or_false}
use Rattle.detector_laws.proofs.Recorded.{HasTold, has_place, items_are, starts_recorded}
use Rattle.ending_laws.specs.Told.{GivesEnding, TellsEnding}
use Rattle.ending_laws.proofs.Ending.{same_ends}

-- ---- lists of evaluations
pushed : (es : List Evaluation) (e d : Evaluation) (i : ℕ) → slice_get (es ++ (e ∷ [])) i ≡ Some d → ((j : ℕ) × (slice_get es j ≡ Some d)) ⊎ (e ≡ d)
pushed [] e d zero h = inr (same_Some e d h)
pushed [] e d (suc i) h = absurd (cc)
pushed (c ∷ es) e d zero h = inl (zero, h)
pushed (c ∷ es) e d (suc i) h = ⊎_elim (λ r. inl (suc r.0, r.1)) inr (pushed es e d i h)

at_front : (es ds : List Evaluation) (i : ℕ) (d : Evaluation) → slice_get es i ≡ Some d → slice_get (es ++ ds) i ≡ Some d
at_front [] ds i d h = absurd (cc)
at_front (c ∷ es) ds zero d h = h
at_front (c ∷ es) ds (suc i) d h = at_front es ds i d h

-- what touched the items that were told, and no frame's, has them
alone : (own : Item → Bool) (is : List Item) → HasItems own is → HasItems (λ j. own j || false) is
alone own is h = λ j. ((λ g. (h j).0 (sym (or_false (own j)) ∙ g)), (λ g. or_false (own j) ∙ (h j).1 g))

-- ---- the body that ended the run
pub tells_ending : TellsEnding
tells_ending world trace x f e u passed ahead t items s is tells fresh r stands =
    let q = starts_recorded world trace x f e u passed ahead t items s is r stands in
    let begun = q.0 in (
      record {
        frame = begun.frame;
        turn = begun.turn;
        tree = begun.tree;
        taken = begun.taken;
        places = begun.places;
        items = λ d a h. ⊎_elim
            (λ j. begun.items d a (ap (λ z. has z d.place) (sym r.places) ∙ has_place t.done j.0 d j.1))
            (λ same. subst (λ (z : Evaluation). HasTold z (items_by (x ∷ trace) (x ∷ trace) f.path f.turn z.place)) same
            (of_either (is_body u.kind) (has_item (evaluation u.node u.kind items)) (items_by (x ∷ trace) (x ∷ trace) f.path f.turn u)
            (subst (HasItems (has_item (evaluation u.node u.kind items))) (sym (items_are trace x f u is (λ b. fresh)))
            (alone (touched items 0 (length items)) x.items tells))))
            (pushed t.done (evaluation u.node u.kind items) d a.0 a.1);
      },
      q.1,
    )

-- ---- the bodies that wait
pub gives_ending : GivesEnding
gives_ending world later f e u passed t last body r stands has_body = (
  record {
    frame = r.frame;
    turn = r.turn;
    tree = r.tree;
    taken = r.taken;
    places = ap places is ∙ (places_push front last_now ∙ (sym (ap places split.1 ∙ places_push front last) ∙ r.places));
    items = λ d a h. ⊎_elim
        (λ j. before d j.0 j.1)
        (λ q. subst (λ (z : Evaluation). HasTold z (items_by later later f.path f.turn z.place)) q
        (subst (λ (z : Place). HasItemsOf (is_body z.kind) (has_item last_now) (items_by later later f.path f.turn z)) (sym at_end.1) has_body))
        (pushed front last_now d a.0 (ap (λ z. slice_get z a.0) (sym is) ∙ a.1));
  },
  (gives_standing t body).1 last stands,
)
  where
    last_now : Evaluation
    last_now = record last { body = body }

    split : (front : List Evaluation) × (t.done ≡ front ++ (last ∷ []))
    split = last_split t.done last stands.some stands.at

    front : List Evaluation
    front = split.0

    is : last_given body t.done ≡ front ++ (last_now ∷ [])
    is = ap (last_given body) split.1 ∙ given_last body front last

    at_end : (places front ≡ passed) × (last.place ≡ u)
    at_end = same_ends (places front) passed last.place u (sym (ap places split.1 ∙ places_push front last) ∙ r.places)

    before : (d : Evaluation) (j : ℕ) → slice_get front j ≡ Some d → HasTold d (items_by later later f.path f.turn d.place)
    before d j h =
        r.items d (j, ap (λ z. slice_get z j) split.1 ∙ at_front front (last ∷ []) j d h)
        (ap (λ z. has z d.place) (sym at_end.0) ∙ has_place front j d h)
