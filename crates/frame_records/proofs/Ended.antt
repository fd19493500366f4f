-- A frame that ends is left only with the next event that is told.
use Rattle.std.proofs.Common.{◌≡◌, ℕ, suc, true, List, [], ◌∷◌, ◌++◌, Option, Some, None, refl, sym, ap, subst, ◌∙◌}
use Rattle.ub_base.specs.declared.clause.Kind.TheVariants.{Val, Body}
use Rattle.c_typed.specs.declared.tree.Place.{Place}
use Rattle.c_typed.specs.Order.{Taken, events, place}
use Rattle.c_typed.specs.Tree.{Tree}
use Rattle.c_model.specs.Completions.{Incomplete, parent_in}
use Rattle.c_model.specs.Findings.{is_under}
use Rattle.c_model.specs.Program.{tree_of}
use Rattle.c_model.specs.Runs.{Entry, canonical_pick}
use Rattle.c_model.specs.Steps.{Begun, Control, Ev, Local, Scene, taken_by, with_given}
use Rattle.c_model.specs.Values.{Value}
use Rattle.c_model.specs.World.{World}
use Rattle.completion_laws.specs.Completed.{with_above}
use Rattle.completion_laws.proofs.Found.{completes_by_next}
use Rattle.elaborate.specs.Formed.{is_formed}
use Rattle.listing_laws.specs.Along.{StandsAlong}
use Rattle.listing_laws.proofs.Going.{takes_first}
use Rattle.run_evaluations.specs.Told.{Opened}
use Rattle.detector_laws.specs.Frames.{TakesEvent, WaitsFree}
use Rattle.detector_laws.specs.Records.{Records}
use Rattle.detector_laws.proofs.Bodies.{body_completes_none}
use Rattle.frame_records.specs.Frames.{EndedRecorded, HeldRecorded}
use Rattle.frame_records.proofs.Held.{held_records, some_of}
use Rattle.frame_records.proofs.Passed.{same_passed}

-- ---- behind a body there is an event
above_none : (o : Option ℕ) → with_above o [] ≡ Incomplete → ⊥
above_none None q = cc (q)
above_none (Some p) q = cc (q)

body_not_last : (root : Tree) (taken : Taken) (passed : List Place) (u : Place) → is_formed root ≡ true → events taken 0 root ≡ passed ++ u ∷ [] →
    u.kind ≡ Body → ⊥
body_not_last root taken passed u formed listed body =
    above_none (parent_in 0 root u.node)
    (sym (completes_by_next root taken passed [] u formed listed) ∙ body_completes_none root taken passed [] u formed listed body)

-- so the frame goes on with an event
pub goes_on : (world : World) (trace : List Entry) (f : Local) (e : Begun) (u : Place) (t : Opened) → is_formed (tree_of e.root) ≡ true →
    EndedRecorded world trace f.scene e u t → canonical_pick world f (Some e) ≡ Control → ⊥
goes_on world trace f e u t formed r is = by_ahead r.ahead r.along
  where
    by_ahead : (us : List Place) → StandsAlong world f.scene e None (r.passed ++ u ∷ []) us → ⊥
    by_ahead [] s =
        body_not_last (tree_of e.root) (taken_by world f.scene e) r.passed u formed (sym s.listed ∙ append_none (r.passed ++ u ∷ [])) r.kind
      where
        append_none : (xs : List Place) → xs ++ [] ≡ xs
        append_none [] = refl
        append_none (x ∷ xs) = ap (λ z. x ∷ z) (append_none xs)
    by_ahead (v ∷ us) s = let z : Ev v ≡ Control = sym (takes_first world f e (r.passed ++ u ∷ []) (v ∷ us) s) ∙ is in cc (z)

module _ (world : World) where
  -- ---- a body chooses nothing
  no_value : (u : Place) (n : ℕ) → u.kind ≡ Body → u ≡ place (suc n) Val → ⊥
  no_value u n body q = let z : Body ≡ Val = sym body ∙ ap (λ (v : Place). v.kind) q in cc (z)

  pub same_choice : (trace later : List Entry) (f : Scene) (e : Begun) (u : Place) (top : Local) → u.kind ≡ Body →
      (took : TakesEvent world trace later f e u top) → taken_by world f (with_given e u took.value) ≡ taken_by world f e
  same_choice trace later f e u top body took = λ i n. took.chooses.only n (no_value u n body) i

  given_records : (trace : List Entry) (f : Scene) (e : Begun) (u : Place) (v : Value) (closed done : List Place) (t : Opened) →
      taken_by world f (with_given e u v) ≡ taken_by world f e → Records world trace f e closed done t → Records world trace f (with_given e u v) closed done t
  given_records trace f e u v closed done t same r = record {
    frame = r.frame;
    turn = r.turn;
    tree = r.tree;
    taken = r.taken ∙ sym same;
    places = r.places;
    items = r.items;
  }

  -- ---- as the frame ends
  pub ends_so : (trace : List Entry) (x : Entry) (h : Local × Place) (e : Begun) (t : Opened) (top : Local) → h.1.kind ≡ Body → h.0.begun ≡ Some e →
      WaitsFree world trace h.0 h.1 → is_under x.path ((h.0.scene.turn, h.1.node) ∷ h.0.scene.path) ≡ true →
      (took : TakesEvent world trace (x ∷ trace) h.0.scene e h.1 top) → HeldRecorded world trace h.0 h.1 t →
      EndedRecorded world (x ∷ trace) h.0.scene (with_given e h.1 took.value) h.1 t
  ends_so trace x h e t top body q w under took r = record {
    kind = body;
    passed = took.passed;
    ahead = took.further;
    along = took.along;
    records = given_records (x ∷ trace) h.0.scene e h.1 took.value took.passed (took.passed ++ h.1 ∷ []) t
        (same_choice trace (x ∷ trace) h.0.scene e h.1 top body took) now;
    last = r.last;
    behind = r.behind;
  }
    where
      same_expression : r.expression ≡ e
      same_expression = some_of r.expression e h.0.begun r.is q

      along_now : StandsAlong world h.0.scene e None r.passed (h.1 ∷ r.ahead)
      along_now = subst (λ z. StandsAlong world h.0.scene z None r.passed (h.1 ∷ r.ahead)) same_expression r.along

      passed_now : r.passed ≡ took.passed
      passed_now = same_passed world h.0.scene e r.passed (h.1 ∷ r.ahead) took.passed (h.1 ∷ took.ahead) along_now took.before.along

      now : Records world (x ∷ trace) h.0.scene e took.passed (took.passed ++ h.1 ∷ []) t
      now = subst (λ z. Records world (x ∷ trace) h.0.scene e z (z ++ h.1 ∷ []) t) passed_now
          (subst (λ z. Records world (x ∷ trace) h.0.scene z r.passed (r.passed ++ h.1 ∷ []) t) same_expression
          (held_records world trace x h.0 h.1 t w under r))
