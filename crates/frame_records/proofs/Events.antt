-- What is recorded stays what the definitions have behind an event.
use Rattle.std.proofs.Common.{◌≡◌, ◌<◌, ℕ, true, List, [], ◌∷◌, ◌++◌, length, Some, None}
use Rattle.std.proofs.Common.{refl, sym, ap, ap₂, subst, ◌∙◌, arith}
use Rattle.ub_base.specs.declared.clause.Kind.TheVariants.{Body}
use Rattle.ub_base.specs.declared.names.Frame.{Frame}
use Rattle.ub_base.specs.declared.names.Item.{Item}
use Rattle.c_typed.specs.declared.tree.Place.{Place}
use Rattle.c_typed.specs.Order.{Taken, has}
use Rattle.c_typed.specs.Tree.{Tree}
use Rattle.c_model.specs.Completions.{Completed, Incomplete, Own_node, Operands_of, completed_by}
use Rattle.c_model.specs.Findings.{is_under, items_under}
use Rattle.c_model.specs.Program.{tree_of}
use Rattle.c_model.specs.Runs.{Entry, State, canonical_pick}
use Rattle.c_model.specs.Steps.{Begun, Control, Ev, Local, Pick, Scene, is_done, taken_by, with_given}
use Rattle.c_model.specs.World.{NumbersFrames, World}
use Rattle.conflict_detector.specs.Telling.{IsReached}
use Rattle.elaborate.specs.Formed.{is_formed}
use Rattle.listing_laws.specs.Along.{StandsAlong}
use Rattle.run_evaluations.specs.Told.{Evaluation, Opened, entered, evaluation}
use Rattle.telling_laws.specs.Standing.{StandsBehind, StandsTold, completed_in, with_completed}
use Rattle.telling_laws.proofs.Stands.{completes_standing}
use Rattle.detector_laws.specs.Along.{AreClear}
use Rattle.detector_laws.specs.Fresh.{IsFresh, started_in}
use Rattle.detector_laws.specs.Frames.{IsEntryOf, StandsFree, TakesEvent}
use Rattle.detector_laws.specs.Records.{Records, TellsItems}
use Rattle.detector_laws.specs.Shown.{begun_below}
use Rattle.detector_laws.proofs.Free.{done_as, not_passed}
use Rattle.detector_laws.proofs.Paths.{under_itself}
use Rattle.detector_laws.proofs.Recorded.{gathers_recorded, starts_recorded, tells_recorded}
use Rattle.frame_records.specs.Frames.{AllRecorded, Counts, HeldAre, HeldRecorded, OpenRecorded, idle, rests, opens, ended, more}
use Rattle.frame_records.specs.Kept.{EventsKeep}
use Rattle.frame_records.specs.Picks.{PicksSo}
use Rattle.frame_records.specs.Picks as kind
use Rattle.frame_records.specs.Told.{GivesAll, TellsOf, completed_at, tells, enters, told_with}
use Rattle.frame_records.proofs.Held.{begun_more, held_count, held_stay, some_of}
use Rattle.frame_records.proofs.Picks.{longer, picks_are_so}
use Rattle.frame_records.proofs.Passed.{same_passed}
use Rattle.frame_records.proofs.Reached.{reaches_top}

pub counted : (world : World) (st : State) (left : List (Scene × Begun)) (n : ℕ) (os : List Opened) → 0 < n → AllRecorded world st left n os → Counts n left
counted world st left _ _ some (idle os w bare) = absurd (omega (arith, some))
counted world st left _ _ some (rests n t ts c l b f h) = c
counted world st left _ _ some (opens n e t ts c b f h) = c
counted world st left _ _ some (ended n e u g t ts c b f number h) = c

-- ---- one full expression
module _ (world : World) (trace : List Entry) (x : Entry) (f : Scene) (e : Begun) (u : Place) (t : Opened) (items : List Item)
    (is : IsEntryOf f u x) where
  -- the body of an event that isn't done hasn't started a frame
  pub none_started : (passed ahead : List Place) → StandsFree world trace f e passed (u ∷ ahead) → IsFresh trace f (started_in (Some e)) → u.kind ≡ Body →
      items_under ((f.turn, u.node) ∷ f.path) trace ≡ []
  none_started passed ahead s fresh body =
      fresh.now u.node (ap (is_done e) (λ i. record { node = u.node; kind = sym body i })
      ∙ (ap (λ d. d u) (done_as world f e passed (u ∷ ahead) s.along) ∙ not_passed world f e passed ahead u s.along))

  -- it is told
  pub told_now : (top : Local) (took : TakesEvent world trace (x ∷ trace) f e u top) → IsFresh trace f (started_in (Some e)) → TellsItems items x.items →
      OpenRecorded world trace f e t →
      Records world (x ∷ trace) f (with_given e u took.value) (took.passed ++ u ∷ []) (took.passed ++ u ∷ [])
      (told_with (taken_by world f (with_given e u took.value)) u items t) ×
      StandsBehind (told_with (taken_by world f (with_given e u took.value)) u items t) (evaluation u.node u.kind items)
  told_now top took fresh tells_items r =
      let same = same_passed world f e r.passed r.ahead took.passed (u ∷ took.ahead) r.along took.before.along in
      tells_recorded world trace x f e u top t items took is tells_items (none_started took.passed took.ahead took.before fresh)
      (subst (λ z. Records world trace f e z z t) same r.records) r.told

  -- it starts a frame
  pub held_now : (g : Local) (passed ahead : List Place) → g.scene ≡ f → g.begun ≡ Some e → StandsFree world trace f e passed (u ∷ ahead) →
      OpenRecorded world trace f e t → HeldRecorded world (x ∷ trace) g u (told_with (taken_by world f e) u items t)
  held_now g passed ahead at begins s r =
      let same = same_passed world f e r.passed r.ahead passed (u ∷ ahead) r.along s.along in
      let p = starts_recorded world trace x f e u passed ahead t items s is (subst (λ z. Records world trace f e z z t) same r.records) r.told in
      record {
        expression = e;
        is = begins;
        passed = passed;
        ahead = ahead;
        along = subst (λ z. StandsAlong world z e None passed (u ∷ ahead)) (sym at) s.along;
        records = subst (λ z. Records world (x ∷ trace) z e passed (passed ++ u ∷ []) (told_with (taken_by world f e) u items t)) (sym at) p.0;
        last = evaluation u.node u.kind items;
        behind = p.1;
      }

-- ---- what it completes
with_records : (world : World) (trace : List Entry) (f : Scene) (e : Begun) (closed done : List Place) (t : Opened) (c : Completed) →
    Records world trace f e closed done t → Records world trace f e closed done (with_completed c t)
with_records world trace f e closed done t Incomplete r = r
with_records world trace f e closed done t Own_node r = r
with_records world trace f e closed done t (Operands_of p) r = gathers_recorded world trace f e closed done t p r

module _ (world : World) (trace : List Entry) (g : Local) (e : Begun) (passed ahead : List Place) (u : Place) (t : Opened)
    (along : StandsAlong world g.scene e None passed ahead) (r : Records world trace g.scene e passed passed t) where
  pub completed_same : completed_in t u.node ≡ completed_at world g (Some e) u
  completed_same =
      ap (λ z. completed_by t.scope.tree t.scope.taken (has z) u.node) r.places
      ∙ (ap₂ (λ (z : Tree) (c : Taken). completed_by z c (has passed) u.node) r.tree r.taken
      ∙ ap (λ d. completed_by (tree_of e.root) (taken_by world g.scene e) d u.node) (sym (done_as world g.scene e passed ahead along)))

  pub completed_now : (last : Evaluation) → is_formed (tree_of e.root) ≡ true → last.place ≡ u → StandsBehind t last →
      OpenRecorded world trace g.scene e (with_completed (completed_at world g (Some e) u) t)
  completed_now last formed at behind = record {
    passed = passed;
    ahead = ahead;
    along = along;
    records = with_records world trace g.scene e passed passed t (completed_at world g (Some e) u) r;
    told = subst (λ c. StandsTold (with_completed c t)) (ap (λ (z : Place). completed_in t z.node) at ∙ completed_same)
        (completes_standing t last (ap is_formed r.tree ∙ formed) behind);
  }

-- ---- all frames
module _ (world : World) (st after : State) (left : List (Scene × Begun)) (n : ℕ) (os : List Opened) (u : Place) (items : List Item)
    (numbers : NumbersFrames world.number) (clear : AreClear world st) (r : AllRecorded world st left n os) (some : 0 < n)
    (has_items : (x : Entry) (xs : List Entry) → after.trace ≡ x ∷ xs → TellsItems items x.items) where
  fresh_at : (e : Begun) → st.top.begun ≡ Some e → IsFresh st.trace st.top.scene (started_in (Some e))
  fresh_at e q = subst (λ o. IsFresh st.trace st.top.scene (started_in o)) q clear.fresh.top

  under_at : (x : Entry) → IsEntryOf st.top.scene u x → is_under x.path st.top.scene.path ≡ true
  under_at x is = subst (λ z. is_under z st.top.scene.path ≡ true) (sym is.path) (under_itself st.top.scene.path)

  held_all : (x : Entry) (ts : List Opened) → IsEntryOf st.top.scene u x → HeldAre world st.trace left st.held ts →
      HeldAre world (x ∷ st.trace) left st.held ts
  held_all x ts is h = held_stay world st.trace x left st.top.scene.path st.held ts (under_at x is) clear.free.held h

  -- an event that stays in its frame
  module _ (e : Begun) (x : Entry) (q : st.top.begun ≡ Some e) (took : TakesEvent world st.trace after.trace st.top.scene e u after.top)
      (newest : after.trace ≡ x ∷ st.trace) (is : IsEntryOf st.top.scene u x) (f : Frame) (fs : List Opened) (reached : IsReached f os fs)
      (name : f.0 ≡ world.number st.top.scene.path) (all : GivesAll st.trace st.top.scene reached.top) where
    top_now : OpenRecorded world st.trace st.top.scene e reached.top × HeldAre world st.trace left st.held reached.below
    top_now = reaches_top world st left n os fs f e numbers clear.free r some q name reached all

    -- it is told of the frame on top, in this scene
    abbrev pub told_as : Scene → Begun → Opened
    told_as z d = told_with (taken_by world z d) u items reached.top

    abbrev Told : (later : List Entry) → TakesEvent world st.trace later st.top.scene e u after.top → Type 0
    Told later t = Records world later st.top.scene (with_given e u t.value) (t.passed ++ u ∷ []) (t.passed ++ u ∷ [])
        (told_as st.top.scene (with_given e u t.value)) × StandsBehind (told_as st.top.scene (with_given e u t.value)) (evaluation u.node u.kind items)

    pub told_top : Told after.trace took
    told_top =
        subst (λ z. (t : TakesEvent world st.trace z st.top.scene e u after.top) → Told z t) (sym newest)
        (λ t. told_now world st.trace x st.top.scene e u reached.top items is after.top t (fresh_at e q) (has_items x st.trace newest) top_now.0) took

    -- so it is told in the scene behind it
    module _ (now : Begun) (begins : after.top.begun ≡ Some now) where
      pub now_is : with_given e u took.value ≡ now
      now_is = some_of (with_given e u took.value) now after.top.begun took.begun begins

      pub same_told : told_as after.top.scene now ≡ told_as st.top.scene (with_given e u took.value)
      same_told = ap₂ (λ (z : Scene) (d : Begun). told_as z d) took.scene (sym now_is)

      pub along_now : StandsAlong world after.top.scene now None (took.passed ++ u ∷ []) took.further
      along_now =
          subst (λ d. StandsAlong world after.top.scene d None (took.passed ++ u ∷ []) took.further) now_is
          (subst (λ z. StandsAlong world z (with_given e u took.value) None (took.passed ++ u ∷ []) took.further) (sym took.scene) took.along)

      abbrev At : Scene → Begun → Type 0
      At z d = Records world after.trace z d (took.passed ++ u ∷ []) (took.passed ++ u ∷ []) (told_as z d)

      pub records_now : At after.top.scene now
      records_now =
          subst (λ d. At after.top.scene d) now_is (subst (λ z. At z (with_given e u took.value)) (sym took.scene) told_top.0)

      behind_now : StandsBehind (told_as after.top.scene now) (evaluation u.node u.kind items)
      behind_now = subst (λ (z : Opened). StandsBehind z (evaluation u.node u.kind items)) (sym same_told) told_top.1

      formed_now : is_formed (tree_of now.root) ≡ true
      formed_now = ap (λ (d : Begun). is_formed (tree_of d.root)) (sym now_is) ∙ took.before.formed

      pub takes_so : after.held ≡ st.held → AllRecorded world after left n
          (with_completed (completed_at world after.top (Some now) u) (told_as after.top.scene now) ∷ reached.below)
      takes_so held =
          opens n now (with_completed (completed_at world after.top (Some now) u) (told_as after.top.scene now)) reached.below
          (counted world st left n os some r) begins
          (completed_now world after.trace after.top now (took.passed ++ u ∷ []) took.further u (told_as after.top.scene now) along_now records_now
          (evaluation u.node u.kind items) formed_now refl behind_now)
          (subst (λ z. HeldAre world z left after.held reached.below) (sym newest)
          (subst (λ z. HeldAre world (x ∷ st.trace) left z reached.below) (sym held) (held_all x reached.below is top_now.1)))

  takes_keep : (ps : List Opened) (e : Begun) (x : Entry) → st.top.begun ≡ Some e → (took : TakesEvent world st.trace after.trace st.top.scene e u after.top) →
      after.trace ≡ x ∷ st.trace → IsEntryOf st.top.scene u x → after.held ≡ st.held → TellsOf world st after u items os ps →
      AllRecorded world after left n ps
  takes_keep _ e x q took newest is held (tells f now fs reached name all path begins) = takes_so e x q took newest is f fs reached name all now begins held
  takes_keep _ e x q took newest is held (enters f g d fs reached name all other number begins) =
      absurd (other (ap (λ (z : Scene). z.path) took.scene))

  -- one that starts a frame
  starts_keep : (ps : List Opened) (e : Begun) (x : Entry) (passed ahead : List Place) → st.top.begun ≡ Some e →
      StandsFree world st.trace st.top.scene e passed (u ∷ ahead) → after.trace ≡ x ∷ st.trace → IsEntryOf st.top.scene u x → after.top.begun ≡ None →
      after.top.scene.path ≡ (st.top.scene.turn, u.node) ∷ st.top.scene.path → after.held ≡ (st.top, u) ∷ st.held → TellsOf world st after u items os ps →
      AllRecorded world after left n ps
  starts_keep _ e x passed ahead q s newest is none path held (tells f now fs reached name all same begins) =
      absurd (longer (st.top.scene.turn, u.node) st.top.scene.path (sym same ∙ path))
  starts_keep _ e x passed ahead q s newest is none path held (enters f g d fs reached name all other number begins) =
      rests n (entered g) (now ∷ reached.below) (counted world st left n os some r)
      (let y = ap (λ hs. length (begun_below hs)) held in
      let z = begun_more world st.top.scene st.top.begun e (begun_below st.held) q in
      let w = held_count world st.trace left st.held reached.below top.1 in
      let c = counted world st left n os some r in
      omega (arith, y, z, w, c))
      none (record { frame = number; none = refl })
      (subst (λ z. HeldAre world z left after.held (now ∷ reached.below)) (sym newest)
      (subst (λ z. HeldAre world (x ∷ st.trace) left z (now ∷ reached.below)) (sym held)
      (more (st.top, u) st.held now reached.below (subst Held same_begun held_here) (held_all x reached.below is top.1))))
    where
      top : OpenRecorded world st.trace st.top.scene e reached.top × HeldAre world st.trace left st.held reached.below
      top = reaches_top world st left n os fs f e numbers clear.free r some q name reached all

      now : Opened
      now = told_with (taken_by world st.top.scene d) u items reached.top

      same_begun : e ≡ d
      same_begun = some_of e d st.top.begun q begins

      Held : Begun → Type 0
      Held z = HeldRecorded world (x ∷ st.trace) st.top u (told_with (taken_by world st.top.scene z) u items reached.top)

      held_here : Held e
      held_here = held_now world st.trace x st.top.scene e u reached.top items is st.top passed ahead refl q s top.0

  so_keep : (ps : List Opened) (p : Pick) → p ≡ Ev u → PicksSo world st after p → TellsOf world st after u items os ps → AllRecorded world after left n ps
  so_keep ps p q (kind.rests c none behind path held) k = absurd (let z : Control ≡ Ev u = sym c ∙ q in cc (z))
  so_keep ps p q (kind.settles e c one behind path held) k = absurd (let z : Control ≡ Ev u = sym c ∙ q in cc (z))
  so_keep ps p q (kind.begins e c none one fresh path held) k = absurd (let z : Control ≡ Ev u = sym c ∙ q in cc (z))
  so_keep ps p q (kind.ends h e c one body took held) k = absurd (let z : Control ≡ Ev u = sym c ∙ q in cc (z))
  so_keep ps p q (kind.takes e w x c one took newest is bare held) k =
      let same : w ≡ u = ap (place_in w) (sym c ∙ q) in
      takes_keep ps e x one (subst (λ z. TakesEvent world st.trace after.trace st.top.scene e z after.top) same took) newest
      (subst (λ z. IsEntryOf st.top.scene z x) same is) held k
    where
      place_in : Place → Pick → Place
      place_in z Control = z
      place_in z (Ev y) = y
  so_keep ps p q (kind.starts e w x passed ahead c one body s newest is none path held) k =
      let same : w ≡ u = ap (place_in w) (sym c ∙ q) in
      starts_keep ps e x passed ahead one (subst (λ z. StandsFree world st.trace st.top.scene e passed (z ∷ ahead)) same s) newest
      (subst (λ z. IsEntryOf st.top.scene z x) same is) none (path ∙ ap (λ (z : Place). (st.top.scene.turn, z.node) ∷ st.top.scene.path) same)
      (held ∙ ap (λ z. (st.top, z) ∷ st.held) same) k
    where
      place_in : Place → Pick → Place
      place_in z Control = z
      place_in z (Ev y) = y

pub events_keep : EventsKeep
events_keep world st after left n os ps u items numbers clear r some is q has_items k =
    so_keep world st after left n os u items numbers clear r some has_items ps (canonical_pick world st.top st.top.begun) is
    (picks_are_so world st after clear.free q) k
