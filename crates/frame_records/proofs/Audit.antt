-- As long as no call sees a conflict nothing was found, and a conflict that is seen is the first finding.
use Rattle.std.proofs.Common.{◌≡◌, ◌≤◌, ◌<◌, ℕ, zero, suc, List, [], ◌∷◌, ◌++◌, length, Option, Some, None, refl, sym, ap, subst, ◌∙◌, arith}
use Rattle.ub_base.specs.Frames.{Row as FrameRow}
use Rattle.ub_base.specs.declared.names.Frame.{Frame}
use Rattle.ub_base.specs.declared.names.Item.{Item}
use Rattle.c_typed.specs.declared.tree.Place.{Place}
use Rattle.c_typed.specs.Order.{has}
use Rattle.c_model.specs.Completions.{completed_by}
use Rattle.c_model.specs.Runs.{Entry, Running, State, canonical_pick, main_frame, started_run}
use Rattle.c_model.specs.Steps.{Begun, Control, Ev, Pick, Scene, taken_by, with_given}
use Rattle.c_model.specs.Values.{Value}
use Rattle.c_model.specs.World.{NumbersFrames, World}
use Rattle.mem_spec.specs.Script.{Act, Done, Raised, Ended, Outside, Unplaced}
use Rattle.conflict_detector.specs.Telling.{IsReached}
use Rattle.elaborate.specs.Formed.{is_formed}
use Rattle.evaluation_log.specs.declared.found.Found.{Found}
use Rattle.evaluation_search.specs.First.{IsFirstOf}
use Rattle.finding_laws.specs.Forgotten.{AllAsked}
use Rattle.run_evaluations.specs.First.{IsConflictIn}
use Rattle.run_evaluations.specs.Told.{Opened, evaluation}
use Rattle.telling_laws.specs.FirstFound.{ByPlaces, IsFoundIn, ToldPairs}
use Rattle.telling_laws.specs.Newly.{completed_with}
use Rattle.telling_laws.specs.Standing.{StandsBehind, completed_in}
use Rattle.detector_laws.specs.Along.{AreClear}
use Rattle.detector_laws.specs.Bare.{AreBare, IsBareIn, IsBareStore}
use Rattle.detector_laws.specs.Frames.{IsEntryOf, IsFormedIn, TakesEvent}
use Rattle.detector_laws.specs.Looked.{GoesFree, IsFree, IsFreeIn, finding_of, looked_at}
use Rattle.detector_laws.specs.Looked as looked
use Rattle.detector_laws.specs.Records.{Records}
use Rattle.detector_laws.specs.Shown.{all_begun, begun_below, begun_in}
use Rattle.detector_laws.proofs.Answered.{answers_are_found}
use Rattle.detector_laws.proofs.Barely.{picks_stay_bare}
use Rattle.detector_laws.proofs.Bodies.{ends_free}
use Rattle.detector_laws.proofs.Clear.{goes_clear}
use Rattle.detector_laws.proofs.Firsts.{conflict_is_first}
use Rattle.detector_laws.proofs.Free.{begins_free}
use Rattle.detector_laws.proofs.Goes.{same_state, through_limited, through_within}
use Rattle.frame_records.specs.Answers.{Answers}
use Rattle.frame_records.specs.Audit.{AnswersOf, AreFormed, AsksAll, AuditGoesFree, AuditSeesFirst, StartsBare, TellsNewest, Walks, begins, steps, tells_of}
use Rattle.frame_records.specs.Frames.{AllRecorded, idle, rests, opens, ended}
use Rattle.frame_records.specs.Kept.{left_behind}
use Rattle.frame_records.specs.Picks.{PicksSo}
use Rattle.frame_records.specs.Picks as kind
use Rattle.frame_records.specs.Told.{GivesAll, Steps, TellsOf, completed_at, tells, enters, told_with}
use Rattle.frame_records.specs.Told as told
use Rattle.frame_records.proofs.Answers.{first_of_answers}
use Rattle.frame_records.proofs.Events.{along_now, completed_same, events_keep, now_is, records_now, same_told, told_top}
use Rattle.frame_records.proofs.Picks.{picks_are_so}
use Rattle.frame_records.proofs.Steps.{steps_keep}

-- ---- nothing is left out
none_of : (xs : List (Scene × Begun)) → length xs ≤ 0 → xs ≡ []
none_of [] l = refl
none_of (x ∷ xs) l = absurd (omega (arith, l))

module _ (world : World) (st after : State) where
  counts_one : (n : ℕ) (os : List Opened) → AllRecorded world st [] n os → n ≤ 1
  counts_one _ _ (idle os is bare) = omega arith
  counts_one _ _ (rests n t ts c l b f h) = omega (arith, c)
  counts_one _ _ (opens n e t ts c b f h) = omega (arith, c)
  counts_one _ _ (ended n e u g t ts c b f number h) = omega (arith, c)

  none_idle : (n : ℕ) (os : List Opened) → n ≡ 0 → AllRecorded world st [] n os → length (all_begun st) ≤ 0
  none_idle _ _ q (idle os is bare) = let z = ap length is in omega (arith, z)
  none_idle _ _ q (rests n t ts c l b f h) = absurd (omega (arith, q, c))
  none_idle _ _ q (opens n e t ts c b f h) = absurd (omega (arith, q, c))
  none_idle _ _ q (ended n e u g t ts c b f number h) = absurd (omega (arith, q, c))

  some_left : (m : ℕ) → 0 < m → left_behind m after [] ≡ []
  some_left zero l = absurd (omega (arith, l))
  some_left (suc m) l = refl

  -- so it is behind a control step
  none_left : (n m : ℕ) (os ps : List Opened) → AllRecorded world st [] n os → Steps world st after n os m ps → left_behind m after [] ≡ []
  none_left _ _ _ _ r (told.stays n os same some) = some_left n some
  none_left _ _ _ _ r (told.settles n t ts less some low) = some_left n some
  none_left _ _ _ _ r (told.closes n os ps less low bare) =
      none_of (all_begun after) (let c = counts_one n os r in omega (arith, c, low))
  none_left _ _ _ _ r (told.begins n e t ts less some is) = some_left n some
  none_left _ _ _ _ r (told.idles os ps low bare) =
      none_of (all_begun after) (let c = none_idle 0 os refl r in omega (arith, c, low))
  none_left _ _ _ _ r (told.opens e f os ps less is number bare) = some_left (length (all_begun after)) (omega (arith, less))

  -- something is recorded where a full expression is open
  some_open : (f : Scene) (o : Option Begun) (e : Begun) (xs : List (Scene × Begun)) → o ≡ Some e → 0 < length (begun_in f o xs)
  some_open f None e xs q = absurd (cc (q))
  some_open f (Some d) e xs q = omega arith

  pub some_recorded : (n : ℕ) (os : List Opened) (e : Begun) → st.top.begun ≡ Some e → AllRecorded world st [] n os → 0 < n
  some_recorded _ _ e q (idle os is bare) =
      let z = ap length is in
      let w = some_open st.top.scene st.top.begun e (begun_below st.held) q in
      absurd (omega (arith, z, w))
  some_recorded _ _ e q (rests n t ts c l b f h) = omega (arith, c)
  some_recorded _ _ e q (opens n d t ts c b f h) = omega (arith, c)
  some_recorded _ _ e q (ended n d u g t ts c b f number h) = omega (arith, c)

  event_open : (u : Place) (o : Option Begun) → canonical_pick world st.top o ≡ Ev u → (e : Begun) × (o ≡ Some e)
  event_open u None q = absurd (cc (q))
  event_open u (Some e) q = (e, refl)

  some_told : (n : ℕ) (os : List Opened) (u : Place) → canonical_pick world st.top st.top.begun ≡ Ev u → AllRecorded world st [] n os → 0 < n
  some_told n os u q r = let e = event_open u st.top.begun q in some_recorded n os e.0 e.1 r

  -- ---- nothing is found behind a control step
  abbrev FreeBehind : Type 0
  FreeBehind = IsFreeIn world after.trace after.top.scene after.top.begun

  free_none : after.top.begun ≡ None → FreeBehind
  free_none q = subst (IsFreeIn world after.trace after.top.scene) (sym q) tt

  free_some : (e : Begun) → after.top.begun ≡ Some e → IsFree world.rows (looked_at world after.trace after.top.scene e) → FreeBehind
  free_some e q f = subst (IsFreeIn world after.trace after.top.scene) (sym q) f

  control_free : IsFormedIn after.top.begun → (p : Pick) → p ≡ Control → PicksSo world st after p → FreeBehind
  control_free formed p q (kind.rests c none behind path held) = free_none behind
  control_free formed p q (kind.settles e c one behind path held) = free_none behind
  control_free formed p q (kind.begins e c none one fresh path held) =
      free_some e one (begins_free world after.trace after.top.scene e (subst IsFormedIn one formed) fresh)
  control_free formed p q (kind.ends h e c one body took held) =
      free_some (with_given e h.1 took.value) took.begun
      (subst (λ z. IsFree world.rows (looked_at world after.trace z (with_given e h.1 took.value))) (sym took.scene)
      (ends_free world st.trace after.trace h.0.scene e h.1 after.top body took))
  control_free formed p q (kind.takes e u x c one took newest is bare held) = absurd (let z : Control ≡ Ev u = sym q ∙ c in cc (z))
  control_free formed p q (kind.starts e u x passed ahead c one body s newest is none path held) =
      absurd (let z : Control ≡ Ev u = sym q ∙ c in cc (z))

  -- ---- what the calls answer behind an event is what is found there
  module _ (n : ℕ) (os : List Opened) (u : Place) (items : List Item) (frames : List FrameRow) (numbers : NumbersFrames world.number)
      (clear : AreClear world st) (r : AllRecorded world st [] n os) (some : 0 < n) (has_items : TellsNewest items after)
      (bare : AreBare world after) (asked : AllAsked after.trace) where
    abbrev Seen : Begun → Option Found → Type 0
    Seen d a = IsFoundIn world.rows (looked_at world after.trace after.top.scene d) a

    takes_found : (e : Begun) (x : Entry) → (q : st.top.begun ≡ Some e) → (took : TakesEvent world st.trace after.trace st.top.scene e u after.top) →
        (newest : after.trace ≡ x ∷ st.trace) → (is : IsEntryOf st.top.scene u x) → (f : Frame) (now : Begun) (fs : List Opened) →
        (reached : IsReached f os fs) → (name : f.0 ≡ world.number st.top.scene.path) → (all : GivesAll st.trace st.top.scene reached.top) →
        (begun : after.top.begun ≡ Some now) → (a : Option Found) →
        Answers frames world.rows (told_with (taken_by world after.top.scene now) u items reached.top) u.node (completed_at world after.top (Some now) u) a →
        Seen now a
    takes_found e x q took newest is f now fs reached name all begun a h =
        subst (λ d. Seen d a) same_now
        (subst (λ z. IsFoundIn world.rows (looked_at world after.trace z e_now) a) (sym took.scene)
        (answers_are_found world st.trace after.trace st.top.scene e u after.top t frames a took told_so.0 bare_at asked first))
      where
        e_now : Begun
        e_now = with_given e u took.value

        t : Opened
        t = told_with (taken_by world st.top.scene e_now) u items reached.top

        same_now : e_now ≡ now
        same_now = now_is world st after [] n os u items numbers clear r some has_items e x q took newest is f fs reached name all now begun

        told_so : Records world after.trace st.top.scene e_now (took.passed ++ u ∷ []) (took.passed ++ u ∷ []) t ×
            StandsBehind t (evaluation u.node u.kind items)
        told_so = told_top world st after [] n os u items numbers clear r some has_items e x q took newest is f fs reached name all

        same_t : told_with (taken_by world after.top.scene now) u items reached.top ≡ t
        same_t = same_told world st after [] n os u items numbers clear r some has_items e x q took newest is f fs reached name all now begun

        bare_at : IsBareStore world after.trace st.top.scene e_now u.node
        bare_at = (subst (IsBareIn world after.trace st.top.scene) took.begun
            (subst (λ z. IsBareIn world after.trace z after.top.begun) took.scene bare.top)) u.node

        completes : completed_at world after.top (Some now) u ≡ completed_in t u.node
        completes =
            sym (completed_same world after.trace after.top now (took.passed ++ u ∷ []) took.further u
            (told_with (taken_by world after.top.scene now) u items reached.top)
            (along_now world st after [] n os u items numbers clear r some has_items e x q took newest is f fs reached name all now begun)
            (records_now world st after [] n os u items numbers clear r some has_items e x q took newest is f fs reached name all now begun))
            ∙ ap (λ z. completed_in z u.node) same_t

        answers : Answers frames world.rows t u.node (completed_in t u.node) a
        answers = subst (λ c. Answers frames world.rows t u.node c a) completes
            (subst (λ z. Answers frames world.rows z u.node (completed_at world after.top (Some now) u) a) same_t h)

        same_completed : completed_in t u.node ≡ completed_with t.scope took.passed u
        same_completed = ap (λ z. completed_by t.scope.tree t.scope.taken (has z) u.node) told_so.0.places

        first : IsFirstOf frames (IsConflictIn frames world.rows t (ByPlaces (ToldPairs t.scope u.node (completed_with t.scope took.passed u)))) a
        first = subst (λ c. IsFirstOf frames (IsConflictIn frames world.rows t (ByPlaces (ToldPairs t.scope u.node c))) a) same_completed
            (first_of_answers frames world.rows t (evaluation u.node u.kind items) (ap is_formed told_so.0.tree ∙ took.before.formed) told_so.1
            (completed_in t u.node) a refl answers)

    abbrev place_in : Place → Pick → Place
    place_in z Control = z
    place_in z (Ev w) = w

    -- of an event that stays in its frame
    event_found : (p : Pick) → p ≡ Ev u → PicksSo world st after p → (ps : List Opened) (t : TellsOf world st after u items os ps) (a : Option Found) →
        AnswersOf frames world.rows world st after u items os ps t a → (now : Begun) → after.top.begun ≡ Some now → Seen now a
    event_found p q (kind.rests c none behind path held) ps t a h now b = absurd (let z : Control ≡ Ev u = sym c ∙ q in cc (z))
    event_found p q (kind.settles e c one behind path held) ps t a h now b = absurd (let z : Control ≡ Ev u = sym c ∙ q in cc (z))
    event_found p q (kind.begins e c none one fresh path held) ps t a h now b = absurd (let z : Control ≡ Ev u = sym c ∙ q in cc (z))
    event_found p q (kind.ends g e c one body took held) ps t a h now b = absurd (let z : Control ≡ Ev u = sym c ∙ q in cc (z))
    event_found p q (kind.takes e w x c one took newest is plain held) ps t a h now b = by_told ps t h
      where
        same : w ≡ u
        same = ap (place_in w) (sym c ∙ q)

        by_told : (ps : List Opened) (t : TellsOf world st after u items os ps) → AnswersOf frames world.rows world st after u items os ps t a → Seen now a
        by_told _ (tells f d fs reached name all path begun) answered =
            subst (λ z. Seen z a) (some_of_two d now after.top.begun begun b)
            (takes_found e x one (subst (λ z. TakesEvent world st.trace after.trace st.top.scene e z after.top) same took) newest
            (subst (λ z. IsEntryOf st.top.scene z x) same is) f d fs reached name all begun a answered)
          where
            some_of_two : (y z : Begun) (o : Option Begun) → o ≡ Some y → o ≡ Some z → y ≡ z
            some_of_two y z o l k = ap (λ v. begun_or y v) (sym l ∙ k)
              where
                begun_or : Begun → Option Begun → Begun
                begun_or v None = v
                begun_or v (Some x) = x
        by_told _ (enters f g d fs reached name all other number begun) answered = absurd (other (ap (λ (z : Scene). z.path) took.scene))
    event_found p q (kind.starts e w x passed ahead c one body s newest is none path held) ps t a h now b =
        absurd (let z : None ≡ Some now = sym none ∙ b in cc (z))

    event_free : (ps : List Opened) (t : TellsOf world st after u items os ps) → AnswersOf frames world.rows world st after u items os ps t None →
        (p : Pick) → p ≡ Ev u → PicksSo world st after p → FreeBehind
    event_free ps t h p q k = by_begun after.top.begun refl
      where
        by_begun : (o : Option Begun) → after.top.begun ≡ o → FreeBehind
        by_begun None b = free_none b
        by_begun (Some d) b =
            let g = event_found p q k ps t None h d b in free_some d b (record { raceless = g.0; quarrelless = g.1 })

-- ---- from the start on
module _ (world : World) (first : State) (numbers : NumbersFrames world.number) (clear : AreClear world first) (empty : all_begun first ≡ [])
    (formed : AreFormed world first) (asks : AsksAll world first) where
  first_none : (f : Scene) (o : Option Begun) (xs : List (Scene × Begun)) → begun_in f o xs ≡ [] → IsFormedIn o
  first_none f None xs q = tt
  first_none f (Some e) xs q = absurd (cc (q))

  pub formed_all : (m : ℕ) (s : State) → GoesFree world first m s → IsFormedIn s.top.begun
  formed_all _ _ looked.none = first_none first.top.scene first.top.begun (begun_below first.held) empty
  formed_all _ _ (looked.more n st next before q g) = formed n st next before q

  pub clear_at : (m : ℕ) (s : State) → GoesFree world first m s → AreClear world s
  clear_at m s g = goes_clear world first s m formed_all clear g

  pub walks : (k : ℕ) (st : State) (n : ℕ) (os : List Opened) → Walks world first k st n os → GoesFree world first k st × AllRecorded world st [] n os
  walks _ _ _ _ (begins os bare) = (looked.none, idle os empty bare)
  walks _ _ _ _ (steps k st next n m os ps w is q s) =
      let h = walks k st n os w in
      let free = (clear_at k st h.0).free in (
        looked.more k st next h.0 q
            (control_free world st next (formed k st next h.0 q) (canonical_pick world st.top st.top.begun) is (picks_are_so world st next free q)),
        subst (λ z. AllRecorded world next z m ps) (none_left world st next n m os ps h.1 s)
            (steps_keep world st next [] n m os ps free h.1 is q s),
      )
  walks _ _ _ _ (tells_of k st next n os ps u items frames w is q has_items t a) =
      let h = walks k st n os w in
      let c = clear_at k st h.0 in
      let some = some_told world st next n os u is h.1 in (
        looked.more k st next h.0 q
            (event_free world st next n os u items frames numbers c h.1 some has_items (picks_stay_bare world st next c.free c.bare q)
            (asks k st (Running next) h.0 q) ps t a
            (canonical_pick world st.top st.top.begun) is (picks_are_so world st next c.free q)),
        events_keep world st next [] n os ps u items numbers c h.1 some is q has_items t,
      )

pub audit_goes_free : AuditGoesFree
audit_goes_free world first st k n os numbers clear empty formed asks w = walks world first numbers clear empty formed asks k st n os w

pub audit_sees_first : AuditSeesFirst
audit_sees_first world first st next k n left os ps u items frames now f numbers clear empty formed asks w is q has_items t a b =
    let h = walks world first numbers clear empty formed asks k st n os w in
    let c = clear_at world first numbers clear empty formed asks k st h.0 in
    let some = some_told world st next n os u is h.1 in
    conflict_is_first world first st next k left now f h.0 q b
    (event_found world st next n os u items frames numbers c h.1 some has_items (picks_stay_bare world st next c.free c.bare q)
    (asks k st (Running next) h.0 q)
    (canonical_pick world st.top st.top.begun) is (picks_are_so world st next c.free q) ps t (Some f) a now b)

-- ---- as a run starts
started_bare : (world : World) (vs : List Value) (act : Act Value) (st : State) → started_run world act vs ≡ Running st → all_begun st ≡ []
started_bare world vs (Done v is s) st q =
    subst (λ (z : State). all_begun z ≡ [])
    (same_state (record { top = main_frame world vs; held = []; store = s; trace = [] }) st (through_limited world.limits _ st q)) refl
started_bare world vs (Raised c) st q = absurd (cc (q))
started_bare world vs (Ended n is s) st q = absurd (cc (q))
started_bare world vs (Outside c n) st q = absurd (cc (q))
started_bare world vs Unplaced st q = absurd (cc (q))

pub starts_bare : StartsBare
starts_bare world input vs st q = started_bare world vs _ st (through_within _ _ st q)
