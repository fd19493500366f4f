-- What is found where the next pick doesn't go on, if no call saw a conflict before.
use Rattle.std.proofs.Common.{◌≡◌, ◌⊎◌, inl, inr, ◌≤◌, ◌-◌, ℕ, Bool, true, List, [], ◌∷◌, ◌++◌, length, Option, Some, None}
use Rattle.std.proofs.Common.{refl, sym, ap, subst, ◌∙◌, arith}
use Rattle.std.specs.Prelude.{slice_get}
use Rattle.ub_base.specs.declared.names.Item.{Item}
use Rattle.ub_base.specs.Frames.{Path, Row as FrameRow}
use Rattle.c_typed.specs.declared.tree.Place.{Place}
use Rattle.c_typed.specs.Order.{is_body}
use Rattle.c_model.specs.Findings.{is_under}
use Rattle.c_model.specs.Moments.{items_by}
use Rattle.c_model.specs.Runs.{Ends, Entry, State, canonical_pick, entry_of, place_of}
use Rattle.c_model.specs.Steps.{Begun, Local, Scene, taken_by}
use Rattle.c_model.specs.World.{NumbersFrames, World}
use Rattle.conflict_detector.specs.Complete.{AreEnded}
use Rattle.conflict_detector.specs.Complete as leaving
use Rattle.finding_laws.specs.Forgotten.{AllAsked, HasItemsOf}
use Rattle.listing_laws.specs.Along.{StandsAlong}
use Rattle.run_evaluations.specs.Told.{Evaluation, Opened, evaluation, given, last_given, has as has_item}
use Rattle.telling_laws.specs.Standing.{StandsBehind, places}
use Rattle.telling_laws.proofs.Splits.{at_last, given_last, last_split, places_push}
use Rattle.detector_laws.specs.Fresh.{IsFresh, started_in}
use Rattle.detector_laws.specs.Frames.{AllWaitFree, IsEntryOf}
use Rattle.detector_laws.specs.Looked.{GoesFree}
use Rattle.detector_laws.specs.Records.{Records, TellsItems}
use Rattle.detector_laws.specs.Shown.{all_begun, begun_below, begun_in}
use Rattle.detector_laws.proofs.Paths.{under_itself, under_tail}
use Rattle.ending_laws.specs.Ends.{AllEndIn, EndsIn, IsToldAtEnd}
use Rattle.ending_laws.specs.Frames.{AllToldAtEnd}
use Rattle.ending_laws.specs.Untouched.{AreOnTheWay}
use Rattle.ending_laws.proofs.Ahead.{bodies_end}
use Rattle.ending_laws.proofs.Ending.{same_ends}
use Rattle.ending_laws.proofs.First.{budget_is_first, end_is_first, limit_is_first, raise_is_first, return_is_clean}
use Rattle.ending_laws.proofs.Recorded.{gives_ending, tells_ending}
use Rattle.ending_laws.proofs.Untouched.{stays_on_the_way}
use Rattle.frame_records.specs.Ends.{AllGiven, AreListed, AuditEnds, AuditPassesLimit, AuditRaises, AuditReturns, AuditUsesBudget, TellsEnd}
use Rattle.frame_records.specs.Frames.{AllRecorded, HeldAre, HeldRecorded, OpenRecorded, below, more}
use Rattle.frame_records.specs.Told.{GivesAll, told_with}
use Rattle.frame_records.proofs.Audit.{formed_all, some_recorded, walks}
use Rattle.frame_records.proofs.Events.{none_started}
use Rattle.frame_records.proofs.Held.{begun_more, held_goes, some_of}
use Rattle.frame_records.proofs.Picks.{tail_of}
use Rattle.frame_records.proofs.Passed.{same_passed}
use Rattle.frame_records.proofs.Reached.{first_is, reaches_top}

-- ---- frames that are left
-- a frame was left, or none is below it
ended_cases : (os fs : List Opened) (t u : Opened) (us es : List Opened) → os ≡ t ∷ u ∷ us → fs ≡ t ∷ es → AreEnded os fs →
    (es ≡ []) ⊎ ((body : Item → Bool) × AreEnded (given body u ∷ us) es)
ended_cases _ _ t u us es p q (leaving.one v vs) = inl (sym (tail_of v t [] es q))
ended_cases _ _ t u us es p q (leaving.more v w ws gs body rest) =
    let tails = tail_of v t (w ∷ ws) (u ∷ us) p in
    let same = first_is w u ws us tails in
    let below = tail_of w u ws us tails in
    inr (
      body,
      subst (λ z. AreEnded (given body u ∷ us) z) (tail_of v t gs es q)
          (subst (λ z. AreEnded (given body u ∷ z) gs) below (subst (λ z. AreEnded (given body z ∷ ws) gs) same rest)),
    )

ended_first : (t : Opened) (os ts fs : List Opened) → os ≡ t ∷ ts → AreEnded os fs → (rest : List Opened) × (fs ≡ t ∷ rest)
ended_first t _ ts _ is (leaving.one v vs) = ([], ap (λ z. z ∷ []) (first_is v t vs ts is))
ended_first t _ ts _ is (leaving.more v u us es body rest) = (es, ap (λ z. z ∷ es) (first_is v t (u ∷ us) ts is))

module _ (world : World) (trace : List Entry) (x : Entry) (frames : List FrameRow) (asked : AllAsked (x ∷ trace)) where
  abbrev later : List Entry
  later = x ∷ trace

  -- a body that waits is given all that the trace has of it, but for forgotten accesses
  module _ (f : Local) (u : Place) (t : Opened) (e : Begun) (ends : EndsIn world trace later f.scene e u) (q : f.begun ≡ Some e)
      (r : HeldRecorded world later f u t) (body : Item → Bool) (all : GivesAll later f.scene (given body t)) where
    same_expression : r.expression ≡ e
    same_expression = some_of r.expression e f.begun r.is q

    records_e : Records world later f.scene e r.passed (r.passed ++ u ∷ []) t
    records_e = subst (λ z. Records world later f.scene z r.passed (r.passed ++ u ∷ []) t) same_expression r.records

    along_e : StandsAlong world f.scene e None r.passed (u ∷ r.ahead)
    along_e = subst (λ z. StandsAlong world f.scene z None r.passed (u ∷ r.ahead)) same_expression r.along

    passed_is : r.passed ≡ ends.passed
    passed_is = same_passed world f.scene e r.passed (u ∷ r.ahead) ends.passed (u ∷ ends.ahead) along_e ends.before.along

    abbrev split : (front : List Evaluation) × (t.done ≡ front ++ (r.last ∷ []))
    split = last_split t.done r.last r.behind.some r.behind.at

    abbrev last_now : Evaluation
    last_now = record r.last { body = body }

    last_place : r.last.place ≡ u
    last_place =
        (same_ends (places split.0) r.passed r.last.place u (sym (ap places split.1 ∙ places_push split.0 r.last) ∙ r.records.places)).1

    at_end : slice_get (given body t).done (length (given body t).done - 1) ≡ Some last_now
    at_end =
        ap (λ z. slice_get z (length z - 1)) (ap (last_given body) split.1 ∙ given_last body split.0 r.last) ∙ at_last split.0 last_now

    has_all : HasItemsOf (is_body u.kind) (has_item last_now) (items_by later later f.scene.path f.scene.turn u)
    has_all =
        subst (λ (z : Place). HasItemsOf (is_body z.kind) (has_item last_now) (items_by later later f.scene.path f.scene.turn z)) last_place
        (all last_now at_end)

    gives : Records world later f.scene e (r.passed ++ u ∷ []) (r.passed ++ u ∷ []) (given body t) × StandsBehind (given body t) last_now
    gives = gives_ending world later f.scene e u r.passed t r.last body records_e r.behind has_all

    pub told_held : IsToldAtEnd world trace later f.scene e (given body t)
    told_held = record {
      body = u;
      ends = ends;
      last = last_now;
      records = subst (λ z. Records world later f.scene e (z ++ u ∷ []) (z ++ u ∷ []) (given body t)) passed_is gives.0;
      stands = gives.1;
      asked = asked;
    }

  -- ---- all frames below
  abbrev All : List (Scene × Begun) → List Opened → Type 0
  All xs es = AllToldAtEnd world trace later frames xs es

  none_all : (xs : List (Scene × Begun)) → length xs ≤ 0 → All xs []
  none_all [] l = tt
  none_all (y ∷ ys) l = absurd (omega (arith, l))

  with_first : (f : Scene) (o : Option Begun) (e : Begun) (xs : List (Scene × Begun)) (t : Opened) (es : List Opened) → o ≡ Some e →
      IsToldAtEnd world trace later f e t → AreListed world frames (begun_in f o xs) → All xs es → All (begun_in f o xs) (t ∷ es)
  with_first f None e xs t es q k listed rest = absurd (cc (q))
  with_first f (Some d) e xs t es q k listed rest =
      (record { told = subst (λ z. IsToldAtEnd world trace later f z t) (sym (some_of d e (Some d) refl q)) k; known = listed.0 }, rest)

  given_first : (f : Scene) (o : Option Begun) (e : Begun) (xs : List (Scene × Begun)) (t : Opened) (es : List Opened) → o ≡ Some e →
      AllGiven later (begun_in f o xs) (t ∷ es) → GivesAll later f t × AllGiven later xs es
  given_first f None e xs t es q g = absurd (cc (q))
  given_first f (Some d) e xs t es q g = g

  listed_rest : (f : Scene) (o : Option Begun) (e : Begun) (xs : List (Scene × Begun)) → o ≡ Some e → AreListed world frames (begun_in f o xs) →
      AreListed world frames xs
  listed_rest f None e xs q l = absurd (cc (q))
  listed_rest f (Some d) e xs q l = l.1

  no_more : (es : List Opened) (n : ℕ) → length es ≡ n → n ≤ 0 → es ≡ []
  no_more [] n q l = refl
  no_more (e ∷ es) n q l = absurd (omega (arith, q, l))

  all_told : (path : Path) (hs : List (Local × Place)) (ts es : List Opened) (t : Opened) → is_under x.path path ≡ true → AllWaitFree world trace path hs →
      AllEndIn world trace later hs → AreEnded (t ∷ ts) (t ∷ es) → length es ≡ length (begun_below hs) → AllGiven later (begun_below hs) es →
      AreListed world frames (begun_below hs) → HeldAre world trace [] hs ts → All (begun_below hs) es
  all_told path _ _ es t under waits ends ended count gives listed (below hs ts is bare) =
      let none : length (begun_below hs) ≤ 0 = let z = ap length is in omega (arith, z) in
      subst (All (begun_below hs)) (sym (no_more es (length (begun_below hs)) count none)) (none_all (begun_below hs) none)
  all_told path _ _ es t under waits ends ended count gives listed (more h hs u us r rest) =
      by_cases (ended_cases (t ∷ u ∷ us) (t ∷ es) t u us es refl refl ended)
      (λ body gs left many g. all_told h.0.scene.path hs us gs (given body u) (under_tail x.path (h.0.scene.turn, h.1.node) h.0.scene.path under_h) waits.2
      ends.1 left many g (listed_rest h.0.scene h.0.begun e (begun_below hs) q listed) rest)
    where
      under_h : is_under x.path ((h.0.scene.turn, h.1.node) ∷ h.0.scene.path) ≡ true
      under_h = subst (λ z. is_under x.path z ≡ true) waits.0 under

      e : Begun
      e = ends.0.0

      q : h.0.begun ≡ Some e
      q = ends.0.1

      Again : Type 0
      Again = (body : Item → Bool) (gs : List Opened) → AreEnded (given body u ∷ us) (given body u ∷ gs) → length gs ≡ length (begun_below hs) →
          AllGiven later (begun_below hs) gs → All (begun_below hs) gs

      with_body : (body : Item → Bool) → AreEnded (given body u ∷ us) es → (rest_is : (gs : List Opened) × (es ≡ given body u ∷ gs)) → Again →
          All (begun_in h.0.scene h.0.begun (begun_below hs)) es
      with_body body left rest_is again =
          subst (All (begun_in h.0.scene h.0.begun (begun_below hs))) (sym rest_is.1)
          (with_first h.0.scene h.0.begun e (begun_below hs) (given body u) rest_is.0 q
          (told_held h.0 h.1 u e ends.0.2 q (held_goes world trace x h.0 h.1 u waits.1 under_h r) body g.0) listed
          (again body rest_is.0 (subst (AreEnded (given body u ∷ us)) rest_is.1 left)
          (let z = ap length rest_is.1 in let w = begun_more world h.0.scene h.0.begun e (begun_below hs) q in omega (arith, z, w, count)) g.1))
        where
          g : GivesAll later h.0.scene (given body u) × AllGiven later (begun_below hs) rest_is.0
          g = given_first h.0.scene h.0.begun e (begun_below hs) (given body u) rest_is.0 q
              (subst (AllGiven later (begun_in h.0.scene h.0.begun (begun_below hs))) rest_is.1 gives)

      by_cases : (es ≡ []) ⊎ ((body : Item → Bool) × AreEnded (given body u ∷ us) es) → Again →
          All (begun_in h.0.scene h.0.begun (begun_below hs)) es
      by_cases (inl none) again =
          absurd (let z = ap length none in let w = begun_more world h.0.scene h.0.begun e (begun_below hs) q in omega (arith, z, w, count))
      by_cases (inr (body, left)) again = with_body body left (ended_first (given body u) (given body u ∷ us) us es refl left) again

  -- and of the frame on top
  module _ (f : Scene) (e : Begun) (u : Place) (t : Opened) (items : List Item) (is : IsEntryOf f u x) (ends : EndsIn world trace later f e u)
      (fresh : IsFresh trace f (started_in (Some e))) (tells : TellsItems items x.items) (r : OpenRecorded world trace f e t) where
    passed_same : r.passed ≡ ends.passed
    passed_same = same_passed world f e r.passed r.ahead ends.passed (u ∷ ends.ahead) r.along ends.before.along

    ending : Records world later f e (ends.passed ++ u ∷ []) (ends.passed ++ u ∷ []) (told_with (taken_by world f e) u items t) ×
        StandsBehind (told_with (taken_by world f e) u items t) (evaluation u.node u.kind items)
    ending = tells_ending world trace x f e u ends.passed ends.ahead t items ends.before is tells
        (none_started world trace x f e u t items is ends.passed ends.ahead ends.before fresh ends.body)
        (subst (λ z. Records world trace f e z z t) passed_same r.records) r.told

    pub told_ending : IsToldAtEnd world trace later f e (told_with (taken_by world f e) u items t)
    told_ending = record { body = u; ends = ends; last = evaluation u.node u.kind items; records = ending.0; stands = ending.1; asked = asked }

-- ---- the run ends
module _ (world : World) (st : State) (x : Entry) (frames : List FrameRow) (items : List Item) (u : Place) (os es : List Opened) (n : ℕ)
    (numbers : NumbersFrames world.number) (way : AreOnTheWay world st) (recorded : AllRecorded world st [] n os) (is : IsEntryOf st.top.scene u x)
    (tells : TellsItems items x.items) (top : (e : Begun) × (st.top.begun ≡ Some e) × EndsIn world st.trace (x ∷ st.trace) st.top.scene e u)
    (held : AllEndIn world st.trace (x ∷ st.trace) st.held) (k : TellsEnd world st (x ∷ st.trace) u items frames os es) (asked : AllAsked (x ∷ st.trace)) where
  same_begun : top.0 ≡ k.expression
  same_begun = some_of top.0 k.expression st.top.begun top.1 k.is

  ends_top : EndsIn world st.trace (x ∷ st.trace) st.top.scene k.expression u
  ends_top = subst (λ z. EndsIn world st.trace (x ∷ st.trace) st.top.scene z u) same_begun top.2

  reached : OpenRecorded world st.trace st.top.scene k.expression k.reached.top × HeldAre world st.trace [] st.held k.reached.below
  reached = reaches_top world st [] n os k.left k.frame k.expression numbers way.clear.free recorded
      (some_recorded world st st n os k.expression k.is recorded) k.is k.named k.reached k.gives

  abbrev t : Opened
  t = told_with (taken_by world st.top.scene k.expression) u items k.reached.top

  first : (rest : List Opened) × (es ≡ t ∷ rest)
  first = ended_first t (t ∷ k.reached.below) k.reached.below es refl k.ended

  given_now : GivesAll (x ∷ st.trace) st.top.scene t × AllGiven (x ∷ st.trace) (begun_below st.held) first.0
  given_now = given_first world st.trace x frames asked st.top.scene st.top.begun k.expression (begun_below st.held) t first.0 k.is
      (subst (AllGiven (x ∷ st.trace) (all_begun st)) first.1 k.given)

  pub all_ended : AllToldAtEnd world st.trace (x ∷ st.trace) frames (all_begun st) es
  all_ended =
      subst (AllToldAtEnd world st.trace (x ∷ st.trace) frames (all_begun st)) (sym first.1)
      (with_first world st.trace x frames asked st.top.scene st.top.begun k.expression (begun_below st.held) t first.0 k.is
      (told_ending world st.trace x frames asked st.top.scene k.expression u k.reached.top items is ends_top
      (subst (λ o. IsFresh st.trace st.top.scene (started_in o)) k.is way.clear.fresh.top) tells reached.0) k.listed
      (all_told world st.trace x frames asked st.top.scene.path st.held k.reached.below first.0 t
      (subst (λ z. is_under z st.top.scene.path ≡ true) (sym is.path) (under_itself st.top.scene.path)) way.clear.free.held held
      (subst (AreEnded (t ∷ k.reached.below)) first.1 k.ended)
      (let z = ap length first.1 in
      let w = begun_more world st.top.scene st.top.begun k.expression (begun_below st.held) k.is in
      let c = k.all in
      omega (arith, z, w, c))
      given_now.1 (listed_rest world st.trace x frames asked st.top.scene st.top.begun k.expression (begun_below st.held) k.is k.listed) reached.1))

pub audit_ends : AuditEnds
audit_ends world first st k n left status output later items frames os es r numbers way empty formed asks w q end has_items tells is =
    end_is_first world first st k left status output later frames es r h.0 now.clear.free q all is
  where
    h : GoesFree world first k st × AllRecorded world st [] n os
    h = walks world first numbers way.clear empty formed asks k st n os w

    now : AreOnTheWay world st
    now = stays_on_the_way world first st k (formed_all world first numbers way.clear empty formed asks) way h.0

    x : Entry
    x = entry_of world st.top (canonical_pick world st.top st.top.begun) end.items

    entry : IsEntryOf st.top.scene end.body x
    entry = record { path = refl; turn = refl; place = ap place_of end.is }

    parts : ((e : Begun) × (st.top.begun ≡ Some e) × EndsIn world st.trace later st.top.scene e end.body) × AllEndIn world st.trace later st.held
    parts = bodies_end world st later now end

    asked : AllAsked later
    asked = asks k st (Ends status output later) h.0 q

    At : List Entry → Type 0
    At z = ((e : Begun) × (st.top.begun ≡ Some e) × EndsIn world st.trace z st.top.scene e end.body) → AllEndIn world st.trace z st.held →
        TellsEnd world st z end.body items frames os es → AllAsked z → AllToldAtEnd world st.trace z frames (all_begun st) es

    all : AllToldAtEnd world st.trace later frames (all_begun st) es
    all = subst At (sym end.newest)
        (λ a b c d. all_ended world st x frames items end.body os es n numbers now h.1 entry (has_items x st.trace end.newest) a b c d) parts.0 parts.1 tells
        asked

-- ---- it doesn't end so
pub audit_returns : AuditReturns
audit_returns world first st k n left status output later os numbers clear empty formed asks w q held begun =
    return_is_clean world first st k left status output later (walks world first numbers clear empty formed asks k st n os w).0 q held begun

pub audit_raises : AuditRaises
audit_raises world first st k n left c later os numbers clear empty formed asks w none q =
    raise_is_first world first st k left c later none (walks world first numbers clear empty formed asks k st n os w).0 q

pub audit_passes_limit : AuditPassesLimit
audit_passes_limit world first st k n left c number os numbers clear empty formed asks w q =
    limit_is_first world first st k left c number (walks world first numbers clear empty formed asks k st n os w).0 q

pub audit_uses_budget : AuditUsesBudget
audit_uses_budget world first st k n os numbers clear empty formed asks w =
    budget_is_first world first st k (walks world first numbers clear empty formed asks k st n os w).0
