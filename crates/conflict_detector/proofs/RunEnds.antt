-- The first conflict of all frames where the run ends.
use Rattle.std.proofs.Common.{◌≡◌, ◌⊎◌, inl, inr, ⊎_elim, ◌<◌, ◌+◌, ◌-◌, ℕ, zero, suc, Bor, Bool, true, false, List, [], ◌∷◌, ◌++◌, length, refl, ap}
use Rattle.std.proofs.Common.{sym, subst, ◌∙◌, arith}
use Rattle.std.proofs.Common.{Option, Some, None, length-append}
use Rattle.std.specs.Prelude.{slice_get, IfSome}
use Rattle.std.proofs.lemmas.Option.{same_Some}
use Rattle.ub_base.specs.Frames.{Row as FrameRow}
use Rattle.ub_base.specs.declared.names.Item.{Item}
use Rattle.addr_map.specs.declared.map.Row.{Row}
use Rattle.c_typed.specs.declared.tree.Typed.{Typed}
use Rattle.c_typed.specs.declared.tree.Place.{Place}
use Rattle.c_typed.specs.Decide.{due_in}
use Rattle.c_typed.specs.Tree.{tree_of}
use Rattle.run_state.specs.declared.watch.Begun.{Begun}
use Rattle.evaluation_log.specs.declared.found.Found.{Found}
use Rattle.evaluation_log.specs.declared.rules.Rules.{Rules}
use Rattle.evaluation_log.specs.FoundItems.{first_found}
use Rattle.evaluation_search.specs.First.{IsFirstOf}
use Rattle.evaluation_search.proofs.FirstLemmas.{alike, both}
use Rattle.run_evaluations.specs.Ends.{IsDependence}
use Rattle.run_evaluations.specs.First.{event_in}
use Rattle.run_evaluations.specs.FirstAtEnd.{AreOfWay, IsConflictAtEnd, IsConflictBeside, has_at_end}
use Rattle.run_evaluations.specs.Follows.{HasStarted}
use Rattle.run_evaluations.specs.Scopes.{Scope}
use Rattle.run_evaluations.specs.Shows.{AreApart, TellsEnd}
use Rattle.run_evaluations.specs.Told.{Evaluation, Opened, given, has, last_given}
use Rattle.conflict_detector.specs.declared.detector.Detector.{Detector}
use Rattle.conflict_detector.specs.declared.examined.Expressions.{Expressions}
use Rattle.conflict_detector.specs.declared.examined.Examined.{Examined}
use Rattle.conflict_detector.specs.declared.frames.RecordedFrames.{RecordedFrames}
use Rattle.conflict_detector.specs.declared.seen.Seen.{Seen}
use Rattle.conflict_detector.specs.Complete.{AllEnd, AreDone, AreEnded, CanEnd, EndsShown, IsConflictAtTop, IsConflictOfAll, NoneOfAll, SeesEnd}
use Rattle.conflict_detector.specs.Complete as ends
use Rattle.conflict_detector.specs.Examined.{AreRight, HasRules}
use Rattle.conflict_detector.specs.Followed.{AreFollowed, AreFollowedBelow}
use Rattle.conflict_detector.specs.Recorded.{SeesFirst}
use Rattle.conflict_detector.specs.Shown.{IsDuePair, IsShown}
use Rattle.conflict_detector.specs.Telling.{AreStarted}
use Rattle.conflict_detector.proofs.Leaving.{started_given}
use Rattle.conflict_detector.proofs.Pairs.{due_pair}
use Rattle.conflict_detector.proofs.Rules.{Fits, fits_shown}

-- ---- what a frame that is left gives
given_length : (body : Item → Bool) (es : List Evaluation) → length (last_given body es) ≡ length es
given_length body [] = refl
given_length body (e ∷ []) = refl
given_length body (d ∷ e ∷ es) = ap suc (given_length body (e ∷ es))

given_from : (body : Item → Bool) (es : List Evaluation) (i : ℕ) (e : Evaluation) → slice_get (last_given body es) i ≡ Some e →
    (d : Evaluation) × (slice_get es i ≡ Some d) × (d.place ≡ e.place)
given_from body [] i e h = absurd (cc)
given_from body (d ∷ []) zero e h = (d, refl, ap (λ (z : Evaluation). z.place) (same_Some (record d { body = body }) e h))
given_from body (d ∷ []) (suc i) e h = absurd (cc)
given_from body (c ∷ d ∷ es) zero e h = (c, refl, ap (λ (z : Evaluation). z.place) (same_Some c e h))
given_from body (c ∷ d ∷ es) (suc i) e h = given_from body (d ∷ es) i e h

given_end : (body : Item → Bool) (es : List Evaluation) (e : Evaluation) → slice_get es (length es - 1) ≡ Some e →
    slice_get (last_given body es) (length (last_given body es) - 1) ≡ Some (record e { body = body })
given_end body [] e h = absurd (cc)
given_end body (d ∷ []) e h = ap (λ (z : Evaluation). Some (record z { body = body })) (same_Some d e h)
given_end body (c ∷ d ∷ es) e h =
    let xs = last_given body (d ∷ es) in
    let n = given_length body (d ∷ es) in
    let at : length (c ∷ xs) - 1 ≡ suc (length xs - 1) = omega (arith, n) in
    let was : suc (length (d ∷ es) - 1) ≡ length (c ∷ d ∷ es) - 1 = omega arith in
    ap (slice_get (c ∷ xs)) at ∙ given_end body (d ∷ es) e (ap (slice_get (c ∷ d ∷ es)) was ∙ h)

done_given : (body : Item → Bool) (t : Opened) → AreDone t → AreDone (given body t)
done_given body t done = record {
  due = λ e among.
      let d = given_from body t.done among.0 e among.1 in
      subst (λ (z : Place). due_in t.scope.taken 0 t.scope.tree z ≡ true) d.2 (done.due d.0 (among.0, d.1));
  once = λ i j d e at_i at_j same.
      let a = given_from body t.done i d at_i in
      let b = given_from body t.done j e at_j in
      done.once i j a.0 b.0 a.1 b.1 (a.2 ∙ (same ∙ sym b.2));
}

can_given : (body : Item → Bool) (t : Opened) → CanEnd t → CanEnd (given body t)
can_given body t can = record {
  last = record can.last { body = body };
  top = record {
    some = let n = given_length body t.done in let s = can.top.some in omega (arith, n, s);
    at = given_end body t.done can.last can.top.at;
    body = can.top.body;
    due = can.top.due;
    parts = can.top.parts;
  };
  still = can.still;
  done = done_given body t can.done;
}

shown_given : (roots : List (Bor Typed)) (bs : List Begun) (at : ℕ) (body : Item → Bool) (t : Opened) → EndsShown roots bs at t →
    EndsShown roots bs at (given body t)
shown_given roots bs at body t e = record {
  begun = e.begun;
  there = e.there;
  shown = record {
    frame = e.shown.frame;
    turn = e.shown.turn;
    tree = e.shown.tree;
    taken = e.shown.taken;
    numbered = e.shown.numbered;
    small = e.shown.small;
    lists = e.shown.lists;
  };
  can = can_given body t e.can;
}

-- ---- one frame
tells_end : (roots : List (Bor Typed)) (b : Begun) (t : Opened) (rules : Rules) → IsShown roots b t → Fits t.scope rules → (can : CanEnd t) →
    TellsEnd t (tree_of b.root.now) rules can.last
tells_end roots b t rules shown fits can = record {
  same = shown.tree;
  fits = fits.fits;
  still = can.still;
  alone = fits.lists;
  top = can.top;
  small = shown.small;
}

known_fits : (roots : List (Bor Typed)) (b : Begun) (t : Opened) (x : Expressions) (rules : Rules) → IsShown roots b t → (h : HasRules x b.tree b.root.now) →
    (e : Examined) → slice_get x.list.items b.tree ≡ Some e → rules ≡ e.rules → Fits t.scope rules
known_fits roots b t x rules shown h e there same =
    fits_shown roots b t rules shown
    (ap (λ (z : Rules). z.list.items) same ∙ (ap (λ (z : Examined). z.rules.list.items) (same_Some e h.0 (sym there ∙ h.1)) ∙ h.2))

-- what `ended` of the evaluations asks of a frame that the view shows
pub record Asked (b : Begun) (t : Opened) (rules : Rules) (can : CanEnd t) : Type 0 where
  pub tells : TellsEnd t (tree_of b.root.now) rules can.last
  pub fits : Fits t.scope rules

pub asked_at : (roots : List (Bor Typed)) (b : Begun) (t : Opened) (x : Expressions) (rules : Rules) → IsShown roots b t → (h : HasRules x b.tree b.root.now) →
    (e : Examined) → slice_get x.list.items b.tree ≡ Some e → rules ≡ e.rules → (can : CanEnd t) → Asked b t rules can
asked_at roots b t x rules shown h e there same can =
    let fits = known_fits roots b t x rules shown h e there same in
    record { tells = tells_end roots b t rules shown fits can; fits = fits }

pub at_top : (frames : List FrameRow) (rows : List Row) (t : Opened) (can : CanEnd t) (found : Option Found) →
    IsFirstOf frames (IsConflictAtEnd frames rows t can.last) found → IsFirstOf frames (IsConflictAtTop frames rows t) found
at_top frames rows t can found h =
    alike frames (IsConflictAtEnd frames rows t can.last) (IsConflictAtTop frames rows t) found (λ f x. (can.last, can.top.at, x))
    (λ f x. subst (λ (z : Evaluation). IsConflictAtEnd frames rows t z f) (same_Some x.0 can.last (sym x.1 ∙ can.top.at)) x.2) h

-- such a conflict is of two that are due
low_or_high : (m n : ℕ) → (m ≡ n → ⊥) → (m < n) ⊎ (n < m)
low_or_high m n h = grind (arith, h)

dependence_pair : (frames : List FrameRow) (rows : List Row) (t : Opened) (u v : Place) (f g : Item → Bool) (x : Found) →
    IsDependence frames rows (event_in t u) f (event_in t v) g x → due_in t.scope.taken 0 t.scope.tree u ≡ true →
    due_in t.scope.taken 0 t.scope.tree v ≡ true → AreApart t.scope u v → IsDuePair t x
dependence_pair frames rows t u v f g x d one other apart = record {
  one = u;
  other = v;
  event = d.event;
  against = d.against;
  one_due = one;
  other_due = other;
  apart = apart;
  bodiless = λ race. absurd (let e : true ≡ false = sym race ∙ d.dependent in cc);
}

turned : (s : Scope) (u v : Place) → AreApart s u v → AreApart s v u
turned s u v a = record { before = a.behind; behind = a.before }

beside_pair : (frames : List FrameRow) (rows : List Row) (t : Opened) (can : CanEnd t) (last : Evaluation) → last ≡ can.last → (x : Found) →
    IsConflictBeside frames rows t last x → IsDuePair t x
beside_pair frames rows t can last same x b =
    let due : due_in t.scope.taken 0 t.scope.tree last.place ≡ true =
    ap (λ (z : Evaluation). due_in t.scope.taken 0 t.scope.tree z.place) same ∙ can.top.due in
    ⊎_elim
    (λ less. dependence_pair frames rows t b.other last.place (has_at_end t b.other) (has last) x (b.before less) b.due due b.apart)
    (λ more. dependence_pair frames rows t last.place b.other (has last) (has_at_end t b.other) x (b.behind more) due b.due
    (turned t.scope b.other last.place b.apart))
    (low_or_high b.other.node last.place.node b.elsewhere)

end_pair : (frames : List FrameRow) (rows : List Row) (t : Opened) (can : CanEnd t) (f : Found) → IsConflictAtTop frames rows t f → IsDuePair t f
end_pair frames rows t can f x =
    ⊎_elim (λ b. beside_pair frames rows t can x.0 (same_Some x.0 can.last (sym x.1 ∙ can.top.at)) f b)
    (λ w. due_pair t can.done frames rows (AreOfWay t x.0) f w) x.2

first_holds : (frames : List FrameRow) (Q : Found → Type 0) (found : Option Found) (f : Found) → found ≡ Some f → IsFirstOf frames Q found → Q f
first_holds frames Q None f e h = absurd (cc)
first_holds frames Q (Some g) f e h = subst Q (same_Some g f e) h.0

-- and none is passed over
same_by : (found stands : Option Found) → ((f : Found) → found ≡ Some f → stands ≡ Some f) → IfSome stands (λ f. found ≡ Some f) → stands ≡ found
same_by None None passes given = refl
same_by None (Some f) passes given = absurd (cc)
same_by (Some f) stands passes given = passes f refl

pub end_stands : (frames : List FrameRow) (rows : List Row) (t : Opened) (can : CanEnd t) (found stands : Option Found) →
    IsFirstOf frames (IsConflictAtTop frames rows t) found → ((f : Found) → found ≡ Some f → IsDuePair t f → stands ≡ Some f) →
    IfSome stands (λ f. found ≡ Some f) → stands ≡ found
end_stands frames rows t can found stands first passes given =
    same_by found stands
    (λ f e. passes f e (end_pair frames rows t can f (first_holds frames (IsConflictAtTop frames rows t) found f e first))) given

-- what stands at a place doesn't stand there where nothing does
pub none_there : (bs : List Begun) (i : ℕ) (b : Begun) → slice_get bs i ≡ Some b → slice_get bs i ≡ None → ⊥
none_there bs i b some none = absurd (let e = sym some ∙ none in cc)

-- ---- all frames
-- the frames that are asked still, and those that were; the first conflict so far is that of these
pub record Ending (frames : List FrameRow) (rows : List Row) (roots : List (Bor Typed)) (bs : List Begun) (from count total : ℕ) (os : List Opened)
    (best : Option Found) (d : Detector) : Type 0 where
  pub known : AreRight roots d.known
  pub now : List Opened
  pub past : List Opened
  pub follows : AreFollowed now d.open
  pub started : AreStarted now
  pub can : AllEnd roots bs from count now
  pub first : IsFirstOf frames (IsConflictOfAll frames rows past) best
  pub goes : (es : List Opened) → AreEnded now es → AreEnded os (past ++ es)
  pub sum : length past + count ≡ total

pub ending_none : (frames : List FrameRow) (rows : List Row) (roots : List (Bor Typed)) (bs : List Begun) (from count total : ℕ) (os : List Opened)
    (d : Detector) → AreRight roots d.known → AreFollowed os d.open → AreStarted os → AllEnd roots bs from total os → count ≡ total →
    Ending frames rows roots bs from count total os None d
ending_none frames rows roots bs from count total os d known follows started can same = record {
  known = known;
  now = os;
  past = [];
  follows = follows;
  started = started;
  can = subst (λ (n : ℕ). AllEnd roots bs from n os) (sym same) can;
  first = λ f x. x;
  goes = λ es h. h;
  sum = omega (arith, same);
}

-- the conflicts of one more
all_first : (frames : List FrameRow) (rows : List Row) (past : List Opened) (t : Opened) (f : Found) → IsConflictOfAll frames rows past f →
    IsConflictOfAll frames rows (past ++ (t ∷ [])) f
all_first frames rows [] t f x = absurd x
all_first frames rows (p ∷ ps) t f (inl x) = inl x
all_first frames rows (p ∷ ps) t f (inr x) = inr (all_first frames rows ps t f x)

all_last : (frames : List FrameRow) (rows : List Row) (past : List Opened) (t : Opened) (f : Found) → IsConflictAtTop frames rows t f →
    IsConflictOfAll frames rows (past ++ (t ∷ [])) f
all_last frames rows [] t f x = inl x
all_last frames rows (p ∷ ps) t f x = inr (all_last frames rows ps t f x)

all_either : (frames : List FrameRow) (rows : List Row) (past : List Opened) (t : Opened) (f : Found) → IsConflictOfAll frames rows (past ++ (t ∷ [])) f →
    IsConflictOfAll frames rows past f ⊎ IsConflictAtTop frames rows t f
all_either frames rows [] t f (inl x) = inr x
all_either frames rows [] t f (inr x) = absurd x
all_either frames rows (p ∷ ps) t f (inl x) = inl (inl x)
all_either frames rows (p ∷ ps) t f (inr x) = ⊎_elim (λ y. inl (inr y)) (λ y. inr y) (all_either frames rows ps t f x)

first_more : (frames : List FrameRow) (rows : List Row) (past : List Opened) (t : Opened) (best found : Option Found) →
    IsFirstOf frames (IsConflictOfAll frames rows past) best → IsFirstOf frames (IsConflictAtTop frames rows t) found →
    IsFirstOf frames (IsConflictOfAll frames rows (past ++ (t ∷ []))) (first_found frames best found)
first_more frames rows past t best found old new =
    alike frames (λ f. IsConflictOfAll frames rows past f ⊎ IsConflictAtTop frames rows t f) (IsConflictOfAll frames rows (past ++ (t ∷ [])))
    (first_found frames best found) (λ f x. ⊎_elim (λ y. all_first frames rows past t f y) (λ y. all_last frames rows past t f y) x)
    (λ f x. all_either frames rows past t f x)
    (both frames (IsConflictOfAll frames rows past) (IsConflictAtTop frames rows t) best found old new)

append_one : (xs : List Opened) (u : Opened) (vs : List Opened) → (xs ++ (u ∷ [])) ++ vs ≡ xs ++ u ∷ vs
append_one [] u vs = refl
append_one (x ∷ xs) u vs = ap (λ z. x ∷ z) (append_one xs u vs)

-- what asking one frame gives
abbrev pub Asks : List FrameRow → List Row → List (Bor Typed) → List Begun → ℕ → Option Found → Option Found → Detector → Detector → Type 0
Asks frames rows roots bs at best new d e = (b : Begun) (t : Opened) (ts : List Opened) → slice_get bs at ≡ Some b → IsShown roots b t → CanEnd t →
    AreRight roots d.known → AreFollowed (t ∷ ts) d.open →
    ((found : Option Found) × (new ≡ first_found frames best found) × IsFirstOf frames (IsConflictAtTop frames rows t) found)
    × (AreRight roots e.known × AreFollowedBelow t ts e.open)

-- and leaving it
abbrev pub Leaves : RecordedFrames → RecordedFrames → Type 0
Leaves old new = (t u : Opened) (us : List Opened) → AreFollowedBelow t (u ∷ us) old → HasStarted u us →
    (body : Item → Bool) × AreFollowed (given body u ∷ us) new

module _ (frames : List FrameRow) (rows : List Row) (roots : List (Bor Typed)) (bs : List Begun) (from : ℕ) (os : List Opened) where
  ending_from : (k total at : ℕ) (now past : List Opened) (best new : Option Found) (d e g : Detector) → at ≡ from + suc k → AreRight roots d.known →
      AreFollowed now d.open → AreStarted now → AllEnd roots bs from (suc (suc k)) now → IsFirstOf frames (IsConflictOfAll frames rows past) best →
      ((es : List Opened) → AreEnded now es → AreEnded os (past ++ es)) → length past + suc (suc k) ≡ total →
      Asks frames rows roots bs at best new d e → g.known ≡ e.known → Leaves e.open g.open →
      Ending frames rows roots bs from (suc k) total os new g
  ending_from k total at [] past best new d e g place known follows started can first goes sum asks same leaves = absurd can
  ending_from k total at (t ∷ []) past best new d e g place known follows started can first goes sum asks same leaves = absurd can.1
  ending_from k total at (t ∷ u ∷ us) past best new d e g place known follows started can first goes sum asks same leaves =
      let top = can.0 in
      let a = asks top.begun t (u ∷ us) (ap (slice_get bs) place ∙ top.there) top.shown top.can known follows in
      let l = leaves t u us a.1.1 started.0 in
      record {
        known = subst (λ z. AreRight roots z) (sym same) a.1.0;
        now = given l.0 u ∷ us;
        past = past ++ (t ∷ []);
        follows = l.1;
        started = started_given l.0 u us started.1;
        can = (shown_given roots bs (from + k) l.0 u can.1.0, can.1.1);
        first = subst (λ (z : Option Found). IsFirstOf frames (IsConflictOfAll frames rows (past ++ (t ∷ []))) z) (sym a.0.1)
            (first_more frames rows past t best a.0.0 first a.0.2);
        goes = λ es h. subst (λ (z : List Opened). AreEnded os z) (sym (append_one past t es)) (goes (t ∷ es) (ends.more t u us es l.0 h));
        sum = let n = length-append past (t ∷ []) in omega (arith, n, sum);
      }

  -- the last one
  ended_from : (total at : ℕ) (now past : List Opened) (best new : Option Found) (d e : Detector) → at ≡ from → AreRight roots d.known →
      AreFollowed now d.open → AllEnd roots bs from 1 now → IsFirstOf frames (IsConflictOfAll frames rows past) best →
      ((es : List Opened) → AreEnded now es → AreEnded os (past ++ es)) → length past + 1 ≡ total → Asks frames rows roots bs at best new d e →
      (ended : List Opened) × AreEnded os ended × (length ended ≡ total) × IsFirstOf frames (IsConflictOfAll frames rows ended) new
  ended_from total at [] past best new d e place known follows can first goes sum asks = absurd can
  ended_from total at (t ∷ ts) past best new d e place known follows can first goes sum asks =
      let top = can.0 in
      let here : at ≡ from + 0 = omega (arith, place) in
      let a = asks top.begun t ts (ap (slice_get bs) here ∙ top.there) top.shown top.can known follows in (
        past ++ (t ∷ []),
        goes (t ∷ []) (ends.one t ts),
        (let n = length-append past (t ∷ []) in omega (arith, n, sum)),
        subst (λ (z : Option Found). IsFirstOf frames (IsConflictOfAll frames rows (past ++ (t ∷ []))) z) (sym a.0.1)
            (first_more frames rows past t best a.0.0 first a.0.2),
      )

pub ending_more : (frames : List FrameRow) (rows : List Row) (roots : List (Bor Typed)) (bs : List Begun) (from m n k total at : ℕ) (os : List Opened)
    (best new : Option Found) (d e g : Detector) → m ≡ suc (suc k) → n ≡ suc k → at ≡ from + suc k → Asks frames rows roots bs at best new d e →
    g.known ≡ e.known → Leaves e.open g.open → Ending frames rows roots bs from m total os best d → Ending frames rows roots bs from n total os new g
ending_more frames rows roots bs from m n k total at os best new d e g before after place asks same leaves at_m =
    let h = subst (λ (z : ℕ). Ending frames rows roots bs from z total os best d) before at_m in
    subst (λ (z : ℕ). Ending frames rows roots bs from z total os new g) (sym after)
    (ending_from frames rows roots bs from os k total at h.now h.past best new d e g place h.known h.follows h.started h.can h.first h.goes h.sum asks
    same leaves)

-- what is seen in the end
pub sees_end : (frames : List FrameRow) (rows : List Row) (roots : List (Bor Typed)) (bs : List Begun) (from total at : ℕ) (os : List Opened)
    (best new : Option Found) (d e : Detector) (seen : Option Seen) → at ≡ from → Asks frames rows roots bs at best new d e →
    Ending frames rows roots bs from 1 total os best d → IfSome seen (λ s. new ≡ Some s.found) → (seen ≡ None → new ≡ None) →
    SeesEnd frames rows total os seen
sees_end frames rows roots bs from total at os best new d e seen place asks h some empty =
    let r = ended_from frames rows roots bs from os total at h.now h.past best new d e place h.known h.follows h.can h.first h.goes h.sum asks in
    record { ended = r.0; are = r.1; all = r.2; first = sees_all r.0 new seen some empty r.3 }
  where
    sees_all : (ts : List Opened) (new : Option Found) (seen : Option Seen) → IfSome seen (λ s. new ≡ Some s.found) → (seen ≡ None → new ≡ None) →
        IsFirstOf frames (IsConflictOfAll frames rows ts) new → SeesFirst frames (IsConflictOfAll frames rows ts) (NoneOfAll frames rows ts) seen
    sees_all ts new None some empty first = subst (λ (z : Option Found). IsFirstOf frames (IsConflictOfAll frames rows ts) z) (empty refl) first
    sees_all ts new (Some s) some empty first = subst (λ (z : Option Found). IsFirstOf frames (IsConflictOfAll frames rows ts) z) some first
