-- An event is told of the full expression on top, as its nodes have chosen by now.
use Rattle.std.proofs.Common.{◌≡◌, ◌≢◌, ◌<◌, ℕ, Bor, Bool, true, List, [], ◌∷◌, ◌++◌, Some, Option, subst, sym, ◌∙◌, ◌≤◌, ◌-◌, length}
use Rattle.ub_base.specs.declared.clause.Kind.TheVariants.{Body, Eff}
use Rattle.ub_base.specs.declared.names.Event.{Event}
use Rattle.ub_base.specs.declared.names.Frame.{Frame}
use Rattle.ub_base.specs.declared.names.Item.{Item}
use Rattle.ub_base.specs.Frames.{Row as FrameRow}
use Rattle.addr_map.specs.declared.map.Row.{Row}
use Rattle.c_typed.specs.declared.tree.Typed.{Typed}
use Rattle.c_typed.specs.Order.{place}
use Rattle.seq_order.specs.Marked.{taken_in}
use Rattle.run_state.specs.declared.watch.Begun.{Begun}
use Rattle.evaluation_log.specs.declared.rules.Rule.{Rule}
use Rattle.run_evaluations.specs.Scopes.{IsRuled}
use Rattle.run_evaluations.specs.Told.{Evaluation, Opened, Tells, chosen_by, entered, evaluation, told}
use Rattle.run_evaluations.proofs.FollowLemmas.{choices_grow}
use Rattle.conflict_detector.specs.declared.detector.Detector.{Detector}
use Rattle.conflict_detector.specs.declared.frames.RecordedFrames.{RecordedFrames}
use Rattle.conflict_detector.specs.declared.seen.Seen.{Seen}
use Rattle.conflict_detector.specs.Complete.{AllEnd, EndsTold, MayEnd, SeesEnd}
use Rattle.conflict_detector.specs.Examined.{AreRight, HasRules, IsNumbered}
use Rattle.conflict_detector.specs.Followed.{AreFollowed, AreFollowedBut}
use Rattle.conflict_detector.specs.Recorded.{HasTold, IsRecording, MayTell, done_by}
use Rattle.conflict_detector.specs.Shown.{IsShown}
use Rattle.conflict_detector.specs.Telling.{AreStarted, IsReached, TellsAt}
use Rattle.conflict_detector.proofs.Leaving.{started_top}
use Rattle.conflict_detector.proofs.Sees.{tells_node}

snoc_some : (es : List Evaluation) (e : Evaluation) → es ++ (e ∷ []) ≡ [] → ⊥
snoc_some [] e h = absurd (cc)
snoc_some (d ∷ es) e h = absurd (cc)

-- it is followed as nodes have chosen further operands
grown : (r : RecordedFrames) (fs : List Opened) (t : Opened) (ts : List Opened) (b : Begun) → fs ≡ t ∷ ts → AreFollowed fs r →
    ((n i : ℕ) → t.scope.taken n ≡ Some i → taken_in b.taken n ≡ Some i) → AreFollowed (chosen_by (taken_in b.taken) t ∷ ts) r
grown r fs t ts b e f grows =
    let g = subst (λ (z : List Opened). AreFollowed z r) e f in
    record { follows = choices_grow r.open t ts (taken_in b.taken) grows g.follows; names = g.names }

pub has_told : (roots : List (Bor Typed)) (b c : Begun) (os : List Opened) (e : Event) (items : List Item) (top : Frame) (d : Detector) (mid : RecordedFrames)
    (rule : Rule) (chosen : Bool) → b ≡ c → (fs : List Opened) (reached : IsReached e.frame os fs) → AreFollowed fs mid → MayTell roots b os e →
    0 < d.recorded → d.logged ≡ true → (IsNumbered roots c.tree c.root.now → AreRight roots d.known × HasRules d.known c.tree c.root.now) →
    ((t : Opened) (own : TellsAt t e.node) → IsShown roots c t → IsRuled t.scope e.node own.class own.operands rule chosen) →
    ((t : Opened) (ts : List Opened) → AreFollowed (t ∷ ts) mid → Tells t (place e.node e.kind) rule chosen → top ≡ e.frame →
    AreFollowedBut (told (evaluation e.node e.kind items) t ∷ ts) e.node e.kind d.open) →
    ((t : Opened) (ts : List Opened) → AreFollowed (t ∷ ts) mid → Tells t (place e.node e.kind) rule chosen → top ≢ e.frame → e.kind ≢ Eff →
    AreFollowed (entered top ∷ told (evaluation e.node e.kind items) t ∷ ts) d.open) → HasTold roots b os e items top d
has_told roots b c os e items top d mid rule chosen same fs reached follows may some logged known ruled stays enters =
    let can = may fs reached in
    let t = chosen_by (taken_in b.taken) reached.top in
    let ts = reached.below in
    let u : Opened = told (evaluation e.node e.kind items) t in
    let shown : IsShown roots c t = subst (λ (z : Begun). IsShown roots z t) same can.shown in
    let own = can.tells.own in
    let tells : Tells t (place e.node e.kind) rule chosen =
    record { own = tells_node t e.node own rule chosen (ruled t own shown); due = can.tells.due } in
    let f = grown mid fs reached.top ts b reached.is follows can.grows in
    let started : AreStarted (reached.top ∷ ts) = subst (λ (z : List Opened). AreStarted z) reached.is reached.started in
    let right = known shown.numbered in
    let rules = subst (λ (z : Begun). HasRules d.known z.tree z.root.now) (sym same) right.1 in
    record {
      frames = fs;
      reached = reached;
      stays = λ same_frame. record {
        known = right.0;
        rules = rules;
        some = some;
        logged = logged;
        started = started_top reached.top u ts started;
        follows = stays t ts f tells same_frame;
      };
      enters = λ other kind. record {
        known = right.0;
        some = some;
        started = (λ none. absurd (snoc_some reached.top.done (evaluation e.node e.kind items) none), started_top reached.top u ts started);
        follows = enters t ts f tells other kind;
      };
    }

-- a body that was told ends the run
pub ends_told : (frames : List FrameRow) (rows : List Row) (roots : List (Bor Typed)) (bs : List Begun) (b : Begun) (os : List Opened) (e : Event)
    (items : List Item) (top : Frame) (old : ℕ) (d : Detector) (seen : Option Seen) → HasTold roots b os e items top d → top ≡ e.frame → e.kind ≡ Body →
    d.recorded ≡ old → MayEnd roots bs old b os e items →
    ((ts : List Opened) → IsRecording roots ts d → d.recorded ≤ length bs → AllEnd roots bs (d.recorded - 1) (length bs - (d.recorded - 1)) ts →
    SeesEnd frames rows (length bs - (d.recorded - 1)) ts seen) → EndsTold frames rows (length bs - (old - 1)) b os e items seen
ends_told frames rows roots bs b os e items top old d seen told own body same may first =
    let ts = done_by b e items told.reached.top ∷ told.reached.below in
    let tells = told.stays own in
    let recording : IsRecording roots ts d = record {
      known = tells.known;
      some = tells.some;
      started = tells.started;
      follows = record {
        follows = tells.follows.now (λ eff. absurd (let q : Body ≡ Eff = sym body ∙ eff in cc));
        names = tells.follows.names;
      };
    } in
    let all = subst (λ (n : ℕ). AllEnd roots bs (n - 1) (length bs - (n - 1)) ts) (sym same) (may.1 told.frames told.reached) in
    let low = subst (λ (n : ℕ). n ≤ length bs) (sym same) may.0 in
    record {
      left = told.frames;
      reached = told.reached;
      sees = subst (λ (n : ℕ). SeesEnd frames rows (length bs - (n - 1)) ts seen) same (first ts recording low all);
    }
