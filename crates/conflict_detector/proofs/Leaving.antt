-- Frames are left, up to one that is open.
use Rattle.std.proofs.Common.{◌≡◌, ◌≢◌, ◌<◌, ◌≤◌, ◌+◌, ◌-◌, inl, inr, ℕ, suc, Bool, List, [], ◌∷◌, length, refl, ap, sym, subst, ◌∙◌}
use Rattle.std.proofs.Common.{arith, Option, Some, None, ◌++◌, length-append, take}
use Rattle.std.proofs.lemmas.List.{take-append-le, take_all}
use Rattle.std.specs.Prelude.{slice_get, IfSome}
use Rattle.std.proofs.lemmas.Option.{same_Some}
use Rattle.ub_base.specs.declared.names.Frame.{Frame}
use Rattle.ub_base.specs.declared.names.Item.{Item}
use Rattle.run_evaluations.specs.Follows.{HasStarted}
use Rattle.run_evaluations.specs.Scopes.{Scope}
use Rattle.run_evaluations.specs.Told.{Opened, given, settled}
use Rattle.evaluation_log.proofs.WholeLemmas.{get_seam}
use Rattle.conflict_detector.specs.declared.frames.RecordedFrames.{RecordedFrames}
use Rattle.conflict_detector.specs.Followed.{AreFollowed, names_of}
use Rattle.conflict_detector.specs.Telling.{AreStarted, IsBare, IsOpen, IsReached, LeftTo, fresh}
use Rattle.conflict_detector.specs.Telling as leaving

-- ---- lists of frames
pub started_given : (body : Item → Bool) (u : Opened) (us : List Opened) → AreStarted (u ∷ us) → AreStarted (given body u ∷ us)
started_given body u [] h = tt
started_given body u (w ∷ ws) h = h

pub started_below : (t : Opened) (ts : List Opened) → AreStarted (t ∷ ts) → AreStarted ts
started_below t [] h = tt
started_below t (u ∷ us) h = h.1

pub open_below : (f : Frame) (t : Opened) (ts : List Opened) → IsOpen f (t ∷ ts) → t.frame ≢ f → IsOpen f ts
open_below f t ts (inl h) other = absurd (other h)
open_below f t ts (inr h) other = h

pub left_more : (f : Frame) (t u : Opened) (us os : List Opened) (body : Item → Bool) → LeftTo f (t ∷ u ∷ us) os → t.frame ≢ f →
    LeftTo f (given body u ∷ us) os
left_more f t u us _ body leaving.stays other = leaving.left t u us body other leaving.stays
left_more f t u us _ body (leaving.left a b bs given_body ne h) other = leaving.left a b bs given_body ne (left_more f t u us _ body h other)

-- ---- names
pub count_names : (os : List Opened) → length (names_of os) ≡ length os
count_names [] = refl
count_names (t ∷ ts) = length-append (names_of ts) (t.frame ∷ []) ∙ (let e = count_names ts in omega (arith, e))

pub top_name : (t : Opened) (ts : List Opened) → slice_get (names_of (t ∷ ts)) (length (names_of (t ∷ ts)) - 1) ≡ Some t.frame
top_name t ts =
    ap (slice_get (names_of (t ∷ ts))) (let e = length-append (names_of ts) (t.frame ∷ []) in omega (arith, e)) ∙ get_seam (names_of ts) t.frame

pub pop_name : (t : Opened) (ts : List Opened) → take (length (names_of (t ∷ ts)) - 1) (names_of (t ∷ ts)) ≡ names_of ts
pop_name t ts = ap (λ (n : ℕ). take n (names_of ts ++ (t.frame ∷ []))) (let e = length-append (names_of ts) (t.frame ∷ []) in omega (arith, e)) ∙
    (take-append-le (length (names_of ts)) (names_of ts) (t.frame ∷ []) (omega arith) ∙ take_all (length (names_of ts)) (names_of ts) (omega arith))

pub pop_names : (n : ℕ) (fs new : List Frame) (t : Opened) (ts : List Opened) → n ≡ length fs → fs ≡ names_of (t ∷ ts) → new ≡ take (n - 1) fs →
    new ≡ names_of ts
pop_names n fs new t ts len names popped =
    popped ∙ (ap (λ (k : ℕ). take (k - 1) fs) len ∙ (ap (λ (gs : List Frame). take (length gs - 1) gs) names ∙ pop_name t ts))

top_yes : (o : Option Frame) (g f : Frame) → o ≡ Some g → IfSome o (λ z. z ≡ f) → g ≡ f
top_yes None g f h is_it = absurd (cc)
top_yes (Some z) g f h is_it = sym (same_Some z g h) ∙ is_it

top_no : (o : Option Frame) (g f : Frame) → o ≡ Some g → IfSome o (λ z. z ≢ f) → g ≢ f
top_no None g f h isnt = absurd (cc)
top_no (Some z) g f h isnt = λ e. isnt (same_Some z g h ∙ e)

abbrev top_of : RecordedFrames → Option Frame
top_of r = slice_get r.names.items (length r.names.items - 1)

top_is : (r : RecordedFrames) (t : Opened) (ts : List Opened) → AreFollowed (t ∷ ts) r → top_of r ≡ Some t.frame
top_is r t ts h = ap (λ (fs : List Frame). slice_get fs (length fs - 1)) h.names ∙ top_name t ts

pub is_named : (r : RecordedFrames) (t : Opened) (ts : List Opened) (f : Frame) → AreFollowed (t ∷ ts) r → IfSome (top_of r) (λ z. z ≡ f) → t.frame ≡ f
is_named r t ts f h is_it = top_yes (top_of r) t.frame f (top_is r t ts h) is_it

pub is_other : (r : RecordedFrames) (t : Opened) (ts : List Opened) (f : Frame) → AreFollowed (t ∷ ts) r → IfSome (top_of r) (λ z. z ≢ f) → t.frame ≢ f
is_other r t ts f h isnt = top_no (top_of r) t.frame f (top_is r t ts h) isnt

pub count_frames : (r : RecordedFrames) (os : List Opened) → AreFollowed os r → length r.names.items ≡ length os
count_frames r os h = ap length h.names ∙ count_names os

-- ---- up to a frame
-- so many frames are left, and this one is open still
pub record Leaves (f : Frame) (os : List Opened) (now : RecordedFrames) (left : ℕ) : Type 0 where
  pub frames : List Opened
  pub to : LeftTo f frames os
  pub follows : AreFollowed frames now
  pub in_it : IsOpen f frames
  pub started : AreStarted frames
  pub count : length frames + left ≡ length os

abbrev pub Leaving : Frame → RecordedFrames → RecordedFrames → ℕ → Type 0
Leaving f old now left = (os : List Opened) → AreFollowed os old → IsOpen f os → AreStarted os → Leaves f os now left

pub leaves_none : (f : Frame) (o : RecordedFrames) → Leaving f o o 0
leaves_none f o = λ os h in_it started. record { frames = os; to = leaving.stays; follows = h; in_it = in_it; started = started; count = omega arith }

abbrev Gives : RecordedFrames → RecordedFrames → Type 0
Gives now new = (t u : Opened) (us : List Opened) → AreFollowed (t ∷ u ∷ us) now → HasStarted u us → (body : Item → Bool) × AreFollowed (given body u ∷ us) new

leaves_from : (f : Frame) (os frames : List Opened) (now new : RecordedFrames) (left : ℕ) → LeftTo f frames os → AreFollowed frames now → IsOpen f frames →
    AreStarted frames → length frames + left ≡ length os → IfSome (top_of now) (λ z. z ≢ f) → Gives now new → Leaves f os new (left + 1)
leaves_from f os [] now new left to h in_it started count isnt gives = absurd in_it
leaves_from f os (t ∷ []) now new left to h in_it started count isnt gives = absurd (open_below f t [] in_it (is_other now t [] f h isnt))
leaves_from f os (t ∷ u ∷ us) now new left to h in_it started count isnt gives =
    let other = is_other now t (u ∷ us) f h isnt in
    let g = gives t u us h started.0 in
    record {
      frames = given g.0 u ∷ us;
      to = left_more f t u us os g.0 to other;
      follows = g.1;
      in_it = open_below f t (u ∷ us) in_it other;
      started = started_given g.0 u us started.1;
      count = omega (arith, count);
    }

pub leaves_one : (f : Frame) (old now new : RecordedFrames) (left : ℕ) → Leaving f old now left → IfSome (top_of now) (λ z. z ≢ f) → Gives now new →
    Leaving f old new (left + 1)
leaves_one f old now new left before isnt gives = λ os h in_it started.
    let b = before os h in_it started in
    leaves_from f os b.frames now new left b.to b.follows b.in_it b.started b.count isnt gives

reached_from : (f : Frame) (os frames : List Opened) (now : RecordedFrames) → LeftTo f frames os → AreFollowed frames now → IsOpen f frames →
    AreStarted frames → IfSome (top_of now) (λ z. z ≡ f) → IsReached f os frames
reached_from f os [] now to h in_it started is_it = absurd in_it
reached_from f os (t ∷ ts) now to h in_it started is_it = record {
  top = t;
  below = ts;
  is = refl;
  name = is_named now t ts f h is_it;
  left = to;
  started = started;
}

pub leaves_reach : (f : Frame) (old now : RecordedFrames) (left : ℕ) → Leaving f old now left → IfSome (top_of now) (λ z. z ≡ f) →
    (os : List Opened) → AreFollowed os old → IsOpen f os → AreStarted os → (fs : List Opened) × IsReached f os fs × AreFollowed fs now
leaves_reach f old now left before is_it os h in_it started =
    let b = before os h in_it started in
    (b.frames, reached_from f os b.frames now b.to b.follows b.in_it b.started is_it, b.follows)

pub leaves_all : (f : Frame) (old now : RecordedFrames) (left : ℕ) → Leaving f old now left → length old.names.items ≤ left →
    (os : List Opened) → AreFollowed os old → IsOpen f os → AreStarted os → ⊥
leaves_all f old now left before all os h in_it started =
    let b = before os h in_it started in
    let n = b.count in
    let m = count_frames old os h in
    none_left f b.frames b.in_it (omega (arith, n, m, all))
  where
    none_left : (f : Frame) (fs : List Opened) → IsOpen f fs → length fs ≡ 0 → ⊥
    none_left f [] in_it e = in_it
    none_left f (t ∷ ts) in_it e = absurd (omega (arith, e))

-- ---- up to the outermost frame
pub record LeavesDown (os : List Opened) (now : RecordedFrames) (left : ℕ) : Type 0 where
  pub frames : List Opened
  pub follows : AreFollowed frames now
  pub started : AreStarted frames
  pub some : 0 < length frames
  pub count : length frames + left ≡ suc (length os)

abbrev pub LeavingDown : RecordedFrames → RecordedFrames → ℕ → Type 0
LeavingDown old now left = (t : Opened) (ts : List Opened) → AreFollowed (t ∷ ts) old → AreStarted (t ∷ ts) → LeavesDown (t ∷ ts) now left

pub down_none : (o : RecordedFrames) → LeavingDown o o 1
down_none o = λ t ts h started. record { frames = t ∷ ts; follows = h; started = started; some = omega arith; count = omega arith }

down_from : (os frames : List Opened) (now new : RecordedFrames) (left : ℕ) → AreFollowed frames now → AreStarted frames →
    length frames + left ≡ suc (length os) → left < length os → Gives now new → LeavesDown os new (left + 1)
down_from os [] now new left h started count more gives = absurd (omega (arith, count, more))
down_from os (t ∷ []) now new left h started count more gives = absurd (omega (arith, count, more))
down_from os (t ∷ u ∷ us) now new left h started count more gives =
    let g = gives t u us h started.0 in
    record {
      frames = given g.0 u ∷ us;
      follows = g.1;
      started = started_given g.0 u us started.1;
      some = omega arith;
      count = omega (arith, count);
    }

pub down_one : (old now new : RecordedFrames) (left : ℕ) → LeavingDown old now left → left < length old.names.items → Gives now new →
    LeavingDown old new (left + 1)
down_one old now new left before more gives = λ t ts h started.
    let b = before t ts h started in
    let m = count_frames old (t ∷ ts) h in
    down_from (t ∷ ts) b.frames now new left b.follows b.started b.count (omega (arith, m, more)) gives

-- the last one is settled
abbrev pub Settles : RecordedFrames → RecordedFrames → Type 0
Settles now new = (t : Opened) (ts : List Opened) → AreFollowed (t ∷ ts) now → AreFollowed (settled t ∷ ts) new

abbrev pub IsEmpty : RecordedFrames → Type 0
IsEmpty o = (m : Opened) × (m.done ≡ []) × AreFollowed (m ∷ []) o

down_last : (frames : List Opened) (now new : RecordedFrames) → length frames ≡ 1 → AreFollowed frames now → Settles now new → IsEmpty new
down_last [] now new e h settles = absurd (omega (arith, e))
down_last (t ∷ []) now new e h settles = (settled t, refl, settles t [] h)
down_last (t ∷ u ∷ us) now new e h settles = absurd (omega (arith, e))

pub down_all : (old now new : RecordedFrames) (left : ℕ) → LeavingDown old now left → length old.names.items ≤ left → Settles now new →
    (t : Opened) (ts : List Opened) → AreFollowed (t ∷ ts) old → AreStarted (t ∷ ts) → IsEmpty new
down_all old now new left before low settles t ts h started =
    let b = before t ts h started in
    let n = b.count in
    let m = count_frames old (t ∷ ts) h in
    let some = b.some in
    down_last b.frames now new (omega (arith, n, m, low, some)) b.follows settles

-- ---- recording begins
pub begins_in : (m : Opened) (f : Frame) (turn : ℕ) (s : Scope) (new : RecordedFrames) → m.frame ≡ f → AreFollowed (fresh m.frame turn s ∷ []) new →
    (bottom : List Opened) × IsBare bottom × AreFollowed (fresh f turn s ∷ bottom) new
begins_in m f turn s new e h = ([], tt, subst (λ (z : Frame). AreFollowed (fresh z turn s ∷ []) new) e h)

pub started_bare : (t : Opened) (bottom : List Opened) → IsBare bottom → AreStarted (t ∷ bottom)
started_bare t [] h = tt
started_bare t (m ∷ []) h = (λ e. refl, tt)
started_bare t (m ∷ n ∷ ms) h = absurd h

-- the frame on top may change
pub started_top : (t u : Opened) (ts : List Opened) → AreStarted (t ∷ ts) → AreStarted (u ∷ ts)
started_top t u [] h = tt
started_top t u (w ∷ ws) h = h

-- with a frame open, all are left but the outermost one
pub empty_after : (f : Frame) (os : List Opened) → IsOpen f os → (a b : RecordedFrames) →
    ((t : Opened) (ts : List Opened) → AreFollowed (t ∷ ts) a → AreStarted (t ∷ ts) → IsEmpty b) → AreFollowed os a → AreStarted os → IsEmpty b
empty_after f [] in_it a b closes h started = absurd in_it
empty_after f (t ∷ ts) in_it a b closes h started = closes t ts h started
