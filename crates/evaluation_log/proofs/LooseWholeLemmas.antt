-- What is kept of loose events stays right, as the log goes on.
use Rattle.std.proofs.Common.{◌≡◌, ◌⊎◌, inl, inr, ⊎_elim, ℕ, zero, suc, ◌≤◌, ◌<◌, ◌+◌, ◌-◌, Bool, true, false, List, [], ◌∷◌, ◌++◌, length, take, refl}
use Rattle.std.proofs.Common.{sym, ap, ◌∙◌, arith, Option, Some, None, subst, length-take, ◌||◌}
use Rattle.std.specs.Prelude.{Box, slice_get, IfSome}
use Rattle.std.specs.Global.{Global}
use Rattle.std.proofs.lemmas.List.{length_push}
use Rattle.std.proofs.lemmas.Option.{slice_get_cases, slice_get_past, slice_get_within, same_Some}
use Rattle.ub_base.specs.declared.names.Item.{Item}
use Rattle.footprint.specs.declared.foot.Foot.{Foot}
use Rattle.footprint.specs.Holds.{holds}
use Rattle.evaluation_log.specs.declared.log.Logged.{Logged}
use Rattle.evaluation_log.specs.declared.log.Segment.{Segment}
use Rattle.evaluation_log.specs.declared.level.Level.{Level}
use Rattle.evaluation_log.specs.Touched.{event_has, start_of}
use Rattle.evaluation_log.specs.Clashes.{AreSorted}
use Rattle.evaluation_log.specs.Kept.{Cut, cut_of, Whole, AllBelow}
use Rattle.evaluation_log.specs.Loose.{LooseWhole, HasRange, HasEvent, Thins, LooseKept, event_of, loose_has, first_loose, loose_of, loose_from}
use Rattle.evaluation_log.specs.Loose.{loose_start_of, loose_foot_of}
use Rattle.evaluation_log.proofs.BetweenLemmas.{rises_to}
use Rattle.evaluation_log.proofs.KeptLemmas.{before_or_past, or_left, or_right}
use Rattle.evaluation_log.proofs.WholeLemmas.{get_left, get_seam, get_take, take_part, event_sub, not_none, inside, starts_past, starts_top, items_top}
use Rattle.evaluation_log.proofs.WholeLemmas.{cut_start}

-- ---- the event that is listed
listed_in : (fs : List Logged) (js : List Item) (o : Option ℕ) (j : Item) → event_has js (event_of fs o) j ≡ true →
    (k : ℕ) × (d : Logged) × (o ≡ Some k) × (slice_get fs k ≡ Some d) × (event_has js (Some d) j ≡ true)
listed_in fs js None j h = absurd (cc)
listed_in fs js (Some k) j h =
    ⊎_elim (λ one. (k, one.0, refl, one.2, sym (ap (λ o. event_has js o j) one.2) ∙ h))
    (λ past. absurd (let e : false ≡ true = sym (ap (λ o. event_has js o j) past.1) ∙ h in cc))
    (slice_get_cases fs k).1

pub listed_by : (fs : List Logged) (js : List Item) (ms : List ℕ) (i : ℕ) (j : Item) → loose_has fs js ms i j ≡ true →
    (k : ℕ) × (d : Logged) × (slice_get ms i ≡ Some k) × (slice_get fs k ≡ Some d) × (event_has js (Some d) j ≡ true)
listed_by fs js ms i j h = listed_in fs js (slice_get ms i) j h

pub listed_to : (es : List Logged) (is : List Item) (ls : List ℕ) (i k : ℕ) (d : Logged) (j : Item) → slice_get ls i ≡ Some k → slice_get es k ≡ Some d →
    event_has is (Some d) j ≡ true → loose_has es is ls i j ≡ true
listed_to es is ls i k d j at there h =
    ap (λ o. event_has is (event_of es o) j) at ∙ ap (λ o. event_has is o j) there ∙ h

-- the same place of two lists
loose_at : (es : List Logged) (is : List Item) (ls ms : List ℕ) (i : ℕ) (j : Item) → slice_get ms i ≡ slice_get ls i → loose_has es is ms i j ≡ true →
    loose_has es is ls i j ≡ true
loose_at es is ls ms i j same h = sym (ap (λ o. event_has is (event_of es o) j) same) ∙ h

-- what is left of a list stood there before
pub taken_get : {X : Type 0} (n : ℕ) (xs : List X) (k : ℕ) (x : X) → slice_get (take n xs) k ≡ Some x → slice_get xs k ≡ Some x
taken_get n xs k x h =
    let w = slice_get_within (take n xs) k x h in
    let e = length-take n xs in
    sym (get_take n xs k (omega (arith, w, e))) ∙ h

-- where the loose events begin
pub start_by : (ls : List ℕ) (o p : Option Segment) → loose_start_of p ≡ loose_start_of o → first_loose ls p ≡ first_loose ls o
start_by ls None None e = refl
start_by ls None (Some t) e = absurd (cc)
start_by ls (Some s) None e = absurd (cc)
start_by ls (Some s) (Some t) e = same_Some t.loose s.loose e

-- in other lists, where there is such a segment
start_some : (ls ms : List ℕ) (o p : Option Segment) (s : Segment) → o ≡ Some s → loose_start_of p ≡ loose_start_of o → first_loose ms p ≡ first_loose ls o
start_some ls ms o p s at e = start_by ms o p e ∙ ap (first_loose ms) at ∙ ap (first_loose ls) (sym at)

level_there : (o : Option Level) (c : Cut) → cut_of o ≡ Some c → (l : Level) × (o ≡ Some l)
level_there None c h = absurd (cc)
level_there (Some l) c h = (l, refl)

pub foot_there : (o : Option Segment) (f : Box Foot Global) → loose_foot_of o ≡ Some f → (s : Segment) × (o ≡ Some s)
foot_there None f h = absurd (cc)
foot_there (Some s) f h = (s, refl)

pub below_or_at : (k n : ℕ) → k < suc n → (k < n) ⊎ (k ≡ n)
below_or_at k n less = grind arith

module _ (segments : List Segment) (events : List Logged) (items : List Item) (loose : List ℕ) (levels : List Level)
    (right : LooseWhole segments events items loose levels) where
  looses_rise : (g h : ℕ) → g ≤ h → loose_of segments loose g ≤ loose_of segments loose h
  looses_rise g h le = rises_to (loose_of segments loose) 0 g h (λ k more. right.rise k) (omega arith) le

  pub looses_past : (g : ℕ) → length segments ≤ g → loose_of segments loose g ≡ length loose
  looses_past g past = ap (first_loose loose) (slice_get_past segments g past)

  looses_top : (g : ℕ) → loose_of segments loose g ≤ length loose
  looses_top g =
      let e = looses_past (g + length segments) (omega arith) in
      let r = looses_rise g (g + length segments) (omega arith) in
      omega (arith, e, r)

  -- ---- of the top segment
  pub top_right : LooseKept segments events items loose (loose_from segments loose)
  top_right f h i le j has =
      let s = foot_there (slice_get segments (length segments - 1)) f h in
      let w = slice_get_within segments (length segments - 1) s.0 s.1 in
      let l = listed_by events items loose i j has in
      let v = slice_get_within loose i l.0 l.2 in
      let p = looses_past (suc (length segments - 1)) (omega (arith, w)) in
      right.has (length segments - 1) f h i le (omega (arith, v, p)) j has

  -- ---- only frames have changed
  pub right_levels : (ms : List Level) → ((d : ℕ) (c : Cut) → cut_of (slice_get ms d) ≡ Some c → cut_of (slice_get levels d) ≡ Some c) →
      LooseWhole segments events items loose ms
  right_levels ms sub = record { rise = right.rise; own = right.own; has = right.has; cuts = λ d c h. right.cuts d c (sub d c h) }

  pub right_popped : (k : ℕ) → LooseWhole segments events items loose (take k levels)
  right_popped k = right_levels (take k levels) (λ d c h.
      let l = level_there (slice_get (take k levels) d) c h in
      ap cut_of (taken_get k levels d l.0 l.1) ∙ sym (ap cut_of l.1) ∙ h)

  new_or_old : (l : Level) (d : ℕ) (c : Cut) → cut_of (slice_get (levels ++ (l ∷ [])) d) ≡ Some c →
      (cut_of (slice_get levels d) ≡ Some c) ⊎ (cut_of (Some l) ≡ Some c)
  new_or_old l d c h =
      ⊎_elim
      (λ before. inl (sym (ap cut_of (get_left levels (l ∷ []) d before)) ∙ h))
      (λ behind. ⊎_elim
      (λ past. not_none (cut_of (slice_get (levels ++ (l ∷ [])) d)) c _
      (ap cut_of (slice_get_past (levels ++ (l ∷ [])) d (let n = length_push levels l in omega (arith, n, past)))) h)
      (λ at. inr (sym (ap cut_of (ap (slice_get (levels ++ (l ∷ []))) at ∙ get_seam levels l)) ∙ h))
      (past_or_at d behind))
      (before_or_past d (length levels))
    where
      past_or_at : (d : ℕ) → length levels ≤ d → (length levels < d) ⊎ (d ≡ length levels)
      past_or_at d le = grind arith

  pub right_enter : (l : Level) → l.segments ≡ length segments → l.loose ≡ length loose → LooseWhole segments events items loose (levels ++ (l ∷ []))
  right_enter l first low = record {
    rise = right.rise;
    own = right.own;
    has = right.has;
    cuts = λ d c h.
        ⊎_elim (λ old. right.cuts d c old)
        (λ new. let e = same_Some _ c new in
        let a : l.segments ≡ c.segments = ap (λ (x : Cut). x.segments) e in
        let b : l.loose ≡ c.loose = ap (λ (x : Cut). x.loose) e in
        let p = looses_past c.segments (omega (arith, a, first)) in
        p ∙ sym low ∙ b)
        (new_or_old l d c h);
  }

  -- ---- only sets and bodies have changed
  pub right_by : (ts : List Segment) (fs : List Logged) → ((g : ℕ) → loose_of ts loose g ≡ loose_of segments loose g) →
      ((g : ℕ) → start_of ts fs g ≡ start_of segments events g) →
      ((g : ℕ) (f : Box Foot Global) → loose_foot_of (slice_get ts g) ≡ Some f →
      HasRange fs items loose (loose_of segments loose g) (loose_of segments loose (suc g)) f.value) → LooseWhole ts fs items loose levels
  right_by ts fs lows starts feet = record {
    rise = λ g. let a = lows g in let b = lows (suc g) in let r = right.rise g in omega (arith, a, b, r);
    own = λ g i k le less at.
        let a = lows g in
        let b = lows (suc g) in
        let p = starts g in
        let q = starts (suc g) in
        let o = right.own g i k (omega (arith, a, le)) (omega (arith, b, less)) at in
        (omega (arith, p, o.0), omega (arith, q, o.1));
    has = λ g f h i le less.
        let a = lows g in
        let b = lows (suc g) in
        feet g f h i (omega (arith, a, le)) (omega (arith, b, less));
    cuts = λ d c h. lows c.segments ∙ right.cuts d c h;
  }

  -- ---- an event that is logged
  module _ (large : List ℕ) (whole : Whole segments events items large levels) where
    -- what a listed event touched before items were added
    was_listed : (e : Logged) (added : List Item) (g i : ℕ) (j : Item) → loose_of segments loose g ≤ i → i < loose_of segments loose (suc g) →
        loose_has (events ++ (e ∷ [])) (items ++ added) loose i j ≡ true → loose_has events items loose i j ≡ true
    was_listed e added g i j le less h =
        let l = listed_by (events ++ (e ∷ [])) (items ++ added) loose i j h in
        let o = right.own g i l.0 le less l.2 in
        let t = starts_top segments events items large levels whole (suc g) in
        let there : slice_get events l.0 ≡ Some l.1 = sym (get_left events (e ∷ []) l.0 (omega (arith, o.1, t))) ∙ l.3 in
        let own = whole.kept.own g l.0 l.1 (omega arith) (o.0, o.1, there) in
        let m = items_top segments events items large levels whole (suc g) in
        listed_to events items loose i l.0 l.1 j l.2 there
        (event_sub items (items ++ added) l.1 j
        (λ p x under at. sym (get_left items added p (omega (arith, own.1, m, under))) ∙ at) l.4)

    pub right_logged : (ts : List Segment) (last : ℕ) (e : Logged) (added : List Item) → length ts ≡ suc last → last ≤ length segments →
        length segments ≤ suc last → ((g : ℕ) → g ≤ last → start_of ts (events ++ (e ∷ [])) g ≡ start_of segments events g) →
        ((g : ℕ) → g ≤ last → loose_of ts loose g ≡ loose_of segments loose g) →
        ((g : ℕ) (f : Box Foot Global) → loose_foot_of (slice_get ts g) ≡ Some f → loose_foot_of (slice_get segments g) ≡ Some f) →
        AllBelow levels last → LooseWhole ts (events ++ (e ∷ [])) (items ++ added) loose levels
    right_logged ts last e added count low high starts lows feet below =
        let ended : (g : ℕ) → last < g → loose_of ts loose g ≡ length loose =
        λ g more. ap (first_loose loose) (slice_get_past ts g (omega (arith, count, more))) in
        let was : (g : ℕ) → last < g → loose_of segments loose g ≡ length loose = λ g more. looses_past g (omega (arith, high, more)) in
        let same : (g : ℕ) → loose_of ts loose g ≡ loose_of segments loose g =
        λ g. ⊎_elim (λ more. ended g more ∙ sym (was g more)) (λ le. lows g le) (before_or_past last g) in
        record {
          rise = λ g. let a = same g in let b = same (suc g) in let r = right.rise g in omega (arith, a, b, r);
          own = λ g i k le less at.
              let a = same g in
              let b = same (suc g) in
              let o = right.own g i k (omega (arith, a, le)) (omega (arith, b, less)) at in
              ⊎_elim
              (λ more. absurd (let p = ended g more in let v = slice_get_within loose i k at in omega (arith, p, v, le)))
              (λ under. let p = starts g under in (
                omega (arith, p, o.0),
                ⊎_elim
                    (λ past.
                    let q = starts_past ts (events ++ (e ∷ [])) (suc g) (omega (arith, count, past)) in
                    let n = length_push events e in
                    let t = starts_top segments events items large levels whole (suc g) in
                    omega (arith, q, n, t, o.1))
                    (λ next. let q = starts (suc g) next in omega (arith, q, o.1))
                    (before_or_past last (suc g)),
              ))
              (before_or_past last g);
          has = λ g f h i le less j has.
              let a = same g in
              let b = same (suc g) in
              right.has g f (feet g f h) i (omega (arith, a, le)) (omega (arith, b, less)) j
              (was_listed e added g i j (omega (arith, a, le)) (omega (arith, b, less)) has);
          cuts = λ d c h. lows c.segments (below d c h) ∙ right.cuts d c h;
        }

    -- ---- an event that is listed
    pub right_listed : (ts : List Segment) (last : ℕ) → length segments ≡ suc last →
        ((g : ℕ) → loose_start_of (slice_get ts g) ≡ loose_start_of (slice_get segments g)) →
        ((g : ℕ) → start_of ts events g ≡ start_of segments events g) →
        ((g : ℕ) → g < last → slice_get ts g ≡ slice_get segments g) →
        HasEvent (loose_foot_of (slice_get segments last)) (loose_foot_of (slice_get ts last)) (event_has items (slice_get events (length events - 1))) →
        AllBelow levels last → LooseWhole ts events items (loose ++ ((length events - 1) ∷ [])) levels
    right_listed ts last n lows starts others set below =
        let at = length events - 1 in
        let ms = loose ++ (at ∷ []) in
        let size = length_push loose at in
        let old : (g : ℕ) → g ≤ last → loose_of ts ms g ≡ loose_of segments loose g =
        λ g le. let s = inside segments events items large levels whole g (omega (arith, n, le)) in
        start_some loose ms (slice_get segments g) (slice_get ts g) s.0 s.1 (lows g) in
        let ended : (g : ℕ) → last < g → loose_of ts ms g ≡ length loose + 1 =
        λ g more. start_by ms (slice_get segments g) (slice_get ts g) (lows g) ∙
        ap (first_loose ms) (slice_get_past segments g (omega (arith, n, more))) ∙ size in
        let filled = whole.filled last (omega (arith, n)) in
        let top = starts_top segments events items large levels whole (suc last) in
        record {
          rise = λ g.
              ⊎_elim
              (λ more. let a = ended (suc g) more in
              ⊎_elim (λ past. let b = ended g past in omega (arith, a, b))
              (λ le. let b = old g le in let t = looses_top g in omega (arith, a, b, t)) (before_or_past last g))
              (λ le. let a = old g (omega (arith, le)) in let b = old (suc g) le in let r = right.rise g in omega (arith, a, b, r))
              (before_or_past last (suc g));
          own = λ g i k le less there.
              let p = starts g in
              let q = starts (suc g) in
              ⊎_elim
              (λ past. absurd (let a = ended g past in let v = slice_get_within ms i k there in omega (arith, a, v, le, size)))
              (λ under. let a = old g under in
              ⊎_elim
              (λ before.
              let was : slice_get loose i ≡ Some k = sym (get_left loose (at ∷ []) i before) ∙ there in
              let b : i < loose_of segments loose (suc g) =
              ⊎_elim (λ more. let c = looses_past (suc g) (omega (arith, n, more)) in omega (arith, c, before))
              (λ next. let c = old (suc g) next in omega (arith, c, less)) (before_or_past last (suc g)) in
              let o = right.own g i k (omega (arith, a, le)) b was in
              (omega (arith, p, o.0), omega (arith, q, o.1)))
              (λ new.
              let v = slice_get_within ms i k there in
              let i_is : i ≡ length loose = omega (arith, new, v, size) in
              let k_is : k ≡ at = same_Some k at (sym there ∙ ap (slice_get ms) i_is ∙ get_seam loose at) in
              let g_is : g ≡ last =
              ⊎_elim (λ more. omega (arith, more, under))
              (λ next. absurd (let c = old (suc g) next in let t = looses_top (suc g) in omega (arith, c, t, less, new)))
              (before_or_past last (suc g)) in
              let s = ap (start_of segments events) g_is in
              let u = ap (λ x. start_of segments events (suc x)) g_is in
              let w = starts_past segments events (suc last) (omega (arith, n)) in
              (omega (arith, p, s, k_is, filled, top), omega (arith, q, u, w, k_is, filled, top)))
              (before_or_past i (length loose)))
              (before_or_past last g);
          has = λ g f h i le less j has.
              ⊎_elim
              (λ under.
              let same = others g under in
              let a = old g (omega (arith, under)) in
              let b = old (suc g) (omega (arith, under)) in
              let t = looses_top (suc g) in
              right.has g f (sym (ap loose_foot_of same) ∙ h) i (omega (arith, a, le)) (omega (arith, b, less)) j
              (loose_at events items loose ms i j (get_left loose (at ∷ []) i (omega (arith, b, t, less))) has))
              (λ more.
              let s = foot_there (slice_get ts g) f h in
              let w = slice_get_within ts g s.0 s.1 in
              let there : g < length segments =
              ⊎_elim (λ in_it. in_it) (λ past. not_none (loose_start_of (slice_get ts g)) (s.0).loose _
              (lows g ∙ ap loose_start_of (slice_get_past segments g past)) (ap loose_start_of s.1)) (before_or_past g (length segments)) in
              let g_is : g ≡ last = omega (arith, there, n, more) in
              let r = set f (ap (λ x. loose_foot_of (slice_get ts x)) (sym g_is) ∙ h) in
              let a = old g (omega (arith, g_is)) in
              ⊎_elim
              (λ before.
              let c = looses_past (suc g) (omega (arith, n, g_is)) in
              r.2 j (right.has g r.0 (ap (λ x. loose_foot_of (slice_get segments x)) g_is ∙ r.1) i (omega (arith, a, le)) (omega (arith, c, before)) j
              (loose_at events items loose ms i j (get_left loose (at ∷ []) i before) has)))
              (λ new.
              let l = listed_by events items ms i j has in
              let v = slice_get_within ms i l.0 l.2 in
              let i_is : i ≡ length loose = omega (arith, new, v, size) in
              let k_is : l.0 ≡ at = same_Some l.0 at (sym l.2 ∙ ap (slice_get ms) i_is ∙ get_seam loose at) in
              r.3 j (ap (λ o. event_has items o j) (ap (slice_get events) (sym k_is) ∙ l.3) ∙ l.4))
              (before_or_past i (length loose)))
              (before_or_past g last);
          cuts = λ d c h. old c.segments (below d c h) ∙ right.cuts d c h;
        }

    -- ---- the lists end where a full expression began
    pub right_cut : (c : Cut) (m : ℕ) → cut_of (slice_get levels m) ≡ Some c → AllBelow levels c.segments →
        LooseWhole (take c.segments segments) (take c.events events) (take c.items items) (take c.loose loose) levels
    right_cut c m top above =
        let ts = take c.segments segments in
        let ms = take c.loose loose in
        let within = (whole.cuts m c top).0 in
        let count : length ts ≡ c.segments = take_part c.segments segments within in
        let t = looses_top c.segments in
        let e = right.cuts m c top in
        let size : length ms ≡ c.loose = take_part c.loose loose (omega (arith, t, e)) in
        let ended : (g : ℕ) → c.segments ≤ g → loose_of ts ms g ≡ c.loose =
        λ g past. ap (first_loose ms) (slice_get_past ts g (omega (arith, count, past))) ∙ size in
        let old : (g : ℕ) → g ≤ c.segments → loose_of ts ms g ≡ loose_of segments loose g =
        λ g le. ⊎_elim
        (λ less. let s = inside segments events items large levels whole g (omega (arith, less, within)) in
        start_some loose ms (slice_get segments g) (slice_get ts g) s.0 s.1 (ap loose_start_of (get_take c.segments segments g less)))
        (λ at. ended g (omega (arith, at)) ∙ sym e ∙ ap (loose_of segments loose) (sym at))
        (below_or_at g c.segments (omega (arith, le))) in
        let starts = cut_start segments events items large levels whole c m top above in
        record {
          rise = λ g.
              ⊎_elim
              (λ less. let a = old g (omega (arith, less)) in let b = old (suc g) (omega (arith, less)) in let r = right.rise g in omega (arith, a, b, r))
              (λ past. let a = ended g past in let b = ended (suc g) (omega (arith, past)) in omega (arith, a, b))
              (before_or_past g c.segments);
          own = λ g i k le less at.
              ⊎_elim
              (λ under.
              let a = old g (omega (arith, under)) in
              let b = old (suc g) (omega (arith, under)) in
              let p = starts g (omega (arith, under)) in
              let q = starts (suc g) (omega (arith, under)) in
              let o = right.own g i k (omega (arith, a, le)) (omega (arith, b, less)) (taken_get c.loose loose i k at) in
              (omega (arith, p, o.0), omega (arith, q, o.1)))
              (λ past. absurd (let a = ended g past in let v = slice_get_within ms i k at in omega (arith, a, v, le, size)))
              (before_or_past g c.segments);
          has = λ g f h i le less j has.
              let s = foot_there (slice_get ts g) f h in
              let w = slice_get_within ts g s.0 s.1 in
              let under : g < c.segments = omega (arith, w, count) in
              let a = old g (omega (arith, under)) in
              let b = old (suc g) (omega (arith, under)) in
              let l = listed_by (take c.events events) (take c.items items) ms i j has in
              right.has g f (sym (ap loose_foot_of (get_take c.segments segments g under)) ∙ h) i (omega (arith, a, le)) (omega (arith, b, less)) j
              (listed_to events items loose i l.0 l.1 j (taken_get c.loose loose i l.0 l.2) (taken_get c.events events l.0 l.1 l.3)
              (event_sub items (take c.items items) l.1 j (λ p x below at. taken_get c.items items p x at) l.4));
          cuts = λ d b h. old b.segments (above d b h) ∙ right.cuts d b h;
        }

  -- ---- operands that are made one
  locate_loose : (n g i : ℕ) → i < length loose → length segments ≤ g + n → loose_of segments loose g ≤ i →
      (h : ℕ) × (g ≤ h) × (loose_of segments loose h ≤ i) × (i < loose_of segments loose (suc h))
  locate_loose zero g i less past low = absurd (let e = looses_past g (omega (arith, past)) in omega (arith, e, low, less))
  locate_loose (suc n) g i less past low =
      ⊎_elim (λ before. (g, omega arith, low, before))
      (λ behind. let r = locate_loose n (suc g) i less (omega (arith, past)) behind in (r.0, omega (arith, r.1), r.2, r.3))
      (before_or_past i (loose_of segments loose (suc g)))

  pub right_joined : (ts : List Segment) (ms : List ℕ) (at : ℕ) → at < length segments → AreSorted segments events 0 → length ts ≡ suc at →
      ((g : ℕ) → g ≤ at → start_of ts events g ≡ start_of segments events g) →
      ((g : ℕ) → g ≤ at → loose_start_of (slice_get ts g) ≡ loose_start_of (slice_get segments g)) →
      ((g : ℕ) → g < at → loose_foot_of (slice_get ts g) ≡ loose_foot_of (slice_get segments g)) →
      Thins (loose_of segments loose at) loose ms →
      ((f : Box Foot Global) → loose_foot_of (slice_get ts at) ≡ Some f → (ms ≡ loose) × HasRange events items loose (loose_of segments loose at)
      (length loose) f.value) →
      AllBelow levels at → LooseWhole ts events items ms levels
  right_joined ts ms at within sorted count starts lows feet thin set below =
      let old : (g : ℕ) → g ≤ at → loose_of ts ms g ≡ loose_of segments loose g =
      λ g le. ⊎_elim (λ one. start_some loose ms (slice_get segments g) (slice_get ts g) one.0 one.2 (lows g le))
      (λ past. absurd (let e = past.0 in omega (arith, e, le, within)))
      (slice_get_cases segments g).1 in
      let ended : (g : ℕ) → at < g → loose_of ts ms g ≡ length ms =
      λ g more. ap (first_loose ms) (slice_get_past ts g (omega (arith, count, more))) in
      let reach = thin.reach (looses_top at) in
      record {
        rise = λ g.
            ⊎_elim
            (λ more. let b = ended (suc g) more in
            ⊎_elim (λ past. let a = ended g past in omega (arith, a, b))
            (λ le. let a = old g le in let r = looses_rise g at le in omega (arith, a, b, r, reach)) (before_or_past at g))
            (λ le. let a = old g (omega (arith, le)) in let b = old (suc g) le in let r = right.rise g in omega (arith, a, b, r))
            (before_or_past at (suc g));
        own = λ g i k le less there.
            ⊎_elim
            (λ under.
            let a = old g (omega (arith, under)) in
            let b = old (suc g) (omega (arith, under)) in
            let p = starts g (omega (arith, under)) in
            let q = starts (suc g) (omega (arith, under)) in
            let r = looses_rise (suc g) at (omega (arith, under)) in
            let o = right.own g i k (omega (arith, a, le)) (omega (arith, b, less)) (sym (thin.before i (omega (arith, b, r, less))) ∙ there) in
            (omega (arith, p, o.0), omega (arith, q, o.1)))
            (λ more.
            let v = slice_get_within ms i k there in
            let g_is : g ≡ at = ⊎_elim (λ past. absurd (let a = ended g past in omega (arith, a, v, le))) (λ up. omega (arith, up, more)) (before_or_past at g)
            in
            let a = old g (omega (arith, g_is)) in
            let s = ap (loose_of segments loose) g_is in
            let o = thin.behind i k (omega (arith, a, s, le)) there in
            let w = slice_get_within loose o.0 k o.2 in
            let h = locate_loose (length segments) at o.0 w (omega arith) o.1 in
            let own = right.own h.0 o.0 k h.2 h.3 o.2 in
            let p = starts g (omega (arith, g_is)) in
            let u = ap (start_of segments events) g_is in
            let q = starts_past ts events (suc g) (omega (arith, count, g_is)) in
            let r = rises_to (start_of segments events) 0 at h.0 (λ x y. (sorted x y).0) (omega arith) h.1 in
            let t = (sorted (suc h.0) (omega arith)).1 in
            (omega (arith, p, u, r, own.0), omega (arith, q, t, own.1)))
            (before_or_past g at);
        has = λ g f h i le less j has.
            ⊎_elim
            (λ under.
            let a = old g (omega (arith, under)) in
            let b = old (suc g) (omega (arith, under)) in
            let r = looses_rise (suc g) at (omega (arith, under)) in
            right.has g f (sym (feet g under) ∙ h) i (omega (arith, a, le)) (omega (arith, b, less)) j
            (loose_at events items loose ms i j (thin.before i (omega (arith, b, r, less))) has))
            (λ more.
            let s = foot_there (slice_get ts g) f h in
            let w = slice_get_within ts g s.0 s.1 in
            let g_is : g ≡ at = omega (arith, w, count, more) in
            let r = set f (ap (λ x. loose_foot_of (slice_get ts x)) (sym g_is) ∙ h) in
            let a = old g (omega (arith, g_is)) in
            let u = ap (loose_of segments loose) g_is in
            let b = ended (suc g) (omega (arith, g_is)) in
            let n = ap length r.0 in
            r.1 i (omega (arith, a, u, le)) (omega (arith, b, n, less)) j (loose_at events items loose ms i j (ap (λ (x : List ℕ). slice_get x i) r.0) has))
            (before_or_past g at);
        cuts = λ d c h. old c.segments (below d c h) ∙ right.cuts d c h;
      }

  -- the set of the segments from one on, where the first or the last of them has them all
  pub last_set : (at : ℕ) (f : Box Foot Global) → loose_of segments loose (length segments - 1) ≡ loose_of segments loose at →
      loose_foot_of (slice_get segments (length segments - 1)) ≡ Some f → HasRange events items loose (loose_of segments loose at) (length loose) f.value
  last_set at f same set i le less j has =
      let s = foot_there (slice_get segments (length segments - 1)) f set in
      let w = slice_get_within segments (length segments - 1) s.0 s.1 in
      let p = looses_past (suc (length segments - 1)) (omega (arith, w)) in
      right.has (length segments - 1) f set i (omega (arith, same, le)) (omega (arith, p, less)) j has

  pub first_set : (at : ℕ) (f : Box Foot Global) → loose_of segments loose (suc at) ≡ length loose → loose_foot_of (slice_get segments at) ≡ Some f →
      HasRange events items loose (loose_of segments loose at) (length loose) f.value
  first_set at f same set i le less j has = right.has at f set i le (omega (arith, same, less)) j has

pub right_moved : (ss ts : List Segment) (es fs : List Logged) (is js : List Item) (gs hs : List ℕ) (ls ms : List Level) → ts ≡ ss → fs ≡ es → js ≡ is →
    hs ≡ gs → ms ≡ ls → LooseWhole ss es is gs ls → LooseWhole ts fs js hs ms
right_moved ss ts es fs is js gs hs ls ms a b c d e w =
    subst (λ (x : List Segment). LooseWhole x fs js hs ms) (sym a)
    (subst (λ (x : List Logged). LooseWhole ss x js hs ms) (sym b)
    (subst (λ (x : List Item). LooseWhole ss es x hs ms) (sym c)
    (subst (λ (x : List ℕ). LooseWhole ss es is x ms) (sym d) (subst (λ (x : List Level). LooseWhole ss es is gs x) (sym e) w))))

pub thin_after : (first : ℕ) (xs ys zs : List ℕ) → Thins first xs ys → Thins first ys zs → Thins first xs zs
thin_after first xs ys zs one two = record {
  before = λ i less. two.before i less ∙ one.before i less;
  behind = λ i k le at. let p = two.behind i k le at in one.behind p.0 k p.1 p.2;
  reach = λ le. two.reach (one.reach le);
}

pub thin_take : (first : ℕ) (xs : List ℕ) → Thins first xs (take first xs)
thin_take first xs = record {
  before = λ i less. get_take first xs i less;
  behind = λ i k le at. absurd (
      let w = slice_get_within (take first xs) i k at in
      let e = length-take first xs in
      omega (arith, w, e, le));
  reach = λ le. let e = take_part first xs le in omega (arith, e);
}

pub some_at : {X : Type 0} (P : X → Type 0) (o : Option X) (x : X) → o ≡ Some x → IfSome o P → P x
some_at P o x e h = subst (λ (p : Option _). IfSome p P) e h

pub if_some_by : {X : Type 0} (P : X → Type 0) (o : Option X) → ((x : X) → o ≡ Some x → P x) → IfSome o P
if_some_by P None h = tt
if_some_by P (Some x) h = h x refl

-- a set with what an event touched
pub event_in : (o : Option (Box Foot Global)) (b n : Box Foot Global) (has : Item → Bool) → o ≡ Some b →
    ((j : Item) → holds n.value j ≡ (holds b.value j || has j)) → HasEvent o (Some n) has
event_in o b n has old is f e =
    let s = same_Some n f e in (
      b,
      old,
      λ j h. ap (λ (x : Box Foot Global). holds x.value j) (sym s) ∙ is j ∙ or_left (holds b.value j) (has j) h,
      λ j h. ap (λ (x : Box Foot Global). holds x.value j) (sym s) ∙ is j ∙ or_right (holds b.value j) (has j) h,
    )
