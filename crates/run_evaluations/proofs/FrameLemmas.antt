-- What was told is followed, as frames and full expressions begin and end.
use Rattle.std.proofs.Common.{◌≡◌, ◌≢◌, ◌⊎◌, inl, inr, ⊎_elim, ℕ, zero, suc, ◌≤◌, ◌<◌, ◌+◌, ◌-◌, ◌==◌, Bool, true, false, ◌||◌, List, [], ◌∷◌, ◌++◌, length}
use Rattle.std.proofs.Common.{take}
use Rattle.std.proofs.Common.{refl, sym, ap, ◌∙◌, arith, Option, Some, None, subst, length-append, length-take}
use Rattle.std.specs.Prelude.{slice_get}
use Rattle.std.proofs.lemmas.Bool.Decides.{nat_tests}
use Rattle.std.proofs.lemmas.List.{length_push}
use Rattle.std.proofs.lemmas.Option.{slice_get_cases, slice_get_past, slice_get_within, same_Some}
use Rattle.ub_base.proofs.Tests.{if_true, if_false}
use Rattle.ub_base.specs.declared.names.Frame.{Frame}
use Rattle.ub_base.specs.declared.names.Item.{Item}
use Rattle.evaluation_log.specs.declared.log.Logged.{Logged}
use Rattle.evaluation_log.specs.declared.log.Segment.{Segment}
use Rattle.evaluation_log.specs.declared.level.Level.{Level}
use Rattle.evaluation_log.specs.Touched.{first_event, start_of}
use Rattle.evaluation_log.specs.Kept.{Cut, cut_of, base_of, first_segment, items_of, Whole}
use Rattle.evaluation_log.specs.Loose.{first_loose, loose_of, loose_start_of, LooseWhole}
use Rattle.evaluation_log.specs.Ways.{node_of}
use Rattle.evaluation_log.proofs.BetweenLemmas.{rises_to}
use Rattle.evaluation_log.proofs.KeptLemmas.{before_or_past}
use Rattle.evaluation_log.proofs.LooseWholeLemmas.{looses_past, right_moved}
use Rattle.evaluation_log.proofs.WholeLemmas.{get_left, get_right, get_seam, get_take, take_part, cut_start, items_top, starts_past, starts_rise, starts_top}
use Rattle.evaluation_log.proofs.WholeLemmas.{whole_moved}
use Rattle.run_evaluations.specs.declared.open.Evaluations.{Evaluations}
use Rattle.run_evaluations.specs.Ends.{begin_of, events_from}
use Rattle.run_evaluations.specs.Kept.{IsKept, IsSameRest, IsSameOpen}
use Rattle.run_evaluations.specs.Listed.{IsOpenIn, ListedIn, AnyEvent}
use Rattle.run_evaluations.specs.Loose.{IsLooseKept}
use Rattle.run_evaluations.specs.Told.{Evaluation, Opened, begun, entered, no_parts, no_scope, settled}
use Rattle.run_evaluations.specs.Scopes.{Scope}
use Rattle.run_evaluations.specs.Follows.{all_done, scopes_of, seen, name_of, IsFrame, AreFrames, Holds, AreAll, Follows, FollowsBelow}
use Rattle.run_evaluations.specs.Follows.{AreNamed, IsNamed, IsSameBefore, IsTurned}
use Rattle.run_evaluations.specs.Ways.{IsSameUnder}
use Rattle.run_evaluations.proofs.FollowLemmas.{scope_below, below_open, open_base, top_open, SameFrames, SameBelow, frames_below, holds_below}
use Rattle.run_evaluations.proofs.FullLemmas.{looses_up}
use Rattle.run_evaluations.proofs.ListedLemmas.{level_within, node_within, top_cut, cut_there, locate}
use Rattle.run_evaluations.proofs.PartLemmas.{by_test}
use Rattle.run_evaluations.proofs.ToldLemmas.{named_cut, seen_some, starts_at}

-- ---- lists
pub with_none : (xs : List Evaluation) → xs ++ [] ≡ xs
with_none [] = refl
with_none (x ∷ xs) = ap (λ ys. x ∷ ys) (with_none xs)

none_named : (o : Option Level) → name_of o ≡ None → o ≡ None
none_named None h = refl
none_named (Some l) h = absurd (cc)

pub length_named : (xs ys : List Level) → ((d : ℕ) → name_of (slice_get ys d) ≡ name_of (slice_get xs d)) → length ys ≡ length xs
length_named [] [] h = refl
length_named [] (y ∷ ys) h = absurd (let e = h 0 in cc)
length_named (x ∷ xs) [] h = absurd (let e = h 0 in cc)
length_named (x ∷ xs) (y ∷ ys) h = let e = length_named xs ys (λ d. h (suc d)) in omega (arith, e)

-- ---- the frames below the one on top
pub holds_tail : (a : Evaluations) (t : Opened) (ts : List Opened) → Holds (t ∷ ts) a AnyEvent → Holds ts a AnyEvent
holds_tail a t ts h = record {
  kept = h.kept;
  loose = h.loose;
  events = λ k less. h.events k (let n = length-append (all_done ts) t.done in omega (arith, n, less)) ∙ get_left (all_done ts) t.done k less;
  full = λ d less. subst (λ s. ListedIn a.segments.items a.events.items a.loose.items a.levels.items d s AnyEvent) (scope_below t ts d less)
      (h.full d (omega (arith, less)));
  frames = h.frames.1;
}

-- ---- a frame on top of which nothing is done
pub holds_fresh : (b : Evaluations) (t : Opened) (ts : List Opened) → Holds ts b AnyEvent → t.done ≡ [] →
    name_of (slice_get b.levels.items (length ts)) ≡ Some (t.frame, t.turn) →
    ((c : Cut) → cut_of (slice_get b.levels.items (length ts)) ≡ Some c → c.events ≡ length (all_done ts)) →
    ((g m : ℕ) → IsOpenIn b.levels.items (length ts) g → node_of (slice_get b.segments.items g) ≡ Some m → ⊥) → Holds (t ∷ ts) b AnyEvent
holds_fresh b t ts h bare named begins empty = record {
  kept = h.kept;
  loose = h.loose;
  events = λ k less.
      let e : all_done ts ++ t.done ≡ all_done ts = ap (λ xs. all_done ts ++ xs) bare ∙ with_none (all_done ts) in
      let n = ap length e in
      h.events k (omega (arith, n, less)) ∙ ap (λ xs. slice_get xs k) (sym e);
  full = λ d less g k m u opens at from to there. by_test (d == length ts)
      (λ same. absurd (empty g m (subst (λ x. IsOpenIn b.levels.items x g) (number_same d (length ts) same) opens) at))
      (λ other. subst (λ s. ListedIn b.segments.items b.events.items b.loose.items b.levels.items d s AnyEvent) (sym (if_false _ _ _ other))
      (h.full d (number_less d (length ts) other less)) g k m u opens at from to there);
  frames = (
    record {
      named = named;
      begins = begins;
      parts = λ g m o x. absurd (empty g m o x);
      beside = λ g i m n o p less x y. absurd (empty g m o x);
    },
    h.frames,
  );
}
  where
    number_same : (x y : ℕ) → (x == y) ≡ true → x ≡ y
    number_same x y e = grind (arith, nat_tests)

    number_less : (x y : ℕ) → (x == y) ≡ false → x < suc y → x < y
    number_less x y e less = grind (arith, nat_tests)

-- ---- where what is done in the frame on top begins
module _ (a : Evaluations) (w : IsKept a) (top : ℕ) (n : length a.levels.items ≡ suc top) where
  pub top_there : (c : Cut) × (cut_of (slice_get a.levels.items top) ≡ Some c)
  top_there =
      ⊎_elim (λ one. cut_there (slice_get a.levels.items top) one.0 one.2) (λ past. absurd (let p = past.0 in omega (arith, p, n)))
      (slice_get_cases a.levels.items top).1

  pub base_cut : top_there.0.segments ≡ base_of a.levels.items
  base_cut =
      let at : top ≡ length a.levels.items - 1 = omega (arith, n) in
      sym (top_cut (slice_get a.levels.items top) top_there.0 top_there.1) ∙ ap (λ x. first_segment (slice_get a.levels.items x)) at

  pub start_base : start_of a.segments.items a.events.items (base_of a.levels.items) ≡ top_there.0.events
  start_base = ap (start_of a.segments.items a.events.items) (sym base_cut) ∙ (w.cuts top top_there.0 top_there.1).1

  pub base_low : base_of a.levels.items ≤ length a.segments.items
  base_low = let e = base_cut in let c = (w.cuts top top_there.0 top_there.1).0 in omega (arith, e, c)

  -- no segment is of the frame on top, where nothing is done in it
  pub none_open : length a.events.items ≤ top_there.0.events → length a.segments.items ≤ base_of a.levels.items
  none_open few =
      ⊎_elim
      (λ less. absurd (
      let f = w.filled (base_of a.levels.items) less in
      let s = start_base in
      let t = starts_top a.segments.items a.events.items a.items.items a.large.items a.levels.items w (suc (base_of a.levels.items)) in
      omega (arith, f, s, t, few)))
      (λ past. past)
      (before_or_past (base_of a.levels.items) (length a.segments.items))

-- ---- a frame that begins
module _ (a b : Evaluations) (l : Level) (segments : b.segments.items ≡ a.segments.items) (events : b.events.items ≡ a.events.items)
    (items : b.items.items ≡ a.items.items) (loose : b.loose.items ≡ a.loose.items) (levels : b.levels.items ≡ a.levels.items ++ (l ∷ []))
    (first : l.segments ≡ length a.segments.items) (first_event : l.events ≡ length a.events.items) where
  pushed_open : (d g : ℕ) → d < length a.levels.items → IsOpenIn (a.levels.items ++ (l ∷ [])) d g → IsOpenIn a.levels.items d g
  pushed_open d g less o = record {
    cut = o.cut;
    there = sym (ap cut_of (get_left a.levels.items (l ∷ []) d less)) ∙ o.there;
    low = o.low;
    high = λ n c more h. o.high n c more (ap cut_of (get_left a.levels.items (l ∷ []) n (level_within a.levels.items n c h)) ∙ h);
  }

  old_open : (d g : ℕ) → d < length a.levels.items → IsOpenIn b.levels.items d g → IsOpenIn a.levels.items d g
  old_open d g less o = pushed_open d g less (subst (λ ls. IsOpenIn ls d g) levels o)

  level_old : (d : ℕ) → d < length a.levels.items → slice_get b.levels.items d ≡ slice_get a.levels.items d
  level_old d less = ap (λ ls. slice_get ls d) levels ∙ get_left a.levels.items (l ∷ []) d less

  level_new : slice_get b.levels.items (length a.levels.items) ≡ Some l
  level_new = ap (λ ls. slice_get ls (length a.levels.items)) levels ∙ get_seam a.levels.items l

  entered_same : IsKept a → IsLooseKept a → (top : ℕ) → length a.levels.items ≡ top → SameBelow a b top (length a.segments.items)
  entered_same w r top n = record {
    frames = record {
      names = λ d less. ap name_of (level_old d (omega (arith, less, n)));
      cuts = λ d less. ap cut_of (level_old d (omega (arith, less, n)));
      opens = λ d g m less o h. (
        old_open d g (omega (arith, less, n)) o,
        node_within a.segments.items g m (ap (λ xs. node_of (slice_get xs g)) (sym segments) ∙ h),
      );
      nodes = λ g less. ap (λ xs. node_of (slice_get xs g)) segments;
    };
    starts = λ g le. (λ i. start_of (segments i) (events i) g);
    rise = λ g le. starts_rise a.segments.items a.events.items a.items.items a.large.items a.levels.items w g (length a.segments.items) le;
    lows = λ g le. (λ i. loose_of (segments i) (loose i) g);
    lifts = λ g le. looses_up a r g (length a.segments.items) le;
    loose = λ i less. ap (λ xs. slice_get xs i) loose;
    events = λ k less. (λ i. seen (items i) (slice_get (events i) k));
  }

  pub follow_entered : (frame : Frame) (os : List Opened) → l.frame ≡ frame → l.turn ≡ 0 → IsKept b → IsLooseKept b → Follows os a →
      Follows (entered frame ∷ os) b
  follow_entered frame os name turn kept loose_kept f =
      let n = f.all.count in
      let e = f.all.events in
      let at : slice_get b.levels.items (length os) ≡ Some l = ap (slice_get b.levels.items) (sym n) ∙ level_new in
      let past = starts_past a.segments.items a.events.items (length a.segments.items) (omega arith) in
      let size = length_push a.levels.items l in
      record {
        holds = holds_fresh b (entered frame) os
            (holds_below a b (length os) (length a.segments.items) (entered_same f.holds.kept f.holds.loose (length os) n) os (omega arith)
            (omega (arith, past, e)) kept loose_kept f.holds)
            refl
            (ap name_of at ∙ (λ i. Some (name i, turn i)))
            (λ c h. let q = same_Some _ _ (sym (ap cut_of at) ∙ h) in ap (λ (x : Cut). x.events) (sym q) ∙ first_event ∙ e)
            (λ g m o h.
            let q = same_Some _ _ (sym (ap cut_of at) ∙ o.there) in
            let c = ap (λ (x : Cut). x.segments) q in
            let w = node_within a.segments.items g m (ap (λ xs. node_of (slice_get xs g)) (sym segments) ∙ h) in
            let low = o.low in
            omega (arith, c, first, w, low));
        all = record {
          count = ap length levels ∙ omega (arith, size, n);
          events = ap length events ∙ e ∙ ap length (sym (with_none (all_done os)));
        };
      }

-- ---- nothing has changed but what frames touched, and a turn
module _ (a b : Evaluations) (same : IsSameOpen a b) where
  cuts_open : (d g : ℕ) → IsOpenIn b.levels.items d g → IsOpenIn a.levels.items d g
  cuts_open d g o = record {
    cut = o.cut;
    there = sym (same.cuts d) ∙ o.there;
    low = o.low;
    high = λ n c more h. o.high n c more (same.cuts n ∙ h);
  }

  pub same_open : IsKept a → IsLooseKept a → (top : ℕ) →
      ((d : ℕ) → d < top → name_of (slice_get b.levels.items d) ≡ name_of (slice_get a.levels.items d)) → SameBelow a b top (length a.segments.items)
  same_open w r top names = record {
    frames = record {
      names = names;
      cuts = λ d less. same.cuts d;
      opens = λ d g m less o h. (cuts_open d g o, node_within a.segments.items g m (ap (λ xs. node_of (slice_get xs g)) (sym same.segments) ∙ h));
      nodes = λ g less. ap (λ xs. node_of (slice_get xs g)) same.segments;
    };
    starts = λ g le. (λ i. start_of (same.segments i) (same.events i) g);
    rise = λ g le. starts_rise a.segments.items a.events.items a.items.items a.large.items a.levels.items w g (length a.segments.items) le;
    lows = λ g le. (λ i. loose_of (same.segments i) (same.loose i) g);
    lifts = λ g le. looses_up a r g (length a.segments.items) le;
    loose = λ i less. ap (λ xs. slice_get xs i) same.loose;
    events = λ k less. (λ i. seen (same.items i) (slice_get (same.events i) k));
  }

  pub follow_touched : AreNamed a b → (os : List Opened) → IsKept b → IsLooseKept b → Follows os a → Follows os b
  follow_touched names os kept loose f =
      let past = starts_past a.segments.items a.events.items (length a.segments.items) (omega arith) in
      let e = f.all.events in
      record {
        holds = holds_below a b (length os) (length a.segments.items) (same_open f.holds.kept f.holds.loose (length os) (λ d less. names d)) os (omega arith)
            (omega (arith, past, e)) kept loose f.holds;
        all = record { count = length_named a.levels.items b.levels.items names ∙ f.all.count; events = ap length same.events ∙ e };
      }

  pub follow_begun : (turn : ℕ) → IsTurned a b turn → (t : Opened) (ts : List Opened) (s : Scope) → IsKept b → IsLooseKept b → Follows (t ∷ ts) a →
      t.done ≡ [] → Follows (begun turn s t ∷ ts) b
  follow_begun turn named t ts s kept loose f bare =
      let n = f.all.count in
      let past = starts_past a.segments.items a.events.items (length a.segments.items) (omega arith) in
      let done : all_done ts ++ t.done ≡ all_done ts = ap (λ xs. all_done ts ++ xs) bare ∙ with_none (all_done ts) in
      let size = ap length done in
      let e = f.all.events in
      let top = top_there a f.holds.kept (length ts) n in
      let from = f.holds.frames.0.begins top.0 top.1 in
      let empty = none_open a f.holds.kept (length ts) n (omega (arith, from, size, e)) in
      let at : length a.levels.items - 1 ≡ length ts = omega (arith, n) in
      record {
        holds = holds_fresh b (begun turn s t) ts
            (holds_below a b (length ts) (length a.segments.items)
            (same_open f.holds.kept f.holds.loose (length ts) (λ d less. named.others d (omega (arith, less, n)))) ts
            (omega arith) (omega (arith, past, e, size)) kept loose (holds_tail a t ts f.holds))
            refl
            (ap (λ x. name_of (slice_get b.levels.items x)) (sym at)
            ∙ named.top t (ap (λ x. name_of (slice_get a.levels.items x)) at ∙ f.holds.frames.0.named))
            (λ c h. f.holds.frames.0.begins c (sym (same.cuts (length ts)) ∙ h))
            (λ g m o h.
            let w = node_within a.segments.items g m (ap (λ xs. node_of (slice_get xs g)) (sym same.segments) ∙ h) in
            let low = open_base a.levels.items (length ts) g n (cuts_open (length ts) g o) in
            omega (arith, w, low, empty));
        all = record {
          count = named.count ∙ n;
          events = ap length same.events ∙ (e ∙ (size ∙ ap length (sym (with_none (all_done ts)))));
        };
      }

-- ---- below the frame on top
pub below_all : (a : Evaluations) (t : Opened) (ts : List Opened) → Follows (t ∷ ts) a → FollowsBelow ts a
below_all a t ts f = record { holds = holds_tail a t ts f.holds; count = f.all.count; begins = f.holds.frames.0.begins }

pub named_all : (a : Evaluations) (t : Opened) (ts : List Opened) → Follows (t ∷ ts) a → IsNamed a t
named_all a t ts f =
    let n = f.all.count in
    ap (λ x. name_of (slice_get a.levels.items x)) (omega (arith, n)) ∙ f.holds.frames.0.named

-- the frame on top has a name
pub some_named : (a : Evaluations) (ts : List Opened) → FollowsBelow ts a → (t : Opened) × IsNamed a t
some_named a ts f =
    let n = f.count in
    ⊎_elim
    (λ one. (
      record { frame = one.0.frame; turn = one.0.turn; scope = no_scope; done = []; parts = no_parts },
      ap name_of one.2,
    ))
    (λ past. absurd (let p = past.0 in omega (arith, p, n)))
    (slice_get_cases a.levels.items (length a.levels.items - 1)).1

pub starts_none : (a : Evaluations) (ts : List Opened) → FollowsBelow ts a → start_of a.segments.items a.events.items 0 ≤ 0
starts_none a [] f =
    let w = f.holds.kept in
    let top = top_there a w 0 f.count in
    let e = f.begins top.0 top.1 in
    let s = (w.cuts 0 top.0 top.1).1 in
    let r = starts_rise a.segments.items a.events.items a.items.items a.large.items a.levels.items w 0 top.0.segments (omega arith) in
    omega (arith, e, s, r)
starts_none a (t ∷ ts) f = starts_at a t ts f.holds.kept f.holds.frames

pub follow_under : (a b : Evaluations) (t : Opened) (ts : List Opened) → IsKept b → IsLooseKept b → IsSameUnder a b → Follows (t ∷ ts) a →
    FollowsBelow ts b
follow_under a b t ts kept loose under f =
    let n = f.all.count in
    let w = f.holds.kept in
    let top = top_there a w (length ts) n in
    let from = f.holds.frames.0.begins top.0 top.1 in
    let start = start_base a w (length ts) n in
    let low = base_low a w (length ts) n in
    let base = base_of a.levels.items in
    let old : (d g : ℕ) → IsOpenIn b.levels.items d g → IsOpenIn a.levels.items d g = λ d g o. subst (λ ls. IsOpenIn ls d g) under.rest.levels o in
    record {
      holds = holds_below a b (length ts) base
          (record {
            frames = record {
              names = λ d less. ap (λ ls. name_of (slice_get ls d)) under.rest.levels;
              cuts = λ d less. ap (λ ls. cut_of (slice_get ls d)) under.rest.levels;
              opens = λ d g m less o h. (old d g o, below_open a.levels.items d (length ts) g n less (old d g o));
              nodes = under.nodes;
            };
            starts = under.starts;
            rise = λ g le. starts_rise a.segments.items a.events.items a.items.items a.large.items a.levels.items w g base le;
            lows = under.lows;
            lifts = λ g le. looses_up a f.holds.loose g base le;
            loose = under.loose;
            events = λ k less. (λ i. seen (under.rest.items i) (slice_get (under.rest.events i) k));
          })
          ts (omega arith) (omega (arith, start, from)) kept loose (holds_tail a t ts f.holds);
      count = ap length under.rest.levels ∙ n;
      begins = λ c h. f.holds.frames.0.begins c (ap (λ ls. cut_of (slice_get ls (length ts))) (sym under.rest.levels) ∙ h);
    }

-- ---- what is before the full expression that is settled
pub below_before : (a b : Evaluations) (ts : List Opened) → IsKept b → IsLooseKept b → IsSameBefore a b (events_from a) → FollowsBelow ts a →
    FollowsBelow ts b
below_before a b ts kept loose same f =
    let n = f.count in
    let w = f.holds.kept in
    let top = top_there a w (length ts) n in
    let from = f.begins top.0 top.1 in
    let start = start_base a w (length ts) n in
    let base = base_of a.levels.items in
    let begin : start_of a.segments.items a.events.items base ≤ events_from a = (let e = begin_cut a (length ts) n top.0 top.1 in omega (arith, start, e)) in
    record {
      holds = holds_below a b (length ts) base
          (record {
            frames = record {
              names = λ d less. same.names d;
              cuts = λ d less. same.cuts d;
              opens = λ d g m less o h. let q = cut_open d g o in (q, below_open a.levels.items d (length ts) g n less q);
              nodes = λ g less. ap (λ xs. node_of (slice_get xs g)) same.segments;
            };
            starts = λ g le. ap (λ xs. start_of xs b.events.items g) same.segments ∙ sized (slice_get a.segments.items g);
            rise = λ g le. starts_rise a.segments.items a.events.items a.items.items a.large.items a.levels.items w g base le;
            lows = λ g le. (λ i. loose_of (same.segments i) (same.loose i) g);
            lifts = λ g le. looses_up a f.holds.loose g base le;
            loose = λ i less. ap (λ xs. slice_get xs i) same.loose;
            events = λ k less. ap (λ is. seen is (slice_get b.events.items k)) same.items
                ∙ ap (seen a.items.items) (same.events k (omega (arith, less, begin)));
          })
          ts (omega arith) (omega (arith, start, from)) kept loose f.holds;
      count = length_named a.levels.items b.levels.items same.names ∙ n;
      begins = λ c h. f.begins c (sym (same.cuts (length ts)) ∙ h);
    }
  where
    sized : (o : Option Segment) → first_event b.events.items o ≡ first_event a.events.items o
    sized None = same.count
    sized (Some s) = refl

    cut_open : (d g : ℕ) → IsOpenIn b.levels.items d g → IsOpenIn a.levels.items d g
    cut_open d g o = record {
      cut = o.cut;
      there = sym (same.cuts d) ∙ o.there;
      low = o.low;
      high = λ m c more h. o.high m c more (same.cuts m ∙ h);
    }

    begin_cut : (a : Evaluations) (top : ℕ) → length a.levels.items ≡ suc top → (c : Cut) → cut_of (slice_get a.levels.items top) ≡ Some c →
        c.events ≡ events_from a
    begin_cut a top n c h =
        let at : top ≡ length a.levels.items - 1 = omega (arith, n) in
        of_cut (slice_get a.levels.items top) h ∙ ap (λ x. begin_of (slice_get a.levels.items x)) at
      where
        of_cut : (o : Option Level) → cut_of o ≡ Some c → c.events ≡ begin_of o
        of_cut None e = absurd (cc)
        of_cut (Some l) e = ap (λ (x : Cut). x.events) (sym (same_Some _ c e))

pub named_before : (a b : Evaluations) (from : ℕ) (t : Opened) → IsSameBefore a b from → IsNamed a t → IsNamed b t
named_before a b from t same named =
    let n = length_named a.levels.items b.levels.items same.names in
    ap (λ x. name_of (slice_get b.levels.items (x - 1))) n ∙ (same.names (length a.levels.items - 1) ∙ named)

-- ---- the lists are cut where the full expression began
module _ (a b : Evaluations) (c : Cut) (ts : List Opened) (t : Opened) (f : FollowsBelow ts a)
    (here : cut_of (slice_get a.levels.items (length a.levels.items - 1)) ≡ Some c) (segments : b.segments.items ≡ take c.segments a.segments.items)
    (events : b.events.items ≡ take c.events a.events.items) (items : b.items.items ≡ take c.items a.items.items)
    (loose : b.loose.items ≡ take c.loose a.loose.items) (levels : b.levels.items ≡ a.levels.items) where
  at_top : cut_of (slice_get a.levels.items (length ts)) ≡ Some c
  at_top = let n = f.count in ap (λ x. cut_of (slice_get a.levels.items x)) (omega (arith, n)) ∙ here

  base_is : base_of a.levels.items ≡ c.segments
  base_is = top_cut (slice_get a.levels.items (length a.levels.items - 1)) c here

  parts_are : (c.segments ≤ length a.segments.items) × (start_of a.segments.items a.events.items c.segments ≡ c.events)
  parts_are = let i = f.holds.kept.cuts (length ts) c at_top in (i.0, i.1)

  segment_count : length (take c.segments a.segments.items) ≡ c.segments
  segment_count = take_part c.segments a.segments.items parts_are.0

  event_count : length (take c.events a.events.items) ≡ c.events
  event_count =
      take_part c.events a.events.items
      (let t = starts_top a.segments.items a.events.items a.items.items a.large.items a.levels.items f.holds.kept c.segments in
      let e = parts_are.1 in omega (arith, t, e))

  loose_cut : loose_of a.segments.items a.loose.items c.segments ≡ c.loose
  loose_cut = f.holds.loose.cuts (length ts) c at_top

  loose_top : c.loose ≤ length a.loose.items
  loose_top =
      let n = length a.segments.items in
      let past = looses_past a.segments.items a.events.items a.items.items a.loose.items a.levels.items f.holds.loose (c.segments + n) (omega arith) in
      let u = looses_up a f.holds.loose c.segments (c.segments + n) (omega arith) in
      let e = loose_cut in
      omega (arith, past, u, e)

  low_cut : (g : ℕ) → g ≤ c.segments → loose_of (take c.segments a.segments.items) (take c.loose a.loose.items) g ≡ loose_of a.segments.items a.loose.items g
  low_cut g le =
      ⊎_elim
      (λ less.
      ap (first_loose (take c.loose a.loose.items)) (get_take c.segments a.segments.items g less)
      ∙ of_some (slice_get a.segments.items g) (⊎_elim (λ one. (one.0, one.2))
      (λ past. absurd (let p = past.0 in let i = parts_are.0 in omega (arith, p, i, less))) (slice_get_cases a.segments.items g).1))
      (λ past.
      ap (first_loose (take c.loose a.loose.items)) (slice_get_past (take c.segments a.segments.items) g (let n = segment_count in omega (arith, n, past)))
      ∙ (take_part c.loose a.loose.items loose_top ∙ (sym loose_cut ∙ ap (loose_of a.segments.items a.loose.items) (omega (arith, le, past)))))
      (before_or_past g c.segments)
    where
      of_some : (o : Option Segment) → (s : Segment) × (o ≡ Some s) → first_loose (take c.loose a.loose.items) o ≡ first_loose a.loose.items o
      of_some None s = absurd (let e = s.1 in cc)
      of_some (Some x) s = refl

  -- an event of a frame below has its items there too
  seen_cut : (k : ℕ) → k < c.events → seen (take c.items a.items.items) (slice_get (take c.events a.events.items) k) ≡
      seen a.items.items (slice_get a.events.items k)
  seen_cut k less = ap (seen (take c.items a.items.items)) (get_take c.events a.events.items k less) ∙ go (slice_get a.events.items k) refl
    where
      go : (o : Option Logged) → slice_get a.events.items k ≡ o → seen (take c.items a.items.items) o ≡ seen a.items.items o
      go None h = refl
      go (Some d) h = seen_some a.items.items (take c.items a.items.items) d
          (λ p low.
          let z = starts_none a ts f in
          let e = parts_are.1 in
          let l = locate a.segments.items a.events.items c.segments 0 k (omega (arith, z)) (in_zero e) in
          let o = f.holds.kept.kept.own l.0 k d (omega arith) (l.3, l.4, h) in
          let under = l.2 in
          let r = items_up (suc l.0) (omega (arith, under)) in
          let i = (f.holds.kept.cuts (length ts) c at_top).2 in
          get_take c.items a.items.items p (let x = o.1 in omega (arith, x, r, i, low)))
        where
          in_zero : start_of a.segments.items a.events.items c.segments ≡ c.events → k < start_of a.segments.items a.events.items (0 + c.segments)
          in_zero e = let q : 0 + c.segments ≡ c.segments = omega arith in let z = ap (start_of a.segments.items a.events.items) q in omega (arith, e, z, less)

          items_up : (g : ℕ) → g ≤ c.segments → items_of a.segments.items a.items.items g ≤ items_of a.segments.items a.items.items c.segments
          items_up g le = rises_to (items_of a.segments.items a.items.items) 0 g c.segments f.holds.kept.kept.items_rise (omega arith) le

  opens_old : (d g : ℕ) → IsOpenIn b.levels.items d g → IsOpenIn a.levels.items d g
  opens_old d g o = subst (λ ls. IsOpenIn ls d g) levels o

  cut_same : SameBelow a b (length ts) c.segments
  cut_same = record {
    frames = record {
      names = λ d less. ap (λ ls. name_of (slice_get ls d)) levels;
      cuts = λ d less. ap (λ ls. cut_of (slice_get ls d)) levels;
      opens = λ d g m less o h.
          let q = opens_old d g o in
          let u = below_open a.levels.items d (length ts) g f.count less q in
          let e = base_is in
          (q, omega (arith, u, e));
      nodes = λ g less. ap (λ xs. node_of (slice_get xs g)) segments ∙ ap node_of (get_take c.segments a.segments.items g less);
    };
    starts = λ g le. (λ i. start_of (segments i) (events i) g)
        ∙ cut_start a.segments.items a.events.items a.items.items a.large.items a.levels.items f.holds.kept c (length ts) at_top
        (λ d x h.
        let w = level_within a.levels.items d x h in
        let n = f.count in
        f.holds.kept.rise d (length ts) x c (omega (arith, w, n)) h at_top) g le;
    rise = λ g le. starts_rise a.segments.items a.events.items a.items.items a.large.items a.levels.items f.holds.kept g c.segments le;
    lows = λ g le. (λ i. loose_of (segments i) (loose i) g) ∙ low_cut g le;
    lifts = λ g le. looses_up a f.holds.loose g c.segments le;
    loose = λ i less. ap (λ xs. slice_get xs i) loose ∙ get_take c.loose a.loose.items i (let e = loose_cut in omega (arith, e, less));
    events = λ k less. (λ i. seen (items i) (slice_get (events i) k)) ∙ seen_cut k (let e = parts_are.1 in omega (arith, e, less));
  }

  pub follow_cut : IsNamed a t → IsKept b → IsLooseKept b → Follows (settled t ∷ ts) b
  follow_cut named kept loose_kept =
      let from = f.begins c at_top in
      let start = parts_are.1 in
      let n = f.count in
      let at : length a.levels.items - 1 ≡ length ts = omega (arith, n) in
      record {
        holds = holds_fresh b (settled t) ts
            (holds_below a b (length ts) c.segments cut_same ts (omega arith) (omega (arith, from, start)) kept loose_kept f.holds)
            refl
            (ap (λ ls. name_of (slice_get ls (length ts))) levels ∙ (ap (λ x. name_of (slice_get a.levels.items x)) (sym at) ∙ named))
            (λ x h. f.begins x (ap (λ ls. cut_of (slice_get ls (length ts))) (sym levels) ∙ h))
            (λ g m o h.
            let w = node_within b.segments.items g m h in
            let count = ap length segments ∙ segment_count in
            let low = open_base a.levels.items (length ts) g n (opens_old (length ts) g o) in
            let e = base_is in
            omega (arith, w, count, low, e));
        all = record {
          count = ap length levels ∙ n;
          events = ap length events ∙ (event_count ∙ (from ∙ ap length (sym (with_none (all_done ts)))));
        };
      }

-- ---- what the frame on top touched is kept
begin_by : (o p : Option Level) → cut_of p ≡ cut_of o → begin_of p ≡ begin_of o
begin_by None None e = refl
begin_by None (Some l) e = absurd (cc)
begin_by (Some l) None e = absurd (cc)
begin_by (Some l) (Some m) e = ap (λ (x : Cut). x.events) (same_Some _ _ e)

pub from_before : (a b : Evaluations) (from : ℕ) → IsSameBefore a b from → events_from b ≡ events_from a
from_before a b from same =
    let n = length_named a.levels.items b.levels.items same.names in
    ap (λ x. begin_of (slice_get b.levels.items (x - 1))) n ∙ begin_by _ _ (same.cuts (length a.levels.items - 1))

pub before_open : (a b : Evaluations) (from : ℕ) → IsSameOpen a b → AreNamed a b → IsSameBefore a b from
before_open a b from same names = record {
  segments = same.segments;
  items = same.items;
  loose = same.loose;
  names = names;
  cuts = same.cuts;
  count = ap length same.events;
  events = λ k less. ap (λ es. slice_get es k) same.events;
}

pub before_after : (a b d : Evaluations) (from at : ℕ) → from ≤ at → IsSameBefore a b from → IsSameBefore b d at → IsSameBefore a d from
before_after a b d from at le first second = record {
  segments = second.segments ∙ first.segments;
  items = second.items ∙ first.items;
  loose = second.loose ∙ first.loose;
  names = λ x. second.names x ∙ first.names x;
  cuts = λ x. second.cuts x ∙ first.cuts x;
  count = second.count ∙ first.count;
  events = λ k less. second.events k (omega (arith, less, le)) ∙ first.events k less;
}

-- ---- nothing is open
whole_none : Whole [] [] [] [] []
whole_none = record {
  kept = record {
    sorted = λ g le. (omega arith, omega arith);
    items_rise = λ g le. omega arith;
    large_rise = λ g le. omega arith;
    own = λ g k e le of. absurd (let h = of.2 in cc);
    harmless = λ g k e le h of. absurd (let x = of.2 in cc);
    gathered = λ g le f h. absurd (cc);
    listed = λ g k e le of. absurd (let h = of.2 in cc);
  };
  filled = λ g less. absurd (omega (arith, less));
  cuts = λ d c h. absurd (cc);
  rise = λ d n b c le h k. absurd (cc);
}

loose_none : LooseWhole [] [] [] [] []
loose_none = record {
  rise = λ g. omega arith;
  own = λ g i k low high h. absurd (cc);
  has = λ g f h. absurd (cc);
  cuts = λ d c h. absurd (cc);
}

pub follow_none : (o : Evaluations) → o.segments.items ≡ [] → o.events.items ≡ [] → o.items.items ≡ [] → o.large.items ≡ [] → o.loose.items ≡ [] →
    o.levels.items ≡ [] → Follows [] o
follow_none o segments events items large loose levels = record {
  holds = record {
    kept = whole_moved [] o.segments.items [] o.events.items [] o.items.items [] o.large.items [] o.levels.items segments events items large levels whole_none;
    loose = right_moved [] o.segments.items [] o.events.items [] o.items.items [] o.loose.items [] o.levels.items segments events items loose levels loose_none;
    events = λ k less. absurd (omega (arith, less));
    full = λ d less. absurd (omega (arith, less));
    frames = tt;
  };
  all = record { count = ap length levels; events = ap length events };
}
