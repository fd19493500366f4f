-- What was told is followed, of the frames below the one on top, and as nodes choose further operands.
use Rattle.std.proofs.Common.{◌≡◌, ◌⊎◌, inl, inr, ⊎_elim, ℕ, zero, suc, ◌≤◌, ◌<◌, ◌+◌, ◌-◌, ◌==◌, Bool, true, false, List, [], ◌∷◌, ◌++◌, length, refl, sym, ap}
use Rattle.std.proofs.Common.{◌∙◌, arith}
use Rattle.std.proofs.Common.{Option, Some, None, subst, if◌then◌else◌}
use Rattle.std.specs.Prelude.{slice_get}
use Rattle.std.proofs.lemmas.Option.{slice_get_cases, slice_get_past, slice_get_within, same_Some}
use Rattle.ub_base.proofs.Tests.{if_true, if_false, number_self, number_other}
use Rattle.ub_base.specs.declared.names.Item.{Item}
use Rattle.c_typed.specs.declared.tree.Place.{Place}
use Rattle.c_typed.specs.Order.{Taken}
use Rattle.evaluation_log.specs.declared.log.Logged.{Logged}
use Rattle.evaluation_log.specs.declared.log.Segment.{Segment}
use Rattle.evaluation_log.specs.declared.level.Level.{Level}
use Rattle.evaluation_log.specs.Touched.{start_of}
use Rattle.evaluation_log.specs.Kept.{Cut, cut_of, base_of, first_segment}
use Rattle.evaluation_log.specs.Loose.{loose_of}
use Rattle.evaluation_log.specs.Ways.{node_of}
use Rattle.evaluation_log.proofs.KeptLemmas.{before_or_past}
use Rattle.evaluation_log.proofs.WholeLemmas.{not_none}
use Rattle.run_evaluations.specs.declared.open.Evaluations.{Evaluations}
use Rattle.run_evaluations.specs.Kept.{IsKept}
use Rattle.run_evaluations.specs.Listed.{IsOpenIn, ListedIn, AnyEvent}
use Rattle.run_evaluations.specs.Loose.{IsLooseKept}
use Rattle.run_evaluations.specs.Scopes.{Scope, IsBelow, ComesTo, place_of}
use Rattle.run_evaluations.specs.Told.{Evaluation, Opened, Grows, chosen_by, IsBeside, IsOperandIn}
use Rattle.run_evaluations.specs.Follows.{all_done, scopes_of, seen, name_of, IsFrame, AreFrames, Holds, AreAll, Follows}
use Rattle.run_evaluations.proofs.GrowLemmas.{goes_later, due_later, reaches_later}
use Rattle.run_evaluations.proofs.ListedLemmas.{level_within, top_cut, cut_there}
use Rattle.run_evaluations.proofs.PartLemmas.{by_test}

-- ---- the full expressions of the frames
pub scope_top : (t : Opened) (ts : List Opened) → scopes_of (t ∷ ts) (length ts) ≡ t.scope
scope_top t ts = if_true _ _ _ (number_self (length ts))

pub scope_below : (t : Opened) (ts : List Opened) (d : ℕ) → d < length ts → scopes_of (t ∷ ts) d ≡ scopes_of ts d
scope_below t ts d less = if_false _ _ _ (number_other d (length ts) (λ e. omega (arith, e, less)))

-- ---- which segments are of which frame
pub below_open : (ls : List Level) (d top g : ℕ) → length ls ≡ suc top → d < top → IsOpenIn ls d g → g < base_of ls
below_open ls d top g n less opens =
    ⊎_elim
    (λ one. let c = cut_there (slice_get ls (length ls - 1)) one.0 one.2 in
    let h = opens.high (length ls - 1) c.0 (omega (arith, n, less)) c.1 in
    let e = top_cut (slice_get ls (length ls - 1)) c.0 c.1 in
    omega (arith, h, e))
    (λ past. absurd (let q = past.0 in omega (arith, q, n)))
    (slice_get_cases ls (length ls - 1)).1

pub open_base : (ls : List Level) (top g : ℕ) → length ls ≡ suc top → IsOpenIn ls top g → base_of ls ≤ g
open_base ls top g n opens =
    let e = top_cut (slice_get ls top) opens.cut opens.there in
    let at : length ls - 1 ≡ top = omega (arith, n) in
    let f = ap (λ x. first_segment (slice_get ls x)) at in
    let l = opens.low in
    omega (arith, e, f, l)

pub top_open : (ls : List Level) (top g : ℕ) → length ls ≡ suc top → base_of ls ≤ g → IsOpenIn ls top g
top_open ls top g n low =
    ⊎_elim
    (λ one. let c = cut_there (slice_get ls (length ls - 1)) one.0 one.2 in
    let e = top_cut (slice_get ls (length ls - 1)) c.0 c.1 in
    let at : length ls - 1 ≡ top = omega (arith, n) in
    record {
      cut = c.0;
      there = ap (λ x. cut_of (slice_get ls x)) (sym at) ∙ c.1;
      low = omega (arith, e, low);
      high = λ m b less h. absurd (let w = level_within ls m b h in omega (arith, w, n, less));
    })
    (λ past. absurd (let q = past.0 in omega (arith, q, n)))
    (slice_get_cases ls (length ls - 1)).1

-- ---- events
pub seen_place : (is js : List Item) (o p : Option Logged) → seen is o ≡ seen js p → place_of o ≡ place_of p
seen_place is js None None h = refl
seen_place is js None (Some e) h = absurd (cc)
seen_place is js (Some d) None h = absurd (cc)
seen_place is js (Some d) (Some e) h = ap (λ (x : Evaluation). Some x.place) (same_Some _ _ h)

-- ---- frames that are as they were
pub record SameFrames (a b : Evaluations) (top base : ℕ) : Type 0 where
  pub names : (d : ℕ) → d < top → name_of (slice_get b.levels.items d) ≡ name_of (slice_get a.levels.items d)
  pub cuts : (d : ℕ) → d < top → cut_of (slice_get b.levels.items d) ≡ cut_of (slice_get a.levels.items d)
  pub opens : (d g m : ℕ) → d < top → IsOpenIn b.levels.items d g → node_of (slice_get b.segments.items g) ≡ Some m →
      IsOpenIn a.levels.items d g × (g < base)
  pub nodes : (g : ℕ) → g < base → node_of (slice_get b.segments.items g) ≡ node_of (slice_get a.segments.items g)

module _ (a b : Evaluations) (top base : ℕ) (same : SameFrames a b top base) where
  frame_below : (d from : ℕ) (t : Opened) → d < top → IsFrame a d t from → IsFrame b d t from
  frame_below d from t less f = record {
    named = same.names d less ∙ f.named;
    begins = λ c h. f.begins c (sym (same.cuts d less) ∙ h);
    parts = λ g m o h. let r = same.opens d g m less o h in f.parts g m r.0 (sym (same.nodes g r.1) ∙ h);
    beside = λ g h m n o p more x y.
        let r = same.opens d g m less o x in
        let q = same.opens d h n less p y in
        f.beside g h m n r.0 q.0 more (sym (same.nodes g r.1) ∙ x) (sym (same.nodes h q.1) ∙ y);
  }

  pub frames_below : (os : List Opened) → length os ≤ top → AreFrames a os → AreFrames b os
  frames_below [] le f = tt
  frames_below (t ∷ ts) le f =
      (frame_below (length ts) (length (all_done ts)) t (omega (arith, le)) f.0, frames_below ts (omega (arith, le)) f.1)

-- and so is what is logged of them
pub record SameBelow (a b : Evaluations) (top base : ℕ) : Type 0 where
  pub frames : SameFrames a b top base
  pub starts : (g : ℕ) → g ≤ base → start_of b.segments.items b.events.items g ≡ start_of a.segments.items a.events.items g
  pub rise : (g : ℕ) → g ≤ base → start_of a.segments.items a.events.items g ≤ start_of a.segments.items a.events.items base
  pub lows : (g : ℕ) → g ≤ base → loose_of b.segments.items b.loose.items g ≡ loose_of a.segments.items a.loose.items g
  pub lifts : (g : ℕ) → g ≤ base → loose_of a.segments.items a.loose.items g ≤ loose_of a.segments.items a.loose.items base
  pub loose : (i : ℕ) → i < loose_of a.segments.items a.loose.items base → slice_get b.loose.items i ≡ slice_get a.loose.items i
  pub events : (k : ℕ) → k < start_of a.segments.items a.events.items base →
      seen b.items.items (slice_get b.events.items k) ≡ seen a.items.items (slice_get a.events.items k)

module _ (a b : Evaluations) (top base : ℕ) (same : SameBelow a b top base) where
  listed_below : (d : ℕ) (s : Scope) → d < top → ListedIn a.segments.items a.events.items a.loose.items a.levels.items d s AnyEvent →
      ListedIn b.segments.items b.events.items b.loose.items b.levels.items d s AnyEvent
  listed_below d s less all g k m u opens at from to there =
      let o = same.frames.opens d g m less opens at in
      let p = same.starts g (omega (arith, o.1)) in
      let q = same.starts (suc g) (omega (arith, o.1)) in
      let up = same.rise (suc g) (omega (arith, o.1)) in
      let e = same.events k (omega (arith, to, q, up)) in
      let r = all g k m u o.0 (sym (same.frames.nodes g o.1) ∙ at) (omega (arith, p, from)) (omega (arith, q, to))
      (sym (seen_place b.items.items a.items.items (slice_get b.events.items k) (slice_get a.events.items k) e) ∙ there) in (
        r.0,
        λ ask. ⊎_elim inl
            (λ l. let x = l.1 in
            let y = l.2 in
            let v = same.lows g (omega (arith, o.1)) in
            let w = same.lows (suc g) (omega (arith, o.1)) in
            let z = same.lifts (suc g) (omega (arith, o.1)) in
            inr (l.0, omega (arith, v, x), omega (arith, w, y), same.loose l.0 (omega (arith, y, z)) ∙ l.3))
            (r.1 ask),
      )

  pub holds_below : (os : List Opened) → length os ≤ top → length (all_done os) ≤ start_of a.segments.items a.events.items base → IsKept b →
      IsLooseKept b → Holds os a AnyEvent → Holds os b AnyEvent
  holds_below os le fits kept loose h = record {
    kept = kept;
    loose = loose;
    events = λ k less. same.events k (omega (arith, less, fits)) ∙ h.events k less;
    full = λ d less. listed_below d (scopes_of os d) (omega (arith, less, le)) (h.full d less);
    frames = frames_below a b top base same.frames os le h.frames;
  }

-- ---- nodes choose further operands
module _ (s : Scope) (taken : Taken) (grows : Grows s.taken taken) where
  abbrev Later : Scope
  Later = record { tree = s.tree; taken = taken }

  below_later : (n : ℕ) (u : Place) → IsBelow s n u → IsBelow Later n u
  below_later n u b = record {
    part = b.part;
    there = b.there;
    low = b.low;
    high = b.high;
    due = due_later s.taken taken grows n b.part u b.due;
  }

  comes_later : (n : ℕ) (u : Place) → ComesTo s n u → ComesTo Later n u
  comes_later n u c part h = reaches_later s.taken taken grows n part u (c part h)

  operand_later : (n m : ℕ) → IsOperandIn s n m → IsOperandIn Later n m
  operand_later n m o = record {
    class = o.class;
    operands = o.operands;
    there = o.there;
    index = o.index;
    of = record {
      side = o.of.side;
      there = o.of.there;
      number = o.of.number;
      goes = goes_later o.class (s.taken n) (taken n) o.index (grows n) o.of.goes;
      loud = o.of.loud;
    };
  }

  beside_later : (m n : ℕ) → IsBeside s m n → IsBeside Later m n
  beside_later m n b = record {
    above = b.above;
    operand = operand_later b.above m b.operand;
    way = record { part = b.way.part; there = b.way.there; low = b.way.low; high = b.way.high };
    behind = b.behind;
  }

  listed_later : (ss : List Segment) (es : List Logged) (ls : List ℕ) (xs : List Level) (d : ℕ) → ListedIn ss es ls xs d s AnyEvent →
      ListedIn ss es ls xs d Later AnyEvent
  listed_later ss es ls xs d all g k m u opens at from to there =
      let r = all g k m u opens at from to there in
      (below_later m u r.0, λ ask. ⊎_elim (λ c. inl (comes_later m u c)) inr (r.1 ask))

pub choices_grow : (o : Evaluations) (t : Opened) (ts : List Opened) (taken : Taken) → Grows t.scope.taken taken → Follows (t ∷ ts) o →
    Follows (chosen_by taken t ∷ ts) o
choices_grow o t ts taken grows f = record {
  holds = record {
    kept = f.holds.kept;
    loose = f.holds.loose;
    events = f.holds.events;
    full = λ d less. by_test (d == length ts)
        (λ e. subst (λ s. ListedIn o.segments.items o.events.items o.loose.items o.levels.items d s AnyEvent) (sym (if_true _ _ _ e))
        (listed_later t.scope taken grows o.segments.items o.events.items o.loose.items o.levels.items d
        (subst (λ s. ListedIn o.segments.items o.events.items o.loose.items o.levels.items d s AnyEvent) (if_true _ _ _ e) (f.holds.full d less))))
        (λ e. subst (λ s. ListedIn o.segments.items o.events.items o.loose.items o.levels.items d s AnyEvent) (sym (if_false _ _ _ e))
        (subst (λ s. ListedIn o.segments.items o.events.items o.loose.items o.levels.items d s AnyEvent) (if_false _ _ _ e) (f.holds.full d less)));
    frames = (
      record {
        named = f.holds.frames.0.named;
        begins = f.holds.frames.0.begins;
        parts = f.holds.frames.0.parts;
        beside = λ g h m n x y less p q. beside_later t.scope taken grows m n (f.holds.frames.0.beside g h m n x y less p q);
      },
      f.holds.frames.1,
    );
  };
  all = record { count = f.all.count; events = f.all.events };
}
