-- A conflict of events of the log is one of evaluations that were told, and the other way round.
use Rattle.std.proofs.Common.{◌≡◌, ◌⊎◌, inl, inr, ⊎_elim, ℕ, zero, suc, ◌≤◌, ◌<◌, ◌+◌, ◌-◌, nat_lt, ◌==◌, Bool, true, false, not, ◌&&◌, ◌||◌, List, [], ◌∷◌}
use Rattle.std.proofs.Common.{◌++◌, length}
use Rattle.std.proofs.Common.{refl, sym, ap, ◌∙◌, arith, Option, Some, None, Result, subst, if◌then◌else◌, length-append}
use Rattle.std.specs.Prelude.{slice_get, IfOk, IfSome}
use Rattle.std.proofs.lemmas.Option.{slice_get_within, same_Some}
use Rattle.ub_base.proofs.Tests.{if_true, if_false, less_test, not_less_test, number_other}
use Rattle.ub_base.specs.declared.clause.Kind.{Kind}
use Rattle.ub_base.specs.declared.clause.Kind.TheVariants.{Val, Eff, Body}
use Rattle.ub_base.specs.declared.names.Event.{Event}
use Rattle.ub_base.specs.declared.names.Item.{Item}
use Rattle.ub_base.specs.Frames.{Row as FrameRow}
use Rattle.addr_map.specs.declared.map.Row.{Row}
use Rattle.footprint.specs.Least.{IsLeast}
use Rattle.c_typed.specs.declared.tree.Place.{Place}
use Rattle.c_typed.specs.declared.class.Class.{Class}
use Rattle.c_typed.specs.declared.class.Class.TheVariants as class
use Rattle.c_typed.specs.Tree.{Tree, Trees, node, none, more, size}
use Rattle.c_typed.specs.Order.{Taken, place, across, is_body}
use Rattle.c_typed.specs.Decide.{is_before, between}
use Rattle.evaluation_log.specs.declared.found.Found.{Found}
use Rattle.evaluation_log.specs.declared.level.Level.{Level}
use Rattle.evaluation_log.specs.declared.log.Logged.{Logged}
use Rattle.evaluation_log.specs.declared.log.Segment.{Segment}
use Rattle.evaluation_log.specs.declared.rules.Rule.{Rule}
use Rattle.evaluation_log.specs.declared.sought.Sought.TheVariants.{Any, Races}
use Rattle.evaluation_log.specs.Touched.{touched, body_has, event_has, is_sought, is_body as is_logged_body, first_event, start_of}
use Rattle.evaluation_log.specs.Clashes.{Clash, AreSorted}
use Rattle.evaluation_log.specs.Kept.{base_of, is_unsequenced, marks, IsOperand}
use Rattle.evaluation_log.specs.Sides.{Side, side, sides_from}
use Rattle.evaluation_log.specs.Ways.{node_of}
use Rattle.evaluation_log.proofs.BetweenLemmas.{rises_to}
use Rattle.evaluation_log.proofs.KeptLemmas.{before_or_past}
use Rattle.evaluation_log.proofs.WholeLemmas.{get_right, starts_past}
use Rattle.evaluation_search.specs.declared.log.Place.{Place as Expression}
use Rattle.evaluation_search.specs.First.{IsFirst, IsFirstOf, named, sought_of, IsOf, IsOfPair, AreBetween, AreRising, AreOnce}
use Rattle.evaluation_search.proofs.BetweenFirst.{name_there, least_like}
use Rattle.run_evaluations.specs.declared.open.Evaluations.{Evaluations}
use Rattle.run_evaluations.specs.First.{event_in, expression_in, IsConflictOf, IsConflictIn, AreOfOperands, IsOnce, SequencesNone}
use Rattle.run_evaluations.specs.Follows.{all_done, scopes_of, seen, name_of, AreAll, Follows, Holds, IsNamed}
use Rattle.run_evaluations.specs.Listed.{ListedIn}
use Rattle.run_evaluations.specs.Scopes.{Scope, IsBelow, IsOperandOf, part_of, place_of}
use Rattle.run_evaluations.specs.Shows.{IsAmong, AreApart, IsIn, AreOfTwo}
use Rattle.run_evaluations.specs.Told.{Evaluation, Opened, has, IsOperandIn, TellsNode}
use Rattle.run_evaluations.proofs.FollowLemmas.{scope_top, top_open}
use Rattle.run_evaluations.proofs.FrameLemmas.{top_there, start_base, base_low, named_all}
use Rattle.run_evaluations.proofs.ListedLemmas.{node_there}
use Rattle.run_evaluations.proofs.PartLemmas.{part_before, side_at}
use Rattle.run_evaluations.proofs.ShowLemmas.{InLog, in_log, same_operand, before_is, operand_of, in_order, tree_a, tree_b}
use Rattle.run_evaluations.proofs.ToldLemmas.{beside_at, beside_less, operand_at, part_at}

-- ---- what one operand has isn't sequenced with what another one has, but by a rule of the node
across_none : (c : Class) (choice : Option ℕ) (i j : ℕ) → (c ≡ class.Choice → ⊥) → (c ≡ class.Comma → ⊥) → across c choice i j ≡ false
across_none class.Object choice i j h k = refl
across_none class.Constant choice i j h k = refl
across_none class.Plain choice i j h k = refl
across_none class.Store choice i j h k = refl
across_none class.Update choice i j h k = refl
across_none class.Choice choice i j h k = absurd (h refl)
across_none class.Comma choice i j h k = absurd (k refl)
across_none class.Call choice i j h k = refl
across_none class.Isolated choice i j h k = refl

module _ (taken : Taken) (c : Class) (choice : Option ℕ) where
  between_back : (j m : ℕ) (ts : Trees) (i k : ℕ) (s r : Side) (u v : Place) → i < k → slice_get (sides_from m ts) i ≡ Some s →
      slice_get (sides_from m ts) k ≡ Some r → s.number ≤ u.node → u.node < s.number + size s.tree → r.number ≤ v.node →
      between taken c choice j m ts v u ≡ false
  between_back j m none i k s r u v less h l ul uh vl = absurd (cc)
  between_back j m (more t ts) zero zero s r u v less h l ul uh vl = absurd (omega (arith, less))
  between_back j m (more t ts) zero (suc k) s r u v less h l ul uh vl =
      let e = same_Some (side m t) s h in
      let x = ap (λ (z : Side). z.number) e in
      let y = ap (λ (z : Side). size z.tree) e in
      let low = (side_at (m + size t) ts k r l).low in
      if_false _ _ _ (not_less_test v.node (m + size t) (omega (arith, low, vl)))
      ∙ if_true _ _ _ (less_test u.node (m + size t) (omega (arith, x, y, uh)))
  between_back j m (more t ts) (suc i) zero s r u v less h l ul uh vl = absurd (omega (arith, less))
  between_back j m (more t ts) (suc i) (suc k) s r u v less h l ul uh vl =
      let a = (side_at (m + size t) ts i s h).low in
      let b = (side_at (m + size t) ts k r l).low in
      if_false _ _ _ (not_less_test v.node (m + size t) (omega (arith, b, vl)))
      ∙ (if_false _ _ _ (not_less_test u.node (m + size t) (omega (arith, a, ul)))
      ∙ between_back (suc j) (m + size t) ts i k s r u v (omega (arith, less)) h l ul uh vl)

module _ (s : Scope) (n : ℕ) (c : Class) (ts : Trees) (here : part_of s n ≡ Some (node c ts)) (a b i j : ℕ) (p : IsOperandOf s n c ts i a)
    (q : IsOperandOf s n c ts j b) (rise : a < b) (u v : Place) (in_a : IsIn s a u.node) (in_b : IsIn s b v.node) where
  back_is : is_before s.taken 0 s.tree v u ≡ false
  back_is =
      let na = p.number in
      let nb = q.number in
      let sa = ap size (tree_a s n c ts here a b i j p q rise u v in_a in_b) in
      let sb = ap size (tree_b s n c ts here a b i j p q rise u v in_a in_b) in
      let la = in_a.low in
      let ha = in_a.high in
      let lb = in_b.low in
      let hb = in_b.high in
      let x = side_at (suc n) ts i p.side p.there in
      let y = side_at (suc n) ts j q.side q.there in
      let xl = x.low in
      let xh = x.high in
      let yl = y.low in
      let yh = y.high in
      part_before s.taken 0 s.tree n v u (node c ts) here (omega (arith, yl, nb, lb)) (omega (arith, yh, nb, sb, hb)) (omega (arith, xl, na, la))
      (omega (arith, xh, na, sa, ha))
      ∙ (if_false _ _ _ (number_other v.node n (λ e. omega (arith, e, yl, nb, lb)))
      ∙ (if_false _ _ _ (number_other u.node n (λ e. omega (arith, e, xl, na, la)))
      ∙ between_back s.taken c (s.taken n) 0 (suc n) ts i j p.side q.side u v (in_order s n c ts here a b i j p q rise u v in_a in_b) p.there q.there
      (omega (arith, na, la)) (omega (arith, na, sa, ha)) (omega (arith, nb, lb))))

  pub apart_two : (c ≡ class.Choice → ⊥) → (c ≡ class.Comma → ⊥) → AreApart s u v
  apart_two h k = record {
    before = before_is s n c ts here a b i j p q rise u v in_a in_b ∙ across_none c (s.taken n) i j h k;
    behind = back_is;
  }

-- ---- kinds
pub sought_race : (e : Logged) → is_sought Races (Some e) ≡ true → is_body e.kind ≡ false
sought_race e h = by_kind e.kind h
  where
    by_kind : (k : Kind) → not (is_logged_body k) ≡ true → is_body k ≡ false
    by_kind Val h = refl
    by_kind Eff h = refl
    by_kind Body h = absurd (cc)

pub race_sought : (e : Logged) → is_body e.kind ≡ false → is_sought Races (Some e) ≡ true
race_sought e h = by_kind e.kind h
  where
    by_kind : (k : Kind) → is_body k ≡ false → not (is_logged_body k) ≡ true
    by_kind Val h = refl
    by_kind Eff h = refl
    by_kind Body h = absurd (cc)

neither : (a b : Bool) → a ≡ false → b ≡ false → (a || b) ≡ false
neither true b h k = absurd (cc)
neither false b h k = k

both_no : (a b : Bool) → (a || b) ≡ false → (a ≡ false) × (b ≡ false)
both_no true b h = absurd (cc)
both_no false b h = (refl, h)

-- ---- what is logged of the frame on top
module _ (a : Evaluations) (t : Opened) (ts : List Opened) (asked : ℕ → Place → Type 0) (h : Holds (t ∷ ts) a asked) (all : AreAll (t ∷ ts) a) where
  abbrev before : ℕ
  before = length (all_done ts)

  -- an event of the log was told
  pub from_log : (k : ℕ) (e : Logged) → before ≤ k → slice_get a.events.items k ≡ Some e → (i : ℕ) × (d : Evaluation) × (before + i ≡ k) ×
      (slice_get t.done i ≡ Some d) × (place e.node e.kind ≡ d.place) × ((j : Item) → event_has a.items.items (Some e) j ≡ has d j)
  from_log k e low there =
      let inside = slice_get_within a.events.items k e there in
      let logged = all.events in
      let same : before + (k - before) ≡ k = omega (arith, low) in (
        k - before,
        record { place = place e.node e.kind; own = touched a.items.items e.from (e.to - e.from); body = body_has e.foot },
        same,
        sym (get_right (all_done ts) t.done (k - before)) ∙ (ap (slice_get (all_done ts ++ t.done)) same
            ∙ (sym (h.events k (omega (arith, inside, logged))) ∙ ap (seen a.items.items) there)),
        refl,
        λ j. refl,
      )

  pub once_log : IsOnce t → (from : ℕ) → before ≤ from → AreOnce a.events.items from
  once_log once from low k l d e low_k low_l at_k at_l nodes kinds =
      let x = from_log k d (omega (arith, low, low_k)) at_k in
      let y = from_log l e (omega (arith, low, low_l)) at_l in
      let same = once x.0 y.0 x.1 y.1 x.3 y.3 (sym x.4 ∙ ((λ i. place (nodes i) (kinds i)) ∙ y.4)) in
      let p = x.2 in
      let q = y.2 in
      omega (arith, same, p, q)

  -- where its segments begin
  pub base_begins : start_of a.segments.items a.events.items (base_of a.levels.items) ≡ before
  base_begins =
      let top = top_there a h.kept (length ts) all.count in
      start_base a h.kept (length ts) all.count ∙ h.frames.0.begins top.0 top.1

  pub begins_low : (g : ℕ) → base_of a.levels.items ≤ g → before ≤ start_of a.segments.items a.events.items g
  begins_low g low =
      let b = base_begins in
      let r = rises_to (start_of a.segments.items a.events.items) 0 (base_of a.levels.items) g (λ k more. (h.kept.kept.sorted k more).0) (omega arith) low in
      omega (arith, b, r)

  -- the segment of an event, and its node
  pub in_segment : (g k : ℕ) (e : Logged) → base_of a.levels.items ≤ g → start_of a.segments.items a.events.items g ≤ k →
      k < start_of a.segments.items a.events.items (suc g) → slice_get a.events.items k ≡ Some e →
      (m : ℕ) × (node_of (slice_get a.segments.items g) ≡ Some m) × IsBelow t.scope m (place e.node e.kind)
  in_segment g k e low from to there =
      ⊎_elim
      (λ less.
      let m = node_there a.segments.items g less in (
        m.0,
        m.1,
        (subst (λ s. ListedIn a.segments.items a.events.items a.loose.items a.levels.items (length ts) s asked) (scope_top t ts)
            (h.full (length ts) (omega arith)) g k m.0 (place e.node e.kind) (top_open a.levels.items (length ts) g all.count low) m.1 from to
            (ap place_of there)).0,
      ))
      (λ past. absurd (
      let x = starts_past a.segments.items a.events.items g past in
      let y = starts_past a.segments.items a.events.items (suc g) (omega (arith, past)) in
      omega (arith, x, y, from, to)))
      (before_or_past g (length a.segments.items))

  module _ (frames : List FrameRow) (rows : List Row) (p : Expression) (is : p ≡ record { frame = t.frame; turn = t.turn }) where
    -- a conflict of two events of the log is one of what was told
    pub conflict_told : (x : Found) (k l : ℕ) → before ≤ k → before ≤ l → IsOf frames rows p a.events.items a.items.items k l x →
        (i : ℕ) × (j : ℕ) × (d : Evaluation) × (e : Evaluation) × (before + i ≡ k) × (before + j ≡ l) × (slice_get t.done i ≡ Some d) ×
        (slice_get t.done j ≡ Some e) × IsConflictOf frames rows t d e x
    conflict_told x k l low_k low_l of =
        let n = name_there p (slice_get a.events.items k) x.event of.event in
        let m = name_there p (slice_get a.events.items l) x.against of.against in
        let d = from_log k n.0 low_k n.1 in
        let e = from_log l m.0 low_l m.1 in (
          d.0,
          e.0,
          d.1,
          e.1,
          d.2,
          e.2,
          d.3,
          e.3,
          record {
            event = sym n.2 ∙ name_is n.0 d.1.place d.4;
            against = sym m.2 ∙ name_is m.0 e.1.place e.4;
            bodiless = λ race. neither _ _
                (ap (λ (z : Place). is_body z.kind) (sym d.4) ∙ sought_race n.0 ((λ i. is_sought (sought_of (sym race i)) (sym n.1 i)) ∙ of.first_sought))
                (ap (λ (z : Place). is_body z.kind) (sym e.4) ∙ sought_race m.0 ((λ i. is_sought (sought_of (sym race i)) (sym m.1 i)) ∙ of.second_sought));
            least = least_like frames rows (sought_of x.race) (event_has a.items.items (slice_get a.events.items k)) (has d.1)
                (event_has a.items.items (slice_get a.events.items l)) (has e.1) (Some x.items)
                (λ j. ap (λ o. event_has a.items.items o j) n.1 ∙ d.5 j) (λ j. ap (λ o. event_has a.items.items o j) m.1 ∙ e.5 j) of.least;
          },
        )
      where
        name_is : (e : Logged) (u : Place) → place e.node e.kind ≡ u →
            record { frame = p.frame; turn = p.turn; node = e.node; kind = e.kind } ≡ event_in t u
        name_is e u h = (λ i. record { frame = (is i).frame; turn = (is i).turn; node = (h i).node; kind = (h i).kind })

    -- and a conflict of two evaluations is one of their events
    pub conflict_logged : (x : Found) (d e : Evaluation) (k l : ℕ) (one : InLog a t d k) (other : InLog a t e l) → IsConflictOf frames rows t d e x →
        IsOf frames rows p a.events.items a.items.items k l x
    conflict_logged x d e k l one other of = record {
      event = name_of k d one x.event of.event;
      against = name_of l e other x.against of.against;
      first_sought = sought_by x.race refl k d one (λ race. (both_no _ _ (of.bodiless race)).0);
      second_sought = sought_by x.race refl l e other (λ race. (both_no _ _ (of.bodiless race)).1);
      least = least_like frames rows (sought_of x.race) (has d) (event_has a.items.items (slice_get a.events.items k)) (has e)
          (event_has a.items.items (slice_get a.events.items l)) (Some x.items)
          (λ j. sym (ap (λ o. event_has a.items.items o j) one.there ∙ one.items j))
          (λ j. sym (ap (λ o. event_has a.items.items o j) other.there ∙ other.items j)) of.least;
    }
      where
        name_of : (k : ℕ) (d : Evaluation) (one : InLog a t d k) (x : Event) → x ≡ event_in t d.place → named p (slice_get a.events.items k) ≡ Some x
        name_of k d one x h =
            ap (named p) one.there
            ∙ ((λ i. Some (record {
              frame = (is i).frame;
              turn = (is i).turn;
              node = (same_Some _ _ one.at i).node;
              kind = (same_Some _ _ one.at i).kind;
            })) ∙ ap Some (sym h))

        sought_by : (b : Bool) → x.race ≡ b → (k : ℕ) (d : Evaluation) (one : InLog a t d k) → (x.race ≡ true → is_body d.place.kind ≡ false) →
            is_sought (sought_of x.race) (slice_get a.events.items k) ≡ true
        sought_by true e k d one h =
            (λ i. is_sought (sought_of (e i)) (one.there i))
            ∙ race_sought one.event (ap (λ (z : Place). is_body z.kind) (same_Some _ _ one.at) ∙ h e)
        sought_by false e k d one h = (λ i. is_sought (sought_of (e i)) (one.there i))

-- the nodes of its events stand in the order of their segments
pub rising_from : (a : Evaluations) (t : Opened) (ts : List Opened) → Follows (t ∷ ts) a → (at : ℕ) → base_of a.levels.items ≤ at →
    AreRising a.segments.items a.events.items at
rising_from a t ts f at low g h k l d e low_g less from to from_h to_h at_k at_l =
    let x = in_segment a t ts _ f.holds f.all g k d (omega (arith, low, low_g)) from to at_k in
    let y = in_segment a t ts _ f.holds f.all h l e (omega (arith, low, low_g, less)) from_h to_h at_l in
    let b = beside_at a t ts f g h x.0 y.0 (omega (arith, low, low_g)) less x.1 y.1 in
    let past = b.behind x.2.part x.2.there in
    let high = x.2.high in
    let next = y.2.low in
    omega (arith, past, high, next)

-- ---- of two operands of a node
module _ (a : Evaluations) (t : Opened) (ts : List Opened) (f : Follows (t ∷ ts) a) (n : ℕ) (rule : Rule) (chosen : Bool) (tell : TellsNode t n rule chosen)
    (fresh : t.parts n ≡ false) (at : ℕ) (low : base_of a.levels.items ≤ at)
    (least : (g : ℕ) → IsOperand a.segments.items a.levels.items n g → at ≤ g)
    (behind : (g m : ℕ) → at ≤ g → node_of (slice_get a.segments.items g) ≡ Some m → n < m) where
  -- a segment from there on is of an operand
  operand_here : (g k : ℕ) (e : Logged) → at ≤ g → (m : ℕ) → node_of (slice_get a.segments.items g) ≡ Some m →
      (i : ℕ) × IsOperandOf t.scope n tell.class tell.operands i m
  operand_here g k e le m own =
      ⊎_elim
      (λ same. absurd (let l = behind g m le own in omega (arith, l, same)))
      (⊎_elim (λ o. o) (λ b. absurd (let l = behind g m le own in let z = beside_less t.scope m n b in omega (arith, l, z))))
      (tell.next m (part_at a t ts f g m (omega (arith, low, le)) own))

  module _ (frames : List FrameRow) (rows : List Row) (p : Expression) (is : p ≡ record { frame = t.frame; turn = t.turn }) where
    pub to_told : (tell.class ≡ class.Choice → ⊥) → (tell.class ≡ class.Comma → ⊥) → (x : Found) →
        IsOfPair frames rows p a.events.items a.items.items (AreBetween a.segments.items a.events.items at) x → IsConflictIn frames rows t (AreOfOperands t n) x
    to_told no_choice no_comma x q =
        let w = q.2 in
        let low_g = w.low in
        let rise = w.rise in
        let from = w.from in
        let from_h = w.behind in
        let begin_g = begins_low a t ts _ f.holds f.all w.first (omega (arith, low, low_g)) in
        let begin_h = begins_low a t ts _ f.holds f.all w.second (omega (arith, low, low_g, rise)) in
        let c = conflict_told a t ts _ f.holds f.all frames rows p is x q.0 q.1 (omega (arith, begin_g, from)) (omega (arith, begin_h, from_h)) q.3 in
        let dn = in_log a t ts _ f.holds f.all c.2 c.0 c.6 in
        let en = in_log a t ts _ f.holds f.all c.3 c.1 c.7 in
        let X = in_segment a t ts _ f.holds f.all w.first (length (all_done ts) + c.0) dn.event (omega (arith, low, low_g))
        (subst (λ k. start_of a.segments.items a.events.items w.first ≤ k) (sym c.4) from)
        (subst (λ k. k < start_of a.segments.items a.events.items (suc w.first)) (sym c.4) w.to) dn.there in
        let Y = in_segment a t ts _ f.holds f.all w.second (length (all_done ts) + c.1) en.event (omega (arith, low, low_g, rise))
        (subst (λ k. start_of a.segments.items a.events.items w.second ≤ k) (sym c.5) from_h)
        (subst (λ k. k < start_of a.segments.items a.events.items (suc w.second)) (sym c.5) w.within) en.there in
        let px = operand_here w.first 0 dn.event low_g X.0 X.1 in
        let py = operand_here w.second 0 en.event (omega (arith, low_g, rise)) Y.0 Y.1 in
        let up = beside_less t.scope X.0 Y.0 (beside_at a t ts f w.first w.second X.0 Y.0 (omega (arith, low, low_g)) rise X.1 Y.1) in
        let node_d = ap (λ (z : Place). z.node) (same_Some _ _ dn.at) in
        let node_e = ap (λ (z : Place). z.node) (same_Some _ _ en.at) in
        let in_x = held X.0 dn.event.node c.2.place.node dn.event.kind node_d X.2 in
        let in_y = held Y.0 en.event.node c.3.place.node en.event.kind node_e Y.2 in
        record {
          one = c.2;
          other = c.3;
          one_done = (c.0, c.6);
          other_done = (c.1, c.7);
          pair = record {
            first = X.0;
            second = Y.0;
            of_first = operand_of_this X.0 px.0 px.1;
            of_second = operand_of_this Y.0 py.0 py.1;
            rise = up;
            in_first = in_x;
            in_second = in_y;
          };
          apart = apart_two t.scope n tell.class tell.operands tell.ruled.there X.0 Y.0 px.0 py.0 px.1 py.1 up c.2.place c.3.place in_x in_y no_choice no_comma;
          of = c.8;
        }
      where
        operand_of_this : (m i : ℕ) → IsOperandOf t.scope n tell.class tell.operands i m → IsOperandIn t.scope n m
        operand_of_this m i o = record { class = tell.class; operands = tell.operands; there = tell.ruled.there; index = i; of = o }

        held : (m x y : ℕ) (k : Kind) → x ≡ y → IsBelow t.scope m (place x k) → IsIn t.scope m y
        held m x y k e b = let l = b.low in let r = b.high in
            record { part = b.part; there = b.there; low = omega (arith, e, l); high = omega (arith, e, r) }

    pub from_told : (x : Found) → IsConflictIn frames rows t (AreOfOperands t n) x →
        IsOfPair frames rows p a.events.items a.items.items (AreBetween a.segments.items a.events.items at) x
    from_told x q =
        let two = q.pair in
        let d = q.one in
        let e = q.other in
        let P = in_log a t ts _ f.holds f.all d q.one_done.0 q.one_done.1 in
        let Q = in_log a t ts _ f.holds f.all e q.other_done.0 q.other_done.1 in
        let op = operand_of rows a t ts f n rule chosen tell fresh d _ P (behind_first two.first d.place.node two.of_first two.in_first) in
        let oq = operand_of rows a t ts f n rule chosen tell fresh e _ Q (behind_first two.second e.place.node two.of_second two.in_second) in
        let first = same_operand t.scope n two.first P.of d.place.node two.of_first (operand_of_this P.of op.0 op.1) two.in_first (in_part P.of d.place P.below)
        in
        let second = same_operand t.scope n two.second Q.of e.place.node two.of_second (operand_of_this Q.of oq.0 oq.1) two.in_second
        (in_part Q.of e.place Q.below) in
        let less = two.rise in
        let rise : P.of < Q.of = omega (arith, first, second, less) in (
          length (all_done ts) + q.one_done.0,
          length (all_done ts) + q.other_done.0,
          record {
            first = P.segment;
            second = Q.segment;
            low = least P.segment (operand_at a t ts f n P.segment P.of P.low P.own (operand_less P.of op.0 op.1));
            rise = ⊎_elim (λ z. z)
                (λ le. absurd (⊎_elim
                (λ back. let b = beside_less t.scope Q.of P.of (beside_at a t ts f Q.segment P.segment Q.of P.of Q.low back Q.own P.own) in
                omega (arith, b, rise))
                (λ ge. let z = same_Some P.of Q.of (sym P.own ∙ (ap (λ g. node_of (slice_get a.segments.items g)) (omega (arith, le, ge)) ∙ Q.own)) in
                omega (arith, z, rise))
                (before_or_past Q.segment P.segment)))
                (before_or_past P.segment Q.segment);
            from = P.from;
            to = P.to;
            behind = Q.from;
            within = Q.to;
          },
          conflict_logged a t ts _ f.holds f.all frames rows p is x d e _ _ P Q q.of,
        )
      where
        operand_of_this : (m i : ℕ) → IsOperandOf t.scope n tell.class tell.operands i m → IsOperandIn t.scope n m
        operand_of_this m i o = record { class = tell.class; operands = tell.operands; there = tell.ruled.there; index = i; of = o }

        in_part : (m : ℕ) (u : Place) → IsBelow t.scope m u → IsIn t.scope m u.node
        in_part m u b = record { part = b.part; there = b.there; low = b.low; high = b.high }

        operand_less : (m i : ℕ) → IsOperandOf t.scope n tell.class tell.operands i m → n < m
        operand_less m i o = let l = (side_at (suc n) tell.operands i o.side o.there).low in let e = o.number in omega (arith, l, e)

        behind_first : (m x : ℕ) → IsOperandIn t.scope n m → IsIn t.scope m x → n < x
        behind_first m x o i =
            let l = (side_at (suc n) o.operands o.index o.of.side o.of.there).low in
            let e = o.of.number in
            let low = i.low in
            omega (arith, l, e, low)

-- the same conflicts by another word
pub first_alike : (frames : List FrameRow) (P Q : Found → Type 0) (o : Option Found) → ((x : Found) → P x → Q x) → ((x : Found) → Q x → P x) →
    IfSome o (IsFirst frames P) → IfSome o (IsFirst frames Q)
first_alike frames P Q None there back h = tt
first_alike frames P Q (Some x) there back h = (there x h.0, λ g q. h.1 g (back g q))

pub first_some : (frames : List FrameRow) (P : Found → Type 0) (o : Option Found) → IsFirstOf frames P o → IfSome o (IsFirst frames P)
first_some frames P None h = tt
first_some frames P (Some x) h = h

-- ---- of what a search gave, whose lists are these
abbrev Gives : {E : Type 0} → Result (Option Found) E → ℕ → List FrameRow → List Row → Expression → List Logged → List Item → List Segment → Type 0
Gives r at frames rows p es is ss = AreSorted ss es at → AreRising ss es at → AreOnce es (start_of ss es at) →
    IfOk r (IsFirstOf frames (IsOfPair frames rows p es is (AreBetween ss es at)))

pub between_moved : {E : Type 0} (r : Result (Option Found) E) (at : ℕ) (frames gf : List FrameRow) (rows gr : List Row) (p gp : Expression)
    (es ge : List Logged)
    (is gi : List Item) (ss gs : List Segment) → gf ≡ frames → gr ≡ rows → gp ≡ p → ge ≡ es → gi ≡ is → gs ≡ ss → Gives r at gf gr gp ge gi gs →
    Gives r at frames rows p es is ss
between_moved r at frames gf rows gr p gp es ge is gi ss gs ef er ep ee ei eg h =
    subst (λ (x : List FrameRow). Gives r at x rows p es is ss) ef
    (subst (λ (x : List Row). Gives r at gf x p es is ss) er
    (subst (λ (x : Expression). Gives r at gf gr x es is ss) ep
    (subst (λ (x : List Logged). Gives r at gf gr gp x is ss) ee
    (subst (λ (x : List Item). Gives r at gf gr gp ge x ss) ei
    (subst (λ (x : List Segment). Gives r at gf gr gp ge gi x) eg h)))))

-- segments of which only what is kept beside them has changed
pub start_alike : (ss gs : List Segment) (es ge : List Logged) (g : ℕ) → marks (slice_get gs g) ≡ marks (slice_get ss g) → ge ≡ es →
    start_of gs ge g ≡ start_of ss es g
start_alike ss gs es ge g m e = by_marks es ge (slice_get ss g) (slice_get gs g) m e
  where
    by_marks : (es ge : List Logged) (o q : Option Segment) → marks q ≡ marks o → ge ≡ es → first_event ge q ≡ first_event es o
    by_marks es ge None None m e = ap length e
    by_marks es ge None (Some t) m e = absurd (cc)
    by_marks es ge (Some s) None m e = absurd (cc)
    by_marks es ge (Some s) (Some t) m e = ap (λ (x : ℕ × ℕ × ℕ). x.0) (same_Some _ _ m)

module _ (ss gs : List Segment) (es ge : List Logged) (at : ℕ) (alike : (g : ℕ) → marks (slice_get gs g) ≡ marks (slice_get ss g)) (same : ge ≡ es) where
  starts : (g : ℕ) → start_of gs ge g ≡ start_of ss es g
  starts g = start_alike ss gs es ge g (alike g) same

  pub rising_alike : AreRising ss es at → AreRising gs ge at
  rising_alike rising g h k l d e low less from to from_h to_h at_k at_l =
      let a = starts g in
      let b = starts (suc g) in
      let c = starts h in
      let x = starts (suc h) in
      rising g h k l d e low less (omega (arith, a, from)) (omega (arith, b, to)) (omega (arith, c, from_h)) (omega (arith, x, to_h))
      (ap (λ es. slice_get es k) (sym same) ∙ at_k) (ap (λ es. slice_get es l) (sym same) ∙ at_l)

  pub once_alike : AreOnce es (start_of ss es at) → AreOnce ge (start_of gs ge at)
  once_alike once k l d e low_k low_l at_k at_l =
      let a = starts at in
      once k l d e (omega (arith, a, low_k)) (omega (arith, a, low_l)) (ap (λ es. slice_get es k) (sym same) ∙ at_k)
      (ap (λ es. slice_get es l) (sym same) ∙ at_l)

  pub between_there : (a b : ℕ) → AreBetween gs ge at a b → AreBetween ss es at a b
  between_there a b w =
      let f = starts w.first in
      let g = starts (suc w.first) in
      let h = starts w.second in
      let k = starts (suc w.second) in
      let from = w.from in
      let to = w.to in
      let behind = w.behind in
      let within = w.within in
      record {
        first = w.first;
        second = w.second;
        low = w.low;
        rise = w.rise;
        from = omega (arith, f, from);
        to = omega (arith, g, to);
        behind = omega (arith, h, behind);
        within = omega (arith, k, within);
      }

  pub between_back_there : (a b : ℕ) → AreBetween ss es at a b → AreBetween gs ge at a b
  between_back_there a b w =
      let f = starts w.first in
      let g = starts (suc w.first) in
      let h = starts w.second in
      let k = starts (suc w.second) in
      let from = w.from in
      let to = w.to in
      let behind = w.behind in
      let within = w.within in
      record {
        first = w.first;
        second = w.second;
        low = w.low;
        rise = w.rise;
        from = omega (arith, f, from);
        to = omega (arith, g, to);
        behind = omega (arith, h, behind);
        within = omega (arith, k, within);
      }

-- the first conflict between segments that were the same
pub several_first : (frames : List FrameRow) (rows : List Row) (ss gs : List Segment) (es ge : List Logged) (is gi : List Item) (ls gl : List Level) (at : ℕ)
    (r : Option Found) (free : Bool) → free ≡ true → ((g : ℕ) → marks (slice_get gs g) ≡ marks (slice_get ss g)) → ge ≡ es → gi ≡ is → gl ≡ ls →
    IsFirstOf frames (IsOfPair frames rows (expression_in (slice_get gl (length gl - 1))) ge gi (AreBetween gs ge at)) r →
    IfSome r (λ f. (free ≡ true) × IsFirst frames (IsOfPair frames rows (expression_in (slice_get ls (length ls - 1))) es is (AreBetween ss es at)) f)
several_first frames rows ss gs es ge is gi ls gl at None free own alike ee ei el h = tt
several_first frames rows ss gs es ge is gi ls gl at (Some x) free own alike ee ei el h = (
  own,
  first_plain frames (IsOfPair frames rows (expression_in (slice_get gl (length gl - 1))) ge gi (AreBetween gs ge at))
      (IsOfPair frames rows (expression_in (slice_get ls (length ls - 1))) es is (AreBetween ss es at)) x
      (λ f q. (
        q.0,
        q.1,
        between_there ss gs es ge at alike ee q.0 q.1 q.2,
        of_moved (slice_get gl (length gl - 1)) (slice_get ls (length ls - 1)) (ap (λ xs. slice_get xs (length xs - 1)) el) es ge is gi ee ei q.0 q.1 f q.3,
      ))
      (λ f q. (
        q.0,
        q.1,
        between_back_there ss gs es ge at alike ee q.0 q.1 q.2,
        of_moved (slice_get ls (length ls - 1)) (slice_get gl (length gl - 1)) (sym (ap (λ xs. slice_get xs (length xs - 1)) el)) ge es gi is (sym ee) (sym ei)
            q.0 q.1 f q.3,
      )) h,
)
  where
    of_moved : (o q : Option Level) → o ≡ q → (es ge : List Logged) (is gi : List Item) → ge ≡ es → gi ≡ is → (a b : ℕ) (f : Found) →
        IsOf frames rows (expression_in o) ge gi a b f → IsOf frames rows (expression_in q) es is a b f
    of_moved o q eo es ge is gi ee ei a b f h =
        subst (λ (x : Option Level). IsOf frames rows (expression_in x) es is a b f) eo
        (subst (λ (x : List Logged). IsOf frames rows (expression_in o) x is a b f) ee
        (subst (λ (x : List Item). IsOf frames rows (expression_in o) ge x a b f) ei h))

    first_plain : (frames : List FrameRow) (P Q : Found → Type 0) (x : Found) → ((f : Found) → P f → Q f) → ((f : Found) → Q f → P f) →
        IsFirst frames P x → IsFirst frames Q x
    first_plain frames P Q x there back h = (there x h.0, λ g q. h.1 g (back g q))

-- the frame on top by its name
pub expression_is : (a : Evaluations) (t : Opened) → IsNamed a t →
    expression_in (slice_get a.levels.items (length a.levels.items - 1)) ≡ record { frame = t.frame; turn = t.turn }
expression_is a t h = by_name (slice_get a.levels.items (length a.levels.items - 1)) h
  where
    by_name : (o : Option Level) → name_of o ≡ Some (t.frame, t.turn) → expression_in o ≡ record { frame = t.frame; turn = t.turn }
    by_name None h = absurd (cc)
    by_name (Some l) h = let e = same_Some _ _ h in (λ i. record { frame = (e i).0; turn = (e i).1 })

-- ---- operands that are done
pub operands_first : (a : Evaluations) (t : Opened) (ts : List Opened) (f : Follows (t ∷ ts) a) (n : ℕ) (rule : Rule) (chosen : Bool)
    (tell : TellsNode t n rule chosen) (fresh : t.parts n ≡ false) (loose : SequencesNone t.scope n rule) (at : ℕ) (low : base_of a.levels.items ≤ at)
    (least : (g : ℕ) → IsOperand a.segments.items a.levels.items n g → at ≤ g)
    (behind : (g m : ℕ) → at ≤ g → node_of (slice_get a.segments.items g) ≡ Some m → n < m) (frames : List FrameRow) (rows : List Row) (r : Option Found) →
    IfSome r (λ x. (is_unsequenced rule ≡ true) × IsFirst frames (IsOfPair frames rows (expression_in (slice_get a.levels.items (length a.levels.items - 1)))
    a.events.items a.items.items (AreBetween a.segments.items a.events.items at)) x) →
    IfSome r (IsFirst frames (IsConflictIn frames rows t (AreOfOperands t n)))
operands_first a t ts f n rule chosen tell fresh loose at low least behind frames rows None h = tt
operands_first a t ts f n rule chosen tell fresh loose at low least behind frames rows (Some x) h =
    let p = expression_in (slice_get a.levels.items (length a.levels.items - 1)) in
    let is = expression_is a t (named_all a t ts f) in
    let c = loose h.0 tell.class tell.operands tell.ruled.there in (
      to_told a t ts f n rule chosen tell fresh at low least behind frames rows p is c.0 c.1 x h.1.0,
      λ g q. h.1.1 g (from_told a t ts f n rule chosen tell fresh at low least behind frames rows p is g q),
    )
