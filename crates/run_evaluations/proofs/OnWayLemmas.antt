-- The first conflict between operands of the nodes on a way.
use Rattle.std.proofs.Common.{◌≡◌, ◌⊎◌, inl, inr, ⊎_elim, ℕ, zero, suc, ◌≤◌, ◌<◌, ◌+◌, ◌-◌, Bool, true, false, List, length, refl, sym, ap, ◌∙◌, arith, Option}
use Rattle.std.proofs.Common.{Some}
use Rattle.std.proofs.Common.{None, subst}
use Rattle.std.specs.Prelude.{slice_get}
use Rattle.std.proofs.lemmas.Option.{slice_get_within, same_Some}
use Rattle.ub_base.specs.declared.names.Item.{Item}
use Rattle.ub_base.specs.Frames.{Row as FrameRow}
use Rattle.addr_map.specs.declared.map.Row.{Row}
use Rattle.evaluation_log.specs.declared.found.Found.{Found}
use Rattle.evaluation_log.specs.declared.log.Logged.{Logged}
use Rattle.evaluation_log.specs.declared.log.Segment.{Segment}
use Rattle.evaluation_log.specs.declared.level.Level.{Level}
use Rattle.evaluation_log.specs.declared.rules.Rule.{Rule}
use Rattle.evaluation_log.specs.declared.rules.Rules.{Rules}
use Rattle.evaluation_log.specs.Clashes.{AreSorted}
use Rattle.evaluation_log.specs.FoundItems.{first_found}
use Rattle.evaluation_log.specs.Kept.{IsOperand, base_of, is_unsequenced}
use Rattle.evaluation_log.specs.Touched.{start_of}
use Rattle.evaluation_log.specs.Ways.{rule_in, IsRising, node_of}
use Rattle.evaluation_log.proofs.BetweenLemmas.{rises_to, start_past}
use Rattle.evaluation_log.proofs.KeptLemmas.{before_or_past}
use Rattle.evaluation_search.specs.declared.log.Place.{Place as Expression}
use Rattle.evaluation_search.specs.First.{AreBetween, AreFrom, AreOnce, AreRising, IsFirstOf, IsOf, IsOfPair}
use Rattle.evaluation_search.proofs.BetweenFirst.{locate}
use Rattle.evaluation_search.proofs.FirstLemmas.{alike, both}
use Rattle.run_evaluations.specs.declared.open.Evaluations.{Evaluations}
use Rattle.run_evaluations.specs.First.{IsTopPair, expression_in}
use Rattle.run_evaluations.specs.Ways.{AreBehindOperand, AreOnWay, IsNearest, StandInOrder}
use Rattle.run_evaluations.proofs.WayLemmas.{Shape, joined_later, stands, node_at}

-- the same pairs by another word
pub pairs_alike : (frames : List FrameRow) (rows : List Row) (p : Expression) (es : List Logged) (is : List Item) (P Q : ℕ → ℕ → Type 0) (o : Option Found) →
    ((a b : ℕ) → P a b → Q a b) → ((a b : ℕ) → Q a b → P a b) → IsFirstOf frames (IsOfPair frames rows p es is P) o →
    IsFirstOf frames (IsOfPair frames rows p es is Q) o
pairs_alike frames rows p es is P Q o there back h =
    alike frames (IsOfPair frames rows p es is P) (IsOfPair frames rows p es is Q) o
    (λ f q. (q.0, q.1, there q.0 q.1 q.2, q.3)) (λ f q. (q.0, q.1, back q.0 q.1 q.2, q.3)) h

-- ---- between the operands of one node
module _ (o : Evaluations) (n at : ℕ) (sorted : AreSorted o.segments.items o.events.items 0) (low : base_of o.levels.items ≤ at)
    (least : (g : ℕ) → IsOperand o.segments.items o.levels.items n g → at ≤ g)
    (behind : (k : ℕ) (s : Segment) → at ≤ k → slice_get o.segments.items k ≡ Some s → n < s.node) where
  abbrev start : ℕ → ℕ
  start = start_of o.segments.items o.events.items

  rise_to : (g h : ℕ) → g ≤ h → start g ≤ start h
  rise_to g h le = rises_to start 0 g h (λ k more. (sorted k more).0) (omega arith) le

  pub order_once : (x : StandInOrder o) → AreOnce o.events.items (start at)
  order_once x k l d e low_k low_l at_k at_l = let b = x.begins at low in x.once k l d e (omega (arith, b, low_k)) (omega (arith, b, low_l)) at_k at_l

  pub order_rising : (x : StandInOrder o) → AreRising o.segments.items o.events.items at
  order_rising x g h k l d e le = x.rising g h k l d e (omega (arith, low, le))

  operand_there : (rule : Rule) (free : is_unsequenced rule ≡ true) (a b : ℕ) → AreBetween o.segments.items o.events.items at a b →
      AreBehindOperand o n rule a b
  operand_there rule free a b w =
      let rise = w.rise in
      let le = w.low in
      let r = rise_to (suc w.first) w.second (omega (arith, rise)) in
      let high = (sorted (suc w.second) (omega arith)).1 in
      let from = w.behind in
      let to = w.within in
      record {
        free = free;
        segment = w.first;
        operand = (omega (arith, low, le), λ k s more there. behind k s (omega (arith, le, more)) there);
        events = record { from = w.from; to = w.to; behind = omega (arith, r, from); within = omega (arith, to, high) };
      }

  operand_back : (rule : Rule) (a b : ℕ) → AreBehindOperand o n rule a b → AreBetween o.segments.items o.events.items at a b
  operand_back rule a b w =
      let ss = o.segments.items in
      let es = o.events.items in
      let g = w.segment in
      let m = suc (length ss) in
      let past : start (suc g + m) ≡ length es = start_past ss es (suc g + m) (omega arith) in
      let inside = w.events.within in
      let l = locate ss es m (suc g) b w.events.behind (omega (arith, past, inside)) in
      let lg = l.1 in
      record {
        first = g;
        second = l.0;
        low = least g w.operand;
        rise = omega (arith, lg);
        from = w.events.from;
        to = w.events.to;
        behind = l.2;
        within = l.3;
      }

  pub of_node_first : (frames : List FrameRow) (rows : List Row) (rule : Rule) → is_unsequenced rule ≡ true → (r : Option Found) →
      IsFirstOf frames (IsTopPair frames rows o (AreBetween o.segments.items o.events.items at)) r →
      IsFirstOf frames (IsTopPair frames rows o (AreBehindOperand o n rule)) r
  of_node_first frames rows rule free r h =
      pairs_alike frames rows (expression_in (slice_get o.levels.items (length o.levels.items - 1))) o.events.items o.items.items
      (AreBetween o.segments.items o.events.items at) (AreBehindOperand o n rule) r (operand_there rule free) (operand_back rule) h

  -- of one operand, or none
  pub of_node_few : (frames : List FrameRow) (rows : List Row) (rule : Rule) → length o.segments.items ≤ suc at →
      IsFirstOf frames (IsTopPair frames rows o (AreBehindOperand o n rule)) None
  of_node_few frames rows rule few f q =
      let w = operand_back rule q.0 q.1 q.2 in
      let le = w.low in
      let rise = w.rise in
      let from = w.behind in
      let to = w.within in
      let x = start_past o.segments.items o.events.items w.second (omega (arith, few, le, rise)) in
      let y = start_past o.segments.items o.events.items (suc w.second) (omega (arith, few, le, rise)) in
      absurd (omega (arith, x, y, from, to))

-- of operands that are sequenced
pub of_node_none : (o : Evaluations) (n : ℕ) (frames : List FrameRow) (rows : List Row) (rule : Rule) → is_unsequenced rule ≡ false →
    IsFirstOf frames (IsTopPair frames rows o (AreBehindOperand o n rule)) None
of_node_none o n frames rows rule h f q = let z = sym h ∙ q.2.free in absurd (cc)

-- ---- one node further up
module _ (old cur : Evaluations) (above : List ℕ) (p c n : ℕ) (shape : Shape old cur above (suc p) c) (rising : IsRising above)
    (here : slice_get above p ≡ Some n) (sorted : AreSorted old.segments.items old.events.items 0)
    (sorted_cur : AreSorted cur.segments.items cur.events.items 0) where
  abbrev was : ℕ → ℕ
  was = start_of old.segments.items old.events.items

  abbrev is : ℕ → ℕ
  is = start_of cur.segments.items cur.events.items

  was_rise : (g h : ℕ) → g ≤ h → was g ≤ was h
  was_rise g h le = rises_to was 0 g h (λ k more. (sorted k more).0) (omega arith) le

  is_rise : (g h : ℕ) → g ≤ h → is g ≤ is h
  is_rise g h le = rises_to is 0 g h (λ k more. (sorted_cur k more).0) (omega arith) le

  same_start : (g : ℕ) → g ≤ c → is g ≡ was g
  same_start g le = ap (λ es. start_of cur.segments.items es g) shape.rest.events ∙ shape.starts g le

  all_events : length cur.events.items ≡ length old.events.items
  all_events = ap length shape.rest.events

  base_is : base_of cur.levels.items ≡ base_of old.levels.items
  base_is = ap base_of shape.rest.levels

  -- behind the joined segment nothing begins
  past_joined : (g : ℕ) → c < g → is g ≡ length old.events.items
  past_joined g more =
      let h = shape.high in
      let a = start_past cur.segments.items cur.events.items g (omega (arith, h, more)) in
      let b = all_events in
      omega (arith, a, b)

  -- what stands in order stands so when operands are made one
  pub order_kept : StandInOrder old → StandInOrder cur
  order_kept x = record {
    from = x.from;
    begins = λ g low. ⊎_elim
        (λ past.
        let a = past_joined g past in
        let b = base_is in
        let l = x.begins g (omega (arith, b, low)) in
        let r = (sorted g (omega arith)).1 in
        omega (arith, a, l, r))
        (λ le. let e = same_start g le in let b = base_is in let l = x.begins g (omega (arith, b, low)) in omega (arith, e, l))
        (before_or_past c g);
    once = subst (λ (es : List Logged). AreOnce es x.from) (sym shape.rest.events) x.once;
    rising = λ g h k l d e low less from to from_h to_h at_k at_l.
        let at_k_old = ap (λ es. slice_get es k) (sym shape.rest.events) ∙ at_k in
        let at_l_old = ap (λ es. slice_get es l) (sym shape.rest.events) ∙ at_l in
        let base = base_is in
        let inside = slice_get_within old.events.items l e at_l_old in
        ⊎_elim
        (λ under.
        let sg = same_start g (omega (arith, under)) in
        let ssg = same_start (suc g) (omega (arith, under)) in
        ⊎_elim
        (λ under_h.
        let sh = same_start h (omega (arith, under_h)) in
        let ssh = same_start (suc h) (omega (arith, under_h)) in
        x.rising g h k l d e (omega (arith, base, low)) less (omega (arith, sg, from)) (omega (arith, ssg, to)) (omega (arith, sh, from_h))
        (omega (arith, ssh, to_h)) at_k_old at_l_old)
        (λ past.
        let sc = same_start c (omega arith) in
        let up = is_rise c h past in
        let m = suc (length old.segments.items) in
        let end = start_past old.segments.items old.events.items (c + m) (omega arith) in
        let q = locate old.segments.items old.events.items m c l (omega (arith, sc, up, from_h)) (omega (arith, end, inside)) in
        let qc = q.1 in
        x.rising g q.0 k l d e (omega (arith, base, low)) (omega (arith, under, qc)) (omega (arith, sg, from)) (omega (arith, ssg, to)) q.2 q.3
        at_k_old at_l_old)
        (before_or_past h c))
        (λ past. absurd (let z = past_joined h (omega (arith, past, less)) in omega (arith, z, from_h, inside)))
        (before_or_past g c);
  }

  module _ (rules : Rules) (rule : Rule) (is_rule : rule ≡ rule_in rules n) where
    to_way : (a b : ℕ) → AreBehindOperand cur n rule a b → AreOnWay rules above old p a b
    to_way a b w =
        let g = w.segment in
        let from = w.events.from in
        let to = w.events.to in
        let next = w.events.behind in
        let inside = w.events.within in
        let all = all_events in
        let under : g < c = ⊎_elim (λ u. u)
        (λ past. absurd (let z = past_joined (suc g) (omega (arith, past)) in omega (arith, z, next, inside, all))) (before_or_past g c) in
        let sg = same_start g (omega (arith, under)) in
        let ssg = same_start (suc g) (omega (arith, under)) in
        record {
          place = p;
          low = omega arith;
          node = n;
          segment = g;
          near = (
            here,
            (
              subst (λ (ls : List Level). base_of ls ≤ g) shape.rest.levels w.operand.0,
              λ k s more at. ⊎_elim
                  (λ less. let t = node_at (slice_get old.segments.items k) (slice_get cur.segments.items k) s (shape.nodes k less) at in
                  let l = w.operand.1 k t.0 more t.1 in omega (arith, l, t.2))
                  (λ past.
                  let b = shape.behind k past (slice_get_within old.segments.items k s at) in
                  let up = rising p b.0 n b.1 (omega (arith, b.2)) here b.3 in
                  let l = b.4.1 k s (omega arith) at in
                  omega (arith, up, l))
                  (before_or_past k c),
            ),
            λ k m more at of. shape.front g k m under (omega (arith, more)) at of,
          );
          free = ap is_unsequenced (sym is_rule) ∙ w.free;
          events = record {
            from = omega (arith, sg, from);
            to = omega (arith, ssg, to);
            behind = omega (arith, ssg, next);
            within =
                omega (arith, inside, all);
          };
        }

    from_way : (a b : ℕ) (w : AreOnWay rules above old p a b) → (w.place ≡ p) → AreBehindOperand cur n rule a b
    from_way a b w same =
        let g = w.segment in
        let from = w.events.from in
        let to = w.events.to in
        let next = w.events.behind in
        let inside = w.events.within in
        let all = all_events in
        let m_is : w.node ≡ n = same_Some w.node n (sym w.near.0 ∙ (ap (slice_get above) same ∙ here)) in
        let of : IsOperand old.segments.items old.levels.items n g =
        subst (λ (x : ℕ). IsOperand old.segments.items old.levels.items x g) m_is w.near.1 in
        let there : g < length old.segments.items = ⊎_elim (λ u. u)
        (λ past. absurd (let z = start_past old.segments.items old.events.items g past in omega (arith, z, from, to, next, inside)))
        (before_or_past g (length old.segments.items)) in
        let under : g < c = ⊎_elim (λ u. u)
        (λ past. absurd (let b = shape.behind g past there in w.near.2 b.0 b.1 (omega (arith, b.2, same)) b.3 b.4)) (before_or_past g c) in
        let sg = same_start g (omega (arith, under)) in
        let ssg = same_start (suc g) (omega (arith, under)) in
        record {
          free = ap is_unsequenced is_rule ∙ (ap (λ x. is_unsequenced (rule_in rules x)) (sym m_is) ∙ w.free);
          segment = g;
          operand = stands old cur above p c n shape rising here g of under;
          events = record {
            from = omega (arith, sg, from);
            to = omega (arith, ssg, to);
            behind = omega (arith, ssg, next);
            within =
                omega (arith, inside, all);
          };
        }

    -- with this node the first conflict of those from here on
    pub way_first : (frames : List FrameRow) (rows : List Row) (best found r : Option Found) → r ≡ first_found frames best found →
        IsFirstOf frames (IsTopPair frames rows old (AreOnWay rules above old (suc p))) best →
        IsFirstOf frames (IsTopPair frames rows cur (AreBehindOperand cur n rule)) found →
        IsFirstOf frames (IsTopPair frames rows old (AreOnWay rules above old p)) r
    way_first frames rows best found r e before now =
        subst (IsFirstOf frames (IsTopPair frames rows old (AreOnWay rules above old p))) (sym e)
        (alike frames (λ x. IsTopPair frames rows old (AreOnWay rules above old (suc p)) x ⊎ IsTopPair frames rows cur (AreBehindOperand cur n rule) x)
        (IsTopPair frames rows old (AreOnWay rules above old p)) (first_found frames best found)
        (λ f one. ⊎_elim
        (λ q. (q.0, q.1, lower q.0 q.1 q.2, q.3))
        (λ q. (q.0, q.1, to_way q.0 q.1 q.2, of_old q.0 q.1 f q.3)) one)
        (λ f q. ⊎_elim
        (λ more. inl (q.0, q.1, raise q.0 q.1 q.2 more, q.3))
        (λ same. inr (q.0, q.1, from_way q.0 q.1 q.2 (let l = q.2.low in omega (arith, same, l)), of_cur q.0 q.1 f q.3))
        (before_or_past p q.2.place))
        (both frames (IsTopPair frames rows old (AreOnWay rules above old (suc p))) (IsTopPair frames rows cur (AreBehindOperand cur n rule)) best found before
        now))
      where
        lower : (a b : ℕ) → AreOnWay rules above old (suc p) a b → AreOnWay rules above old p a b
        lower a b w = let l = w.low in
            record { place = w.place; low = omega (arith, l); node = w.node; segment = w.segment; near = w.near; free = w.free; events = w.events }

        raise : (a b : ℕ) (w : AreOnWay rules above old p a b) → p < w.place → AreOnWay rules above old (suc p) a b
        raise a b w more = record {
          place = w.place;
          low = omega (arith, more);
          node = w.node;
          segment = w.segment;
          near = w.near;
          free = w.free;
          events =
              w.events;
        }

        -- the log and the frame on top are the same
        moved : (a b : ℕ) (f : Found) (ls gs : List Level) (es xs : List Logged) (js ys : List Item) → ls ≡ gs → es ≡ xs → js ≡ ys →
            IsOf frames rows (expression_in (slice_get ls (length ls - 1))) es js a b f →
            IsOf frames rows (expression_in (slice_get gs (length gs - 1))) xs ys a b f
        moved a b f ls gs es xs js ys el ee ej h =
            subst (λ (z : List Level). IsOf frames rows (expression_in (slice_get z (length z - 1))) xs ys a b f) el
            (subst (λ (z : List Logged). IsOf frames rows (expression_in (slice_get ls (length ls - 1))) z ys a b f) ee
            (subst (λ (z : List Item). IsOf frames rows (expression_in (slice_get ls (length ls - 1))) es z a b f) ej h))

        of_old : (a b : ℕ) (f : Found) → IsOf frames rows (expression_in (slice_get cur.levels.items (length cur.levels.items - 1))) cur.events.items
            cur.items.items a b f →
            IsOf frames rows (expression_in (slice_get old.levels.items (length old.levels.items - 1))) old.events.items old.items.items a b f
        of_old a b f h = moved a b f cur.levels.items old.levels.items cur.events.items old.events.items cur.items.items old.items.items
            shape.rest.levels shape.rest.events shape.rest.items h

        of_cur : (a b : ℕ) (f : Found) → IsOf frames rows (expression_in (slice_get old.levels.items (length old.levels.items - 1))) old.events.items
            old.items.items a b f →
            IsOf frames rows (expression_in (slice_get cur.levels.items (length cur.levels.items - 1))) cur.events.items cur.items.items a b f
        of_cur a b f h = moved a b f old.levels.items cur.levels.items old.events.items cur.events.items old.items.items cur.items.items
            (sym shape.rest.levels) (sym shape.rest.events) (sym shape.rest.items) h

-- ---- along the way
pub way_none : (frames : List FrameRow) (rows : List Row) (rules : Rules) (above : List ℕ) (o : Evaluations) (i : ℕ) → length above ≤ i →
    IsFirstOf frames (IsTopPair frames rows o (AreOnWay rules above o i)) None
way_none frames rows rules above o i past f q =
    let w = q.2 in
    let low = w.low in
    let l = slice_get_within above w.place w.node w.near.0 in
    absurd (omega (arith, past, low, l))

pub way_at : (frames : List FrameRow) (rows : List Row) (rules : Rules) (above : List ℕ) (o : Evaluations) (best : Option Found) (i p : ℕ) → i ≡ p →
    IsFirstOf frames (IsTopPair frames rows o (AreOnWay rules above o i)) best → IsFirstOf frames (IsTopPair frames rows o (AreOnWay rules above o p)) best
way_at frames rows rules above o best i p e h =
    subst (λ (x : ℕ). IsFirstOf frames (IsTopPair frames rows o (AreOnWay rules above o x)) best) e h
