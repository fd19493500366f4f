-- The conflicts of events of operands on the way to the last event are those of the evaluations that were told.
use Rattle.std.proofs.Common.{◌≡◌, ◌⊎◌, inl, inr, ⊎_elim, ℕ, suc, ◌≤◌, ◌<◌, ◌+◌, ◌-◌, true, List, ◌∷◌, length, refl, sym, ap, ◌∙◌, arith, Option, Some, subst}
use Rattle.std.specs.Prelude.{slice_get}
use Rattle.std.proofs.lemmas.Option.{slice_get_within, same_Some}
use Rattle.ub_base.specs.declared.clause.Kind.{Kind}
use Rattle.ub_base.specs.Frames.{Row as FrameRow}
use Rattle.addr_map.specs.declared.map.Row.{Row}
use Rattle.c_typed.specs.declared.tree.Place.{Place}
use Rattle.c_typed.specs.declared.class.Class.{Class}
use Rattle.c_typed.specs.Tree.{Tree, Trees, node, class_of, operands, size}
use Rattle.c_typed.specs.Order.{place}
use Rattle.evaluation_log.specs.declared.found.Found.{Found}
use Rattle.evaluation_log.specs.declared.log.Logged.{Logged}
use Rattle.evaluation_log.specs.declared.rules.Rules.{Rules}
use Rattle.evaluation_log.specs.Kept.{IsOperand, base_of}
use Rattle.evaluation_log.specs.Sides.{Side, sides_from}
use Rattle.evaluation_log.specs.Touched.{start_of}
use Rattle.evaluation_log.specs.Ways.{above_in, node_of}
use Rattle.evaluation_log.proofs.BetweenLemmas.{rises_to}
use Rattle.evaluation_log.proofs.KeptLemmas.{before_or_past}
use Rattle.evaluation_log.proofs.WayLemmas.{in_rising}
use Rattle.evaluation_search.specs.declared.log.Place.{Place as Expression}
use Rattle.evaluation_search.specs.First.{IsFirstOf, IsOfPair}
use Rattle.evaluation_search.proofs.FirstLemmas.{alike}
use Rattle.run_evaluations.specs.declared.open.Evaluations.{Evaluations}
use Rattle.run_evaluations.specs.First.{IsConflictIn, IsOnce, IsTopPair, expression_in}
use Rattle.run_evaluations.specs.FirstAtEnd.{AllSequenceNone, AreOfWay}
use Rattle.run_evaluations.specs.Follows.{all_done, Follows}
use Rattle.run_evaluations.specs.Scopes.{Scope, IsBelow, IsOperandOf, part_of}
use Rattle.run_evaluations.specs.Shows.{AreOfTwo, EndsTop, FitsRules, IsIn, IsStill}
use Rattle.run_evaluations.specs.Told.{Evaluation, Opened, IsBeside, IsOperandIn, IsUnder}
use Rattle.run_evaluations.specs.Ways.{AreOnWay, StandInOrder}
use Rattle.run_evaluations.proofs.EndShowLemmas.{P, Q, above_has, above_is, holder, later, moved_operand, nearest, no_rule, side_holds, sides_meet}
use Rattle.run_evaluations.proofs.FirstLemmas.{apart_two, begins_low, conflict_logged, conflict_told, expression_is, in_segment, once_log, rising_from}
use Rattle.run_evaluations.proofs.FrameLemmas.{named_all}
use Rattle.run_evaluations.proofs.FullLemmas.{node_some}
use Rattle.run_evaluations.proofs.PartLemmas.{part_range, side_at, side_part, size_some}
use Rattle.run_evaluations.proofs.PendingLemmas.{operand_due}
use Rattle.run_evaluations.proofs.ShowLemmas.{InLog, in_log, same_operand}
use Rattle.run_evaluations.proofs.ToldLemmas.{beside_at, beside_less, operand_at, operand_part, part_at}

tree_shape : (t : Tree) → t ≡ node (class_of t) (operands t)
tree_shape (node c ts) = refl

-- ---- operands of nodes on the way to a node, of one of them
module _ (s : Scope) (n p : ℕ) (c : Class) (ts : Trees) (here : part_of s p ≡ Some (node c ts)) (low : p < n) (high : n < p + size (node c ts)) where
  -- an operand behind this node is one of it, or of a node further down
  beside_where : (k : ℕ) (b : IsBeside s k n) → p < k → (b.above ≡ p) ⊎ (p < b.above)
  beside_where k b behind =
      let q = b.above in
      let us = b.operand.operands in
      let bh = b.way.high in
      let bt = ap size (same_Some b.way.part (node b.operand.class us) (sym b.way.there ∙ b.operand.there)) in
      let less = beside_less s k n b in
      ⊎_elim
      (λ up. absurd (
      let o = holder s q b.operand.class us b.operand.there p up (omega (arith, bh, bt, low)) in
      let ol = o.3 in
      let u = side_holds s q b.operand.class us b.operand.there o.0 o.1 p (node c ts) o.2 here o.3 o.4 in
      let m = b.operand.of.number in
      let z = size_some b.operand.of.side.tree in
      let e = sides_meet (suc q) us o.0 b.operand.index o.1 b.operand.of.side k o.2 b.operand.of.there (omega (arith, ol, behind))
      (omega (arith, u, high, less)) (omega (arith, m)) (omega (arith, m, z)) in
      let w = ap (λ (x : Side). x.number) e in
      omega (arith, w, m, ol, behind)))
      (λ le. ⊎_elim (λ more. inr more) (λ ge. inl (omega (arith, le, ge))) (before_or_past p q))
      (before_or_past q p)

  -- the one that holds the node
  nearer : (i : ℕ) × (d : Side) × (slice_get (sides_from (suc p) ts) i ≡ Some d) × (d.number ≤ n) × (n < d.number + size d.tree)
  nearer = holder s p c ts here n low high

  -- an operand of a node further down stands within it
  deeper_where : (k : ℕ) (b : IsBeside s k n) → p < b.above → nearer.1.number < k
  deeper_where k b more =
      let q = b.above in
      let bl = b.way.low in
      let bh = b.way.high in
      let bt = ap size (same_Some b.way.part (node b.operand.class b.operand.operands) (sym b.way.there ∙ b.operand.there)) in
      let o = holder s p c ts here q more (omega (arith, bl, high)) in
      let ol = o.3 in
      let u = side_holds s p c ts here o.0 o.1 q (node b.operand.class b.operand.operands) o.2 b.operand.there o.3 o.4 in
      let e = sides_meet (suc p) ts o.0 nearer.0 o.1 nearer.1 n o.2 nearer.2 (omega (arith, ol, bl)) (omega (arith, u, bh, bt)) nearer.3 nearer.4 in
      let w = ap (λ (x : Side). x.number) e in
      let l = (side_at (suc q) b.operand.operands b.operand.index b.operand.of.side b.operand.of.there).low in
      let m = b.operand.of.number in
      omega (arith, w, ol, l, m)

-- ---- what is logged of the frame on top
module _ (frames : List FrameRow) (rows : List Row) (a : Evaluations) (t : Opened) (os : List Opened) (f : Follows (t ∷ os) a) (rules : Rules)
    (fits : FitsRules t.scope rules) (last : Evaluation) (ends : EndsTop t last) (tree : Tree) (same : t.scope.tree ≡ tree) (own : Tree)
    (here : part_of t.scope last.place.node ≡ Some own) (free_is : AllSequenceNone t rules) (still : IsStill t.scope) where
  abbrev n : ℕ
  n = last.place.node

  abbrev before : ℕ
  before = length (all_done os)

  abbrev start : ℕ → ℕ
  start = start_of a.segments.items a.events.items

  start_rise : (g h : ℕ) → g ≤ h → start g ≤ start h
  start_rise g h le = rises_to start 0 g h (λ k more. (f.holds.kept.kept.sorted k more).0) (omega arith) le

  pub order : IsOnce t → StandInOrder a
  order once = record {
    from = before;
    begins = λ g low. begins_low a t os _ f.holds f.all g low;
    once = once_log a t os _ f.holds f.all once before (omega arith);
    rising = rising_from a t os f (base_of a.levels.items) (omega arith);
  }

  module _ (target : ℕ) (hit : target ≡ n) (p : Expression) (is : p ≡ record { frame = t.frame; turn = t.turn }) where
    from_told : (x : Found) → IsConflictIn frames rows t (AreOfWay t last) x →
        IsOfPair frames rows p a.events.items a.items.items (AreOnWay rules (above_in 0 tree target) a 0) x
    from_told x q =
        let m = q.pair.0 in
        let way = q.pair.1 in
        let two = q.pair.2 in
        let one = P rows a t os f rules fits last ends tree same own here m way q.one q.other q.one_done q.other_done two in
        let other = Q rows a t os f rules fits last ends tree same own here m way q.one q.other q.one_done q.other_done two in
        let near = nearest rows a t os f rules fits last ends tree same own here m way q.one q.other q.one_done q.other_done two target hit in
        let less = later rows a t os f rules fits last ends tree same own here m way q.one q.other q.one_done q.other_done two in
        let up = start_rise (suc one.segment) other.segment (omega (arith, less)) in
        let from = other.from in (
          before + q.one_done.0,
          before + q.other_done.0,
          record {
            place = near.0;
            low = omega arith;
            node = m;
            segment = one.segment;
            near = near.1;
            free = no_rule rows a t os f rules fits last ends tree same own here m way q.one q.other q.one_done q.other_done two q.apart;
            events = record {
              from = one.from;
              to = one.to;
              behind = omega (arith, up, from);
              within = slice_get_within a.events.items (before + q.other_done.0) other.event other.there;
            };
          },
          conflict_logged a t os _ f.holds f.all frames rows p is x q.one q.other _ _ one other q.of,
        )

    -- an event of an operand's segment, and one behind that
    module _ (w_node w_place g k l : ℕ) (near0 : slice_get (above_in 0 (tree) target) w_place ≡ Some w_node) where
      near_top : slice_get (above_in 0 t.scope.tree n) w_place ≡ Some w_node
      near_top = (λ i. slice_get (above_in 0 (same i) (sym hit i)) w_place) ∙ near0

      up : (x : Tree) × (part_of t.scope w_node ≡ Some x) × (0 ≤ w_node) × (w_node < n) × (n < w_node + size x)
      up =
          let r = (part_range 0 t.scope.tree n own here).high in
          let z = size_some own in
          above_is 0 t.scope.tree n w_place w_node (omega (arith, r, z)) near_top

      here_up : part_of t.scope w_node ≡ Some (node (class_of up.0) (operands up.0))
      here_up = up.1 ∙ ap Some (tree_shape up.0)

      high_up : n < w_node + size (node (class_of up.0) (operands up.0))
      high_up = let e = ap size (tree_shape up.0) in let h = up.4 in omega (arith, e, h)

    to_told : (x : Found) → IsOfPair frames rows p a.events.items a.items.items (AreOnWay rules (above_in 0 tree target) a 0) x →
        IsConflictIn frames rows t (AreOfWay t last) x
    to_told x q =
        let w = q.2 in
        let g = w.segment in
        let m = w.node in
        let low_g = w.near.1.0 in
        let from = w.events.from in
        let next = w.events.behind in
        let begin_g = begins_low a t os _ f.holds f.all g low_g in
        let rise_g = start_rise g (suc g) (omega arith) in
        let c = conflict_told a t os _ f.holds f.all frames rows p is x q.0 q.1 (omega (arith, begin_g, from)) (omega (arith, begin_g, rise_g, next)) q.3 in
        let dn = in_log a t os _ f.holds f.all c.2 c.0 c.6 in
        let en = in_log a t os _ f.holds f.all c.3 c.1 c.7 in
        let X = in_segment a t os _ f.holds f.all g (before + c.0) dn.event low_g (subst (λ k. start g ≤ k) (sym c.4) from)
        (subst (λ k. k < start (suc g)) (sym c.4) w.events.to) dn.there in
        let node_d = ap (λ (z : Place). z.node) (same_Some _ _ dn.at) in
        let in_x = held X.0 dn.event.node c.2.place.node dn.event.kind node_d X.2 in
        let less = behind_it g (before + c.1) en.segment (subst (λ k. start (suc g) ≤ k) (sym c.5) next) en.to in
        let u = up m w.place g q.0 q.1 w.near.0 in
        let low_u = u.3 in
        let hu = here_up m w.place g q.0 q.1 w.near.0 in
        let high_u = high_up m w.place g q.0 q.1 w.near.0 in
        let cl = class_of u.0 in
        let ts = operands u.0 in
        let z = node_some (slice_get a.segments.items g) X.0 X.1 in
        let mz = w.near.1.1 g z.0 (omega arith) z.1 in
        let z_is = z.2 in
        let m_x : m < X.0 = omega (arith, mz, z_is) in
        let of_first = first_operand m w.place g X.0 low_g X.1 en.segment en.of less en.own (near_top m w.place g q.0 q.1 w.near.0) m_x
        (λ k o. w.near.2 k o) cl ts hu low_u high_u in
        let second = second_operand m g X.0 low_g X.1 c.3 (before + c.1) en less of_first m_x cl ts hu low_u high_u in
        let one = moved_operand rows a t os f rules fits last ends tree same own here m cl ts hu X.0 of_first in
        let other = moved_operand rows a t os f rules fits last ends tree same own here m cl ts hu second.0 second.1 in
        let open_here = free_is m w.free cl ts hu in
        record {
          one = c.2;
          other = c.3;
          one_done = (c.0, c.6);
          other_done = (c.1, c.7);
          pair = (
            m,
            record { part = u.0; there = u.1; low = u.3; high = u.4 },
            record {
              first = X.0;
              second = second.0;
              of_first = of_first;
              of_second = second.1;
              rise = second.3;
              in_first = in_x;
              in_second = second.2;
            },
          );
          apart = apart_two t.scope m cl ts hu X.0 second.0 one.0 other.0 one.1 other.1 second.3 c.2.place c.3.place in_x second.2 open_here.0 open_here.1;
          of = c.8;
        }
      where
        held : (m x y : ℕ) (k : Kind) → x ≡ y → IsBelow t.scope m (place x k) → IsIn t.scope m y
        held m x y k e b = let l = b.low in let r = b.high in
            record { part = b.part; there = b.there; low = omega (arith, e, l); high = omega (arith, e, r) }

        behind_it : (g k h : ℕ) → start (suc g) ≤ k → k < start (suc h) → g < h
        behind_it g k h low high = ⊎_elim (λ less. less)
            (λ le. absurd (let r = start_rise (suc h) (suc g) (omega (arith, le)) in omega (arith, r, low, high)))
            (before_or_past g h)

        -- the segment is of an operand of the node
        first_operand : (m j g x : ℕ) → base_of a.levels.items ≤ g → node_of (slice_get a.segments.items g) ≡ Some x → (h y : ℕ) → g < h →
            node_of (slice_get a.segments.items h) ≡ Some y → slice_get (above_in 0 t.scope.tree n) j ≡ Some m → m < x →
            ((k o : ℕ) → j < k → slice_get (above_in 0 tree target) k ≡ Some o → IsOperand a.segments.items a.levels.items o g → ⊥) →
            (c : Class) (ts : Trees) → part_of t.scope m ≡ Some (node c ts) → m < n → n < m + size (node c ts) → IsOperandIn t.scope m x
        first_operand m j g x low_g at_g h y less at_h at_j m_x no_deeper c ts here_m low high =
            let b = beside_at a t os f g h x y low_g less at_g at_h in
            ⊎_elim
            (λ same_x. absurd (
            let past = b.behind own (ap (part_of t.scope) same_x ∙ here) in
            let z = size_some own in
            ⊎_elim (λ same_y. omega (arith, past, z, same_x, same_y))
            (λ by. let l = beside_less t.scope y n by in omega (arith, past, l, same_x))
            (ends.parts y (part_at a t os f h y (omega (arith, low_g, less)) at_h))))
            (λ bx. ⊎_elim
            (λ is_m. subst (λ z. IsOperandIn t.scope z x) is_m bx.operand)
            (λ deep. absurd (
            let k = above_has 0 t.scope.tree n bx.above bx.way.part bx.way.there bx.way.low bx.way.high in
            let l = (side_at (suc bx.above) bx.operand.operands bx.operand.index bx.operand.of.side bx.operand.of.there).low in
            let number = bx.operand.of.number in
            no_deeper k.0 bx.above
            (⊎_elim (λ after. after)
            (λ le. absurd (⊎_elim
            (λ prior. let r = in_rising 0 t.scope.tree n k.0 j bx.above m prior k.1 at_j in omega (arith, r, deep))
            (λ ge. let r = same_Some bx.above m (sym k.1 ∙ (ap (slice_get (above_in 0 t.scope.tree n)) (omega (arith, le, ge)) ∙ at_j)) in
            omega (arith, r, deep))
            (before_or_past k.0 j)))
            (before_or_past j k.0))
            ((λ i. slice_get (above_in 0 (sym same i) (hit i)) k.0) ∙ k.1)
            (operand_at a t os f bx.above g x low_g at_g (omega (arith, l, number)))))
            (beside_where t.scope n m c ts here_m low high x bx m_x))
            (ends.parts x (part_at a t os f g x low_g at_g))

        -- and what stands behind it is of a later one
        second_operand : (m g x : ℕ) → base_of a.levels.items ≤ g → node_of (slice_get a.segments.items g) ≡ Some x → (e : Evaluation) (l : ℕ)
            (en : InLog a t e l) → g < en.segment → IsOperandIn t.scope m x → m < x → (c : Class) (ts : Trees) → part_of t.scope m ≡ Some (node c ts) → m < n →
            n < m + size (node c ts) → (y : ℕ) × IsOperandIn t.scope m y × IsIn t.scope y e.place.node × (x < y)
        second_operand m g x low_g at_g e l en less of_first m_x c ts here_m low high =
            let b = beside_at a t os f g en.segment x en.of low_g less at_g en.own in
            let x_y = beside_less t.scope x en.of b in
            let r = nearer t.scope n m c ts here_m low high in
            let rl = r.3 in
            let rh = r.4 in
            let bl = en.below.low in
            let bh = en.below.high in
            let parts = ends.parts en.of (part_at a t os f en.segment en.of en.low en.own) in
            let up_to : en.of ≤ n = ⊎_elim (λ is. omega (arith, is)) (λ by. let z = beside_less t.scope en.of n by in omega (arith, z)) parts in
            ⊎_elim
            (λ out. ⊎_elim
            (λ is. absurd (omega (arith, is, out, rl)))
            (λ by. ⊎_elim
            (λ is_m. (
              en.of,
              subst (λ z. IsOperandIn t.scope z en.of) is_m by.operand,
              record { part = en.below.part; there = en.below.there; low = en.below.low; high = en.below.high },
              x_y,
            ))
            (λ deep. absurd (let z = deeper_where t.scope n m c ts here_m low high en.of by deep in omega (arith, z, out)))
            (beside_where t.scope n m c ts here_m low high en.of by (omega (arith, m_x, x_y))))
            parts)
            (λ le.
            let within = side_holds t.scope m c ts here_m r.0 r.1 en.of en.below.part r.2 en.below.there le (omega (arith, up_to, rh)) in
            let tree_r = side_part t.scope m c ts here_m r.0 r.1 r.2 in
            let of_r : IsOperandIn t.scope m r.1.number = record {
              class = c;
              operands = ts;
              there = here_m;
              index = r.0;
              of = operand_due t.scope still last.place ends.due m c ts here_m r.0 r.1 r.2 r.3 r.4;
            } in (
              r.1.number,
              of_r,
              record { part = r.1.tree; there = tree_r; low = omega (arith, le, bl); high = omega (arith, within, bh) },
              ⊎_elim (λ rise. rise)
                  (λ back. absurd (
                  let s_x = size_some of_first.of.side.tree in
                  let x_is = same_operand t.scope m x r.1.number x of_first of_r
                  (record { part = of_first.of.side.tree; there = operand_part t.scope m x of_first; low = omega arith; high = omega (arith, s_x) })
                  (record { part = r.1.tree; there = tree_r; low = back; high = omega (arith, x_y, up_to, rh) }) in
                  let past = b.behind r.1.tree (ap (part_of t.scope) x_is ∙ tree_r) in
                  omega (arith, x_is, past, up_to, rh)))
                  (before_or_past x r.1.number),
            ))
            (before_or_past en.of r.1.number)

  -- the first one of the log is the first one of what was told
  pub way_told : (target : ℕ) → target ≡ n → (r : Option Found) → IsFirstOf frames (IsTopPair frames rows a (AreOnWay rules (above_in 0 tree target) a 0)) r →
      IsFirstOf frames (IsConflictIn frames rows t (AreOfWay t last)) r
  way_told target hit r h =
      let p = expression_in (slice_get a.levels.items (length a.levels.items - 1)) in
      let is = expression_is a t (named_all a t os f) in
      alike frames (IsTopPair frames rows a (AreOnWay rules (above_in 0 tree target) a 0)) (IsConflictIn frames rows t (AreOfWay t last)) r
      (to_told target hit p is) (from_told target hit p is) h
