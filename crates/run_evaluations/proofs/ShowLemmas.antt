-- What doesn't clash in the log doesn't among the evaluations that were told.
use Rattle.std.proofs.Common.{◌≡◌, ◌≢◌, ◌⊎◌, inl, inr, ⊎_elim, ℕ, zero, suc, ◌≤◌, ◌<◌, ◌+◌, ◌-◌, nat_lt, ◌==◌, Bool, true, false, ◌&&◌, ◌||◌, List, [], ◌∷◌}
use Rattle.std.proofs.Common.{◌++◌, length}
use Rattle.std.proofs.Common.{refl, sym, ap, ◌∙◌, arith, Option, Some, None, Result, Ok, Err, subst, if◌then◌else◌, length-append}
use Rattle.std.specs.Prelude.{slice_get, IfNone, IfOk}
use Rattle.std.proofs.lemmas.Option.{slice_get_within, same_Some}
use Rattle.ub_base.proofs.Tests.{if_true, if_false, less_test, not_less_test, number_other, number_equal, and_both}
use Rattle.ub_base.specs.declared.names.Item.{Item}
use Rattle.addr_map.specs.declared.map.Row.{Row}
use Rattle.c_typed.specs.declared.tree.Place.{Place}
use Rattle.c_typed.specs.declared.class.Class.{Class}
use Rattle.c_typed.specs.declared.class.Class.TheVariants as class
use Rattle.c_typed.specs.Tree.{Tree, Trees, node, none, more, size, operands}
use Rattle.c_typed.specs.Order.{Taken, place, goes, across, is_number}
use Rattle.c_typed.specs.Decide.{is_before, between, crosses}
use Rattle.evaluation_log.specs.declared.found.Found.{Found}
use Rattle.evaluation_log.specs.declared.log.Logged.{Logged}
use Rattle.evaluation_log.specs.declared.log.Segment.{Segment}
use Rattle.evaluation_log.specs.declared.rules.Rule.{Rule}
use Rattle.evaluation_log.specs.declared.rules.Rule.TheVariants as rules
use Rattle.evaluation_log.specs.declared.sought.Sought.TheVariants.{Any}
use Rattle.evaluation_log.specs.Touched.{touched, body_has, event_has, is_sought, range_has, start_of}
use Rattle.evaluation_log.specs.Clashes.{Clash, NoClash, operand_has}
use Rattle.evaluation_log.specs.Kept.{base_of, is_unsequenced}
use Rattle.evaluation_log.specs.Sides.{Side, side, sides_from}
use Rattle.evaluation_log.specs.Ways.{node_of}
use Rattle.evaluation_log.proofs.BetweenLemmas.{range_within}
use Rattle.evaluation_log.proofs.KeptLemmas.{before_or_past}
use Rattle.evaluation_log.proofs.WholeLemmas.{get_right, starts_past}
use Rattle.run_evaluations.specs.declared.open.Evaluations.{Evaluations}
use Rattle.run_evaluations.specs.Kept.{NoneOfOperands}
use Rattle.run_evaluations.specs.Listed.{ListedIn}
use Rattle.run_evaluations.specs.Loose.{top_scope}
use Rattle.run_evaluations.specs.Scopes.{Scope, IsBelow, IsOperandOf, part_of, place_of}
use Rattle.run_evaluations.specs.Shows.{IsAmong, AreApart, IsIn, AreOfTwo, NoneOfTwo, NoneOfNode, OwnAreLast}
use Rattle.run_evaluations.specs.Told.{Evaluation, Opened, has, IsBeside, IsOperandIn, IsUnder, TellsNode}
use Rattle.run_evaluations.specs.Follows.{all_done, scopes_of, seen, AreAll, Follows, FollowsBut, Holds}
use Rattle.run_evaluations.proofs.FollowLemmas.{scope_top, top_open}
use Rattle.run_evaluations.proofs.FrameLemmas.{top_there, start_base, base_low}
use Rattle.run_evaluations.proofs.ListedLemmas.{goes_first, goes_parts, locate, node_there, node_within}
use Rattle.run_evaluations.proofs.PartLemmas.{by_test, number_is, part_before, side_at, size_some}
use Rattle.run_evaluations.proofs.ToldLemmas.{beside_at, beside_less, operand_at, operand_part, part_at, scope_is}

-- ---- operands stand one behind the other
pub side_order : (m : ℕ) (ts : Trees) (i j : ℕ) (s r : Side) → i < j → slice_get (sides_from m ts) i ≡ Some s → slice_get (sides_from m ts) j ≡ Some r →
    s.number + size s.tree ≤ r.number
side_order m none i j s r less h k = absurd (cc)
side_order m (more t ts) zero zero s r less h k = absurd (omega (arith, less))
side_order m (more t ts) zero (suc j) s r less h k =
    let e = same_Some (side m t) s h in
    let a = ap (λ (q : Side). q.number) e in
    let b = ap (λ (q : Side). size q.tree) e in
    let l = (side_at (m + size t) ts j r k).low in
    omega (arith, a, b, l)
side_order m (more t ts) (suc i) zero s r less h k = absurd (omega (arith, less))
side_order m (more t ts) (suc i) (suc j) s r less h k = side_order (m + size t) ts i j s r (omega (arith, less)) h k

same_side : (m : ℕ) (ts : Trees) (i j : ℕ) (s r : Side) → i ≡ j → slice_get (sides_from m ts) i ≡ Some s → slice_get (sides_from m ts) j ≡ Some r →
    s.number ≡ r.number
same_side m ts i j s r e h k = ap (λ (q : Side). q.number) (same_Some s r (sym h ∙ (ap (slice_get (sides_from m ts)) e ∙ k)))

-- the operands of a node are those of its tree
same_trees : (s : Scope) (n : ℕ) (c d : Class) (ts us : Trees) → part_of s n ≡ Some (node c ts) → part_of s n ≡ Some (node d us) → ts ≡ us
same_trees s n c d ts us h k = ap operands (same_Some (node c ts) (node d us) (sym h ∙ k))

-- two operands that hold one node are one
pub same_operand : (s : Scope) (n a b x : ℕ) → IsOperandIn s n a → IsOperandIn s n b → IsIn s a x → IsIn s b x → a ≡ b
same_operand s n a b x p q in_a in_b =
    let ts = p.operands in
    let second : slice_get (sides_from (suc n) ts) q.index ≡ Some q.of.side =
    ap (λ us. slice_get (sides_from (suc n) us) q.index) (same_trees s n p.class q.class ts q.operands p.there q.there) ∙ q.of.there in
    let size_a = ap size (same_Some in_a.part p.of.side.tree (sym in_a.there ∙ operand_part s n a p)) in
    let size_b = ap size (same_Some in_b.part q.of.side.tree (sym in_b.there ∙ operand_part s n b q)) in
    let la = in_a.low in
    let ha = in_a.high in
    let lb = in_b.low in
    let hb = in_b.high in
    let na = p.of.number in
    let nb = q.of.number in
    ⊎_elim
    (λ less. absurd (let o = side_order (suc n) ts p.index q.index p.of.side q.of.side less p.of.there second in
    omega (arith, o, size_a, size_b, la, ha, lb, hb, na, nb)))
    (λ le. ⊎_elim
    (λ less. absurd (let o = side_order (suc n) ts q.index p.index q.of.side p.of.side less second p.of.there in
    omega (arith, o, size_a, size_b, la, ha, lb, hb, na, nb)))
    (λ ge. sym na ∙ (same_side (suc n) ts p.index q.index p.of.side q.of.side (omega (arith, le, ge)) p.of.there second ∙ nb))
    (before_or_past q.index p.index))
    (before_or_past p.index q.index)

-- ---- what one operand has, sequenced before what a later one has
module _ (taken : Taken) (c : Class) (choice : Option ℕ) where
  crosses_at : (i j m : ℕ) (ts : Trees) (k p : ℕ) (r : Side) (b : ℕ) → p ≡ j + k → slice_get (sides_from m ts) k ≡ Some r → r.number ≤ b →
      b < r.number + size r.tree → crosses c choice i j m ts b ≡ across c choice i p
  crosses_at i j m none k p r b is h low high = absurd (cc)
  crosses_at i j m (more t ts) zero p r b is h low high =
      let e = same_Some (side m t) r h in
      let x = ap (λ (q : Side). q.number) e in
      let y = ap (λ (q : Side). size q.tree) e in
      if_true _ _ _ (less_test b (m + size t) (omega (arith, x, y, high))) ∙ ap (across c choice i) (omega (arith, is))
  crosses_at i j m (more t ts) (suc k) p r b is h low high =
      let l = (side_at (m + size t) ts k r h).low in
      if_false _ _ _ (not_less_test b (m + size t) (omega (arith, l, low))) ∙ crosses_at i (suc j) (m + size t) ts k p r b (omega (arith, is)) h low high

  between_at : (j m : ℕ) (ts : Trees) (i k p q : ℕ) (s r : Side) (u v : Place) → p ≡ j + i → q ≡ j + k → i < k → slice_get (sides_from m ts) i ≡ Some s →
      slice_get (sides_from m ts) k ≡ Some r → s.number ≤ u.node → u.node < s.number + size s.tree → r.number ≤ v.node → v.node < r.number + size r.tree →
      between taken c choice j m ts u v ≡ across c choice p q
  between_at j m none i k p q s r u v is js less h l ul uh vl vh = absurd (cc)
  between_at j m (more t ts) zero zero p q s r u v is js less h l ul uh vl vh = absurd (omega (arith, less))
  between_at j m (more t ts) zero (suc k) p q s r u v is js less h l ul uh vl vh =
      let e = same_Some (side m t) s h in
      let x = ap (λ (z : Side). z.number) e in
      let y = ap (λ (z : Side). size z.tree) e in
      let low = (side_at (m + size t) ts k r l).low in
      if_true _ _ _ (less_test u.node (m + size t) (omega (arith, x, y, uh)))
      ∙ (if_false _ _ _ (not_less_test v.node (m + size t) (omega (arith, low, vl)))
      ∙ (crosses_at j (suc j) (m + size t) ts k q r v.node (omega (arith, js)) l vl vh ∙ ap (λ z. across c choice z q) (omega (arith, is))))
  between_at j m (more t ts) (suc i) zero p q s r u v is js less h l ul uh vl vh = absurd (omega (arith, less))
  between_at j m (more t ts) (suc i) (suc k) p q s r u v is js less h l ul uh vl vh =
      let a = (side_at (m + size t) ts i s h).low in
      let b = (side_at (m + size t) ts k r l).low in
      if_false _ _ _ (not_less_test u.node (m + size t) (omega (arith, a, ul)))
      ∙ (if_false _ _ _ (not_less_test v.node (m + size t) (omega (arith, b, vl)))
      ∙ between_at (suc j) (m + size t) ts i k p q s r u v (omega (arith, is)) (omega (arith, js)) (omega (arith, less)) h l ul uh vl vh)

module _ (s : Scope) (n : ℕ) (c : Class) (ts : Trees) (here : part_of s n ≡ Some (node c ts)) (a b i j : ℕ) (p : IsOperandOf s n c ts i a)
    (q : IsOperandOf s n c ts j b) (rise : a < b) (u v : Place) (in_a : IsIn s a u.node) (in_b : IsIn s b v.node) where
  pub in_order : i < j
  in_order =
      let na = p.number in
      let nb = q.number in
      ⊎_elim (λ less. less)
      (λ le. absurd (⊎_elim
      (λ less. let o = side_order (suc n) ts j i q.side p.side less q.there p.there in let z = size_some q.side.tree in omega (arith, o, na, nb, rise))
      (λ ge. let e = same_side (suc n) ts i j p.side q.side (omega (arith, le, ge)) p.there q.there in omega (arith, e, na, nb, rise))
      (before_or_past j i)))
      (before_or_past i j)

  pub tree_a : in_a.part ≡ p.side.tree
  tree_a = same_Some _ _ (sym in_a.there ∙ operand_part s n a (record { class = c; operands = ts; there = here; index = i; of = p }))

  pub tree_b : in_b.part ≡ q.side.tree
  tree_b = same_Some _ _ (sym in_b.there ∙ operand_part s n b (record { class = c; operands = ts; there = here; index = j; of = q }))

  pub before_is : is_before s.taken 0 s.tree u v ≡ across c (s.taken n) i j
  before_is =
      let na = p.number in
      let nb = q.number in
      let sa = ap size tree_a in
      let sb = ap size tree_b in
      let la = in_a.low in
      let ha = in_a.high in
      let lb = in_b.low in
      let hb = in_b.high in
      let x = side_at (suc n) ts i p.side p.there in
      let y = side_at (suc n) ts j q.side q.there in
      let xl = x.low in
      let xh = x.high in
      let yl = y.low in
      let yh = y.high in
      part_before s.taken 0 s.tree n u v (node c ts) here (omega (arith, xl, na, la)) (omega (arith, xh, na, sa, ha)) (omega (arith, yl, nb, lb))
      (omega (arith, yh, nb, sb, hb))
      ∙ (if_false _ _ _ (number_other u.node n (λ e. omega (arith, e, xl, na, la)))
      ∙ (if_false _ _ _ (number_other v.node n (λ e. omega (arith, e, yl, nb, lb)))
      ∙ between_at s.taken c (s.taken n) 0 (suc n) ts i j i j p.side q.side u v (omega arith) (omega arith) in_order p.there q.there
      (omega (arith, na, la)) (omega (arith, na, sa, ha)) (omega (arith, nb, lb)) (omega (arith, nb, sb, hb))))

  pub comma_before : c ≡ class.Comma → is_before s.taken 0 s.tree u v ≡ true
  comma_before is = before_is ∙ (ap (λ z. across z (s.taken n) i j) is ∙ less_test i j in_order)

  pub choice_before : c ≡ class.Choice → is_before s.taken 0 s.tree u v ≡ true
  choice_before is =
      let o = in_order in
      let pa = ap (λ z. goes z (s.taken n) i) (sym is) ∙ p.goes in
      let qa = ap (λ z. goes z (s.taken n) j) (sym is) ∙ q.goes in
      before_is ∙ (ap (λ z. across z (s.taken n) i j) is
      ∙ and_both (i == 0) (is_number (s.taken n) j)
      (number_equal i 0 (goes_first (s.taken n) i j pa qa (λ e. omega (arith, e, o)) (λ e. omega (arith, e, o))))
      (⊎_elim (λ e. absurd (omega (arith, e, o))) (λ z. z) (goes_parts (s.taken n) j qa)))

-- ---- an evaluation in the log
pub record InLog (a : Evaluations) (t : Opened) (e : Evaluation) (k : ℕ) : Type 0 where
  pub event : Logged
  pub there : slice_get a.events.items k ≡ Some event
  pub at : place_of (Some event) ≡ Some e.place
  pub items : (j : Item) → event_has a.items.items (Some event) j ≡ has e j
  pub segment : ℕ
  pub low : base_of a.levels.items ≤ segment
  pub within : segment < length a.segments.items
  pub from : start_of a.segments.items a.events.items segment ≤ k
  pub to : k < start_of a.segments.items a.events.items (suc segment)
  pub of : ℕ
  pub own : node_of (slice_get a.segments.items segment) ≡ Some of
  pub below : IsBelow t.scope of e.place

seen_one : (is : List Item) (o : Option Logged) (e : Evaluation) → seen is o ≡ Some e →
    (x : Logged) × (o ≡ Some x) × (record { place = place x.node x.kind; own = touched is x.from (x.to - x.from); body = body_has x.foot } ≡ e)
seen_one is None e h = absurd (cc)
seen_one is (Some x) e h = (x, refl, same_Some _ e h)

pub in_log : (a : Evaluations) (t : Opened) (ts : List Opened) (asked : ℕ → Place → Type 0) → Holds (t ∷ ts) a asked → AreAll (t ∷ ts) a →
    (e : Evaluation) (i : ℕ) → slice_get t.done i ≡ Some e → InLog a t e (length (all_done ts) + i)
in_log a t ts asked h all e i at =
    let w = h.kept in
    let n = all.count in
    let k = length (all_done ts) + i in
    let inside = slice_get_within t.done i e at in
    let size = length-append (all_done ts) t.done in
    let x = seen_one a.items.items (slice_get a.events.items k) e (h.events k (omega (arith, inside, size)) ∙ (get_right (all_done ts) t.done i ∙ at)) in
    let top = top_there a w (length ts) n in
    let begin = h.frames.0.begins top.0 top.1 in
    let start = start_base a w (length ts) n in
    let base = base_of a.levels.items in
    let low = base_low a w (length ts) n in
    let count : base + (length a.segments.items - base) ≡ length a.segments.items = omega (arith, low) in
    let end = ap (start_of a.segments.items a.events.items) count ∙ starts_past a.segments.items a.events.items (length a.segments.items) (omega arith) in
    let logged = all.events in
    let l = locate a.segments.items a.events.items (length a.segments.items - base) base k (omega (arith, start, begin))
    (omega (arith, end, logged, size, inside)) in
    let under = l.2 in
    let m = node_there a.segments.items l.0 (omega (arith, under, count)) in
    let u_is : place_of (Some x.0) ≡ Some e.place = ap (λ (z : Evaluation). Some z.place) x.2 in
    record {
      event = x.0;
      there = x.1;
      at = u_is;
      items = λ j. ap (λ (z : Evaluation). has z j) x.2;
      segment = l.0;
      low = l.1;
      within = omega (arith, under, count);
      from = l.3;
      to = l.4;
      of = m.0;
      own = m.1;
      below = (subst (λ s. ListedIn a.segments.items a.events.items a.loose.items a.levels.items (length ts) s asked) (scope_top t ts)
          (h.full (length ts) (omega arith)) l.0 k m.0 e.place (top_open a.levels.items (length ts) l.0 n l.1) m.1 l.3 l.4
          (ap place_of x.1 ∙ u_is)).0;
    }

-- ---- what an event has, its operand has
in_operand : (ss : List Segment) (es : List Logged) (is : List Item) (g k : ℕ) (e : Logged) (j : Item) → start_of ss es g ≤ k → k < start_of ss es (suc g) →
    slice_get es k ≡ Some e → event_has is (Some e) j ≡ true → operand_has Any ss es is g j ≡ true
in_operand ss es is g k e j from to there h =
    range_within es is Any (start_of ss es g) k (suc k) (start_of ss es (suc g)) j from (omega arith) (omega (arith, to))
    (let one : suc k - k ≡ 1 = omega arith in
    let here : slice_get es (k + 0) ≡ Some e = ap (slice_get es) (omega arith) ∙ there in
    ap (λ n. range_has es is Any k n j) one ∙ (ap (λ o. is_sought Any o && event_has is o j) here ∙ h))

pub none_sub : (rows : List Row) (f g k l : Item → Bool) → ((j : Item) → k j ≡ true → f j ≡ true) → ((j : Item) → l j ≡ true → g j ≡ true) →
    NoClash Any rows f g → NoClash Any rows k l
none_sub rows f g k l p q clean i j c = clean i j (p i c.0, q j c.1, c.2)

-- segments that don't clash have no evaluations that do
pub between_kept : (rows : List Row) (a : Evaluations) (t : Opened) (d e : Evaluation) (k l : ℕ) (p : InLog a t d k) (q : InLog a t e l) →
    NoClash Any rows (operand_has Any a.segments.items a.events.items a.items.items p.segment)
    (operand_has Any a.segments.items a.events.items a.items.items q.segment) → NoClash Any rows (has d) (has e)
between_kept rows a t d e k l p q free =
    none_sub rows (operand_has Any a.segments.items a.events.items a.items.items p.segment)
    (operand_has Any a.segments.items a.events.items a.items.items q.segment) (has d) (has e)
    (λ j i. in_operand a.segments.items a.events.items a.items.items p.segment k p.event j p.from p.to p.there (p.items j ∙ i))
    (λ j i. in_operand a.segments.items a.events.items a.items.items q.segment l q.event j q.from q.to q.there (q.items j ∙ i)) free

pub sequenced_rule : (r : Rule) → is_unsequenced r ≡ false → (r ≡ rules.Choice) ⊎ ((l : ℕ) × (r ≡ rules.Comma l))
sequenced_rule rules.Open h = absurd (cc)
sequenced_rule rules.Closed h = absurd (cc)
sequenced_rule rules.Choice h = inl refl
sequenced_rule (rules.Comma l) h = inr (l, refl)

-- ---- two operands
module _ (rows : List Row) (a : Evaluations) (t : Opened) (ts : List Opened) (f : Follows (t ∷ ts) a) (n : ℕ) (rule : Rule) (chosen : Bool)
    (tell : TellsNode t n rule chosen) (fresh : t.parts n ≡ false) where
  -- what is behind the node is of an operand of it
  pub operand_of : (e : Evaluation) (k : ℕ) (p : InLog a t e k) → n < e.place.node → (i : ℕ) × IsOperandOf t.scope n tell.class tell.operands i p.of
  operand_of e k p behind =
      ⊎_elim
      (λ same. absurd (let z : true ≡ false = sym (part_at a t ts f p.segment p.of p.low p.own) ∙ (ap t.parts same ∙ fresh) in cc))
      (⊎_elim (λ o. o)
      (λ b. absurd (
      let h = p.below.high in
      let past = b.behind p.below.part p.below.there in
      omega (arith, h, past, behind))))
      (tell.next p.of (part_at a t ts f p.segment p.of p.low p.own))

  operand_in : (m i : ℕ) → IsOperandOf t.scope n tell.class tell.operands i m → IsOperandIn t.scope n m
  operand_in m i o = record { class = tell.class; operands = tell.operands; there = tell.ruled.there; index = i; of = o }

  in_part : (e : Evaluation) (k : ℕ) (p : InLog a t e k) → IsIn t.scope p.of e.place.node
  in_part e k p = record { part = p.below.part; there = p.below.there; low = p.below.low; high = p.below.high }

  behind_first : (m x : ℕ) → IsOperandIn t.scope n m → IsIn t.scope m x → n < x
  behind_first m x o i =
      let l = (side_at (suc n) o.operands o.index o.of.side o.of.there).low in
      let e = o.of.number in
      let low = i.low in
      omega (arith, l, e, low)

  pub none_of_two : (is_unsequenced rule ≡ true → NoneOfOperands rows a n) → NoneOfTwo rows t n
  none_of_two clean d e x y two apart =
      let all = f.all in
      let h = f.holds in
      let p = in_log a t ts _ h all d x.0 x.1 in
      let q = in_log a t ts _ h all e y.0 y.1 in
      let op = operand_of d _ p (behind_first two.first d.place.node two.of_first two.in_first) in
      let oq = operand_of e _ q (behind_first two.second e.place.node two.of_second two.in_second) in
      let first = same_operand t.scope n two.first p.of d.place.node two.of_first (operand_in p.of op.0 op.1) two.in_first (in_part d _ p) in
      let second = same_operand t.scope n two.second q.of e.place.node two.of_second (operand_in q.of oq.0 oq.1) two.in_second (in_part e _ q) in
      let less = two.rise in
      let rise : p.of < q.of = omega (arith, first, second, less) in
      let sequenced : is_before t.scope.taken 0 t.scope.tree d.place e.place ≡ true → ⊥ = λ z. (let w : true ≡ false = sym z ∙ apart.before in cc) in
      by_test (is_unsequenced rule)
      (λ free. between_kept rows a t d e _ _ p q (clean free p.segment q.segment
      (operand_at a t ts f n p.segment p.of p.low p.own (operand_less p.of op.0 op.1))
      (operand_at a t ts f n q.segment q.of q.low q.own (operand_less q.of oq.0 oq.1))
      (λ same. let z = same_Some p.of q.of (sym p.own ∙ (ap (λ g. node_of (slice_get a.segments.items g)) same ∙ q.own)) in omega (arith, z, rise))))
      (λ other. absurd (⊎_elim
      (λ is. sequenced (choice_before t.scope n tell.class tell.operands tell.ruled.there p.of q.of op.0 oq.0 op.1 oq.1 rise d.place e.place
      (in_part d _ p) (in_part e _ q) (tell.ruled.choice is).0))
      (λ is. sequenced (comma_before t.scope n tell.class tell.operands tell.ruled.there p.of q.of op.0 oq.0 op.1 oq.1 rise d.place e.place
      (in_part d _ p) (in_part e _ q) (tell.ruled.comma is.0 is.1).0))
      (sequenced_rule rule other)))
    where
      operand_less : (m i : ℕ) → IsOperandOf t.scope n tell.class tell.operands i m → n < m
      operand_less m i o = let l = (side_at (suc n) tell.operands i o.side o.there).low in let e = o.number in omega (arith, l, e)

pub scope_but : (a : Evaluations) (t : Opened) (ts : List Opened) (n : ℕ) → FollowsBut (t ∷ ts) n a → top_scope (scopes_of (t ∷ ts)) a ≡ t.scope
scope_but a t ts n f = let c = f.all.count in ap (scopes_of (t ∷ ts)) (omega (arith, c)) ∙ scope_top t ts

-- ---- of what is given
pub two_done : {E : Type 0} (rows : List Row) (a : Evaluations) (t : Opened) (ts : List Opened) (f : Follows (t ∷ ts) a) (n : ℕ) (rule : Rule)
    (chosen : Bool) (tell : TellsNode t n rule chosen) (fresh : t.parts n ≡ false) (r : Result (Option Found) E) →
    (is_unsequenced rule ≡ true → IfOk r (λ o. IfNone o (NoneOfOperands rows a n))) → IfOk r (λ o. IfNone o (NoneOfTwo rows t n))
two_done rows a t ts f n rule chosen tell fresh (Err e) h = tt
two_done rows a t ts f n rule chosen tell fresh (Ok (Some found)) h = tt
two_done rows a t ts f n rule chosen tell fresh (Ok None) h = none_of_two rows a t ts f n rule chosen tell fresh h
