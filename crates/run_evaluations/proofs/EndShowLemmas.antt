-- What doesn't clash at an end of the run: evaluations of operands on the way, and what may still come beside the last one.
use Rattle.std.proofs.Common.{◌≡◌, ◌⊎◌, inl, inr, ⊎_elim, ℕ, zero, suc, ◌≤◌, ◌<◌, ◌+◌, ◌-◌, nat_lt, ◌==◌, Bool, true, false, not, ◌&&◌, ◌||◌, List, [], ◌∷◌}
use Rattle.std.proofs.Common.{◌++◌, length}
use Rattle.std.proofs.Common.{refl, sym, ap, ◌∙◌, arith, Option, Some, None, subst, if◌then◌else◌, length-append}
use Rattle.std.specs.Prelude.{slice_get}
use Rattle.std.specs.Option.{option_or}
use Rattle.std.proofs.lemmas.Bool.Decides.{nat_tests}
use Rattle.std.proofs.lemmas.Option.{slice_get_within, same_Some}
use Rattle.ub_base.proofs.Tests.{if_true, if_false, less_test, not_less_test, less_is, number_other, number_equal, number_self, and_both, and_parts, or_left}
use Rattle.ub_base.proofs.Tests.{or_right}
use Rattle.ub_base.specs.declared.clause.Kind.{Kind}
use Rattle.ub_base.specs.declared.clause.Kind.TheVariants.{Val, Eff, Body}
use Rattle.ub_base.specs.declared.names.Item.{Item}
use Rattle.addr_map.specs.declared.map.Row.{Row}
use Rattle.c_typed.specs.declared.tree.Place.{Place}
use Rattle.c_typed.specs.declared.class.Class.{Class}
use Rattle.c_typed.specs.declared.class.Class.TheVariants as class
use Rattle.c_typed.specs.Tree.{Tree, Trees, node, none, more, size, sizes, class_of, operands, is_quiet, kinds_of}
use Rattle.c_typed.specs.Order.{Taken, goes, is_body, own_rule, place}
use Rattle.c_typed.specs.Decide.{due_in, has_kind, is_before, lifts, rises, to_val}
use Rattle.evaluation_log.specs.declared.log.Logged.{Logged}
use Rattle.evaluation_log.specs.declared.log.Segment.{Segment}
use Rattle.evaluation_log.specs.declared.rules.Rule.{Rule}
use Rattle.evaluation_log.specs.declared.rules.Rule.TheVariants as rules
use Rattle.evaluation_log.specs.declared.rules.Rules.{Rules}
use Rattle.evaluation_log.specs.declared.sought.Sought.TheVariants.{Any}
use Rattle.evaluation_log.specs.Clashes.{NoClash}
use Rattle.evaluation_log.specs.Touched.{event_has}
use Rattle.evaluation_log.specs.Kept.{base_of, is_unsequenced}
use Rattle.evaluation_log.specs.Sides.{Side, side, sides_from, opened, own_lefts, own_rights, lefts_in, lefts_among, rights_in, rights_among, first_loud}
use Rattle.evaluation_log.specs.Sides.{free_by}
use Rattle.evaluation_log.specs.Ways.{above_in, above_among, node_of, rule_in}
use Rattle.evaluation_log.proofs.KeptLemmas.{before_or_past}
use Rattle.evaluation_log.proofs.SideLemmas.{first_joined}
use Rattle.evaluation_log.proofs.WayLemmas.{in_rising}
use Rattle.run_evaluations.specs.declared.open.Evaluations.{Evaluations}
use Rattle.run_evaluations.specs.Scopes.{Scope, IsOperandOf, ListsAreAlone, part_in, part_among, part_of}
use Rattle.run_evaluations.specs.Shows.{IsAmong, AreApart, IsIn, AreOfTwo, NoneOfTwo, FitsRules, IsStill, EndsTop, NoneOfWay, NonePending}
use Rattle.run_evaluations.specs.Told.{Evaluation, Opened, has, IsBeside, IsOperandIn, IsUnder}
use Rattle.run_evaluations.specs.Follows.{all_done, Follows}
use Rattle.run_evaluations.specs.Ends.{last_has}
use Rattle.run_evaluations.specs.Ways.{IsNearest, NoneAtEnd}
use Rattle.run_evaluations.proofs.FullLemmas.{node_some}
use Rattle.run_evaluations.proofs.PartLemmas.{by_test, not_less_is, number_is, part_before, part_part, part_range, among_range, rise_at, due_at, is_last_at}
use Rattle.run_evaluations.proofs.PartLemmas.{side_at, side_part, size_some}
use Rattle.run_evaluations.proofs.ShowLemmas.{InLog, in_log, between_kept, same_operand, side_order, sequenced_rule, comma_before, choice_before}
use Rattle.run_evaluations.proofs.ToldLemmas.{beside_at, due_part, operand_at, operand_part, part_at}

-- ---- sides and parts
pub sides_hold : (m : ℕ) (ts : Trees) (x : ℕ) → m ≤ x → x < m + sizes ts →
    (i : ℕ) × (d : Side) × (slice_get (sides_from m ts) i ≡ Some d) × (d.number ≤ x) × (x < d.number + size d.tree)
sides_hold m none x low high = absurd (omega (arith, low, high))
sides_hold m (more t ts) x low high =
    ⊎_elim (λ less. (0, side m t, refl, low, less))
    (λ past. let r = sides_hold (m + size t) ts x past (omega (arith, high)) in (suc r.0, r.1, r.2, r.3, r.4))
    (before_or_past x (m + size t))

nested : (s : Scope) (m x : ℕ) (t u : Tree) → part_of s m ≡ Some t → part_of s x ≡ Some u → m ≤ x → x < m + size t → x + size u ≤ m + size t
nested s m x t u h k low high = (part_range m t x u (sym (part_part 0 s.tree m x t h low high) ∙ k)).high

pub sides_meet : (m : ℕ) (ts : Trees) (i j : ℕ) (d r : Side) (x : ℕ) → slice_get (sides_from m ts) i ≡ Some d → slice_get (sides_from m ts) j ≡ Some r →
    d.number ≤ x → x < d.number + size d.tree → r.number ≤ x → x < r.number + size r.tree → d ≡ r
sides_meet m ts i j d r x h k dl dh rl rh =
    ⊎_elim
    (λ less. absurd (let o = side_order m ts i j d r less h k in omega (arith, o, dh, rl)))
    (λ le. ⊎_elim
    (λ less. absurd (let o = side_order m ts j i r d less k h in omega (arith, o, rh, dl)))
    (λ ge. same_Some d r (sym h ∙ (ap (slice_get (sides_from m ts)) (omega (arith, le, ge)) ∙ k)))
    (before_or_past j i))
    (before_or_past i j)

-- the operand that holds a node below another
module _ (s : Scope) (n : ℕ) (c : Class) (ts : Trees) (here : part_of s n ≡ Some (node c ts)) where
  pub holder : (x : ℕ) → n < x → x < n + size (node c ts) →
      (i : ℕ) × (d : Side) × (slice_get (sides_from (suc n) ts) i ≡ Some d) × (d.number ≤ x) × (x < d.number + size d.tree)
  holder x low high = sides_hold (suc n) ts x (omega (arith, low)) (omega (arith, high))

  -- what is in an operand, with all of its tree
  pub side_holds : (i : ℕ) (d : Side) (x : ℕ) (u : Tree) → slice_get (sides_from (suc n) ts) i ≡ Some d → part_of s x ≡ Some u → d.number ≤ x →
      x < d.number + size d.tree → x + size u ≤ d.number + size d.tree
  side_holds i d x u at there low high = nested s d.number x d.tree u (side_part s n c ts here i d at) there low high

-- ---- the way to a node
mutual
  pub above_is : (k : ℕ) (t : Tree) (n j m : ℕ) → n < k + size t → slice_get (above_in k t n) j ≡ Some m →
      (x : Tree) × (part_in k t m ≡ Some x) × (k ≤ m) × (m < n) × (n < m + size x)
  above_is k (node class ts) n zero m high h = by_test (nat_lt k n)
      (λ less.
      let low = less_is k n less in
      let q = same_Some k m (sym (ap (λ xs. slice_get xs 0) (if_true _ _ _ less)) ∙ h) in
      (node class ts, if_true _ _ _ (number_equal m k (sym q)), omega (arith, q), omega (arith, q, low), omega (arith, q, high)))
      (λ past. absurd (let e : None ≡ Some m = sym (ap (λ xs. slice_get xs 0) (if_false _ _ _ past)) ∙ h in cc))
  above_is k (node class ts) n (suc i) m high h = by_test (nat_lt k n)
      (λ less.
      let low = less_is k n less in
      let r = among_is (suc k) ts n i m (omega (arith, low)) (sym (ap (λ xs. slice_get xs (suc i)) (if_true _ _ _ less)) ∙ h) in
      let l = r.2 in
      (r.0, if_false _ _ _ (number_other m k (λ q. omega (arith, q, l))) ∙ r.1, omega (arith, l), r.3, r.4))
      (λ past. absurd (let e : None ≡ Some m = sym (ap (λ xs. slice_get xs (suc i)) (if_false _ _ _ past)) ∙ h in cc))

  among_is : (k : ℕ) (ts : Trees) (n j m : ℕ) → k ≤ n → slice_get (above_among k ts n) j ≡ Some m →
      (x : Tree) × (part_among k ts m ≡ Some x) × (k ≤ m) × (m < n) × (n < m + size x)
  among_is k none n j m low h = absurd (cc)
  among_is k (more t ts) n j m low h = by_test (nat_lt n (k + size t))
      (λ less.
      let r = above_is k t n j m (less_is n (k + size t) less) (sym (ap (λ xs. slice_get xs j) (if_true _ _ _ less)) ∙ h) in
      let a = r.3 in
      let b = less_is n (k + size t) less in
      (r.0, if_true _ _ _ (less_test m (k + size t) (omega (arith, a, b))) ∙ r.1, r.2, r.3, r.4))
      (λ past.
      let p = not_less_is n (k + size t) past in
      let r = among_is (k + size t) ts n j m p (sym (ap (λ xs. slice_get xs j) (if_false _ _ _ past)) ∙ h) in
      let l = r.2 in
      (r.0, if_false _ _ _ (not_less_test m (k + size t) (omega (arith, l))) ∙ r.1, omega (arith, l), r.3, r.4))

mutual
  pub above_has : (k : ℕ) (t : Tree) (n p : ℕ) (x : Tree) → part_in k t p ≡ Some x → p < n → n < p + size x →
      (j : ℕ) × (slice_get (above_in k t n) j ≡ Some p)
  above_has k (node class ts) n p x h low high = by_test (p == k)
      (λ e. let q = number_is p k e in
      (0, ap (λ xs. slice_get xs 0) (if_true _ _ _ (less_test k n (omega (arith, q, low)))) ∙ ap Some (sym q)))
      (λ e.
      let g : part_among (suc k) ts p ≡ Some x = sym (if_false _ _ _ e) ∙ h in
      let l = (among_range (suc k) ts p x g).low in
      let r = among_has (suc k) ts n p x g low high in
      (suc r.0, ap (λ xs. slice_get xs (suc r.0)) (if_true _ _ _ (less_test k n (omega (arith, l, low)))) ∙ r.1))

  among_has : (k : ℕ) (ts : Trees) (n p : ℕ) (x : Tree) → part_among k ts p ≡ Some x → p < n → n < p + size x →
      (j : ℕ) × (slice_get (above_among k ts n) j ≡ Some p)
  among_has k none n p x h low high = absurd (cc)
  among_has k (more t ts) n p x h low high = by_test (nat_lt p (k + size t))
      (λ less.
      let g : part_in k t p ≡ Some x = sym (if_true _ _ _ less) ∙ h in
      let u = (part_range k t p x g).high in
      let r = above_has k t n p x g low high in
      (r.0, ap (λ xs. slice_get xs r.0) (if_true _ _ _ (less_test n (k + size t) (omega (arith, u, high)))) ∙ r.1))
      (λ past.
      let g : part_among (k + size t) ts p ≡ Some x = sym (if_false _ _ _ past) ∙ h in
      let l = (among_range (k + size t) ts p x g).low in
      let r = among_has (k + size t) ts n p x g low high in
      (r.0, ap (λ xs. slice_get xs r.0) (if_false _ _ _ (not_less_test n (k + size t) (omega (arith, l, low)))) ∙ r.1))

-- ---- of operands of a node on the way, what is done in the earlier one is of its segment
module _ (s : Scope) (n p first second : ℕ) (way : IsUnder s p n) (own : Tree) (here : part_of s n ≡ Some own) (of_first : IsOperandIn s p first)
    (of_second : IsOperandIn s p second) (rise : first < second) (x y : ℕ) (in_first : IsIn s first x) (in_second : IsIn s second y) where
  abbrev ts : Trees
  ts = of_first.operands

  abbrev side_of : Side
  side_of = of_first.of.side

  first_tree : size in_first.part ≡ size side_of.tree
  first_tree = ap size (same_Some in_first.part side_of.tree (sym in_first.there ∙ operand_part s p first of_first))

  second_tree : size in_second.part ≡ size of_second.of.side.tree
  second_tree = ap size (same_Some in_second.part of_second.of.side.tree (sym in_second.there ∙ operand_part s p second of_second))

  way_size : size way.part ≡ size (node of_first.class ts)
  way_size = ap size (same_Some way.part (node of_first.class ts) (sym way.there ∙ of_first.there))

  -- the later operand begins behind the earlier one
  ordered : first + size side_of.tree ≤ second
  ordered =
      ⊎_elim (λ past. past)
      (λ less.
      absurd (
      let f = of_second.of.number in
      let q : second < first + size side_of.tree = omega (arith, less) in
      let z = size_some of_second.of.side.tree in
      let e = same_operand s p first second second of_first of_second
      (record { part = side_of.tree; there = operand_part s p first of_first; low = omega (arith, rise); high = q })
      (record { part = of_second.of.side.tree; there = operand_part s p second of_second; low = omega arith; high = omega (arith, z) }) in
      omega (arith, e, rise)))
      (before_or_at (first + size side_of.tree) second)
    where
      before_or_at : (a b : ℕ) → (a ≤ b) ⊎ (b < a)
      before_or_at a b = ⊎_elim inr inl (before_or_past b a)

  -- the node isn't in the earlier operand, if something is done in the later one
  module _ (me : ℕ) (later : (me ≡ n) ⊎ IsBeside s me n) (in_me : IsIn s me y) where
    apart_first : first ≤ n → n < first + size side_of.tree → ⊥
    apart_first low high =
        let o = ordered in
        let l = in_second.low in
        let il = in_me.low in
        let ih = in_me.high in
        ⊎_elim
        (λ e.
        let t = ap size (same_Some own in_me.part (sym here ∙ (ap (part_of s) (sym e) ∙ in_me.there))) in
        let u = nested s first n side_of.tree own (operand_part s p first of_first) here low high in
        omega (arith, e, t, u, o, l, ih))
        (λ b. let z = b.behind in_me.part in_me.there in omega (arith, z, ih, l, o, high))
        later

    module _ (md : ℕ) (earlier : (md ≡ n) ⊎ IsBeside s md n) (in_md : IsIn s md x) where
      not_own : md ≡ n → ⊥
      not_own e =
          let t = ap size (same_Some own in_md.part (sym here ∙ (ap (part_of s) (sym e) ∙ in_md.there))) in
          let dl = in_md.low in
          let dh = in_md.high in
          let fl = in_first.low in
          let fh = in_first.high in
          let ft = first_tree in
          ⊎_elim
          (λ less.
          let wl = way.low in
          let wh = way.high in
          let wt = way_size in
          let o = holder s p of_first.class ts of_first.there n wl (omega (arith, wh, wt)) in
          let u = side_holds s p of_first.class ts of_first.there o.0 o.1 n own o.2 here o.3 o.4 in
          let f = of_first.of.number in
          let ol = o.3 in
          let q = sides_meet (suc p) ts o.0 of_first.index o.1 side_of x o.2 of_first.of.there (omega (arith, ol, e, dl)) (omega (arith, u, t, e, dh))
          (omega (arith, f, fl)) (omega (arith, f, ft, fh)) in
          let w = ap (λ (z : Side). z.number) q in
          omega (arith, w, f, ol, less))
          (λ le. ⊎_elim
          (λ inside. apart_first le inside)
          (λ past. omega (arith, past, fh, ft, e, dl))
          (before_or_past n (first + size side_of.tree)))
          (before_or_past n first)

      beside_is : IsBeside s md n → md ≡ first
      beside_is b =
          let q = b.above in
          let dl = in_md.low in
          let dh = in_md.high in
          let fl = in_first.low in
          let fh = in_first.high in
          let ft = first_tree in
          let wl = way.low in
          let wh = way.high in
          let wt = way_size in
          let bl = b.way.low in
          let bh = b.way.high in
          let f = of_first.of.number in
          let past = b.behind in_md.part in_md.there in
          let m = b.operand.of.number in
          let us = b.operand.operands in
          let bt = ap size (same_Some b.way.part (node b.operand.class us) (sym b.way.there ∙ b.operand.there)) in
          let mt = ap size (same_Some in_md.part b.operand.of.side.tree (sym in_md.there ∙ operand_part s q md b.operand)) in
          let first_side = side_at (suc p) ts of_first.index side_of of_first.of.there in
          let sl = first_side.low in
          let sh = first_side.high in
          let md_side = side_at (suc q) us b.operand.index b.operand.of.side b.operand.of.there in
          let ml = md_side.low in
          let mh = md_side.high in
          ⊎_elim
          (λ above.
          -- the way's node is further up than that of the operand
          absurd (
          let o = holder s q b.operand.class us b.operand.there p above (omega (arith, bh, bt, wl)) in
          let ol = o.3 in
          let u = side_holds s q b.operand.class us b.operand.there o.0 o.1 p (node of_first.class ts) o.2 of_first.there o.3 o.4 in
          let e = sides_meet (suc q) us o.0 b.operand.index o.1 b.operand.of.side x o.2 b.operand.of.there
          (omega (arith, ol, sl, f, fl)) (omega (arith, u, sh, f, ft, fh)) (omega (arith, m, dl)) (omega (arith, m, mt, dh)) in
          let w = ap (λ (z : Side). z.number) e in
          let v = ap (λ (z : Side). size z.tree) e in
          omega (arith, w, v, u, wh, wt, past, mt, m)))
          (λ le. ⊎_elim
          (λ below. absurd (
          let o = holder s p of_first.class ts of_first.there q below (omega (arith, bl, wh, wt)) in
          let ol = o.3 in
          let u = side_holds s p of_first.class ts of_first.there o.0 o.1 q (node b.operand.class us) o.2 b.operand.there o.3 o.4 in
          let e = sides_meet (suc p) ts o.0 of_first.index o.1 side_of x o.2 of_first.of.there
          (omega (arith, ol, ml, m, dl)) (omega (arith, u, mh, m, mt, dh)) (omega (arith, f, fl)) (omega (arith, f, ft, fh)) in
          let w = ap (λ (z : Side). z.number) e in
          let v = ap (λ (z : Side). size z.tree) e in
          apart_first (omega (arith, w, f, ol, bl)) (omega (arith, w, v, f, u, bh, bt))))
          (λ ge.
          let same : q ≡ p = omega (arith, le, ge) in
          same_operand s p md first x (subst (λ z. IsOperandIn s z md) same b.operand) of_first in_md in_first)
          (before_or_past p q))
          (before_or_past q p)

      pub way_first : md ≡ first
      way_first = ⊎_elim (λ e. absurd (not_own e)) beside_is earlier

      pub way_past : first + size side_of.tree ≤ n
      way_past =
          ⊎_elim (λ e. absurd (not_own e))
          (λ b. let past = b.behind in_md.part in_md.there in let e = beside_is b in
          let t = ap size (same_Some in_md.part side_of.tree (sym in_md.there ∙ (ap (part_of s) e ∙ operand_part s p first of_first))) in
          omega (arith, past, e, t))
          earlier

-- ---- operands of nodes on the way
module _ (rows : List Row) (a : Evaluations) (t : Opened) (os : List Opened) (f : Follows (t ∷ os) a) (rules : Rules) (fits : FitsRules t.scope rules)
    (last : Evaluation) (ends : EndsTop t last) (tree : Tree) (same : t.scope.tree ≡ tree) (own : Tree)
    (here : part_of t.scope last.place.node ≡ Some own) where
  abbrev n : ℕ
  n = last.place.node

  pub end_logged : (e : Logged) × (slice_get a.events.items (length a.events.items - 1) ≡ Some e) × (e.node ≡ n) ×
      ((j : Item) → last_has a j ≡ has last j) × (place e.node e.kind ≡ last.place)
  end_logged =
      let p = in_log a t os _ f.holds f.all last (length t.done - 1) ends.at in
      let c = f.all.events in
      let size = length-append (all_done os) t.done in
      let some = ends.some in
      let at : length (all_done os) + (length t.done - 1) ≡ length a.events.items - 1 = omega (arith, c, size, some) in
      let there = ap (slice_get a.events.items) (sym at) ∙ p.there in (
        p.event,
        there,
        ap (λ (z : Place). z.node) (same_Some _ _ p.at),
        λ j. ap (λ o. event_has a.items.items o j) there ∙ p.items j,
        same_Some _ _ p.at,
      )

  -- the same operand, of the node as it is written elsewhere
  pub moved_operand : (p : ℕ) (c : Class) (ts : Trees) → part_of t.scope p ≡ Some (node c ts) → (m : ℕ) → IsOperandIn t.scope p m →
      (i : ℕ) × IsOperandOf t.scope p c ts i m
  moved_operand p c ts there m o = (
    o.index,
    subst (λ z. IsOperandOf t.scope p (class_of z) (operands z) o.index m) (same_Some (node o.class o.operands) (node c ts) (sym o.there ∙ there)) o.of,
  )

  -- the segments of two evaluations of two operands of a node above that of the last one
  module _ (p : ℕ) (way : IsUnder t.scope p n) (d e : Evaluation) (x : IsAmong t d) (y : IsAmong t e) (two : AreOfTwo t.scope p d.place.node e.place.node) where
    abbrev pub P : InLog a t d (length (all_done os) + x.0)
    P = in_log a t os _ f.holds f.all d x.0 x.1

    abbrev pub Q : InLog a t e (length (all_done os) + y.0)
    Q = in_log a t os _ f.holds f.all e y.0 y.1

    in_p : IsIn t.scope P.of d.place.node
    in_p = record { part = P.below.part; there = P.below.there; low = P.below.low; high = P.below.high }

    in_q : IsIn t.scope Q.of e.place.node
    in_q = record { part = Q.below.part; there = Q.below.there; low = Q.below.low; high = Q.below.high }

    part_p : (P.of ≡ n) ⊎ IsBeside t.scope P.of n
    part_p = ends.parts P.of (part_at a t os f P.segment P.of P.low P.own)

    part_q : (Q.of ≡ n) ⊎ IsBeside t.scope Q.of n
    part_q = ends.parts Q.of (part_at a t os f Q.segment Q.of Q.low Q.own)

    first_is : P.of ≡ two.first
    first_is = way_first t.scope n p two.first two.second way own here two.of_first two.of_second two.rise d.place.node e.place.node two.in_first
        two.in_second Q.of part_q in_q P.of part_p in_p

    past : two.first + size two.of_first.of.side.tree ≤ n
    past = way_past t.scope n p two.first two.second way own here two.of_first two.of_second two.rise d.place.node e.place.node two.in_first
        two.in_second Q.of part_q in_q P.of part_p in_p

    pub later : P.segment < Q.segment
    later =
        let first = first_is in
        let el = two.in_second.low in
        let eh = Q.below.high in
        let rise = two.rise in
        ⊎_elim (λ less. less)
        (λ le. absurd (⊎_elim
        (λ less. let b = beside_at a t os f Q.segment P.segment Q.of P.of Q.low less Q.own P.own in
        let z = b.behind Q.below.part Q.below.there in omega (arith, z, eh, el, rise, first))
        (λ ge. let q = same_Some Q.of P.of (sym Q.own ∙ (ap (λ g. node_of (slice_get a.segments.items g)) (omega (arith, le, ge)) ∙ P.own)) in
        let z = same_operand t.scope p two.first two.second e.place.node two.of_first two.of_second
        (record {
          part = Q.below.part;
          there = ap (part_of t.scope) (sym first ∙ sym q) ∙ Q.below.there;
          low = (let l = Q.below.low in omega (arith, l, q, first));
          high = (let h = Q.below.high in omega (arith, h, q, first));
        }) two.in_second in omega (arith, z, rise))
        (before_or_past Q.segment P.segment)))
        (before_or_past P.segment Q.segment)

    pub nearest : (target : ℕ) → target ≡ n → (j : ℕ) × IsNearest a (above_in 0 tree target) j p P.segment
    nearest target hit =
        let first = first_is in
        let back = past in
        let o = two.of_first in
        let under = (side_at (suc p) o.operands o.index o.of.side o.of.there).low in
        let number = o.of.number in
        let at = above_has 0 t.scope.tree n p way.part way.there way.low way.high in (
          at.0,
          (
            (λ i. slice_get (above_in 0 (sym same i) (hit i)) at.0) ∙ at.1,
            operand_at a t os f p P.segment P.of P.low P.own (omega (arith, first, under, number)),
            λ k m behind h q.
                let z = node_some (slice_get a.segments.items P.segment) P.of P.own in
                let l = q.1 P.segment z.0 (omega arith) z.1 in
                let w = z.2 in
                deeper k m at.0 behind ((λ i. slice_get (above_in 0 (same i) (sym hit i)) k) ∙ h) at.1 two.first o back (omega (arith, l, w, first)),
          ),
        )
      where
        -- no node further down has the earlier operand among what stands behind it
        deeper : (k m j : ℕ) → j < k → slice_get (above_in 0 t.scope.tree n) k ≡ Some m → slice_get (above_in 0 t.scope.tree n) j ≡ Some p →
            (first : ℕ) (o : IsOperandIn t.scope p first) → first + size o.of.side.tree ≤ n → m < first → ⊥
        deeper k m j behind h g first o past low =
            let wh = way.high in
            let r = part_range 0 t.scope.tree p way.part way.there in
            let rh = r.high in
            let x = above_is 0 t.scope.tree n k m (omega (arith, wh, rh)) h in
            let xl = x.3 in
            let xh = x.4 in
            let up = in_rising 0 t.scope.tree n j k p m behind g h in
            let wt = ap size (same_Some way.part (node o.class o.operands) (sym way.there ∙ o.there)) in
            let y = holder t.scope p o.class o.operands o.there m up (omega (arith, xl, wh, wt)) in
            let u = side_holds t.scope p o.class o.operands o.there y.0 y.1 m x.0 y.2 x.1 y.3 y.4 in
            let yl = y.3 in
            let f = o.of.number in
            ⊎_elim
            (λ less. let q = side_order (suc p) o.operands y.0 o.index y.1 o.of.side less y.2 o.of.there in omega (arith, q, u, xh, past, f))
            (λ le. ⊎_elim
            (λ less. let q = side_order (suc p) o.operands o.index y.0 o.of.side y.1 less o.of.there y.2 in omega (arith, q, f, yl, low))
            (λ ge. let q = ap (λ (z : Side). z.number)
            (same_Some y.1 o.of.side (sym y.2 ∙ (ap (slice_get (sides_from (suc p) o.operands)) (omega (arith, le, ge)) ∙ o.of.there))) in
            omega (arith, q, f, yl, low))
            (before_or_past o.index y.0))
            (before_or_past y.0 o.index)

    -- no rule of the node sequences them
    pub no_rule : AreApart t.scope d.place e.place → is_unsequenced (rule_in rules p) ≡ true
    no_rule apart = by_test (is_unsequenced (rule_in rules p)) (λ free. free)
        (λ other. absurd (
        let c = two.of_first.class in
        let o = two.of_first in
        let ruled = fits.ruled p c o.operands o.there in
        let second = moved_operand p c o.operands o.there two.second two.of_second in
        let sequenced : is_before t.scope.taken 0 t.scope.tree d.place e.place ≡ true → ⊥ = λ z. (let w : true ≡ false = sym z ∙ apart.before in cc) in
        ⊎_elim
        (λ is. sequenced (choice_before t.scope p c o.operands o.there two.first two.second o.index second.0 o.of second.1 two.rise d.place e.place
        two.in_first two.in_second (ruled.choice is).0))
        (λ is. sequenced (comma_before t.scope p c o.operands o.there two.first two.second o.index second.0 o.of second.1 two.rise d.place e.place
        two.in_first two.in_second (ruled.comma is.0 is.1).0))
        (sequenced_rule (rule_in rules p) other)))

  pub none_of_way : NoneAtEnd rows rules tree a → NoneOfWay rows t n
  none_of_way none_at p way d e x y two apart =
      let near = nearest p way d e x y two end_logged.0.node end_logged.2 in
      between_kept rows a t d e _ _ (P p way d e x y two) (Q p way d e x y two)
      (none_at end_logged.0 end_logged.1 near.0 p (P p way d e x y two).segment (Q p way d e x y two).segment near.1
      (no_rule p way d e x y two apart) (later p way d e x y two))
