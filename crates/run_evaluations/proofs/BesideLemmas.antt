-- Beside an end of the run: the first conflict of the last evaluation with another event, done or still to come.
use Rattle.std.proofs.Common.{◌≡◌, ◌⊎◌, inl, inr, ⊎_elim, ℕ, zero, suc, ◌≤◌, ◌<◌, ◌+◌, ◌-◌, nat_lt, ◌==◌, Bool, true, false, not, ◌&&◌, ◌||◌, List, [], ◌∷◌}
use Rattle.std.proofs.Common.{length}
use Rattle.std.proofs.Common.{refl, sym, ap, ◌∙◌, arith, Option, Some, None, subst, if◌then◌else◌}
use Rattle.std.specs.Prelude.{slice_get}
use Rattle.std.specs.Option.{option_or}
use Rattle.std.specs.declared.cmp.Ordering.{Ordering}
use Rattle.std.specs.declared.cmp.Ordering.TheVariants.{Less, Equal, Greater}
use Rattle.std.specs.Ordering.{nat_cmp, ordering_then, MatchOrdering}
use Rattle.std.proofs.lemmas.Cmp.{ranked, tied_itself, nat_cmp_total}
use Rattle.std.proofs.lemmas.Option.{slice_get_within, same_Some}
use Rattle.ub_base.proofs.NameLemmas.{same_kind_is, same_kind_refl}
use Rattle.ub_base.proofs.Tests.{false_from, if_true, if_false, less_test, not_less_test, number_other, number_equal, number_self, and_both, and_parts, or_left}
use Rattle.ub_base.proofs.Tests.{or_right, or_cases}
use Rattle.ub_base.specs.declared.clause.Kind.{Kind}
use Rattle.ub_base.specs.declared.clause.Kind.TheVariants.{Val, Eff, Body}
use Rattle.ub_base.specs.declared.names.Event.{Event}
use Rattle.ub_base.specs.declared.names.Item.{Item}
use Rattle.ub_base.specs.declared.names.Item.TheVariants.{Any as AnyEvent}
use Rattle.ub_base.specs.Frames.{Row as FrameRow}
use Rattle.ub_base.specs.Names.{same_kind}
use Rattle.addr_map.specs.declared.map.Row.{Row}
use Rattle.c_typed.specs.declared.tree.Place.{Place}
use Rattle.c_typed.specs.declared.class.Class.{Class}
use Rattle.c_typed.specs.declared.class.Class.TheVariants as class
use Rattle.c_typed.specs.Tree.{Tree, Trees, node, none, more, size, is_quiet, is_quiet_class, kinds_of}
use Rattle.c_typed.specs.Order.{Taken, goes, place, same_place}
use Rattle.c_typed.specs.Decide.{due_in, due_among, has_kind}
use Rattle.footprint.specs.declared.foot.Foot.{Foot}
use Rattle.footprint.specs.Holds.{holds, stands_for}
use Rattle.footprint.specs.Least.{IsLeast}
use Rattle.footprint.proofs.LeastLemmas.{alike as least_by}
use Rattle.evaluation_log.specs.declared.found.Found.{Found}
use Rattle.evaluation_log.specs.declared.level.Level.{Level}
use Rattle.evaluation_log.specs.declared.log.Logged.{Logged}
use Rattle.evaluation_log.specs.declared.rules.Rules.{Rules}
use Rattle.evaluation_log.specs.declared.sought.Sought.{Sought}
use Rattle.evaluation_log.specs.declared.sought.Sought.TheVariants.{Any}
use Rattle.evaluation_log.specs.Clashes.{Clash, NoClash}
use Rattle.evaluation_log.specs.FoundItems.{counts_before, first_found}
use Rattle.evaluation_log.specs.Kept.{Cut, cut_of}
use Rattle.evaluation_log.specs.Sides.{Side, sides_from, lefts_in, rights_in, first_loud, free_by}
use Rattle.evaluation_log.specs.Touched.{event_has}
use Rattle.evaluation_log.specs.Ways.{rule_in}
use Rattle.evaluation_log.proofs.BetweenLemmas.{none_turned}
use Rattle.evaluation_log.proofs.KeptLemmas.{before_or_past}
use Rattle.evaluation_search.specs.First.{IsFirst, IsFirstOf, sought_of}
use Rattle.evaluation_search.proofs.BetweenFirst.{least_like}
use Rattle.evaluation_search.proofs.FirstLemmas.{alike, both, counts_same, event_itself}
use Rattle.run_evaluations.specs.declared.open.Evaluations.{Evaluations}
use Rattle.run_evaluations.specs.Ends.{begin_of, events_from, is_value, is_value_kind, HasValue, IsBeside, IsBesideSome, IsDependence, IsDone, IsInValue}
use Rattle.run_evaluations.specs.Ends.{last_has}
use Rattle.run_evaluations.specs.Ends.{top_event}
use Rattle.run_evaluations.specs.First.{IsConflictIn, IsConflictOf, IsOnce, SequencesNone, event_by, event_in, expression_in}
use Rattle.run_evaluations.specs.FirstAtEnd.{AllSequenceNone, AreOfWay, IsConflictAtEnd, IsConflictBeside, done_has, has_at_end}
use Rattle.run_evaluations.specs.Follows.{all_done, Follows}
use Rattle.run_evaluations.specs.Scopes.{Scope, IsOperandOf, part_in, part_among, part_of, place_of}
use Rattle.run_evaluations.specs.Shows.{AreApart, AreOfTwo, EndsTop, FitsRules, IsAmong, IsIn, IsStill, TellsEnd}
use Rattle.run_evaluations.specs.Told.{Evaluation, Opened, has, IsOperandIn, IsUnder}
use Rattle.run_evaluations.proofs.FirstLemmas.{apart_two, expression_is, from_log, once_log}
use Rattle.run_evaluations.proofs.FrameLemmas.{named_all, top_there}
use Rattle.run_evaluations.proofs.PartLemmas.{by_test, among_range, due_at, number_is, part_range, root_part, side_at, side_part, size_some}
use Rattle.run_evaluations.proofs.PendingLemmas.{Fork, LoudFork, due_high, fork, lefts_nearest, lefts_there, logged_last, operand_due, rights_nearest}
use Rattle.run_evaluations.proofs.PendingLemmas.{rights_there}
use Rattle.run_evaluations.proofs.ShowLemmas.{InLog, in_log, side_order}
use Rattle.run_evaluations.proofs.ToldLemmas.{due_part}

-- ---- what is due in a part of a tree is due in all of it, if another event of the part is
module _ (taken : Taken) where
  mutual
    due_up : (k : ℕ) (t : Tree) (n : ℕ) (u e : Place) (x : Tree) → part_in k t n ≡ Some x → n ≤ u.node → u.node < n + size x → n ≤ e.node →
        e.node < n + size x → due_in taken k t e ≡ true → due_in taken n x u ≡ true → due_in taken k t u ≡ true
    due_up k (node class ts) n u e x h ul uh el eh due_e due_u = by_test (n == k)
        (λ q.
        ap (λ z. due_in taken k z u) (same_Some (node class ts) x (sym (if_true _ _ _ q) ∙ h))
        ∙ (ap (λ z. due_in taken z x u) (sym (number_is n k q)) ∙ due_u))
        (λ q.
        let g : part_among (suc k) ts n ≡ Some x = sym (if_false _ _ _ q) ∙ h in
        let l = (among_range (suc k) ts n x g).low in
        if_false _ _ _ (number_other u.node k (λ z. omega (arith, z, l, ul)))
        ∙ among_up class (taken k) 0 (suc k) ts n u e x g ul uh el eh (sym (if_false _ _ _ (number_other e.node k (λ z. omega (arith, z, l, el)))) ∙ due_e)
        due_u)

    among_up : (class : Class) (choice : Option ℕ) (i m : ℕ) (ts : Trees) (n : ℕ) (u e : Place) (x : Tree) → part_among m ts n ≡ Some x → n ≤ u.node →
        u.node < n + size x → n ≤ e.node → e.node < n + size x → due_among taken class choice i m ts e ≡ true → due_in taken n x u ≡ true →
        due_among taken class choice i m ts u ≡ true
    among_up class choice i m none n u e x h ul uh el eh due_e due_u = absurd (cc)
    among_up class choice i m (more t ts) n u e x h ul uh el eh due_e due_u = by_test (nat_lt n (m + size t))
        (λ q.
        let g : part_in m t n ≡ Some x = sym (if_true _ _ _ q) ∙ h in
        let o = (part_range m t n x g).high in
        let p = and_parts (goes class choice i) (due_in taken m t e)
        (sym (if_true _ _ _ (less_test e.node (m + size t) (omega (arith, o, eh)))) ∙ due_e) in
        if_true _ _ _ (less_test u.node (m + size t) (omega (arith, o, uh)))
        ∙ and_both (goes class choice i) (due_in taken m t u) p.0 (due_up m t n u e x g ul uh el eh p.1 due_u))
        (λ q.
        let g : part_among (m + size t) ts n ≡ Some x = sym (if_false _ _ _ q) ∙ h in
        let o = (among_range (m + size t) ts n x g).low in
        if_false _ _ _ (not_less_test u.node (m + size t) (omega (arith, o, ul)))
        ∙ among_up class choice (suc i) (m + size t) ts n u e x g ul uh el eh
        (sym (if_false _ _ _ (not_less_test e.node (m + size t) (omega (arith, o, el)))) ∙ due_e) due_u)

-- ---- the value of an operand beside the way
goes_on : (c : Class) (choice : Option ℕ) (i : ℕ) → (c ≡ class.Choice → ⊥) → goes c choice i ≡ true
goes_on class.Object choice i h = refl
goes_on class.Constant choice i h = refl
goes_on class.Plain choice i h = refl
goes_on class.Store choice i h = refl
goes_on class.Update choice i h = refl
goes_on class.Choice choice i h = absurd (h refl)
goes_on class.Comma choice i h = refl
goes_on class.Call choice i h = refl
goes_on class.Isolated choice i h = refl

loud_kind : (c : Class) → is_quiet_class c ≡ false → has_kind (kinds_of c) Val ≡ true
loud_kind class.Object h = absurd (cc)
loud_kind class.Constant h = absurd (cc)
loud_kind class.Plain h = refl
loud_kind class.Store h = refl
loud_kind class.Update h = refl
loud_kind class.Choice h = refl
loud_kind class.Comma h = refl
loud_kind class.Call h = refl
loud_kind class.Isolated h = refl

loud_due : (taken : Taken) (t : Tree) (m : ℕ) → is_quiet t ≡ false → due_in taken m t (place m Val) ≡ true
loud_due taken (node c ts) m loud = if_true _ _ _ (number_self m) ∙ loud_kind c loud

module _ (s : Scope) (rules : Rules) (free_is : (n : ℕ) → SequencesNone s n (rule_in rules n)) (still : IsStill s) (last : Place)
    (due : due_in s.taken 0 s.tree last ≡ true) (x : ℕ) (l : LoudFork s rules x last.node) where
  abbrev value : Place
  value = place x Val

  open_here : (l.class ≡ class.Choice → ⊥) × (l.class ≡ class.Comma → ⊥)
  open_here = free_is l.top l.free l.class l.operands l.here

  abbrev own : Side
  own = l.loud.side

  own_low : own.number ≤ x
  own_low = let n = l.loud.number in omega (arith, n)

  own_high : x < own.number + size own.tree
  own_high = let n = l.loud.number in let z = size_some own.tree in omega (arith, n, z)

  behind_top : l.top < x
  behind_top = let a = (side_at (suc l.top) l.operands l.loud.index own l.loud.there).low in let n = l.loud.number in omega (arith, a, n)

  within_top : x < l.top + size (node l.class l.operands)
  within_top = let a = (side_at (suc l.top) l.operands l.loud.index own l.loud.there).high in let h = own_high in omega (arith, a, h)

  due_own : due_in s.taken own.number own.tree value ≡ true
  due_own = ap (λ n. due_in s.taken own.number own.tree (place n Val)) (sym l.loud.number) ∙ loud_due s.taken own.tree own.number l.loud.loud

  due_top : due_in s.taken l.top (node l.class l.operands) value ≡ true
  due_top =
      let b = behind_top in
      if_false _ _ _ (number_other x l.top (λ z. omega (arith, z, b)))
      ∙ (due_at s.taken l.class (s.taken l.top) 0 (suc l.top) l.operands l.loud.index l.loud.index own value (omega arith) l.loud.there own_low own_high
      ∙ and_both (goes l.class (s.taken l.top) l.loud.index) _ (goes_on l.class (s.taken l.top) l.loud.index open_here.0) due_own)

  pub value_due : due_in s.taken 0 s.tree value ≡ true
  value_due =
      let b = behind_top in
      let low = l.low in
      due_up s.taken 0 s.tree l.top value last (node l.class l.operands) l.here (omega (arith, b)) within_top (omega (arith, low)) l.high due due_top

  operand_value : IsOperandOf s l.top l.class l.operands l.loud.index own.number
  operand_value = record {
    side = own;
    there = l.loud.there;
    number = refl;
    goes = goes_on l.class (s.taken l.top) l.loud.index open_here.0;
    loud =
        l.loud.loud;
  }

  operand_last : IsOperandOf s l.top l.class l.operands l.index l.second.number
  operand_last = operand_due s still last due l.top l.class l.operands l.here l.index l.second l.at l.low_second l.high_second

  in_value : IsIn s own.number x
  in_value = record { part = own.tree; there = side_part s l.top l.class l.operands l.here l.loud.index own l.loud.there; low = own_low; high = own_high }

  in_last : IsIn s l.second.number last.node
  in_last = record {
    part = l.second.tree;
    there = side_part s l.top l.class l.operands l.here l.index l.second l.at;
    low = l.low_second;
    high = l.high_second;
  }

  pub value_left : l.loud.index < l.index → (x < last.node) × AreApart s value last
  value_left less =
      let o = side_order (suc l.top) l.operands l.loud.index l.index own l.second less l.loud.there l.at in
      let z = size_some own.tree in
      let n = l.loud.number in
      let low = l.low_second in
      let rise : own.number < l.second.number = omega (arith, o, z) in (
        omega (arith, o, z, n, low),
        apart_two s l.top l.class l.operands l.here own.number l.second.number l.loud.index l.index operand_value operand_last rise value last in_value in_last
            open_here.0 open_here.1,
      )

  pub value_right : l.index < l.loud.index → (last.node < x) × AreApart s value last
  value_right less =
      let o = side_order (suc l.top) l.operands l.index l.loud.index l.second own less l.at l.loud.there in
      let z = size_some l.second.tree in
      let n = l.loud.number in
      let high = l.high_second in
      let rise : l.second.number < own.number = omega (arith, o, z) in
      let a = apart_two s l.top l.class l.operands l.here l.second.number own.number l.index l.loud.index operand_last operand_value rise last value in_last
      in_value open_here.0 open_here.1 in
      (omega (arith, o, n, high), record { before = a.behind; behind = a.before })

-- ---- two events in two operands of a node above the last one
module _ (s : Scope) (rules : Rules) (w e : Place) (f : Fork s rules w e) where
  first_of_two : IsOperandIn s f.top f.first.number
  first_of_two = record { class = f.class; operands = f.operands; there = f.here; index = f.of_first; of = f.operand_first }

  second_of_two : IsOperandIn s f.top f.second.number
  second_of_two = record { class = f.class; operands = f.operands; there = f.here; index = f.of_second; of = f.operand_second }

  in_first : IsIn s f.first.number w.node
  in_first = record {
    part = f.first.tree;
    there = side_part s f.top f.class f.operands f.here f.of_first f.first f.at_first;
    low = f.low_first;
    high = f.high_first;
  }

  in_second : IsIn s f.second.number e.node
  in_second = record {
    part = f.second.tree;
    there = side_part s f.top f.class f.operands f.here f.of_second f.second f.at_second;
    low = f.low_second;
    high = f.high_second;
  }

  pub fork_way : IsUnder s f.top e.node
  fork_way = record { part = node f.class f.operands; there = f.here; low = f.low; high = f.high }

  pub fork_left : f.of_first < f.of_second → (w.node < e.node) × AreOfTwo s f.top w.node e.node
  fork_left less =
      let o = side_order (suc f.top) f.operands f.of_first f.of_second f.first f.second less f.at_first f.at_second in
      let z = size_some f.first.tree in
      let h = f.high_first in
      let l = f.low_second in (
        omega (arith, o, h, l),
        record {
          first = f.first.number;
          second = f.second.number;
          of_first = first_of_two;
          of_second = second_of_two;
          rise = omega (arith, o, z);
          in_first = in_first;
          in_second = in_second;
        },
      )

  pub fork_right : f.of_second < f.of_first → (e.node < w.node) × AreOfTwo s f.top e.node w.node
  fork_right less =
      let o = side_order (suc f.top) f.operands f.of_second f.of_first f.second f.first less f.at_second f.at_first in
      let z = size_some f.second.tree in
      let h = f.high_second in
      let l = f.low_first in (
        omega (arith, o, h, l),
        record {
          first = f.second.number;
          second = f.first.number;
          of_first = second_of_two;
          of_second = first_of_two;
          rise = omega (arith, o, z);
          in_first = in_second;
          in_second = in_first;
        },
      )

-- ---- what an event has where the run ends
same_place_is : (u v : Place) → same_place u v ≡ true → u ≡ v
same_place_is u v h =
    let p = and_parts (u.node == v.node) (same_kind u.kind v.kind) h in
    (λ i. place (number_is u.node v.node p.0 i) (same_kind_is u.kind v.kind p.1 i))

same_place_self : (u : Place) → same_place u u ≡ true
same_place_self u = and_both _ _ (number_self u.node) (same_kind_refl u.kind)

done_some : (es : List Evaluation) (u : Place) (j : Item) → done_has es u j ≡ true →
    (i : ℕ) × (e : Evaluation) × (slice_get es i ≡ Some e) × (e.place ≡ u) × (has e j ≡ true)
done_some [] u j h = absurd (cc)
done_some (e ∷ es) u j h =
    ⊎_elim
    (λ here. let p = and_parts (same_place e.place u) (has e j) here in (0, e, refl, same_place_is e.place u p.0, p.1))
    (λ later. let r = done_some es u j later in (suc r.0, r.1, r.2, r.3, r.4))
    (or_cases (same_place e.place u && has e j) (done_has es u j) h)

done_there : (es : List Evaluation) (u : Place) (i : ℕ) (e : Evaluation) (j : Item) → slice_get es i ≡ Some e → e.place ≡ u → has e j ≡ true →
    done_has es u j ≡ true
done_there [] u i e j at same h = absurd (cc)
done_there (d ∷ es) u zero e j at same h =
    let q = same_Some d e at in
    or_left (same_place d.place u && has d j) (done_has es u j)
    (and_both (same_place d.place u) (has d j) (ap (λ (z : Evaluation). same_place z.place u) q ∙ (ap (λ z. same_place z u) same ∙ same_place_self u))
    (ap (λ z. has z j) q ∙ h))
done_there (d ∷ es) u (suc i) e j at same h =
    or_right (same_place d.place u && has d j) (done_has es u j) (done_there es u i e j at same h)

both_ways : (a b : Bool) → (a ≡ true → b ≡ true) → (b ≡ true → a ≡ true) → a ≡ b
both_ways true b there back = sym (there refl)
both_ways false true there back = back refl
both_ways false false there back = refl

-- an evaluation that is done has its items, if it is done once
done_is : (t : Opened) → IsOnce t → (e : Evaluation) → IsAmong t e → (j : Item) → has e j ≡ true → done_has t.done e.place j ≡ true
done_is t once e x j h = done_there t.done e.place x.0 e j x.1 refl h

done_back : (t : Opened) → IsOnce t → (e : Evaluation) → IsAmong t e → (j : Item) → done_has t.done e.place j ≡ true → has e j ≡ true
done_back t once e x j h =
    let r = done_some t.done e.place j h in
    let i = once r.0 x.0 r.1 e r.2 x.1 r.3 in
    let same = same_Some r.1 e (sym r.2 ∙ (ap (slice_get t.done) i ∙ x.1)) in
    ap (λ z. has z j) (sym same) ∙ r.4

begin_cut : (o : Option Level) (c : Cut) → cut_of o ≡ Some c → begin_of o ≡ c.events
begin_cut None c h = absurd (cc)
begin_cut (Some l) c h = ap (λ (z : Cut). z.events) (same_Some _ c h)

val_is : (k : Kind) → is_value_kind k ≡ true → k ≡ Val
val_is Val h = refl
val_is Eff h = absurd (cc)
val_is Body h = absurd (cc)

value_there : (n : ℕ) (o : Option Logged) → is_value n o ≡ true → (e : Logged) × (o ≡ Some e) × (place e.node e.kind ≡ place n Val)
value_there n None h = absurd (cc)
value_there n (Some e) h =
    let p = and_parts (is_value_kind e.kind) (e.node == n) h in
    (e, refl, (λ i. place (number_is e.node n p.1 i) (val_is e.kind p.0 i)))

value_is : (n : ℕ) (e : Logged) → place e.node e.kind ≡ place n Val → is_value n (Some e) ≡ true
value_is n e h =
    and_both (is_value_kind e.kind) (e.node == n) (ap (λ (z : Place). is_value_kind z.kind) h) (number_equal e.node n (ap (λ (z : Place). z.node) h))

-- ---- the order of the events of one full expression
then_less : (o p : Ordering) → ordering_then o p ≡ Less → (o ≡ Less) ⊎ ((o ≡ Equal) × (p ≡ Less))
then_less Less p h = inl refl
then_less Equal p h = inr (refl, h)
then_less Greater p h = absurd (cc)

then_equal : (o p : Ordering) → ordering_then o p ≡ Equal → (o ≡ Equal) × (p ≡ Equal)
then_equal Less p h = absurd (cc)
then_equal Equal p h = (refl, h)
then_equal Greater p h = absurd (cc)

never_both : (o : Ordering) → o ≡ Equal → o ≡ Less → ⊥
never_both Less h k = absurd (cc)
never_both Equal h k = absurd (cc)
never_both Greater h k = absurd (cc)

less_number : (m n : ℕ) → nat_cmp m n ≡ Less → m < n
less_number m n h = subst (λ o. MatchOrdering o (m < n) (m ≡ n) (n < m)) h (ranked m n (nat_cmp m n) refl)

-- `val`, `eff`, `body`
abbrev rank : Kind → ℕ
rank Val = 0
rank Eff = 1
rank Body = 2

none_less : (m : ℕ) → nat_cmp m 0 ≡ Less → ⊥
none_less m h = let r = less_number m 0 h in omega (arith, r)

equal_number : (m n : ℕ) → nat_cmp m n ≡ Equal → m ≡ n
equal_number m n h = subst (λ o. MatchOrdering o (m < n) (m ≡ n) (n < m)) h (ranked m n (nat_cmp m n) refl)

-- by the frame, the turn, the node and the kind
less_parts : (f t n k : Ordering) → f ≡ Equal → t ≡ Equal → ordering_then f (ordering_then t (ordering_then n k)) ≡ Less → (n ≡ Less) ⊎ (k ≡ Less)
less_parts f t n k same_f same_t h =
    ⊎_elim (λ less. absurd (never_both f same_f less))
    (λ rest. ⊎_elim (λ less. absurd (never_both t same_t less))
    (λ last. ⊎_elim (λ less. inl less) (λ kinds. inr kinds.1) (then_less n k last.1))
    (then_less t (ordering_then n k) rest.1))
    (then_less f (ordering_then t (ordering_then n k)) h)

module _ (frames : List FrameRow) (t : Opened) (u : Place) (x : ℕ) (le : x ≤ u.node) where
  -- an event doesn't come before the value of a node that isn't behind its own
  value_first : (g z : Found) (d : Event) → g.race ≡ false → z.race ≡ false → g.event ≡ event_in t u → z.event ≡ event_in t (place x Val) →
      g.against ≡ d → z.against ≡ d → counts_before frames g z ≡ false
  value_first g z d rg rz eg ez ag az =
      (λ i. counts_before frames (record { race = rg i; event = eg i; against = ag i; items = g.items })
      (record { race = rz i; event = ez i; against = az i; items = z.items }))
      ∙ counts_same frames (record { race = false; event = event_in t u; against = d; items = g.items })
      (record { race = false; event = event_in t (place x Val); against = d; items = z.items }) refl
      (λ l.
      let parts = less_parts _ _ (nat_cmp u.node x) _ (then_equal _ _ (event_itself frames (event_in t u))).0 (tied_itself nat_cmp_total t.turn) l in
      ⊎_elim (λ n. let r = less_number u.node x n in omega (arith, r, le)) (λ k. none_less (rank u.kind) k) parts)
      (λ q l. never_both _ (event_itself frames d) l)

  value_ahead : (g z : Found) → x < u.node → g.race ≡ false → z.race ≡ false → g.event ≡ event_in t u → z.event ≡ event_in t (place x Val) →
      counts_before frames g z ≡ false
  value_ahead g z less rg rz eg ez =
      (λ i. counts_before frames (record { race = rg i; event = eg i; against = g.against; items = g.items })
      (record { race = rz i; event = ez i; against = z.against; items = z.items }))
      ∙ counts_same frames (record { race = false; event = event_in t u; against = g.against; items = g.items })
      (record { race = false; event = event_in t (place x Val); against = z.against; items = z.items }) refl
      (λ l.
      let parts = less_parts _ _ (nat_cmp u.node x) _ (then_equal _ _ (event_itself frames (event_in t u))).0 (tied_itself nat_cmp_total t.turn) l in
      ⊎_elim (λ n. let r = less_number u.node x n in omega (arith, r, le)) (λ k. none_less (rank u.kind) k) parts)
      (λ q l.
      let n = (then_equal _ _ (then_equal _ _ (then_equal _ _ q).1).1).0 in
      let r : u.node ≡ x = equal_number u.node x n in
      omega (arith, r, less))

  -- nor does it behind another event
  value_second : (g z : Found) (d : Event) → g.race ≡ false → z.race ≡ false → g.event ≡ d → z.event ≡ d → g.against ≡ event_in t u →
      z.against ≡ event_in t (place x Val) → counts_before frames g z ≡ false
  value_second g z d rg rz eg ez ag az =
      (λ i. counts_before frames (record { race = rg i; event = eg i; against = ag i; items = g.items })
      (record { race = rz i; event = ez i; against = az i; items = z.items }))
      ∙ counts_same frames (record { race = false; event = d; against = event_in t u; items = g.items })
      (record { race = false; event = d; against = event_in t (place x Val); items = z.items }) refl
      (λ l. never_both _ (event_itself frames d) l)
      (λ q l.
      let parts = less_parts _ _ (nat_cmp u.node x) _ (then_equal _ _ (event_itself frames (event_in t u))).0 (tied_itself nat_cmp_total t.turn) l in
      ⊎_elim (λ n. let r = less_number u.node x n in omega (arith, r, le)) (λ k. none_less (rank u.kind) k) parts)

dependence_like : (frames : List FrameRow) (rows : List Row) (d v e u : Event) (f h g k : Item → Bool) (r : Found) → d ≡ v → e ≡ u → ((j : Item) → f j ≡ h j) →
    ((j : Item) → g j ≡ k j) → IsDependence frames rows d f e g r → IsDependence frames rows v h u k r
dependence_like frames rows d v e u f h g k r p q i j x = record {
  dependent = x.dependent;
  event = x.event ∙ p;
  against = x.against ∙ q;
  least = least_like frames rows Any f h g k (Some r.items) i j x.least;
}

-- ---- where the run ends
module _ (frames : List FrameRow) (rows : List Row) (a : Evaluations) (t : Opened) (os : List Opened) (f : Follows (t ∷ os) a) (tree : Tree) (rules : Rules)
    (last : Evaluation) (tell : TellsEnd t tree rules last) (free_is : AllSequenceNone t rules) (once : IsOnce t) where
  abbrev n : ℕ
  n = last.place.node

  abbrev before : ℕ
  before = length (all_done os)

  begins : events_from a ≡ before
  begins =
      let c = f.all.count in
      let top = top_there a f.holds.kept (length os) c in
      ap (λ x. begin_of (slice_get a.levels.items x)) (omega (arith, c))
      ∙ (begin_cut (slice_get a.levels.items (length os)) top.0 top.1 ∙ f.holds.frames.0.begins top.0 top.1)

  named_top : (m : ℕ) (k : Kind) → top_event a m k ≡ event_in t (place m k)
  named_top m k = ap (λ p. event_by p m k) (expression_is a t (named_all a t os f))

  last_due : n < size t.scope.tree
  last_due = let h = due_high t.scope.taken 0 t.scope.tree last.place tell.top.due in omega (arith, h)

  -- ---- the items of a value
  module _ (x : ℕ) (foot : Foot) (v : HasValue a x foot) where
    foot_there : (j : Item) → holds foot j ≡ true → has_at_end t (place x Val) j ≡ true
    foot_there j h =
        ⊎_elim
        (λ (q : IsInValue a x j).
        let d = q.1 in
        let e = value_there x (slice_get a.events.items q.0) d.value in
        let low = d.low in
        let b = begins in
        let g = from_log a t os _ f.holds f.all q.0 e.0 (omega (arith, low, b)) e.1 in
        or_left (done_has t.done (place x Val) j) (stands_for AnyEvent j)
        (done_there t.done (place x Val) g.0 g.1 j g.3 (sym g.4 ∙ e.2)
        (sym (g.5 j) ∙ (ap (λ o. event_has a.items.items o j) (sym e.1) ∙ q.2))))
        (λ any. or_right (done_has t.done (place x Val) j) (stands_for AnyEvent j) any)
        (v.only j h)

    foot_back : (j : Item) → has_at_end t (place x Val) j ≡ true → holds foot j ≡ true
    foot_back j h =
        ⊎_elim
        (λ done.
        let r = done_some t.done (place x Val) j done in
        let p = in_log a t os _ f.holds f.all r.1 r.0 r.2 in
        let placed : place p.event.node p.event.kind ≡ place x Val = same_Some _ _ p.at ∙ r.3 in
        v.done (before + r.0)
        (record {
          low = (let b = begins in omega (arith, b));
          value = ap (is_value x) p.there ∙ value_is x p.event placed;
          first = λ i le less. false_from (is_value x (slice_get a.events.items i)) (λ is.
              let e = value_there x (slice_get a.events.items i) is in
              let b = begins in
              let same = once_log a t os _ f.holds f.all once before (omega arith) i (before + r.0) e.0 p.event (omega (arith, le, b)) (omega arith) e.1 p.there
              (ap (λ (z : Place). z.node) (e.2 ∙ sym placed)) (ap (λ (z : Place). z.kind) (e.2 ∙ sym placed)) in
              omega (arith, same, less));
        })
        j (ap (λ o. event_has a.items.items o j) p.there ∙ (p.items j ∙ r.4)))
        (λ any. v.any j any)
        (or_cases (done_has t.done (place x Val) j) (stands_for AnyEvent j) h)

    foot_is : (j : Item) → holds foot j ≡ has_at_end t (place x Val) j
    foot_is j = both_ways (holds foot j) (has_at_end t (place x Val) j) (foot_there j) (foot_back j)

  -- ---- another event that isn't sequenced with the last one
  abbrev Near : Option ℕ → ℕ → Type 0
  Near o m = (y : ℕ) × (o ≡ Some y) × (y ≤ m)

  abbrev lefts : Option ℕ
  lefts = first_loud (lefts_in (free_by rules) 0 t.scope.tree n)

  abbrev rights : Option ℕ
  rights = first_loud (rights_in (free_by rules) 0 t.scope.tree n)

  module _ (z : Found) (g : IsConflictBeside frames rows t last z) where
    forked : Fork t.scope rules g.other last.place
    forked =
        let eh = due_high t.scope.taken 0 t.scope.tree last.place tell.top.due in
        let wh = due_high t.scope.taken 0 t.scope.tree g.other g.due in
        fork t.scope rules tell.fits tell.still tell.alone g.other last.place g.due tell.top.due tell.top.body g.elsewhere g.apart (size t.scope.tree) 0
        t.scope.tree (omega arith) (root_part 0 t.scope.tree) (omega arith) eh (omega arith) wh

    near : ((g.other.node < n) × Near lefts g.other.node) ⊎ ((n < g.other.node) × Near rights g.other.node)
    near =
        let top = forked.low in
        let first = forked.low_first in
        let high = last_due in
        ⊎_elim
        (λ less.
        let r = lefts_nearest t.scope rules g.other last.place forked less (size t.scope.tree) 0 t.scope.tree (omega arith) (root_part 0 t.scope.tree)
        (omega arith)
        (omega (arith, top, high)) in
        let le = r.2 in
        inl ((fork_left t.scope rules g.other last.place forked less).0, (r.0, r.1, omega (arith, le, first))))
        (λ less.
        let r = rights_nearest t.scope rules g.other last.place forked less (size t.scope.tree) 0 t.scope.tree (omega arith) (root_part 0 t.scope.tree)
        (omega arith) (omega (arith, top, high)) in
        let le = r.2 in
        inr ((fork_right t.scope rules g.other last.place forked less).0, (r.0, r.1, omega (arith, le, first))))
        forked.differ

    -- where the last one doesn't end the run, the other one is done
    module _ (none : NoClash Any rows (stands_for AnyEvent) (has last)) where
      last_done : IsAmong t last
      last_done = (length t.done - 1, tell.top.at)

      abbrev Left : Place → Type 0
      Left w = AreOfTwo t.scope forked.top w.node n × AreApart t.scope w last.place ×
          IsDependence frames rows (event_in t w) (has_at_end t w) (event_in t last.place) (has last) z

      abbrev Right : Place → Type 0
      Right w = AreOfTwo t.scope forked.top n w.node × AreApart t.scope w last.place ×
          IsDependence frames rows (event_in t last.place) (has last) (event_in t w) (has_at_end t w) z

      sought_any : z.race ≡ false → Any ≡ sought_of z.race
      sought_any e = ap sought_of (sym e)

      has_done : (d : Evaluation) → IsAmong t d → (i : Item) → has d i ≡ true → has_at_end t d.place i ≡ true
      has_done d x i h = or_left (done_has t.done d.place i) (stands_for AnyEvent i) (done_is t once d x i h)

      left_in : (d : Evaluation) (x : IsAmong t d) → Left d.place → IsConflictIn frames rows t (AreOfWay t last) z
      left_in d x l = record {
        one = d;
        other = last;
        one_done = x;
        other_done = last_done;
        pair = (forked.top, fork_way t.scope rules g.other last.place forked, l.0);
        apart = l.1;
        of = record {
          event = l.2.event;
          against = l.2.against;
          bodiless = λ race. absurd (let e : true ≡ false = sym race ∙ l.2.dependent in cc);
          least = subst (λ s. IsLeast frames (Clash s rows (has d) (has last)) (Some z.items)) (sought_any l.2.dependent)
              (least_by frames (Clash Any rows (has_at_end t d.place) (has last)) (Clash Any rows (has d) (has last)) (Some z.items)
              (λ i j c. (
                ⊎_elim (λ done. done_back t once d x i done) (λ any. absurd (none i j (any, c.1, c.2)))
                    (or_cases (done_has t.done d.place i) (stands_for AnyEvent i) c.0),
                c.1,
                c.2,
              ))
              (λ i j c. (has_done d x i c.0, c.1, c.2)) l.2.least);
        };
      }

      right_in : (d : Evaluation) (x : IsAmong t d) → Right d.place → IsConflictIn frames rows t (AreOfWay t last) z
      right_in d x l = record {
        one = last;
        other = d;
        one_done = last_done;
        other_done = x;
        pair = (forked.top, fork_way t.scope rules g.other last.place forked, l.0);
        apart = record { before = l.1.behind; behind = l.1.before };
        of = record {
          event = l.2.event;
          against = l.2.against;
          bodiless = λ race. absurd (let e : true ≡ false = sym race ∙ l.2.dependent in cc);
          least = subst (λ s. IsLeast frames (Clash s rows (has last) (has d)) (Some z.items)) (sought_any l.2.dependent)
              (least_by frames (Clash Any rows (has last) (has_at_end t d.place)) (Clash Any rows (has last) (has d)) (Some z.items)
              (λ i j c. (
                c.0,
                ⊎_elim (λ done. done_back t once d x j done)
                    (λ any. absurd (none_turned rows Any (stands_for AnyEvent) (has last) none i j (c.0, any, c.2)))
                    (or_cases (done_has t.done d.place j) (stands_for AnyEvent j) c.1),
                c.2,
              ))
              (λ i j c. (c.0, has_done d x j c.1, c.2)) l.2.least);
        };
      }

      pub done_beside : IsConflictIn frames rows t (AreOfWay t last) z
      done_beside =
          ⊎_elim
          (λ less.
          let l = fork_left t.scope rules g.other last.place forked less in
          let dep = g.before l.0 in
          let c = dep.least.0 in
          let r = ⊎_elim (λ done. done_some t.done g.other z.items.0 done) (λ any. absurd (none z.items.0 z.items.1 (any, c.1, c.2)))
          (or_cases (done_has t.done g.other z.items.0) (stands_for AnyEvent z.items.0) c.0) in
          left_in r.1 (r.0, r.2) (subst Left (sym r.3) (l.1, g.apart, dep)))
          (λ less.
          let l = fork_right t.scope rules g.other last.place forked less in
          let dep = g.behind l.0 in
          let c = dep.least.0 in
          let r = ⊎_elim (λ done. done_some t.done g.other z.items.1 done)
          (λ any. absurd (none_turned rows Any (stands_for AnyEvent) (has last) none z.items.0 z.items.1 (c.0, any, c.2)))
          (or_cases (done_has t.done g.other z.items.1) (stands_for AnyEvent z.items.1) c.1) in
          right_in r.1 (r.0, r.2) (subst Right (sym r.3) (l.1, g.apart, dep)))
          forked.differ

  -- ---- what is given of the last event and the first value beside it
  abbrev pub Given : Option Found → Type 0
  Given None = (z : Found) → IsConflictBeside frames rows t last z → IsConflictIn frames rows t (AreOfWay t last) z
  Given (Some z) = IsFirst frames (IsConflictBeside frames rows t last) z

  module _ (e : Logged) (at : slice_get a.events.items (length a.events.items - 1) ≡ Some e) where
    last_is : (j : Item) → last_has a j ≡ has last j
    last_is = (logged_last rows a t os f tree rules last tell).3

    same_last : place e.node e.kind ≡ last.place
    same_last =
        let l = logged_last rows a t os f tree rules last tell in
        ap (λ (z : Logged). place z.node z.kind) (same_Some e l.0 (sym at ∙ l.1)) ∙ l.4

    same_node : e.node ≡ n
    same_node = ap (λ (z : Place). z.node) same_last

    last_name : top_event a e.node e.kind ≡ event_in t last.place
    last_name = named_top e.node e.kind ∙ ap (event_in t) same_last

    -- before the last one
    module _ (x : ℕ) (left : lefts ≡ Some x) where
      value_before : (l : LoudFork t.scope rules x n) × (l.loud.index < l.index)
      value_before = lefts_there t.scope rules n (size t.scope.tree) 0 t.scope.tree x (omega arith) (root_part 0 t.scope.tree) (omega arith)
          (let h = last_due in omega (arith, h)) left

      stands_before : (x < n) × AreApart t.scope (place x Val) last.place
      stands_before = let l = value_before in
          value_left t.scope rules free_is tell.still last.place tell.top.due x l.0 l.1

      pub left_none : IsBeside frames rows a e x None → Given None
      left_none h z g =
          let less = stands_before.0 in
          let m = same_node in
          let none = h.before (omega (arith, less, m)) in
          done_beside z g (λ i j c. none i j (h.has.any i c.0, last_is j ∙ c.1, c.2))

      pub left_some : (z : Found) → IsBeside frames rows a e x (Some z) → Given (Some z)
      left_some z h =
          let less = stands_before.0 in
          let m = same_node in
          let dep = dependence_like frames rows (top_event a x Val) (event_in t (place x Val)) (top_event a e.node e.kind) (event_in t last.place)
          (holds h.foot)
          (has_at_end t (place x Val)) (last_has a) (has last) z (named_top x Val) last_name (foot_is x h.foot h.has) last_is
          (h.before (omega (arith, less, m))) in (
            record {
              other = place x Val;
              due = value_due t.scope rules free_is tell.still last.place tell.top.due x value_before.0;
              elsewhere = λ q. omega (arith, q, less);
              apart = stands_before.1;
              before = λ le. dep;
              behind = λ ge. absurd (omega (arith, ge, less));
            },
            λ g b.
                ⊎_elim
                (λ low.
                let bd = b.before low.0 in
                let same : x ≡ low.1.0 = same_Some x low.1.0 (sym left ∙ low.1.1) in
                let le = low.1.2 in
                value_first frames t b.other x (omega (arith, same, le)) g z (event_in t last.place) bd.dependent dep.dependent bd.event dep.event bd.against
                dep.against)
                (λ up.
                let bd = b.behind up.0 in
                value_ahead frames t last.place x (omega (arith, less)) g z less bd.dependent dep.dependent bd.event dep.event)
                (near g b),
          )

    -- behind it, where none is before it
    module _ (x : ℕ) (left : lefts ≡ None) (right : rights ≡ Some x) where
      value_behind : (l : LoudFork t.scope rules x n) × (l.index < l.loud.index) × (x < 0 + size t.scope.tree)
      value_behind = rights_there t.scope rules n (size t.scope.tree) 0 t.scope.tree x (omega arith) (root_part 0 t.scope.tree) (omega arith)
          (let h = last_due in omega (arith, h)) right

      stands_behind : (n < x) × AreApart t.scope (place x Val) last.place
      stands_behind = let l = value_behind in
          value_right t.scope rules free_is tell.still last.place tell.top.due x l.0 l.1

      pub right_none : IsBeside frames rows a e x None → Given None
      right_none h z g =
          let more = stands_behind.0 in
          let m = same_node in
          let none = h.behind (omega (arith, more, m)) in
          done_beside z g (λ i j c.
          none_turned rows Any (last_has a) (holds h.foot) none i j (h.has.any i c.0, last_is j ∙ c.1, c.2))

      pub right_some : (z : Found) → IsBeside frames rows a e x (Some z) → Given (Some z)
      right_some z h =
          let more = stands_behind.0 in
          let m = same_node in
          let dep = dependence_like frames rows (top_event a e.node e.kind) (event_in t last.place) (top_event a x Val) (event_in t (place x Val)) (last_has a)
          (has last) (holds h.foot) (has_at_end t (place x Val)) z last_name (named_top x Val) last_is (foot_is x h.foot h.has)
          (h.behind (omega (arith, more, m))) in (
            record {
              other = place x Val;
              due = value_due t.scope rules free_is tell.still last.place tell.top.due x value_behind.0;
              elsewhere = λ q. omega (arith, q, more);
              apart = stands_behind.1;
              before = λ le. absurd (omega (arith, le, more));
              behind = λ ge. dep;
            },
            λ g b.
                ⊎_elim
                (λ low. absurd (let q : None ≡ Some low.1.0 = sym left ∙ low.1.1 in cc))
                (λ up.
                let bd = b.behind up.0 in
                let same : x ≡ up.1.0 = same_Some x up.1.0 (sym right ∙ up.1.1) in
                let le = up.1.2 in
                value_second frames t b.other x (omega (arith, same, le)) g z (event_in t last.place) bd.dependent dep.dependent bd.event dep.event bd.against
                dep.against)
                (near g b),
          )

    -- of whichever value that is
    pub given_first : (o p q : Option ℕ) (r : Option Found) → o ≡ option_or p q → p ≡ lefts → q ≡ rights → IsBesideSome frames rows a e o r → Given r
    given_first None None None r or_is left right h = subst Given (sym h) nothing
      where
        nothing : (z : Found) → IsConflictBeside frames rows t last z → IsConflictIn frames rows t (AreOfWay t last) z
        nothing z g = absurd (⊎_elim
            (λ low. let c : None ≡ Some low.1.0 = left ∙ low.1.1 in cc)
            (λ up. let c : None ≡ Some up.1.0 = right ∙ up.1.1 in cc)
            (near z g))
    given_first None None (Some y) r or_is left right h = absurd (cc)
    given_first None (Some y) q r or_is left right h = absurd (cc)
    given_first (Some x) None None r or_is left right h = absurd (cc)
    given_first (Some x) (Some y) q None or_is left right h = left_none x (sym left ∙ sym or_is) h
    given_first (Some x) (Some y) q (Some z) or_is left right h = left_some x (sym left ∙ sym or_is) z h
    given_first (Some x) None (Some y) None or_is left right h = right_none x (sym left) (sym right ∙ sym or_is) h
    given_first (Some x) None (Some y) (Some z) or_is left right h = right_some x (sym left) (sym right ∙ sym or_is) z h

  -- ---- and of what operands on the way give
  pub first_at_end : (beside ways r : Option Found) → r ≡ first_found frames beside ways → Given beside →
      IsFirstOf frames (IsConflictIn frames rows t (AreOfWay t last)) ways → IsFirstOf frames (IsConflictAtEnd frames rows t last) r
  first_at_end None ways r e b h =
      subst (IsFirstOf frames (IsConflictAtEnd frames rows t last)) (sym e)
      (alike frames (IsConflictIn frames rows t (AreOfWay t last)) (IsConflictAtEnd frames rows t last) ways (λ x q. inr q)
      (λ x q. ⊎_elim (λ g. b x g) (λ g. g) q) h)
  first_at_end (Some z) ways r e b h =
      subst (IsFirstOf frames (IsConflictAtEnd frames rows t last)) (sym e)
      (both frames (IsConflictBeside frames rows t last) (IsConflictIn frames rows t (AreOfWay t last)) (Some z) ways b h)
