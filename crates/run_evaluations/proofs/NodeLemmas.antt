-- A node's own evaluations and those below it: what is found in the log is what was told.
use Rattle.std.proofs.Common.{◌≡◌, ◌≢◌, ◌⊎◌, inl, inr, ⊎_elim, ℕ, suc, ◌≤◌, ◌<◌, ◌+◌, ◌-◌, nat_lt, Bool, true, false, not, ◌&&◌, List, [], ◌∷◌, length, refl}
use Rattle.std.proofs.Common.{sym, ap, ◌∙◌}
use Rattle.std.proofs.Common.{arith, Option, Some, None, subst, length-append}
use Rattle.std.specs.Prelude.{slice_get, IfNone, IfSome}
use Rattle.std.proofs.lemmas.Option.{slice_get_within, same_Some}
use Rattle.ub_base.proofs.Tests.{less_is, less_test, and_both, and_parts}
use Rattle.ub_base.specs.declared.names.Item.{Item}
use Rattle.ub_base.specs.Frames.{Row as FrameRow}
use Rattle.addr_map.specs.declared.map.Row.{Row}
use Rattle.c_typed.specs.declared.tree.Place.{Place}
use Rattle.c_typed.specs.Tree.{Tree, size}
use Rattle.c_typed.specs.Order.{Taken, place}
use Rattle.c_typed.specs.Decide.{is_before}
use Rattle.evaluation_log.specs.declared.found.Found.{Found}
use Rattle.evaluation_log.specs.declared.level.Level.{Level}
use Rattle.evaluation_log.specs.declared.log.Logged.{Logged}
use Rattle.evaluation_log.specs.declared.sought.Sought.TheVariants.{Any}
use Rattle.evaluation_log.specs.Touched.{event_has, start_of}
use Rattle.evaluation_log.specs.Clashes.{NoClash}
use Rattle.evaluation_log.specs.Kept.{base_of}
use Rattle.evaluation_log.specs.Loose.{event_of, loose_from, loose_of}
use Rattle.evaluation_log.specs.Ways.{node_of}
use Rattle.evaluation_log.proofs.KeptLemmas.{before_or_past}
use Rattle.evaluation_log.proofs.LooseWholeLemmas.{looses_past}
use Rattle.evaluation_search.specs.declared.log.Place.{Place as Expression}
use Rattle.evaluation_search.specs.First.{IsFirst, IsFirstOf, IsOf, IsOfPair}
use Rattle.evaluation_search.proofs.BetweenFirst.{name_there}
use Rattle.run_evaluations.specs.declared.open.Evaluations.{Evaluations}
use Rattle.run_evaluations.specs.Below.{is_apart_below, AreListed, NoneListed}
use Rattle.run_evaluations.specs.First.{expression_in, IsConflictIn, AreOfNode, IsOrdered}
use Rattle.run_evaluations.specs.Follows.{all_done, scopes_of, FollowsBut}
use Rattle.run_evaluations.specs.Listed.{IsOpenIn}
use Rattle.run_evaluations.specs.Loose.{top_scope}
use Rattle.run_evaluations.specs.Scopes.{IsBelow, ListsAreAlone, part_of, place_of}
use Rattle.run_evaluations.specs.Shows.{IsAmong, AreApart, NoneOfNode, OwnAreLast}
use Rattle.run_evaluations.specs.Told.{Evaluation, Opened, has, IsBeside, IsUnder}
use Rattle.run_evaluations.proofs.FirstLemmas.{begins_low, in_segment, conflict_told, conflict_logged}
use Rattle.run_evaluations.proofs.FollowLemmas.{open_base, top_open}
use Rattle.run_evaluations.proofs.ListedLemmas.{listed_apart, node_within}
use Rattle.run_evaluations.proofs.ShowLemmas.{InLog, in_log, none_sub, scope_but}
use Rattle.run_evaluations.proofs.ToldLemmas.{full_but}

negated : (b : Bool) → not b ≡ true → b ≡ false
negated true h = absurd (cc)
negated false h = refl

negates : (b : Bool) → b ≡ false → not b ≡ true
negates true h = absurd (cc)
negates false h = refl

module _ (a : Evaluations) (t : Opened) (ts : List Opened) (n : ℕ) (f : FollowsBut (t ∷ ts) n a) (own : OwnAreLast t n) (alone : ListsAreAlone t.scope)
    (taken : Taken) (root : Tree) (o : IsOrdered t taken root) (begin from : ℕ) (from_is : from ≡ loose_from a.segments.items a.loose.items)
    (low : length a.events.items - 2 ≤ begin)
    (least : (k : ℕ) (e : Logged) → length a.events.items - 2 ≤ k → slice_get a.events.items k ≡ Some e → e.node ≡ n → begin ≤ k)
    (of_node : (k : ℕ) (e : Logged) → begin ≤ k → suc k < length a.events.items → slice_get a.events.items k ≡ Some e → e.node ≡ n) where
  abbrev last : ℕ
  last = length a.segments.items - 1

  top : top_scope (scopes_of (t ∷ ts)) a ≡ t.scope
  top = scope_but a t ts n f

  base_last : base_of a.levels.items ≤ last
  base_last =
      let c = f.all.count in
      open_base a.levels.items (length ts) last c (subst (λ d. IsOpenIn a.levels.items d last) (omega (arith, c)) f.last.top)

  last_within : last < length a.segments.items
  last_within = node_within a.segments.items last n f.last.own

  -- an own event and one below it, as they are logged
  module _ (d e : Evaluation) (k l : ℕ) (p : InLog a t d k) (q : InLog a t e l) (here : d.place.node ≡ n) (under : IsUnder t.scope n e.place.node)
      (apart : AreApart t.scope d.place e.place) (ends : length a.events.items - 2 ≤ k) where
    at_last : (g m z : ℕ) → base_of a.levels.items ≤ g → g < length a.segments.items → node_of (slice_get a.segments.items g) ≡ Some m → n ≤ z →
        (part : Tree) → part_of t.scope m ≡ Some part → z < m + size part → g ≡ last
    at_last g m z base within h le part there high = ⊎_elim
        (λ less. absurd (
        let c = f.all.count in
        let opens = top_open a.levels.items (length ts) in
        let b = (f.holds.frames.0.beside g last m n (opens g c base) (opens last c base_last) less h f.last.own).behind part there in
        omega (arith, b, le, high)))
        (λ past. omega (arith, past, within))
        (before_or_past g last)

    segment_d : p.segment ≡ last
    segment_d = at_last p.segment p.of d.place.node p.low p.within p.own (omega (arith, here)) p.below.part p.below.there p.below.high

    segment_e : q.segment ≡ last
    segment_e = let less = under.low in
        at_last q.segment q.of e.place.node q.low q.within q.own (omega (arith, less)) q.below.part q.below.there q.below.high

    node_d : p.event.node ≡ d.place.node
    node_d = ap (λ (z : Place). z.node) (same_Some _ _ p.at)

    node_e : q.event.node ≡ e.place.node
    node_e = ap (λ (z : Place). z.node) (same_Some _ _ q.at)

    place_d : place p.event.node p.event.kind ≡ d.place
    place_d = same_Some _ _ p.at

    place_e : place q.event.node q.event.kind ≡ e.place
    place_e = same_Some _ _ q.at

    before_is : (u v : Place) → is_before t.scope.taken 0 t.scope.tree u v ≡ is_before taken 0 root u v
    before_is u v = (λ i. is_before (o.chosen i) 0 (o.tree i) u v)

    stands : is_apart_below taken root (Some p.event) (Some q.event) ≡ true
    stands =
        let less = under.low in
        let x = node_d in
        let y = node_e in
        and_both _ _
        (and_both _ _ (less_test p.event.node q.event.node (omega (arith, x, y, here, less)))
        (negates _ ((λ i. is_before taken 0 root (place_d i) (place_e i)) ∙ (sym (before_is d.place e.place) ∙ apart.before))))
        (negates _ ((λ i. is_before taken 0 root (place_e i) (place_d i)) ∙ (sym (before_is e.place d.place) ∙ apart.behind)))

    pub pair_listed : AreListed taken root a.events.items a.loose.items begin from k l
    pair_listed =
        let less = under.low in
        let x = node_d in
        let y = node_e in
        let begin_d = p.from in
        let begin_e = q.from in
        let sd = ap (start_of a.segments.items a.events.items) segment_d in
        let se = ap (start_of a.segments.items a.events.items) segment_e in
        let z = listed_apart a.segments.items a.events.items a.loose.items a.levels.items (scopes_of (t ∷ ts)) n (full_but a (t ∷ ts) n f) f.last.top f.last.own
        f.last.event (λ us. subst ListsAreAlone (sym top) alone n us) k l p.event q.event e.place d.place (omega (arith, sd, begin_d)) p.there p.at
        (omega (arith, x, here)) (omega (arith, se, begin_e)) q.there q.at (omega (arith, y, less))
        (ap (λ s. is_before s.taken 0 s.tree e.place d.place) top ∙ apart.behind) in
        let low_z = z.1 in
        record {
          low = least k p.event ends p.there (omega (arith, x, here));
          within = slice_get_within a.events.items k p.event p.there;
          with = record {
            at = z.0;
            low = omega (arith, from_is, low_z);
            listed = record { same = refl; there = z.3; apart = (λ i. is_apart_below taken root (p.there i) (q.there i)) ∙ stands };
          };
        }

  -- what is told of the node is among the last two
  ends_last : (i : ℕ) (d : Evaluation) → slice_get t.done i ≡ Some d → d.place.node ≡ n → length a.events.items - 2 ≤ length (all_done ts) + i
  ends_last i d at here =
      let c = f.all.events in
      let l = length-append (all_done ts) t.done in
      let e = own i d at here in
      omega (arith, c, l, e)

  pub none_below : (rows : List Row) → ((k : ℕ) → begin ≤ k → k < length a.events.items →
      NoneListed rows taken root a.events.items a.items.items a.loose.items from k) → NoneOfNode rows t n
  none_below rows clean d e x y here under apart =
      let p = in_log a t ts _ f.holds f.all d x.0 x.1 in
      let q = in_log a t ts _ f.holds f.all e y.0 y.1 in
      let w = pair_listed d e _ _ p q here under apart (ends_last x.0 d x.1 here) in
      let listed = w.with.listed in
      let at : event_of a.events.items (slice_get a.loose.items w.with.at) ≡ Some q.event = ap (event_of a.events.items) listed.there ∙ q.there in
      none_sub rows (event_has a.items.items (slice_get a.events.items (length (all_done ts) + x.0)))
      (event_has a.items.items (event_of a.events.items (slice_get a.loose.items w.with.at))) (has d) (has e)
      (λ j i. ap (λ z. event_has a.items.items z j) p.there ∙ (p.items j ∙ i)) (λ j i. ap (λ z. event_has a.items.items z j) at ∙ (q.items j ∙ i))
      (clean _ w.low w.within w.with.at w.with.low
      (ap (is_apart_below taken root (slice_get a.events.items (length (all_done ts) + x.0))) (ap (event_of a.events.items) listed.there) ∙ listed.apart))

  module _ (frames : List FrameRow) (rows : List Row) (p : Expression) (is : p ≡ record { frame = t.frame; turn = t.turn }) where
    pub node_from : (x : Found) → IsConflictIn frames rows t (AreOfNode t n) x →
        IsOfPair frames rows p a.events.items a.items.items (AreListed taken root a.events.items a.loose.items begin from) x
    node_from x q =
        let P = in_log a t ts _ f.holds f.all q.one q.one_done.0 q.one_done.1 in
        let Q = in_log a t ts _ f.holds f.all q.other q.other_done.0 q.other_done.1 in (
          length (all_done ts) + q.one_done.0,
          length (all_done ts) + q.other_done.0,
          pair_listed q.one q.other _ _ P Q q.pair.0 q.pair.1 q.apart (ends_last q.one_done.0 q.one q.one_done.1 q.pair.0),
          conflict_logged a t ts _ f.holds f.all frames rows p is x q.one q.other _ _ P Q q.of,
        )

    pub node_told : (x : Found) → IsOfPair frames rows p a.events.items a.items.items (AreListed taken root a.events.items a.loose.items begin from) x →
        IsConflictIn frames rows t (AreOfNode t n) x
    node_told x q =
        let k = q.0 in
        let l = q.1 in
        let w = q.2 in
        let d = name_there p (slice_get a.events.items k) x.event q.3.event in
        let e = name_there p (slice_get a.events.items l) x.against q.3.against in
        let stand : is_apart_below taken root (Some d.0) (Some e.0) ≡ true = (λ i. is_apart_below taken root (sym d.1 i) (sym e.1 i)) ∙ w.with.listed.apart in
        let parts = and_parts _ _ stand in
        let first = and_parts _ _ parts.0 in
        let less = less_is d.0.node e.0.node first.0 in
        let own_node = node_own k d.0 w.low (slice_get_within a.events.items k d.0 d.1) d.1 in
        let low_at = w.with.low in
        let inside = slice_get_within a.loose.items w.with.at l w.with.listed.there in
        let seg = f.holds.loose.own last w.with.at l (omega (arith, from_is, low_at)) (last_end w.with.at inside) w.with.listed.there in
        let begins = begins_low a t ts _ f.holds f.all last base_last in
        let seg_low = seg.0 in
        let b = in_segment a t ts _ f.holds f.all last l e.0 base_last seg.0 seg.1 e.1 in
        let m : b.0 ≡ n = same_Some b.0 n (sym b.1 ∙ f.last.own) in
        let not_last : suc l < length a.events.items = before_last l e.0 e.1 (λ z. omega (arith, z, less, own_node)) in
        let k_low : l ≤ k = reaches k l d.0 e.0 w.low d.1 e.1 not_last less in
        let c = conflict_told a t ts _ f.holds f.all frames rows p is x k l (omega (arith, begins, seg_low, k_low)) (omega (arith, begins, seg_low)) q.3 in
        let P = in_log a t ts _ f.holds f.all c.2 c.0 c.6 in
        let Q = in_log a t ts _ f.holds f.all c.3 c.1 c.7 in
        let same_d : P.event ≡ d.0 = same_Some _ _ (sym P.there ∙ (ap (slice_get a.events.items) c.4 ∙ d.1)) in
        let same_e : Q.event ≡ e.0 = same_Some _ _ (sym Q.there ∙ (ap (slice_get a.events.items) c.5 ∙ e.1)) in
        let place_d : place d.0.node d.0.kind ≡ c.2.place = (λ i. place (sym same_d i).node (sym same_d i).kind) ∙ same_Some _ _ P.at in
        let place_e : place e.0.node e.0.kind ≡ c.3.place = (λ i. place (sym same_e i).node (sym same_e i).kind) ∙ same_Some _ _ Q.at in
        let xd = ap (λ (z : Place). z.node) place_d in
        let xe = ap (λ (z : Place). z.node) place_e in
        let bh = b.2.high in
        record {
          one = c.2;
          other = c.3;
          one_done = (c.0, c.6);
          other_done = (c.1, c.7);
          pair = (
            sym xd ∙ own_node,
            record {
              part = b.2.part;
              there = ap (part_of t.scope) (sym m) ∙ b.2.there;
              low = omega (arith, less, own_node, xe);
              high = omega (arith, bh, m, xe);
            },
          );
          apart = record {
            before = before_by (place d.0.node d.0.kind) (place e.0.node e.0.kind) c.2.place c.3.place place_d place_e (negated _ first.1);
            behind = before_by (place e.0.node e.0.kind) (place d.0.node d.0.kind) c.3.place c.2.place place_e place_d (negated _ parts.1);
          };
          of = c.8;
        }
      where
        before_by : (u v x y : Place) → u ≡ x → v ≡ y → is_before taken 0 root u v ≡ false → is_before t.scope.taken 0 t.scope.tree x y ≡ false
        before_by u v x y eu ev h = (λ i. is_before (o.chosen i) 0 (o.tree i) (sym eu i) (sym ev i)) ∙ h

        at_end : (k : ℕ) (e : Logged) → suc k ≡ length a.events.items → slice_get a.events.items k ≡ Some e → e.node ≡ n
        at_end k e is there = f.last.event (place e.node e.kind) (ap (λ z. place_of (slice_get a.events.items z)) (omega (arith, is)) ∙ ap place_of there)

        node_own : (k : ℕ) (e : Logged) → begin ≤ k → k < length a.events.items → slice_get a.events.items k ≡ Some e → e.node ≡ n
        node_own k e le within there = ⊎_elim
            (λ less. of_node k e le less there)
            (λ past. at_end k e (omega (arith, past, within)) there)
            (before_or_past (suc k) (length a.events.items))

        last_end : (i : ℕ) → i < length a.loose.items → i < loose_of a.segments.items a.loose.items (suc last)
        last_end i less = let w = last_within in let z = looses_past a.segments.items a.events.items a.items.items a.loose.items a.levels.items f.holds.loose
            (suc last)
            (omega (arith, w)) in omega (arith, z, less)

        before_last : (l : ℕ) (e : Logged) → slice_get a.events.items l ≡ Some e → (e.node ≡ n → ⊥) → suc l < length a.events.items
        before_last l e there other = ⊎_elim (λ less. less)
            (λ past. absurd (let w = slice_get_within a.events.items l e there in other (at_end l e (omega (arith, past, w)) there)))
            (before_or_past (suc l) (length a.events.items))

        reaches : (k l : ℕ) (d e : Logged) → begin ≤ k → slice_get a.events.items k ≡ Some d → slice_get a.events.items l ≡ Some e →
            suc l < length a.events.items → d.node < e.node → l ≤ k
        reaches k l d e le at_k at_l less other = omega (arith, le, less, low)

-- ---- where the lists are the same
pub node_moved : (frames : List FrameRow) (rows : List Row) (es ge : List Logged) (is gi : List Item) (ls gl : List ℕ) (vs gv : List Level) → ge ≡ es →
    gi ≡ is →
    gl ≡ ls → gv ≡ vs → (taken : Taken) (root : Tree) (begin from : ℕ) (r : Option Found) →
    IsFirstOf frames (IsOfPair frames rows (expression_in (slice_get gv (length gv - 1))) ge gi (AreListed taken root ge gl begin from)) r →
    IsFirstOf frames (IsOfPair frames rows (expression_in (slice_get vs (length vs - 1))) es is (AreListed taken root es ls begin from)) r
node_moved frames rows es ge is gi ls gl vs gv ee ei el ev taken root begin from r h =
    subst (λ (x : List Logged). IsFirstOf frames (IsOfPair frames rows (expression_in (slice_get vs (length vs - 1))) x is
    (AreListed taken root x ls begin from)) r) ee
    (subst (λ (x : List Item). IsFirstOf frames (IsOfPair frames rows (expression_in (slice_get vs (length vs - 1))) ge x
    (AreListed taken root ge ls begin from)) r) ei
    (subst (λ (x : List ℕ). IsFirstOf frames (IsOfPair frames rows (expression_in (slice_get vs (length vs - 1))) ge gi (AreListed taken root ge x begin from))
    r) el
    (subst (λ (x : List Level). IsFirstOf frames (IsOfPair frames rows (expression_in (slice_get x (length x - 1))) ge gi
    (AreListed taken root ge gl begin from)) r)
    ev h)))

pub clean_moved : (rows : List Row) (es ge : List Logged) (is gi : List Item) (ls gl : List ℕ) → ge ≡ es → gi ≡ is → gl ≡ ls → (taken : Taken) (root : Tree)
    (begin from : ℕ) → ((k : ℕ) → begin ≤ k → k < length ge → NoneListed rows taken root ge gi gl from k) → (k : ℕ) → begin ≤ k → k < length es →
    NoneListed rows taken root es is ls from k
clean_moved rows es ge is gi ls gl ee ei el taken root begin from h =
    subst (λ (x : List Logged). (k : ℕ) → begin ≤ k → k < length x → NoneListed rows taken root x is ls from k) ee
    (subst (λ (x : List Item). (k : ℕ) → begin ≤ k → k < length ge → NoneListed rows taken root ge x ls from k) ei
    (subst (λ (x : List ℕ). (k : ℕ) → begin ≤ k → k < length ge → NoneListed rows taken root ge gi x from k) el h))
