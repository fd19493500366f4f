-- What was told is followed, as events are told and operands gathered.
use Rattle.std.proofs.Common.{◌≡◌, ◌⊎◌, inl, inr, ⊎_elim, ℕ, zero, suc, ◌≤◌, ◌<◌, ◌+◌, ◌-◌, ◌==◌, nat_lt, Bool, true, false, ◌&&◌, ◌||◌, List, [], ◌∷◌, ◌++◌}
use Rattle.std.proofs.Common.{length}
use Rattle.std.proofs.Common.{refl, sym, ap, ◌∙◌, arith, Option, Some, None, subst, if◌then◌else◌, append_assoc}
use Rattle.std.specs.Prelude.{slice_get, ◌≢◌}
use Rattle.std.proofs.lemmas.List.{length_push}
use Rattle.std.proofs.lemmas.Option.{slice_get_past, slice_get_within, same_Some}
use Rattle.ub_base.proofs.Tests.{or_left, or_right, and_both, and_right, less_test, not_less_test, number_equal, if_true, if_false, number_other}
use Rattle.ub_base.specs.declared.clause.Kind.{Kind}
use Rattle.ub_base.specs.declared.clause.Kind.TheVariants.{Eff}
use Rattle.ub_base.specs.declared.names.Item.{Item}
use Rattle.c_typed.specs.declared.tree.Place.{Place}
use Rattle.c_typed.specs.declared.class.Class.{Class}
use Rattle.c_typed.specs.Tree.{Tree, Trees, node, none, more, size}
use Rattle.c_typed.specs.Order.{Taken, place, goes}
use Rattle.c_typed.specs.Decide.{due_in, due_among}
use Rattle.evaluation_log.specs.declared.log.Logged.{Logged}
use Rattle.evaluation_log.specs.declared.log.Segment.{Segment}
use Rattle.evaluation_log.specs.declared.level.Level.{Level}
use Rattle.evaluation_log.specs.declared.rules.Rule.{Rule}
use Rattle.evaluation_log.specs.Touched.{some_stands, touched, body_has, start_of}
use Rattle.evaluation_log.specs.Kept.{AllBelow, Cut, cut_of, base_of, marks, IsOperand}
use Rattle.ub_base.specs.declared.names.Frame.{Frame}
use Rattle.evaluation_log.specs.Ways.{node_of}
use Rattle.evaluation_log.proofs.KeptLemmas.{before_or_past}
use Rattle.evaluation_log.proofs.WholeLemmas.{get_left, get_right, get_seam, items_top, starts_past, starts_rise}
use Rattle.run_evaluations.specs.declared.open.Evaluations.{Evaluations}
use Rattle.run_evaluations.specs.Kept.{IsKept, IsSameLog, IsSameRest, IsTold}
use Rattle.run_evaluations.specs.Listed.{IsOpenIn, ListedIn, AnyEvent, NotLastEffect, AreOperands}
use Rattle.run_evaluations.specs.Loose.{IsLooseKept, IsFull, IsFullAfter, IsFullBut, IsOver, EndsAt, top_scope}
use Rattle.run_evaluations.specs.Scopes.{Scope, IsBelow, IsOperandOf, part_in, part_among, part_of, place_of}
use Rattle.run_evaluations.specs.Told.{Evaluation, Opened, IsBeside, IsOperandIn, TellsNode, Tells, evaluation, parts_with, gathered, told}
use Rattle.run_evaluations.specs.Follows.{all_done, scopes_of, seen, name_of, IsFrame, AreFrames, Holds, AreAll, Follows, FollowsBut}
use Rattle.run_evaluations.specs.Ways.{IsGathered, IsOne, IsPlaced}
use Rattle.run_evaluations.proofs.FollowLemmas.{scope_top, below_open, open_base, top_open, SameFrames, frames_below}
use Rattle.run_evaluations.proofs.FullLemmas.{but_full, full_same, node_some, over_same}
use Rattle.run_evaluations.proofs.LooseWholeLemmas.{right_same}
use Rattle.run_evaluations.proofs.ListedLemmas.{level_within, locate, node_within, node_there}
use Rattle.run_evaluations.proofs.PartLemmas.{by_test, number_is, part_range, among_range, side_at, side_part, size_some}

-- ---- what is due in the tree is due in the part that holds it
module _ (taken : Taken) where
  mutual
    pub due_part : (k : ℕ) (t : Tree) (n : ℕ) (u : Place) (x : Tree) → part_in k t n ≡ Some x → n ≤ u.node → u.node < n + size x →
        due_in taken k t u ≡ true → due_in taken n x u ≡ true
    due_part k (node class ts) n u x h low high due = by_test (n == k)
        (λ e. let s = same_Some (node class ts) x (sym (if_true _ _ _ e) ∙ h) in
        ap (λ z. due_in taken n z u) (sym s) ∙ (ap (λ z. due_in taken z (node class ts) u) (number_is n k e) ∙ due))
        (λ e. let g : part_among (suc k) ts n ≡ Some x = sym (if_false _ _ _ e) ∙ h in
        let r = among_range (suc k) ts n x g in
        let l = r.low in
        among_due class (taken k) 0 (suc k) ts n u x g low high (sym (if_false _ _ _ (number_other u.node k (λ q. omega (arith, q, l, low)))) ∙ due))

    among_due : (class : Class) (choice : Option ℕ) (i m : ℕ) (ts : Trees) (n : ℕ) (u : Place) (x : Tree) → part_among m ts n ≡ Some x →
        n ≤ u.node → u.node < n + size x → due_among taken class choice i m ts u ≡ true → due_in taken n x u ≡ true
    among_due class choice i m none n u x h low high due = absurd (cc)
    among_due class choice i m (more t ts) n u x h low high due = by_test (nat_lt n (m + size t))
        (λ e. let g : part_in m t n ≡ Some x = sym (if_true _ _ _ e) ∙ h in
        let r = part_range m t n x g in
        let o = r.high in
        due_part m t n u x g low high
        (and_right (goes class choice i) _ (sym (if_true _ _ _ (less_test u.node (m + size t) (omega (arith, o, high)))) ∙ due)))
        (λ e. let g : part_among (m + size t) ts n ≡ Some x = sym (if_false _ _ _ e) ∙ h in
        let r = among_range (m + size t) ts n x g in
        let o = r.low in
        among_due class choice (suc i) (m + size t) ts n u x g low high
        (sym (if_false _ _ _ (not_less_test u.node (m + size t) (omega (arith, o, low)))) ∙ due))

-- ---- operands and what stands beside a node
operand_behind : (s : Scope) (n m : ℕ) (c : Class) (ts : Trees) (i : ℕ) → IsOperandOf s n c ts i m → n < m
operand_behind s n m c ts i o = let l = (side_at (suc n) ts i o.side o.there).low in let e = o.number in omega (arith, l, e)

pub operand_part : (s : Scope) (n m : ℕ) (o : IsOperandIn s n m) → part_of s m ≡ Some o.of.side.tree
operand_part s n m o =
    ap (part_of s) (sym o.of.number) ∙ side_part s n o.class o.operands o.there o.index o.of.side o.of.there

pub beside_less : (s : Scope) (m n : ℕ) → IsBeside s m n → m < n
beside_less s m n b =
    let l = b.behind b.operand.of.side.tree (operand_part s b.above m b.operand) in
    let z = size_some b.operand.of.side.tree in
    omega (arith, l, z)

-- ---- what is touched, where items were added
pub touched_same : (is js : List Item) (from n : ℕ) (j : Item) → ((p : ℕ) → from ≤ p → p < from + n → slice_get js p ≡ slice_get is p) →
    touched js from n j ≡ touched is from n j
touched_same is js from zero j same = refl
touched_same is js from (suc n) j same =
    let last : slice_get js (from + n) ≡ slice_get is (from + n) = same (from + n) (omega arith) (omega arith) in
    let rest = touched_same is js from n j (λ p le less. same p le (omega (arith, less))) in
    (λ i. rest i || some_stands (last i) j)

touched_right : (is added : List Item) (n : ℕ) (j : Item) → touched (is ++ added) (length is) n j ≡ touched added 0 n j
touched_right is added zero j = refl
touched_right is added (suc n) j =
    let last : slice_get (is ++ added) (length is + n) ≡ slice_get added (0 + n) = get_right is added n ∙ ap (slice_get added) (omega arith) in
    let rest = touched_right is added n j in
    (λ i. rest i || some_stands (last i) j)

pub seen_some : (is js : List Item) (d : Logged) → ((p : ℕ) → p < d.to → slice_get js p ≡ slice_get is p) → seen js (Some d) ≡ seen is (Some d)
seen_some is js d same = (λ i. Some (record {
  place = place d.node d.kind;
  own = λ j. touched_same is js d.from (d.to - d.from) j (λ p le less. same p (omega (arith, le, less))) i;
  body = body_has d.foot;
}))

-- ---- a level has its cut, and all that is logged is of a segment
pub named_cut : (o : Option Level) (x : Frame × ℕ) → name_of o ≡ Some x → (c : Cut) × (cut_of o ≡ Some c)
named_cut None x h = absurd (cc)
named_cut (Some l) x h = (_, refl)

pub starts_at : (a : Evaluations) (t : Opened) (ts : List Opened) → IsKept a → AreFrames a (t ∷ ts) → start_of a.segments.items a.events.items 0 ≤ 0
starts_at a t [] w f =
    let c = named_cut (slice_get a.levels.items 0) (t.frame, t.turn) f.0.named in
    let e = f.0.begins c.0 c.1 in
    let s = (w.cuts 0 c.0 c.1).1 in
    let r = starts_rise a.segments.items a.events.items a.items.items a.large.items a.levels.items w 0 c.0.segments (omega arith) in
    omega (arith, e, s, r)
starts_at a t (s ∷ ts) w f = starts_at a s ts w f.1

-- an event of the log has its items before their end
pub event_within : (a : Evaluations) (t : Opened) (ts : List Opened) → IsKept a → AreFrames a (t ∷ ts) → (k : ℕ) (d : Logged) →
    slice_get a.events.items k ≡ Some d → d.to ≤ length a.items.items
event_within a t ts w f k d at =
    let ss = a.segments.items in
    let z = starts_at a t ts w f in
    let past = starts_past ss a.events.items (0 + length ss) (omega arith) in
    let in_log = slice_get_within a.events.items k d at in
    let l = locate ss a.events.items (length ss) 0 k (omega (arith, z)) (omega (arith, past, in_log)) in
    let o = w.kept.own l.0 k d (omega arith) (l.3, l.4, at) in
    let t = items_top ss a.events.items a.items.items a.large.items a.levels.items w (suc l.0) in
    omega (arith, o.1, t)

pub seen_left : (a : Evaluations) (t : Opened) (ts : List Opened) → IsKept a → AreFrames a (t ∷ ts) → (e : Logged) (added : List Item) (k : ℕ) →
    k < length a.events.items →
    seen (a.items.items ++ added) (slice_get (a.events.items ++ (e ∷ [])) k) ≡ seen a.items.items (slice_get a.events.items k)
seen_left a t ts w f e added k less = ap (seen (a.items.items ++ added)) (get_left a.events.items (e ∷ []) k less) ∙ at (slice_get a.events.items k) refl
  where
    at : (o : Option Logged) → slice_get a.events.items k ≡ o → seen (a.items.items ++ added) o ≡ seen a.items.items o
    at None h = refl
    at (Some d) h = seen_some a.items.items (a.items.items ++ added) d
        (λ p low. get_left a.items.items added p (let r = event_within a t ts w f k d h in omega (arith, low, r)))

seen_new : (is added : List Item) (e : Logged) (n : ℕ) (kind : Kind) → e.node ≡ n → e.kind ≡ kind → e.from ≡ length is → e.to ≡ length is + length added →
    e.foot ≡ None → seen (is ++ added) (Some e) ≡ Some (evaluation n kind added)
seen_new is added e n kind of_node of_kind from to bare =
    let count : e.to - e.from ≡ length added = omega (arith, from, to) in
    (λ i. Some (record {
      place = place (of_node i) (of_kind i);
      own = touched (is ++ added) (from i) (count i);
      body = body_has (bare i);
    })) ∙ (λ i. Some (record { place = place n kind; own = λ j. touched_right is added (length added) j i; body = λ j. false }))

-- ---- what was told of the frame on top
module _ (a : Evaluations) (t : Opened) (ts : List Opened) (f : Follows (t ∷ ts) a) where
  levels_are : length a.levels.items ≡ suc (length ts)
  levels_are = f.all.count

  pub full_all : IsFull (scopes_of (t ∷ ts)) a
  full_all d g k m u opens =
      f.holds.full d (let w = level_within a.levels.items d opens.cut opens.there in let n = levels_are in omega (arith, w, n)) g k m u opens

  pub scope_is : top_scope (scopes_of (t ∷ ts)) a ≡ t.scope
  scope_is = let n = levels_are in ap (scopes_of (t ∷ ts)) (omega (arith, n)) ∙ scope_top t ts

  -- a part, by a segment of the frame on top
  pub part_at : (g m : ℕ) → base_of a.levels.items ≤ g → node_of (slice_get a.segments.items g) ≡ Some m → t.parts m ≡ true
  part_at g m base h = f.holds.frames.0.parts g m (top_open a.levels.items (length ts) g levels_are base) h

  pub beside_at : (g h m n : ℕ) → base_of a.levels.items ≤ g → g < h → node_of (slice_get a.segments.items g) ≡ Some m →
      node_of (slice_get a.segments.items h) ≡ Some n → IsBeside t.scope m n
  beside_at g h m n base less x y =
      f.holds.frames.0.beside g h m n (top_open a.levels.items (length ts) g levels_are base)
      (top_open a.levels.items (length ts) h levels_are (omega (arith, base, less))) less x y

  -- a segment behind a node is one of the last, which are all behind it
  pub operand_at : (n g m : ℕ) → base_of a.levels.items ≤ g → node_of (slice_get a.segments.items g) ≡ Some m → n < m →
      IsOperand a.segments.items a.levels.items n g
  operand_at n g m low h behind = (
    low,
    λ k s le at. ⊎_elim
        (λ less. let l = beside_less t.scope m s.node (beside_at g k m s.node low less h (ap node_of at)) in omega (arith, l, behind))
        (λ past. let k_is : k ≡ g = omega (arith, past, le) in
        let e = same_Some s.node m (sym (ap node_of at) ∙ ap (λ x. node_of (slice_get a.segments.items x)) k_is ∙ h) in
        omega (arith, e, behind))
        (before_or_past g k),
  )

  module _ (n : ℕ) (rule : Rule) (chosen : Bool) (tell : TellsNode t n rule chosen) where
    pub over_told : IsOver (top_scope (scopes_of (t ∷ ts)) a) a n rule chosen
    over_told = subst (λ s. IsOver s a n rule chosen) (sym scope_is) (record {
      class = tell.class;
      operands = tell.operands;
      ruled = tell.ruled;
      parts = record {
        operand = λ g m base h less. ⊎_elim (λ e. absurd (omega (arith, e, less)))
            (⊎_elim (λ o. o) (λ b. absurd (let l = beside_less t.scope m n b in omega (arith, l, less))))
            (tell.next m (part_at g m base h));
        rise = λ g h x y base more p q less. beside_less t.scope x y (beside_at g h x y base more p q);
      };
      small = tell.small;
      frame = let c = levels_are in omega (arith, c);
    })

    -- once operands are made one, what is left is of nodes before this one, or is that one
    pub gathered_nodes : (b : Evaluations) (at : ℕ) → IsGathered a b n at → (g m : ℕ) → base_of a.levels.items ≤ g →
        node_of (slice_get b.segments.items g) ≡ Some m →
        ((node_of (slice_get a.segments.items g) ≡ Some m) × (m < n)) ⊎ ((m ≡ n) × (suc g ≡ length b.segments.items))
    gathered_nodes b at made g m base h =
        ⊎_elim
        (λ some_there.
        let count = made.count some_there in
        let w = node_within b.segments.items g m h in
        ⊎_elim
        (λ less. let old = sym (made.others some_there g less).1 ∙ h in
        let s = node_some (slice_get a.segments.items at) _ (there some_there).1 in
        let last = there some_there in
        let behind = made.behind at s.0 (omega arith) s.1 in
        let own = s.2 in
        let low = made.low in
        ⊎_elim
        (λ same. absurd (no_beside m last.0 same (beside_at g at m last.0 base less old last.1) (omega (arith, behind, own)) (next_at at last.0 low last.1)))
        (⊎_elim (λ o. absurd (let q = made.least g (operand_at n g m base old (operand_behind t.scope n m tell.class tell.operands o.0 o.1)) in
        omega (arith, q, less)))
        (λ b. inl (old, beside_less t.scope m n b)))
        (tell.next m (part_at g m base old)))
        (λ past. let g_is : g ≡ at = omega (arith, past, w, count) in
        inr (same_Some m n (sym h ∙ ap (λ x. node_of (slice_get b.segments.items x)) g_is ∙ made.own some_there), omega (arith, g_is, count)))
        (before_or_past g at))
        (λ none_there.
        let same = made.same none_there in
        let old : node_of (slice_get a.segments.items g) ≡ Some m = ap (λ xs. node_of (slice_get xs g)) (sym same) ∙ h in
        let w = node_within a.segments.items g m old in
        ⊎_elim
        (λ is. inr (
          is,
          ⊎_elim
              (λ later. absurd (
              let y = node_there a.segments.items (suc g) later in
              let b = beside_at g (suc g) m y.0 base (omega arith) old y.1 in
              let l = beside_less t.scope m y.0 b in
              let q = made.least (suc g) (operand_at n (suc g) y.0 (omega (arith, base)) y.1 (omega (arith, l, is))) in
              omega (arith, q, none_there, later)))
              (λ end. let e = ap length same in omega (arith, e, end, w))
              (before_or_past (suc g) (length a.segments.items)),
        ))
        (⊎_elim (λ o. absurd (
        let q = made.least g (operand_at n g m base old (operand_behind t.scope n m tell.class tell.operands o.0 o.1)) in
        omega (arith, q, none_there, w)))
        (λ b. inl (old, beside_less t.scope m n b)))
        (tell.next m (part_at g m base old)))
        (before_or_past at (length a.segments.items))
      where
        there : at < length a.segments.items → (x : ℕ) × (node_of (slice_get a.segments.items at) ≡ Some x)
        there less = node_there a.segments.items at less

        next_at : (h x : ℕ) → base_of a.levels.items ≤ h → node_of (slice_get a.segments.items h) ≡ Some x →
            (x ≡ n) ⊎ (((i : ℕ) × IsOperandOf t.scope n tell.class tell.operands i x) ⊎ IsBeside t.scope x n)
        next_at h x low y = tell.next x (part_at h x low y)

        -- the node itself, and an operand of it that is beside it
        no_beside : (m x : ℕ) → m ≡ n → IsBeside t.scope m x → n < x → ((x ≡ n) ⊎ (((i : ℕ) × IsOperandOf t.scope n tell.class tell.operands i x) ⊎
            IsBeside t.scope x n)) → ⊥
        no_beside m x is b behind next =
            let past = b.behind (node tell.class tell.operands) (ap (part_of t.scope) is ∙ tell.ruled.there) in
            ⊎_elim (λ e. omega (arith, e, behind))
            (⊎_elim
            (λ o. let h = (side_at (suc n) tell.operands o.0 o.1.side o.1.there).high in
            let z = size_some o.1.side.tree in
            let k = o.1.number in
            omega (arith, h, z, k, past, is))
            (λ c. let l = beside_less t.scope x n c in omega (arith, l, behind)))
            next

-- the node of a segment, once a node's operands are made one, or an event of it is told
abbrev pub Renoded : Evaluations → Evaluations → ℕ → Type 0
Renoded a d n = (g m : ℕ) → base_of a.levels.items ≤ g → node_of (slice_get d.segments.items g) ≡ Some m →
    ((node_of (slice_get a.segments.items g) ≡ Some m) × (m < n)) ⊎ ((m ≡ n) × (suc g ≡ length d.segments.items))

module _ (a d : Evaluations) (t : Opened) (ts : List Opened) (f : Follows (t ∷ ts) a) (n : ℕ) (rule : Rule) (chosen : Bool)
    (tell : TellsNode t n rule chosen) (levels : d.levels.items ≡ a.levels.items) (nodes : Renoded a d n)
    (lows : (g : ℕ) → g < base_of a.levels.items → node_of (slice_get d.segments.items g) ≡ node_of (slice_get a.segments.items g)) where
  opens_old : (x g : ℕ) → IsOpenIn d.levels.items x g → IsOpenIn a.levels.items x g
  opens_old x g o = subst (λ ls. IsOpenIn ls x g) levels o

  frames_same : SameFrames a d (length ts) (base_of a.levels.items)
  frames_same = record {
    names = λ x less. ap (λ ls. name_of (slice_get ls x)) levels;
    cuts = λ x less. ap (λ ls. cut_of (slice_get ls x)) levels;
    opens = λ x g m less o h. (opens_old x g o, below_open a.levels.items x (length ts) g f.all.count less (opens_old x g o));
    nodes = lows;
  }

  frame_told : IsFrame d (length ts) (gathered n t) (length (all_done ts))
  frame_told = record {
    named = ap (λ ls. name_of (slice_get ls (length ts))) levels ∙ f.holds.frames.0.named;
    begins = λ c h. f.holds.frames.0.begins c (ap (λ ls. cut_of (slice_get ls (length ts))) (sym levels) ∙ h);
    parts = λ g m o h.
        let base = open_base a.levels.items (length ts) g f.all.count (opens_old (length ts) g o) in
        ⊎_elim
        (λ old. or_left (nat_lt m n && t.parts m) (m == n) (and_both (nat_lt m n) (t.parts m) (less_test m n old.1) (part_at a t ts f g m base old.0)))
        (λ new. or_right (nat_lt m n && t.parts m) (m == n) (number_equal m n new.0))
        (nodes g m base h);
    beside = λ g h x y o p less i j.
        let base = open_base a.levels.items (length ts) g f.all.count (opens_old (length ts) g o) in
        let w = node_within d.segments.items h y j in
        ⊎_elim
        (λ old. ⊎_elim
        (λ also. beside_at a t ts f g h x y base less old.0 also.0)
        (λ new. subst (λ z. IsBeside t.scope x z) (sym new.0)
        (⊎_elim (λ e. absurd (let l = old.1 in omega (arith, e, l)))
        (⊎_elim (λ o. absurd (let l = operand_behind t.scope n x tell.class tell.operands o.0 o.1 in let m = old.1 in omega (arith, l, m))) (λ b. b))
        (tell.next x (part_at a t ts f g x base old.0))))
        (nodes h y (omega (arith, base, less)) j))
        (λ new. absurd (let e = new.1 in omega (arith, e, less, w)))
        (nodes g x base i);
  }

  pub frames_told : AreFrames d (gathered n t ∷ ts)
  frames_told = (frame_told, frames_below a d (length ts) (base_of a.levels.items) frames_same ts (omega arith) f.holds.frames.1)

-- ---- the event that is told is next to be done
pub below_told : (t : Opened) (u : Place) (rule : Rule) (chosen : Bool) → Tells t u rule chosen → IsBelow t.scope u.node u
below_told t u rule chosen tell = record {
  part = node tell.own.class tell.own.operands;
  there = tell.own.ruled.there;
  low = omega arith;
  high = omega arith;
  due = due_part t.scope.taken 0 t.scope.tree u.node u (node tell.own.class tell.own.operands) tell.own.ruled.there (omega arith) (omega arith) tell.due;
}

-- ---- which nodes segments are of, once an event is told
pub gathered_lows : (a b : Evaluations) (n at : ℕ) → IsGathered a b n at → (g : ℕ) → g < base_of a.levels.items →
    node_of (slice_get b.segments.items g) ≡ node_of (slice_get a.segments.items g)
gathered_lows a b n at made g less =
    ⊎_elim (λ there. (made.others there g (let l = made.low in omega (arith, l, less))).1)
    (λ past. ap (λ xs. node_of (slice_get xs g)) (made.same past))
    (before_or_past at (length a.segments.items))

module _ (a b d : Evaluations) (n count : ℕ) (placed : IsPlaced b d n count) where
  pub placed_nodes : ((g m : ℕ) → base_of a.levels.items ≤ g → node_of (slice_get b.segments.items g) ≡ Some m →
      ((node_of (slice_get a.segments.items g) ≡ Some m) × (m < n)) ⊎ ((m ≡ n) × (suc g ≡ length b.segments.items))) →
      ((g : ℕ) → base_of a.levels.items ≤ g → suc g ≡ length b.segments.items → node_of (slice_get b.segments.items g) ≡ Some n → suc g < count → ⊥) →
      Renoded a d n
  placed_nodes before single g m base h =
      let w = node_within d.segments.items g m h in
      let size = placed.size in
      ⊎_elim
      (λ less. let old = sym (placed.others g less) ∙ h in
      ⊎_elim inl (λ same. absurd (single g base same.1 (old ∙ ap Some same.0) less)) (before g m base old))
      (λ past. let at : g ≡ count - 1 = omega (arith, w, size, past) in
      inr (same_Some m n (sym h ∙ ap (λ x. node_of (slice_get d.segments.items x)) at ∙ placed.own), omega (arith, w, size, past)))
      (before_or_past (suc g) count)

  pub placed_lows : base_of a.levels.items < count →
      ((g : ℕ) → g < base_of a.levels.items → node_of (slice_get b.segments.items g) ≡ node_of (slice_get a.segments.items g)) → (g : ℕ) →
      g < base_of a.levels.items → node_of (slice_get d.segments.items g) ≡ node_of (slice_get a.segments.items g)
  placed_lows within before g less = placed.others g (omega (arith, within, less)) ∙ before g less

-- ---- lists that stay
pub rest_after : (a b d : Evaluations) → IsSameRest a b → IsSameRest b d → IsSameRest a d
rest_after a b d first second = record {
  events = second.events ∙ first.events;
  items = second.items ∙ first.items;
  large = second.large ∙ first.large;
  levels = second.levels ∙ first.levels;
}

-- ---- operands are gathered
pub follow_gathered : (a d : Evaluations) (t : Opened) (ts : List Opened) (f : Follows (t ∷ ts) a) (n : ℕ) (rule : Rule) (chosen : Bool)
    (tell : TellsNode t n rule chosen) → IsSameRest a d → Renoded a d n →
    ((g : ℕ) → g < base_of a.levels.items → node_of (slice_get d.segments.items g) ≡ node_of (slice_get a.segments.items g)) → IsKept d → IsLooseKept d →
    IsFull (scopes_of (t ∷ ts)) d → Follows (gathered n t ∷ ts) d
follow_gathered a d t ts f n rule chosen tell rest nodes lows kept loose full = record {
  holds = record {
    kept = kept;
    loose = loose;
    events = λ k less. ap (λ es. seen d.items.items (slice_get es k)) rest.events ∙ ap (λ is. seen is (slice_get a.events.items k)) rest.items
        ∙ f.holds.events k less;
    full = λ x less. full x;
    frames = frames_told a d t ts f n rule chosen tell rest.levels nodes lows;
  };
  all = record { count = ap length rest.levels ∙ f.all.count; events = ap length rest.events ∙ f.all.events };
}

pub one_gathered : (a d : Evaluations) (n at : ℕ) → at < length a.segments.items → base_of a.levels.items ≤ at →
    ((k : ℕ) (s : Segment) → at ≤ k → slice_get a.segments.items k ≡ Some s → n < s.node) →
    ((g : ℕ) → IsOperand a.segments.items a.levels.items n g → at ≤ g) → IsOne a d n at → IsGathered a d n at
one_gathered a d n at within low behind least one = record {
  low = low;
  behind = behind;
  least = least;
  same = λ past. absurd (omega (arith, past, within));
  count = λ less. one.count;
  others = λ less. one.others;
  begins = λ less. one.begins;
  own = λ less. one.own;
}

-- several operands are made one, or the only one is of this node from now on
pub follow_operands : (a d : Evaluations) (t : Opened) (ts : List Opened) (f : Follows (t ∷ ts) a) (n : ℕ) (rule : Rule) (chosen : Bool)
    (tell : TellsNode t n rule chosen) (at : ℕ) → IsGathered a d n at → IsSameRest a d → IsKept d → IsLooseKept d → IsFull (scopes_of (t ∷ ts)) d →
    Follows (gathered n t ∷ ts) d
follow_operands a d t ts f n rule chosen tell at made rest kept loose full =
    follow_gathered a d t ts f n rule chosen tell rest (gathered_nodes a t ts f n rule chosen tell d at made) (gathered_lows a d n at made) kept loose full

pub one_after : (a b d : Evaluations) (n at : ℕ) → IsSameLog a b → IsSameRest b d → length d.segments.items ≡ suc at →
    ((g : ℕ) → g < at → slice_get d.segments.items g ≡ slice_get b.segments.items g) →
    marks (slice_get d.segments.items at) ≡ marks (slice_get b.segments.items at) → node_of (slice_get d.segments.items at) ≡ Some n → IsOne a d n at
one_after a b d n at same rest count others begins own = record {
  rest = rest_after a b d (record { events = same.events; items = same.items; large = same.large; levels = same.levels }) rest;
  count = count;
  others = λ g less. (ap marks (others g less) ∙ same.alike g, ap node_of (others g less) ∙ same.nodes g);
  begins = begins ∙ same.alike at;
  own = own;
}

-- the list has what it must, where sets alone were taken before
pub full_after : (a b d : Evaluations) (at n : ℕ) (rule : Rule) (chosen : Bool) → IsSameLog a b → IsFullAfter b d at n rule chosen →
    IsFullAfter a d at n rule chosen
full_after a b d at n rule chosen same after scopes below r full base behind over =
    after scopes (subst (λ ls. AllBelow ls at) (sym same.levels) below) (right_same a b same r) (full_same a b scopes same same.nodes full)
    (subst (λ ls. base_of ls ≤ at) (sym same.levels) base) (λ g m le h. behind g m le (sym (same.nodes g) ∙ h))
    (over_same a b scopes n rule chosen same.levels same.nodes over)

-- ---- an event is told
as_told : (o : Evaluations) (x : ℕ) (t : Opened) (from : ℕ) (e : Evaluation) → IsFrame o x (gathered e.place.node t) from → IsFrame o x (told e t) from
as_told o x t from e f = record { named = f.named; begins = f.begins; parts = f.parts; beside = f.beside }

module _ (a d : Evaluations) (t : Opened) (ts : List Opened) (f : Follows (t ∷ ts) a) (n : ℕ) (kind : Kind) (rule : Rule) (chosen : Bool)
    (tell : TellsNode t n rule chosen) (e : Logged) (added : List Item) (of_node : e.node ≡ n) (of_kind : e.kind ≡ kind) (new : IsTold a d e added)
    (nodes : Renoded a d n)
    (lows : (g : ℕ) → g < base_of a.levels.items → node_of (slice_get d.segments.items g) ≡ node_of (slice_get a.segments.items g)) (kept : IsKept d)
    (loose : IsLooseKept d) where
  abbrev one : Evaluation
  one = evaluation n kind added

  abbrev old : List Evaluation
  old = all_done (t ∷ ts)

  done_is : old ++ (one ∷ []) ≡ all_done (told one t ∷ ts)
  done_is = append_assoc (all_done ts) t.done (one ∷ [])

  at_end : (k : ℕ) → k < length (old ++ (one ∷ [])) → (k < length old) ⊎ (k ≡ length old)
  at_end k less = let n = length_push old one in ⊎_elim inl (λ past. inr (omega (arith, past, less, n))) (before_or_past k (length old))

  events_are : (k : ℕ) → k < length (old ++ (one ∷ [])) → seen d.items.items (slice_get d.events.items k) ≡ slice_get (old ++ (one ∷ [])) k
  events_are k less =
      ap (λ es. seen d.items.items (slice_get es k)) new.events ∙ ap (λ is. seen is (slice_get (a.events.items ++ (e ∷ [])) k)) new.items
      ∙ ⊎_elim
      (λ before. seen_left a t ts f.holds.kept f.holds.frames e added k (let c = f.all.events in omega (arith, c, before)) ∙ f.holds.events k before
      ∙ sym (get_left old (one ∷ []) k before))
      (λ end. let c = f.all.events in
      ap (λ x. seen (a.items.items ++ added) (slice_get (a.events.items ++ (e ∷ [])) x)) (omega (arith, c, end))
      ∙ ap (seen (a.items.items ++ added)) (get_seam a.events.items e)
      ∙ seen_new a.items.items added e n kind of_node of_kind new.from new.to new.foot ∙ sym (get_seam old one) ∙ ap (slice_get (old ++ (one ∷ []))) (sym end))
      (at_end k less)

  new_count : length d.events.items ≡ length (all_done (told one t ∷ ts))
  new_count =
      let c = f.all.events in
      let x = length_push a.events.items e in
      let y = length_push old one in
      ap length new.events ∙ omega (arith, c, x, y) ∙ ap length done_is

  pub follow_told : IsFullBut (scopes_of (t ∷ ts)) d × EndsAt d n → FollowsBut (told one t ∷ ts) n d
  follow_told full = record {
    holds = record {
      kept = kept;
      loose = loose;
      events = subst (λ xs. (k : ℕ) → k < length xs → seen d.items.items (slice_get d.events.items k) ≡ slice_get xs k) done_is events_are;
      full = λ x less. full.0 x;
      frames = let r = frames_told a d t ts f n rule chosen tell new.levels nodes lows in (as_told d (length ts) t (length (all_done ts)) one r.0, r.1);
    };
    all = record { count = ap length new.levels ∙ f.all.count; events = new_count };
    last = full.1;
  }

  pub follow_now : (kind ≢ Eff) → IsFullBut (scopes_of (t ∷ ts)) d × EndsAt d n → Follows (told one t ∷ ts) d
  follow_now other full =
      let b = follow_told full in
      let whole : IsFull (scopes_of (t ∷ ts)) d =
      but_full d (scopes_of (t ∷ ts)) n (λ base u at own is. other (
      let size = length_push a.events.items e in
      let x : place_of (slice_get d.events.items (length d.events.items - 1)) ≡ Some (place e.node e.kind) =
      ap (λ es. place_of (slice_get es (length es - 1))) new.events
      ∙ ap (λ k. place_of (slice_get (a.events.items ++ (e ∷ [])) k)) (omega (arith, size)) ∙ ap place_of (get_seam a.events.items e) in
      sym of_kind ∙ ap (λ (p : Place). p.kind) (same_Some _ _ (sym x ∙ at)) ∙ is)) full.1 full.0 in
      record {
        holds = record {
          kept = kept;
          loose = loose;
          events = b.holds.events;
          full = λ x less. whole x;
          frames = b.holds.frames;
        };
        all = b.all;
      }

-- ---- a node is complete
pub follow_done : (a d : Evaluations) (os : List Opened) (n : ℕ) → FollowsBut os n a → IsSameRest a d →
    ((g : ℕ) → node_of (slice_get d.segments.items g) ≡ node_of (slice_get a.segments.items g)) → IsKept d → IsLooseKept d → IsFull (scopes_of os) d →
    Follows os d
follow_done a d os n f rest nodes kept loose full = record {
  holds = record {
    kept = kept;
    loose = loose;
    events = λ k less. ap (λ es. seen d.items.items (slice_get es k)) rest.events ∙ ap (λ is. seen is (slice_get a.events.items k)) rest.items
        ∙ f.holds.events k less;
    full = λ x less. full x;
    frames = frames_below a d (length os) (length a.segments.items) (record {
      names = λ x less. ap (λ ls. name_of (slice_get ls x)) rest.levels;
      cuts = λ x less. ap (λ ls. cut_of (slice_get ls x)) rest.levels;
      opens = λ x g m less o h. (subst (λ ls. IsOpenIn ls x g) rest.levels o, node_within a.segments.items g m (sym (nodes g) ∙ h));
      nodes = λ g less. nodes g;
    }) os (omega arith) f.holds.frames;
  };
  all = record { count = ap length rest.levels ∙ f.all.count; events = ap length rest.events ∙ f.all.events };
}

-- what is followed but for a side effect has all frames
pub full_but : (a : Evaluations) (os : List Opened) (n : ℕ) → FollowsBut os n a → IsFullBut (scopes_of os) a
full_but a os n f d g k m u opens =
    f.holds.full d (let w = level_within a.levels.items d opens.cut opens.there in let c = f.all.count in omega (arith, w, c)) g k m u opens
