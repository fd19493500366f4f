-- Beside an end of the run: if something is due that isn't sequenced with it, then an operand beside the way to it has a value.
use Rattle.std.proofs.Common.{◌≡◌, ◌⊎◌, inl, inr, ⊎_elim, ℕ, zero, suc, ◌≤◌, ◌<◌, ◌+◌, ◌-◌, nat_lt, ◌==◌, Bool, true, false, not, ◌&&◌, ◌||◌, List, [], ◌∷◌}
use Rattle.std.proofs.Common.{◌++◌, length}
use Rattle.std.proofs.Common.{refl, sym, ap, ◌∙◌, arith, Option, Some, None, subst, if◌then◌else◌}
use Rattle.std.specs.Prelude.{slice_get, IfSome}
use Rattle.std.specs.Option.{option_or}
use Rattle.std.proofs.lemmas.Bool.Decides.{nat_tests}
use Rattle.std.proofs.lemmas.Option.{same_Some}
use Rattle.ub_base.proofs.Tests.{if_true, if_false, less_is, less_test, not_less_test, number_other, number_equal, and_both, and_parts, or_left, or_right}
use Rattle.ub_base.specs.declared.clause.Kind.{Kind}
use Rattle.ub_base.specs.declared.clause.Kind.TheVariants.{Val, Eff, Body}
use Rattle.ub_base.specs.declared.names.Item.{Item}
use Rattle.ub_base.specs.declared.names.Item.TheVariants.{Any as AnyEvent}
use Rattle.addr_map.specs.declared.map.Row.{Row}
use Rattle.footprint.specs.Holds.{stands_for}
use Rattle.c_typed.specs.declared.tree.Place.{Place}
use Rattle.c_typed.specs.declared.class.Class.{Class}
use Rattle.c_typed.specs.declared.class.Class.TheVariants as class
use Rattle.c_typed.specs.Tree.{Tree, Trees, node, none, more, size, sizes, operands, is_quiet, kinds_of}
use Rattle.c_typed.specs.Order.{Taken, goes, is_body, place}
use Rattle.c_typed.specs.Decide.{due_in, due_among, has_kind, is_before, lifts, to_val}
use Rattle.evaluation_log.specs.declared.log.Logged.{Logged}
use Rattle.evaluation_log.specs.declared.rules.Rules.{Rules}
use Rattle.evaluation_log.specs.declared.sought.Sought.TheVariants.{Any}
use Rattle.evaluation_log.specs.Clashes.{NoClash}
use Rattle.evaluation_log.specs.Sides.{Side, side, sides_from, opened, own_lefts, own_rights, lefts_in, lefts_among, rights_in, rights_among, first_loud}
use Rattle.evaluation_log.specs.Sides.{free_by}
use Rattle.evaluation_log.proofs.KeptLemmas.{before_or_past}
use Rattle.evaluation_log.proofs.SideLemmas.{first_joined}
use Rattle.run_evaluations.specs.declared.open.Evaluations.{Evaluations}
use Rattle.run_evaluations.specs.Ends.{last_has, NoneBeside}
use Rattle.run_evaluations.specs.Scopes.{Scope, IsOperandOf, ListsAreAlone, part_in, part_among, part_of}
use Rattle.run_evaluations.specs.Shows.{AreApart, IsIn, FitsRules, IsStill, EndsTop, NoneOfWay, NonePending, TellsEnd}
use Rattle.run_evaluations.specs.Follows.{Follows}
use Rattle.run_evaluations.specs.Told.{Evaluation, Opened, has}
use Rattle.run_evaluations.specs.Ways.{NoneAtEnd}
use Rattle.run_evaluations.proofs.EndShowLemmas.{end_logged, holder, none_of_way, side_holds}
use Rattle.run_evaluations.proofs.PartLemmas.{by_test, number_is, root_part, part_before, part_range, rise_at, due_at, is_last_at, side_at, side_part}
use Rattle.run_evaluations.proofs.PartLemmas.{size_some, val_kind}
use Rattle.run_evaluations.proofs.ShowLemmas.{none_sub, side_order, comma_before, choice_before}
use Rattle.run_evaluations.proofs.ToldLemmas.{due_part}

-- ---- lists of sides
neither_loud : (o p : Option ℕ) → option_or o p ≡ None → (o ≡ None) × (p ≡ None)
neither_loud None p h = (refl, h)
neither_loud (Some x) p h = absurd (cc)

-- a side with a value, or one that is passed over
loud_here : (d : Side) (ds : List Side) → is_quiet d.tree ≡ false → first_loud (d ∷ ds) ≡ Some d.number
loud_here d ds loud = if_false _ _ _ loud

quiet_here : (d : Side) (ds : List Side) → is_quiet d.tree ≡ true → first_loud (d ∷ ds) ≡ first_loud ds
quiet_here d ds quiet = if_true _ _ _ quiet

-- the first one with a value, and how far down it stands
abbrev Reaches : List Side → ℕ → Type 0
Reaches ds n = (x : ℕ) × (first_loud ds ≡ Some x) × (x ≤ n)

reach_on : (d : Side) (ds : List Side) (n : ℕ) → d.number ≤ n → Reaches ds n → Reaches (d ∷ ds) n
reach_on d ds n le r = by_test (is_quiet d.tree)
    (λ quiet. (r.0, quiet_here d ds quiet ∙ r.1, r.2))
    (λ loud. (d.number, loud_here d ds loud, le))

sides_reach : (m : ℕ) (ts : Trees) (i : ℕ) (d : Side) → slice_get (sides_from m ts) i ≡ Some d → is_quiet d.tree ≡ false → Reaches (sides_from m ts) d.number
sides_reach m none i d h loud = absurd (cc)
sides_reach m (more t ts) zero d h loud =
    let e = same_Some (side m t) d h in
    let n = ap (λ (z : Side). z.number) e in
    (m, loud_here (side m t) (sides_from (m + size t) ts) (ap (λ (z : Side). is_quiet z.tree) e ∙ loud), omega (arith, n))
sides_reach m (more t ts) (suc i) d h loud =
    let l = (side_at (m + size t) ts i d h).low in
    reach_on (side m t) (sides_from (m + size t) ts) d.number (omega (arith, l)) (sides_reach (m + size t) ts i d h loud)

lefts_reach : (m : ℕ) (ts : Trees) (n i j : ℕ) (d r : Side) → i < j → slice_get (sides_from m ts) i ≡ Some d → slice_get (sides_from m ts) j ≡ Some r →
    r.number ≤ n → is_quiet d.tree ≡ false → Reaches (own_lefts m ts n) d.number
lefts_reach m none n i j d r less h k low loud = absurd (cc)
lefts_reach m (more t ts) n i zero d r less h k low loud = absurd (omega (arith, less))
lefts_reach m (more t ts) n zero (suc j) d r less h k low loud =
    let l = (side_at (m + size t) ts j r k).low in
    let past = not_less_test n (m + size t) (omega (arith, l, low)) in
    let e = same_Some (side m t) d h in
    let q = ap (λ (z : Side). z.number) e in (
      m,
      ap first_loud (if_false _ _ _ past)
          ∙ loud_here (side m t) (own_lefts (m + size t) ts n) (ap (λ (z : Side). is_quiet z.tree) e ∙ loud),
      omega (arith, q),
    )
lefts_reach m (more t ts) n (suc i) (suc j) d r less h k low loud =
    let l = (side_at (m + size t) ts j r k).low in
    let past = not_less_test n (m + size t) (omega (arith, l, low)) in
    let o = (side_at (m + size t) ts i d h).low in
    let x = reach_on (side m t) (own_lefts (m + size t) ts n) d.number (omega (arith, o))
    (lefts_reach (m + size t) ts n i j d r (omega (arith, less)) h k low loud) in
    (x.0, ap first_loud (if_false _ _ _ past) ∙ x.1, x.2)

rights_reach : (m : ℕ) (ts : Trees) (n i j : ℕ) (d r : Side) → j < i → slice_get (sides_from m ts) i ≡ Some d → slice_get (sides_from m ts) j ≡ Some r →
    r.number ≤ n → n < r.number + size r.tree → is_quiet d.tree ≡ false → Reaches (own_rights m ts n) d.number
rights_reach m none n i j d r less h k low high loud = absurd (cc)
rights_reach m (more t ts) n zero j d r less h k low high loud = absurd (omega (arith, less))
rights_reach m (more t ts) n (suc i) zero d r less h k low high loud =
    let e = same_Some (side m t) r k in
    let a = ap (λ (z : Side). z.number) e in
    let b = ap (λ (z : Side). size z.tree) e in
    let x = sides_reach (m + size t) ts i d h loud in
    (x.0, ap first_loud (if_true _ _ _ (less_test n (m + size t) (omega (arith, a, b, high)))) ∙ x.1, x.2)
rights_reach m (more t ts) n (suc i) (suc j) d r less h k low high loud =
    let l = (side_at (m + size t) ts j r k).low in
    let x = rights_reach (m + size t) ts n i j d r (omega (arith, less)) h k low high loud in
    (x.0, ap first_loud (if_false _ _ _ (not_less_test n (m + size t) (omega (arith, l, low)))) ∙ x.1, x.2)

-- which operand that is
pub record Loud (m : ℕ) (ts : Trees) (x : ℕ) : Type 0 where
  pub index : ℕ
  pub side : Side
  pub there : slice_get (sides_from m ts) index ≡ Some side
  pub number : side.number ≡ x
  pub loud : is_quiet side.tree ≡ false

abbrev loud_on : (m : ℕ) (t : Tree) (ts : Trees) (x : ℕ) → Loud (m + size t) ts x → Loud m (more t ts) x
loud_on m t ts x l = record { index = suc l.index; side = l.side; there = l.there; number = l.number; loud = l.loud }

sides_loud : (m : ℕ) (ts : Trees) (x : ℕ) → first_loud (sides_from m ts) ≡ Some x → Loud m ts x
sides_loud m none x h = absurd (cc)
sides_loud m (more t ts) x h = by_test (is_quiet t)
    (λ quiet. loud_on m t ts x (sides_loud (m + size t) ts x (sym (quiet_here (side m t) (sides_from (m + size t) ts) quiet) ∙ h)))
    (λ loud. record {
      index = 0;
      side = side m t;
      there = refl;
      number = same_Some m x (sym (loud_here (side m t) (sides_from (m + size t) ts) loud) ∙ h);
      loud = loud;
    })

lefts_loud : (m : ℕ) (ts : Trees) (n j : ℕ) (r : Side) (x : ℕ) → slice_get (sides_from m ts) j ≡ Some r → r.number ≤ n → n < r.number + size r.tree →
    first_loud (own_lefts m ts n) ≡ Some x → (l : Loud m ts x) × (l.index < j)
lefts_loud m none n j r x k low high h = absurd (cc)
lefts_loud m (more t ts) n zero r x k low high h =
    let e = same_Some (side m t) r k in
    let a = ap (λ (z : Side). z.number) e in
    let b = ap (λ (z : Side). size z.tree) e in
    absurd (let z : None ≡ Some x = sym (ap first_loud (if_true _ _ _ (less_test n (m + size t) (omega (arith, a, b, high))))) ∙ h in cc)
lefts_loud m (more t ts) n (suc j) r x k low high h =
    let l = (side_at (m + size t) ts j r k).low in
    let past = not_less_test n (m + size t) (omega (arith, l, low)) in
    let g = sym (ap first_loud (if_false _ _ _ past)) ∙ h in
    by_test (is_quiet t)
    (λ quiet.
    let q = lefts_loud (m + size t) ts n j r x k low high (sym (quiet_here (side m t) (own_lefts (m + size t) ts n) quiet) ∙ g) in
    (loud_on m t ts x q.0, let w = q.1 in omega (arith, w)))
    (λ loud. (
      record {
        index = 0;
        side = side m t;
        there = refl;
        number = same_Some m x (sym (loud_here (side m t) (own_lefts (m + size t) ts n) loud) ∙ g);
        loud = loud;
      },
      omega arith,
    ))

rights_loud : (m : ℕ) (ts : Trees) (n j : ℕ) (r : Side) (x : ℕ) → slice_get (sides_from m ts) j ≡ Some r → r.number ≤ n → n < r.number + size r.tree →
    first_loud (own_rights m ts n) ≡ Some x → (l : Loud m ts x) × (j < l.index)
rights_loud m none n j r x k low high h = absurd (cc)
rights_loud m (more t ts) n zero r x k low high h =
    let e = same_Some (side m t) r k in
    let a = ap (λ (z : Side). z.number) e in
    let b = ap (λ (z : Side). size z.tree) e in (
      loud_on m t ts x (sides_loud (m + size t) ts x (sym (ap first_loud (if_true _ _ _ (less_test n (m + size t) (omega (arith, a, b, high))))) ∙ h)),
      omega arith,
    )
rights_loud m (more t ts) n (suc j) r x k low high h =
    let l = (side_at (m + size t) ts j r k).low in
    let q = rights_loud (m + size t) ts n j r x k low high (sym (ap first_loud (if_false _ _ _ (not_less_test n (m + size t) (omega (arith, l, low))))) ∙ h) in
    (loud_on m t ts x q.0, let w = q.1 in omega (arith, w))

-- the sides within the operand that holds the node
lefts_side : (free : ℕ → Bool) (m : ℕ) (ts : Trees) (n j : ℕ) (r : Side) → slice_get (sides_from m ts) j ≡ Some r → r.number ≤ n →
    n < r.number + size r.tree → lefts_among free m ts n ≡ lefts_in free r.number r.tree n
lefts_side free m none n j r h low high = absurd (cc)
lefts_side free m (more t ts) n zero r h low high =
    let e = same_Some (side m t) r h in
    let a = ap (λ (z : Side). z.number) e in
    let b = ap (λ (z : Side). size z.tree) e in
    if_true _ _ _ (less_test n (m + size t) (omega (arith, a, b, high))) ∙ ap (λ (z : Side). lefts_in free z.number z.tree n) e
lefts_side free m (more t ts) n (suc j) r h low high =
    let l = (side_at (m + size t) ts j r h).low in
    if_false _ _ _ (not_less_test n (m + size t) (omega (arith, l, low))) ∙ lefts_side free (m + size t) ts n j r h low high

rights_side : (free : ℕ → Bool) (m : ℕ) (ts : Trees) (n j : ℕ) (r : Side) → slice_get (sides_from m ts) j ≡ Some r → r.number ≤ n →
    n < r.number + size r.tree → rights_among free m ts n ≡ rights_in free r.number r.tree n
rights_side free m none n j r h low high = absurd (cc)
rights_side free m (more t ts) n zero r h low high =
    let e = same_Some (side m t) r h in
    let a = ap (λ (z : Side). z.number) e in
    let b = ap (λ (z : Side). size z.tree) e in
    if_true _ _ _ (less_test n (m + size t) (omega (arith, a, b, high))) ∙ ap (λ (z : Side). rights_in free z.number z.tree n) e
rights_side free m (more t ts) n (suc j) r h low high =
    let l = (side_at (m + size t) ts j r h).low in
    if_false _ _ _ (not_less_test n (m + size t) (omega (arith, l, low))) ∙ rights_side free (m + size t) ts n j r h low high

-- ---- nodes that have a body
with_body : (c : Class) → has_kind (kinds_of c) Body ≡ true → (c ≡ class.Call) ⊎ (c ≡ class.Isolated)
with_body class.Object h = absurd (cc)
with_body class.Constant h = absurd (cc)
with_body class.Plain h = absurd (cc)
with_body class.Store h = absurd (cc)
with_body class.Update h = absurd (cc)
with_body class.Choice h = absurd (cc)
with_body class.Comma h = absurd (cc)
with_body class.Call h = inl refl
with_body class.Isolated h = inr refl

-- two events stand in two operands of a node
pub record Fork (s : Scope) (rules : Rules) (w e : Place) : Type 0 where
  pub top : ℕ
  pub class : Class
  pub operands : Trees
  pub here : part_of s top ≡ Some (node class operands)
  pub low : top < e.node
  pub high : e.node < top + size (node class operands)
  pub of_first : ℕ
  pub of_second : ℕ
  pub first : Side
  pub second : Side
  pub at_first : slice_get (sides_from (suc top) operands) of_first ≡ Some first
  pub at_second : slice_get (sides_from (suc top) operands) of_second ≡ Some second
  pub low_first : first.number ≤ w.node
  pub high_first : w.node < first.number + size first.tree
  pub low_second : second.number ≤ e.node
  pub high_second : e.node < second.number + size second.tree
  pub free_left : of_first < of_second → free_by rules top ≡ true
  pub free_right : of_second < of_first → free_by rules top ≡ true
  pub loud_first : is_quiet first.tree ≡ false
  pub operand_first : IsOperandOf s top class operands of_first first.number
  pub operand_second : IsOperandOf s top class operands of_second second.number
  pub differ : (of_first < of_second) ⊎ (of_second < of_first)

module _ (s : Scope) (still : IsStill s) where
  -- what is due in the tree, in the operand that holds it: the operand is evaluated and has a value
  module _ (u : Place) (due : due_in s.taken 0 s.tree u ≡ true) (k : ℕ) (c : Class) (ts : Trees) (here : part_of s k ≡ Some (node c ts)) (i : ℕ) (d : Side)
      (at : slice_get (sides_from (suc k) ts) i ≡ Some d) (low : d.number ≤ u.node) (high : u.node < d.number + size d.tree) where
    behind : k < u.node
    behind = let l = (side_at (suc k) ts i d at).low in omega (arith, l, low)

    within : u.node < k + size (node c ts)
    within = let h = (side_at (suc k) ts i d at).high in omega (arith, h, high)

    due_parts : (goes c (s.taken k) i ≡ true) × (due_in s.taken d.number d.tree u ≡ true)
    due_parts =
        let l = behind in
        and_parts (goes c (s.taken k) i) (due_in s.taken d.number d.tree u)
        (sym (due_at s.taken c (s.taken k) 0 (suc k) ts i i d u (omega arith) at low high)
        ∙ (sym (if_false _ _ _ (number_other u.node k (λ q. omega (arith, q, l))))
        ∙ due_part s.taken 0 s.tree k u (node c ts) here (omega (arith, l)) within due))

    loud : is_quiet d.tree ≡ false
    loud = by_test (is_quiet d.tree) (λ q. absurd (still d.number d.tree u (side_part s k c ts here i d at) q due_parts.1)) (λ q. q)

    pub operand_due : IsOperandOf s k c ts i d.number
    operand_due = record { side = d; there = at; number = refl; goes = due_parts.0; loud = loud }

    pub holds_due : IsIn s d.number u.node
    holds_due = record { part = d.tree; there = side_part s k c ts here i d at; low = low; high = high }

    pub is_loud : is_quiet d.tree ≡ false
    is_loud = loud

module _ (s : Scope) (rules : Rules) (fits : FitsRules s rules) (still : IsStill s) (alone : ListsAreAlone s) (w e : Place)
    (due_w : due_in s.taken 0 s.tree w ≡ true) (due_e : due_in s.taken 0 s.tree e ≡ true) (body : e.kind ≡ Body) (other : w.node ≡ e.node → ⊥)
    (apart : AreApart s w e) where
  not_effect : e.kind ≡ Eff → ⊥
  not_effect q = let z : Body ≡ Eff = sym body ∙ q in cc

  -- the body comes to the value of each node above it
  reach : (fuel k : ℕ) (t : Tree) → size t ≤ fuel → part_of s k ≡ Some t → k ≤ e.node → e.node < k + size t → to_val s.taken k t e ≡ true
  reach zero k (node c ts) small here low high = absurd (omega (arith, small))
  reach (suc fuel) k (node c ts) small here low high = by_test (e.node == k)
      (λ own. if_true _ _ _ own ∙ val_kind c e.kind not_effect)
      (λ not_own.
      let less : k < e.node = above k e.node low not_own in
      let h = holder s k c ts here e.node less high in
      let top = (side_at (suc k) ts h.0 h.1 h.2).high in
      let bottom = (side_at (suc k) ts h.0 h.1 h.2).low in
      let r = reach fuel h.1.number h.1.tree (omega (arith, top, bottom, small)) (side_part s k c ts here h.0 h.1 h.2) h.3 h.4 in
      if_false _ _ _ not_own ∙ (rise_at s.taken c (s.taken k) 0 (suc k) ts h.0 h.0 h.1 e Val (omega arith) h.2 h.3 h.4
      ∙ or_right (lifts c (s.taken k) h.0 (is_last_at ts h.0) Val) _
      (ap (λ z. not z && to_val s.taken h.1.number h.1.tree e) (is_loud s still e due_e k c ts here h.0 h.1 h.2 h.3 h.4) ∙ r)))
    where
      above : (k n : ℕ) → k ≤ n → (n == k) ≡ false → k < n
      above k n le no_eq = grind (arith, nat_tests)

  sequenced : is_before s.taken 0 s.tree w e ≡ true → ⊥
  sequenced h = let z : true ≡ false = sym h ∙ apart.before in cc

  sequenced_back : is_before s.taken 0 s.tree e w ≡ true → ⊥
  sequenced_back h = let z : true ≡ false = sym h ∙ apart.behind in cc

  -- of a node's own event and one in its operand
  module _ (k : ℕ) (c : Class) (ts : Trees) (here : part_of s k ≡ Some (node c ts)) where
    no_operands : c ≡ class.Isolated → (x : ℕ) → k < x → x < k + size (node c ts) → ⊥
    no_operands is x low high =
        let z = ap sizes (alone k ts (here ∙ ap (λ (y : Class). Some (node y ts)) is)) in
        omega (arith, z, low, high)

    own_kind : (u : Place) → due_in s.taken 0 s.tree u ≡ true → u.node ≡ k → has_kind (kinds_of c) u.kind ≡ true
    own_kind u due own =
        sym (if_true _ _ _ (number_equal u.node k own)) ∙ due_part s.taken 0 s.tree k u (node c ts) here (omega (arith, own)) (omega (arith, own)) due

    -- the body is the node's own
    own_body : e.node ≡ k → k < w.node → w.node < k + size (node c ts) → ⊥
    own_body own low high =
        ⊎_elim
        (λ is.
        let h = holder s k c ts here w.node low high in
        sequenced (part_before s.taken 0 s.tree k w e (node c ts) here (omega (arith, low)) high (omega (arith, own)) (omega (arith, own))
        ∙ (if_false _ _ _ (number_other w.node k (λ q. omega (arith, q, low)))
        ∙ (if_true _ _ _ (number_equal e.node k own)
        ∙ (rise_at s.taken c (s.taken k) 0 (suc k) ts h.0 h.0 h.1 w e.kind (omega arith) h.2 h.3 h.4
        ∙ or_left (lifts c (s.taken k) h.0 (is_last_at ts h.0) e.kind) _ (call_lifts h.0 (is_last_at ts h.0) is))))))
        (λ is. no_operands is w.node low high)
        (with_body c (ap (has_kind (kinds_of c)) (sym body) ∙ own_kind e due_e own))
      where
        call_lifts : (i : ℕ) (last : Bool) → c ≡ class.Call → lifts c (s.taken k) i last e.kind ≡ true
        call_lifts i last is = (λ z. lifts (is z) (s.taken k) i last (body z))

    -- the other event is
    own_other : w.node ≡ k → k < e.node → e.node < k + size (node c ts) → ⊥
    own_other own low high =
        let h = holder s k c ts here e.node low high in
        let quiet = is_loud s still e due_e k c ts here h.0 h.1 h.2 h.3 h.4 in
        let up = reach (size h.1.tree) h.1.number h.1.tree (omega arith) (side_part s k c ts here h.0 h.1 h.2) h.3 h.4 in
        sequenced_back (part_before s.taken 0 s.tree k e w (node c ts) here (omega (arith, low)) high (omega (arith, own)) (omega (arith, own))
        ∙ (if_false _ _ _ (number_other e.node k (λ q. omega (arith, q, low)))
        ∙ (if_true _ _ _ (number_equal w.node k own)
        ∙ (rise_at s.taken c (s.taken k) 0 (suc k) ts h.0 h.0 h.1 e w.kind (omega arith) h.2 h.3 h.4
        ∙ rises_by w.kind refl h.0 (is_last_at ts h.0) (is_quiet h.1.tree) (to_val s.taken h.1.number h.1.tree e) quiet up))))
      where
        rises_by : (kind : Kind) → w.kind ≡ kind → (i : ℕ) (last quiet up : Bool) → quiet ≡ false → up ≡ true →
            (lifts c (s.taken k) i last w.kind || (not (is_body w.kind) && (not quiet && up))) ≡ true
        rises_by Val is i last quiet up q u =
            or_right (lifts c (s.taken k) i last w.kind) _ ((λ z. not (is_body (is z)) && (not (q z) && u z)))
        rises_by Eff is i last quiet up q u =
            or_right (lifts c (s.taken k) i last w.kind) _ ((λ z. not (is_body (is z)) && (not (q z) && u z)))
        rises_by Body is i last quiet up q u =
            ⊎_elim
            (λ call. or_left (lifts c (s.taken k) i last w.kind) _ ((λ z. lifts (call z) (s.taken k) i last (is z))))
            (λ listed. absurd (no_operands listed e.node low high))
            (with_body c (ap (has_kind (kinds_of c)) (sym is) ∙ own_kind w due_w own))

    -- operands of the node are sequenced, or none of them
    module _ (i j : ℕ) (d r : Side) (at : slice_get (sides_from (suc k) ts) i ≡ Some d) (of : slice_get (sides_from (suc k) ts) j ≡ Some r)
        (low_w : d.number ≤ w.node) (high_w : w.node < d.number + size d.tree) (low_e : r.number ≤ e.node) (high_e : e.node < r.number + size r.tree) where
      abbrev of_w : IsOperandOf s k c ts i d.number
      of_w = operand_due s still w due_w k c ts here i d at low_w high_w

      abbrev of_e : IsOperandOf s k c ts j r.number
      of_e = operand_due s still e due_e k c ts here j r of low_e high_e

      abbrev in_w : IsIn s d.number w.node
      in_w = holds_due s still w due_w k c ts here i d at low_w high_w

      abbrev in_e : IsIn s r.number e.node
      in_e = holds_due s still e due_e k c ts here j r of low_e high_e

      free_before : i < j → free_by rules k ≡ true
      free_before less =
          let o = side_order (suc k) ts i j d r less at of in
          let z = size_some d.tree in
          let rise : d.number < r.number = omega (arith, o, z) in
          fits.free k c ts here
          (λ is. sequenced (choice_before s k c ts here d.number r.number i j of_w of_e rise w e in_w in_e is))
          (λ is. sequenced (comma_before s k c ts here d.number r.number i j of_w of_e rise w e in_w in_e is))

      free_behind : j < i → free_by rules k ≡ true
      free_behind less =
          let o = side_order (suc k) ts j i r d less of at in
          let z = size_some r.tree in
          let rise : r.number < d.number = omega (arith, o, z) in
          fits.free k c ts here
          (λ is. sequenced_back (choice_before s k c ts here r.number d.number j i of_e of_w rise e w in_e in_w is))
          (λ is. sequenced_back (comma_before s k c ts here r.number d.number j i of_e of_w rise e w in_e in_w is))

  -- of a node the events are of two operands
  pub fork : (fuel k : ℕ) (t : Tree) → size t ≤ fuel → part_of s k ≡ Some t → k ≤ e.node → e.node < k + size t → k ≤ w.node → w.node < k + size t →
      Fork s rules w e
  fork zero k (node c ts) small here el eh wl wh = absurd (omega (arith, small))
  fork (suc fuel) k (node c ts) small here el eh wl wh =
      ⊎_elim
      (λ e_own. ⊎_elim (λ w_own. absurd (other (w_own ∙ sym e_own))) (λ w_low. absurd (own_body k c ts here e_own w_low wh)) (own_or_low k w.node wl))
      (λ e_low. ⊎_elim (λ w_own. absurd (own_other k c ts here w_own e_low eh))
      (λ w_low.
      let x = holder s k c ts here w.node w_low wh in
      let y = holder s k c ts here e.node e_low eh in
      let apart_here : (x.0 < y.0) ⊎ (y.0 < x.0) → Fork s rules w e = λ differ.
      record {
        top = k;
        class = c;
        operands = ts;
        here = here;
        low = e_low;
        high = eh;
        of_first = x.0;
        of_second = y.0;
        first = x.1;
        second = y.1;
        at_first = x.2;
        at_second = y.2;
        low_first = x.3;
        high_first = x.4;
        low_second = y.3;
        high_second = y.4;
        free_left = free_before k c ts here x.0 y.0 x.1 y.1 x.2 y.2 x.3 x.4 y.3 y.4;
        free_right = free_behind k c ts here x.0 y.0 x.1 y.1 x.2 y.2 x.3 x.4 y.3 y.4;
        loud_first = is_loud s still w due_w k c ts here x.0 x.1 x.2 x.3 x.4;
        operand_first = operand_due s still w due_w k c ts here x.0 x.1 x.2 x.3 x.4;
        operand_second = operand_due s still e due_e k c ts here y.0 y.1 y.2 y.3 y.4;
        differ = differ;
      } in
      ⊎_elim
      (λ less. apart_here (inl less))
      (λ le. ⊎_elim
      (λ less. apart_here (inr less))
      (λ ge.
      let same = same_Some x.1 y.1 (sym x.2 ∙ (ap (slice_get (sides_from (suc k) ts)) (omega (arith, le, ge)) ∙ y.2)) in
      let a = ap (λ (z : Side). z.number) same in
      let b = ap (λ (z : Side). size z.tree) same in
      let wl2 = x.3 in
      let wh2 = x.4 in
      let top = (side_at (suc k) ts y.0 y.1 y.2).high in
      let bottom = (side_at (suc k) ts y.0 y.1 y.2).low in
      fork fuel y.1.number y.1.tree (omega (arith, top, bottom, small)) (side_part s k c ts here y.0 y.1 y.2) y.3 y.4 (omega (arith, wl2, a))
      (omega (arith, wh2, a, b)))
      (before_or_past y.0 x.0))
      (before_or_past x.0 y.0))
      (own_or_low k w.node wl))
      (own_or_low k e.node el)
    where
      own_or_low : (k n : ℕ) → k ≤ n → (n ≡ k) ⊎ (k < n)
      own_or_low k n le = grind arith

-- ---- the first of the operands beside a way that have a value
either_some : (a b : Option ℕ) (x : ℕ) → option_or a b ≡ Some x → (a ≡ Some x) ⊎ (b ≡ Some x)
either_some None b x h = inr h
either_some (Some y) b x h = inl h

opened_some : (b : Bool) (ds : List Side) (x : ℕ) → first_loud (opened b ds) ≡ Some x → (b ≡ true) × (first_loud ds ≡ Some x)
opened_some true ds x h = (refl, h)
opened_some false ds x h = absurd (cc)

-- it stands with the target in two operands of a node that no rule sequences
pub record LoudFork (s : Scope) (rules : Rules) (x target : ℕ) : Type 0 where
  pub top : ℕ
  pub class : Class
  pub operands : Trees
  pub here : part_of s top ≡ Some (node class operands)
  pub low : top < target
  pub high : target < top + size (node class operands)
  pub free : free_by rules top ≡ true
  pub loud : Loud (suc top) operands x
  pub index : ℕ
  pub second : Side
  pub at : slice_get (sides_from (suc top) operands) index ≡ Some second
  pub low_second : second.number ≤ target
  pub high_second : target < second.number + size second.tree

module _ (s : Scope) (rules : Rules) (target : ℕ) where
  lefts_are : (k : ℕ) (c : Class) (ts : Trees) → k < target → first_loud (lefts_in (free_by rules) k (node c ts) target) ≡
      option_or (first_loud (opened (free_by rules k) (own_lefts (suc k) ts target))) (first_loud (lefts_among (free_by rules) (suc k) ts target))
  lefts_are k c ts less =
      ap first_loud (if_true _ _ _ (less_test k target less))
      ∙ first_joined (opened (free_by rules k) (own_lefts (suc k) ts target)) (lefts_among (free_by rules) (suc k) ts target)

  rights_are : (k : ℕ) (c : Class) (ts : Trees) → k < target → first_loud (rights_in (free_by rules) k (node c ts) target) ≡
      option_or (first_loud (rights_among (free_by rules) (suc k) ts target)) (first_loud (opened (free_by rules k) (own_rights (suc k) ts target)))
  rights_are k c ts less =
      ap first_loud (if_true _ _ _ (less_test k target less))
      ∙ first_joined (rights_among (free_by rules) (suc k) ts target) (opened (free_by rules k) (own_rights (suc k) ts target))

  pub lefts_there : (fuel k : ℕ) (t : Tree) (x : ℕ) → size t ≤ fuel → part_of s k ≡ Some t → k ≤ target → target < k + size t →
      first_loud (lefts_in (free_by rules) k t target) ≡ Some x → (l : LoudFork s rules x target) × (l.loud.index < l.index)
  lefts_there zero k (node c ts) x small here low high h = absurd (omega (arith, small))
  lefts_there (suc fuel) k (node c ts) x small here low high h = by_test (nat_lt k target)
      (λ test.
      let less = less_is k target test in
      let q = holder s k c ts here target less high in
      ⊎_elim
      (λ own.
      let o = opened_some (free_by rules k) (own_lefts (suc k) ts target) x own in
      let l = lefts_loud (suc k) ts target q.0 q.1 x q.2 q.3 q.4 o.1 in (
        record {
          top = k;
          class = c;
          operands = ts;
          here = here;
          low = less;
          high = high;
          free = o.0;
          loud = l.0;
          index = q.0;
          second = q.1;
          at = q.2;
          low_second = q.3;
          high_second = q.4;
        },
        l.1,
      ))
      (λ deeper.
      let top = (side_at (suc k) ts q.0 q.1 q.2).high in
      let bottom = (side_at (suc k) ts q.0 q.1 q.2).low in
      lefts_there fuel q.1.number q.1.tree x (omega (arith, top, bottom, small)) (side_part s k c ts here q.0 q.1 q.2) q.3 q.4
      (ap first_loud (sym (lefts_side (free_by rules) (suc k) ts target q.0 q.1 q.2 q.3 q.4)) ∙ deeper))
      (either_some _ _ x (sym (lefts_are k c ts less) ∙ h)))
      (λ past. absurd (let z : None ≡ Some x = sym (ap first_loud (if_false _ _ _ past)) ∙ h in cc))

  pub rights_there : (fuel k : ℕ) (t : Tree) (x : ℕ) → size t ≤ fuel → part_of s k ≡ Some t → k ≤ target → target < k + size t →
      first_loud (rights_in (free_by rules) k t target) ≡ Some x → (l : LoudFork s rules x target) × (l.index < l.loud.index) × (x < k + size t)
  rights_there zero k (node c ts) x small here low high h = absurd (omega (arith, small))
  rights_there (suc fuel) k (node c ts) x small here low high h = by_test (nat_lt k target)
      (λ test.
      let less = less_is k target test in
      let q = holder s k c ts here target less high in
      let top = (side_at (suc k) ts q.0 q.1 q.2).high in
      let bottom = (side_at (suc k) ts q.0 q.1 q.2).low in
      ⊎_elim
      (λ deeper.
      let r = rights_there fuel q.1.number q.1.tree x (omega (arith, top, bottom, small)) (side_part s k c ts here q.0 q.1 q.2) q.3 q.4
      (ap first_loud (sym (rights_side (free_by rules) (suc k) ts target q.0 q.1 q.2 q.3 q.4)) ∙ deeper) in
      let l = r.2 in
      (r.0, r.1, omega (arith, l, top)))
      (λ own.
      let o = opened_some (free_by rules k) (own_rights (suc k) ts target) x own in
      let l = rights_loud (suc k) ts target q.0 q.1 x q.2 q.3 q.4 o.1 in
      let end = (side_at (suc k) ts l.0.index l.0.side l.0.there).high in
      let number = l.0.number in
      let some = size_some l.0.side.tree in (
        record {
          top = k;
          class = c;
          operands = ts;
          here = here;
          low = less;
          high = high;
          free = o.0;
          loud = l.0;
          index = q.0;
          second = q.1;
          at = q.2;
          low_second = q.3;
          high_second = q.4;
        },
        l.1,
        omega (arith, end, number, some),
      ))
      (either_some _ _ x (sym (rights_are k c ts less) ∙ h)))
      (λ past. absurd (let z : None ≡ Some x = sym (ap first_loud (if_false _ _ _ past)) ∙ h in cc))

-- the first one of the first list, or of the second, reaches as far
joined_reach : (o p : Option ℕ) (n : ℕ) → ((y : ℕ) → o ≡ Some y → y ≤ n) → (x : ℕ) × (p ≡ Some x) × (x ≤ n) → (x : ℕ) × (option_or o p ≡ Some x) × (x ≤ n)
joined_reach None p n bound r = r
joined_reach (Some y) p n bound r = (y, refl, bound y refl)

-- none of them is behind the operand of the other event
module _ (s : Scope) (rules : Rules) (w e : Place) (f : Fork s rules w e) where
  -- a node further up, or the node of the fork
  module _ (k : ℕ) (c : Class) (ts : Trees) (here : part_of s k ≡ Some (node c ts)) where
    module _ (own : f.top ≡ k) where
      same_operands : f.operands ≡ ts
      same_operands = ap operands (same_Some (node f.class f.operands) (node c ts) (sym f.here ∙ (ap (part_of s) own ∙ here)))

      first_here : slice_get (sides_from (suc k) ts) f.of_first ≡ Some f.first
      first_here = (λ z. slice_get (sides_from (suc (sym own z)) (sym same_operands z)) f.of_first) ∙ f.at_first

      second_here : slice_get (sides_from (suc k) ts) f.of_second ≡ Some f.second
      second_here = (λ z. slice_get (sides_from (suc (sym own z)) (sym same_operands z)) f.of_second) ∙ f.at_second

      free_here : free_by rules f.top ≡ true → free_by rules k ≡ true
      free_here h = ap (free_by rules) (sym own) ∙ h

    -- the operand that holds the fork
    module _ (up : k < f.top) (high : f.top < k + size (node c ts)) where
      held : (i : ℕ) × (d : Side) × (slice_get (sides_from (suc k) ts) i ≡ Some d) × (d.number ≤ f.top) × (f.top < d.number + size d.tree)
      held = holder s k c ts here f.top up high

      holds_low : held.1.number ≤ e.node
      holds_low = let l = held.3 in let m = f.low in omega (arith, l, m)

      holds_high : e.node < held.1.number + size held.1.tree
      holds_high =
          let u = side_holds s k c ts here held.0 held.1 f.top (node f.class f.operands) held.2 f.here held.3 held.4 in
          let h = f.high in
          omega (arith, u, h)

      holds_small : (fuel : ℕ) → size (node c ts) ≤ suc fuel → size held.1.tree ≤ fuel
      holds_small fuel small =
          let top = (side_at (suc k) ts held.0 held.1 held.2).high in
          let bottom = (side_at (suc k) ts held.0 held.1 held.2).low in
          omega (arith, top, bottom, small)

      first_behind : f.top < f.first.number
      first_behind = let l = (side_at (suc f.top) f.operands f.of_first f.first f.at_first).low in omega (arith, l)

  own_or_up : (k : ℕ) → k ≤ f.top → (f.top ≡ k) ⊎ (k < f.top)
  own_or_up k le = grind arith

  pub lefts_nearest : f.of_first < f.of_second → (fuel k : ℕ) (t : Tree) → size t ≤ fuel → part_of s k ≡ Some t → k ≤ f.top → f.top < k + size t →
      Reaches (lefts_in (free_by rules) k t e.node) f.first.number
  lefts_nearest less zero k (node c ts) small here low high = absurd (omega (arith, small))
  lefts_nearest less (suc fuel) k (node c ts) small here low high =
      let below = f.low in
      let k_less : k < e.node = omega (arith, low, below) in
      let are = lefts_are s rules e.node k c ts k_less in
      ⊎_elim
      (λ own.
      let r = lefts_reach (suc k) ts e.node f.of_first f.of_second f.first f.second less (first_here k c ts here own) (second_here k c ts here own)
      f.low_second f.loud_first in (
        r.0,
        are ∙ ap (λ z. option_or z (first_loud (lefts_among (free_by rules) (suc k) ts e.node)))
            (ap (λ b. first_loud (opened b (own_lefts (suc k) ts e.node))) (free_here k c ts here own (f.free_left less)) ∙ r.1),
        r.2,
      ))
      (λ up.
      let q = held k c ts here up high in
      let ql = holds_low k c ts here up high in
      let qh = holds_high k c ts here up high in
      let behind = first_behind k c ts here up high in
      let r = lefts_nearest less fuel q.1.number q.1.tree (holds_small k c ts here up high fuel small) (side_part s k c ts here q.0 q.1 q.2) q.3 q.4 in
      let j = joined_reach (first_loud (opened (free_by rules k) (own_lefts (suc k) ts e.node))) (first_loud (lefts_among (free_by rules) (suc k) ts e.node))
      f.first.number
      (λ y h.
      let l = lefts_loud (suc k) ts e.node q.0 q.1 y q.2 ql qh (opened_some (free_by rules k) (own_lefts (suc k) ts e.node) y h).1 in
      let o = side_order (suc k) ts l.0.index q.0 l.0.side q.1 l.1 l.0.there q.2 in
      let n = l.0.number in
      let t = q.3 in
      omega (arith, o, n, t, behind))
      (r.0, ap first_loud (lefts_side (free_by rules) (suc k) ts e.node q.0 q.1 q.2 ql qh) ∙ r.1, r.2) in
      (j.0, are ∙ j.1, j.2))
      (own_or_up k low)

  pub rights_nearest : f.of_second < f.of_first → (fuel k : ℕ) (t : Tree) → size t ≤ fuel → part_of s k ≡ Some t → k ≤ f.top → f.top < k + size t →
      Reaches (rights_in (free_by rules) k t e.node) f.first.number
  rights_nearest less zero k (node c ts) small here low high = absurd (omega (arith, small))
  rights_nearest less (suc fuel) k (node c ts) small here low high =
      let below = f.low in
      let k_less : k < e.node = omega (arith, low, below) in
      let are = rights_are s rules e.node k c ts k_less in
      ⊎_elim
      (λ own.
      let d = first_here k c ts here own in
      let g = second_here k c ts here own in
      let r = rights_reach (suc k) ts e.node f.of_first f.of_second f.first f.second less d g f.low_second f.high_second f.loud_first in
      let order = side_order (suc k) ts f.of_second f.of_first f.second f.first less g d in
      let j = joined_reach (first_loud (rights_among (free_by rules) (suc k) ts e.node)) (first_loud (opened (free_by rules k) (own_rights (suc k) ts e.node)))
      f.first.number
      (λ y h.
      let x = rights_there s rules e.node (size f.second.tree) f.second.number f.second.tree y (omega arith)
      (side_part s k c ts here f.of_second f.second g) f.low_second f.high_second
      (ap first_loud (sym (rights_side (free_by rules) (suc k) ts e.node f.of_second f.second g f.low_second f.high_second)) ∙ h) in
      let l = x.2 in
      omega (arith, l, order))
      (r.0, ap (λ b. first_loud (opened b (own_rights (suc k) ts e.node))) (free_here k c ts here own (f.free_right less)) ∙ r.1, r.2) in
      (j.0, are ∙ j.1, j.2))
      (λ up.
      let q = held k c ts here up high in
      let ql = holds_low k c ts here up high in
      let qh = holds_high k c ts here up high in
      let r = rights_nearest less fuel q.1.number q.1.tree (holds_small k c ts here up high fuel small) (side_part s k c ts here q.0 q.1 q.2) q.3 q.4 in (
        r.0,
        are ∙ ap (λ z. option_or z (first_loud (opened (free_by rules k) (own_rights (suc k) ts e.node))))
            (ap first_loud (rights_side (free_by rules) (suc k) ts e.node q.0 q.1 q.2 ql qh) ∙ r.1),
        r.2,
      ))
      (own_or_up k low)

-- ---- what is due stands in the tree
mutual
  pub due_high : (taken : Taken) (k : ℕ) (t : Tree) (u : Place) → due_in taken k t u ≡ true → u.node < k + size t
  due_high taken k (node class ts) u h = by_test (u.node == k)
      (λ e. let q = number_is u.node k e in omega (arith, q))
      (λ e. let r = among_high taken class (taken k) 0 (suc k) ts u (sym (if_false _ _ _ e) ∙ h) in omega (arith, r))

  among_high : (taken : Taken) (class : Class) (choice : Option ℕ) (i m : ℕ) (ts : Trees) (u : Place) → due_among taken class choice i m ts u ≡ true →
      u.node < m + sizes ts
  among_high taken class choice i m none u h = absurd (cc)
  among_high taken class choice i m (more t ts) u h = by_test (nat_lt u.node (m + size t))
      (λ e. let r = less_is u.node (m + size t) e in omega (arith, r))
      (λ e. let r = among_high taken class choice (suc i) (m + size t) ts u (sym (if_false _ _ _ e) ∙ h) in omega (arith, r))

mutual
  due_there : (taken : Taken) (k : ℕ) (t : Tree) (u : Place) → due_in taken k t u ≡ true → (x : Tree) × (part_in k t u.node ≡ Some x)
  due_there taken k (node class ts) u h = by_test (u.node == k)
      (λ e. (node class ts, if_true _ _ _ e))
      (λ e. let r = among_there taken class (taken k) 0 (suc k) ts u (sym (if_false _ _ _ e) ∙ h) in (r.0, if_false _ _ _ e ∙ r.1))

  among_there : (taken : Taken) (class : Class) (choice : Option ℕ) (i m : ℕ) (ts : Trees) (u : Place) → due_among taken class choice i m ts u ≡ true →
      (x : Tree) × (part_among m ts u.node ≡ Some x)
  among_there taken class choice i m none u h = absurd (cc)
  among_there taken class choice i m (more t ts) u h = by_test (nat_lt u.node (m + size t))
      (λ e. let p = and_parts (goes class choice i) (due_in taken m t u) (sym (if_true _ _ _ e) ∙ h) in
      let r = due_there taken m t u p.1 in (r.0, if_true _ _ _ e ∙ r.1))
      (λ e. let r = among_there taken class choice (suc i) (m + size t) ts u (sym (if_false _ _ _ e) ∙ h) in (r.0, if_false _ _ _ e ∙ r.1))

-- ---- beside the last evaluation
pub none_pending : (rows : List Row) (a : Evaluations) (t : Opened) (last : Evaluation) (ends : EndsTop t last) (rules : Rules) → FitsRules t.scope rules →
    IsStill t.scope → ListsAreAlone t.scope → ((j : Item) → last_has a j ≡ has last j) →
    (o p q : Option ℕ) → o ≡ option_or p q → p ≡ first_loud (lefts_in (free_by rules) 0 t.scope.tree last.place.node) →
    q ≡ first_loud (rights_in (free_by rules) 0 t.scope.tree last.place.node) → IfSome o (NoneBeside rows a) → NonePending rows t last
none_pending rows a t last ends rules fits still alone last_is (Some x) p q or_is left right beside w due other apart =
    none_sub rows (stands_for AnyEvent) (last_has a) (stands_for AnyEvent) (has last) (λ j h. h) (λ j h. last_is j ∙ h) beside.any
none_pending rows a t last ends rules fits still alone last_is None p q or_is left right beside w due other apart =
    absurd (
    let n = neither_loud p q (sym or_is) in
    let eh = due_high t.scope.taken 0 t.scope.tree last.place ends.due in
    let wh = due_high t.scope.taken 0 t.scope.tree w due in
    let f = fork t.scope rules fits still alone w last.place due ends.due ends.body other apart (size t.scope.tree) 0 t.scope.tree (omega arith)
    (root_part 0 t.scope.tree) (omega arith) eh (omega arith) wh in
    let low = f.low in
    ⊎_elim
    (λ less.
    let r = lefts_nearest t.scope rules w last.place f less (size t.scope.tree) 0 t.scope.tree (omega arith) (root_part 0 t.scope.tree) (omega arith)
    (omega (arith, low, eh)) in
    let z : None ≡ Some r.0 = sym n.0 ∙ (left ∙ r.1) in cc)
    (λ less.
    let r = rights_nearest t.scope rules w last.place f less (size t.scope.tree) 0 t.scope.tree (omega arith) (root_part 0 t.scope.tree) (omega arith)
    (omega (arith, low, eh)) in
    let z : None ≡ Some r.0 = sym n.1 ∙ (right ∙ r.1) in cc)
    f.differ)

-- ---- where the run ends
module _ (rows : List Row) (a : Evaluations) (t : Opened) (os : List Opened) (f : Follows (t ∷ os) a) (tree : Tree) (rules : Rules) (last : Evaluation)
    (tell : TellsEnd t tree rules last) where
  pub here_is : (own : Tree) × (part_of t.scope last.place.node ≡ Some own)
  here_is = due_there t.scope.taken 0 t.scope.tree last.place tell.top.due

  pub logged_last : (e : Logged) × (slice_get a.events.items (length a.events.items - 1) ≡ Some e) × (e.node ≡ last.place.node) ×
      ((j : Item) → last_has a j ≡ has last j) × (place e.node e.kind ≡ last.place)
  logged_last = end_logged rows a t os f rules tell.fits last tell.top tree tell.same here_is.0 here_is.1

  pub ended_none : (o p q : Option ℕ) (target : ℕ) → target ≡ last.place.node → o ≡ option_or p q →
      p ≡ first_loud (lefts_in (free_by rules) 0 tree target) → q ≡ first_loud (rights_in (free_by rules) 0 tree target) →
      IfSome o (NoneBeside rows a) → NoneAtEnd rows rules tree a → NoneOfWay rows t last.place.node × NonePending rows t last
  ended_none o p q target is or_is left right beside way = (
    none_of_way rows a t os f rules tell.fits last tell.top tree tell.same here_is.0 here_is.1 way,
    none_pending rows a t last tell.top rules tell.fits tell.still tell.alone logged_last.3 o p q or_is
        (left ∙ (λ i. first_loud (lefts_in (free_by rules) 0 (sym tell.same i) (is i))))
        (right ∙ (λ i. first_loud (rights_in (free_by rules) 0 (sym tell.same i) (is i)))) beside,
  )
