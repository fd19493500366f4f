-- What the operands of the nodes on a way touched.
use Rattle.std.proofs.Common.{◌≡◌, ⊎_elim, ℕ, zero, suc, ◌≤◌, ◌<◌, ◌-◌, true, false, List, [], ◌∷◌, length, get_or, refl, sym, ap, ◌∙◌, arith, Option, Some}
use Rattle.std.proofs.Common.{None, subst}
use Rattle.std.specs.Prelude.{slice_get}
use Rattle.std.proofs.lemmas.Option.{slice_get_within, same_Some}
use Rattle.ub_base.specs.declared.names.Item.{Item}
use Rattle.addr_map.specs.declared.map.Row.{Row}
use Rattle.evaluation_log.specs.declared.log.Segment.{Segment}
use Rattle.evaluation_log.specs.declared.level.Level.{Level}
use Rattle.evaluation_log.specs.declared.rules.Rules.{Rules}
use Rattle.evaluation_log.specs.declared.sought.Sought.TheVariants.{Any}
use Rattle.evaluation_log.specs.Touched.{range_has, start_of}
use Rattle.evaluation_log.specs.Clashes.{NoClash, AreSorted, operand_has}
use Rattle.evaluation_log.specs.Kept.{IsOperand, base_of, marks, is_unsequenced}
use Rattle.evaluation_log.specs.Ways.{rule_in, IsRising, node_of}
use Rattle.evaluation_log.proofs.BetweenLemmas.{rises_to, range_within, operand_past, none_less, start_past}
use Rattle.evaluation_log.proofs.ClashLemmas.{none_like}
use Rattle.evaluation_log.proofs.KeptLemmas.{before_or_past}
use Rattle.evaluation_log.proofs.WholeLemmas.{start_same}
use Rattle.run_evaluations.specs.declared.open.Evaluations.{Evaluations}
use Rattle.run_evaluations.specs.Kept.{IsSameRest, NoneOfOperands}
use Rattle.run_evaluations.specs.Ways.{IsNearest, NoneOnWay, IsGathered}

-- ---- what stands when the operands of the nodes from one place of the way on are made one
pub record Shape (old cur : Evaluations) (above : List ℕ) (i c : ℕ) : Type 0 where
  pub rest : IsSameRest old cur
  pub low : c < length cur.segments.items → base_of old.levels.items ≤ c
  pub high : length cur.segments.items ≤ suc c
  pub within : c ≤ length old.segments.items
  pub all : length cur.segments.items ≤ c → length old.segments.items ≤ c
  pub starts : (g : ℕ) → g ≤ c → start_of cur.segments.items old.events.items g ≡ start_of old.segments.items old.events.items g
  pub nodes : (g : ℕ) → g < c → node_of (slice_get cur.segments.items g) ≡ node_of (slice_get old.segments.items g)
  pub own : (s : Segment) → slice_get cur.segments.items c ≡ Some s → (j : ℕ) × (i ≤ j) × (slice_get above j ≡ Some s.node)
  pub behind : (g : ℕ) → c ≤ g → g < length old.segments.items → (j m : ℕ) × (i ≤ j) × (slice_get above j ≡ Some m) ×
      IsOperand old.segments.items old.levels.items m g
  pub front : (g j m : ℕ) → g < c → i ≤ j → slice_get above j ≡ Some m → IsOperand old.segments.items old.levels.items m g → ⊥

-- none of the operands of these nodes clash
abbrev pub NoneSoFar : List Row → Rules → List ℕ → Evaluations → ℕ → Type 0
NoneSoFar rows rules above o i = (j n g h : ℕ) → i ≤ j → IsNearest o above j n g → is_unsequenced (rule_in rules n) ≡ true → g < h →
    NoClash Any rows (operand_has Any o.segments.items o.events.items o.items.items g) (operand_has Any o.segments.items o.events.items o.items.items h)

pub shape_self : (o : Evaluations) (above : List ℕ) (i : ℕ) → length above ≤ i → Shape o o above i (length o.segments.items)
shape_self o above i past = record {
  rest = record { events = refl; items = refl; large = refl; levels = refl };
  low = λ less. absurd (omega (arith, less));
  high = omega arith;
  within = omega arith;
  all = λ le. le;
  starts = λ g le. refl;
  nodes = λ g less. refl;
  own = λ s h. absurd (let w = slice_get_within o.segments.items (length o.segments.items) s h in omega (arith, w));
  behind = λ g le less. absurd (omega (arith, le, less));
  front = λ g j m less le at of. let w = slice_get_within above j m at in omega (arith, w, past, le);
}

pub none_so_far : (rows : List Row) (rules : Rules) (above : List ℕ) (o : Evaluations) (i : ℕ) → length above ≤ i → NoneSoFar rows rules above o i
none_so_far rows rules above o i past j n g h le near = absurd (let w = slice_get_within above j n near.0 in omega (arith, w, past, le))

pub all_so_far : (rows : List Row) (rules : Rules) (above : List ℕ) (o : Evaluations) (i : ℕ) → i ≤ 0 → NoneSoFar rows rules above o i →
    NoneOnWay rows rules above o
all_so_far rows rules above o i low so_far j n g h near = so_far j n g h (omega (arith, low)) near

noded : (o : Option Segment) (n : ℕ) → node_of o ≡ Some n → (s : Segment) × (o ≡ Some s) × (s.node ≡ n)
noded None n h = absurd (cc)
noded (Some s) n h = (s, refl, same_Some s.node n h)

pub node_at : (o p : Option Segment) (s : Segment) → node_of p ≡ node_of o → o ≡ Some s → (t : Segment) × (p ≡ Some t) × (t.node ≡ s.node)
node_at o p s same at = noded p s.node (same ∙ ap node_of at)

segment_at : (ss : List Segment) (g : ℕ) → g < length ss → (s : Segment) × (slice_get ss g ≡ Some s)
segment_at [] g less = absurd (omega (arith, less))
segment_at (s ∷ ss) zero less = (s, refl)
segment_at (s ∷ ss) (suc g) less = segment_at ss g (omega (arith, less))

module _ (old cur : Evaluations) (above : List ℕ) (p c n : ℕ) (shape : Shape old cur above (suc p) c) (rising : IsRising above)
    (here : slice_get above p ≡ Some n) where
  -- what stands from the joined segment on is of nodes behind this one
  pub joined_later : (k : ℕ) (s : Segment) → c ≤ k → slice_get cur.segments.items k ≡ Some s → n < s.node
  joined_later k s le at =
      let w = slice_get_within cur.segments.items k s at in
      let e : k ≡ c = omega (arith, w, shape.high, le) in
      let o = shape.own s (ap (slice_get cur.segments.items) (sym e) ∙ at) in
      rising p o.0 n s.node (omega (arith, o.1)) here o.2

  -- an operand as it was is one that stands
  pub stands : (g : ℕ) → IsOperand old.segments.items old.levels.items n g → g < c → IsOperand cur.segments.items cur.levels.items n g
  stands g of less = (
    subst (λ (ls : List Level). base_of ls ≤ g) (sym shape.rest.levels) of.0,
    λ k s le at. ⊎_elim
        (λ under. let t = node_at (slice_get cur.segments.items k) (slice_get old.segments.items k) s (sym (shape.nodes k under)) at in
        let b = of.1 k t.0 le t.1 in omega (arith, b, t.2))
        (λ more. joined_later k s more at)
        (before_or_past k c),
  )

  joined_stands : c < length cur.segments.items → IsOperand cur.segments.items cur.levels.items n c
  joined_stands less = (subst (λ (ls : List Level). base_of ls ≤ c) (sym shape.rest.levels) (shape.low less), joined_later)

  module _ (rows : List Row) (sorted : AreSorted old.segments.items old.events.items 0) where
    -- what an operand touched, as it stands
    as_was : (g : ℕ) → g < c → (j : Item) → operand_has Any cur.segments.items cur.events.items cur.items.items g j ≡
        operand_has Any old.segments.items old.events.items old.items.items g j
    as_was g less j =
        let a = shape.starts g (omega (arith, less)) in
        let b = shape.starts (suc g) (omega (arith, less)) in
        (λ t. operand_has Any cur.segments.items (shape.rest.events t) (shape.rest.items t) g j) ∙
        (λ t. range_has old.events.items old.items.items Any (a t) (b t - a t) j)

    in_joined : (h : ℕ) (j : Item) → c ≤ h → operand_has Any old.segments.items old.events.items old.items.items h j ≡ true →
        operand_has Any cur.segments.items cur.events.items cur.items.items c j ≡ true
    in_joined h j le has =
        let ss = old.segments.items in
        let es = old.events.items in
        let a = shape.starts c (omega arith) in
        let b : start_of cur.segments.items es (suc c) ≡ length es = start_past cur.segments.items es (suc c) shape.high in
        (λ t. operand_has Any cur.segments.items (shape.rest.events t) (shape.rest.items t) c j) ∙
        (λ t. range_has es old.items.items Any (a t) (b t - a t) j) ∙
        range_within es old.items.items Any (start_of ss es c) (start_of ss es h) (start_of ss es (suc h)) (length es) j
        (rises_to (start_of ss es) 0 c h (λ k more. (sorted k more).0) (omega arith) le) (sorted h (omega arith)).0 (sorted (suc h) (omega arith)).1 has

    -- between the operands of this node
    pub none_here : (rules : Rules) → (is_unsequenced (rule_in rules n) ≡ true → NoneOfOperands rows cur n) → NoneSoFar rows rules above old (suc p) →
        NoneSoFar rows rules above old p
    none_here rules fresh before j m g h le near free less =
        ⊎_elim (λ more. before j m g h more near free less)
        (λ same.
        let j_is : j ≡ p = omega (arith, same, le) in
        let m_is : m ≡ n = same_Some m n (sym near.0 ∙ ap (slice_get above) j_is ∙ here) in
        let of = subst (λ (x : ℕ). IsOperand old.segments.items old.levels.items x g) m_is near.1 in
        ⊎_elim
        (λ inside.
        let under : g < c =
        ⊎_elim (λ u. u)
        (λ past. absurd (let b = shape.behind g past inside in near.2 b.0 b.1 (omega (arith, b.2, j_is)) b.3 b.4)) (before_or_past g c) in
        let clean = fresh (ap (λ x. is_unsequenced (rule_in rules x)) (sym m_is) ∙ free) in
        let g_of = stands g of under in
        ⊎_elim
        (λ h_under.
        let h_of = stands h (omega (arith, of.0, less), λ k s u at. of.1 k s (omega (arith, u, less)) at) h_under in
        none_like rows Any (operand_has Any cur.segments.items cur.events.items cur.items.items g)
        (operand_has Any old.segments.items old.events.items old.items.items g)
        (operand_has Any cur.segments.items cur.events.items cur.items.items h)
        (operand_has Any old.segments.items old.events.items old.items.items h) (as_was g under) (as_was h h_under)
        (clean g h g_of h_of (λ e. omega (arith, e, less))))
        (λ h_past. ⊎_elim
        (λ there.
        none_less rows Any (operand_has Any old.segments.items old.events.items old.items.items g)
        (operand_has Any cur.segments.items cur.events.items cur.items.items c)
        (operand_has Any old.segments.items old.events.items old.items.items h) (λ x has. in_joined h x h_past has)
        (none_like rows Any (operand_has Any cur.segments.items cur.events.items cur.items.items g)
        (operand_has Any old.segments.items old.events.items old.items.items g)
        (operand_has Any cur.segments.items cur.events.items cur.items.items c)
        (operand_has Any cur.segments.items cur.events.items cur.items.items c) (as_was g under) (λ x. refl)
        (clean g c g_of (joined_stands there) (λ e. omega (arith, e, under)))))
        (λ whole. λ x y clash. absurd (
        let a = shape.all whole in
        let q = operand_past old.segments.items old.events.items old.items.items Any h y (omega (arith, a, h_past)) in
        let e : false ≡ true = sym q ∙ clash.1 in cc))
        (before_or_past c (length cur.segments.items)))
        (before_or_past h c))
        (λ past. λ x y clash. absurd (
        let q = operand_past old.segments.items old.events.items old.items.items Any g x past in
        let e : false ≡ true = sym q ∙ clash.0 in cc))
        (before_or_past g (length old.segments.items)))
        (before_or_past p j)

  -- the operands of this node are made one too
  pub shape_next : (new : Evaluations) (at : ℕ) → IsSameRest cur new → IsGathered cur new n at → (d : ℕ) × Shape old new above p d
  shape_next new at rest made =
      ⊎_elim
      (λ one.
      let le : at ≤ c =
      ⊎_elim (λ there. made.least c (joined_stands there)) (λ past. omega (arith, past, one)) (before_or_past c (length cur.segments.items)) in
      let marked : (g : ℕ) → g ≤ at → marks (slice_get new.segments.items g) ≡ marks (slice_get cur.segments.items g) =
      λ g low. ⊎_elim (λ under. (made.others one g under).0)
      (λ same. subst (λ (x : ℕ). marks (slice_get new.segments.items x) ≡ marks (slice_get cur.segments.items x)) (omega (arith, same, low))
      (made.begins one))
      (before_or_past g at) in
      let n_is = made.count one in (
        at,
        record {
          rest = rest_after rest;
          low = λ less. subst (λ (ls : List Level). base_of ls ≤ at) shape.rest.levels made.low;
          high = omega (arith, n_is);
          within = let w = shape.within in omega (arith, le, w);
          all = λ few. absurd (omega (arith, few, n_is));
          starts = λ g low. start_same old.events.items (slice_get new.segments.items g) (slice_get cur.segments.items g) (marked g low) ∙
              shape.starts g (omega (arith, low, le));
          nodes = λ g under. (made.others one g under).1 ∙ shape.nodes g (omega (arith, under, le));
          own = λ s h. (p, omega arith, here ∙ ap Some (same_Some n s.node (sym (made.own one) ∙ ap node_of h)));
          behind = λ g low inside. (
            p,
            n,
            omega arith,
            here,
            (
              subst (λ (ls : List Level). base_of ls ≤ g) shape.rest.levels (let b = made.low in omega (arith, b, low)),
              λ k s more there. ⊎_elim
                  (λ under. let t = node_at (slice_get old.segments.items k) (slice_get cur.segments.items k) s (shape.nodes k under) there in
                  let b = made.behind k t.0 (omega (arith, more, low)) t.1 in omega (arith, b, t.2))
                  (λ past.
                  let w = slice_get_within old.segments.items k s there in
                  let o = shape.behind k past w in
                  let b = o.4.1 k s (omega arith) there in
                  let r = rising p o.0 n o.1 (omega (arith, o.2)) here o.3 in
                  omega (arith, b, r))
                  (before_or_past k c),
            ),
          );
          front = λ g j m under low at of. ⊎_elim
              (λ more. shape.front g j m (omega (arith, under, le)) (omega (arith, more)) at of)
              (λ same. let e = made.least g (stands g (moved_here j m (omega (arith, same, low)) at g of) (omega (arith, under, le))) in
              omega (arith, e, under))
              (before_or_past p j);
        },
      ))
      (λ few.
      let e = made.same few in (
        c,
        record {
          rest = rest_after rest;
          low = λ less. shape.low (let m = ap length e in omega (arith, m, less));
          high = let h = shape.high in let m = ap length e in omega (arith, m, h);
          within = shape.within;
          all = λ few. shape.all (let m = ap length e in omega (arith, m, few));
          starts = λ g low. ap (λ (xs : List Segment). start_of xs old.events.items g) e ∙ shape.starts g low;
          nodes = λ g under. ap (λ (xs : List Segment). node_of (slice_get xs g)) e ∙ shape.nodes g under;
          own = λ s h. let o = shape.own s (ap (λ (xs : List Segment). slice_get xs c) (sym e) ∙ h) in (o.0, omega (arith, o.1), o.2);
          behind = λ g low inside. let o = shape.behind g low inside in (o.0, o.1, omega (arith, o.2), o.3, o.4);
          front = λ g j m under low at of. ⊎_elim
              (λ more. shape.front g j m under (omega (arith, more)) at of)
              (λ same.
              let here_of = moved_here j m (omega (arith, same, low)) at g of in
              let le = made.least g (stands g here_of under) in
              let w = shape.within in
              let inside = stands_within g (omega (arith, w, under)) under in
              omega (arith, le, few, inside))
              (before_or_past p j);
        },
      ))
      (before_or_past at (length cur.segments.items))
    where
      -- an operand of what stands at this place is one of this node
      moved_here : (j m : ℕ) → j ≡ p → slice_get above j ≡ Some m → (g : ℕ) → IsOperand old.segments.items old.levels.items m g →
          IsOperand old.segments.items old.levels.items n g
      moved_here j m same at g of =
          subst (λ (x : ℕ). IsOperand old.segments.items old.levels.items x g)
          (same_Some m n (sym at ∙ (ap (slice_get above) same ∙ here))) of

      stands_within : (g : ℕ) → g < length old.segments.items → g < c → g < length cur.segments.items
      stands_within g inside under =
          let s = segment_at old.segments.items g inside in
          let t = node_at (slice_get old.segments.items g) (slice_get cur.segments.items g) s.0 (shape.nodes g under) s.1 in
          slice_get_within cur.segments.items g t.0 t.1

      rest_after : IsSameRest cur new → IsSameRest old new
      rest_after rest = record {
        events = rest.events ∙ shape.rest.events;
        items = rest.items ∙ shape.rest.items;
        large = rest.large ∙ shape.rest.large;
        levels = rest.levels ∙ shape.rest.levels;
      }

-- ---- a node's operands that are made one
pub gathered_none : (o : Evaluations) (n at : ℕ) → length o.segments.items ≤ at → base_of o.levels.items ≤ at →
    ((k : ℕ) (s : Segment) → at ≤ k → slice_get o.segments.items k ≡ Some s → n < s.node) →
    ((g : ℕ) → IsOperand o.segments.items o.levels.items n g → at ≤ g) → IsGathered o o n at
gathered_none o n at past low behind least = record {
  low = low;
  behind = behind;
  least = least;
  same = λ le. refl;
  count = λ less. absurd (omega (arith, less, past));
  others = λ less. absurd (omega (arith, less, past));
  begins = λ less. refl;
  own = λ less. absurd (omega (arith, less, past));
}

pub gathered_one : (a t d : Evaluations) (n at : ℕ) → at < length a.segments.items → base_of a.levels.items ≤ at →
    ((k : ℕ) (s : Segment) → at ≤ k → slice_get a.segments.items k ≡ Some s → n < s.node) →
    ((g : ℕ) → IsOperand a.segments.items a.levels.items n g → at ≤ g) →
    ((g : ℕ) → marks (slice_get t.segments.items g) ≡ marks (slice_get a.segments.items g)) →
    ((g : ℕ) → node_of (slice_get t.segments.items g) ≡ node_of (slice_get a.segments.items g)) → length d.segments.items ≡ suc at →
    marks (slice_get d.segments.items at) ≡ marks (slice_get t.segments.items at) → node_of (slice_get d.segments.items at) ≡ Some n →
    ((g : ℕ) → g < at → slice_get d.segments.items g ≡ slice_get t.segments.items g) → IsGathered a d n at
gathered_one a t d n at within low behind least alike nodes count begins own others = record {
  low = low;
  behind = behind;
  least = least;
  same = λ past. absurd (omega (arith, past, within));
  count = λ less. count;
  others = λ less g under. (ap marks (others g under) ∙ alike g, ap node_of (others g under) ∙ nodes g);
  begins = λ less. begins ∙ alike at;
  own = λ less. own;
}

-- ---- one place further down
pub shape_before : (old cur : Evaluations) (above : List ℕ) (i p c : ℕ) → i ≡ suc p → Shape old cur above i c → Shape old cur above (suc p) c
shape_before old cur above i p c e s = subst (λ (x : ℕ). Shape old cur above x c) e s

pub none_before : (rows : List Row) (rules : Rules) (above : List ℕ) (o : Evaluations) (i p : ℕ) → i ≡ suc p → NoneSoFar rows rules above o i →
    NoneSoFar rows rules above o (suc p)
none_before rows rules above o i p e s = subst (λ (x : ℕ). NoneSoFar rows rules above o x) e s

pub indexed : (xs : List ℕ) (i x : ℕ) → i < length xs → x ≡ get_or xs i x → slice_get xs i ≡ Some x
indexed [] i x less h = absurd (omega (arith, less))
indexed (y ∷ ys) zero x less h = ap Some (sym h)
indexed (y ∷ ys) (suc i) x less h = indexed ys i x (omega (arith, less)) h
