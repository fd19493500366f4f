-- The list of side effects has all that it must, as the evaluations go on.
use Rattle.std.proofs.Common.{◌≡◌, ◌⊎◌, inl, inr, ⊎_elim, ℕ, zero, suc, ◌≤◌, ◌<◌, ◌+◌, ◌-◌, Bool, true, false, List, [], ◌∷◌, ◌++◌, length, refl, sym, ap, ◌∙◌}
use Rattle.std.proofs.Common.{arith}
use Rattle.std.proofs.Common.{Option, Some, None, subst}
use Rattle.std.specs.Prelude.{Box, slice_get, IfNone}
use Rattle.std.proofs.lemmas.List.{length_push}
use Rattle.std.proofs.lemmas.Option.{slice_get_cases, slice_get_past, slice_get_within, same_Some}
use Rattle.ub_base.specs.declared.clause.Kind.{Kind}
use Rattle.ub_base.specs.declared.clause.Kind.TheVariants.{Eff}
use Rattle.ub_base.specs.declared.names.Item.{Item}
use Rattle.addr_map.specs.declared.map.Row.{Row}
use Rattle.c_typed.specs.declared.tree.Place.{Place}
use Rattle.c_typed.specs.Order.{place}
use Rattle.evaluation_log.specs.declared.found.Found.{Found}
use Rattle.evaluation_log.specs.declared.log.Logged.{Logged}
use Rattle.evaluation_log.specs.declared.log.Segment.{Segment}
use Rattle.evaluation_log.specs.declared.level.Level.{Level}
use Rattle.evaluation_log.specs.declared.rules.Rule.{Rule}
use Rattle.evaluation_log.specs.Touched.{first_event, start_of}
use Rattle.evaluation_log.specs.Kept.{Cut, cut_of, AllBelow, IsAdded, AreLike, marks, base_of, first_segment}
use Rattle.evaluation_log.specs.Loose.{Thins, first_loose, loose_of, loose_start_of}
use Rattle.evaluation_log.specs.Ways.{node_of}
use Rattle.evaluation_log.proofs.BetweenLemmas.{rises_to}
use Rattle.evaluation_log.proofs.KeptLemmas.{before_or_past}
use Rattle.evaluation_log.proofs.WholeLemmas.{get_left, get_seam, starts_past, start_same, inside, length_alike}
use Rattle.evaluation_log.proofs.LooseWholeLemmas.{start_by, below_or_at, looses_past}
use Rattle.run_evaluations.specs.declared.open.Evaluations.{Evaluations}
use Rattle.run_evaluations.specs.Kept.{IsKept, IsFirst, IsLogged, IsSameLog, IsSameRest}
use Rattle.run_evaluations.specs.Listed.{IsOpenIn, AllListed, AnyEvent, NotLastEffect, AreOperands, Stays, stays_from}
use Rattle.run_evaluations.specs.Loose.{EndsAt, IsFull, IsFullBut, IsListed, IsLooseKept, IsOver, stays_of, top_scope}
use Rattle.run_evaluations.specs.Scopes.{Scope, IsBelow, ComesTo, IsRuled, ListsAreAlone, place_of}
use Rattle.run_evaluations.proofs.LooseWholeLemmas.{start_marked, AreAlike, AlikeAt, alike_start, alike_low, same_alike}
use Rattle.run_evaluations.proofs.ListedLemmas.{all_by, all_joined, all_listed, all_logged, top_only, top_cut, cut_there, level_within, node_within}
use Rattle.run_evaluations.proofs.ListedLemmas.{rule_below, rule_comes, rule_gone}

-- ---- the same lists
all_moved : (ss ts : List Segment) (es fs : List Logged) (ls ms : List ℕ) (xs ys : List Level) (scopes : ℕ → Scope) → ts ≡ ss → fs ≡ es → ms ≡ ls →
    ys ≡ xs → AllListed ss es ls xs scopes AnyEvent → AllListed ts fs ms ys scopes AnyEvent
all_moved ss ts es fs ls ms xs ys scopes s e l y all =
    subst (λ z. AllListed z fs ms ys scopes AnyEvent) (sym s)
    (subst (λ z. AllListed ss z ms ys scopes AnyEvent) (sym e)
    (subst (λ z. AllListed ss es z ys scopes AnyEvent) (sym l)
    (subst (λ z. AllListed ss es ls z scopes AnyEvent) (sym y) all)))

but_moved : (ss ts : List Segment) (es fs : List Logged) (ls ms : List ℕ) (xs ys : List Level) (scopes : ℕ → Scope) → ts ≡ ss → fs ≡ es → ms ≡ ls →
    ys ≡ xs → AllListed ss es ls xs scopes (NotLastEffect es) → AllListed ts fs ms ys scopes (NotLastEffect fs)
but_moved ss ts es fs ls ms xs ys scopes s e l y all =
    subst (λ z. AllListed z fs ms ys scopes (NotLastEffect fs)) (sym s)
    (subst (λ z. AllListed ss z ms ys scopes (NotLastEffect z)) (sym e)
    (subst (λ z. AllListed ss es z ys scopes (NotLastEffect es)) (sym l)
    (subst (λ z. AllListed ss es ls z scopes (NotLastEffect es)) (sym y) all)))

pub node_some : (o : Option Segment) (m : ℕ) → node_of o ≡ Some m → (s : Segment) × (o ≡ Some s) × (s.node ≡ m)
node_some None m h = absurd (cc)
node_some (Some s) m h = (s, refl, same_Some s.node m h)

pub node_behind : (ss : List Segment) (at n : ℕ) → ((k : ℕ) (s : Segment) → at ≤ k → slice_get ss k ≡ Some s → n < s.node) → (g m : ℕ) → at ≤ g →
    node_of (slice_get ss g) ≡ Some m → n < m
node_behind ss at n behind g m le h =
    let s = node_some (slice_get ss g) m h in
    let b = behind g s.0 le s.1 in
    let e = s.2 in
    omega (arith, b, e)

pub low_some : (ls ms : List ℕ) (o p : Option Segment) (s : Segment) → o ≡ Some s → loose_start_of p ≡ loose_start_of o → first_loose ms p ≡ first_loose ls o
low_some ls ms o p s at e = start_by ms o p e ∙ ap (first_loose ms) at ∙ ap (first_loose ls) (sym at)

pub looses_up : (a : Evaluations) → IsLooseKept a → (g h : ℕ) → g ≤ h → loose_of a.segments.items a.loose.items g ≤ loose_of a.segments.items a.loose.items h
looses_up a r g h le = rises_to (loose_of a.segments.items a.loose.items) 0 g h (λ k more. r.rise k) (omega arith) le

looses_top : (a : Evaluations) → IsLooseKept a → (g : ℕ) → loose_of a.segments.items a.loose.items g ≤ length a.loose.items
looses_top a r g =
    let n = length a.segments.items in
    let e = looses_past a.segments.items a.events.items a.items.items a.loose.items a.levels.items r (g + n) (omega arith) in
    let u = looses_up a r g (g + n) (omega arith) in
    omega (arith, e, u)

base_le : (a : Evaluations) → IsKept a → base_of a.levels.items ≤ length a.segments.items
base_le a w = go (slice_get a.levels.items (length a.levels.items - 1)) refl
  where
    go : (o : Option Level) → slice_get a.levels.items (length a.levels.items - 1) ≡ o → first_segment o ≤ length a.segments.items
    go None e = omega arith
    go (Some l) e = (w.cuts (length a.levels.items - 1) _ (ap cut_of e)).0

-- ---- only sets have changed
pub full_same : (a b : Evaluations) (scopes : ℕ → Scope) → IsSameLog a b →
    ((g : ℕ) → node_of (slice_get b.segments.items g) ≡ node_of (slice_get a.segments.items g)) → IsFull scopes a → IsFull scopes b
full_same a b scopes same nodes full =
    all_by a.segments.items a.events.items a.loose.items a.levels.items scopes b.segments.items b.events.items b.loose.items b.levels.items AnyEvent full
    same.loose (λ g m h. sym (nodes g) ∙ h)
    (λ g. ap (λ es. first_event es (slice_get b.segments.items g)) same.events ∙
    start_same a.events.items (slice_get b.segments.items g) (slice_get a.segments.items g) (same.alike g))
    (λ g. start_by a.loose.items (slice_get a.segments.items g) (slice_get b.segments.items g)
    (start_marked (slice_get a.segments.items g) (slice_get b.segments.items g) (same.lows g)))
    (λ k u h. sym (ap (λ es. place_of (slice_get es k)) same.events) ∙ h)
    (λ d g m h o. subst (λ ls. IsOpenIn ls d g) same.levels o)

pub over_same : (a b : Evaluations) (scopes : ℕ → Scope) (n : ℕ) (rule : Rule) (chosen : Bool) → b.levels.items ≡ a.levels.items →
    ((g : ℕ) → node_of (slice_get b.segments.items g) ≡ node_of (slice_get a.segments.items g)) → IsOver (top_scope scopes a) a n rule chosen →
    IsOver (top_scope scopes b) b n rule chosen
over_same a b scopes n rule chosen levels nodes o = record {
  class = o.class;
  operands = o.operands;
  ruled = subst (λ ls. IsRuled (scopes (length ls - 1)) n o.class o.operands rule chosen) (sym levels) o.ruled;
  parts = subst (λ ls. AreOperands b.segments.items ls (scopes (length ls - 1)) n o.class o.operands) (sym levels) (record {
    operand = λ g m base h less. o.parts.operand g m base (sym (nodes g) ∙ h) less;
    rise = λ g h x y base more s t less. o.parts.rise g h x y base more (sym (nodes g) ∙ s) (sym (nodes h) ∙ t) less;
  });
  small = o.small;
  frame = subst (λ ls. 0 < length ls) (sym levels) o.frame;
}

pub but_like : (a b : Evaluations) (scopes : ℕ → Scope) → IsSameRest a b → b.loose.items ≡ a.loose.items →
    ((g : ℕ) → AreLike (slice_get a.segments.items g) (slice_get b.segments.items g)) →
    ((g : ℕ) → loose_start_of (slice_get b.segments.items g) ≡ loose_start_of (slice_get a.segments.items g)) →
    ((g : ℕ) → node_of (slice_get b.segments.items g) ≡ node_of (slice_get a.segments.items g)) → IsFullBut scopes a → IsFullBut scopes b
but_like a b scopes rest loose like lows nodes but =
    but_moved b.segments.items b.segments.items a.events.items b.events.items a.loose.items b.loose.items a.levels.items b.levels.items scopes refl rest.events
    loose rest.levels
    (all_by a.segments.items a.events.items a.loose.items a.levels.items scopes b.segments.items a.events.items a.loose.items a.levels.items
    (NotLastEffect a.events.items) but refl (λ g m h. sym (nodes g) ∙ h)
    (λ g. start_same a.events.items (slice_get b.segments.items g) (slice_get a.segments.items g) (like g).begins)
    (λ g. start_by a.loose.items (slice_get a.segments.items g) (slice_get b.segments.items g) (lows g))
    (λ k u h. h) (λ d g m h o. o))

pub ends_like : (a b : Evaluations) (n : ℕ) → IsSameRest a b → ((g : ℕ) → AreLike (slice_get a.segments.items g) (slice_get b.segments.items g)) →
    ((g : ℕ) → node_of (slice_get b.segments.items g) ≡ node_of (slice_get a.segments.items g)) → EndsAt a n → EndsAt b n
ends_like a b n rest like nodes ends =
    let count : length a.segments.items ≡ length b.segments.items =
    sym (length_alike b.segments.items a.segments.items (λ g. (like g).begins)) in
    record {
      top = subst (λ ls. IsOpenIn ls (length ls - 1) (length b.segments.items - 1)) (sym rest.levels)
          (subst (λ x. IsOpenIn a.levels.items (length a.levels.items - 1) (x - 1)) count ends.top);
      own = nodes (length b.segments.items - 1) ∙ ap (λ x. node_of (slice_get a.segments.items (x - 1))) (sym count) ∙ ends.own;
      event = subst (λ es. (u : Place) → place_of (slice_get es (length es - 1)) ≡ Some u → u.node ≡ n) (sym rest.events) ends.event;
    }

-- ---- segments that are made one
pub full_join : (a b t d : Evaluations) (at node : ℕ) (rule : Rule) (chosen : Bool) (scopes : ℕ → Scope) → at < length a.segments.items →
    b.segments.items ≡ a.segments.items → IsSameRest a b → Thins (loose_of a.segments.items a.loose.items at) a.loose.items b.loose.items →
    Stays (stays_of a at node rule chosen) (loose_of a.segments.items a.loose.items at) a.loose.items b.loose.items → IsSameRest b t →
    t.loose.items ≡ b.loose.items →
    ((g : ℕ) → AreLike (slice_get b.segments.items g) (slice_get t.segments.items g)) →
    ((g : ℕ) → loose_start_of (slice_get t.segments.items g) ≡ loose_start_of (slice_get b.segments.items g)) →
    ((g : ℕ) → g < at → slice_get t.segments.items g ≡ slice_get b.segments.items g) → IsSameRest t d → d.loose.items ≡ t.loose.items →
    length d.segments.items ≡ suc at → ((g : ℕ) → g < at → slice_get d.segments.items g ≡ slice_get t.segments.items g) →
    marks (slice_get d.segments.items at) ≡ marks (slice_get t.segments.items at) →
    loose_start_of (slice_get d.segments.items at) ≡ loose_start_of (slice_get t.segments.items at) →
    node_of (slice_get d.segments.items at) ≡ Some node → AllBelow a.levels.items at → IsLooseKept a → IsFull scopes a → base_of a.levels.items ≤ at →
    ((g m : ℕ) → at ≤ g → node_of (slice_get a.segments.items g) ≡ Some m → node < m) → IsOver (top_scope scopes a) a node rule chosen → IsFull scopes d
full_join a b t d at node rule chosen scopes within seg rest1 thin stays rest2 loose2 like2 lows2 others2 rest3 loose3 count others3 begins3 low3 own below r
    full
    base behind over =
    let ss = a.segments.items in
    let ds = d.segments.items in
    let up : (g : ℕ) → slice_get b.segments.items g ≡ slice_get ss g = λ g. ap (λ (xs : List Segment). slice_get xs g) seg in
    let other : (g : ℕ) → g < at → slice_get ds g ≡ slice_get ss g = λ g less. others3 g less ∙ others2 g less ∙ up g in
    all_moved ds ds a.events.items d.events.items b.loose.items d.loose.items a.levels.items d.levels.items scopes refl
    (rest3.events ∙ rest2.events ∙ rest1.events) (loose3 ∙ loose2) (rest3.levels ∙ rest2.levels ∙ rest1.levels)
    (all_joined ss a.events.items a.loose.items a.levels.items scopes ds b.loose.items at node (stays_of a at node rule chosen) AnyEvent full within count
    (λ g le. ⊎_elim (λ less. ap (first_event a.events.items) (other g less))
    (λ same. let m : marks (slice_get ds g) ≡ marks (slice_get ss g) =
    ap (λ n. marks (slice_get ds n)) same ∙ begins3 ∙ (like2 at).begins ∙ ap marks (up at) ∙ ap (λ n. marks (slice_get ss n)) (sym same) in
    start_same a.events.items (slice_get ds g) (slice_get ss g) m)
    (below_or_at g at (omega (arith, le))))
    (λ g le. let s = some_there ss g (omega (arith, le, within)) in
    low_some a.loose.items b.loose.items (slice_get ss g) (slice_get ds g) s.0 s.1
    (⊎_elim (λ less. ap loose_start_of (other g less))
    (λ same. ap (λ n. loose_start_of (slice_get ds n)) same ∙ low3 ∙ lows2 at ∙ ap loose_start_of (up at) ∙
    ap (λ n. loose_start_of (slice_get ss n)) (sym same))
    (below_or_at g at (omega (arith, le)))))
    (λ g less. ap node_of (other g less)) own thin (looses_up a r) stays below
    (λ e g m u opens le there below_it.
    subst (λ x. IsBelow (scopes x) m u → IsBelow (scopes x) node u × (ComesTo (scopes x) m u → ComesTo (scopes x) node u) ×
    ((i : ℕ) → loose_of ss a.loose.items g ≤ i → i < loose_of ss a.loose.items (suc g) → i < stays_of a at node rule chosen → ComesTo (scopes x) node u))
    (sym (top_only a.levels.items e at base opens))
    (λ b1. (
      rule_below (top_scope scopes a) node over.class over.operands rule chosen over.ruled over.small ss a.loose.items a.levels.items over.parts at base within
          behind (looses_up a r) g m u le there b1,
      rule_comes (top_scope scopes a) node over.class over.operands rule chosen over.ruled over.small ss a.loose.items a.levels.items over.parts at base within
          behind (looses_up a r) g m u le there b1,
      λ i from to gone. rule_gone (top_scope scopes a) node over.class over.operands rule chosen over.ruled over.small ss a.loose.items a.levels.items
          over.parts at base within behind (looses_up a r) g m u le there b1 i from gone,
    ))
    below_it))
  where
    some_there : (xs : List Segment) (g : ℕ) → g < length xs → (s : Segment) × (slice_get xs g ≡ Some s)
    some_there xs g less = ⊎_elim (λ one. (one.0, one.2)) (λ past. absurd (let e = past.0 in omega (arith, e, less))) (slice_get_cases xs g).1

-- ---- an event that is logged
ends_after : (d : Evaluations) (n : ℕ) (es : List Logged) (e : Logged) → d.events.items ≡ es ++ (e ∷ []) → e.node ≡ n → 0 < length d.levels.items →
    base_of d.levels.items < length d.segments.items → node_of (slice_get d.segments.items (length d.segments.items - 1)) ≡ Some n → EndsAt d n
ends_after d n es e events same frame base own =
    let top = length d.levels.items - 1 in
    let l : (l : Level) × (slice_get d.levels.items top ≡ Some l) =
    ⊎_elim (λ one. (one.0, one.2)) (λ past. absurd (let q = past.0 in omega (arith, q, frame))) (slice_get_cases d.levels.items top).1 in
    let c = cut_there (slice_get d.levels.items top) l.0 l.1 in
    record {
      top = record {
        cut = c.0;
        there = c.1;
        low = let q = top_cut (slice_get d.levels.items top) c.0 c.1 in omega (arith, q, base);
        high = λ k x more h. absurd (let w = level_within d.levels.items k x h in omega (arith, w, more));
      };
      own = own;
      event = subst (λ fs. (u : Place) → place_of (slice_get fs (length fs - 1)) ≡ Some u → u.node ≡ n) (sym events)
          (λ u h. let size = length_push es e in
          let at : place_of (slice_get (es ++ (e ∷ [])) (length (es ++ (e ∷ [])) - 1)) ≡ Some (place e.node e.kind) =
          ap (λ k. place_of (slice_get (es ++ (e ∷ [])) k)) (omega (arith, size)) ∙ ap place_of (get_seam es e) in
          ap (λ (p : Place). p.node) (same_Some u (place e.node e.kind) (sym h ∙ at)) ∙ same);
    }

new_below : (a : Evaluations) (scopes : ℕ → Scope) (e : Logged) (node : ℕ) (kind : Kind) (last : ℕ) → e.node ≡ node → e.kind ≡ kind →
    base_of a.levels.items ≤ last → IsBelow (top_scope scopes a) node (place node kind) → (d : ℕ) → IsOpenIn a.levels.items d last →
    IsBelow (scopes d) node (place e.node e.kind)
new_below a scopes e node kind last n k base below d opens =
    subst (λ x. IsBelow (scopes x) node (place e.node e.kind)) (sym (top_only a.levels.items d last base opens))
    (subst (λ x. IsBelow (top_scope scopes a) node (place x e.kind)) (sym n)
    (subst (λ x. IsBelow (top_scope scopes a) node (place node x)) (sym k) below))

pub full_at_top : (a b d : Evaluations) (e : Logged) (added : List Item) (scopes : ℕ → Scope) (node : ℕ) (kind : Kind) → IsSameRest a b →
    b.loose.items ≡ a.loose.items → IsAdded a.segments.items b.segments.items added →
    ((s : Segment) → slice_get b.segments.items (length a.segments.items - 1) ≡ Some s → s.node ≡ node) → e.node ≡ node → e.kind ≡ kind → IsLogged b d e added →
    IsKept a → IsFull scopes a → base_of a.levels.items < length a.segments.items →
    node_of (slice_get a.segments.items (length a.segments.items - 1)) ≡ Some node → 0 < length a.levels.items →
    IsBelow (top_scope scopes a) node (place node kind) → IsFullBut scopes d × EndsAt d node
full_at_top a b d e added scopes node kind rest same more set n k logged w full base own frame below =
    let ss = a.segments.items in
    let ts = b.segments.items in
    let last = length ss - 1 in
    let pair : (g : ℕ) → g ≤ last → AlikeAt ss ts g =
    λ g le. let s = inside ss a.events.items a.items.items a.large.items a.levels.items w g (omega (arith, le, base)) in
    ⊎_elim (λ less. same_alike ss ts g s.0 s.1 (more.others g (omega (arith, less, base))))
    (λ at. let m = more.last g s.0 (omega (arith, at, base)) s.1 in
    (s.0, m.0, s.1, m.1, record { first = m.2.first; low = m.2.low; below = m.2.below }))
    (below_or_at g last (omega (arith, le))) in
    let count = more.count in
    let end = pair last (omega arith) in
    let new_own : node_of (slice_get ts last) ≡ Some node = ap node_of end.3 ∙ ap Some (set end.1 end.3) in
    let events = logged.events ∙ ap (λ (xs : List Logged). xs ++ (e ∷ [])) rest.events in
    let levels = logged.levels ∙ rest.levels in (
      but_moved ts d.segments.items (a.events.items ++ (e ∷ [])) d.events.items a.loose.items d.loose.items a.levels.items d.levels.items scopes
          logged.segments events (logged.loose ∙ same) levels
          (all_logged ss a.events.items a.loose.items a.levels.items scopes ts last node e full w.kept.sorted (omega (arith, count, base)) (omega arith)
          (omega (arith, base))
          (λ g le. alike_start ss ts a.events.items (a.events.items ++ (e ∷ [])) g (pair g le))
          (λ g le. alike_low ss ts a.loose.items g (pair g le))
          (λ g m h less. ⊎_elim (λ before. sym (ap node_of (more.others g (omega (arith, before, base)))) ∙ h)
          (λ at. ap (λ x. node_of (slice_get ss x)) at ∙ own ∙ sym new_own ∙ ap (λ x. node_of (slice_get ts x)) (sym at) ∙ h)
          (below_or_at g last (omega (arith, less, base))))
          new_own n (new_below a scopes e node kind last n k (omega (arith, base)) below)),
      ends_after d node a.events.items e events n (subst (λ ls. 0 < length ls) (sym levels) frame)
          (subst (λ ls. base_of ls < length d.segments.items) (sym levels)
          (subst (λ xs. base_of a.levels.items < length xs) (sym logged.segments) (omega (arith, count, base))))
          (subst (λ xs. node_of (slice_get xs (length xs - 1)) ≡ Some node) (sym logged.segments)
          (ap (λ x. node_of (slice_get ts (x - 1))) count ∙ new_own)),
    )

pub full_first : (a b d : Evaluations) (s : Segment) (e : Logged) (added : List Item) (scopes : ℕ → Scope) (node : ℕ) (kind : Kind) → IsSameRest a b →
    b.loose.items ≡ a.loose.items → s.node ≡ node → IsFirst a b s added → e.node ≡ node → e.kind ≡ kind → IsLogged b d e added → IsKept a →
    IsLooseKept a → IsFull scopes a → 0 < length a.levels.items → IsBelow (top_scope scopes a) node (place node kind) →
    IsFullBut scopes d × EndsAt d node
full_first a b d s e added scopes node kind rest same is new n k logged w r full frame below =
    let ss = a.segments.items in
    let ts = ss ++ (s ∷ []) in
    let last = length ss in
    let size = length_push ss s in
    let seam = get_seam ss s in
    let base = base_le a w in
    let pair : (g : ℕ) → g < last → AlikeAt ss ts g =
    λ g less. let t = inside ss a.events.items a.items.items a.large.items a.levels.items w g less in
    same_alike ss ts g t.0 t.1 (get_left ss (s ∷ []) g less) in
    let segments = logged.segments ∙ new.pushed in
    let events = logged.events ∙ ap (λ (xs : List Logged). xs ++ (e ∷ [])) rest.events in
    let levels = logged.levels ∙ rest.levels in
    let own : node_of (slice_get ts last) ≡ Some node = ap node_of seam ∙ ap Some is in (
      but_moved ts d.segments.items (a.events.items ++ (e ∷ [])) d.events.items a.loose.items d.loose.items a.levels.items d.levels.items scopes
          segments events (logged.loose ∙ same) levels
          (all_logged ss a.events.items a.loose.items a.levels.items scopes ts last node e full w.kept.sorted (omega (arith, size)) (omega arith)
          (omega arith)
          (λ g le. ⊎_elim (λ less. alike_start ss ts a.events.items (a.events.items ++ (e ∷ [])) g (pair g less))
          (λ at. ap (first_event (a.events.items ++ (e ∷ []))) (ap (slice_get ts) at ∙ seam) ∙ new.first ∙
          sym (starts_past ss a.events.items g (omega (arith, at))))
          (below_or_at g last (omega (arith, le))))
          (λ g le. ⊎_elim (λ less. alike_low ss ts a.loose.items g (pair g less))
          (λ at. ap (first_loose a.loose.items) (ap (slice_get ts) at ∙ seam) ∙ new.low ∙
          sym (looses_past ss a.events.items a.items.items a.loose.items a.levels.items r g (omega (arith, at))))
          (below_or_at g last (omega (arith, le))))
          (λ g m h less. sym (ap node_of (get_left ss (s ∷ []) g less)) ∙ h) own n (new_below a scopes e node kind last n k base below)),
      ends_after d node a.events.items e events n (subst (λ ls. 0 < length ls) (sym levels) frame)
          (subst (λ ls. base_of ls < length d.segments.items) (sym levels)
          (subst (λ xs. base_of a.levels.items < length xs) (sym segments) (omega (arith, size, base))))
          (subst (λ xs. node_of (slice_get xs (length xs - 1)) ≡ Some node) (sym segments)
          (ap (λ x. node_of (slice_get ts x)) (omega (arith, size)) ∙ own)),
    )

-- ---- a node that is complete
ends_base : (o : Evaluations) (n : ℕ) → EndsAt o n → base_of o.levels.items < length o.segments.items
ends_base o n ends =
    let low = ends.top.low in
    let e = top_cut (slice_get o.levels.items (length o.levels.items - 1)) ends.top.cut ends.top.there in
    let w = node_within o.segments.items (length o.segments.items - 1) n ends.own in
    omega (arith, low, e, w)

pub but_full : (a : Evaluations) (scopes : ℕ → Scope) (n : ℕ) →
    (base_of a.levels.items < length a.segments.items → (u : Place) → place_of (slice_get a.events.items (length a.events.items - 1)) ≡ Some u → u.node ≡ n →
    u.kind ≡ Eff → ⊥) → EndsAt a n → IsFullBut scopes a → IsFull scopes a
but_full a scopes n other ends but d g k m u opens at from to there =
    let r = but d g k m u opens at from to there in (
      r.0,
      λ ask. r.1 (λ end is.
          let l : place_of (slice_get a.events.items (length a.events.items - 1)) ≡ Some u =
          ap (λ x. place_of (slice_get a.events.items x)) (omega (arith, end)) ∙ there in
          other (ends_base a n ends) u l (ends.event u l) is),
    )

pub full_listed : (a d : Evaluations) (scopes : ℕ → Scope) (last : ℕ) → IsSameRest a d →
    ((g : ℕ) → AreLike (slice_get a.segments.items g) (slice_get d.segments.items g)) → IsListed a d →
    ((g : ℕ) → node_of (slice_get d.segments.items g) ≡ node_of (slice_get a.segments.items g)) → length a.segments.items ≡ suc last → IsKept a →
    IsLooseKept a → IsFullBut scopes a → IsFull scopes d
full_listed a d scopes last rest like listed nodes n w r but =
    let ss = a.segments.items in
    let ts = d.segments.items in
    let count = length_alike ts ss (λ g. (like g).begins) in
    all_moved ts ts a.events.items d.events.items (a.loose.items ++ ((length a.events.items - 1) ∷ [])) d.loose.items a.levels.items d.levels.items scopes refl
    rest.events listed.loose rest.levels
    (all_listed ss a.events.items a.loose.items a.levels.items scopes ts last but w.kept.sorted (w.filled last (omega (arith, n))) n (looses_top a r)
    (λ g m h. sym (nodes g) ∙ h)
    (λ g. start_same a.events.items (slice_get ts g) (slice_get ss g) (like g).begins)
    (λ g le. let s = inside ss a.events.items a.items.items a.large.items a.levels.items w g (omega (arith, le, n)) in
    low_some a.loose.items (a.loose.items ++ ((length a.events.items - 1) ∷ [])) (slice_get ss g) (slice_get ts g) s.0 s.1 (listed.lows g))
    (omega (arith, count, n)))

pub below_after : (a b : Evaluations) (scopes : ℕ → Scope) (node : ℕ) (kind : Kind) → b.levels.items ≡ a.levels.items →
    IsBelow (top_scope scopes a) node (place node kind) → IsBelow (top_scope scopes b) node (place node kind)
below_after a b scopes node kind levels below = subst (λ ls. IsBelow (scopes (length ls - 1)) node (place node kind)) (sym levels) below
