-- Sets of keys and states of objects, after a change.
use Rattle.std.proofs.Common.{◌≡◌, Bool, true, false, cond, ◌||◌, refl, sym, ap, ◌∙◌, subst, List, [], ◌∷◌, Some, Option}
use Rattle.std.specs.Prelude.{if◌then◌else◌}
use Rattle.std.specs.declared.cmp.Ordering.{Ordering}
use Rattle.std.specs.Ordering.{is_eq, eq_by_cmp}
use Rattle.std.specs.Cmp.{IsTotalOrder, both_ways}
use Rattle.std.specs.List.{list_any, IsDistinct}
use Rattle.std.specs.Map.{lookup, keys_of}
use Rattle.std.specs.BTreeMap.{BTreeMap, get, is_at, IsOrdered}
use Rattle.std.proofs.lemmas.Cmp.{on_total, then_total, tied_back, eq_by_cmp_equiv}
use Rattle.std.proofs.lemmas.Map.{NonePasses}
use Rattle.std.proofs.lemmas.Map.Keys.{IsDistinct-from_sorted, IsDistinct-tail}
use Rattle.std.proofs.lemmas.Map.Entries.{none_past_head}
use Rattle.ub_base.specs.declared.names.Event.{Event}
use Rattle.ub_base.specs.declared.names.ObjName.{ObjName}
use Rattle.ub_base.specs.Names.{same_object}
use Rattle.ub_base.specs.NameOrders.{event_cmp, object_cmp}
use Rattle.ub_base.specs.contracts.names.EventOrd.TheImpl.Laws as event_laws
use Rattle.ub_base.proofs.NameLemmas.{same_object_is, tie_object}
use Rattle.footprint.specs.declared.state.State.{State}
use Rattle.footprint.specs.States.{nothing, or_nothing, state_in, either, only_at, not_alive, listed}
use Rattle.footprint.specs.Holds.{narrow_cmp}
use Rattle.footprint.proofs.RangeStarts.{object_total, is_equal}

pub event_total : IsTotalOrder event_cmp
event_total = event_laws.total-law

pub narrow_total : IsTotalOrder narrow_cmp
narrow_total = then_total (on_total (λ (p : Event × ObjName). p.0) event_total) (on_total (λ (p : Event × ObjName). p.1) object_total)

-- ---- keys
turned_by : {K : Type 0} {R : K → K → Ordering} (o : IsTotalOrder R) (x y : K) → is_eq (R x y) ≡ true → is_eq (R y x) ≡ true
turned_by o x y h = ap is_eq (tied_back o x y (is_equal _ h))

turned : {K : Type 0} {R : K → K → Ordering} (o : IsTotalOrder R) (x y : K) → is_eq (R x y) ≡ is_eq (R y x)
turned o x y = both_ways _ _ (turned_by o x y) (turned_by o y x)

set_or : (b now rest whole : Bool) → (now || (b || rest)) ≡ whole → (cond b true now || rest) ≡ whole
set_or true true rest whole h = h
set_or true false rest whole h = h
set_or false now rest whole h = h

pub key_turn : {K : Type 0} {R : K → K → Ordering} (o : IsTotalOrder R) (k e : K) (rest more : List K) (now new whole : Bool) → rest ≡ e ∷ more →
    new ≡ cond (is_eq (R e k)) true now → (now || list_any (is_at (R k)) rest) ≡ whole → (new || list_any (is_at (R k)) more) ≡ whole
key_turn {K} {R} o k e rest more now new whole is step before =
    ap (λ b. b || list_any (is_at (R k)) more) (step ∙ ap (λ b. cond b true now) (turned o e k))
    ∙ set_or (is_eq (R k e)) now (list_any (is_at (R k)) more) whole (ap (λ (ks : List K). now || list_any (is_at (R k)) ks) (sym is) ∙ before)

-- ---- states
or_none : (a : Bool) → a ≡ (a || false)
or_none true = refl
or_none false = refl

pub or_assoc : (a b c : Bool) → ((a || b) || c) ≡ (a || (b || c))
or_assoc true b c = refl
or_assoc false b c = refl

pub either_nothing : (s : State) → s ≡ either s nothing
either_nothing s = λ i. record { born = or_none s.born i; dies = or_none s.dies i; alive = or_none s.alive i; expose = or_none s.expose i }

pub either_assoc : (s t u : State) → either (either s t) u ≡ either s (either t u)
either_assoc s t u = λ i. record {
  born = or_assoc s.born t.born u.born i;
  dies = or_assoc s.dies t.dies u.dies i;
  alive = or_assoc s.alive t.alive u.alive i;
  expose = or_assoc s.expose t.expose u.expose i;
}

marked_by : (b : Bool) (m : BTreeMap ObjName State) (x : ObjName) (s new : State) (y : ObjName) (o : Option State) → same_object x y ≡ b →
    o ≡ cond b (Some new) (get object_cmp m y) → new ≡ either (state_in m x) s → or_nothing o ≡ either (state_in m y) (cond b s nothing)
marked_by true m x s new y o same h is =
    ap or_nothing h ∙ is ∙ ap (λ (z : ObjName). either (state_in m z) s) (same_object_is x y same)
marked_by false m x s new y o same h is = ap or_nothing h ∙ either_nothing (state_in m y)

pub marked : (m n : BTreeMap ObjName State) (x : ObjName) (s new : State) →
    ((q : ObjName) → get object_cmp n q ≡ cond (is_eq (object_cmp x q)) (Some new) (get object_cmp m q)) → new ≡ either (state_in m x) s →
    (y : ObjName) → state_in n y ≡ either (state_in m y) (only_at x s y)
marked m n x s new put is y =
    marked_by (same_object x y) m x s new y (get object_cmp n y) refl (put y ∙ ap (λ b. cond b (Some new) (get object_cmp m y)) (tie_object x y)) is

unmarked_by : (b : Bool) (m : BTreeMap ObjName State) (x : ObjName) (s : State) (y : ObjName) → same_object x y ≡ b → state_in m x ≡ either (state_in m x) s →
    state_in m y ≡ either (state_in m y) (cond b s nothing)
unmarked_by true m x s y same is = subst (λ (z : ObjName). state_in m z ≡ either (state_in m z) s) (same_object_is x y same) is
unmarked_by false m x s y same is = either_nothing (state_in m y)

pub unmarked : (m : BTreeMap ObjName State) (x : ObjName) (s : State) → state_in m x ≡ either (state_in m x) s →
    (y : ObjName) → state_in m y ≡ either (state_in m y) (only_at x s y)
unmarked m x s is y = unmarked_by (same_object x y) m x s y refl is

kept_by : (b : Bool) (m : BTreeMap ObjName State) (x : ObjName) (v : State) (y : ObjName) (o : Option State) → same_object x y ≡ b →
    o ≡ cond b (Some (not_alive v)) (get object_cmp m y) → Some v ≡ get object_cmp m x → or_nothing o ≡ cond b (not_alive (state_in m y)) (state_in m y)
kept_by true m x v y o same h was =
    ap or_nothing h ∙ ap (λ p. not_alive (or_nothing p)) was ∙ ap (λ (z : ObjName). not_alive (state_in m z)) (same_object_is x y same)
kept_by false m x v y o same h was = ap or_nothing h

pub no_longer_alive : (m n : BTreeMap ObjName State) (x : ObjName) (v w : State) →
    ((q : ObjName) → get object_cmp n q ≡ cond (is_eq (object_cmp x q)) (Some w) (get object_cmp m q)) → w ≡ not_alive v → Some v ≡ get object_cmp m x →
    (y : ObjName) → state_in n y ≡ (if same_object x y then not_alive (state_in m y) else state_in m y)
no_longer_alive m n x v w put is was y =
    kept_by (same_object x y) m x v y (get object_cmp n y) refl (put y ∙ (λ i. cond (tie_object x y i) (Some (is i)) (get object_cmp m y))) was

pub state_turn : (rest more : List (ObjName × State)) (e : ObjName × State) (x : ObjName) (now new whole : State) → rest ≡ e ∷ more →
    new ≡ either now (only_at e.0 e.1 x) → either now (listed rest x) ≡ whole → either new (listed more x) ≡ whole
state_turn rest more e x now new whole is step before =
    ap (λ s. either s (listed more x)) step ∙ either_assoc now (only_at e.0 e.1 x) (listed more x) ∙ ap
    (λ (es : List (ObjName × State)). either now (listed es x)) (sym is) ∙ before

listed_none : (es : List (ObjName × State)) (x : ObjName) → NonePasses (is_at (object_cmp x)) es → listed es x ≡ nothing
listed_none [] x h = refl
listed_none (e ∷ es) x h =
    let apart : same_object e.0 x ≡ false = sym (tie_object e.0 x) ∙ turned object_total e.0 x ∙ h.0 in
    ap (λ b. either (cond b e.1 nothing) (listed es x)) apart ∙ listed_none es x h.1

listed_by : (b : Bool) (e : ObjName × State) (es : List (ObjName × State)) (x : ObjName) → is_eq (object_cmp x e.0) ≡ b → (b ≡ true → listed es x ≡ nothing) →
    (listed es x ≡ or_nothing (lookup (is_at (object_cmp x)) es)) → either (cond b e.1 nothing) (listed es x) ≡ or_nothing
    (cond b (Some e.1) (lookup (is_at (object_cmp x)) es))
listed_by true e es x h none more = ap (either e.1) (none refl) ∙ sym (either_nothing e.1)
listed_by false e es x h none more = more

listed_is : (es : List (ObjName × State)) (x : ObjName) → IsDistinct (eq_by_cmp object_cmp) (keys_of es) →
    listed es x ≡ or_nothing (lookup (is_at (object_cmp x)) es)
listed_is [] x h = refl
listed_is (e ∷ es) x h =
    let same : same_object e.0 x ≡ is_eq (object_cmp x e.0) = sym (tie_object e.0 x) ∙ turned object_total e.0 x in
    ap (λ b. either (cond b e.1 nothing) (listed es x)) same
    ∙ listed_by (is_eq (object_cmp x e.0)) e es x refl (λ t. listed_none es x (none_past_head (eq_by_cmp_equiv object_total) x e es h t))
    (listed_is es x (IsDistinct-tail (eq_by_cmp object_cmp) e.0 (keys_of es) h))

pub listed_all : (m : BTreeMap ObjName State) (x : ObjName) → IsOrdered object_cmp m → listed m.entries x ≡ state_in m x
listed_all m x ordered = listed_is m.entries x (IsDistinct-from_sorted object_cmp (keys_of m.entries) ordered)

pub state_end : (rest : List (ObjName × State)) (more : BTreeMap ObjName State) (x : ObjName) (now was : State) → IsOrdered object_cmp more → rest ≡ [] →
    either now (listed rest x) ≡ either was (listed more.entries x) → now ≡ either was (state_in more x)
state_end rest more x now was ordered none h =
    either_nothing now ∙ ap (λ (es : List (ObjName × State)). either now (listed es x)) (sym none) ∙ h ∙ ap (either was) (listed_all more x ordered)
