-- The first pair of a list of places in their order.
use Rattle.std.proofs.Common.{◌≡◌, ◌⊎◌, inl, inr, ⊎_elim, ℕ, zero, suc, ◌≤◌, ◌<◌, ◌+◌, ◌*◌, nat_lt, ◌==◌, Bool, true, false, ◌&&◌, List, [], ◌∷◌, Option, Some}
use Rattle.std.proofs.Common.{None, refl, sym, ap, ◌∙◌}
use Rattle.std.proofs.Common.{arith, subst, if◌then◌else◌}
use Rattle.std.specs.declared.cmp.Ordering.{Ordering}
use Rattle.std.specs.declared.cmp.Ordering.TheVariants.{Less, Equal, Greater}
use Rattle.std.specs.Ordering.{nat_cmp, ordering_then, is_lt, MatchOrdering}
use Rattle.std.proofs.lemmas.Cmp.{ranked, tied_itself, nat_cmp_total}
use Rattle.std.proofs.lemmas.Bool.Decides.{nat_tests}
use Rattle.ub_base.proofs.Tests.{less_is, less_test, not_less_test, if_true, if_false}
use Rattle.ub_base.specs.declared.clause.Kind.{Kind}
use Rattle.ub_base.specs.declared.clause.Kind.TheVariants.{Val, Eff, Body}
use Rattle.ub_base.specs.declared.names.Event.{Event}
use Rattle.ub_base.specs.Frames.{Row}
use Rattle.c_names.specs.Orders.{event_cmp, frame_cmp, kind_rank}
use Rattle.c_typed.specs.declared.tree.Place.{Place}
use Rattle.c_typed.specs.Tree.{size}
use Rattle.c_typed.specs.Order.{place, is_due}
use Rattle.c_typed.specs.Decide.{first_place}
use Rattle.footprint.proofs.LeastLemmas.{event_total}
use Rattle.c_model.specs.World.{World}
use Rattle.c_model.specs.Runs.{Entry}
use Rattle.c_model.specs.Keys.{kind_key}
use Rattle.c_model.specs.Moments.{Open, places_from}
use Rattle.c_model.specs.FirstFinding.{Pair, Finding, races, quarrels, first_or, pair_among, due_only, raced_or, quarrel_or, with_items}
use Rattle.finding_laws.specs.FirstPairs.{place_key, precedes, IsDue, IsFirstPair, NoPair, FirstPairIsTaken, NoPairIsTaken, FirstIsFound, EventsByPlaces}
use Rattle.finding_laws.specs.FirstPairs.{pair_told}

-- ---- lists of places
IsOne : List Place → Place → Type 0
IsOne [] u = ⊥
IsOne (x ∷ xs) u = (x ≡ u) ⊎ IsOne xs u

Rises : List Place → Type 0
Rises [] = Unit {0}
Rises (x ∷ xs) = ((w : Place) → IsOne xs w → precedes x w ≡ true) × Rises xs

by_bool : {C : Type 0} (b : Bool) → (b ≡ true → C) → (b ≡ false → C) → C
by_bool true t f = t refl
by_bool false t f = f refl

not_both : (b : Bool) → {C : Type 0} → b ≡ true → b ≡ false → C
not_both b h k = let e : true ≡ false = sym h ∙ k in absurd (cc)

order_keys : (u v : Place) → precedes u v ≡ true → place_key u < place_key v
order_keys u v h = less_is (place_key u) (place_key v) h

-- the first that passes
first_none : (test : Place → Bool) (xs : List Place) → ((w : Place) → IsOne xs w → test w ≡ false) → first_place test xs ≡ None
unfolding IsOne
first_none test [] none = refl
first_none test (x ∷ xs) none = if_false _ _ _ (none x (inl refl)) ∙ first_none test xs (λ w one. none w (inr one))

first_is : (test : Place → Bool) (xs : List Place) (v : Place) → Rises xs → IsOne xs v → test v ≡ true →
    ((w : Place) → IsOne xs w → test w ≡ true → precedes w v ≡ false) → first_place test xs ≡ Some v
unfolding IsOne Rises
first_is test [] v rises one passes least = absurd one
first_is test (x ∷ xs) v rises one passes least = ⊎_elim
    (λ here. if_true _ _ _ (ap test here ∙ passes) ∙ ap Some here)
    (λ later. if_false _ _ _ (by_bool (test x) (λ t. not_both (precedes x v) (rises.0 v later) (least x (inl refl) t)) (λ f. f))
    ∙ first_is test xs v rises.1 later passes (λ w w_in. least w (inr w_in)))
    one

-- the first pair
none_of : (test : Place → Place → Bool) (xs : List Place) → Rises xs → ((x y : Place) → IsOne xs x → IsOne xs y → precedes x y ≡ true → test x y ≡ false) →
    pair_among test xs ≡ None
unfolding IsOne Rises
none_of test [] rises none = refl
none_of test (x ∷ xs) rises none =
    ap (λ o. first_or x o (pair_among test xs)) (first_none (test x) xs (λ w one. none x w (inl refl) (inr one) (rises.0 w one)))
    ∙ none_of test xs rises.1 (λ y z y_in z_in. none y z (inr y_in) (inr z_in))

first_of : (test : Place → Place → Bool) (xs : List Place) (u v : Place) → Rises xs → IsOne xs u → IsOne xs v → precedes u v ≡ true → test u v ≡ true →
    ((x y : Place) → IsOne xs x → IsOne xs y → precedes x y ≡ true → test x y ≡ true → (precedes x u ≡ false) × (x ≡ u → precedes y v ≡ false)) →
    pair_among test xs ≡ Some (u, v)
unfolding IsOne Rises
first_of test [] u v rises u_in v_in order passes least = absurd u_in
first_of test (x ∷ xs) u v rises u_in v_in order passes least = ⊎_elim
    (λ here. ⊎_elim
    (λ same. absurd (let o = order_keys u v order in let e = ap place_key (sym here ∙ same) in omega (arith, o, e)))
    (λ later. ap (λ o. first_or x o (pair_among test xs))
    (first_is (test x) xs v rises.1 later (ap (λ w. test w v) here ∙ passes)
    (λ w w_in t. (least x w (inl refl) (inr w_in) (rises.0 w w_in) t).1 here))
    ∙ ap (λ w. Some (w, v)) here)
    v_in)
    (λ u_later. ⊎_elim
    (λ same. absurd (let o = order_keys u v order in let r = order_keys x u (rises.0 u u_later) in let e = ap place_key same in omega (arith, o, r, e)))
    (λ later. ap (λ o. first_or x o (pair_among test xs))
    (first_none (test x) xs (λ w w_in. by_bool (test x w)
    (λ t. not_both (precedes x u) (rises.0 u u_later) (least x w (inl refl) (inr w_in) (rises.0 w w_in) t).0) (λ f. f)))
    ∙ first_of test xs u v rises.1 u_later later order passes (λ y z y_in z_in. least y z (inr y_in) (inr z_in)))
    v_in)
    u_in

-- ---- the due places of a full expression
kind_small : (k : Kind) → kind_key k < 3
kind_small Val = omega arith
kind_small Eff = omega arith
kind_small Body = omega arith

places_low : (k n : ℕ) (w : Place) → IsOne (places_from k n) w → k ≤ w.node
unfolding IsOne
places_low k zero w one = absurd one
places_low k (suc n) w one = ⊎_elim (λ e. at_node e)
    (⊎_elim (λ e. at_node e) (⊎_elim (λ e. at_node e) (λ later. let l = places_low (suc k) n w later in omega (arith, l)))) one
  where
    at_node : {kind : Kind} → place k kind ≡ w → k ≤ w.node
    at_node e = let x = ap (λ (z : Place). z.node) e in omega (arith, x)

places_in : (k n : ℕ) (w : Place) → k ≤ w.node → w.node < k + n → IsOne (places_from k n) w
unfolding IsOne
places_in k zero w low high = absurd (omega (arith, low, high))
places_in k (suc n) w low high = ⊎_elim
    (λ same. by_kind w.kind refl same)
    (λ later. inr (inr (inr (places_in (suc k) n w later (omega (arith, high))))))
    (here_or_later k w.node low)
  where
    here_or_later : (k m : ℕ) → k ≤ m → (k ≡ m) ⊎ (suc k ≤ m)
    here_or_later k m le = grind arith

    by_kind : (kind : Kind) → w.kind ≡ kind → k ≡ w.node → IsOne (places_from k (suc n)) w
    by_kind Val e same = inl (λ i. place (same i) (sym e i))
    by_kind Eff e same = inr (inl (λ i. place (same i) (sym e i)))
    by_kind Body e same = inr (inr (inl (λ i. place (same i) (sym e i))))

places_rise : (k n : ℕ) → Rises (places_from k n)
unfolding IsOne Rises
places_rise k zero = tt
places_rise k (suc n) = (
  λ w one. ⊎_elim (λ e. next (place k Val) w (place k Eff) e (omega arith))
      (⊎_elim (λ e. next (place k Val) w (place k Body) e (omega arith)) (λ later. far Val w later)) one,
  (
    λ w one. ⊎_elim (λ e. next (place k Eff) w (place k Body) e (omega arith)) (λ later. far Eff w later) one,
    (λ w later. far Body w later, places_rise (suc k) n),
  ),
)
  where
    next : (u w v : Place) → v ≡ w → place_key u < place_key v → precedes u w ≡ true
    next u w v e less = let x = ap place_key e in less_test (place_key u) (place_key w) (omega (arith, x, less))

    far : (kind : Kind) (w : Place) → IsOne (places_from (suc k) n) w → precedes (place k kind) w ≡ true
    far kind w one =
        let l = places_low (suc k) n w one in
        let s = kind_small kind in
        less_test (place_key (place k kind)) (place_key w) (omega (arith, l, s))

due_in_list : (o : Open) (xs : List Place) (w : Place) → IsOne xs w → is_due o.tree o.taken w ≡ true → IsOne (due_only o xs) w
unfolding IsOne
due_in_list o [] w one due = one
due_in_list o (x ∷ xs) w one due = ⊎_elim
    (λ here. subst (λ ys. IsOne ys w) (sym (if_true _ _ _ (ap (is_due o.tree o.taken) here ∙ due))) (inl here))
    (λ later. by_bool (is_due o.tree o.taken x)
    (λ t. subst (λ ys. IsOne ys w) (sym (if_true _ _ _ t)) (inr (due_in_list o xs w later due)))
    (λ f. subst (λ ys. IsOne ys w) (sym (if_false _ _ _ f)) (due_in_list o xs w later due)))
    one

due_is : (o : Open) (xs : List Place) (w : Place) → IsOne (due_only o xs) w → IsOne xs w × (is_due o.tree o.taken w ≡ true)
unfolding IsOne
due_is o [] w one = absurd one
due_is o (x ∷ xs) w one = by_bool (is_due o.tree o.taken x)
    (λ t. ⊎_elim (λ here. (inl here, ap (is_due o.tree o.taken) (sym here) ∙ t)) (λ later. let r = due_is o xs w later in (inr r.0, r.1))
    (subst (λ ys. IsOne ys w) (if_true _ _ _ t) one))
    (λ f. let r = due_is o xs w (subst (λ ys. IsOne ys w) (if_false _ _ _ f) one) in (inr r.0, r.1))

due_rise : (o : Open) (xs : List Place) → Rises xs → Rises (due_only o xs)
unfolding IsOne Rises
due_rise o [] rises = rises
due_rise o (x ∷ xs) rises = by_bool (is_due o.tree o.taken x)
    (λ t. subst (λ ys. Rises ys) (sym (if_true _ _ _ t)) (λ w one. rises.0 w (due_is o xs w one).0, due_rise o xs rises.1))
    (λ f. subst (λ ys. Rises ys) (sym (if_false _ _ _ f)) (due_rise o xs rises.1))

places_high : (k n : ℕ) (w : Place) → IsOne (places_from k n) w → w.node < k + n
unfolding IsOne
places_high k zero w one = absurd one
places_high k (suc n) w one = ⊎_elim (λ e. at_node e)
    (⊎_elim (λ e. at_node e) (⊎_elim (λ e. at_node e) (λ later. let l = places_high (suc k) n w later in omega (arith, l)))) one
  where
    at_node : {kind : Kind} → place k kind ≡ w → w.node < k + suc n
    at_node e = let x = ap (λ (z : Place). z.node) e in omega (arith, x)

module _ (o : Open) where
  all : List Place
  all = due_only o (places_from 0 (size o.tree))

  is_in : (u : Place) → IsDue o u → IsOne (due_only o (places_from 0 (size o.tree))) u
  is_in u h = let w = h.within in
      due_in_list o (places_from 0 (size o.tree)) u (places_in 0 (size o.tree) u (omega arith) (omega (arith, w))) h.due

  is_due_one : (u : Place) → IsOne (due_only o (places_from 0 (size o.tree))) u → IsDue o u
  is_due_one u one =
      let r = due_is o (places_from 0 (size o.tree)) u one in
      let h = places_high 0 (size o.tree) u r.0 in
      record { due = r.1; within = omega (arith, h) }

  rises : Rises (due_only o (places_from 0 (size o.tree)))
  rises = due_rise o (places_from 0 (size o.tree)) (places_rise 0 (size o.tree))

pub first_pair_taken : FirstPairIsTaken
first_pair_taken o test u v h =
    first_of test (due_only o (places_from 0 (size o.tree))) u v (rises o) (is_in o u h.first) (is_in o v h.second) h.order h.passes
    (λ x y x_in y_in. h.least x y (is_due_one o x x_in) (is_due_one o y y_in))

pub no_pair_taken : NoPairIsTaken
no_pair_taken o test h =
    none_of test (due_only o (places_from 0 (size o.tree))) (rises o) (λ x y x_in y_in. h x y (is_due_one o x x_in) (is_due_one o y y_in))

pub first_found : FirstIsFound
first_found world trace o u v picks otherwise = (
  λ race. ap (λ p. raced_or picks (with_items world trace o p None) (quarrel_or picks (with_items world trace o (pair_among (quarrels world.rows o)
      (due_only o (places_from 0 (size o.tree)))) None) otherwise)) (first_pair_taken o (races world.rows o) u v race),
  λ none quarrel.
      ap (λ p. raced_or picks (with_items world trace o p None) (quarrel_or picks (with_items world trace o (pair_among (quarrels world.rows o)
      (due_only o (places_from 0 (size o.tree)))) None) otherwise)) (no_pair_taken o (races world.rows o) none)
      ∙ ap (λ p. quarrel_or picks (with_items world trace o p None) otherwise) (first_pair_taken o (quarrels world.rows o) u v quarrel),
  λ none no_quarrel.
      ap (λ p. raced_or picks (with_items world trace o p None) (quarrel_or picks (with_items world trace o (pair_among (quarrels world.rows o)
      (due_only o (places_from 0 (size o.tree)))) None) otherwise)) (no_pair_taken o (races world.rows o) none)
      ∙ ap (λ p. quarrel_or picks (with_items world trace o p None) otherwise) (no_pair_taken o (quarrels world.rows o) no_quarrel),
)

-- ---- events of one full expression
then_equal : (a b : Ordering) → ordering_then a b ≡ Equal → (a ≡ Equal) × (b ≡ Equal)
then_equal Less b h = absurd (cc)
then_equal Equal b h = (refl, h)
then_equal Greater b h = absurd (cc)

by_node : (a : Ordering) (m n k l : ℕ) → nat_cmp m n ≡ a → k < 3 → l < 3 → is_lt (ordering_then a (nat_cmp k l)) ≡ nat_lt (3 * m + k) (3 * n + l)
by_node Less m n k l h small small_l =
    let r = subst (λ o. MatchOrdering o (m < n) (m ≡ n) (n < m)) h (ranked m n (nat_cmp m n) refl) in
    sym (less_test (3 * m + k) (3 * n + l) (omega (arith, r, small, small_l)))
by_node Equal m n k l h small small_l =
    let r = subst (λ o. MatchOrdering o (m < n) (m ≡ n) (n < m)) h (ranked m n (nat_cmp m n) refl) in
    by_kind (nat_cmp k l) refl r
  where
    by_kind : (b : Ordering) → nat_cmp k l ≡ b → m ≡ n → is_lt (nat_cmp k l) ≡ nat_lt (3 * m + k) (3 * n + l)
    by_kind Less e same = let r = subst (λ o. MatchOrdering o (k < l) (k ≡ l) (l < k)) e (ranked k l (nat_cmp k l) refl) in
        ap is_lt e ∙ sym (less_test (3 * m + k) (3 * n + l) (omega (arith, r, same)))
    by_kind Equal e same = let r = subst (λ o. MatchOrdering o (k < l) (k ≡ l) (l < k)) e (ranked k l (nat_cmp k l) refl) in
        ap is_lt e ∙ sym (not_less_test (3 * m + k) (3 * n + l) (omega (arith, r, same)))
    by_kind Greater e same = let r = subst (λ o. MatchOrdering o (k < l) (k ≡ l) (l < k)) e (ranked k l (nat_cmp k l) refl) in
        ap is_lt e ∙ sym (not_less_test (3 * m + k) (3 * n + l) (omega (arith, r, same)))
by_node Greater m n k l h small small_l =
    let r = subst (λ o. MatchOrdering o (m < n) (m ≡ n) (n < m)) h (ranked m n (nat_cmp m n) refl) in
    sym (not_less_test (3 * m + k) (3 * n + l) (omega (arith, r, small, small_l)))

rank_key : (k : Kind) → kind_rank k ≡ kind_key k
rank_key Val = refl
rank_key Eff = refl
rank_key Body = refl

pub events_by_places : EventsByPlaces
events_by_places rows d e frame turn =
    let same_frame : frame_cmp rows d.frame.0 e.frame.0 ≡ Equal =
    ap (λ f. frame_cmp rows d.frame.0 f.0) (sym frame) ∙ (then_equal (frame_cmp rows d.frame.0 d.frame.0) _ (tied_itself (event_total rows) d)).0 in
    let same_turn : nat_cmp d.turn e.turn ≡ Equal = ap (nat_cmp d.turn) (sym turn) ∙ tied_itself nat_cmp_total d.turn in
    ap (λ o. is_lt (ordering_then o (ordering_then (nat_cmp d.turn e.turn)
    (ordering_then (nat_cmp d.node e.node) (nat_cmp (kind_rank d.kind) (kind_rank e.kind))))))
    same_frame
    ∙ (ap (λ o. is_lt (ordering_then o (ordering_then (nat_cmp d.node e.node) (nat_cmp (kind_rank d.kind) (kind_rank e.kind))))) same_turn
    ∙ ((λ i. is_lt (ordering_then (nat_cmp d.node e.node) (nat_cmp (rank_key d.kind i) (rank_key e.kind i))))
    ∙ by_node (nat_cmp d.node e.node) d.node e.node (kind_key d.kind) (kind_key e.kind) refl (kind_small d.kind) (kind_small e.kind)))
