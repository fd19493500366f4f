-- A tree whose summary has no clash is quiet.
use Rattle.std.proofs.Common.{◌≡◌, ℕ, suc, ◌+◌, ◌<◌, Bool, true, false, not, ◌&&◌, ◌==◌, nat_lt, Option, refl, sym, subst, ◌∙◌, ◌⊎◌, inl, inr, arith}
use Rattle.ub_base.proofs.Tests.{and_left, and_right, or_right, or_left, neither_left, neither_right, number_is, number_equal}
use Rattle.ub_base.specs.Names.{same_kind}
use Rattle.ub_base.specs.declared.clause.Kind.{Kind}
use Rattle.ub_base.specs.declared.clause.Kind.TheVariants.{Val, Eff, Body}
use Rattle.c_typed.specs.declared.tree.Place.{Place}
use Rattle.c_typed.specs.declared.class.Class.{Class}
use Rattle.c_typed.specs.Tree.{Tree, node, Trees, none, more, size, is_quiet, kinds_of}
use Rattle.c_typed.specs.Order.{Taken, goes, same_place, is_last, is_body}
use Rattle.c_typed.specs.Decide.{has_kind, due_in, due_among, lifts, crosses, is_before, rises, to_val, between}
use Rattle.quiet_trees.specs.Loads.{Loads, LoadsList, is_load, below, first, rest}
use Rattle.quiet_trees.specs.Acts.{Act, act_by, act_in, act_among, may_clash}
use Rattle.quiet_trees.specs.Quiet.{IsQuiet}
use Rattle.quiet_trees.specs.declared.summary.Summary.{Summary}
use Rattle.quiet_trees.specs.Summaries.{nothing, meet, is_open, own_clash, joined, topped, summary_of, summaries_of}
use Rattle.quiet_trees.proofs.Steps.{
  act_own,
  act_below,
  act_first,
  act_later,
  due_own,
  due_below,
  due_first,
  due_later,
  val_own,
  val_below,
  before_own,
  before_up,
  before_below,
  rise_first,
  rise_later,
  cross_first,
  cross_later,
  both_first,
  one_first,
  both_later,
}
use Rattle.quiet_trees.proofs.Flags.{
  by_test,
  clear,
  rest_false,
  covers,
  some_of,
  cover_left,
  cover_right,
  top_covers,
  own_covers,
  keeps_cover,
  keeps_loose,
  clear_first,
  meets,
  clash_symmetric,
  both_are,
  is_all,
  is_call,
  quiet_kind,
  quiet_below,
  own_loose,
  top_loose,
  call_lifts,
  own_free,
  body_case,
  own_pair,
  across_later,
}

abbrev summed : Class → Trees → Loads → Summary
summed class ts w = summaries_of class nothing ts (below w)

up_cases : (b q v : Bool) → b ≡ false → (not b && (not q && v)) ≡ false → (q ≡ true) ⊎ (v ≡ false)
up_cases true q v e h = absurd (cc)
up_cases false true v e h = inl refl
up_cases false false v e h = inr h

module _ (taken : Taken) where
  mutual
    -- a summary speaks of each due event
    due_covers : (t : Tree) (w : Loads) (k : ℕ) (u : Place) → due_in taken k t u ≡ true → covers (act_in k t w u) (summary_of t w) ≡ true
    due_covers (node class ts) w k u h = by_test (u.node == k)
        (λ e. subst (λ z. covers z (topped class (is_load w) (summed class ts w)) ≡ true) (sym (act_own class ts w k u e))
        (own_covers class (is_load w) u.kind (summed class ts w) (sym (due_own taken class ts k u e) ∙ h)))
        (λ e. subst (λ z. covers z (topped class (is_load w) (summed class ts w)) ≡ true) (sym (act_below class ts w k u e))
        (top_covers (act_among (suc k) ts (below w) u) class (is_load w) (summed class ts w)
        (among_covers ts (below w) class (taken k) 0 (suc k) nothing u (sym (due_below taken class ts k u e) ∙ h))))

    among_covers : (ts : Trees) (fs : LoadsList) (class : Class) (choice : Option ℕ) (i m : ℕ) (s : Summary) (u : Place) →
        due_among taken class choice i m ts u ≡ true → covers (act_among m ts fs u) (summaries_of class s ts fs) ≡ true
    among_covers none fs class choice i m s u h = absurd (cc)
    among_covers (more t ts) fs class choice i m s u h = by_test (nat_lt u.node (m + size t))
        (λ e. subst (λ z. covers z (summaries_of class (joined class s (summary_of t (first fs))) ts (rest fs)) ≡ true) (sym (act_first t ts fs m u e))
        (keeps_cover ts (rest fs) (act_in m t (first fs) u) class (joined class s (summary_of t (first fs)))
        (cover_right (act_in m t (first fs) u) class s (summary_of t (first fs))
        (due_covers t (first fs) m u (and_right (goes class choice i) (due_in taken m t u) (sym (due_first taken class choice i m t ts u e) ∙ h))))))
        (λ e. subst (λ z. covers z (summaries_of class (joined class s (summary_of t (first fs))) ts (rest fs)) ≡ true) (sym (act_later t ts fs m u e))
        (among_covers ts (rest fs) class choice (suc i) (m + size t) (joined class s (summary_of t (first fs))) u
        (sym (due_later taken class choice i m t ts u e) ∙ h)))

  -- below a node without events there are none
  quiet_none : (t : Tree) (w : Loads) (k : ℕ) (u : Place) → is_quiet t ≡ true → (summary_of t w).clash ≡ false → due_in taken k t u ≡ true → ⊥
  quiet_none (node class ts) w k u q c h = by_test (u.node == k)
      (λ e. quiet_kind class u.kind q (sym (due_own taken class ts k u e) ∙ h))
      (λ e. quiet_below class (is_load w) (summed class ts w) q (neither_right (summed class ts w).clash _ c)
      (some_of (act_among (suc k) ts (below w) u) (summed class ts w)
      (among_covers ts (below w) class (taken k) 0 (suc k) nothing u (sym (due_below taken class ts k u e) ∙ h))))

  -- all of a call's operands come before its body and its value
  call_rises : (ts : Trees) (class : Class) (choice : Option ℕ) (i m : ℕ) (u : Place) → is_call class ≡ true → due_among taken class choice i m ts u ≡ true →
      (rises taken class choice i m ts u Val ≡ true) × (rises taken class choice i m ts u Body ≡ true)
  call_rises none class choice i m u c h = absurd (cc)
  call_rises (more t ts) class choice i m u c h = by_test (nat_lt u.node (m + size t))
      (λ e. let l = call_lifts class choice i (is_last ts) c in (
        rise_first taken class choice i m t ts u Val e ∙ or_left _ _ l.0,
        rise_first taken class choice i m t ts u Body e ∙ or_left _ _ l.1,
      ))
      (λ e. let l = call_rises ts class choice (suc i) (m + size t) u c (sym (due_later taken class choice i m t ts u e) ∙ h) in (
        rise_later taken class choice i m t ts u Val e ∙ l.0,
        rise_later taken class choice i m t ts u Body e ∙ l.1,
      ))

  abbrev Loose : Act → Summary → Type 0
  Loose a s = (is_all a ≡ false) × (s.loose ≡ true)

  mutual
    -- an event that doesn't come before the value is a write
    after_value : (t : Tree) (w : Loads) (k : ℕ) (u : Place) → (summary_of t w).clash ≡ false → due_in taken k t u ≡ true → to_val taken k t u ≡ false →
        Loose (act_in k t w u) (summary_of t w)
    after_value (node class ts) w k u c d h = by_test (u.node == k)
        (λ e. subst (λ z. Loose z (topped class (is_load w) (summed class ts w))) (sym (act_own class ts w k u e))
        (own_loose class (is_load w) u.kind (summed class ts w) (sym (due_own taken class ts k u e) ∙ d) (sym (val_own taken class ts k u e) ∙ h)))
        (λ e. subst (λ z. Loose z (topped class (is_load w) (summed class ts w))) (sym (act_below class ts w k u e))
        (let due = sym (due_below taken class ts k u e) ∙ d in
        let up = sym (val_below taken class ts k u e) ∙ h in
        let l = after_among ts (below w) class (taken k) 0 (suc k) nothing u Val refl (neither_left (summed class ts w).clash _ c) due up in
        by_test (is_call class)
        (λ f. absurd (clear _ (call_rises ts class (taken k) 0 (suc k) u f due).0 up))
        (λ f. (l.0, top_loose class (summed class ts w) f l.1))))

    after_among : (ts : Trees) (fs : LoadsList) (class : Class) (choice : Option ℕ) (i m : ℕ) (s : Summary) (u : Place) (kind : Kind) → is_body kind ≡ false →
        (summaries_of class s ts fs).clash ≡ false → due_among taken class choice i m ts u ≡ true → rises taken class choice i m ts u kind ≡ false →
        Loose (act_among m ts fs u) (summaries_of class s ts fs)
    after_among none fs class choice i m s u kind n c d h = absurd (cc)
    after_among (more t ts) fs class choice i m s u kind n c d h = by_test (nat_lt u.node (m + size t))
        (λ e. let clears : (summary_of t (first fs)).clash ≡ false = neither_left _ _ (clear_first t ts fs class s c) in
        let due = and_right (goes class choice i) (due_in taken m t u) (sym (due_first taken class choice i m t ts u e) ∙ d) in
        elim (up_cases (is_body kind) (is_quiet t) (to_val taken m t u) n
        (neither_right (lifts class choice i (is_last ts) kind) _ (sym (rise_first taken class choice i m t ts u kind e) ∙ h))) [
          | inl q ↦ absurd (quiet_none t (first fs) m u q clears due)
          | inr v ↦ (let l = after_value t (first fs) m u clears due v in subst
              (λ z. Loose z (summaries_of class (joined class s (summary_of t (first fs))) ts (rest fs)))
              (sym (act_first t ts fs m u e)) (l.0, keeps_loose ts (rest fs) class (joined class s (summary_of t (first fs))) (or_right s.loose _ l.1)))
        ])
        (λ e. subst (λ z. Loose z (summaries_of class (joined class s (summary_of t (first fs))) ts (rest fs))) (sym (act_later t ts fs m u e))
        (after_among ts (rest fs) class choice (suc i) (m + size t) (joined class s (summary_of t (first fs))) u kind n c
        (sym (due_later taken class choice i m t ts u e) ∙ d) (sym (rise_later taken class choice i m t ts u kind e) ∙ h)))

  -- an event in an operand, and one of the node itself
  up_body : (class : Class) (ts : Trees) (w : Loads) (k : ℕ) (u : Place) → own_clash class (is_load w) (summed class ts w) ≡ false →
      due_among taken class (taken k) 0 (suc k) ts u ≡ true → has_kind (kinds_of class) Body ≡ true →
      rises taken class (taken k) 0 (suc k) ts u Body ≡ false → ⊥
  up_body class ts w k u c d h r = elim (body_case class (is_load w) (summed class ts w) h c) [
    | inl e ↦ clear _ (call_rises ts class (taken k) 0 (suc k) u e d).1 r
    | inr e ↦ clear _ (some_of (act_among (suc k) ts (below w) u) (summed class ts w) (among_covers ts (below w) class (taken k) 0 (suc k) nothing u d)) e
  ]

  up_apart : (class : Class) (ts : Trees) (w : Loads) (k : ℕ) (u : Place) (kind : Kind) → (topped class (is_load w) (summed class ts w)).clash ≡ false →
      due_among taken class (taken k) 0 (suc k) ts u ≡ true → has_kind (kinds_of class) kind ≡ true →
      rises taken class (taken k) 0 (suc k) ts u kind ≡ false → may_clash (act_among (suc k) ts (below w) u) (act_by class (is_load w) kind) ≡ false
  up_apart class ts w k u Body c d h r = absurd (up_body class ts w k u (neither_right (summed class ts w).clash _ c) d h r)
  up_apart class ts w k u Val c d h r =
      let l = after_among ts (below w) class (taken k) 0 (suc k) nothing u Val refl (neither_left (summed class ts w).clash _ c) d r in
      own_free class (is_load w) Val (act_among (suc k) ts (below w) u) (summed class ts w) h (λ e. absurd (cc))
      (neither_right (summed class ts w).clash _ c) l.0 l.1
  up_apart class ts w k u Eff c d h r =
      let l = after_among ts (below w) class (taken k) 0 (suc k) nothing u Eff refl (neither_left (summed class ts w).clash _ c) d r in
      own_free class (is_load w) Eff (act_among (suc k) ts (below w) u) (summed class ts w) h (λ e. absurd (cc))
      (neither_right (summed class ts w).clash _ c) l.0 l.1

  -- an event in one operand, and one in a later operand
  cross : (ts : Trees) (fs : LoadsList) (class : Class) (choice : Option ℕ) (i m : ℕ) (s : Summary) (a : Act) (v : Place) → is_open class ≡ true →
      covers a s ≡ true →
      (summaries_of class s ts fs).clash ≡ false → due_among taken class choice i m ts v ≡ true → may_clash a (act_among m ts fs v) ≡ false
  cross none fs class choice i m s a v o h c d = absurd (cc)
  cross (more t ts) fs class choice i m s a v o h c d = by_test (nat_lt v.node (m + size t))
      (λ e. subst (λ z. may_clash a z ≡ false) (sym (act_first t ts fs m v e))
      (meets a (act_in m t (first fs) v) s (summary_of t (first fs)) h
      (due_covers t (first fs) m v (and_right (goes class choice i) (due_in taken m t v) (sym (due_first taken class choice i m t ts v e) ∙ d)))
      (rest_false (is_open class) (meet s (summary_of t (first fs))) o (neither_right (summary_of t (first fs)).clash _ (clear_first t ts fs class s c)))))
      (λ e. subst (λ z. may_clash a z ≡ false) (sym (act_later t ts fs m v e))
      (cross ts (rest fs) class choice (suc i) (m + size t) (joined class s (summary_of t (first fs))) a v o
      (cover_left a class s (summary_of t (first fs)) h) c
      (sym (due_later taken class choice i m t ts v e) ∙ d)))

  crossed : (ts : Trees) (class : Class) (choice : Option ℕ) (i j m : ℕ) (v : Place) → is_open class ≡ false → goes class choice i ≡ true → i < j →
      due_among taken class choice j m ts v ≡ true → crosses class choice i j m ts v.node ≡ true
  crossed none class choice i j m v o g l d = absurd (cc)
  crossed (more t ts) class choice i j m v o g l d = by_test (nat_lt v.node (m + size t))
      (λ e. cross_first taken class choice j m t ts i v.node e ∙ across_later class choice i j o g
      (and_left (goes class choice j) (due_in taken m t v) (sym (due_first taken class choice j m t ts v e) ∙ d)) l)
      (λ e. cross_later taken class choice j m t ts i v.node e ∙ crossed ts class choice i (suc j) (m + size t) v o g (omega (arith, l))
      (sym (due_later taken class choice j m t ts v e) ∙ d))

  -- u in the first of some operands, v in one behind it
  first_apart : (t : Tree) (ts : Trees) (fs : LoadsList) (class : Class) (choice : Option ℕ) (i m : ℕ) (s : Summary) (u v : Place) →
      (summaries_of class s (more t ts) fs).clash ≡ false → (goes class choice i && due_in taken m t u) ≡ true →
      due_among taken class choice (suc i) (m + size t) ts v ≡ true → crosses class choice i (suc i) (m + size t) ts v.node ≡ false →
      may_clash (act_in m t (first fs) u) (act_among (m + size t) ts (rest fs) v) ≡ false
  first_apart t ts fs class choice i m s u v c du dv b = by_test (is_open class)
      (λ o. cross ts (rest fs) class choice (suc i) (m + size t) (joined class s (summary_of t (first fs))) (act_in m t (first fs) u) v o
      (cover_right (act_in m t (first fs) u) class s (summary_of t (first fs)) (due_covers t (first fs) m u (and_right (goes class choice i) _ du))) c dv)
      (λ o. absurd (clear _ (crossed ts class choice i (suc i) (m + size t) v o (and_left (goes class choice i) _ du) (omega arith) dv) b))

  mutual
    pub apart : (t : Tree) (w : Loads) (k : ℕ) (u v : Place) → (summary_of t w).clash ≡ false → due_in taken k t u ≡ true → due_in taken k t v ≡ true →
        same_place u v ≡ false → is_before taken k t u v ≡ false → is_before taken k t v u ≡ false → may_clash (act_in k t w u) (act_in k t w v) ≡ false
    apart (node class ts) w k u v c du dv n b a = by_test (u.node == k)
        (λ e. by_test (v.node == k)
        (λ f. both_are _ _ _ _ (act_own class ts w k u e) (act_own class ts w k v f)
        (own_pair class (is_load w) u.kind v.kind (sym (due_own taken class ts k u e) ∙ du) (sym (due_own taken class ts k v f) ∙ dv)
        (rest_false (u.node == v.node) (same_kind u.kind v.kind) (number_equal u.node v.node (number_is u.node k e ∙ sym (number_is v.node k f))) n)
        (rest_false (v.node == k) _ f (sym (before_own taken class ts k u v e) ∙ b))
        (rest_false (u.node == k) _ e (sym (before_own taken class ts k v u f) ∙ a))))
        (λ f. both_are _ _ _ _ (act_own class ts w k u e) (act_below class ts w k v f)
        (clash_symmetric (act_by class (is_load w) u.kind) (act_among (suc k) ts (below w) v) ∙
        up_apart class ts w k v u.kind c (sym (due_below taken class ts k v f) ∙ dv) (sym (due_own taken class ts k u e) ∙ du)
        (sym (before_up taken class ts k v u f e) ∙ a))))
        (λ e. by_test (v.node == k)
        (λ f. both_are _ _ _ _ (act_below class ts w k u e) (act_own class ts w k v f)
        (up_apart class ts w k u v.kind c (sym (due_below taken class ts k u e) ∙ du) (sym (due_own taken class ts k v f) ∙ dv)
        (sym (before_up taken class ts k u v e f) ∙ b)))
        (λ f. both_are _ _ _ _ (act_below class ts w k u e) (act_below class ts w k v f)
        (among_apart ts (below w) class (taken k) 0 (suc k) nothing u v (neither_left (summed class ts w).clash _ c)
        (sym (due_below taken class ts k u e) ∙ du) (sym (due_below taken class ts k v f) ∙ dv) n
        (sym (before_below taken class ts k u v e f) ∙ b) (sym (before_below taken class ts k v u f e) ∙ a))))

    among_apart : (ts : Trees) (fs : LoadsList) (class : Class) (choice : Option ℕ) (i m : ℕ) (s : Summary) (u v : Place) →
        (summaries_of class s ts fs).clash ≡ false →
        due_among taken class choice i m ts u ≡ true → due_among taken class choice i m ts v ≡ true → same_place u v ≡ false →
        between taken class choice i m ts u v ≡ false → between taken class choice i m ts v u ≡ false →
        may_clash (act_among m ts fs u) (act_among m ts fs v) ≡ false
    among_apart none fs class choice i m s u v c du dv n b a = absurd (cc)
    among_apart (more t ts) fs class choice i m s u v c du dv n b a = by_test (nat_lt u.node (m + size t))
        (λ e. by_test (nat_lt v.node (m + size t))
        (λ f. both_are _ _ _ _ (act_first t ts fs m u e) (act_first t ts fs m v f)
        (apart t (first fs) m u v (neither_left _ _ (clear_first t ts fs class s c))
        (and_right (goes class choice i) _ (sym (due_first taken class choice i m t ts u e) ∙ du))
        (and_right (goes class choice i) _ (sym (due_first taken class choice i m t ts v f) ∙ dv)) n
        (sym (both_first taken class choice i m t ts u v e f) ∙ b) (sym (both_first taken class choice i m t ts v u f e) ∙ a)))
        (λ f. both_are _ _ _ _ (act_first t ts fs m u e) (act_later t ts fs m v f)
        (first_apart t ts fs class choice i m s u v c (sym (due_first taken class choice i m t ts u e) ∙ du)
        (sym (due_later taken class choice i m t ts v f) ∙ dv) (sym (one_first taken class choice i m t ts u v e f) ∙ b))))
        (λ e. by_test (nat_lt v.node (m + size t))
        (λ f. both_are _ _ _ _ (act_later t ts fs m u e) (act_first t ts fs m v f)
        (clash_symmetric (act_among (m + size t) ts (rest fs) u) (act_in m t (first fs) v) ∙
        first_apart t ts fs class choice i m s v u c (sym (due_first taken class choice i m t ts v f) ∙ dv)
        (sym (due_later taken class choice i m t ts u e) ∙ du) (sym (one_first taken class choice i m t ts v u f e) ∙ a)))
        (λ f. both_are _ _ _ _ (act_later t ts fs m u e) (act_later t ts fs m v f)
        (among_apart ts (rest fs) class choice (suc i) (m + size t) (joined class s (summary_of t (first fs))) u v c
        (sym (due_later taken class choice i m t ts u e) ∙ du) (sym (due_later taken class choice i m t ts v f) ∙ dv) n
        (sym (both_later taken class choice i m t ts u v e f) ∙ b) (sym (both_later taken class choice i m t ts v u f e) ∙ a))))

pub quiet_if : (t : Tree) (w : Loads) → (summary_of t w).clash ≡ false → IsQuiet t w
quiet_if t w c taken u v du dv n b a = apart taken t w 0 u v c du dv n b a
