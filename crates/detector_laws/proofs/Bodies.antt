-- A body completes nothing: the value of its node comes behind it (6.5.2.2, 6.7.9p23).
use Rattle.std.proofs.Common.{◌≡◌, ◌≤◌, ◌<◌, ℕ, suc, ◌+◌, ◌==◌, nat_lt, true, false, not, List, [], ◌∷◌, ◌++◌, Some}
use Rattle.std.proofs.Common.{refl, ap, subst, ◌∙◌, arith}
use Rattle.std.proofs.lemmas.Bool.Decides.{nat_tests}
use Rattle.ub_base.specs.declared.clause.Kind.TheVariants.{Body}
use Rattle.c_typed.specs.declared.tree.Place.{Place}
use Rattle.c_typed.specs.declared.class.Class.{Class}
use Rattle.c_typed.specs.declared.class.Class.TheVariants.{Object, Constant, Plain, Store, Update, Choice, Comma, Call, Isolated}
use Rattle.c_typed.specs.Tree.{Tree, node, Trees, none, more, size, sizes, kinds_of}
use Rattle.c_typed.specs.Order.{Taken, events, has}
use Rattle.c_model.specs.Completions.{Incomplete, completed_by}
use Rattle.c_model.specs.Steps.{taken_by, with_given}
use Rattle.completion_laws.specs.Completed.{comes_next}
use Rattle.completion_laws.proofs.Ahead.{by_test, if_true}
use Rattle.completion_laws.proofs.Found.{completes_by_next}
use Rattle.completion_laws.proofs.Last.{class_below, class_first, class_in, class_among, class_rest, class_root, ends_at, node_last}
use Rattle.completion_laws.proofs.Lists.{has_at}
use Rattle.elaborate.specs.Formed.{is_formed}
use Rattle.elaborate.proofs.Ranges.{events_in}
use Rattle.run_evaluations.specs.Scopes.{Scope}
use Rattle.telling_laws.specs.Newly.{ShowNewly}
use Rattle.telling_laws.specs.OnlyNew.{IsNew}
use Rattle.telling_laws.proofs.New.{only_new_quarrel, only_new_race}
use Rattle.detector_laws.specs.Looked.{looked_at, scope_of}
use Rattle.detector_laws.specs.Frames.{EndsFree}

less_of : (a b : ℕ) → nat_lt a b ≡ true → a < b
less_of a b h = grind (arith, nat_tests, h)

most_of : (a b : ℕ) → nat_lt a b ≡ false → b ≤ a
most_of a b h = grind (arith, nat_tests, h)

same_of : (a b : ℕ) → (a == b) ≡ true → a ≡ b
same_of a b h = grind (arith, nat_tests, h)

above_of : (a b : ℕ) → (a == b) ≡ false → b ≤ a → b < a
above_of a b h low = grind (arith, nat_tests, h, low)

mutual
  class_there : (t : Tree) (k n : ℕ) → k ≤ n → n < k + size t → (c : Class) × (class_in k t n ≡ Some c)
  class_there (node class ts) k n low high =
      by_test (n == k)
      (λ e. (class, class_root k class ts n (same_of n k e)))
      (λ e. let l = above_of n k e low in
      let r = class_there_among ts (suc k) n (omega (arith, l)) (omega (arith, high)) in
      (r.0, class_below k class ts n l ∙ r.1))

  class_there_among : (ts : Trees) (m n : ℕ) → m ≤ n → n < m + sizes ts → (c : Class) × (class_among m ts n ≡ Some c)
  class_there_among none m n low high = absurd (omega (arith, low, high))
  class_there_among (more t ts) m n low high =
      by_test (nat_lt n (m + size t))
      (λ e. let l = less_of n (m + size t) e in let r = class_there t m n low l in (r.0, class_first m t ts n l ∙ r.1))
      (λ e. let l = most_of n (m + size t) e in
      let r = class_there_among ts (m + size t) n l (omega (arith, high)) in
      (r.0, class_rest m t ts n l ∙ r.1))

not_last : (c : Class) → ends_at (kinds_of c) Body ≡ false
not_last Object = refl
not_last Constant = refl
not_last Plain = refl
not_last Store = refl
not_last Update = refl
not_last Choice = refl
not_last Comma = refl
not_last Call = refl
not_last Isolated = refl

pub body_completes_none : (root : Tree) (taken : Taken) (passed ahead : List Place) (u : Place) → is_formed root ≡ true
    → events taken 0 root ≡ passed ++ u ∷ ahead → u.kind ≡ Body → completed_by root taken (has (passed ++ u ∷ [])) u.node ≡ Incomplete
body_completes_none root taken passed ahead u formed listed body =
    let r = events_in taken root 0 u (ap (λ z. has z u) listed ∙ has_at passed ahead u) in
    let c = class_there root 0 u.node r.0 r.1 in
    completes_by_next root taken passed ahead u formed listed
    ∙ if_true (comes_next u.node ahead) _ _
    (node_last taken root 0 passed ahead u c.0 listed c.1 ∙ ap not (ap (ends_at (kinds_of c.0)) body ∙ not_last c.0))

-- so nothing is found as a frame ends
pub ends_free : EndsFree
ends_free world trace later f e u top body took =
    let s : Scope = scope_of world f (with_given e u took.value) in
    let behind = looked_at world later f (with_given e u took.value) in
    let nothing : (x y : Place) → IsNew s took.passed u x y → ⊥ = (λ x y p.
    subst (λ c. ShowNewly s u.node c x y)
    (body_completes_none s.tree s.taken took.passed took.further u took.taken.formed took.taken.behind body) p) in
    record {
      raceless = (only_new_race world.rows s (taken_by world f e) took.passed u took.ahead took.further (looked_at world trace f e) behind took.taken
          took.around took.before.free.raceless).1 (λ x y dx dy order p. absurd (nothing x y p));
      quarrelless = (only_new_quarrel world.rows s (taken_by world f e) took.passed u took.ahead took.further (looked_at world trace f e) behind took.taken
          took.around took.before.free.quarrelless).1 (λ x y dx dy order p. absurd (nothing x y p));
    }
