-- What is known of full expressions stays right.
use Rattle.std.proofs.Common.{◌≡◌, ◌<◌, ◌≤◌, ◌⊎◌, inl, inr, ⊎_elim, ℕ, zero, suc, ◌-◌, Bor, Bool, true, false, not, ◌==◌, List, [], ◌∷◌, ◌++◌, length, refl, ap}
use Rattle.std.proofs.Common.{sym, subst, ◌∙◌, arith, Option, Some, None, set}
use Rattle.std.specs.Prelude.{slice_get}
use Rattle.std.proofs.lemmas.Option.{same_Some}
use Rattle.c_typed.specs.declared.tree.Typed.{Typed}
use Rattle.c_typed.specs.Tree.{tree_of}
use Rattle.quiet_trees.specs.Loads.{loads_of}
use Rattle.quiet_trees.specs.Quiet.{IsQuiet}
use Rattle.quiet_trees.specs.Summaries.{summary_of}
use Rattle.evaluation_log.specs.Ruled.{rules_of}
use Rattle.evaluation_log.proofs.KeptLemmas.{before_or_past}
use Rattle.evaluation_log.proofs.WholeLemmas.{get_left, get_right}
use Rattle.conflict_detector.specs.declared.examined.Examined.{Examined}
use Rattle.conflict_detector.specs.declared.examined.Expressions.{Expressions}
use Rattle.conflict_detector.specs.Examined.{AreRight, HasRules, IsNumbered, IsQuietRoot, IsRight, is_known, is_said_quiet}

-- one number is that of one full expression
pub one_root : (roots : List (Bor Typed)) (n : ℕ) (t u : Typed) → IsNumbered roots n t → IsNumbered roots n u → t ≡ u
one_root roots n t u h g = sym h.2 ∙ (ap (λ (z : Bor Typed). z.now) (same_Some h.0 g.0 (sym h.1 ∙ g.1)) ∙ g.2)

-- a full expression that is examined
pub right_of : (roots : List (Bor Typed)) (n : ℕ) (t : Typed) (e : Examined) → IsNumbered roots n t → e.rules.list.items ≡ rules_of t 0 →
    (e.quiet ≡ true → IsQuiet (tree_of t) (loads_of t)) → e.quiet ≡ not (summary_of (tree_of t) (loads_of t)).clash → IsRight roots n e
right_of roots n t e numbered rules quiet told u there =
    let same = one_root roots n t u numbered there in
    subst (λ (z : Typed). ((e.rules.list.items ≡ []) ⊎ (e.rules.list.items ≡ rules_of z 0)) × (e.quiet ≡ true → IsQuietRoot z)) same
    (inr rules, λ h. (quiet h, not_true (summary_of (tree_of t) (loads_of t)).clash (sym told ∙ h)))
  where
    not_true : (b : Bool) → not b ≡ true → b ≡ false
    not_true false h = refl
    not_true true h = absurd (cc)

-- none is known of a number that comes anew
pub right_none : (roots : List (Bor Typed)) (n : ℕ) (e : Examined) → e.rules.list.items ≡ [] → e.quiet ≡ false → IsRight roots n e
right_none roots n e none quiet u there = (inl none, λ h. absurd (let q : true ≡ false = sym h ∙ quiet in cc))

-- the rules are those of the full expression, if there are some
pub has_rules : (roots : List (Bor Typed)) (n : ℕ) (t : Typed) (x : Expressions) (e : Examined) → AreRight roots x → IsNumbered roots n t →
    slice_get x.list.items n ≡ Some e → (length e.rules.list.items == 0) ≡ false → HasRules x n t
has_rules roots n t x e right numbered there some = (
  e,
  there,
  ⊎_elim
      (λ none. absurd (let q : true ≡ false = sym (ap (λ xs. length xs == 0) none) ∙ some in cc))
      (λ rules. rules) (right n e there t numbered).0,
)

pub quiet_root : (roots : List (Bor Typed)) (n : ℕ) (t : Typed) (x : Expressions) (e : Examined) → AreRight roots x → IsNumbered roots n t →
    slice_get x.list.items n ≡ Some e → e.quiet ≡ true → IsQuietRoot t
quiet_root roots n t x e right numbered there quiet = (right n e there t numbered).1 quiet

-- one more
pub right_more : (roots : List (Bor Typed)) (es fs : List Examined) (e : Examined) → fs ≡ es ++ (e ∷ []) → e.rules.list.items ≡ [] → e.quiet ≡ false →
    ((n : ℕ) (d : Examined) → slice_get es n ≡ Some d → IsRight roots n d) → (n : ℕ) (d : Examined) → slice_get fs n ≡ Some d → IsRight roots n d
right_more roots es fs e made none quiet right n d h = at_end (before_or_past n (length es))
  where
    last : (k : ℕ) → slice_get (e ∷ []) k ≡ Some d → IsRight roots n d
    last zero g = subst (λ (z : Examined). IsRight roots n z) (same_Some e d g) (right_none roots n e none quiet)
    last (suc k) g = absurd (cc)

    at_end : (n < length es) ⊎ (length es ≤ n) → IsRight roots n d
    at_end (inl less) = right n d (sym (get_left es (e ∷ []) n less) ∙ (ap (λ xs. slice_get xs n) (sym made) ∙ h))
    at_end (inr past) = last (n - length es)
        (sym (get_right es (e ∷ []) (n - length es)) ∙ (ap (slice_get (es ++ (e ∷ []))) (omega (arith, past)) ∙ (ap (λ xs. slice_get xs n) (sym made) ∙ h)))

-- one in the place of another
set_same : (es : List Examined) (i : ℕ) (e : Examined) → i < length es → slice_get (set es i e) i ≡ Some e
set_same [] i e h = absurd (omega (arith, h))
set_same (d ∷ es) zero e h = refl
set_same (d ∷ es) (suc i) e h = set_same es i e (omega (arith, h))

set_other : (es : List Examined) (i n : ℕ) (e d : Examined) → slice_get (set es i e) n ≡ Some d → (slice_get es n ≡ Some d) ⊎ ((n ≡ i) × (d ≡ e))
set_other [] i n e d h = absurd (cc)
set_other (c ∷ es) zero zero e d h = inr (refl, sym (same_Some e d h))
set_other (c ∷ es) zero (suc n) e d h = inl h
set_other (c ∷ es) (suc i) zero e d h = inl h
set_other (c ∷ es) (suc i) (suc n) e d h = ⊎_elim (λ g. inl g) (λ g. inr (ap suc g.0, g.1)) (set_other es i n e d h)

pub right_put : (roots : List (Bor Typed)) (x y : Expressions) (n : ℕ) (e : Examined) → y.list.items ≡ set x.list.items n e → AreRight roots x →
    IsRight roots n e → AreRight roots y
right_put roots x y n e made right one k d h = at_place (set_other x.list.items n k e d (ap (λ xs. slice_get xs k) (sym made) ∙ h))
  where
    at_place : (slice_get x.list.items k ≡ Some d) ⊎ ((k ≡ n) × (d ≡ e)) → IsRight roots k d
    at_place (inl old) = right k d old
    at_place (inr new) = subst (λ (z : ℕ). IsRight roots z d) (sym new.0) (subst (λ (z : Examined). IsRight roots n z) (sym new.1) one)

pub rules_put : (x y : Expressions) (n : ℕ) (t : Typed) (e : Examined) → y.list.items ≡ set x.list.items n e → n < length x.list.items →
    e.rules.list.items ≡ rules_of t 0 → HasRules y n t
rules_put x y n t e made within rules = (e, ap (λ xs. slice_get xs n) made ∙ set_same x.list.items n e within, rules)

-- what is known
known_some : (o : Option Examined) → is_known o ≡ true → (e : Examined) × (o ≡ Some e) × ((length e.rules.list.items == 0) ≡ false)
known_some None h = absurd (cc)
known_some (Some e) h = (e, refl, not_false (length e.rules.list.items == 0) h)
  where
    not_false : (b : Bool) → not b ≡ true → b ≡ false
    not_false false h = refl
    not_false true h = absurd (cc)

pub rules_known : (roots : List (Bor Typed)) (n : ℕ) (t : Typed) (x : Expressions) → AreRight roots x → IsNumbered roots n t →
    is_known (slice_get x.list.items n) ≡ true → HasRules x n t
rules_known roots n t x right numbered known =
    let k = known_some (slice_get x.list.items n) known in
    has_rules roots n t x k.0 right numbered k.1 k.2

quiet_some : (o : Option Examined) → is_said_quiet o ≡ true → (e : Examined) × (o ≡ Some e) × (e.quiet ≡ true)
quiet_some None h = absurd (cc)
quiet_some (Some e) h = (e, refl, h)

pub quiet_known : (roots : List (Bor Typed)) (n : ℕ) (t : Typed) (x : Expressions) → AreRight roots x → IsNumbered roots n t →
    is_said_quiet (slice_get x.list.items n) ≡ true → IsQuietRoot t
quiet_known roots n t x right numbered quiet =
    let k = quiet_some (slice_get x.list.items n) quiet in
    quiet_root roots n t x k.0 right numbered k.1 k.2

pub right_empty : (roots : List (Bor Typed)) (x : Expressions) → x.list.items ≡ [] → AreRight roots x
right_empty roots x e n d h = absurd (let q : None ≡ Some d = ap (λ xs. slice_get xs n) (sym e) ∙ h in cc)
