-- What is due and what comes before a value stay so, as nodes choose further operands.
use Rattle.std.proofs.Common.{◌≡◌, ◌⊎◌, inl, inr, ⊎_elim, ℕ, suc, ◌+◌, nat_lt, ◌==◌, Bool, true, false, not, ◌&&◌, ◌||◌, refl, ap, sym, ◌∙◌, Option, Some, None}
use Rattle.std.proofs.Common.{if◌then◌else◌}
use Rattle.std.specs.Prelude.{is_some}
use Rattle.ub_base.proofs.Tests.{and_parts, and_both, or_cases, or_left, or_right, if_true, if_false}
use Rattle.ub_base.specs.declared.clause.Kind.{Kind}
use Rattle.ub_base.specs.declared.clause.Kind.TheVariants.{Val, Eff, Body}
use Rattle.c_typed.specs.declared.tree.Place.{Place}
use Rattle.c_typed.specs.declared.class.Class.{Class}
use Rattle.c_typed.specs.declared.class.Class.TheVariants as class
use Rattle.c_typed.specs.Tree.{Tree, Trees, node, none, more, size, is_quiet}
use Rattle.c_typed.specs.Order.{Taken, goes, is_choice, is_number, is_val, is_body, is_last, own_rule}
use Rattle.c_typed.specs.Decide.{due_in, due_among, lifts, rises, to_val}
use Rattle.run_evaluations.specs.Told.{Grows}
use Rattle.run_evaluations.proofs.PartLemmas.{by_test}

-- ---- what one node chose
abbrev Later : Option ℕ → Option ℕ → Type 0
Later old new = (i : ℕ) → old ≡ Some i → new ≡ Some i

number_later : (old new : Option ℕ) (i : ℕ) → Later old new → is_number old i ≡ true → is_number new i ≡ true
number_later None new i later h = absurd (cc)
number_later (Some j) new i later h = ap (λ o. is_number o i) (later j refl) ∙ h

some_later : (old new : Option ℕ) → Later old new → is_some old ≡ true → is_some new ≡ true
some_later None new later h = absurd (cc)
some_later (Some j) new later h = ap is_some (later j refl)

pub goes_later : (class : Class) (old new : Option ℕ) (i : ℕ) → Later old new → goes class old i ≡ true → goes class new i ≡ true
goes_later class old new i later h =
    ⊎_elim (λ a. or_left (not (is_choice class)) _ a)
    (λ b. or_right (not (is_choice class)) _
    (⊎_elim (λ z. or_left (i == 0) _ z) (λ n. or_right (i == 0) _ (number_later old new i later n)) (or_cases (i == 0) (is_number old i) b)))
    (or_cases (not (is_choice class)) ((i == 0) || is_number old i) h)

choice_lifts : (old new : Option ℕ) (i : ℕ) (last : Bool) → Later old new → lifts class.Choice old i last Val ≡ true → lifts class.Choice new i last Val ≡ true
choice_lifts old new i last later h =
    ⊎_elim
    (λ a. let p = and_parts (i == 0) (is_some old) a in
    or_left ((i == 0) && is_some new) false (and_both (i == 0) (is_some new) p.0 (some_later old new later p.1)))
    (λ b. absurd (cc))
    (or_cases ((i == 0) && is_some old) false h)

lifts_later : (c : Class) (old new : Option ℕ) (i : ℕ) (last : Bool) (kind : Kind) → Later old new → lifts c old i last kind ≡ true →
    lifts c new i last kind ≡ true
lifts_later class.Choice old new i last Val later h = choice_lifts old new i last later h
lifts_later class.Choice old new i last Eff later h = h
lifts_later class.Choice old new i last Body later h = h
lifts_later class.Object old new i last Val later h = h
lifts_later class.Object old new i last Eff later h = h
lifts_later class.Object old new i last Body later h = h
lifts_later class.Constant old new i last Val later h = h
lifts_later class.Constant old new i last Eff later h = h
lifts_later class.Constant old new i last Body later h = h
lifts_later class.Plain old new i last Val later h = h
lifts_later class.Plain old new i last Eff later h = h
lifts_later class.Plain old new i last Body later h = h
lifts_later class.Store old new i last Val later h = h
lifts_later class.Store old new i last Eff later h = h
lifts_later class.Store old new i last Body later h = h
lifts_later class.Update old new i last Val later h = h
lifts_later class.Update old new i last Eff later h = h
lifts_later class.Update old new i last Body later h = h
lifts_later class.Comma old new i last Val later h = h
lifts_later class.Comma old new i last Eff later h = h
lifts_later class.Comma old new i last Body later h = h
lifts_later class.Call old new i last Val later h = h
lifts_later class.Call old new i last Eff later h = h
lifts_later class.Call old new i last Body later h = h
lifts_later class.Isolated old new i last Val later h = h
lifts_later class.Isolated old new i last Eff later h = h
lifts_later class.Isolated old new i last Body later h = h

-- ---- what all nodes chose
module _ (old new : Taken) (grows : Grows old new) where
  mutual
    pub due_later : (k : ℕ) (t : Tree) (u : Place) → due_in old k t u ≡ true → due_in new k t u ≡ true
    due_later k (node class ts) u h = by_test (u.node == k)
        (λ e. if_true _ _ _ e ∙ (sym (if_true _ _ _ e) ∙ h))
        (λ e. if_false _ _ _ e ∙ due_rest class k 0 (suc k) ts u (sym (if_false _ _ _ e) ∙ h))

    due_rest : (class : Class) (k i m : ℕ) (ts : Trees) (u : Place) → due_among old class (old k) i m ts u ≡ true →
        due_among new class (new k) i m ts u ≡ true
    due_rest class k i m none u h = absurd (cc)
    due_rest class k i m (more t ts) u h = by_test (nat_lt u.node (m + size t))
        (λ e. let p = and_parts (goes class (old k) i) (due_in old m t u) (sym (if_true _ _ _ e) ∙ h) in
        if_true _ _ _ e ∙ and_both (goes class (new k) i) (due_in new m t u) (goes_later class (old k) (new k) i (grows k) p.0) (due_later m t u p.1))
        (λ e. if_false _ _ _ e ∙ due_rest class k (suc i) (m + size t) ts u (sym (if_false _ _ _ e) ∙ h))

  mutual
    pub reaches_later : (k : ℕ) (t : Tree) (u : Place) → to_val old k t u ≡ true → to_val new k t u ≡ true
    reaches_later k (node class ts) u h = by_test (u.node == k)
        (λ e. if_true _ _ _ e ∙ (sym (if_true _ _ _ e) ∙ h))
        (λ e. if_false _ _ _ e ∙ rises_rest class k 0 (suc k) ts u Val (sym (if_false _ _ _ e) ∙ h))

    rises_rest : (class : Class) (k i m : ℕ) (ts : Trees) (u : Place) (kind : Kind) → rises old class (old k) i m ts u kind ≡ true →
        rises new class (new k) i m ts u kind ≡ true
    rises_rest class k i m none u kind h = absurd (cc)
    rises_rest class k i m (more t ts) u kind h = by_test (nat_lt u.node (m + size t))
        (λ e. if_true _ _ _ e ∙ ⊎_elim
        (λ a. or_left (lifts class (new k) i (is_last ts) kind) _ (lifts_later class (old k) (new k) i (is_last ts) kind (grows k) a))
        (λ b. let p = and_parts (not (is_body kind)) (not (is_quiet t) && to_val old m t u) b in
        let q = and_parts (not (is_quiet t)) (to_val old m t u) p.1 in
        or_right (lifts class (new k) i (is_last ts) kind) _
        (and_both (not (is_body kind)) _ p.0 (and_both (not (is_quiet t)) _ q.0 (reaches_later m t u q.1))))
        (or_cases (lifts class (old k) i (is_last ts) kind) _ (sym (if_true _ _ _ e) ∙ h)))
        (λ e. if_false _ _ _ e ∙ rises_rest class k (suc i) (m + size t) ts u kind (sym (if_false _ _ _ e) ∙ h))
