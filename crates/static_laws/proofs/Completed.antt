-- An order that holds as soon as each `?:` chooses holds before it does, for an event that was reached.
use Rattle.std.proofs.Common.{◌≡◌, ℕ, suc, ◌+◌, Bool, true, false, ◌||◌, if◌then◌else◌, List, ◌∷◌, Option, Some, None, is_some, refl, sym, ap, ◌∙◌, subst}
use Rattle.std.proofs.Common.{true≢false}
use Rattle.ub_base.specs.declared.clause.Kind.TheVariants.{Val}
use Rattle.c_types.specs.Types.{CType}
use Rattle.c_typed.specs.declared.tree.Place.{Place}
use Rattle.c_typed.specs.Tree.{size, is_quiet}
use Rattle.c_typed.specs.Order.{Taken, Before, place, is_due}
use Rattle.c_typed.specs.Decide.{due_in, is_before}
use Rattle.c_model.specs.Program.{Cond, Expr, expr, Exprs, none, more, tree_of}
use Rattle.c_model.specs.Values.{Value, truth, or_nothing}
use Rattle.c_model.specs.World.{World}
use Rattle.c_model.specs.Steps.{Scene, Begun, taken_by, choice_in, choice_by, values_of, at_node, quiet_value}
use Rattle.c_model.specs.ChoiceLaws.{IsReached}
use Rattle.c_model.proofs.Decided.{has_due}
use Rattle.c_model.proofs.Closed.{found_before, before_found, before_due}
use Rattle.c_model.proofs.Later.{nothing_new}
use Rattle.static_laws.proofs.Inside.{first_due, due_kept}
use Rattle.static_laws.proofs.Ordered.{FactsIn, before_kept}

-- a `?:` that hasn't chosen takes its second operand
abbrev pub filled : Option Expr → Option ℕ
filled (Some (expr Cond ty line (more a es))) = Some 1
filled o = None

abbrev pub or_filled : Option ℕ → Option ℕ → Option ℕ
or_filled (Some j) o = Some j
or_filled None o = o

module _ (world : World) (f : Scene) (b : Begun) where
  abbrev taken : Taken
  taken = taken_by world f b

  abbrev pub completed : Taken
  completed n = or_filled (taken n) (filled (at_node 0 b.root n))

  kept : (n j : ℕ) → taken n ≡ Some j → completed n ≡ Some j
  kept n j h = ap (λ z. or_filled z (filled (at_node 0 b.root n))) h

  filled_is : (o : Option Expr) → is_some (filled o) ≡ true → (ty : CType) × (line : ℕ) × (a : Expr) × (es : Exprs) × (o ≡ Some (expr Cond ty line (more a es)))
  filled_is None h = absurd (true≢false (sym h))
  filled_is (Some (expr Cond ty line (more a es))) h = (ty, line, a, es, refl)
  filled_is (Some (expr Cond ty line none)) h = absurd (true≢false (sym h))
  filled_is (Some (expr g ty line es)) h = absurd (true≢false (sym h))

  -- such a choice waits for its first operand
  waits : (n : ℕ) (ty : CType) (line : ℕ) (a : Expr) (es : Exprs) → choice_in world f b.given n (Some (expr Cond ty line (more a es))) ≡ None
      → (is_quiet (tree_of a) ≡ false) × (is_some (b.given (place (suc n) Val)) ≡ false)
  waits n ty line a es h =
      go (is_quiet (tree_of a)) (is_some (b.given (place (suc n) Val))) refl refl
      (if is_quiet (tree_of a) then quiet_value world f a else or_nothing (b.given (place (suc n) Val)))
      (values_of world f b.given (suc n + size (tree_of a)) es) h
    where
      chooses : (c : Bool) → ◌≡◌ {A = Option ℕ} (if c then Some 1 else Some 2) None → ⊥
      chooses true h = cc
      chooses false h = cc

      go : (c d : Bool) → is_quiet (tree_of a) ≡ c → is_some (b.given (place (suc n) Val)) ≡ d → (v : Value) (vs : List Value)
          → choice_by Cond (v ∷ vs) (c || d) ≡ None → (is_quiet (tree_of a) ≡ false) × (is_some (b.given (place (suc n) Val)) ≡ false)
      go false false p q v vs h = (p, q)
      go true d p q v vs h = absurd (chooses (truth v) h)
      go false true p q v vs h = absurd (chooses (truth v) h)

  fresh : (n : ℕ) → taken n ≡ None → is_some (completed n) ≡ true → is_due (tree_of b.root) taken (place n Val) ≡ true
      → (is_due (tree_of b.root) taken (place (suc n) Val) ≡ true) × (is_some (b.given (place (suc n) Val)) ≡ false)
  fresh n none_yet some_now due =
      let s : is_some (filled (at_node 0 b.root n)) ≡ true = subst (λ z. is_some (or_filled z (filled (at_node 0 b.root n))) ≡ true) none_yet some_now in
      let i = filled_is (at_node 0 b.root n) s in
      let w = waits n i.0 i.1 i.2 i.3 (subst (λ o. choice_in world f b.given n o ≡ None) i.4 none_yet) in
      let d = first_due taken Cond i.0 i.1 i.2 i.3 w.0 b.root 0 n i.4 (sym (has_due taken (tree_of b.root) 0 (place n Val)) ∙ due) in
      (has_due taken (tree_of b.root) 0 (place (suc n) Val) ∙ d, w.1)

  module _ (x y : Place) (due_x : due_in taken 0 (tree_of b.root) x ≡ true) (reached : IsReached world f b y) where
    before_now : Before (tree_of b.root) completed x y → Before (tree_of b.root) taken x y
    before_now h =
        nothing_new (tree_of b.root) taken completed kept (λ v. is_some (b.given v)) y fresh (has_due taken (tree_of b.root) 0 y ∙ reached.due)
        (λ v k. let d = before_due (tree_of b.root) taken v y k in
        reached.earlier v (sym (has_due taken (tree_of b.root) 0 v) ∙ d.0) (before_found (tree_of b.root) taken v y k)) x h

    -- what one choice orders so, where it chooses no more than the completed one, is so ordered now
    pub ordered_now : (S : Taken) → FactsIn S completed x y (at_node 0 b.root) → is_before S 0 (tree_of b.root) x y ≡ true
        → Before (tree_of b.root) taken x y
    ordered_now S facts h =
        let dx = due_kept taken completed kept x (tree_of b.root) 0 due_x in
        let dy = due_kept taken completed kept y (tree_of b.root) 0 reached.due in
        before_now (found_before (tree_of b.root) completed x y (has_due completed (tree_of b.root) 0 x ∙ dx) (has_due completed (tree_of b.root) 0 y ∙ dy)
        (before_kept S completed x y b.root 0 facts dx dy h))
