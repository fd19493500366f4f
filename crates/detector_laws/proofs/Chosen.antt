-- What a node chooses as an event is done: only one whose first operand's value it is, and what was chosen stays (6.5.13 to 6.5.15).
use Rattle.std.proofs.Common.{◌≡◌, ◌≢◌, ℕ, suc, ◌+◌, Bool, true, false, ◌||◌, if◌then◌else◌, List, ◌∷◌, Option, Some, None, is_some}
use Rattle.std.proofs.Common.{refl, sym, ap, ap₂, subst, ◌∙◌, true≢false}
use Rattle.ub_base.specs.declared.clause.Kind.TheVariants.{Val}
use Rattle.c_typed.specs.declared.tree.Place.{Place}
use Rattle.c_typed.specs.Tree.{size, is_quiet}
use Rattle.c_typed.specs.Order.{place, same_place}
use Rattle.c_model.specs.Program.{Head, And, Or, Cond, Expr, expr, none, more, tree_of}
use Rattle.c_model.specs.Values.{Value, or_nothing}
use Rattle.c_model.specs.World.{World}
use Rattle.c_model.specs.Steps.{Begun, Scene, at_node, choice_by, choice_in, quiet_value, taken_by, values_of, with_given}
use Rattle.c_model.proofs.Listed.{same_place_eq, same_place_itself}
use Rattle.c_model.proofs.Ranks.{if_false}
use Rattle.telling_laws.specs.Standing.{Chooses}
use Rattle.detector_laws.proofs.Paths.{not_true}

choice_head : (h : Head) (v : Value) (vs ws : List Value) (b : Bool) → choice_by h (v ∷ vs) b ≡ choice_by h (v ∷ ws) b
choice_head And v vs ws true = refl
choice_head Or v vs ws true = refl
choice_head Cond v vs ws true = refl
choice_head And v vs ws false = refl
choice_head Or v vs ws false = refl
choice_head Cond v vs ws false = refl
choice_head _ v vs ws b = refl

-- none where the first operand's value isn't known
choice_unknown : (h : Head) (v : Value) (vs : List Value) → choice_by h (v ∷ vs) false ≡ None
choice_unknown And v vs = refl
choice_unknown Or v vs = refl
choice_unknown Cond v vs = refl
choice_unknown _ v vs = refl

module _ (world : World) (f : Scene) (e : Begun) (u : Place) (w : Value) where
  abbrev later : Begun
  later = with_given e u w

  given_other : (v : Place) → u ≢ v → later.given v ≡ e.given v
  given_other v ne = if_false _ _ _ (not_true (same_place u v) (λ h. ne (same_place_eq u v h)))

  -- a choice whose first operand's value isn't u's stays
  choice_same : (k : ℕ) (o : Option Expr) → u ≢ place (suc k) Val → choice_in world f later.given k o ≡ choice_in world f e.given k o
  choice_same k None ne = refl
  choice_same k (Some (expr h ty line none)) ne = refl
  choice_same k (Some (expr h ty line (more t ts))) ne =
      let known = ap (λ z. is_quiet (tree_of t) || is_some z) (given_other (place (suc k) Val) ne) in
      let first = ap (λ z. if is_quiet (tree_of t) then quiet_value world f t else or_nothing z) (given_other (place (suc k) Val) ne) in
      choice_head h _ _ (values_of world f e.given (suc k + size (tree_of t)) ts) _
      ∙ ap₂ (λ z b. choice_by h (z ∷ values_of world f e.given (suc k + size (tree_of t)) ts) b) first known

  -- one that was made before u was known is of an operand that needs no event
  at_first : (i : ℕ) (b : Bool) (h : Head) (q : Value) (old new : Option Value) (vs ws : List Value) → old ≡ None →
      choice_by h ((if b then q else or_nothing old) ∷ vs) (b || is_some old) ≡ Some i →
      choice_by h ((if b then q else or_nothing new) ∷ ws) (b || is_some new) ≡ Some i
  at_first i true h q old new vs ws n g = choice_head h q ws vs true ∙ g
  at_first i false h q old new vs ws n g =
      absurd (let z : None ≡ Some i =
      sym (choice_unknown h (or_nothing old) vs) ∙ (ap (λ b. choice_by h (or_nothing old ∷ vs) b) (sym (ap is_some n)) ∙ g) in cc)

  at_value : (k i : ℕ) (o : Option Expr) → e.given (place (suc k) Val) ≡ None → choice_in world f e.given k o ≡ Some i →
      choice_in world f later.given k o ≡ Some i
  at_value k i None left h = h
  at_value k i (Some (expr h ty line none)) left g = g
  at_value k i (Some (expr h ty line (more t ts))) left g =
      at_first i (is_quiet (tree_of t)) h (quiet_value world f t) (e.given (place (suc k) Val)) (later.given (place (suc k) Val))
      (values_of world f e.given (suc k + size (tree_of t)) ts) (values_of world f later.given (suc k + size (tree_of t)) ts) left g

  pub chooses : e.given u ≡ None → Chooses (taken_by world f e) (taken_by world f later) u
  chooses left = record {
    grows = λ n i h. by_test n i (same_place u (place (suc n) Val)) refl h;
    only = λ n ne. choice_same n (at_node 0 e.root n) ne;
  }
    where
      by_test : (n i : ℕ) (b : Bool) → same_place u (place (suc n) Val) ≡ b → taken_by world f e n ≡ Some i → taken_by world f later n ≡ Some i
      by_test n i true s h =
          at_value n i (at_node 0 e.root n) (subst (λ z. e.given z ≡ None) (same_place_eq u (place (suc n) Val) s) left) h
      by_test n i false s h =
          choice_same n (at_node 0 e.root n) (λ q. true≢false (sym (same_place_itself u) ∙ (ap (same_place u) q ∙ s))) ∙ h
