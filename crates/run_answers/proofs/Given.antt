-- What a body gives chooses no operand, and changes no value of a node.
use Rattle.std.proofs.Common.{◌≡◌, ◌≢◌, ℕ, suc, ◌+◌, ◌==◌, Bool, true, false, refl, ap, ◌∙◌, List, ◌∷◌, Option, Some, None}
use Rattle.std.specs.Prelude.{◌&&◌, ◌||◌, is_some, if◌then◌else◌}
use Rattle.std.proofs.lemmas.Bool.{eqb-true}
use Rattle.ub_base.specs.declared.clause.Kind.TheVariants.{Val, Body}
use Rattle.c_typed.specs.declared.tree.Place.{Place}
use Rattle.c_typed.specs.Tree.{is_quiet, size}
use Rattle.c_typed.specs.Order.{place, same_place}
use Rattle.c_model.specs.Program.{Expr, expr, Exprs, none, more, tree_of}
use Rattle.c_model.specs.Steps.{Begun, Scene, at_node, choice_by, choice_in, first_known, is_done, quiet_value, taken_by, values_of, with_given}
use Rattle.c_model.specs.Values.{Value, or_nothing}
use Rattle.c_model.specs.World.{World}

and_false : (b : Bool) → (b && false) ≡ false
and_false true = refl
and_false false = refl

and_true : (b : Bool) → (b && true) ≡ b
and_true true = refl
and_true false = refl

not_equal : (a b : ℕ) (t : Bool) → (a == b) ≡ t → a ≢ b → t ≡ false
not_equal a b true is ne = absurd (ne (eqb-true a b is))
not_equal a b false is ne = refl

-- it is none of a value
pub given_value : (e : Begun) (n k : ℕ) (v : Value) → (with_given e (place n Body) v).given (place k Val) ≡ e.given (place k Val)
given_value e n k v = ap (λ (b : Bool). if b then Some v else e.given (place k Val)) (and_false (n == k))

pub given_other : (e : Begun) (n k : ℕ) (v : Value) → n ≢ k → (with_given e (place n Body) v).given (place k Body) ≡ e.given (place k Body)
given_other e n k v ne =
    ap (λ (b : Bool). if b then Some v else e.given (place k Body)) (and_true (n == k) ∙ not_equal n k (n == k) refl ne)

pub given_own : (e : Begun) (n k : ℕ) (v : Value) → (n == k) ≡ true → (with_given e (place n Body) v).given (place k Body) ≡ Some v
given_own e n k v same = ap (λ (b : Bool). if b then Some v else e.given (place k Body)) (and_true (n == k) ∙ same)

done_by : (b : Bool) (v : Value) (o : Option Value) → is_some (if b then Some v else o) ≡ (b || is_some o)
done_by true v o = refl
done_by false v o = refl

pub done_given : (e : Begun) (u w : Place) (v : Value) → is_done (with_given e u v) w ≡ (same_place u w || is_done e w)
done_given e u w v = done_by (same_place u w) v (e.given w)

module _ (world : World) (f : Scene) (e : Begun) (n : ℕ) (v : Value) where
  abbrev with_body : Begun
  with_body = with_given e (place n Body) v

  pub values_given : (k : ℕ) (es : Exprs) → values_of world f with_body.given k es ≡ values_of world f e.given k es
  values_given k none = refl
  values_given k (more x xs) =
      ap (λ (o : Option Value). (if is_quiet (tree_of x) then quiet_value world f x else or_nothing o)
      ∷ values_of world f with_body.given (k + size (tree_of x)) xs) (given_value e n k v)
      ∙ ap (λ (vs : List Value). (if is_quiet (tree_of x) then quiet_value world f x else or_nothing (e.given (place k Val))) ∷ vs)
      (values_given (k + size (tree_of x)) xs)

  first_given : (k : ℕ) (es : Exprs) → first_known with_body.given k es ≡ first_known e.given k es
  first_given k none = refl
  first_given k (more x xs) = ap (λ (o : Option Value). is_quiet (tree_of x) || is_some o) (given_value e n k v)

  choice_given : (k : ℕ) (o : Option Expr) → choice_in world f with_body.given k o ≡ choice_in world f e.given k o
  choice_given k None = refl
  choice_given k (Some (expr h ty line es)) =
      ap (λ (vs : List Value). choice_by h vs (first_known with_body.given (suc k) es)) (values_given (suc k) es)
      ∙ ap (choice_by h (values_of world f e.given (suc k) es)) (first_given (suc k) es)

  pub taken_given : taken_by world f with_body ≡ taken_by world f e
  taken_given = λ i k. choice_given k (at_node 0 e.root k) i
