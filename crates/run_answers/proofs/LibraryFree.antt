-- A node whose body may come next has no value yet: its body comes before that (6.5.2.2p10).
use Rattle.std.proofs.Common.{◌≡◌, ℕ, suc, ◌+◌, ◌==◌, ◌&&◌, Bool, true, false, refl, sym, ap, ◌∙◌, Option, Some, None, nat_lt, true≢false}
use Rattle.std.specs.Prelude.{is_some, if◌then◌else◌}
use Rattle.ub_base.specs.declared.clause.Kind.TheVariants.{Val, Body}
use Rattle.c_typed.specs.declared.class.Class.{Class}
use Rattle.c_typed.specs.declared.class.Class.TheVariants.{Update}
use Rattle.c_typed.specs.declared.tree.Place.{Place}
use Rattle.c_typed.specs.Decide.{between, due_among, due_in, is_before}
use Rattle.c_typed.specs.Order.{Taken, goes, own_rule, place}
use Rattle.c_typed.specs.Tree.{Tree, node, Trees, none, more, size}
use Rattle.c_model.specs.ChoiceLaws.{IsClosed, IsNext}
use Rattle.c_model.specs.Program.{tree_of}
use Rattle.c_model.specs.Steps.{Begun, Scene, taken_by}
use Rattle.c_model.specs.Values.{Value}
use Rattle.c_model.specs.World.{World}

own : (class : Class) → own_rule class Body Val ≡ true
own Update = refl
own _ = refl

and_second : (a b : Bool) → (a && b) ≡ true → b ≡ true
and_second true b h = h
and_second false b h = absurd (cc)

branch : {A : Type 0} (b t : Bool) (x y : A) → b ≡ t → (if b then x else y) ≡ (if t then x else y)
branch b t x y h = ap (λ (z : Bool). if z then x else y) h

module _ (taken : Taken) (n : ℕ) where
  abbrev body : Place
  body = place n Body

  abbrev val : Place
  val = place n Val

  before_by : (k : ℕ) (class : Class) (ts : Trees) (b : Bool) → (n == k) ≡ b
      → (due_among taken class (taken k) 0 (suc k) ts body ≡ true → between taken class (taken k) 0 (suc k) ts body val ≡ true)
      → due_in taken k (node class ts) body ≡ true → is_before taken k (node class ts) body val ≡ true
  before_by k class ts true is among due = branch (n == k) true _ _ is ∙ ap (λ (b : Bool). b && own_rule class Body Val) is ∙ own class
  before_by k class ts false is among due =
      branch (n == k) false _ _ is ∙ branch (n == k) false _ _ is ∙ among (sym (branch (n == k) false _ _ is) ∙ due)

  among_by : (class : Class) (choice : Option ℕ) (i m : ℕ) (t : Tree) (ts : Trees) (b : Bool) → nat_lt n (m + size t) ≡ b
      → (due_in taken m t body ≡ true → is_before taken m t body val ≡ true)
      → (due_among taken class choice (suc i) (m + size t) ts body ≡ true → between taken class choice (suc i) (m + size t) ts body val ≡ true)
      → due_among taken class choice i m (more t ts) body ≡ true → between taken class choice i m (more t ts) body val ≡ true
  among_by class choice i m t ts true is first rest due =
      branch (nat_lt n (m + size t)) true _ _ is ∙ branch (nat_lt n (m + size t)) true _ _ is
      ∙ first (and_second (goes class choice i) (due_in taken m t body) (sym (branch (nat_lt n (m + size t)) true _ _ is) ∙ due))
  among_by class choice i m t ts false is first rest due =
      branch (nat_lt n (m + size t)) false _ _ is ∙ branch (nat_lt n (m + size t)) false _ _ is
      ∙ rest (sym (branch (nat_lt n (m + size t)) false _ _ is) ∙ due)

  mutual
    own_before : (k : ℕ) (t : Tree) → due_in taken k t body ≡ true → is_before taken k t body val ≡ true
    own_before k (node class ts) = before_by k class ts (n == k) refl (own_among class (taken k) 0 (suc k) ts)

    own_among : (class : Class) (choice : Option ℕ) (i m : ℕ) (ts : Trees) → due_among taken class choice i m ts body ≡ true
        → between taken class choice i m ts body val ≡ true
    own_among class choice i m none = λ due. absurd (cc)
    own_among class choice i m (more t ts) =
        among_by class choice i m t ts (nat_lt n (m + size t)) refl (own_before m t) (own_among class choice (suc i) (m + size t) ts)

pub free_so : (world : World) (f : Scene) (e : Begun) (n : ℕ) → IsClosed world f e → IsNext world f e (place n Body) → e.given (place n Val) ≡ None
free_so world f e n closed next = by (e.given (place n Val)) refl
  where
    by : (o : Option Value) → e.given (place n Val) ≡ o → e.given (place n Val) ≡ None
    by None is = is
    by (Some v) is =
        let reached = closed (place n Val) (ap is_some is) in
        let given = reached.earlier (place n Body) next.due (own_before (taken_by world f e) n 0 (tree_of e.root) next.due) in
        absurd (true≢false (sym given ∙ ap is_some next.left))
