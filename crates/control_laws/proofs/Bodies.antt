-- The body of a node comes before its value, and an update has none.
use Rattle.std.proofs.Common.{◌≡◌, ℕ, suc, ◌+◌, Bool, true, false, ◌&&◌, ◌==◌, nat_lt, if◌then◌else◌, Option, Some, refl, sym, subst, arith}
use Rattle.std.proofs.Common.{true≢false}
use Rattle.std.proofs.lemmas.Bool.Decides.{nat_tests}
use Rattle.std.proofs.lemmas.Option.{same_Some}
use Rattle.ub_base.specs.declared.clause.Kind.TheVariants.{Val, Body}
use Rattle.c_typed.specs.declared.class.Class.{Class}
use Rattle.c_typed.specs.declared.class.Class.TheVariants.{Object, Constant, Plain, Store, Update, Choice, Comma, Call, Isolated}
use Rattle.c_typed.specs.Tree.{Tree, node, Trees, none, more, size, kinds_of, class_of}
use Rattle.c_typed.specs.Order.{Taken, place, own_rule, goes}
use Rattle.c_typed.specs.Decide.{due_in, due_among, has_kind, is_before, between, rises, crosses}
use Rattle.c_model.specs.Program as model
use Rattle.c_model.specs.Program.{Expr, expr, Exprs, tree_of, trees_of, head_class}
use Rattle.c_model.specs.Steps.{at_node, at_node_among}

own_body : (c : Class) → own_rule c Body Val ≡ true
own_body Object = refl
own_body Constant = refl
own_body Plain = refl
own_body Store = refl
own_body Update = refl
own_body Choice = refl
own_body Comma = refl
own_body Call = refl
own_body Isolated = refl

and_right : (a b : Bool) → (a && b) ≡ true → b ≡ true
and_right true b h = h
and_right false b h = absurd (true≢false (sym h))

-- where a body is due, it comes before the value of its node
mutual
  pub body_first : (taken : Taken) (t : Tree) (k n : ℕ) → due_in taken k t (place n Body) ≡ true → is_before taken k t (place n Body) (place n Val) ≡ true
  body_first taken (node class ts) k n due = go (n == k) due (λ d. among_first taken class (taken k) ts 0 (suc k) n d)
    where
      go : (b : Bool) → (if b then has_kind (kinds_of class) Body else due_among taken class (taken k) 0 (suc k) ts (place n Body)) ≡ true
          → (due_among taken class (taken k) 0 (suc k) ts (place n Body) ≡ true
          → between taken class (taken k) 0 (suc k) ts (place n Body) (place n Val) ≡ true)
          → (if b then b && own_rule class Body Val
          else (if b then rises taken class (taken k) 0 (suc k) ts (place n Body) Val
          else between taken class (taken k) 0 (suc k) ts (place n Body) (place n Val))) ≡ true
      go true d f = own_body class
      go false d f = f d

  among_first : (taken : Taken) (class : Class) (choice : Option ℕ) (ts : Trees) (i m n : ℕ) → due_among taken class choice i m ts (place n Body) ≡ true
      → between taken class choice i m ts (place n Body) (place n Val) ≡ true
  among_first taken class choice none i m n due = absurd (true≢false (sym due))
  among_first taken class choice (more t ts) i m n due =
      go (nat_lt n (m + size t)) due (λ d. body_first taken t m n d) (λ d. among_first taken class choice ts (suc i) (m + size t) n d)
    where
      go : (b : Bool) → (if b then goes class choice i && due_in taken m t (place n Body)
          else due_among taken class choice (suc i) (m + size t) ts (place n Body)) ≡ true
          → (due_in taken m t (place n Body) ≡ true → is_before taken m t (place n Body) (place n Val) ≡ true)
          → (due_among taken class choice (suc i) (m + size t) ts (place n Body) ≡ true
          → between taken class choice (suc i) (m + size t) ts (place n Body) (place n Val) ≡ true)
          → (if b then (if b then is_before taken m t (place n Body) (place n Val)
          else crosses class choice i (suc i) (m + size t) ts n)
          else (if b then false else between taken class choice (suc i) (m + size t) ts (place n Body) (place n Val))) ≡ true
      go true d f g = f (and_right (goes class choice i) (due_in taken m t (place n Body)) d)
      go false d f g = g d

-- the tests of a number
same_tests : (a b : ℕ) → (a == b) ≡ (b == a)
same_tests a b = grind (arith, nat_tests)

-- where a body is due, its node is one that has a body
abbrev HasBody : Expr → Type 0
HasBody x = has_kind (kinds_of (class_of (tree_of x))) Body ≡ true

mutual
  pub body_node : (taken : Taken) (e : Expr) (k n : ℕ) (x : Expr) → at_node k e n ≡ Some x → due_in taken k (tree_of e) (place n Body) ≡ true → HasBody x
  body_node taken (expr h ty line es) k n x at due =
      go (k == n) (n == k) (same_tests k n) at due (λ a d. body_among taken (head_class h (trees_of es)) (taken k) es 0 (suc k) n x a d)
    where
      go : (b c : Bool) → b ≡ c → (if b then Some (expr h ty line es) else at_node_among (suc k) es n) ≡ Some x
          → (if c then has_kind (kinds_of (head_class h (trees_of es))) Body
          else due_among taken (head_class h (trees_of es)) (taken k) 0 (suc k) (trees_of es) (place n Body)) ≡ true
          → (at_node_among (suc k) es n ≡ Some x
          → due_among taken (head_class h (trees_of es)) (taken k) 0 (suc k) (trees_of es) (place n Body) ≡ true → HasBody x) → HasBody x
      go true true e a d f = subst HasBody (same_Some (expr h ty line es) x a) d
      go false false e a d f = f a d
      go true false e a d f = absurd (true≢false e)
      go false true e a d f = absurd (true≢false (sym e))

  body_among : (taken : Taken) (class : Class) (choice : Option ℕ) (es : Exprs) (i k n : ℕ) (x : Expr) → at_node_among k es n ≡ Some x
      → due_among taken class choice i k (trees_of es) (place n Body) ≡ true → HasBody x
  body_among taken class choice model.none i k n x at due = absurd (true≢false (sym due))
  body_among taken class choice (model.more e es) i k n x at due =
      go (nat_lt n (k + size (tree_of e))) at due (λ a d. body_node taken e k n x a d)
      (λ a d. body_among taken class choice es (suc i) (k + size (tree_of e)) n x a d)
    where
      go : (b : Bool) → (if b then at_node k e n else at_node_among (k + size (tree_of e)) es n) ≡ Some x
          → (if b then goes class choice i && due_in taken k (tree_of e) (place n Body)
          else due_among taken class choice (suc i) (k + size (tree_of e)) (trees_of es) (place n Body)) ≡ true
          → (at_node k e n ≡ Some x → due_in taken k (tree_of e) (place n Body) ≡ true → HasBody x)
          → (at_node_among (k + size (tree_of e)) es n ≡ Some x
          → due_among taken class choice (suc i) (k + size (tree_of e)) (trees_of es) (place n Body) ≡ true → HasBody x) → HasBody x
      go true a d f g = f a (and_right (goes class choice i) (due_in taken k (tree_of e) (place n Body)) d)
      go false a d f g = g a d
