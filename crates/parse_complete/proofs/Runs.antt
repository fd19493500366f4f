-- How the parser goes on from what it has read: each step, and where it stops.
use Rattle.std.proofs.Common.{◌≡◌, ℕ, zero, suc, ◌<◌, ◌≤◌, Bool, false, not, Some, refl, arith}
use Rattle.std.proofs.lemmas.Bool.{le-leb, lt-leb}
use Rattle.c_ast.specs.declared.expression.Expr.{Expr}
use Rattle.c_ast.specs.Input.{Input}
use Rattle.parse_spec.specs.Steps.{Outcome, left, turns}
use Rattle.parse_spec.specs.Nested.{expr, declarator, specs}
use Rattle.parse_spec.specs.Expressions.{tight, begins_cast, primary, post, posts, posts_from, chained, prefix, step, climb, climbed, operators}

module _ (d : ℕ) where
  -- after e, operators behind it lead to f
  abbrev pub PostsTo : ℕ → Expr → Input → Expr → Input → Type 0
  PostsTo at e t f t2 = (n : ℕ) → left t < n → posts_from (expr d) (declarator d) (specs d) at n e t ≡ Some (f, t2)

  abbrev pub ClimbsTo : ℕ → ℕ → Bool → Expr → Input → Expr → Input → Type 0
  ClimbsTo least at lone e t f t2 = (n : ℕ) → left t < n → climb (expr d) (declarator d) (specs d) least at n lone e t ≡ Some (f, t2)

  -- a primary expression, and the operators behind it
  abbrev pub chain : Input → Outcome Expr
  chain s = chained (expr d) (declarator d) (specs d) s.at s

  pub posts_stop : (at : ℕ) (e : Expr) (t : Input) → tight t ≤ 15 → PostsTo at e t e t
  unfolding posts_from
  posts_stop at e t h zero lt = absurd (omega arith)
  posts_stop at e t h (suc n) lt = rw (le-leb (tight t) 15 h) refl

  pub posts_step : (at : ℕ) (e : Expr) (i : Input) (e2 : Expr) (t : Input) (f : Expr) (t2 : Input) → 15 < tight i
      → post (expr d) (declarator d) (specs d) at e i ≡ Some (e2, t) → left t < left i → PostsTo at e2 t f t2 → PostsTo at e i f t2
  unfolding posts_from
  posts_step at e i e2 t f t2 h p shorter go zero lt = absurd (omega arith)
  posts_step at e i e2 t f t2 h p shorter go (suc n) lt = rw (lt-leb (tight i) 15 h, p) (go n (omega arith))

  pub chain_from : (s : Input) (e : Expr) (t : Input) (f : Expr) (t2 : Input) → primary (expr d) (declarator d) (specs d) s ≡ Some (e, t)
      → PostsTo s.at e t f t2 → chain s ≡ Some (f, t2)
  unfolding chained posts
  chain_from s e t f t2 p go = rw p (go (turns t) (omega arith))

  pub climb_stop : (least at : ℕ) (lone : Bool) (e : Expr) (t : Input) → tight t ≤ least → ClimbsTo least at lone e t e t
  unfolding climb
  climb_stop least at lone e t h zero lt = absurd (omega arith)
  climb_stop least at lone e t h (suc n) lt = rw (le-leb (tight t) least h) refl

  pub climb_step : (least at : ℕ) (lone : Bool) (e : Expr) (i : Input) (e2 : Expr) (t : Input) (f : Expr) (t2 : Input) → least < tight i
      → step (expr d) (declarator d) (specs d) at lone e i ≡ Some (e2, t) → left t < left i → ClimbsTo least at false e2 t f t2 →
      ClimbsTo least at lone e i f t2
  unfolding climb
  climb_step least at lone e i e2 t f t2 h p shorter go zero lt = absurd (omega arith)
  climb_step least at lone e i e2 t f t2 h p shorter go (suc n) lt = rw (lt-leb (tight i) least h, p) (go n (omega arith))

  -- what begins here is a primary expression with what is behind it, and no cast
  pub record Plain (s : Input) : Type 0 where
    pub plain : (least : ℕ) → prefix (expr d) (declarator d) (specs d) least s ≡ chain s
    pub lone : begins_cast s ≡ false

  pub operators_from : (least : ℕ) (s : Input) (e : Expr) (t : Input) (f : Expr) (t2 : Input) → prefix (expr d) (declarator d) (specs d) least s ≡ Some (e, t)
      → ClimbsTo least s.at (not (begins_cast s)) e t f t2 → operators (expr d) (declarator d) (specs d) least s ≡ Some (f, t2)
  unfolding operators climbed
  operators_from least s e t f t2 p go = rw p (go (turns t) (omega arith))
