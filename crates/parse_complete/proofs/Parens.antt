-- What reading finds of an expression that is spelled, bare or in parentheses.
use Rattle.std.proofs.Common.{◌≡◌, ℕ, zero, suc, ◌+◌, ◌<◌, ◌≤◌, Bool, true, false, not, ◌&&◌, Some, refl, ap, ◌∙◌, arith}
use Rattle.std.proofs.Math.Dec.{eqb-suc-zero}
use Rattle.c_lex.specs.declared.token.TokenKind.TheVariants as token
use Rattle.c_lex.specs.declared.token.Mark.TheVariants as m
use Rattle.c_ast.specs.declared.expression.Expr.{Expr}
use Rattle.c_ast.specs.declared.expression.ExprNode.{ExprNode}
use Rattle.c_ast.specs.Input.{Input, kind, is_typedef}
use Rattle.c_grammar.specs.Grammar.{Spells, level as level_of_node}
use Rattle.c_grammar.specs.Rules.{Within, From, MayStand, Operand}
use Rattle.parse_spec.specs.Steps.{left, sees}
use Rattle.parse_spec.specs.Nested.{expr, declarator, specs}
use Rattle.parse_spec.specs.Places.{begins_type_after}
use Rattle.parse_spec.specs.Expressions.{made, begins_cast, inside, primary, bracketed, prefix, operators, whole, level}
use Rattle.parse_complete.proofs.Firsts.{expr_opens, opens_no_type}
use Rattle.parse_complete.proofs.Keeps.{spells_keeps, operand_keeps}
use Rattle.parse_complete.proofs.Runs.{PostsTo, ClimbsTo, Plain, chain, posts_stop, chain_from, climb_stop, operators_from}
use Rattle.parse_complete.proofs.Steps.{mark_takes, expect_of, sees_not}
use Rattle.parse_complete.proofs.Tables.{grip, grip_is, grip_tight}

-- the token goes on with no expression of this level or a looser one
pub record Ends (l : ℕ) (t : Input) : Type 0 where
  pub within : grip t ≤ 13
  pub above : grip t ≤ l + 1
  pub low : l ≤ 2 → grip t ≤ l

module _ (a : ExprNode) (i n : ℕ) where
  abbrev pub Bare : Input → Input → Type 0
  Bare = Within n (From i (Spells a))

  abbrev pub Posts : Type 0
  Posts = MayStand 15 (level_of_node a) n → (s t : Input) → Bare s t → grip t ≤ 16 → (d : ℕ) → left s ≤ d → (f : Expr) (t2 : Input)
      → PostsTo d s.at (made i a) t f t2 → Plain d s × (chain d s ≡ Some (f, t2))

  abbrev pub Reaches : Type 0
  Reaches = (l : ℕ) → 1 ≤ l → l ≤ 14 → MayStand l (level_of_node a) n → (s t : Input) → Bare s t → Ends l t → (d : ℕ) → left s ≤ d
      → (least : ℕ) → least ≤ l → (f : Expr) (t2 : Input)
      → ((lone : Bool) → (14 ≤ l → lone ≡ true) → ClimbsTo d least s.at lone (made i a) t f t2)
      → operators (expr d) (declarator d) (specs d) least s ≡ Some (f, t2)

  abbrev pub Wholes : Type 0
  Wholes = (s t : Input) → Bare s t → grip t ≤ 0 → (d : ℕ) → left s ≤ d → whole (expr d) (declarator d) (specs d) s ≡ Some (made i a, t)

  -- what reading finds of it
  pub record Found : Type 0 where
    pub posts : Posts
    pub reaches : Reaches
    pub whole : Wholes

pub no_comma : (t : Input) → grip t ≤ 0 → sees m.Comma t ≡ false
no_comma t h = sees_not m.Comma t (λ e. absurd (let g = grip_is t m.Comma e in omega arith))

whole_one : (d : ℕ) (s : Input) (e : Expr) (t : Input) → grip t ≤ 0 → operators (expr d) (declarator d) (specs d) 1 s ≡ Some (e, t)
    → whole (expr d) (declarator d) (specs d) s ≡ Some (e, t)
unfolding whole
whole_one d s e t h p = rw (p, no_comma t h) refl

-- what stands at the assignment level or a tighter one is whole where it is reached
pub whole_from : (a : ExprNode) (i n : ℕ) → MayStand 1 (level_of_node a) n → Reaches a i n → Wholes a i n
whole_from a i n may r s t h e d le = whole_one d s (made i a) t e
    (r 1 (omega arith) (omega arith) may s t h (record { within = omega arith; above = omega arith; low = λ _. omega arith }) d le 1 (omega arith) _ t
    (λ lone _. climb_stop d 1 s.at lone (made i a) t (omega (arith, grip_tight t))))

-- what its prefix is, and that it begins no cast
abbrev Prefixed : ℕ → ℕ → Input → Expr → Input → Type 0
Prefixed d least s e t = (prefix (expr d) (declarator d) (specs d) least s ≡ Some (e, t)) × (begins_cast s ≡ false)

-- what begins with its prefix is reached
pub reaches_from : (a : ExprNode) (i n : ℕ) →
    ((s t : Input) → Bare a i n s t → grip t ≤ 13 → (d : ℕ) → left s ≤ d → (least : ℕ) → Prefixed d least s (made i a) t)
    → Reaches a i n
reaches_from a i n p l low high may s t h e d le least le2 f t2 go =
    let q = p s t h e.within d le least in
    operators_from d least s (made i a) t f t2 q.0 (go (not (begins_cast s)) (λ _. ap not q.1))

prefix_from : (a : ExprNode) (i n : ℕ) → MayStand 15 (level_of_node a) n → Posts a i n → (s t : Input) → Bare a i n s t → grip t ≤ 13 → (d : ℕ) → left s ≤ d
    → (least : ℕ) → Prefixed d least s (made i a) t
prefix_from a i n may p s t h low d le least =
    let x = p may s t h (omega (arith, low)) d le (made i a) t (posts_stop d s.at (made i a) t (omega (arith, low, grip_tight t))) in
    (x.0.plain least ∙ x.1, x.0.lone)

pub found_post : (a : ExprNode) (i n : ℕ) → MayStand 15 (level_of_node a) n → MayStand 1 (level_of_node a) n → Posts a i n → Found a i n
found_post a i n may may2 p =
    let r : Reaches a i n = reaches_from a i n (prefix_from a i n may p) in
    record { posts = p; reaches = r; whole = whole_from a i n may2 r }

inner_read : (a : ExprNode) (i n : ℕ) → Wholes a i n → (s t : Input) → Bare a i n s t → grip t ≤ 0 → (d : ℕ) → left s < d → expr d 0 s ≡ Some (made i a, t)
unfolding expr level
inner_read a i n w s t h stop zero lt = absurd (omega arith)
inner_read a i n w s t h stop (suc d) lt = w s t h stop d (omega arith)

paren_primary : (a : ExprNode) (i n : ℕ) → Wholes a i n → (s t : Input) → Bare a i (suc n) s t → (d : ℕ) → left s ≤ d
    → (primary (expr d) (declarator d) (specs d) s ≡ Some (made i a, t)) × (begins_type_after s ≡ false)
unfolding primary inside
paren_primary a i n w s t (x, (before, (y, (h, behind)))) d le =
    let p = mark_takes m.OpenParen s x before in
    let stop : grip y ≤ 0 = omega (arith, grip_is y m.CloseParen behind.0) in
    let inner = inner_read a i n w x y h stop d (omega arith) in
    let first = opens_no_type (is_typedef x) (kind x) (expr_opens d 0 x (made i a, y) inner) in (
      rw (before.0, ← before.1, inner, expect_of m.CloseParen y behind.0, behind.1) refl,
      rw (← before.1) first,
    )

and_false : (a b : Bool) → b ≡ false → (a && b) ≡ false
and_false true b h = h
and_false false b h = refl

paren_plain : (d : ℕ) (s : Input) → kind s ≡ Some (token.Punct m.OpenParen) → begins_type_after s ≡ false → Plain d s
unfolding prefix bracketed
paren_plain d s h none = record { plain = λ least. rw (h, none) refl; lone = and_false (sees m.OpenParen s) (begins_type_after s) none }

parens_more : (a : ExprNode) (i n : ℕ) → Wholes a i n → Found a i (suc n)
parens_more a i n w = found_post a i (suc n) tt tt (λ _ s t h _ d le f t2 go.
    let p = paren_primary a i n w s t h d le in
    (paren_plain d s h.1.0.0 p.1, chain_from d s (made i a) t f t2 p.0 go))

-- in parentheses it is found where it is found bare
pub parens : (a : ExprNode) → ((i : ℕ) → Found a i 0) → (i n : ℕ) → Found a i n
parens a c i zero = c i
parens a c i (suc n) = parens_more a i n (parens a c i n).whole

abbrev pub IsRead : ExprNode → Type 0
IsRead a = (i : ℕ) → Found a i 0

module _ (a : ExprNode) (c : IsRead a) (i : ℕ) where
  pub operand_post : (s t : Input) → Operand 15 (level_of_node a) i (Spells a) s t → grip t ≤ 16 → (d : ℕ) → left s ≤ d → (f : Expr) (t2 : Input)
      → PostsTo d s.at (made i a) t f t2 → Plain d s × (chain d s ≡ Some (f, t2))
  operand_post s t (n, (may, h)) = (parens a c i n).posts may s t h

  pub operand_reach : (l : ℕ) → 1 ≤ l → l ≤ 14 → (s t : Input) → Operand l (level_of_node a) i (Spells a) s t → Ends l t → (d : ℕ) → left s ≤ d
      → (least : ℕ) → least ≤ l → (f : Expr) (t2 : Input)
      → ((lone : Bool) → (14 ≤ l → lone ≡ true) → ClimbsTo d least s.at lone (made i a) t f t2)
      → operators (expr d) (declarator d) (specs d) least s ≡ Some (f, t2)
  operand_reach l low high s t (n, (may, h)) = (parens a c i n).reaches l low high may s t h

  pub operand_less : (l : ℕ) (s t : Input) → Operand l (level_of_node a) i (Spells a) s t → left t ≤ left s
  operand_less l s t h = (operand_keeps l (level_of_node a) i (Spells a) (spells_keeps a)).keeps s t h

  -- an operand that nothing goes on with is what is read there
  pub operand_expr : (l : ℕ) → l ≤ 14 → (s t : Input) → Operand l (level_of_node a) i (Spells a) s t → grip t ≤ l → grip t ≤ 13 → (d : ℕ) → left s < d
      → expr d l s ≡ Some (made i a, t)
  unfolding expr level
  operand_expr l high s t h e e2 zero lt = absurd (omega arith)
  operand_expr zero high s t (n, (may, h)) e e2 (suc d) lt = (parens a c i n).whole s t h e d (omega arith)
  operand_expr (suc l) high s t h e e2 (suc d) lt =
      rw (eqb-suc-zero l) (operand_reach (suc l) (omega arith) high s t h (record { within = e2; above = omega arith; low = λ _. e }) d (omega arith) (suc l)
      (omega arith) _ t
      (λ lone _. climb_stop d (suc l) s.at lone (made i a) t (omega (arith, e, grip_tight t))))
