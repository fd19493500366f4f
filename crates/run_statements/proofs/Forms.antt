-- Which statement stands for each form of typed body.
use Rattle.std.proofs.Common.{◌≡◌, ℕ, ℤ, [], ◌∷◌, ◌++◌, Option, Some, None, sym, ap, subst, ◌∙◌}
use Rattle.c_typed.specs.declared.tree.Typed.{Typed}
use Rattle.c_typed.specs.declared.statement.Body.{Body}
use Rattle.c_typed.specs.declared.statement.Body.TheVariants as body
use Rattle.c_model.specs.Program as model
use Rattle.c_model.specs.Program.{Expr, Decl}
use Rattle.run_control.specs.declared.statement.Statement.{Statement}
use Rattle.run_control.specs.declared.statement.Statement.TheVariants as statement
use Rattle.run_control.specs.View.{Meaning, stmt_of}
use Rattle.run_control.specs.Targets.{Bodies, AllEqual, bodies}
use Rattle.run_control.proofs.Equations.{stmt-label, stmt-case, stmt-default, stmt-if, stmt-if_only}
use Rattle.run_control.proofs.Equations.{bodies-label, bodies-case, bodies-default, bodies-if, bodies-if_only}
use Rattle.run_statements.specs.declared.numbers.Numbers.{Numbers}
use Rattle.run_statements.specs.Bodies.{Stands, Grows, IsRoot, IsStatement, IsSimple, IsReturned, body_of}
use Rattle.run_statements.proofs.Equations.{bodies-value, bodies-empty, bodies-goto, bodies-continue, bodies-break, bodies-return, bodies-return_none}
use Rattle.run_statements.proofs.Equations.{stmt-value, stmt-empty, stmt-goto, stmt-continue, stmt-break, stmt-return, stmt-return_none}
use Rattle.run_statements.proofs.Equations.{body-if_only, body-if, body-goto, body-continue, body-break, body-label, body-case, body-default}

pub grows_two : (a b c : Numbers) → Grows a b → Grows b c → Grows a c
grows_two a b c g h = (λ n x at. h.0 n x (g.0 n x at), λ n x at. h.1 n x (g.1 n x at))

pub stands_before : (a b : Numbers) (m : Meaning) (e : Typed → Expr) → Grows a b → Stands m e b → Stands m e a
stands_before a b m e g s = record { root = λ n r at. s.root n r (g.0 n r at); body = λ n x at. s.body n x (g.1 n x at) }

pub statement_later : (a b : Numbers) (x : Body) (s : Statement) → Grows a b → IsStatement a x s → IsStatement b x s
statement_later a b x s g h = λ m e st. h m e (stands_before a b m e g st)

pub equal_two : (ps qs : Bodies) → AllEqual ps → AllEqual qs → AllEqual (ps ++ qs)
equal_two [] qs h k = k
equal_two (p ∷ ps) qs h k = (h.0, equal_two ps qs h.1 k)

same_body : (ns : Numbers) (b x : Body) (s : Statement) → b ≡ x → IsStatement ns x s → IsStatement ns b s
same_body ns b x s e = let P : Body → Type 0 = λ y. IsStatement ns y s in subst P (sym e)

none_in : (m : Meaning) (s : Statement) → bodies m s ≡ [] → AllEqual (bodies m s)
none_in m s e = subst AllEqual (sym e) tt

pub is_empty : (ns : Numbers) (t : Option Typed) → t ≡ None → IsSimple ns t statement.Empty
is_empty ns t is = let P : Option Typed → Type 0 = λ y. IsSimple ns y statement.Empty in
    subst P (sym is) (λ m e st. (stmt-empty m, none_in m statement.Empty (bodies-empty m)))

pub is_value : (ns : Numbers) (t : Option Typed) (x : Typed) (n : ℕ) → t ≡ Some x → IsRoot ns x n → IsSimple ns t (statement.Value n)
is_value ns t x n is h = let P : Option Typed → Type 0 = λ y. IsSimple ns y (statement.Value n) in
    subst P (sym is) (λ m e st. (stmt-value m n ∙ ap model.Value (h m e st), none_in m (statement.Value n) (bodies-value m n)))

pub is_return_none : (ns : Numbers) (t : Option Typed) → t ≡ None → IsReturned ns t statement.ReturnNone
is_return_none ns t is = let P : Option Typed → Type 0 = λ y. IsReturned ns y statement.ReturnNone in
    subst P (sym is) (λ m e st. (stmt-return_none m, none_in m statement.ReturnNone (bodies-return_none m)))

pub is_return : (ns : Numbers) (t : Option Typed) (x : Typed) (n : ℕ) → t ≡ Some x → IsRoot ns x n → IsReturned ns t (statement.Return n)
is_return ns t x n is h = let P : Option Typed → Type 0 = λ y. IsReturned ns y (statement.Return n) in
    subst P (sym is) (λ m e st. (stmt-return m n ∙ ap model.Return (h m e st), none_in m (statement.Return n) (bodies-return m n)))

pub at_if_only : (a ns : Numbers) (b : Body) (t : Typed) (x : Body) (other : Option Body) (n : ℕ) (s : Statement) → b ≡ body.If t x other → other ≡ None
    → Grows a ns → IsRoot a t n → IsStatement ns x s → IsStatement ns b (statement.IfOnly n s)
at_if_only a ns b t x other n s is none g h k = same_body ns b (body.If t x None) (statement.IfOnly n s) (is ∙ ap (body.If t x) none) (λ m e st. (
  stmt-if_only m n s ∙ (ap (λ c. model.If_only c (stmt_of m s)) (h m e (stands_before a ns m e g st)) ∙ (ap (model.If_only (e t)) (k m e st).0
      ∙ sym (body-if_only e m.decls t x))),
  subst AllEqual (sym (bodies-if_only m n s)) (k m e st).1,
))

pub at_if : (a c ns : Numbers) (b : Body) (t : Typed) (x y : Body) (other : Option Body) (n : ℕ) (s r : Statement) → b ≡ body.If t x other
    → other ≡ Some y → Grows a c → Grows c ns → IsRoot a t n → IsStatement c x s → IsStatement ns y r → IsStatement ns b (statement.If n s r)
at_if a c ns b t x y other n s r is some f g h k l = same_body ns b (body.If t x (Some y)) (statement.If n s r) (is ∙ ap (body.If t x) some) (λ m e st.
    let between = stands_before c ns m e g st in
    let first = k m e between in (
      stmt-if m n s r ∙ (ap (λ z. model.If z (stmt_of m s) (stmt_of m r)) (h m e (stands_before a c m e f between))
          ∙ (ap (λ z. model.If (e t) z (stmt_of m r)) first.0
          ∙ (ap (model.If (e t) (body_of e m.decls x)) (l m e st).0 ∙ sym (body-if e m.decls t x y)))),
      subst AllEqual (sym (bodies-if m n s r)) (equal_two (bodies m s) (bodies m r) first.1 (l m e st).1),
    ))

pub at_goto : (ns : Numbers) (b : Body) (k : ℕ) → b ≡ body.Goto k → IsStatement ns b (statement.Goto k)
at_goto ns b k is = same_body ns b (body.Goto k) (statement.Goto k) is
    (λ m e st. (stmt-goto m k ∙ sym (body-goto e m.decls k), none_in m (statement.Goto k) (bodies-goto m k)))

pub at_continue : (ns : Numbers) (b : Body) → b ≡ body.Continue → IsStatement ns b statement.Continue
at_continue ns b is = same_body ns b body.Continue statement.Continue is
    (λ m e st. (stmt-continue m ∙ sym (body-continue e m.decls), none_in m statement.Continue (bodies-continue m)))

pub at_break : (ns : Numbers) (b : Body) → b ≡ body.Break → IsStatement ns b statement.Break
at_break ns b is = same_body ns b body.Break statement.Break is
    (λ m e st. (stmt-break m ∙ sym (body-break e m.decls), none_in m statement.Break (bodies-break m)))

pub at_label : (ns : Numbers) (b : Body) (k : ℕ) (x : Body) (s : Statement) → b ≡ body.Label k x → IsStatement ns x s
    → IsStatement ns b (statement.Label k s)
at_label ns b k x s is h = same_body ns b (body.Label k x) (statement.Label k s) is (λ m e st. (
  stmt-label m k s ∙ (ap (model.Label k) (h m e st).0 ∙ sym (body-label e m.decls k x)),
  subst AllEqual (sym (bodies-label m k s)) (h m e st).1,
))

pub at_case : (ns : Numbers) (b : Body) (z : ℤ) (x : Body) (s r : Statement) → b ≡ body.Case z x → r ≡ statement.Case z s → IsStatement ns x s
    → IsStatement ns b r
at_case ns b z x s r is made h = subst (IsStatement ns b) (sym made) (same_body ns b (body.Case z x) (statement.Case z s) is (λ m e st. (
  stmt-case m z s ∙ (ap (model.Case z) (h m e st).0 ∙ sym (body-case e m.decls z x)),
  subst AllEqual (sym (bodies-case m z s)) (h m e st).1,
)))

pub at_default : (ns : Numbers) (b : Body) (x : Body) (s : Statement) → b ≡ body.Default x → IsStatement ns x s
    → IsStatement ns b (statement.Default s)
at_default ns b x s is h = same_body ns b (body.Default x) (statement.Default s) is (λ m e st. (
  stmt-default m s ∙ (ap model.Default (h m e st).0 ∙ sym (body-default e m.decls x)),
  subst AllEqual (sym (bodies-default m s)) (h m e st).1,
))
