-- Which statement stands for blocks, `switch` statements and loops.
use Rattle.std.proofs.Common.{◌≡◌, ℕ, [], ◌∷◌, ◌++◌, List, map, Option, Some, None, refl, sym, ap, subst, ◌∙◌, append_assoc}
use Rattle.c_typed.specs.declared.tree.Typed.{Typed}
use Rattle.c_typed.specs.declared.statement.Body.{Body}
use Rattle.c_typed.specs.declared.statement.Body.TheVariants as body
use Rattle.c_typed.specs.declared.statement.Block.{Block as TypedBlock}
use Rattle.c_typed.specs.declared.statement.ForStart.{ForStart}
use Rattle.c_typed.specs.declared.statement.ForStart.TheVariants as start
use Rattle.c_typed.specs.declared.statement.Entry.{Entry}
use Rattle.c_typed.specs.declared.statement.Entry.TheVariants as entry
use Rattle.c_model.specs.Program as model
use Rattle.c_model.specs.Program.{Expr, Decl, Stmt}
use Rattle.run_control.specs.declared.statement.Statement.{Statement}
use Rattle.run_control.specs.declared.statement.Statement.TheVariants as statement
use Rattle.run_control.specs.declared.statement.Block.{Block}
use Rattle.run_control.specs.declared.statement.Switch.{Switch}
use Rattle.run_control.specs.declared.statement.Again.{Again}
use Rattle.run_control.specs.declared.statement.Round.{Round}
use Rattle.run_control.specs.View.{Meaning, stmt_of, block_of, in_turn, root_if}
use Rattle.run_control.specs.Targets.{AllEqual, bodies, all_bodies}
use Rattle.run_control.proofs.Equations.{stmt-block, stmt-switch, block-statements, bodies-block, bodies-all, bodies-switch, bodies-do, bodies-for}
use Rattle.run_control.proofs.Adding.{equal_append}
use Rattle.run_statements.specs.declared.numbers.Numbers.{Numbers}
use Rattle.run_statements.specs.Bodies.{Stands, Grows, IsRoot, IsStatement, IsEntry, AreEntries, IsBlock, IsSelection, IsRound}
use Rattle.run_statements.specs.Bodies.{body_of, inner_of, entry_of, seen_if}
use Rattle.run_statements.proofs.Equations.{stmt-again, stmt-round, stmt-declare, stmt-value, block-number, inner-number, inner-statements}
use Rattle.run_statements.proofs.Equations.{bodies-declare, bodies-value, body-block, body-switch, body-while, body-do, body-for}
use Rattle.run_statements.proofs.Equations.{loop-empty, loop-value, loop-declared, entry-initializer, entry-declare}
use Rattle.run_statements.proofs.Forms.{equal_two, stands_before}

same_body : (ns : Numbers) (b x : Body) (s : Statement) → b ≡ x → IsStatement ns x s → IsStatement ns b s
same_body ns b x s e = let P : Body → Type 0 = λ y. IsStatement ns y s in subst P (sym e)

-- a block by its number and its statements
sees_block : (m : Meaning) (b : Block) (n : ℕ) (ss : List Stmt) → (block_of m b).number ≡ n → map (stmt_of m) b.statements ≡ ss
    → stmt_of m (statement.Block b) ≡ model.Block n (m.decls n) (in_turn ss)
sees_block m b n ss h k = stmt-block m b
    ∙ (ap (model.Block (block_of m b).number (m.decls (block_of m b).number)) (block-statements m b ∙ ap in_turn k)
    ∙ ap (λ z. model.Block z (m.decls z) (in_turn ss)) h)

within_block : (m : Meaning) (b : Block) → AllEqual (all_bodies m b.statements) → AllEqual (bodies m (statement.Block b))
within_block m b = subst AllEqual (sym (bodies-block m b ∙ bodies-all m b))

pub at_block : (ns : Numbers) (b : Body) (x : TypedBlock) (s : Block) → b ≡ body.Block x → IsBlock ns x s → IsStatement ns b (statement.Block s)
at_block ns b x s is h = same_body ns b (body.Block x) (statement.Block s) is (λ m e st. (
  sees_block m s (inner_of e m.decls x).number (inner_of e m.decls x).statements (h m e st).0 (h m e st).1 ∙ sym (body-block e m.decls x),
  within_block m s (h m e st).2,
))

pub at_switch : (a ns : Numbers) (b : Body) (t : Typed) (x : Body) (n : ℕ) (s : Switch) → b ≡ body.Switch t x → Grows a ns → IsRoot a t n
    → IsSelection ns n x s → IsStatement ns b (statement.Switch s)
at_switch a ns b t x n s is g h k = same_body ns b (body.Switch t x) (statement.Switch s) is (λ m e st. (
  stmt-switch m s ∙ (ap (λ q. model.Switch (m.root q) (m.body s.number)) k.0
      ∙ (ap (λ c. model.Switch c (m.body s.number)) (h m e (stands_before a ns m e g st))
      ∙ (ap (model.Switch (e t)) (k.1 m e st).0 ∙ sym (body-switch e m.decls t x)))),
  subst AllEqual (sym (bodies-switch m s)) ((k.1 m e st).0 ∙ sym (k.1 m e st).1, (k.1 m e st).2),
))

-- a loop behind what it begins with
sees_round : (ns : Numbers) (start : Option ℕ) (test step : Option Typed) (x : Body) (r : Round) → IsRound ns test step x r → (m : Meaning)
    (e : Typed → Expr) → Stands m e ns
    → stmt_of m (statement.For start r) ≡ model.For (root_if m.root start) (seen_if e test) (seen_if e step) (body_of e m.decls x)
sees_round ns start test step x r h = λ m e st. let parts = h m e st in stmt-round m start r
    ∙ (ap (λ z. model.For (root_if m.root start) z (root_if m.root r.step) (stmt_of m r.body)) parts.0
    ∙ (ap (λ z. model.For (root_if m.root start) (seen_if e test) z (stmt_of m r.body)) parts.1
    ∙ ap (model.For (root_if m.root start) (seen_if e test) (seen_if e step)) parts.2))

within_round : (m : Meaning) (start : Option ℕ) (r : Round) → AllEqual (bodies m r.body) → AllEqual (bodies m (statement.For start r))
within_round m start r = subst AllEqual (sym (bodies-for m start r))

pub at_while : (ns : Numbers) (b : Body) (t : Typed) (x : Body) (r : Round) → b ≡ body.While t x → IsRound ns (Some t) None x r
    → IsStatement ns b (statement.For None r)
at_while ns b t x r is h = same_body ns b (body.While t x) (statement.For None r) is (λ m e st. (
  sees_round ns None (Some t) None x r h m e st ∙ sym (body-while e m.decls t x),
  within_round m None r (h m e st).3,
))

pub at_do : (a ns : Numbers) (b : Body) (x : Body) (t : Typed) (s : Again) → b ≡ body.Do x t → Grows a ns → IsStatement a x s.body → IsRoot ns t s.test
    → IsStatement ns b (statement.Do s)
at_do a ns b x t s is g k h = same_body ns b (body.Do x t) (statement.Do s) is (λ m e st. let before = k m e (stands_before a ns m e g st) in (
  stmt-again m s ∙ (ap (λ z. model.Do z (m.root s.test)) before.0 ∙ (ap (model.Do (body_of e m.decls x)) (h m e st)
      ∙ sym (body-do e m.decls x t))),
  subst AllEqual (sym (bodies-do m s)) before.1,
))

pub at_for : (ns : Numbers) (b : Body) (from : ForStart) (test step : Option Typed) (x : Body) (r : Round) → b ≡ body.For from test step x
    → from ≡ start.Empty → IsRound ns test step x r → IsStatement ns b (statement.For None r)
at_for ns b from test step x r is empty h =
    same_body ns b (body.For start.Empty test step x) (statement.For None r) (is ∙ ap (λ y. body.For y test step x) empty) (λ m e st. (
      sees_round ns None test step x r h m e st
          ∙ sym (body-for e m.decls start.Empty test step x ∙ loop-empty e m.decls (seen_if e test) (seen_if e step) (body_of e m.decls x)),
      within_round m None r (h m e st).3,
    ))

pub at_for_value : (a ns : Numbers) (b : Body) (from : ForStart) (t : Typed) (test step : Option Typed) (x : Body) (n : ℕ) (r : Round)
    → b ≡ body.For from test step x → from ≡ start.Value t → Grows a ns → IsRoot a t n → IsRound ns test step x r
    → IsStatement ns b (statement.For (Some n) r)
at_for_value a ns b from t test step x n r is value g k h =
    same_body ns b (body.For (start.Value t) test step x) (statement.For (Some n) r) (is ∙ ap (λ y. body.For y test step x) value) (λ m e st. (
      sees_round ns (Some n) test step x r h m e st
          ∙ (ap (λ c. model.For (Some c) (seen_if e test) (seen_if e step) (body_of e m.decls x)) (k m e (stands_before a ns m e g st))
          ∙ sym (body-for e m.decls (start.Value t) test step x ∙ loop-value e m.decls t (seen_if e test) (seen_if e step) (body_of e m.decls x))),
      within_round m (Some n) r (h m e st).3,
    ))

map_more : (m : Meaning) (ss : List Statement) (s : Statement) → map (stmt_of m) (ss ++ s ∷ []) ≡ map (stmt_of m) ss ++ stmt_of m s ∷ []
map_more m [] s = refl
map_more m (x ∷ ss) s = ap (λ zs. stmt_of m x ∷ zs) (map_more m ss s)

all_more : (m : Meaning) (ss : List Statement) (s : Statement) → AllEqual (all_bodies m ss) → AllEqual (bodies m s) → AllEqual (all_bodies m (ss ++ s ∷ []))
all_more m [] s h k = equal_two (bodies m s) [] k tt
all_more m (x ∷ ss) s h k = let r = equal_append (bodies m x) (all_bodies m ss) h in
    equal_two (bodies m x) (all_bodies m (ss ++ s ∷ [])) r.0 (all_more m ss s r.1 k)

-- a declaration there makes the loop a block
pub at_for_declared : (a ns : Numbers) (b : Body) (from : ForStart) (d : TypedBlock) (test step : Option Typed) (x : Body) (ss : List Statement) (r : Round)
    (s : Block) → b ≡ body.For from test step x → from ≡ start.Declared d → s.number ≡ d.number → s.statements ≡ ss ++ statement.For None r ∷ []
    → Grows a ns → AreEntries a d ss → IsRound ns test step x r → IsStatement ns b (statement.Block s)
at_for_declared a ns b from d test step x ss r s is declared n made g k h =
    same_body ns b (body.For (start.Declared d) test step x) (statement.Block s) (is ∙ ap (λ y. body.For y test step x) declared) (λ m e st.
    let before = k m e (stands_before a ns m e g st) in
    let inner = inner_of e m.decls d in
    let loop = model.For None (seen_if e test) (seen_if e step) (body_of e m.decls x) in
    let seen : map (stmt_of m) s.statements ≡ inner.statements ++ loop ∷ [] = ap (map (stmt_of m)) made ∙ (map_more m ss (statement.For None r)
    ∙ (ap (λ zs. zs ++ stmt_of m (statement.For None r) ∷ []) before.0
    ∙ ap (λ z. inner.statements ++ z ∷ []) (sees_round ns None test step x r h m e st))) in (
      sees_block m s inner.number (inner.statements ++ loop ∷ []) (block-number m s ∙ (n ∙ sym (inner-number e m.decls d))) seen
          ∙ sym (body-for e m.decls (start.Declared d) test step x ∙ loop-declared e m.decls d (seen_if e test) (seen_if e step) (body_of e m.decls x)),
      within_block m s (subst (λ zs. AllEqual (all_bodies m zs)) (sym made) (all_more m ss (statement.For None r) before.1
          (within_round m None r (h m e st).3))),
    ))

pub entry_initializer : (ns : Numbers) (b : Entry) (t : Typed) (n : ℕ) → b ≡ entry.Initializer t → IsRoot ns t n → IsEntry ns b (statement.Value n)
entry_initializer ns b t n is h = let P : Entry → Type 0 = λ y. IsEntry ns y (statement.Value n) in
    subst P (sym is) (λ m e st. (
      stmt-value m n ∙ (ap model.Value (h m e st) ∙ sym (entry-initializer e m.decls t)),
      subst AllEqual (sym (bodies-value m n)) tt,
    ))

pub entry_declare : (ns : Numbers) (b : Entry) (d : ℕ) → b ≡ entry.Declare d → IsEntry ns b (statement.Declare d)
entry_declare ns b d is = let P : Entry → Type 0 = λ y. IsEntry ns y (statement.Declare d) in
    subst P (sym is) (λ m e st. (stmt-declare m d ∙ sym (entry-declare e m.decls d), subst AllEqual (sym (bodies-declare m d)) tt))

-- the statements so far, and those of the entries that are left
abbrev pub AreSoFar : Numbers → TypedBlock → List Statement → List Entry → Type 0
AreSoFar ns b ss rest = (m : Meaning) (e : Typed → Expr) → Stands m e ns
    → (map (stmt_of m) ss ++ map (entry_of e m.decls) rest ≡ (inner_of e m.decls b).statements) × AllEqual (all_bodies m ss)

pub so_far_none : (ns : Numbers) (b : TypedBlock) (items : List Entry) → items ≡ b.entries → AreSoFar ns b [] items
so_far_none ns b items is = λ m e st. (ap (map (entry_of e m.decls)) is ∙ sym (inner-statements e m.decls b), tt)

pub so_far_more : (a c : Numbers) (b : TypedBlock) (ss : List Statement) (s : Statement) (x : Entry) (rest : List Entry) → Grows a c → IsEntry c x s
    → AreSoFar a b ss (x ∷ rest) → AreSoFar c b (ss ++ s ∷ []) rest
so_far_more a c b ss s x rest g k h = λ m e st. let r = h m e (stands_before a c m e g st) in (
  ap (λ zs. zs ++ map (entry_of e m.decls) rest) (map_more m ss s)
      ∙ (append_assoc (map (stmt_of m) ss) (stmt_of m s ∷ []) (map (entry_of e m.decls) rest)
      ∙ (ap (λ z. map (stmt_of m) ss ++ z ∷ map (entry_of e m.decls) rest) (k m e st).0 ∙ r.0)),
  all_more m ss s r.1 (k m e st).1,
)
