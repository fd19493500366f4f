-- What each form of statement is seen as, and the bodies in it.
use Rattle.std.proofs.Common.{◌≡◌, ℕ, ℤ, ◌∷◌, ◌++◌, map, Option, sym, ap, ◌∙◌, rules}
use Rattle.c_model.specs.Program as model
use Rattle.c_model.specs.Program.{Stmts}
use Rattle.run_control.specs.declared.statement.Statement.{Statement, roll-Statement, para-roll-Statement, map-Statement}
use Rattle.run_control.specs.declared.statement.Statement.TheOpen as form
use Rattle.run_control.specs.declared.statement.Statement.TheOpen.{Statement-F}
use Rattle.run_control.specs.declared.statement.Statement.TheFolds.{the_lemmas}
use Rattle.run_control.specs.declared.statement.Statement.TheVariants as statement
use Rattle.run_control.specs.declared.statement.Block.{Block, para-roll-Block, roll-out-Block, out-Block}
use Rattle.run_control.specs.declared.statement.Switch.{Switch, para-roll-Switch, roll-out-Switch, out-Switch}
use Rattle.run_control.specs.declared.statement.Again.{Again, para-roll-Again, roll-out-Again, out-Again}
use Rattle.run_control.specs.declared.statement.Round.{Round, para-roll-Round, roll-out-Round, out-Round}
use Rattle.run_control.specs.View.{Meaning, stmt_of, block_of, again_of, round_of, in_turn, root_if}
use Rattle.run_control.specs.Targets.{Bodies, bodies, again_pairs, block_pairs, round_pairs, switch_pairs, all_bodies, statement_bodies}
use Rattle.run_control.specs.Targets.{again_bodies, block_bodies, round_bodies, switch_bodies}

pub stmt-label : (m : Meaning) (k : ℕ) (x : Statement) → stmt_of m (statement.Label k x) ≡ model.Label k (stmt_of m x)
stmt-label m k x = search (rules, the_lemmas)

pub stmt-case : (m : Meaning) (z : ℤ) (x : Statement) → stmt_of m (statement.Case z x) ≡ model.Case z (stmt_of m x)
stmt-case m z x = search (rules, the_lemmas)

pub stmt-default : (m : Meaning) (x : Statement) → stmt_of m (statement.Default x) ≡ model.Default (stmt_of m x)
stmt-default m x = search (rules, the_lemmas)

pub stmt-if : (m : Meaning) (n : ℕ) (x y : Statement) → stmt_of m (statement.If n x y) ≡ model.If (m.root n) (stmt_of m x) (stmt_of m y)
stmt-if m n x y = search (rules, the_lemmas)

pub stmt-if_only : (m : Meaning) (n : ℕ) (x : Statement) → stmt_of m (statement.IfOnly n x) ≡ model.If_only (m.root n) (stmt_of m x)
stmt-if_only m n x = search (rules, the_lemmas)

pub stmt-block : (m : Meaning) (b : Block) → stmt_of m (statement.Block b) ≡ model.Block (block_of m b).number (m.decls (block_of m b).number)
    (block_of m b).statements
stmt-block m b = search (rules, the_lemmas)

pub stmt-do : (m : Meaning) (b : Again) → stmt_of m (statement.Do b) ≡ model.Do (again_of m b).body (again_of m b).test
stmt-do m b = search (rules, the_lemmas)

pub stmt-for : (m : Meaning) (start : Option ℕ) (b : Round) → stmt_of m (statement.For start b)
    ≡ model.For (root_if m.root start) (round_of m b).test (round_of m b).step (round_of m b).body
stmt-for m start b = search (rules, the_lemmas)

pub stmt-switch : (m : Meaning) (b : Switch) → stmt_of m (statement.Switch b) ≡ model.Switch (m.root b.test) (m.body b.number)
stmt-switch m b = search (rules, the_lemmas)

pub again-body : (m : Meaning) (b : Again) → (again_of m b).body ≡ stmt_of m b.body
again-body m b = search (rules, the_lemmas)

pub round-body : (m : Meaning) (b : Round) → (round_of m b).body ≡ stmt_of m b.body
round-body m b = search (rules, the_lemmas)

pub block-statements : (m : Meaning) (b : Block) → (block_of m b).statements ≡ in_turn (map (stmt_of m) b.statements)
block-statements m b = search (rules, the_lemmas)

-- one layer of the bodies in a statement
rolled : (m : Meaning) (layer : Statement-F Statement Again Block Round Switch) → bodies m (roll-Statement layer)
    ≡ statement_bodies m (map-Statement Statement Again Block Round Switch (Statement × Bodies) (Again × Bodies) (Block × Bodies) (Round
    × Bodies) (Switch × Bodies)
    (λ y. (y, bodies m y)) (λ y. (y, again_pairs m y)) (λ y. (y, block_pairs m y)) (λ y. (y, round_pairs m y)) (λ y. (y, switch_pairs m y)) layer)
rolled m layer =
    para-roll-Statement Bodies Bodies Bodies Bodies Bodies (statement_bodies m) (again_bodies m) (block_bodies m) (round_bodies m) (switch_bodies m) layer

again_is : (m : Meaning) (b : Again) → again_pairs m b ≡ bodies m b.body
again_is m b = ap (again_pairs m) (sym (roll-out-Again b))
    ∙ para-roll-Again Bodies Bodies Bodies Bodies Bodies (statement_bodies m) (again_bodies m) (block_bodies m) (round_bodies m) (switch_bodies m)
    (out-Again b)

round_is : (m : Meaning) (b : Round) → round_pairs m b ≡ bodies m b.body
round_is m b = ap (round_pairs m) (sym (roll-out-Round b))
    ∙ para-roll-Round Bodies Bodies Bodies Bodies Bodies (statement_bodies m) (again_bodies m) (block_bodies m) (round_bodies m) (switch_bodies m)
    (out-Round b)

switch_is : (m : Meaning) (b : Switch) → switch_pairs m b ≡ (m.body b.number, stmt_of m b.body) ∷ bodies m b.body
switch_is m b = ap (switch_pairs m) (sym (roll-out-Switch b))
    ∙ para-roll-Switch Bodies Bodies Bodies Bodies Bodies (statement_bodies m) (again_bodies m) (block_bodies m) (round_bodies m) (switch_bodies m)
    (out-Switch b)

pub bodies-all : (m : Meaning) (b : Block) → block_pairs m b ≡ all_bodies m b.statements
bodies-all m b = ap (block_pairs m) (sym (roll-out-Block b))
    ∙ para-roll-Block Bodies Bodies Bodies Bodies Bodies (statement_bodies m) (again_bodies m) (block_bodies m) (round_bodies m) (switch_bodies m)
    (out-Block b)

pub bodies-label : (m : Meaning) (k : ℕ) (x : Statement) → bodies m (statement.Label k x) ≡ bodies m x
bodies-label m k x = ap (bodies m) (sym (statement.rolls-Label k x)) ∙ rolled m (form.Label k x)

pub bodies-case : (m : Meaning) (z : ℤ) (x : Statement) → bodies m (statement.Case z x) ≡ bodies m x
bodies-case m z x = ap (bodies m) (sym (statement.rolls-Case z x)) ∙ rolled m (form.Case z x)

pub bodies-default : (m : Meaning) (x : Statement) → bodies m (statement.Default x) ≡ bodies m x
bodies-default m x = ap (bodies m) (sym (statement.rolls-Default x)) ∙ rolled m (form.Default x)

pub bodies-if : (m : Meaning) (n : ℕ) (x : Statement) (y : Statement) → bodies m (statement.If n x y) ≡ bodies m x ++ bodies m y
bodies-if m n x y = ap (bodies m) (sym (statement.rolls-If n x y)) ∙ rolled m (form.If n x y)

pub bodies-if_only : (m : Meaning) (n : ℕ) (x : Statement) → bodies m (statement.IfOnly n x) ≡ bodies m x
bodies-if_only m n x = ap (bodies m) (sym (statement.rolls-IfOnly n x)) ∙ rolled m (form.IfOnly n x)

pub bodies-block : (m : Meaning) (b : Block) → bodies m (statement.Block b) ≡ block_pairs m b
bodies-block m b = ap (bodies m) (sym (statement.rolls-Block b)) ∙ rolled m (form.Block b)

pub bodies-do : (m : Meaning) (b : Again) → bodies m (statement.Do b) ≡ bodies m b.body
bodies-do m b = ap (bodies m) (sym (statement.rolls-Do b)) ∙ (rolled m (form.Do b) ∙ again_is m b)

pub bodies-for : (m : Meaning) (start : Option ℕ) (b : Round) → bodies m (statement.For start b) ≡ bodies m b.body
bodies-for m start b = ap (bodies m) (sym (statement.rolls-For start b)) ∙ (rolled m (form.For start b) ∙ round_is m b)

pub bodies-switch : (m : Meaning) (b : Switch) → bodies m (statement.Switch b) ≡ (m.body b.number, stmt_of m b.body) ∷ bodies m b.body
bodies-switch m b = ap (bodies m) (sym (statement.rolls-Switch b)) ∙ (rolled m (form.Switch b) ∙ switch_is m b)
