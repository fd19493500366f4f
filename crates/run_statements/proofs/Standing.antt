-- Each `switch` that stands in a statement has its body there, where the bodies are what their numbers stand for.
use Rattle.std.proofs.Common.{◌≡◌, sym, ap, ◌∙◌, subst, List, [], ◌∷◌, ◌++◌, map}
use Rattle.run_control.specs.declared.statement.Statement.{Statement, roll-Statement, para-roll-Statement, map-Statement}
use Rattle.run_control.specs.declared.statement.Statement.TheFolds.{ind-Statement}
use Rattle.run_control.specs.declared.statement.Statement.TheOpen as form
use Rattle.run_control.specs.declared.statement.Statement.TheOpen.{Statement-F, Block-F, Switch-F, Again-F, Round-F}
use Rattle.run_control.specs.declared.statement.Block.{Block, roll-Block}
use Rattle.run_control.specs.declared.statement.Switch.{Switch, roll-Switch, para-roll-Switch, roll-out-Switch, out-Switch}
use Rattle.run_control.specs.declared.statement.Again.{Again, roll-Again, para-roll-Again, roll-out-Again, out-Again}
use Rattle.run_control.specs.declared.statement.Round.{Round, roll-Round, para-roll-Round, roll-out-Round, out-Round}
use Rattle.run_control.specs.Targets.{AllEqual, Bodies, all_bodies, bodies, again_pairs, block_pairs, round_pairs, switch_pairs, statement_bodies}
use Rattle.run_control.specs.Targets.{again_bodies, block_bodies, round_bodies, switch_bodies}
use Rattle.run_control.specs.View.{Meaning, stmt_of}
use Rattle.run_control.proofs.Equations.{bodies-all}
use Rattle.run_statements.specs.Switches.{Switches, statement_switches, switches_in, switches_in_all}
use Rattle.run_statements.proofs.Gathering.{again_is, block_is, in_again, in_block, in_round, in_switch, rolled, round_is, switch_is}

module _ (m : Meaning) where
  -- its number stands for its body, and so do those in it
  abbrev pub Stands : Switch → Type 0
  Stands b = (m.body b.number ≡ stmt_of m b.body) × AllEqual (bodies m b.body)

  abbrev pub AllStand : Switches → Type 0
  AllStand [] = Unit {0}
  AllStand (b ∷ bs) = Stands b × AllStand bs

  both_stand : (bs cs : Switches) → AllStand bs → AllStand cs → AllStand (bs ++ cs)
  both_stand [] cs h k = k
  both_stand (b ∷ bs) cs h k = (h.0, both_stand bs cs h.1 k)

  equal_left : (ps qs : Bodies) → AllEqual (ps ++ qs) → AllEqual ps
  equal_left [] qs e = tt
  equal_left (p ∷ ps) qs e = (e.0, equal_left ps qs e.1)

  equal_right : (ps qs : Bodies) → AllEqual (ps ++ qs) → AllEqual qs
  equal_right [] qs e = e
  equal_right (p ∷ ps) qs e = equal_right ps qs e.1

  -- of a statement, and of its parts
  abbrev StatementStands : Statement → Type 0
  StatementStands s = AllEqual (bodies m s) → AllStand (switches_in s)

  abbrev AgainStands : Again → Type 0
  AgainStands b = AllEqual (again_pairs m b) → AllStand (in_again b)

  abbrev BlockStands : Block → Type 0
  BlockStands b = AllEqual (block_pairs m b) → AllStand (in_block b)

  abbrev RoundStands : Round → Type 0
  RoundStands b = AllEqual (round_pairs m b) → AllStand (in_round b)

  abbrev SwitchStands : Switch → Type 0
  SwitchStands b = AllEqual (switch_pairs m b) → AllStand (b ∷ in_switch b)

  -- one layer
  abbrev StatementAt : Statement-F Statement Again Block Round Switch → Type 0
  StatementAt z =
      AllEqual (statement_bodies m (map-Statement Statement Again Block Round Switch (Statement × Bodies) (Again × Bodies) (Block × Bodies) (Round × Bodies)
      (Switch × Bodies) (λ y. (y, bodies m y)) (λ y. (y, again_pairs m y)) (λ y. (y, block_pairs m y)) (λ y. (y, round_pairs m y))
      (λ y. (y, switch_pairs m y)) z))
      → AllStand (statement_switches (map-Statement Statement Again Block Round Switch (Statement × Switches) (Again × Switches) (Block × Switches)
      (Round × Switches) (Switch × Switches) (λ y. (y, switches_in y)) (λ y. (y, in_again y)) (λ y. (y, in_block y)) (λ y. (y, in_round y))
      (λ y. (y, in_switch y)) z))

  rolled_statement : (z : Statement-F Statement Again Block Round Switch) → StatementAt z → StatementStands (roll-Statement z)
  rolled_statement z h = λ e.
      subst AllStand (sym (rolled z))
      (h (subst AllEqual
      (para-roll-Statement Bodies Bodies Bodies Bodies Bodies (statement_bodies m) (again_bodies m) (block_bodies m) (round_bodies m) (switch_bodies m) z) e))

  -- the parts, each with what holds of it
  abbrev HeldStatement : Type 0
  HeldStatement = (s : Statement) × StatementStands s

  abbrev HeldAgain : Type 0
  HeldAgain = (b : Again) × AgainStands b

  abbrev HeldBlock : Type 0
  HeldBlock = (b : Block) × BlockStands b

  abbrev HeldRound : Type 0
  HeldRound = (b : Round) × RoundStands b

  abbrev HeldSwitch : Type 0
  HeldSwitch = (b : Switch) × SwitchStands b

  at_statement : (y : Statement-F HeldStatement HeldAgain HeldBlock HeldRound HeldSwitch)
      → StatementAt (map-Statement HeldStatement HeldAgain HeldBlock HeldRound HeldSwitch Statement Again Block Round Switch (λ e. e.0) (λ e. e.0) (λ e. e.0)
      (λ e. e.0) (λ e. e.0) y)
  at_statement (form.Value n) = λ e. tt
  at_statement form.Empty = λ e. tt
  at_statement (form.Declare d) = λ e. tt
  at_statement (form.Block b) = b.1
  at_statement (form.If n s t) = λ e.
      both_stand (switches_in s.0) (switches_in t.0) (s.1 (equal_left (bodies m s.0) (bodies m t.0) e)) (t.1 (equal_right (bodies m s.0) (bodies m t.0) e))
  at_statement (form.IfOnly n s) = s.1
  at_statement (form.Switch b) = b.1
  at_statement (form.Do b) = b.1
  at_statement (form.For start b) = b.1
  at_statement (form.Goto k) = λ e. tt
  at_statement form.Continue = λ e. tt
  at_statement form.Break = λ e. tt
  at_statement (form.Return n) = λ e. tt
  at_statement form.ReturnNone = λ e. tt
  at_statement (form.Label k s) = s.1
  at_statement (form.Case z s) = s.1
  at_statement (form.Default s) = s.1

  again_body : (b : Again) → again_pairs m b ≡ bodies m b.body
  again_body b = ap (again_pairs m) (sym (roll-out-Again b))
      ∙ para-roll-Again Bodies Bodies Bodies Bodies Bodies (statement_bodies m) (again_bodies m) (block_bodies m) (round_bodies m) (switch_bodies m)
      (out-Again b)

  round_body : (b : Round) → round_pairs m b ≡ bodies m b.body
  round_body b = ap (round_pairs m) (sym (roll-out-Round b))
      ∙ para-roll-Round Bodies Bodies Bodies Bodies Bodies (statement_bodies m) (again_bodies m) (block_bodies m) (round_bodies m) (switch_bodies m)
      (out-Round b)

  switch_body : (b : Switch) → switch_pairs m b ≡ (m.body b.number, stmt_of m b.body) ∷ bodies m b.body
  switch_body b = ap (switch_pairs m) (sym (roll-out-Switch b))
      ∙ para-roll-Switch Bodies Bodies Bodies Bodies Bodies (statement_bodies m) (again_bodies m) (block_bodies m) (round_bodies m) (switch_bodies m)
      (out-Switch b)

  at_again : (b : Again) → StatementStands b.body → AgainStands b
  at_again b h = λ e. subst AllStand (sym (again_is b)) (h (subst AllEqual (again_body b) e))

  at_round : (b : Round) → StatementStands b.body → RoundStands b
  at_round b h = λ e. subst AllStand (sym (round_is b)) (h (subst AllEqual (round_body b) e))

  at_switch : (b : Switch) → StatementStands b.body → SwitchStands b
  at_switch b h = λ e.
      let pair : AllEqual ((m.body b.number, stmt_of m b.body) ∷ bodies m b.body) = subst AllEqual (switch_body b) e in
      (pair, subst AllStand (sym (switch_is b)) (h pair.1))

  statements_stand : (ss : List HeldStatement) → AllEqual (all_bodies m (map (λ s. s.0) ss)) → AllStand (switches_in_all (map (λ s. s.0) ss))
  statements_stand [] e = tt
  statements_stand (s ∷ ss) e =
      let rest = all_bodies m (map (λ (x : HeldStatement). x.0) ss) in
      both_stand (switches_in s.0) (switches_in_all (map (λ x. x.0) ss)) (s.1 (equal_left (bodies m s.0) rest e))
      (statements_stand ss (equal_right (bodies m s.0) rest e))

  at_block : (b : Block) (ss : List HeldStatement) → b.statements ≡ map (λ s. s.0) ss → BlockStands b
  at_block b ss is = λ e.
      subst AllStand (sym (block_is b ∙ ap switches_in_all is))
      (statements_stand ss (subst AllEqual (bodies-all m b ∙ ap (all_bodies m) is) e))

  pub stand_in : (s : Statement) → StatementStands s
  stand_in = ind-Statement StatementStands AgainStands BlockStands RoundStands SwitchStands
      (λ x y is. rolled_statement x (subst StatementAt is (at_statement y)))
      (λ x y is. at_again (roll-Again x) (subst (λ (z : Again-F Statement Again Block Round Switch). StatementStands z.body) is y.body.1))
      (λ x y is. at_block (roll-Block x) y.statements (sym (ap (λ (z : Block-F Statement Again Block Round Switch). z.statements) is)))
      (λ x y is. at_round (roll-Round x) (subst (λ (z : Round-F Statement Again Block Round Switch). StatementStands z.body) is y.body.1))
      (λ x y is. at_switch (roll-Switch x) (subst (λ (z : Switch-F Statement Again Block Round Switch). StatementStands z.body) is y.body.1))
