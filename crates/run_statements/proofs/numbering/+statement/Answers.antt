use Rattle.std.proofs.Common.{◌+◌, ◌∷◌, drop, map, Some, refl, sym, ap, subst, ◌∙◌}
use Rattle.std.proofs.lemmas.List.{drop_more}
use Rattle.c_typed.specs.declared.statement.Body.TheVariants as body
use Rattle.run_control.specs.declared.statement.Again.{roll-Again}
use Rattle.elaborate.specs.Expressions.{entry_trees, block_trees}
use Rattle.run_statements.proofs.Forms.{grows_two, stands_before, at_if_only, at_if, at_goto, at_continue, at_break, at_label, at_case, at_default}
use Rattle.run_statements.proofs.Loops.{AreSoFar, at_block, at_switch, at_while, at_do, at_for, at_for_value, at_for_declared, so_far_none, so_far_more}
use Rattle.run_statements.proofs.Loops.{entry_initializer, entry_declare}
use Rattle.run_statements.proofs.Ordered.{grown_next, start_entries}
use Rattle.run_statements.proofs.numbering.+statement.Goals as goal

pub entry-returns-in_ok-full-in-Initializer-clause-statement : goal.entry-returns-in_ok-full-in-Initializer-clause-statement
entry-returns-in_ok-full-in-Initializer-clause-statement t c =
    entry_initializer c.full.new.numbers c.args.entry.now c.in-Initializer.root c.in_ok-full-in-Initializer.field-0 c.in-Initializer.is
    c.in_ok-full-in-Initializer.ensures.number

pub entry-returns-in-Declare-clause-statement : goal.entry-returns-in-Declare-clause-statement
entry-returns-in-Declare-clause-statement t c = entry_declare c.args.numbers.now c.args.entry.now c.in-Declare.object c.in-Declare.is

pub entries-loop-item-init : goal.entries-loop-item-init
entries-loop-item-init t c =
    let items = c.as_slice-item-items.result.now in (
      (λ n x at. at, λ n x at. at),
      subst (λ ss. AreSoFar c.args.numbers.now c.args.block.now ss items) (sym c.new-statements.ensures)
          (so_far_none c.args.numbers.now c.args.block.now items c.as_slice-item-items.ensures),
      start_entries (map (λ t. t.now) c.args.numbers.now.roots.items) c.args.block.now items c.as_slice-item-items.ensures,
    )

pub entries-loop-item-preserved : goal.entries-loop-item-preserved
entries-loop-item-preserved t c =
    let items = c.as_slice-item-items.result.now in
    let rest = drop (c.loop-item.item-index + 1) items in
    let next = drop_more items c.loop-item.item-index c.item-item.result c.loop-item-test.true ∙ ap (λ y. y ∷ rest) (sym c.item-item.is) in (
      grows_two c.args.numbers.now c.loop-item.numbers c.entry.new.numbers c.loop-item.invariant.0 c.in_ok-entry.ensures.grows,
      subst (λ ss. AreSoFar c.entry.new.numbers c.args.block.now ss rest) (sym c.in_ok-push.ensures.ok)
          (so_far_more c.loop-item.numbers c.entry.new.numbers c.args.block.now c.loop-item.statements c.in_ok-entry.field-0 c.item-item.result rest
          c.in_ok-entry.ensures.grows c.in_ok-entry.ensures.statement
          (subst (AreSoFar c.loop-item.numbers c.args.block.now c.loop-item.statements) next c.loop-item.invariant.1)),
      grown_next entry_trees c.args.numbers.now c.loop-item.numbers c.entry.new.numbers c.item-item.result rest (block_trees c.args.block.now)
          (drop c.loop-item.item-index items) next c.loop-item.invariant.2 c.in_ok-entry.ensures.order,
    )

pub round-returns-clause-round : goal.round-returns-clause-round
round-returns-clause-round t c = λ m e st.
    let before = stands_before c.optional-2.new.numbers c.boxed.new.numbers m e c.in_ok-boxed.ensures.grows st in (
      c.in_ok-test.ensures.number m e (stands_before c.optional.new.numbers c.optional-2.new.numbers m e c.in_ok-step.ensures.grows before),
      c.in_ok-step.ensures.number m e before,
      (c.in_ok-boxed.ensures.statement m e st).0,
      (c.in_ok-boxed.ensures.statement m e st).1,
    )

pub selection-returns-clause-selection : goal.selection-returns-clause-selection
selection-returns-clause-selection t c = (
  refl,
  λ m e st. (
    c.in_ok-number.ensures.number m e (stands_before c.switch_number.new.numbers c.boxed.new.numbers m e c.in_ok-boxed.ensures.grows st),
    (c.in_ok-boxed.ensures.statement m e st).0,
    (c.in_ok-boxed.ensures.statement m e st).1,
  ),
)

pub tested-returns-clause-round : goal.tested-returns-clause-round
tested-returns-clause-round t c = λ m e st. (
  ap Some (c.in_ok-test.ensures.number m e (stands_before c.full.new.numbers c.boxed.new.numbers m e c.in_ok-boxed.ensures.grows st)),
  refl,
  (c.in_ok-boxed.ensures.statement m e st).0,
  (c.in_ok-boxed.ensures.statement m e st).1,
)

pub statement-returns-in_ok-block-in-Block-clause-statement : goal.statement-returns-in_ok-block-in-Block-clause-statement
statement-returns-in_ok-block-in-Block-clause-statement t c =
    at_block c.block.new.numbers c.args.body.now c.in-Block.inner c.in_ok-block-in-Block.field-0 c.in-Block.is c.in_ok-block-in-Block.ensures.block

pub statement-returns-in-None-clause-statement : goal.statement-returns-in-None-clause-statement
statement-returns-in-None-clause-statement t c =
    at_if_only c.full.new.numbers c.boxed.new.numbers c.args.body.now c.in-If.test c.get.result.now c.in-If.no c.in_ok-test-in-If.test c.in_ok-yes-in-If.yes
    (c.in-If.is ∙ ap (λ y. body.If c.in-If.test y c.in-If.no) (sym c.get.ensures)) c.in-None.is c.in_ok-yes-in-If.ensures.grows
    c.in_ok-test-in-If.ensures.number
    c.in_ok-yes-in-If.ensures.statement

pub statement-returns-in_ok-boxed-in-Some-clause-statement : goal.statement-returns-in_ok-boxed-in-Some-clause-statement
statement-returns-in_ok-boxed-in-Some-clause-statement t c =
    at_if c.full.new.numbers c.boxed.new.numbers c.boxed-in-Some.new.numbers c.args.body.now c.in-If.test c.get.result.now c.get-in-Some.result.now
    c.in-If.no c.in_ok-test-in-If.test c.in_ok-yes-in-If.yes c.in_ok-boxed-in-Some.field-0
    (c.in-If.is ∙ ap (λ y. body.If c.in-If.test y c.in-If.no) (sym c.get.ensures)) (c.in-Some.is ∙ ap Some (sym c.get-in-Some.ensures))
    c.in_ok-yes-in-If.ensures.grows c.in_ok-boxed-in-Some.ensures.grows c.in_ok-test-in-If.ensures.number c.in_ok-yes-in-If.ensures.statement
    c.in_ok-boxed-in-Some.ensures.statement

pub statement-returns-in_ok-selection-in-Switch-clause-statement : goal.statement-returns-in_ok-selection-in-Switch-clause-statement
statement-returns-in_ok-selection-in-Switch-clause-statement t c =
    at_switch c.full-in-Switch.new.numbers c.selection.new.numbers c.args.body.now c.in-Switch.test c.get-in-Switch.result.now
    c.in_ok-test-in-Switch.test c.in_ok-selection-in-Switch.field-0 (c.in-Switch.is ∙ ap (body.Switch c.in-Switch.test) (sym c.get-in-Switch.ensures))
    c.in_ok-selection-in-Switch.ensures.grows c.in_ok-test-in-Switch.ensures.number c.in_ok-selection-in-Switch.ensures.selection

pub statement-returns-in_ok-tested-in-While-clause-statement : goal.statement-returns-in_ok-tested-in-While-clause-statement
statement-returns-in_ok-tested-in-While-clause-statement t c =
    at_while c.tested.new.numbers c.args.body.now c.in-While.test c.get-in-While.result.now c.in_ok-tested-in-While.field-0
    (c.in-While.is ∙ ap (body.While c.in-While.test) (sym c.get-in-While.ensures)) c.in_ok-tested-in-While.ensures.round

pub statement-returns-in_ok-test-in-Do-clause-statement : goal.statement-returns-in_ok-test-in-Do-clause-statement
statement-returns-in_ok-test-in-Do-clause-statement t c =
    at_do c.boxed-in-Do.new.numbers c.full-in-Do.new.numbers c.args.body.now c.get-in-Do.result.now c.in-Do.test
    (roll-Again record {
      test = c.in_ok-test-in-Do.test;
      body = c.in_ok-body-in-Do.body;
    })
    (c.in-Do.is ∙ ap (λ y. body.Do y c.in-Do.test) (sym c.get-in-Do.ensures)) c.in_ok-test-in-Do.ensures.grows c.in_ok-body-in-Do.ensures.statement
    c.in_ok-test-in-Do.ensures.number

pub statement-returns-in_ok-round-in-Empty-clause-statement : goal.statement-returns-in_ok-round-in-Empty-clause-statement
statement-returns-in_ok-round-in-Empty-clause-statement t c =
    at_for c.round.new.numbers c.args.body.now c.in-For.start c.in-For.test c.in-For.step c.get-in-Empty.result.now c.in_ok-round-in-Empty.round
    (c.in-For.is ∙ ap (body.For c.in-For.start c.in-For.test c.in-For.step) (sym c.get-in-Empty.ensures)) c.in-Empty.is
    c.in_ok-round-in-Empty.ensures.round

pub statement-returns-in_ok-round-in-Value-clause-statement : goal.statement-returns-in_ok-round-in-Value-clause-statement
statement-returns-in_ok-round-in-Value-clause-statement t c =
    at_for_value c.full-in-Value.new.numbers c.round-in-Value.new.numbers c.args.body.now c.in-For.start c.in-Value.root c.in-For.test c.in-For.step
    c.get-in-Value.result.now c.in_ok-first-in-Value.first c.in_ok-round-in-Value.round
    (c.in-For.is ∙ ap (body.For c.in-For.start c.in-For.test c.in-For.step) (sym c.get-in-Value.ensures)) c.in-Value.is
    c.in_ok-round-in-Value.ensures.grows c.in_ok-first-in-Value.ensures.number c.in_ok-round-in-Value.ensures.round

pub statement-returns-in_ok-declaring-in-Declared-clause-statement : goal.statement-returns-in_ok-declaring-in-Declared-clause-statement
statement-returns-in_ok-declaring-in-Declared-clause-statement t c =
    at_for_declared c.entries.new.numbers c.round-in-Declared.new.numbers c.args.body.now c.in-For.start c.in-Declared.block c.in-For.test c.in-For.step
    c.get-in-Declared.result.now c.in_ok-statements-in-Declared.statements c.in_ok-round-in-Declared.round c.in_ok-declaring-in-Declared.field-0
    (c.in-For.is ∙ ap (body.For c.in-For.start c.in-For.test c.in-For.step) (sym c.get-in-Declared.ensures)) c.in-Declared.is
    c.in_ok-declaring-in-Declared.ensures.number c.in_ok-declaring-in-Declared.ensures.statements c.in_ok-round-in-Declared.ensures.grows
    c.in_ok-statements-in-Declared.ensures.statements c.in_ok-round-in-Declared.ensures.round

pub statement-returns-in-Goto-clause-statement : goal.statement-returns-in-Goto-clause-statement
statement-returns-in-Goto-clause-statement t c = at_goto c.args.numbers.now c.args.body.now _ c.in-Goto.is

pub statement-returns-in-Continue-clause-statement : goal.statement-returns-in-Continue-clause-statement
statement-returns-in-Continue-clause-statement t c = at_continue c.args.numbers.now c.args.body.now c.in-Continue.is

pub statement-returns-in-Break-clause-statement : goal.statement-returns-in-Break-clause-statement
statement-returns-in-Break-clause-statement t c = at_break c.args.numbers.now c.args.body.now c.in-Break.is

pub statement-returns-in_ok-boxed-in-Label-clause-statement : goal.statement-returns-in_ok-boxed-in-Label-clause-statement
statement-returns-in_ok-boxed-in-Label-clause-statement t c =
    at_label c.boxed-in-Label.new.numbers c.args.body.now c.in-Label.label c.get-in-Label.result.now c.in_ok-boxed-in-Label.field-0
    (c.in-Label.is ∙ ap (body.Label c.in-Label.label) (sym c.get-in-Label.ensures)) c.in_ok-boxed-in-Label.ensures.statement

pub statement-returns-in_ok-boxed-in-Case-clause-statement : goal.statement-returns-in_ok-boxed-in-Case-clause-statement
statement-returns-in_ok-boxed-in-Case-clause-statement t c =
    at_case c.boxed-in-Case.new.numbers c.args.body.now c.in-Case.value c.get-in-Case.result.now c.in_ok-boxed-in-Case.field-0 c.case.result
    (c.in-Case.is ∙ ap (body.Case c.in-Case.value) (sym c.get-in-Case.ensures)) c.case.ensures c.in_ok-boxed-in-Case.ensures.statement

pub statement-returns-in_ok-boxed-in-Default-clause-statement : goal.statement-returns-in_ok-boxed-in-Default-clause-statement
statement-returns-in_ok-boxed-in-Default-clause-statement t c =
    at_default c.boxed-in-Default.new.numbers c.args.body.now c.get-in-Default.result.now c.in_ok-boxed-in-Default.field-0
    (c.in-Default.is ∙ ap body.Default (sym c.get-in-Default.ensures)) c.in_ok-boxed-in-Default.ensures.statement
