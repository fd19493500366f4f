use Rattle.std.proofs.Common.{arith, ◌≡◌, refl, sym, ap, ap₂, ◌+◌, ◌++◌, ◌∙◌, drop}
use Rattle.run_code.proofs.Blocked.{adds_none, adds_both, adds_head, adds_same, next_entry, no_entry, of_for, of_if, row_of, rows_in, whole_block}
use Rattle.run_layout.specs.Blocks.{entry_rows, rows_of, start_rows}
use Rattle.run_code.proofs.Entries.{on_ok}
use Rattle.run_code.proofs.draft.Draft.+survey.Goals as goal

pub survey_block-loop-entry-init : goal.survey_block-loop-entry-init
survey_block-loop-entry-init t c = (c.in_ok-add_block.ensures.kept, c.in_ok-add_block.ensures.fit, λ new d rest. rest)

pub survey_block-loop-entry-preserved : goal.survey_block-loop-entry-preserved
survey_block-loop-entry-preserved t c =
    let tags = c.args.tags.now in
    let items = c.as_slice-entry-items.result.now in
    let i = c.loop-entry.entry-index in
    let x = c.entry-item.result in
    let old = c.loop-entry.self in
    let now = c.survey_entry.new.self in (
      c.in_ok-survey_entry.ensures.kept ∙ c.loop-entry.invariant.0,
      λ p h. c.in_ok-survey_entry.ensures.fit p (c.loop-entry.invariant.1 p h),
      λ new d rest. c.loop-entry.invariant.2 new d
          (adds_same tags 0 _ _ old.expressions.tables new old.function d (next_entry items i x c.loop-entry-test.true c.entry-item.is)
          (adds_both tags (entry_rows x) (rows_in (drop (i + 1) items)) old.expressions.tables now.expressions.tables new old.function now.function d
          c.in_ok-survey_entry.ensures.blocks rest)),
    )

pub survey_block-returns-clause-blocks : goal.survey_block-returns-clause-blocks
survey_block-returns-clause-blocks t c =
    let tags = c.args.tags.now in
    let old = c.args.self.now in
    let first = c.add_block.new.self in
    let now = c.loop-entry.self in
    let b = c.args.block.now in
    let items = c.as_slice-entry-items.result.now in
    let head = c.in_ok-add_block.ensures.block (row_of b) refl in
    let rest = c.loop-entry.invariant.2 now.expressions.tables now.function
    (adds_same tags 0 _ _ now.expressions.tables now.expressions.tables now.function now.function
    (no_entry items c.loop-entry.entry-index (omega (arith, c.loop-entry-test.false))) (adds_none tags now.expressions.tables now.function)) in
    adds_same tags c.args.arguments _ _ old.expressions.tables now.expressions.tables old.function now.function
    (whole_block b items c.as_slice-entry-items.ensures)
    (adds_head tags c.args.arguments (row_of b) (rows_in items) old.expressions.tables first.expressions.tables now.expressions.tables old.function
    first.function now.function head rest)

pub survey-returns-in-Some-clause-fit : goal.survey-returns-in-Some-clause-fit
survey-returns-in-Some-clause-fit t c = λ p h. c.survey-in-Some.ensures.fit p (c.in_ok-survey-in-If.ensures.fit p h)

pub survey-returns-in-Some-clause-blocks : goal.survey-returns-in-Some-clause-blocks
survey-returns-in-Some-clause-blocks t c =
    let old = c.args.self.now in
    let mid = c.survey.new.self in
    let new = c.survey-in-Some.new.self in
    let rows : rows_of c.args.body.now ≡ rows_of c.get.result.now ++ rows_of c.get-in-Some.result.now =
    of_if c.args.body.now c.in-If.field-0 c.in-If.yes c.in-Some.no c.in-If.no c.in-If.is c.in-Some.is
    ∙ ap₂ (λ y z. rows_of y ++ rows_of z) (sym c.get.ensures) (sym c.get-in-Some.ensures) in
    on_ok c.survey-in-Some.result _ _
    (λ h. adds_same c.args.tags.now 0 (rows_of c.get.result.now ++ rows_of c.get-in-Some.result.now) (rows_of c.args.body.now) old.expressions.tables
    new.expressions.tables old.function new.function rows
    (adds_both c.args.tags.now (rows_of c.get.result.now) (rows_of c.get-in-Some.result.now) old.expressions.tables mid.expressions.tables
    new.expressions.tables old.function mid.function new.function c.in_ok-survey-in-If.ensures.blocks h))
    c.survey-in-Some.ensures.blocks

pub survey-returns-in_ok-survey_start-in-For-clause-fit : goal.survey-returns-in_ok-survey_start-in-For-clause-fit
survey-returns-in_ok-survey_start-in-For-clause-fit t c = λ p h. c.survey-in-For.ensures.fit p (c.in_ok-survey_start-in-For.ensures.fit p h)

pub survey-returns-in_ok-survey_start-in-For-clause-blocks : goal.survey-returns-in_ok-survey_start-in-For-clause-blocks
survey-returns-in_ok-survey_start-in-For-clause-blocks t c =
    let old = c.args.self.now in
    let mid = c.survey_start.new.self in
    let new = c.survey-in-For.new.self in
    let rows : rows_of c.args.body.now ≡ start_rows c.in-For.start ++ rows_of c.get-in-For.result.now =
    of_for c.args.body.now c.in-For.start c.in-For.test c.in-For.step c.in-For.body c.in-For.is
    ∙ ap (λ z. start_rows c.in-For.start ++ rows_of z) (sym c.get-in-For.ensures) in
    on_ok c.survey-in-For.result _ _
    (λ h. adds_same c.args.tags.now 0 (start_rows c.in-For.start ++ rows_of c.get-in-For.result.now) (rows_of c.args.body.now) old.expressions.tables
    new.expressions.tables old.function new.function rows
    (adds_both c.args.tags.now (start_rows c.in-For.start) (rows_of c.get-in-For.result.now) old.expressions.tables mid.expressions.tables
    new.expressions.tables old.function mid.function new.function c.in_ok-survey_start-in-For.ensures.blocks h))
    c.survey-in-For.ensures.blocks
