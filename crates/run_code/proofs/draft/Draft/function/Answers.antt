use Rattle.std.proofs.Common.{rules, ◌≡◌, map, length, refl, sym, ap, subst, ◌∙◌}
use Rattle.std.specs.Borrow.{Bor}
use Rattle.std.specs.List.{All}
use Rattle.std.proofs.lemmas.List.{length-map}
use Rattle.c_typed.specs.declared.statement.Body.TheVariants as body
use Rattle.c_typed.specs.declared.tree.Typed.{Typed}
use Rattle.elaborate.specs.Expressions.{block_trees}
use Rattle.run_statements.proofs.Loops.{at_block}
use Rattle.c_types.specs.declared.ty.FuncTy.{out-FuncTy}
use Rattle.run_layout.specs.declared.expressions.Laid.{Laid}
use Rattle.run_layout.specs.Blocks.{rows_of_block, AddsBlocks}
use Rattle.run_layout.specs.Functions.{IsMore}
use Rattle.run_layout.specs.Fitting.{TreeFits}
use Rattle.run_code.proofs.FittingLemmas.{dropped}
use Rattle.run_code.proofs.Blocked.{function_blocks, function_firsts}
use Rattle.run_layout.proofs.InTurn.{function_laid}
use Rattle.run_layout.proofs.Grown.{grown_both}
use Rattle.run_code.proofs.draft.Draft.function.Goals as goal

pub returns-clause-body : goal.returns-clause-body
returns-clause-body c =
    at_block c.block.new.numbers (body.Block c.args.body.now) c.args.body.now c.in_ok-block.field-0 refl c.in_ok-block.ensures.block

pub returns-clause-fit : goal.returns-clause-fit
returns-clause-fit c = λ p trees h.
    let old = map (λ (r : Bor Typed). r.now) c.args.numbers.now.roots.items in
    let first : c.len-first.result ≡ length c.args.numbers.now.roots.items = search rules in
    let left = dropped old (block_trees c.args.body.now) (map (λ (r : Bor Typed). r.now) c.deref.result.now) c.len-first.result
    (ap (map (λ (r : Bor Typed). r.now)) c.deref.ensures.value ∙ c.in_ok-block.ensures.order)
    (first ∙ sym (length-map c.args.numbers.now.roots.items (λ (r : Bor Typed). r.now))) in
    c.in_ok-expressions.ensures.fit p (subst (All (TreeFits p)) (sym left) trees) (c.in_ok-survey_block.ensures.fit p h)

pub returns-clause-grown : goal.returns-clause-grown
returns-clause-grown c = grown_both _ _ _ c.in_ok-survey_block.ensures.blocks.grown c.in_ok-expressions.ensures.grown

pub returns-clause-blocks : goal.returns-clause-blocks
returns-clause-blocks c =
    let count : c.in_ok-arguments.arguments ≡ length (out-FuncTy c.args.function.now.ty).params = search rules in
    function_blocks c.args.tags.now (length (out-FuncTy c.args.function.now.ty).params) c.args.body.now c.args.self.now.expressions.tables
    c.survey_block.new.self.expressions.tables c.expressions.new.self.expressions.tables c.start_function.result c.survey_block.new.self.function _
    c.start_function.ensures.count c.in_ok-blocks.ensures refl c.in_ok-expressions.ensures.grown
    (subst (λ n. AddsBlocks c.args.tags.now n (rows_of_block c.args.body.now) c.args.self.now.expressions.tables c.start_function.result
    c.survey_block.new.self.expressions.tables c.survey_block.new.self.function) count c.in_ok-survey_block.ensures.blocks)

pub returns-clause-more : goal.returns-clause-more
returns-clause-more c =
    subst (λ (l : Laid). IsMore l c.expressions.new.self.expressions.laid) c.in_ok-survey_block.ensures.kept c.in_ok-expressions.ensures.added.more

pub returns-clause-expressions : goal.returns-clause-expressions
returns-clause-expressions c =
    let old = map (λ (r : Bor Typed). r.now) c.args.numbers.now.roots.items in
    let first : c.len-first.result ≡ length c.args.numbers.now.roots.items = search rules in
    let left = dropped old (block_trees c.args.body.now) (map (λ (r : Bor Typed). r.now) c.deref.result.now) c.len-first.result
    (ap (map (λ (r : Bor Typed). r.now)) c.deref.ensures.value ∙ c.in_ok-block.ensures.order)
    (first ∙ sym (length-map c.args.numbers.now.roots.items (λ (r : Bor Typed). r.now))) in
    function_laid c.args.body.now c.survey_block.new.self.function.objects.first.items _ c.expressions.new.self.expressions.tables
    c.survey_block.new.self.expressions.laid c.expressions.new.self.expressions.laid c.in_ok-expressions.expressions
    (function_firsts c.args.tags.now c.in_ok-arguments.arguments (rows_of_block c.args.body.now) c.args.self.now.expressions.tables
    c.survey_block.new.self.expressions.tables c.start_function.result c.survey_block.new.self.function c.start_function.ensures.count
    c.start_function.ensures.objects c.in_ok-survey_block.ensures.blocks) left c.in_ok-expressions.ensures.range.0 c.in_ok-expressions.ensures.range.1
    c.in_ok-expressions.ensures.added
