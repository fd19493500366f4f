use Rattle.std.proofs.Common.{arith, ◌≡◌, ◌+◌, List, [], ◌∷◌, ◌++◌, length, map, flat_map, take, drop, Some, slice_get, sym, ap, subst, ◌∙◌, length-append}
use Rattle.std.specs.List.{All}
use Rattle.std.proofs.lemmas.List.{drop_more, take_more}
use Rattle.std.proofs.lemmas.Option.{slice_get-get_or}
use Rattle.c_types.specs.declared.ty.FuncTy.{out-FuncTy}
use Rattle.c_typed.specs.declared.program.Function.{Function}
use Rattle.c_typed.specs.declared.statement.Block.{Block}
use Rattle.c_typed.specs.declared.statement.Body.TheVariants as body
use Rattle.c_typed.specs.Tree.{tree_of}
use Rattle.run_statements.specs.Bodies.{Grows, IsStatement}
use Rattle.run_code.specs.declared.draft.Draft.{Draft}
use Rattle.run_layout.specs.declared.steps.FunctionCode.{FunctionCode}
use Rattle.run_layout.specs.declared.tables.Tables.{Tables}
use Rattle.run_layout.specs.OfTrees.{OfTerms, AreOfTerms}
use Rattle.run_layout.specs.Roots.{roots_in, code_trees, block_in, trees_in}
use Rattle.run_code.specs.Statements.{AreCodeOf}
use Rattle.run_layout.specs.Fitting.{TreeFits, AreFit}
use Rattle.run_layout.specs.Blocks.{rows_of_block}
use Rattle.run_layout.specs.EventActs.{AreGrown}
use Rattle.run_layout.specs.Functions.{HasBlocks, HaveBlocks, HasExpressions, HaveExpressions, IsMore, laid_in}
use Rattle.run_code.proofs.Blocked.{has_later}
use Rattle.run_layout.proofs.InTurn.{each_absent, each_given, each_later, each_none, each_pushed, expressions_later, no_more}
use Rattle.run_layout.proofs.Grown.{nothing_grown}
use Rattle.run_code.proofs.FittingLemmas.{part_fits}
use Rattle.run_code.proofs.Coded.{all_coded, have_code}
use Rattle.run_code.proofs.Rooted.{block_of, no_block, laid_block, laid_none, no_trees, all_same}
use Rattle.run_layout.proofs.Termed.{none_termed, lists_trees}
use Rattle.run_code.proofs.statements.code_of.Goals as goal
use Rattle.run_code.proofs.statements.code_of.Goals.{in-Some+in-Block+in_ok-function-in-Block, in-Some+in_default, in-None}

pub loop-function-init : goal.loop-function-init
loop-function-init c = (
  (
    ap (λ z. roots_in z ++ flat_map code_trees c.as_slice-function-items.result.now) c.new.ensures.none
        ∙ ap (flat_map code_trees) c.as_slice-function-items.ensures,
    ap (map (λ t. t.now)) c.new-numbers.ensures.roots ∙ sym (ap roots_in c.new.ensures.none),
    subst (AreCodeOf c.new-numbers.result []) (sym c.new-functions.ensures.items) tt,
  ),
  none_termed c.args.terms.now c.new.result.laid.entries.items c.new.result.laid.all.items c.new.ensures.none,
  λ p h. c.new.ensures.fit p,
  ap length c.new-functions.ensures.items,
  each_none _ c.args.program.now.functions c.new-functions.result.items c.new-functions.ensures.items,
  each_none _ c.args.program.now.functions c.new-functions.result.items c.new-functions.ensures.items,
)

pub loop-function-preserved : goal.loop-function-preserved
loop-function-preserved c =
    let items = c.as_slice-function-items.result.now in
    let i = c.loop-function.function-index in
    let f = c.function-item.result in
    let rest = drop (i + 1) items in
    let left = drop_more items i f c.loop-function-test.true ∙ ap (λ y. y ∷ rest) (sym c.function-item.is) in
    let after = take_more items i f c.loop-function-test.true ∙ ap (λ y. take i items ++ y ∷ []) (sym c.function-item.is) in
    let tags = c.args.program.now.tags in
    let fs = c.args.program.now.functions in
    let here : slice_get fs i ≡ Some f =
    ap (λ (xs : List Function). slice_get xs i) (sym c.as_slice-function-items.ensures)
    ∙ (slice_get-get_or items i f c.loop-function-test.true ∙ ap Some (sym c.function-item.is)) in (
      elim c.match-function.branch [
        | in-Some+in-Block+in_ok-function-in-Block w ↦
            let x = w.in-Block.block in
            let code = w.in_ok-function-in-Block.field-0 in
            let told = w.in_ok-function-in-Block.ensures in
            laid_block c.loop-function.numbers c.match-function.numbers c.loop-function.draft.expressions.laid.all.items
            c.match-function.draft.expressions.laid.all.items f x
            code c.match-function.code rest (drop i items) (take i items) (take (i + 1) items) c.loop-function.functions.items c.push.new.self.items
            (flat_map code_trees c.args.program.now.functions) left after c.in_ok-push.ensures.items w.code-is
            (block_of f w.in-Some.body x w.in-Some.is w.in-Block.is)
            (ap (λ d. roots_in d.expressions.laid.all.items) w.draft-is ∙ told.order)
            (ap (λ n. map (λ t. t.now) n.roots.items) w.numbers-is ∙ told.numbers)
            (subst (Grows c.loop-function.numbers) (sym w.numbers-is) told.grows)
            (subst (λ n. IsStatement n (body.Block x) code.body) (sym w.numbers-is) told.body)
            c.loop-function.invariant.0
        | in-Some+in_default w ↦
            laid_none c.loop-function.numbers c.match-function.numbers c.loop-function.draft.expressions.laid.all.items
            c.match-function.draft.expressions.laid.all.items f
            c.match-function.code rest (drop i items) (take i items) (take (i + 1) items) c.loop-function.functions.items c.push.new.self.items
            (flat_map code_trees c.args.program.now.functions) left after c.in_ok-push.ensures.items w.code-is
            (no_block f.body w.in-Some.body w.in-Some.is w.in_default.not-Block)
            (ap (λ d. d.expressions.laid.all.items) w.draft-is) w.numbers-is c.loop-function.invariant.0
        | in-None w ↦
            laid_none c.loop-function.numbers c.match-function.numbers c.loop-function.draft.expressions.laid.all.items
            c.match-function.draft.expressions.laid.all.items f
            c.match-function.code rest (drop i items) (take i items) (take (i + 1) items) c.loop-function.functions.items c.push.new.self.items
            (flat_map code_trees c.args.program.now.functions) left after c.in_ok-push.ensures.items w.code-is
            (ap block_in w.in-None.is)
            (ap (λ d. d.expressions.laid.all.items) w.draft-is) w.numbers-is c.loop-function.invariant.0
      ],
      elim c.match-function.branch [
        | in-Some+in-Block+in_ok-function-in-Block w ↦
            subst (λ (d : Draft). AreOfTerms c.args.terms.now d.expressions.laid) (sym w.draft-is)
            (w.in_ok-function-in-Block.ensures.listed c.loop-function.invariant.1)
        | in-Some+in_default w ↦ subst (λ (d : Draft). AreOfTerms c.args.terms.now d.expressions.laid) (sym w.draft-is) c.loop-function.invariant.1
        | in-None w ↦ subst (λ (d : Draft). AreOfTerms c.args.terms.now d.expressions.laid) (sym w.draft-is) c.loop-function.invariant.1
      ],
      elim c.match-function.branch [
        | in-Some+in-Block+in_ok-function-in-Block w ↦ λ p h.
            let part = subst (All (TreeFits p)) (ap trees_in (block_of f w.in-Some.body w.in-Block.block w.in-Some.is w.in-Block.is))
            (part_fits (TreeFits p) code_trees i items rest f left
            (subst (λ fs. All (TreeFits p) (flat_map code_trees fs)) (sym c.as_slice-function-items.ensures) h)) in
            subst (λ d. AreFit p d.expressions.tables) (sym w.draft-is) (w.in_ok-function-in-Block.ensures.fit p part (c.loop-function.invariant.2 p h))
        | in-Some+in_default w ↦ λ p h. subst (λ d. AreFit p d.expressions.tables) (sym w.draft-is) (c.loop-function.invariant.2 p h)
        | in-None w ↦ λ p h. subst (λ d. AreFit p d.expressions.tables) (sym w.draft-is) (c.loop-function.invariant.2 p h)
      ],
      omega (
        arith,
        ap length c.in_ok-push.ensures.items ∙ length-append c.loop-function.functions.items (c.match-function.code ∷ []),
        c.loop-function.invariant.3,
      ),
      elim c.match-function.branch [
        | in-Some+in-Block+in_ok-function-in-Block w ↦
            let told = w.in_ok-function-in-Block.ensures in
            let old = c.loop-function.draft.expressions in
            let now = c.match-function.draft.expressions in
            let grown : AreGrown old.tables now.tables =
            subst (λ (d : Draft). AreGrown old.tables d.expressions.tables) (sym w.draft-is) told.grown in
            let Holds : Function → Block → FunctionCode → Type 0 = λ g b k. HasBlocks tags (length (out-FuncTy g.ty).params) (rows_of_block b) now.tables k in
            each_pushed Holds fs c.loop-function.functions.items c.push.new.self.items c.match-function.code i f c.in_ok-push.ensures.items
            c.loop-function.invariant.3 here
            (each_later (λ g b k. HasBlocks tags (length (out-FuncTy g.ty).params) (rows_of_block b) old.tables k) Holds fs c.loop-function.functions.items
            (λ g b k. has_later tags old.tables now.tables (length (out-FuncTy g.ty).params) (rows_of_block b) k grown) c.loop-function.invariant.4)
            (each_given Holds f c.match-function.code w.in-Block.block w.in_ok-function-in-Block.field-0
            (block_of f w.in-Some.body w.in-Block.block w.in-Some.is w.in-Block.is) w.code-is
            (subst (λ (d : Draft). HasBlocks tags (length (out-FuncTy f.ty).params) (rows_of_block w.in-Block.block) d.expressions.tables
            w.in_ok-function-in-Block.field-0) (sym w.draft-is) told.blocks))
        | in-Some+in_default w ↦
            let Holds : Function → Block → FunctionCode → Type 0 =
            λ g b k. HasBlocks tags (length (out-FuncTy g.ty).params) (rows_of_block b) c.loop-function.draft.expressions.tables k in
            subst (λ (d : Draft). HaveBlocks tags d.expressions.tables fs c.push.new.self.items) (sym w.draft-is)
            (each_pushed Holds fs c.loop-function.functions.items c.push.new.self.items c.match-function.code i f c.in_ok-push.ensures.items
            c.loop-function.invariant.3 here c.loop-function.invariant.4 (each_absent Holds f c.match-function.code w.code-is))
        | in-None w ↦
            let Holds : Function → Block → FunctionCode → Type 0 =
            λ g b k. HasBlocks tags (length (out-FuncTy g.ty).params) (rows_of_block b) c.loop-function.draft.expressions.tables k in
            subst (λ (d : Draft). HaveBlocks tags d.expressions.tables fs c.push.new.self.items) (sym w.draft-is)
            (each_pushed Holds fs c.loop-function.functions.items c.push.new.self.items c.match-function.code i f c.in_ok-push.ensures.items
            c.loop-function.invariant.3 here c.loop-function.invariant.4 (each_absent Holds f c.match-function.code w.code-is))
      ],
      elim c.match-function.branch [
        | in-Some+in-Block+in_ok-function-in-Block w ↦
            let told = w.in_ok-function-in-Block.ensures in
            let old = c.loop-function.draft.expressions in
            let now = c.match-function.draft.expressions in
            let grown : AreGrown old.tables now.tables =
            subst (λ (d : Draft). AreGrown old.tables d.expressions.tables) (sym w.draft-is) told.grown in
            let Holds : Function → Block → FunctionCode → Type 0 = λ g b k. HasExpressions b now.tables now.laid k.expressions in
            let more : IsMore old.laid now.laid = subst (λ (d : Draft). IsMore old.laid d.expressions.laid) (sym w.draft-is) told.more in
            each_pushed Holds fs c.loop-function.functions.items c.push.new.self.items c.match-function.code i f c.in_ok-push.ensures.items
            c.loop-function.invariant.3 here
            (each_later (λ g b k. HasExpressions b old.tables old.laid k.expressions) Holds fs c.loop-function.functions.items
            (λ g b k. expressions_later b old.tables now.tables old.laid now.laid k.expressions grown more) c.loop-function.invariant.5)
            (each_given Holds f c.match-function.code w.in-Block.block w.in_ok-function-in-Block.field-0
            (block_of f w.in-Some.body w.in-Block.block w.in-Some.is w.in-Block.is) w.code-is
            (subst (λ (d : Draft). HasExpressions w.in-Block.block d.expressions.tables d.expressions.laid w.in_ok-function-in-Block.field-0.expressions)
            (sym w.draft-is) told.expressions))
        | in-Some+in_default w ↦
            let Holds : Function → Block → FunctionCode → Type 0 =
            λ g b k. HasExpressions b c.loop-function.draft.expressions.tables c.loop-function.draft.expressions.laid k.expressions in
            subst (λ (d : Draft). HaveExpressions d.expressions.tables d.expressions.laid fs c.push.new.self.items) (sym w.draft-is)
            (each_pushed Holds fs c.loop-function.functions.items c.push.new.self.items c.match-function.code i f c.in_ok-push.ensures.items
            c.loop-function.invariant.3 here c.loop-function.invariant.5 (each_absent Holds f c.match-function.code w.code-is))
        | in-None w ↦
            let Holds : Function → Block → FunctionCode → Type 0 =
            λ g b k. HasExpressions b c.loop-function.draft.expressions.tables c.loop-function.draft.expressions.laid k.expressions in
            subst (λ (d : Draft). HaveExpressions d.expressions.tables d.expressions.laid fs c.push.new.self.items) (sym w.draft-is)
            (each_pushed Holds fs c.loop-function.functions.items c.push.new.self.items c.match-function.code i f c.in_ok-push.ensures.items
            c.loop-function.invariant.3 here c.loop-function.invariant.5 (each_absent Holds f c.match-function.code w.code-is))
      ],
    )

pub returns-clause-bodies : goal.returns-clause-bodies
returns-clause-bodies c = (
  c.loop-function.numbers,
  (
    c.loop-function.invariant.0.1 ∙ ap roots_in (sym c.finished.ensures.expressions),
    all_coded c.loop-function.numbers c.args.program.now.functions c.as_slice-function-items.result.now c.loop-function.function-index
        c.loop-function.functions.items c.finished.result.functions.items (omega (arith, c.loop-function-test.false)) c.as_slice-function-items.ensures
        c.finished.ensures.functions c.loop-function.invariant.0.2,
  ),
)

pub returns-clause-functions : goal.returns-clause-functions
returns-clause-functions c =
    have_code c.loop-function.numbers c.args.program.now.functions c.finished.result
    (all_coded c.loop-function.numbers c.args.program.now.functions c.as_slice-function-items.result.now c.loop-function.function-index
    c.loop-function.functions.items c.finished.result.functions.items (omega (arith, c.loop-function-test.false)) c.as_slice-function-items.ensures
    c.finished.ensures.functions c.loop-function.invariant.0.2)

pub returns-clause-trees : goal.returns-clause-trees
returns-clause-trees c =
    let items = c.as_slice-function-items.result.now in
    let end = c.loop-function-test.false in
    let order = ap roots_in c.finished.ensures.expressions
    ∙ no_trees code_trees (roots_in c.loop-function.draft.expressions.laid.all.items) (flat_map code_trees c.args.program.now.functions) items
    c.loop-function.function-index (omega (arith, end)) c.loop-function.invariant.0.0 in
    λ h. ap (map tree_of) (order ∙ sym (all_same c.args.program.now.functions h))

pub returns-clause-listed : goal.returns-clause-listed
returns-clause-listed c = λ h given formed.
    let items = c.as_slice-function-items.result.now in
    let end = c.loop-function-test.false in
    let order = ap roots_in c.finished.ensures.expressions
    ∙ no_trees code_trees (roots_in c.loop-function.draft.expressions.laid.all.items) (flat_map code_trees c.args.program.now.functions) items
    c.loop-function.function-index (omega (arith, end)) c.loop-function.invariant.0.0 in
    let trees = ap (map tree_of) (order ∙ sym (all_same c.args.program.now.functions h)) in
    let code = c.finished.result in
    lists_trees c.args.program.now c.args.terms.now code.tables code.listing.items code.expressions.items
    (subst (λ es. OfTerms c.args.terms.now code.listing.items es) (sym c.finished.ensures.expressions)
    (subst (λ es. OfTerms c.args.terms.now es c.loop-function.draft.expressions.laid.all.items) (sym c.finished.ensures.listing) c.loop-function.invariant.1))
    code.within trees given formed

pub returns-clause-fit : goal.returns-clause-fit
returns-clause-fit c = λ p h. subst (AreFit p) (sym c.finished.ensures.tables) (c.loop-function.invariant.2 p h)

pub returns-clause-blocks : goal.returns-clause-blocks
returns-clause-blocks c =
    subst (λ (t : Tables). HaveBlocks c.args.program.now.tags t c.args.program.now.functions c.finished.result.functions.items) (sym c.finished.ensures.tables)
    (subst (HaveBlocks c.args.program.now.tags c.loop-function.draft.expressions.tables c.args.program.now.functions) (sym c.finished.ensures.functions)
    c.loop-function.invariant.4)

pub returns-clause-expressions : goal.returns-clause-expressions
returns-clause-expressions c =
    let old = c.loop-function.draft.expressions in
    let code = c.finished.result in
    let fs = c.args.program.now.functions in
    subst (λ (t : Tables). HaveExpressions t (laid_in code) fs code.functions.items) (sym c.finished.ensures.tables)
    (subst (HaveExpressions old.tables (laid_in code) fs) (sym c.finished.ensures.functions)
    (each_later (λ g b k. HasExpressions b old.tables old.laid k.expressions) (λ g b k. HasExpressions b old.tables (laid_in code) k.expressions) fs
    c.loop-function.functions.items
    (λ g b k. expressions_later b old.tables old.tables old.laid (laid_in code) k.expressions (nothing_grown old.tables)
    (no_more old.laid (laid_in code) c.finished.ensures.listing c.finished.ensures.expressions)) c.loop-function.invariant.5))
