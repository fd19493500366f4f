use Rattle.std.proofs.Common.{◌∙◌, sym, ap, arith, ◌++◌, ◌∷◌, [], suc, List, ℕ}
use Rattle.std.specs.Option.{option_or}
use Rattle.c_typed.specs.Tree.{tree_of, operands}
use Rattle.evaluation_log.specs.Ways.{above_in}
use Rattle.evaluation_log.specs.Sides.{opened, own_lefts, own_rights, first_loud, lefts_in, rights_in, free_by}
use Rattle.evaluation_log.proofs.WayLemmas.{way_here, way_below, way_lost, below_room, child_of, appended, with_none}
use Rattle.evaluation_log.proofs.SideLemmas.{lefts_here, rights_here, lefts_below, rights_below, lefts_lost, rights_lost, option_or-none, option_or-assoc}
use Rattle.evaluation_log.proofs.way.+add_way.Goals as goal

pub returns-then-number-target-clause-above : goal.returns-then-number-target-clause-above
returns-then-number-target-clause-above t c = λ h.
    sym (ap (λ (xs : List ℕ). c.args.way.now.above.items ++ xs)
    (way_here c.args.number (tree_of c.args.tree.now) c.args.target (omega (arith, c.if-number-target.true)))
    ∙ with_none c.args.way.now.above.items)

pub returns-then-number-target-clause-before : goal.returns-then-number-target-clause-before
returns-then-number-target-clause-before t c = λ h.
    sym (ap (option_or c.args.way.now.before)
    (lefts_here (free_by c.args.rules.now) c.args.number (tree_of c.args.tree.now) c.args.target (omega (arith, c.if-number-target.true)))
    ∙ option_or-none c.args.way.now.before)

pub returns-then-number-target-clause-behind : goal.returns-then-number-target-clause-behind
returns-then-number-target-clause-behind t c = λ h.
    sym (ap (λ z. option_or z c.args.way.now.behind)
    (rights_here (free_by c.args.rules.now) c.args.number (tree_of c.args.tree.now) c.args.target (omega (arith, c.if-number-target.true))))

pub returns-in_default-clause-above : goal.returns-in_default-clause-above
returns-in_default-clause-above t c = λ h.
    c.in_ok-pass.ensures.above ∙ ap (λ (xs : List ℕ). c.args.way.now.above.items ++ xs)
    (sym (way_lost c.args.number (tree_of c.args.tree.now) c.args.target (omega (arith, c.if-number-target.false)) h (sym c.in_default.ensures.value)))

pub returns-in_default-clause-before : goal.returns-in_default-clause-before
returns-in_default-clause-before t c = λ h.
    c.in_ok-pass.ensures.before h ∙ ap (option_or c.args.way.now.before)
    (sym (lefts_lost (free_by c.args.rules.now) c.args.number (tree_of c.args.tree.now) c.args.target (omega (arith, c.if-number-target.false)) h
    (sym c.in_default.ensures.value)))

pub returns-in_default-clause-behind : goal.returns-in_default-clause-behind
returns-in_default-clause-behind t c = λ h.
    c.in_ok-pass.ensures.behind h ∙ ap (λ z. option_or z c.args.way.now.behind)
    (sym (rights_lost (free_by c.args.rules.now) c.args.number (tree_of c.args.tree.now) c.args.target (omega (arith, c.if-number-target.false)) h
    (sym c.in_default.ensures.value)))

pub returns-clause-above : goal.returns-clause-above
returns-clause-above t c = λ h.
    let a = c.in-Some.spot in
    let s = sym c.in-Some.ensures.value in
    let x = tree_of c.index-as_slice-spot.result in
    let e = child_of c.args.tree.now c.index-as_slice-spot.result c.as_slice.result.now a.index
    c.in-Some.ensures.within c.as_slice.ensures c.index-as_slice-spot.is in
    let room = below_room c.args.number (tree_of c.args.tree.now) x c.args.target a h s e in
    let old = c.args.way.now.above.items in
    let below = above_in a.number x c.args.target in
    c.in_ok-add_way.ensures.above room ∙
    ap (λ (xs : List ℕ). xs ++ below) c.in_ok-pass.ensures.above ∙ appended old (c.args.number ∷ []) below ∙
    ap (λ (xs : List ℕ). old ++ xs)
    (sym (way_below c.args.number (tree_of c.args.tree.now) x c.args.target a (omega (arith, c.if-number-target.false)) h s e))

pub returns-clause-before : goal.returns-clause-before
returns-clause-before t c = λ h.
    let a = c.in-Some.spot in
    let s = sym c.in-Some.ensures.value in
    let x = tree_of c.index-as_slice-spot.result in
    let e = child_of c.args.tree.now c.index-as_slice-spot.result c.as_slice.result.now a.index
    c.in-Some.ensures.within c.as_slice.ensures c.index-as_slice-spot.is in
    let tree = tree_of c.args.tree.now in
    let free = free_by c.args.rules.now in
    let own = first_loud (opened (free c.args.number) (own_lefts (suc c.args.number) (operands tree) c.args.target)) in
    let below = first_loud (lefts_in free a.number x c.args.target) in
    c.in_ok-add_way.ensures.before (below_room c.args.number tree x c.args.target a h s e) ∙
    (ap (λ z. option_or z below) (c.in_ok-pass.ensures.before h) ∙ (option_or-assoc c.args.way.now.before own below ∙
    ap (option_or c.args.way.now.before)
    (sym (lefts_below free c.args.number tree x c.args.target a (omega (arith, c.if-number-target.false)) h s e))))

pub returns-clause-behind : goal.returns-clause-behind
returns-clause-behind t c = λ h.
    let a = c.in-Some.spot in
    let s = sym c.in-Some.ensures.value in
    let x = tree_of c.index-as_slice-spot.result in
    let e = child_of c.args.tree.now c.index-as_slice-spot.result c.as_slice.result.now a.index
    c.in-Some.ensures.within c.as_slice.ensures c.index-as_slice-spot.is in
    let tree = tree_of c.args.tree.now in
    let free = free_by c.args.rules.now in
    let own = first_loud (opened (free c.args.number) (own_rights (suc c.args.number) (operands tree) c.args.target)) in
    let below = first_loud (rights_in free a.number x c.args.target) in
    c.in_ok-add_way.ensures.behind (below_room c.args.number tree x c.args.target a h s e) ∙
    (ap (option_or below) (c.in_ok-pass.ensures.behind h) ∙ (sym (option_or-assoc below own c.args.way.now.behind) ∙
    ap (λ z. option_or z c.args.way.now.behind)
    (sym (rights_below free c.args.number tree x c.args.target a (omega (arith, c.if-number-target.false)) h s e))))
