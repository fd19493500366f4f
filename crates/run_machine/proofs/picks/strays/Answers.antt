use Rattle.std.proofs.Common.{rules, ◌≡◌, ◌≢◌, ℕ, List, Some, true, refl, subst, slice_get, length}
use Rattle.seq_order.specs.declared.done.Marks.{Marks}
use Rattle.run_machine.proofs.Picked.{decided_kept, decided_passed, leaves_way}
use Rattle.run_machine.proofs.picks.strays.Goals as goal

pub returns-then-not-stage-clause-permitted : goal.returns-then-not-stage-clause-permitted
returns-then-not-stage-clause-permitted c =
    decided_kept c.args.machine.now c.args.stage c.args.place c.in_ok-done.done.now c.is_permitted_after.result c.if-not-stage.true c.in_ok-done.ensures
    c.is_permitted_after.ensures

pub returns-then-not-branch-clause-permitted : goal.returns-then-not-branch-clause-permitted
returns-then-not-branch-clause-permitted c =
    decided_passed c.args.machine.now c.args.stage c.args.place c.in_ok-done-2.done c.in_ok-is_permitted_after.field-0 _ c.if-not-stage.false
    c.if-not-branch.true c.in_ok-done-2.ensures c.in_ok-is_permitted_after.ensures

pub returns-clause-permitted : goal.returns-clause-permitted
returns-clause-permitted c =
    decided_passed c.args.machine.now c.args.stage c.args.place c.in_ok-done-2.done c.in_ok-is_permitted_after.field-0 _ c.if-not-stage.false
    c.if-not-branch.false c.in_ok-done-2.ensures c.in_ok-is_permitted_after.ensures

pub returns-clause-state : goal.returns-clause-state
returns-clause-state c =
    let m = c.args.machine.now in
    let counted : c.len.result ≡ length m.below.items = search (rules, c.len.ensures) in
    leaves_way m _ c.args.stage c.in_ok-done-2.done true c.if-not-stage.false refl refl
    (subst (λ (h : ℕ). slice_get c.keep_done.new.strayed.items h ≡ Some c.in_ok-done-2.done) counted c.in_ok-keep_done.ensures.kept)
    (subst (λ (h : ℕ). (j : ℕ) (other : List Marks) → j ≢ h → slice_get m.strayed.items j ≡ Some other
    → slice_get c.keep_done.new.strayed.items j ≡ Some other) counted c.in_ok-keep_done.ensures.others) c.in_ok-done-2.ensures
