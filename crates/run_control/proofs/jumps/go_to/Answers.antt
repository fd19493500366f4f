use Rattle.std.proofs.Common.{◌∙◌, ◌++◌, ap, map, reverse, Some}
use Rattle.std.proofs.lemmas.Result.{on_ok_weaker}
use Rattle.c_model.specs.Control.{gone_to}
use Rattle.run_control.specs.declared.work.Work.TheVariants.{Enter}
use Rattle.run_control.specs.View.{todo_of}
use Rattle.run_control.specs.Links.{blocks_in}
use Rattle.run_control.proofs.Arrivals.{arrives}
use Rattle.run_control.proofs.jumps.go_to.Goals as goal

pub returns-clause-now : goal.returns-clause-now
returns-clause-now c = on_ok_weaker c.leave_all.result
    (λ e m. arrives m c.gather.new.found.items c.args.stack.now.now c.empty.new.stack.now c.put_back.new.stack.now c.enter_all.new.stack.now
    c.leave_all.new.stack.now
    c.empty.new.blocks.items c.unshare.new.left.items c.blocks_of.new.blocks.items c.unshare.new.entered.items
    c.in_ok-empty.ensures.blocks c.in_ok-empty.ensures.now (c.in_ok-blocks_of.ensures ∙ ap blocks_in c.deref.ensures.value)
    (c.in_ok-unshare.ensures.left m) (c.in_ok-unshare.ensures.entered m) c.in_ok-put_back.ensures.now
    (c.in_ok-enter_all.ensures.now ∙ ap (λ bs. map Enter (reverse bs) ++ c.put_back.new.stack.now) c.deref-2.ensures.value) e
    ∙ ap (λ ws. gone_to (todo_of m c.args.stack.now.now) (Some (todo_of m ws))) c.in_ok-gather.ensures)
    c.leave_all.ensures.now
