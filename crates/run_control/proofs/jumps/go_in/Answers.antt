use Rattle.std.proofs.Common.{◌∙◌, ◌++◌, ap, map, reverse, Some}
use Rattle.std.proofs.lemmas.Result.{on_ok_weaker}
use Rattle.c_model.specs.Control.{moved_in}
use Rattle.run_control.specs.declared.work.Work.TheVariants.{Enter}
use Rattle.run_control.specs.View.{todo_of}
use Rattle.run_control.specs.Links.{blocks_in}
use Rattle.run_control.proofs.Arrivals.{arrives_in}
use Rattle.run_control.proofs.jumps.go_in.Goals as goal

pub returns-clause-now : goal.returns-clause-now
returns-clause-now c = on_ok_weaker c.enter_all.result
    (λ e m. arrives_in m c.gather.new.found.items c.args.stack.now.now c.put_back.new.stack.now c.enter_all.new.stack.now c.blocks_of.new.blocks.items
    (c.in_ok-blocks_of.ensures ∙ ap blocks_in c.deref.ensures.value) c.in_ok-put_back.ensures.now
    (e ∙ ap (λ bs. map Enter (reverse bs) ++ c.put_back.new.stack.now) c.deref-2.ensures.value)
    ∙ ap (λ ws. moved_in (Some (todo_of m ws)) (todo_of m c.args.stack.now.now)) c.in_ok-gather.ensures)
    c.enter_all.ensures.now
