use Rattle.std.proofs.Common.{ℕ, ◌≤◌, ◌≡◌, ◌++◌, ◌-◌, ◌∙◌, ap, length, drop, arith}
use Rattle.std.proofs.lemmas.List.{drop_all}
use Rattle.c_names.specs.Texts.{frame_text}
use Rattle.c_names.proofs.TextLemmas.{frame_text-step}
use Rattle.c_names.proofs.write.put_path.Goals as goal

pub loop-i-init : goal.loop-i-init
loop-i-init c = rw (drop_all (length c.args.path.now - 0) c.args.path.now (omega arith)) c.in_ok-extend_from_slice.ensures.items

pub loop-i-preserved : goal.loop-i-preserved
loop-i-preserved c =
    c.in_ok-put_step.ensures ∙ frame_text-step c.args.out.now.items c.loop-i.out.items c.args.path.now c.loop-i.i _ c.loop-i-test.true c.loop-i.invariant

at_end : (n i : ℕ) → n ≤ i → n - i ≡ 0
at_end n i h = omega arith

pub returns : goal.returns
returns c = c.loop-i.invariant ∙ ap (λ n. c.args.out.now.items ++ frame_text (drop n c.args.path.now)) (at_end _ _ c.loop-i-test.false)
