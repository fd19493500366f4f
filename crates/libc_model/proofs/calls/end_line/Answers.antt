use Rattle.std.proofs.Common.{◌≡◌, ◌-◌, ◌∙◌, ℕ, ap, take, length, vec_len}
use Rattle.libc_arguments.proofs.Printing.{line_is}
use Rattle.libc_model.proofs.calls.end_line.Goals as goal

pub returns : goal.returns
returns c =
    let len : vec_len c.args.bytes.now ≡ length c.args.bytes.now.items = c.args.bytes.now.ok.0 in
    line_is c.args.bytes.now.items c.pop.new.self.items c.push.new.self.items (c.pop.ensures.rest ∙ ap (λ (n : ℕ). take (n - 1) c.args.bytes.now.items) len)
    c.in_ok-push.ensures.items
