use Rattle.std.proofs.Common.{refl}
use Rattle.run_standing.proofs.contents.add_filling.Goals as goal

pub returns : goal.returns
returns c = (
  record { at = c.args.constant.now.at; bytes = c.in_ok-bytes.bytes },
  c.in_ok-push.ensures.ok,
  λ named can. (
    record { at = refl; bytes = c.in_ok-bytes.ensures.bytes named can },
    (c.in_ok-bytes.ensures.known named can, c.in_ok-bytes.ensures.tagged named can),
  ),
)
