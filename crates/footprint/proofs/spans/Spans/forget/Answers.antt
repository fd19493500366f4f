use Rattle.std.proofs.Common.{refl}
use Rattle.footprint.proofs.SpanBytes.{forgotten}
use Rattle.footprint.proofs.spans.Spans.forget.Goals as goal

pub returns : goal.returns
returns c = forgotten c.args.self.now.ends c.remove_starts.new.ends c.args.object 18446744073709551615 refl c.remove_starts.ensures.was_ordered
    c.remove_starts.ensures.ordered c.remove_starts.ensures.without c.args.self.now.separate
