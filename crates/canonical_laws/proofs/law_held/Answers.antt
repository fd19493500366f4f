use Rattle.canonical_laws.proofs.Held.{canonical_holds_few, start_holds_none, steps_hold_one_more}
use Rattle.canonical_laws.proofs.law_held.Goals as goal

pub returns : goal.returns
returns c = record {
  starts = start_holds_none;
  keeps = steps_hold_one_more;
  canonical = canonical_holds_few;
}
