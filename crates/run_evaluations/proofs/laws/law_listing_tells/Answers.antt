use Rattle.run_evaluations.proofs.ListingLemmas.{listings_tell}
use Rattle.run_evaluations.proofs.laws.law_listing_tells.Goals as goal

pub returns : goal.returns
returns c = listings_tell
