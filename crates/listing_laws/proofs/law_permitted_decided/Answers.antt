use Rattle.listing_laws.proofs.Agreeing.{decides_permitted}
use Rattle.listing_laws.proofs.law_permitted_decided.Goals as goal

pub returns : goal.returns
returns c = decides_permitted
