use Rattle.run_acts.proofs.Moves.{product_of}
use Rattle.run_acts.proofs.pointers.product.Goals as goal

pub returns : goal.returns
returns c = λ near. product_of c.args.size c.args.index c.from.result c.from.ensures c.ranges.size.fits c.ranges.index near
