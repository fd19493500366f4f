use Rattle.std.proofs.Common.{◌∙◌, sym, ap, []}
use Rattle.std.proofs.lemmas.List.{append-nil}
use Rattle.core_ir.specs.Term.{listing}
use Rattle.run_layout.specs.Listings.{flat, passed, within}
use Rattle.run_layout.proofs.Listings.{listed}
use Rattle.run_layout.proofs.laws.law_listing.Goals as goal

pub returns : goal.returns
returns c = λ count taken t.
    ap (passed taken 0) (sym (append-nil (flat count t))) ∙ listed count taken t [] ∙ append-nil (within count (listing taken t))
