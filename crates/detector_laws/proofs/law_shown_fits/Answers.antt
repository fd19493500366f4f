use Rattle.detector_laws.proofs.Fits.{shown_fits}
use Rattle.detector_laws.proofs.law_shown_fits.Goals as goal

pub returns : goal.returns
returns c = shown_fits
