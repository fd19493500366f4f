-- The members of a certificate (own).
use Rattle.std.specs.Prelude.{ℕ, List, codes}
use Rattle.certificate.specs.declared.cert.Field.{Field}
use Rattle.certificate.specs.declared.cert.Field.TheVariants.{Root, Version, Verdict, Frames, Map, Order, Output, Status, Clause, Pair, Cause, Number}

abbrev pub field_text : Field → List ℕ
field_text Root = codes "root"
field_text Version = codes "version"
field_text Verdict = codes "verdict"
field_text Frames = codes "frames"
field_text Map = codes "map"
field_text Order = codes "order"
field_text Output = codes "output"
field_text Status = codes "status"
field_text Clause = codes "clause"
field_text Pair = codes "pair"
field_text Cause = codes "cause"
field_text Number = codes "number"
