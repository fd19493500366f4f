-- A certificate's members as they are put, for private clauses.
use Rattle.std.specs.Prelude.{codes}
use Rattle.hex.specs.Hex.{encode_lower}
use Rattle.serde_json.specs.Data.{Data, string, Members, no_members, put}
use Rattle.ub_base.specs.Clause.{clause_text}
use Rattle.certificate.specs.declared.cert.Claim.{Claim}
use Rattle.certificate.specs.declared.cert.Claim.TheVariants.{Clean, Undefined, OrderDependent, OutOfSteps, Outside}
use Rattle.certificate_writing.specs.Words.{cause_text}
use Rattle.certificate_writing.specs.Writing.{whole, pair_entry, pair_list}

-- the members of every certificate but the verdict
abbrev pub common : Data → Data → Data → Members
common frames map order = put (codes "frames") frames (put (codes "map") map (put (codes "order") order (put (codes "version") (whole 2) no_members)))

-- members with those of a claim
abbrev pub with_claim : Claim → Members → Members
with_claim (Clean status output) ms =
    put (codes "output") (string (encode_lower output)) (put (codes "status") (whole status) (put (codes "verdict") (string (codes "clean")) ms))
with_claim (Undefined clause pair) ms =
    put (codes "pair") (pair_list pair) (put (codes "clause") (string (clause_text clause)) (put (codes "verdict") (string (codes "undefined")) ms))
with_claim (OrderDependent event against) ms = put (codes "pair") (pair_entry event against) (put (codes "verdict") (string (codes "order-dependent")) ms)
with_claim OutOfSteps ms = put (codes "verdict") (string (codes "out-of-steps")) ms
with_claim (Outside cause limit) ms =
    put (codes "number") (whole limit) (put (codes "cause") (string (cause_text cause)) (put (codes "verdict") (string (codes "outside")) ms))
