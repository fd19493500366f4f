use Rattle.std.proofs.Common.{option_copied}
use Rattle.audit_sources.specs.Fetching.{input_wanted}
use Rattle.audit_sources.proofs.Later.{stops_after}
use Rattle.audit_sources.proofs.fetch.fetch_certificate.Goals as goal

pub returns-in-Err-clause-fault : goal.returns-in-Err-clause-fault
returns-in-Err-clause-fault g c =
    stops_after _ _ _ _ _ _ (input_wanted (option_copied c.args.input)) c.in_ok-certificate.certificate c.in-Err.fault c.in_ok-certificate.ensures.later
    c.in_ok-certificate.ensures.held
    c.in_ok-certificate.ensures.whole c.in-Err.ensures.fault
