use Rattle.std.proofs.Common.{option_copied}
use Rattle.audit_sources.specs.Fetching.{certificate_wanted}
use Rattle.audit_sources.proofs.Later.{stops_after}
use Rattle.audit_sources.proofs.fetch.fetch_check_sources.Goals as goal

pub returns-in-Err-clause-fault : goal.returns-in-Err-clause-fault
returns-in-Err-clause-fault g c =
    stops_after _ _ _ _ _ _ (certificate_wanted c.args.certificate.now (option_copied c.args.input)) c.in_ok-text.text c.in-Err.fault
    c.in_ok-text.ensures.later c.in_ok-text.ensures.held
    c.in_ok-text.ensures.whole c.in-Err.ensures.fault
