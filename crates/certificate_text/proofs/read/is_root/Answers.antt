-- The names of the members are the keys of the map.
use Rattle.serde_json.specs.View.{view}
use Rattle.certificate_text.specs.Reading.{is_member}
use Rattle.certificate_text.proofs.Names.{names_of_object}
use Rattle.certificate_text.proofs.read.is_root.Goals as goal

pub returns-in-Some : goal.returns-in-Some
returns-in-Some c =
    names_of_object (is_member c.args.verdict) c.in-Some.members.now.entries (view c.args.value.now) c.has_members.result c.in-Some.ensures
    c.has_members.ensures
