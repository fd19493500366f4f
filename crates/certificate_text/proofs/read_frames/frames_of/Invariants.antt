-- The entries behind the loop's place give what all entries give.
use Rattle.std.proofs.Common.{◌≡◌, [], map, drop}
use Rattle.serde_json.specs.View.{view}
use Rattle.certificate_text.specs.Reading.{more_frames}
use Rattle.certificate_text.proofs.read_frames.frames_of.Given as goal

abbrev pub invariant-loop-entry : goal.invariant-loop-entry
invariant-loop-entry l = more_frames [] (map view l.entries) ≡ more_frames l.frames (map view (drop l.entry-index l.entries))
