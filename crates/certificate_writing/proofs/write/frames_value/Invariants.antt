-- The items are the entries of the frames before the loop's place.
use Rattle.std.proofs.Common.{◌≡◌, map, take}
use Rattle.serde_json.specs.View.{view}
use Rattle.certificate_writing.specs.Writing.{frame_entry}
use Rattle.certificate_writing.proofs.write.frames_value.Given as goal

abbrev pub invariant-loop-at : goal.invariant-loop-at
invariant-loop-at l = map view l.items.items ≡ map frame_entry (take l.at l.frames)
