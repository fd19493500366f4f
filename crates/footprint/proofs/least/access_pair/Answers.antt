use Rattle.footprint.proofs.RaceLemmas.{race_found, race_may, race_accesses}
use Rattle.footprint.proofs.least.access_pair.Goals as goal

pub returns-clause-may : goal.returns-clause-may
returns-clause-may c = race_may c.args.a.now c.args.b.now c.args.frames.now c.lesser-2.result
    (race_found c.args.a.now c.args.b.now c.args.frames.now c.least_common.result c.least_common-2.result c.least_common-3.result c.read_written-read.result
    c.written_read-written.result c.written_twice-twice.result c.lesser.result c.lesser-2.result c.least_common.ensures c.least_common-2.ensures
    c.least_common-3.ensures c.read_written-read.ensures c.written_read-written.ensures c.written_twice-twice.ensures c.lesser.ensures c.lesser-2.ensures)

pub returns-clause-least : goal.returns-clause-least
returns-clause-least c =
    race_found c.args.a.now c.args.b.now c.args.frames.now c.least_common.result c.least_common-2.result c.least_common-3.result c.read_written-read.result
    c.written_read-written.result c.written_twice-twice.result c.lesser.result c.lesser-2.result c.least_common.ensures c.least_common-2.ensures
    c.least_common-3.ensures c.read_written-read.ensures c.written_read-written.ensures c.written_twice-twice.ensures c.lesser.ensures c.lesser-2.ensures

pub returns-clause-accesses : goal.returns-clause-accesses
returns-clause-accesses c = race_accesses c.args.a.now c.args.b.now c.args.frames.now c.lesser-2.result
    (race_found c.args.a.now c.args.b.now c.args.frames.now c.least_common.result c.least_common-2.result c.least_common-3.result c.read_written-read.result
    c.written_read-written.result c.written_twice-twice.result c.lesser.result c.lesser-2.result c.least_common.ensures c.least_common-2.ensures
    c.least_common-3.ensures c.read_written-read.ensures c.written_read-written.ensures c.written_twice-twice.ensures c.lesser.ensures c.lesser-2.ensures)
