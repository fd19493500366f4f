use Rattle.c_names.proofs.WayLemmas.{IsNext-found, IsNext-started}
use Rattle.c_names.proofs.ways.next_frame.Goals as goal

pub returns-in-Some-clause-next : goal.returns-in-Some-clause-next
returns-in-Some-clause-next c = IsNext-found c.args.frames.now c.args.frame c.in-Some.found c.args.step c.requires.rows c.in-Some.ensures.some

pub returns-clause-next : goal.returns-clause-next
returns-clause-next c =
    IsNext-started c.args.frames.now c.call.new.self c.args.frame c.args.step c.in_ok-started.started.0 c.requires.rows c.requires.there
    c.in_default.ensures.none c.requires.room
    c.in_ok-started.ensures.frame c.in_ok-started.ensures.row
