use Rattle.std.proofs.Common.{◌∷◌, map, string_bytes}
use Rattle.run_standing.specs.Standing.{program_name}
use Rattle.run_standing.proofs.Finds.{finds_room}
use Rattle.run_standing.proofs.initial.start.Goals as goal

pub returns-clause-room : goal.returns-clause-room
returns-clause-room c = λ e sound lawful is above few os stand within.
    finds_room c.args.m.now c.begin.new.m c.args.p.now (program_name ∷ map string_bytes c.args.args.now) os is (c.begin.ensures.kept sound lawful) lawful
    stand within (c.begin.ensures.unplaced e sound lawful above few)
