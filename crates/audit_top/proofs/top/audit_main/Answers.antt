use Rattle.std.proofs.Common.{map, string_bytes}
use Rattle.audit_verdict.specs.Cause.{disk}
use Rattle.audit_top.proofs.Exact.{
  ends_with,
  ends_with_syntax,
  only_check_refused,
  only_check_stopped,
  only_refused,
  only_stopped,
  only_syntax,
  only_verdict,
  stays,
}
use Rattle.audit_top.proofs.top.audit_main.Goals as goal

pub returns-clause-stopped : goal.returns-clause-stopped
returns-clause-stopped g c = λ reads_calm puts_calm request files fault asked fails.
    let a = c.run.ensures in
    ends_with _ _ _ _ _ a.0 _ a.2 puts_calm
    (only_stopped (map string_bytes c.args.words.now)
    (disk (g.F.Files.held c.args.files.now) (g.F.Files.read_faults c.args.files.now) (g.F.Files.write_faults c.args.files.now))
    (disk (g.F.Files.held c.run.new.files) (g.F.Files.read_faults c.run.new.files) (g.F.Files.write_faults c.run.new.files))
    request files fault a.0 asked fails reads_calm a.1)

pub returns-clause-check_stopped : goal.returns-clause-check_stopped
returns-clause-check_stopped g c = λ reads_calm puts_calm request files fault asked fails.
    let a = c.run.ensures in
    ends_with _ _ _ _ _ a.0 _ a.2 puts_calm
    (only_check_stopped (map string_bytes c.args.words.now)
    (disk (g.F.Files.held c.args.files.now) (g.F.Files.read_faults c.args.files.now) (g.F.Files.write_faults c.args.files.now))
    (disk (g.F.Files.held c.run.new.files) (g.F.Files.read_faults c.run.new.files) (g.F.Files.write_faults c.run.new.files))
    request files fault a.0 asked fails reads_calm a.1)

pub returns-clause-verdict : goal.returns-clause-verdict
returns-clause-verdict g c = λ reads_calm puts_calm request files text unit given uses form.
    let a = c.run.ensures in
    ends_with _ _ _ _ _ a.0 _ a.2 puts_calm
    (only_verdict (map string_bytes c.args.words.now)
    (disk (g.F.Files.held c.args.files.now) (g.F.Files.read_faults c.args.files.now) (g.F.Files.write_faults c.args.files.now))
    (disk (g.F.Files.held c.run.new.files) (g.F.Files.read_faults c.run.new.files) (g.F.Files.write_faults c.run.new.files))
    request files text unit a.0 given reads_calm uses form a.1)

pub returns-clause-refused : goal.returns-clause-refused
returns-clause-refused g c = λ reads_calm puts_calm request files text refusal given none early.
    let a = c.run.ensures in
    ends_with _ _ _ _ _ a.0 _ a.2 puts_calm
    (only_refused (map string_bytes c.args.words.now)
    (disk (g.F.Files.held c.args.files.now) (g.F.Files.read_faults c.args.files.now) (g.F.Files.write_faults c.args.files.now))
    (disk (g.F.Files.held c.run.new.files) (g.F.Files.read_faults c.run.new.files) (g.F.Files.write_faults c.run.new.files))
    request files text refusal a.0 given reads_calm none early a.1)

pub returns-clause-no_tree : goal.returns-clause-no_tree
returns-clause-no_tree g c = λ reads_calm puts_calm request files text given form none.
    let a = c.run.ensures in
    ends_with_syntax _ _ _ _ _ a.0 a.2 puts_calm
    (only_syntax (map string_bytes c.args.words.now)
    (disk (g.F.Files.held c.args.files.now) (g.F.Files.read_faults c.args.files.now) (g.F.Files.write_faults c.args.files.now))
    (disk (g.F.Files.held c.run.new.files) (g.F.Files.read_faults c.run.new.files) (g.F.Files.write_faults c.run.new.files))
    request files text a.0 given reads_calm form none a.1)

pub returns-clause-check_refused : goal.returns-clause-check_refused
returns-clause-check_refused g c = λ reads_calm puts_calm request files text refusal given early.
    let a = c.run.ensures in
    ends_with _ _ _ _ _ a.0 _ a.2 puts_calm
    (only_check_refused (map string_bytes c.args.words.now)
    (disk (g.F.Files.held c.args.files.now) (g.F.Files.read_faults c.args.files.now) (g.F.Files.write_faults c.args.files.now))
    (disk (g.F.Files.held c.run.new.files) (g.F.Files.read_faults c.run.new.files) (g.F.Files.write_faults c.run.new.files))
    request files text refusal a.0 given reads_calm early a.1)

pub returns-clause-held : goal.returns-clause-held
returns-clause-held g c = λ request asked none.
    let a = c.run.ensures in
    stays (map string_bytes c.args.words.now)
    (disk (g.F.Files.held c.args.files.now) (g.F.Files.read_faults c.args.files.now) (g.F.Files.write_faults c.args.files.now))
    (disk (g.F.Files.held c.run.new.files) (g.F.Files.read_faults c.run.new.files) (g.F.Files.write_faults c.run.new.files))
    request a.0 asked none a.1
