use Rattle.std.proofs.Common.{map, string_bytes}
use Rattle.audit_verdict.specs.Cause.{disk}
use Rattle.audit_verdict.specs.declared.answer.Answer.TheVariants.{NoMemory}
use Rattle.audit_top.proofs.Causes.{memory_cause}
use Rattle.audit_top.proofs.top.run.Goals as goal

pub returns : goal.returns
returns g c = (
  NoMemory,
  memory_cause (map string_bytes c.args.words.now)
      (disk (g.F.Files.held c.args.files.now) (g.F.Files.read_faults c.args.files.now) (g.F.Files.write_faults c.args.files.now))
      (disk (g.F.Files.held c.answer-answer.new.files) (g.F.Files.read_faults c.answer-answer.new.files) (g.F.Files.write_faults c.answer-answer.new.files))
      c.answer-answer.result c.answer-answer.ensures,
  c.finish-in-Err.ensures,
)
