use Rattle.std.proofs.Common.{◌∙◌, string_bytes}
use Rattle.person_top.proofs.Lists.{fetched_all, fetching_item}
use Rattle.person_top.proofs.list.fetch_lists.Goals as goal

pub loop-name-preserved : goal.loop-name-preserved
loop-name-preserved g c = (
  c.in-Ok.ensures.held ∙ c.loop-name.invariant.0,
  fetching_item string_bytes c.args.names.now c.loop-name.name-index c.name-item.result c.as_str.result.now (g.F.Files.held c.loop-name.files)
      (g.F.Files.held c.args.files.now) (g.F.Files.read_faults c.args.files.now) (g.F.Files.read_faults c.loop-name.files)
      (g.F.Files.read_faults c.fetch_list.new.files) c.loop-name.texts.items c.fetch_list.new.texts.items c.loop-name-test.true c.name-item.is
      c.as_str.ensures.value c.loop-name.invariant.0 c.in-Ok.ensures.later c.in-Ok.ensures.list c.loop-name.invariant.1,
)

pub returns-clause-lists : goal.returns-clause-lists
returns-clause-lists g c =
    fetched_all string_bytes c.args.names.now c.loop-name.name-index (g.F.Files.held c.args.files.now) (g.F.Files.read_faults c.args.files.now)
    (g.F.Files.read_faults c.loop-name.files) c.loop-name.texts.items c.loop-name-test.false c.loop-name.invariant.1
