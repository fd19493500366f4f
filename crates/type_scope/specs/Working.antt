-- The function whose body is read, as the definition of typing has it.
use Rattle.std.specs.Prelude.{List, map, reverse}
use Rattle.c_types.specs.Types.{type_of, qualified_of}
use Rattle.typing_env.specs.Env as env
use Rattle.type_scope.specs.declared.task.OpenBlock.{OpenBlock}
use Rattle.type_scope.specs.declared.task.Task.{Task}

abbrev pub block_seen : OpenBlock → env.OpenBlock
block_seen b = record { number = b.number; objects = map qualified_of b.objects }

-- the blocks that are open, the innermost first
abbrev pub blocks_seen : Task → List env.OpenBlock
blocks_seen t = reverse (map block_seen t.open_blocks.items)

-- what it returns, its blocks and loops; its labels and the open switches are as they were given
abbrev pub task_seen : Task → env.Task → env.Task
task_seen t was = record was {
  result = type_of t.result;
  blocks = t.blocks;
  open_blocks = blocks_seen t;
  loops = t.loops;
  breakable = t.breakable;
}
