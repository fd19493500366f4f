-- What an address may name, as those who fold constants know it.
use Rattle.std.specs.Prelude.{Option, None}
use Rattle.c_types.specs.declared.tags.Extent.{Extent}
use Rattle.c_typed.specs.declared.tree.Target.{Target}

-- the sizes and alignments of what an address may name; none of a function
abbrev pub Places : Type 0
Places = Target → Option Extent

-- nothing that is named has an address here
abbrev pub nowhere : Places
nowhere named = None
