-- What operators ask of structures and unions: the extent of each that is complete, and its members by name (6.2.5p20, 6.7.2.1).
use Rattle.std.specs.Prelude.{ℕ, List}
use Rattle.c_types.specs.Layout.{Known, extents}
use Rattle.c_types.specs.declared.tags.Tag.{Tag}
use Rattle.layout.specs.Names.{Named, names}

pub record Layouts : Type 0 where
  pub extents : Known
  pub names : ℕ → List Named

-- those of the structures and unions that a program declares
abbrev pub layouts : List Tag → Layouts
layouts tags = record { extents = extents tags; names = names tags }
