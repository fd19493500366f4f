-- Standard input, standard output and standard error as lists of bytes (7.21.3p7).
use Rattle.std.specs.Prelude.{ℕ, ◌+◌, List, [], ◌++◌, length}
use Rattle.mem_spec.specs.declared.stream.Stream.{Stream}
use Rattle.mem_spec.specs.declared.stream.Stream.TheVariants as streams

-- what was written to standard output and to standard error
pub record Outputs : Type 0 where
  pub standard : List ℕ
  pub errors : List ℕ

-- nothing was written to standard error
abbrev pub on_output : List ℕ → Outputs
on_output bytes = record { standard = bytes; errors = [] }

abbrev pub silent : Outputs
silent = on_output []

-- bytes are written to one of them
abbrev pub printed_to : Stream → List ℕ → Outputs → Outputs
printed_to streams.Output bytes o = record o { standard = o.standard ++ bytes }
printed_to streams.Errors bytes o = record o { errors = o.errors ++ bytes }

-- how many bytes were written to both
abbrev pub total : Outputs → ℕ
total o = length o.standard + length o.errors

pub record Io : Type 0 where
  pub input : List ℕ
  pub position : ℕ  -- how many bytes of the input were taken
  pub output : Outputs
