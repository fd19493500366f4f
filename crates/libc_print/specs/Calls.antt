-- A whole call of a function that takes a format, against its definition.
use Rattle.std.specs.Prelude.{ℕ, List, length, pos}
use Rattle.addr_map.specs.declared.map.Row.{Row}
use Rattle.exposure.specs.declared.prov.Prov.{Prov}
use Rattle.mem_spec.specs.declared.stream.Stream.{Stream}
use Rattle.mem_spec.specs.Script.{Print, Script, Give, touch, ◌>>=◌, ◌>>◌, Act}
use Rattle.libc_spec.specs.Library.{LibValue, number, in_ranges, output_within}
use Rattle.libc_spec.specs.Print.{Argument}
use Rattle.libc_spec.specs.Formatted.{short}
use Rattle.libc_print.specs.Runs.{printed_text}

-- bytes go to a stream; the value is how many they are
abbrev pub put_out : Stream → List ℕ → Script LibValue
put_out to bytes = touch (Print to bytes) >> Give (number (pos (length bytes)))

-- what a script gives is printed
abbrev pub printing : Stream → Script (List ℕ) → Script LibValue
printing to script = script >>= put_out to

-- reads that follow one another are one, and what is printed keeps its limit
abbrev pub limited : Act LibValue → Act LibValue
limited act = output_within (in_ranges act)

-- a text that isn't printed
abbrev pub short_text : List Row → ℕ → Prov → List Argument → Script (List ℕ)
short_text rows a p as' = printed_text rows a p as' >>= short
