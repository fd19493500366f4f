-- What files and a sink in memory are, and what their calls leave.
use Rattle.std.specs.Prelude.{ℕ, ◌+◌, ◌-◌, ◌^◌, List, [], ◌++◌, ◌==◌, Bool, ◌||◌, ◌&&◌, not, length, take, min, if◌then◌else◌}
use Rattle.std.specs.List.{list_any}
use Rattle.ub_base.specs.Held.{Held}

-- a count that stands still at the end of its type
abbrev pub one_more : ℕ → ℕ
one_more count = min (count + 1) (2 ^ 64 - 1)

-- the contents, how many calls there were, how often a read and a write failed, and the numbers of the calls that are to
-- fail
pub record MemoryFiles : Type 0 where
  pub files : Held
  pub calls : ℕ
  pub read_faults : ℕ
  pub write_faults : ℕ
  pub failing : List ℕ

abbrev pub no_files : MemoryFiles
no_files = record { files = []; calls = 0; read_faults = 0; write_faults = 0; failing = [] }

-- the next call is to fail
abbrev pub call_fails : List ℕ → ℕ → Bool
call_fails failing calls = list_any (λ call. call == calls) failing

-- a fetch was counted, and so was its fault
abbrev pub after_fetch : MemoryFiles → MemoryFiles
after_fetch m =
    record m {
      calls = one_more m.calls;
      read_faults = if call_fails m.failing m.calls then one_more m.read_faults else m.read_faults;
    }

-- a keep that left these files was counted, and so was its fault
abbrev pub after_keep : MemoryFiles → Held → MemoryFiles
after_keep m files =
    record m {
      files = files;
      calls = one_more m.calls;
      write_faults = if call_fails m.failing m.calls then one_more m.write_faults else m.write_faults;
    }

-- the bytes that were put, how many more have room, how many calls there were, how often one failed, and the numbers of
-- the calls that are to fail
pub record MemorySink : Type 0 where
  pub bytes : List ℕ
  pub room : ℕ
  pub calls : ℕ
  pub faults : ℕ
  pub failing : List ℕ

abbrev pub no_bytes : MemorySink
no_bytes = record { bytes = []; room = 0; calls = 0; faults = 0; failing = [] }

-- a put of these bytes is to fail, or has bytes and no room
abbrev pub put_fails : MemorySink → List ℕ → Bool
put_fails m more = call_fails m.failing m.calls || ((min m.room (length more) == 0) && not (length more == 0))

-- a put of these bytes took as many as have room, or was counted as a fault
abbrev pub after_put : MemorySink → List ℕ → MemorySink
after_put m more =
    if put_fails m more
    then record m { calls = one_more m.calls; faults = one_more m.faults }
    else record m { bytes = m.bytes ++ take (min m.room (length more)) more; room = m.room - min m.room (length more); calls = one_more m.calls }
