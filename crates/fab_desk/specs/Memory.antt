-- The desk and the sink in memory.
use Rattle.std.specs.Prelude.{ℕ, ◌+◌, ◌^◌, ◌-◌, ◌==◌, Bool, List, option_map, find, map, reverse, min, nat_lt, if◌then◌else◌, String, string_bytes}
use Rattle.std.specs.Global.{Vec, Global}
use Rattle.std.specs.List.{list_any}
use Rattle.std.specs.Str.{bytes_eq}
use Rattle.fab_desk.specs.Files.{Map}
use Rattle.fab_desk.specs.declared.outside.DeskFault.{DeskFault}
use Rattle.fab_desk.specs.declared.outside.DeskFault.TheVariants as desk_faults
use Rattle.fab_desk.specs.declared.outside.SinkFault.{SinkFault}
use Rattle.fab_desk.specs.declared.outside.SinkFault.TheVariants as sink_faults

-- whether the call of this number is to fail
abbrev pub is_listed : List ℕ → ℕ → Bool
is_listed failing call = list_any (λ n. n == call) failing

-- a count after one more call; at its ceiling it stays
abbrev pub one_more : ℕ → ℕ
one_more count = min (count + 1) (2 ^ 64 - 1)

-- whether the count can rise
abbrev pub is_below_ceiling : ℕ → Bool
is_below_ceiling count = nat_lt count (2 ^ 64 - 1)

-- the fault of a call of a desk that fails after this many: where it can't be counted, it is called want of memory
abbrev pub desk_failure : ℕ → DeskFault
desk_failure count = if is_below_ceiling count then desk_faults.Failed else desk_faults.Memory

-- the same of a sink
abbrev pub sink_failure : ℕ → SinkFault
sink_failure count = if is_below_ceiling count then sink_faults.Failed else sink_faults.Memory

-- a file as it is kept: the bytes of its name, and its own
abbrev pub kept : String Global × Vec ℕ → List ℕ × List ℕ
kept file = (string_bytes file.0, file.1.items)

-- the bytes under each name: of two files of one name the first counts
abbrev pub map_of : List (List ℕ × List ℕ) → Map
map_of files = λ name. option_map (λ file. file.1) (find (λ file. bytes_eq file.0 name) files)

-- files as a desk in memory keeps them: the last comes first, so that the last of a name counts
abbrev pub newest_first : List (String Global × Vec ℕ) → List (List ℕ × List ℕ)
newest_first files = map kept (reverse files)

-- a desk in memory: the names and the bytes of its files, the newest first, the numbers of the calls that are to fail, how
-- many calls there were, and how many reads and writes failed
pub record MemoryDesk : Type 0 where
  pub files : List (List ℕ × List ℕ)
  pub failing : List ℕ
  pub calls : ℕ
  pub reads : ℕ
  pub writes : ℕ

-- a sink in memory: the bytes so far, the numbers of the calls that are to fail, how many calls there were, and how many
-- failed
pub record MemorySink : Type 0 where
  pub bytes : List ℕ
  pub failing : List ℕ
  pub calls : ℕ
  pub faults : ℕ

-- how many reads and writes of the device failed
pub record Counts : Type 0 where
  pub reads : ℕ
  pub writes : ℕ
