use Rattle.std.proofs.Common.{◌≡◌, ◌++◌, drop, take}
use Rattle.fab_tables.specs.Config.{bits_twice, entries_with, entry_bits}
use Rattle.fab_tables.proofs.config.push_entries.Given as goal

abbrev pub invariant-loop-place : goal.invariant-loop-place
invariant-loop-place l = record {
  so_far : l.entries.items ≡ l.fn.entries.items ++ take l.place (entries_with l.frame l.bits l.ones);
  twice : bits_twice (entry_bits l.entries.items) (drop l.place l.bits) ≡ bits_twice (entry_bits l.fn.entries.items) l.bits;
}
