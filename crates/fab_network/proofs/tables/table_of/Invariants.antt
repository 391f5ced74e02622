use Rattle.std.proofs.Common.{◌≡◌, ℕ, ◌<◌, length, get_or}
use Rattle.fab_ternary.specs.declared.Tern.TheVariants.{No}
use Rattle.fab_network.proofs.Entries.{AreOthersSame, IsEntry}
use Rattle.fab_network.proofs.tables.table_of.Given as goal

-- the entries so far
abbrev pub invariant-loop-place : goal.invariant-loop-place
invariant-loop-place l = record {
  long : length l.entries ≡ 81;
  others : AreOthersSame l.inputs l.initial.terns l.terns;
  made : (k : ℕ) → k < l.place → IsEntry l.trees l.leads l.marks l.initial.terns l.source l.inputs k (get_or l.entries k No);
}
