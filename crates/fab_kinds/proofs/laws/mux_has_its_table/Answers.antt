use Rattle.std.proofs.Common.{slice_index_or, false}
use Rattle.fab_kinds.specs.Mux.{mux_pins}
use Rattle.fab_kinds.proofs.MuxTable.{tree_shows}
use Rattle.fab_kinds.proofs.laws.mux_has_its_table.Goals as goal

pub returns : goal.returns
returns c pins config = tree_shows (slice_index_or config 1 false) (slice_index_or config 0 false) (mux_pins pins)
