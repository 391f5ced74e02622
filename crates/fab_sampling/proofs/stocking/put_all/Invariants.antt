use Rattle.std.proofs.Common.{◌≡◌, map, take}
use Rattle.fab_desk.specs.Memory.{map_of}
use Rattle.fab_outputs.specs.Storing.{with_outputs}
use Rattle.fab_sampling.specs.Sampling.{stored_file}
use Rattle.fab_sampling.proofs.stocking.put_all.Given as goal

abbrev pub invariant-loop-file : goal.invariant-loop-file
invariant-loop-file l = map_of l.shelf ≡ with_outputs (map stored_file (take l.file-index l.fn.files)) (map_of l.fn.shelf)
