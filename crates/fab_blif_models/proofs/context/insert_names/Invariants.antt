use Rattle.std.proofs.Common.{◌≡◌, map, take}
use Rattle.std.specs.Str.{bytes_eq}
use Rattle.indexmap.specs.IndexSet.{insert_all}
use Rattle.fab_bits.specs.Keys.{key_names}
use Rattle.fab_blif_models.proofs.context.insert_names.Given as goal

abbrev pub invariant-loop-name : goal.invariant-loop-name
invariant-loop-name l = key_names l.set.keys ≡ insert_all bytes_eq (key_names l.fn.set.keys) (map (λ w. w.now) (take l.name-index l.names))
