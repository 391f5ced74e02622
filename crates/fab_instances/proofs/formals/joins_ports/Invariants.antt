use Rattle.std.proofs.Common.{◌≡◌, true, map, take}
use Rattle.fab_instances.specs.Formals.{fits_before, formal_of}
use Rattle.fab_bits.specs.Keys.{key_names}
use Rattle.fab_instances.proofs.formals.joins_ports.Given as goal

abbrev pub invariant-loop-word : goal.invariant-loop-word
invariant-loop-word l = record {
  formals : key_names l.formals.keys ≡ map formal_of (take l.word-index l.words);
  fits : fits_before (key_names l.ports.keys) l.words l.word-index ≡ true;
}
