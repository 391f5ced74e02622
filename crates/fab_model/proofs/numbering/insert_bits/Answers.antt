use Rattle.fab_model.specs.Rows.{bit_name}
use Rattle.fab_kinds.specs.fab_bits.specs.Keys.{key_names}
use Rattle.fab_model.proofs.Inserts.{bits_inserted, no_bits}
use Rattle.fab_model.proofs.numbering.insert_bits.Goals as goal

pub loop-bit-init : goal.loop-bit-init
loop-bit-init c = no_bits (bit_name c.args.side.now) (key_names c.args.places.now.keys)

pub loop-bit-preserved : goal.loop-bit-preserved
loop-bit-preserved c =
    bits_inserted (bit_name c.args.side.now) (key_names c.args.places.now.keys) (key_names c.loop-bit.places.keys) (key_names c.insert_key.new.places.keys)
    c.loop-bit.bit c.in_ok-key.key.items c.loop-bit.invariant c.in_ok-insert_key.ensures c.in_ok-key.ensures
