use Rattle.std.proofs.Common.{◌≡◌, ◌<◌, ◌+◌, ◌-◌, ◌^◌, false, get_or}
use Rattle.fab_model.specs.fab_bits.specs.Bits.{number, first_bits}
use Rattle.fab_fabric.proofs.fabric.drives.select_value.Given as goal

-- the bits taken so far are the last ones
abbrev pub invariant-loop-taken : goal.invariant-loop-taken
invariant-loop-taken l = record {
  value : l.value ≡ number (first_bits l.taken (λ place. get_or l.bits (l.low + (l.width - l.taken + place)) false));
  small : l.value < 2 ^ l.taken;
}
