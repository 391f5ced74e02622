-- Sinks that stand in their nets, by numbers.
use Rattle.std.specs.Prelude.{ℕ, List, [], get_or, Contains, nat_eq}
use Rattle.std.specs.List.{position_or_len}
use Rattle.fab_implementation.specs.fab_fabric.specs.declared.wire.Wire.{Wire}
use Rattle.fab_implementation.specs.fab_netlist.specs.declared.net_id.NetId.{NetId}
use Rattle.fab_legal.specs.inner.Roots.{IsSmall, net_number}
use Rattle.fab_legal.specs.declared.placed.Placed.{Placed}

-- a wire stands in a net, where these are the numbers of the nets and the wires of each
pub record Stands (placed : Placed) (numbers : List ℕ) (lists : List (List ℕ)) (net : NetId) (wire : Wire) : Type 0 where
  pub small : IsSmall placed net
  pub listed : Contains numbers (net_number placed net)
  pub here : Contains (get_or lists (position_or_len (nat_eq (net_number placed net)) numbers) []) wire.0

abbrev pub SinkStands : Placed → (numbers : List ℕ) → (lists : List (List ℕ)) → List (NetId × Wire) → NetId × Wire → Type 0
SinkStands placed numbers lists before sink = Stands placed numbers lists sink.0 sink.1
