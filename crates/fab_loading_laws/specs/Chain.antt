-- What bits that come one a tick leave in a chain of flip-flops, apart from any text.
use Rattle.std.specs.Prelude.{◌≡◌, Bool, List, [], ◌∷◌, length, map, reverse, take}
use Rattle.std.specs.List.{flat_map}
use Rattle.fab_gen_loader.specs.fab_model.specs.declared.mode.Mode.TheVariants as modes
use Rattle.fab_gen_loader.specs.fab_model.specs.Grid.{PlainFabric}
use Rattle.fab_gen_loader.specs.fab_model.specs.Drive.{PlainBits}
use Rattle.fab_frames.specs.fab_fabric.specs.Places.{PlacedTile}
use Rattle.fab_frames.specs.Positions.{bit_in, chain}
use Rattle.fab_frames.specs.Stream.{stream_mode}
use Rattle.fab_loading_laws.specs.Streams.{stream_words}

-- ---- one chain

-- The bit at position 0 stands first in the list. There comes in what is offered, each other bit moves on by a position, and the last goes out.
abbrev pub shifted : (held : List Bool) → (offered : Bool) → List Bool
shifted held offered = take (length held) (offered ∷ held)

-- after all these, tick by tick
abbrev pub after_bits : (held : List Bool) → (offered : List Bool) → List Bool
after_bits held [] = held
after_bits held (bit ∷ offered) = after_bits (shifted held bit) offered

-- what goes out behind a chain to which a bit comes: its last bit, and of no bits the one that comes
abbrev pub chain_out : (comes : Bool) → (held : List Bool) → Bool
chain_out comes [] = comes
chain_out comes (bit ∷ held) = chain_out bit held

-- ---- tiles one behind the other

-- To each tile comes what goes out of the bits of the one before it, to the first what is offered.
abbrev pub IsHandedOn : (comes : PlacedTile → Bool) → (held : PlacedTile → List Bool) → (offered : Bool) → List PlacedTile → Type 0
IsHandedOn comes held offered [] = Unit {0}
IsHandedOn comes held offered (placed ∷ tiles) = (comes placed ≡ offered) × IsHandedOn comes held (chain_out offered (held placed)) tiles

-- Then their bits are one chain: what each takes at a tick is what the chain takes.
abbrev pub TilesAreOneChain : Type 0
TilesAreOneChain =
    (comes : PlacedTile → Bool) (held : PlacedTile → List Bool) (offered : Bool) (tiles : List PlacedTile) → IsHandedOn comes held offered tiles →
    flat_map (λ placed. shifted (held placed) (comes placed)) tiles ≡ shifted (flat_map held tiles) offered

-- ---- what a bitstream leaves

-- the bits of a fabric in the order of their positions
abbrev pub chain_bits : PlainFabric → PlainBits → List Bool
chain_bits fabric bits = map (bit_in bits) (chain fabric)

-- the words of a bitstream bit by bit, the last bit of each first
abbrev pub stream_bits : PlainFabric → PlainBits → List Bool
stream_bits fabric bits = flat_map reverse (stream_words fabric bits)

-- Whatever a chain held, a bitstream leaves its bits, each at its position.
abbrev pub ChainLoads : Type 0
ChainLoads =
    (fabric : PlainFabric) (bits before : PlainBits) → stream_mode fabric ≡ modes.Chain →
    after_bits (chain_bits fabric before) (stream_bits fabric bits) ≡ chain_bits fabric bits
