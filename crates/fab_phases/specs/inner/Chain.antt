-- What bits that come one a tick leave in a chain of flip-flops, by numbers.
use Rattle.std.specs.Prelude.{◌≡◌, ℕ, suc, ◌-◌, ◌*◌, ◌/◌, ◌%◌, ◌^◌, ◌<◌, Bool, List, [], ◌∷◌, length, reverse, nat_eq, nat_lt, get_or, slice_get, Some, if◌then◌else◌}
use Rattle.std.specs.List.{flat_map}
use Rattle.fab_systems_laws.specs.Ternary.{known, Tern as PlainTern}
use Rattle.fab_compiled.specs.Leading.{PointTerns}
use Rattle.fab_network.specs.declared.network.Network.{Network}
use Rattle.fab_demand.specs.Asked.{Asked}
use Rattle.fab_phases.specs.Loading.{Takes, before_at, point_at}
use Rattle.fab_phases.specs.Words.{word_bits}
use Rattle.fab_phases.specs.declared.loading.LoadedFlop.{LoadedFlop}

-- all bits of words as they come, the last bit of each first
abbrev pub bits_of : (words : List ℕ) → List Bool
bits_of words = flat_map (λ word. reverse (word_bits word)) words

-- ---- tick by tick

-- an input has a bit
abbrev pub fed : (source : ℕ) → (bit : Bool) → PointTerns → PointTerns
fed source bit held point = if nat_eq point source then known bit else held point

-- each flip-flop takes what the one before it has, and the first what this point has
abbrev pub ticked : (before : ℕ) → List LoadedFlop → PointTerns → PointTerns
ticked before [] held point = held point
ticked before (flop ∷ flops) held point = if nat_eq point flop.point then held before else ticked flop.point flops held point

abbrev pub behind : (source : ℕ) → List LoadedFlop → (bits : List Bool) → PointTerns → PointTerns
behind source flops [] held = held
behind source flops (bit ∷ bits) held = behind source flops bits (ticked source flops (fed source bit held))

-- ---- at once

-- the bit that comes to a place of a chain: places fill words from the last one, and each from bit 0
abbrev pub bit_for : (words : List ℕ) → (place : ℕ) → Bool
bit_for words place = nat_eq (get_or words (length words - 1 - place / 32) 0 / 2 ^ (place % 32) % 2) 1

-- what comes to a place: a bit of the words, or what a place before it held
abbrev pub comes_to : List LoadedFlop → (words : List ℕ) → PointTerns → (place : ℕ) → PlainTern
comes_to flops words held place =
    if nat_lt (place / 32) (length words) then known (bit_for words place) else held (point_at flops (place - 32 * length words))

-- All bits of words have gone in.
abbrev pub IsMoved : List LoadedFlop → (source : ℕ) → (words : List ℕ) → (old new : PointTerns) → Type 0
IsMoved flops source words old new = (point : ℕ) → new point ≡ behind source flops (bits_of words) old point

-- so many of the first flip-flops stand in a chain
pub record IsInChainBefore (network : Network) (asked : Asked) (source : ℕ) (flops : List LoadedFlop) (count : ℕ) : Type 0 where
  pub takes : (place : ℕ) (flop : LoadedFlop) → place < count → slice_get flops place ≡ Some flop → Takes network asked flop.next (before_at source flops place)
  pub rises : (place : ℕ) (flop next : LoadedFlop) → suc place < count → slice_get flops place ≡ Some flop → slice_get flops (suc place) ≡ Some next → flop.point < next.point
