-- What is printed of a legal implementation is no longer than a file may be.
use Rattle.std.specs.Prelude.{◌≡◌, ◌≤◌, ℕ, All, List, length}
use Rattle.std.specs.List.{flat_map}
use Rattle.fab_base.specs.declared.TheConstants.{MAX_FILE_BYTES}
use Rattle.fab_model.specs.Drive.{PlainBits}
use Rattle.fab_model.specs.Grid.{PlainFabric}
use Rattle.fab_fabric.specs.Fabric.{IsFabric, AreTiles}
use Rattle.fab_netlist.specs.Packed.{PlainPacked}
use Rattle.fab_implementation.specs.Plain.{Pad, PlainImplementation, reset_name}
use Rattle.fab_legal.specs.Legal.{IsLegal}
use Rattle.fab_legal.specs.WellMade.{IsWellMadePacked, ports}
use Rattle.fab_frames.specs.Bytes.{word_bytes}
use Rattle.fab_frames.specs.Stream.{stream}
use Rattle.fab_state.specs.Spelled.{state_text}
use Rattle.fab_impl.specs.Names.{wire_names}
use Rattle.fab_impl.specs.Spelled.{implementation_text}
use Rattle.fab_legal_states_laws.specs.fab_use_defs_Registers.{design_state}

-- the words of a bitstream, with four bytes each
abbrev pub BitstreamsAreShort : Type 0
BitstreamsAreShort = (fabric : PlainFabric) (bits : PlainBits) → IsFabric fabric → length (flat_map word_bytes (stream fabric bits)) ≤ MAX_FILE_BYTES

-- Where no name has more bytes than these, as many edges as a fabric can have wires are no longer than a file may be.
abbrev pub most_name_bytes : ℕ
most_name_bytes = 24

abbrev pub IsShortName : List ℕ → Type 0
IsShortName name = length name ≤ most_name_bytes

-- the text of a legal implementation that has the reset port of the design, where the names of the fabric's wires and of the design's ports are short
abbrev pub LegalImplementationsAreShort : Type 0
LegalImplementationsAreShort =
    (fabric : PlainFabric) (packed : PlainPacked) (fixed : List Pad) (implementation : PlainImplementation) → IsFabric fabric → AreTiles fabric → IsWellMadePacked packed →
    IsLegal fabric packed fixed implementation → implementation.reset ≡ reset_name packed → All IsShortName (wire_names fabric) → All IsShortName (ports packed) →
    length (implementation_text fabric implementation) ≤ MAX_FILE_BYTES

-- and the text of its state, where those of the ports are
abbrev pub LegalStatesAreShort : Type 0
LegalStatesAreShort =
    (fabric : PlainFabric) (packed : PlainPacked) (fixed : List Pad) (implementation : PlainImplementation) → IsFabric fabric → IsWellMadePacked packed →
    IsLegal fabric packed fixed implementation → All IsShortName (ports packed) → length (state_text (design_state packed implementation)) ≤ MAX_FILE_BYTES
