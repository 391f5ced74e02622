use Rattle.std.proofs.Common.{◌≡◌, ◌∙◌, ap, sym}
use Rattle.std.specs.List.{flat_map}
use Rattle.std.proofs.lemmas.Result.{err_from_is_err_and}
use Rattle.fab_model.specs.declared.mode.Mode.TheVariants as modes
use Rattle.fab_model.specs.Grid.{PlainFabric}
use Rattle.fab_fabric.specs.Bits.{plain_bits}
use Rattle.fab_frames.specs.Bytes.{word_bytes}
use Rattle.fab_frames.specs.Stream.{stream_mode}
use Rattle.fab_frames.proofs.Modes.{mode_told}
use Rattle.fab_flow.proofs.PartialMade.{features_wrong}
use Rattle.fab_flow.proofs.partial.exchange.Goals as goal

in_frames : (fabric : PlainFabric) → fabric.mode ≡ modes.Frames → stream_mode fabric ≡ modes.Frames
in_frames fabric is = sym (mode_told fabric modes.Frames (sym is))

pub partial-requires-clause-frames : goal.partial-requires-clause-frames
partial-requires-clause-frames c = in_frames c.args.fabric.now c.requires.frames

pub returns-in_err-bits-clause-refused : goal.returns-in_err-bits-clause-refused
returns-in_err-bits-clause-refused c =
    let residual = err_from_is_err_and c.from_residual-in_err-bits.result c.from_residual-in_err-bits.ensures.1 in
    rw (residual.1, residual.2)
    (features_wrong c.args.fabric.now c.args.implementation.now c.args.features.now c.args.first c.args.last c.in_err-bits.field-0.0 c.in_ok-free_columns.ensures.within
    c.in_ok-free_columns.ensures.unused c.in_err-bits.ensures.refused)

-- The law asks that the columns are free, and says the rest of any design of which the implementation is legal.
pub returns-clause-made : goal.returns-clause-made
returns-clause-made c =
    let bits = c.in_ok-bits.bits in
    let fabric = c.args.fabric.now in
    let exchanges = c.unused_columns_exchange.ensures in
    record {
      bits = bits;
      are = c.in_ok-bits.ensures.are;
      bit_map = c.in_ok-bits.ensures.bits;
      bytes_are = c.in_ok-to_bytes.ensures ∙ ap (flat_map word_bytes) (c.deref.ensures.value ∙ c.in_ok-words.ensures);
      exchanges = λ text netlist fixed is made acyclic legal.
          exchanges fabric text netlist fixed c.args.implementation.now c.args.first c.args.last (plain_bits bits) (in_frames fabric c.requires.frames) c.is_well_made.ensures.is_fabric c.is_well_made.ensures.are_tiles
          is made acyclic legal c.in_ok-free_columns.ensures.unused;
    }
