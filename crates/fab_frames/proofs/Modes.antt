-- The words of a stream by its mode.
use Rattle.std.proofs.Common.{◌≡◌, ap}
use Rattle.fab_model.specs.declared.mode.Mode.{Mode}
use Rattle.fab_model.specs.declared.mode.Mode.TheVariants as modes
use Rattle.fab_model.specs.Grid.{PlainFabric}
use Rattle.fab_frames.specs.Stream.{stream_mode, all_frames, whole_chain, parts_in, parts}

pub mode_told : (fabric : PlainFabric) (mode : Mode) → mode ≡ fabric.mode → mode ≡ stream_mode fabric
unfolding stream_mode
mode_told fabric mode is = is

pub parts_of : (fabric : PlainFabric) (mode : Mode) → stream_mode fabric ≡ mode → parts fabric ≡ parts_in mode fabric
unfolding parts
parts_of fabric mode is = ap (λ m. parts_in m fabric) is

pub frames_parts : (fabric : PlainFabric) → stream_mode fabric ≡ modes.Frames → parts fabric ≡ all_frames fabric
frames_parts fabric is = parts_of fabric modes.Frames is

pub chain_parts : (fabric : PlainFabric) → stream_mode fabric ≡ modes.Chain → parts fabric ≡ whole_chain fabric
chain_parts fabric is = parts_of fabric modes.Chain is
