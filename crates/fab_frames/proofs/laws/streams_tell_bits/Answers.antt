use Rattle.fab_frames.proofs.Streams.{bits_told}
use Rattle.fab_frames.proofs.laws.streams_tell_bits.Goals as goal

pub returns : goal.returns
returns c = bits_told
