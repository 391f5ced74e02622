use Rattle.fab_frames.proofs.Streams.{stream_fine}
use Rattle.fab_frames.proofs.laws.streams_are_not_refused.Goals as goal

pub returns : goal.returns
returns c = stream_fine
