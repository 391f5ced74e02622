use Rattle.fab_frames.proofs.Streams.{stream_read}
use Rattle.fab_frames.proofs.read.bits_of.Goals as goal

pub returns-clause-read_back : goal.returns-clause-read_back
returns-clause-read_back c = λ bits are same.
    stream_read c.args.fabric.now c.args.file.now c.args.words.now bits c.read_words.result c.is_well_made.ensures.is_fabric
    c.read_words.ensures.are_bits c.read_words.ensures.stream c.read_words.ensures.refused are same
