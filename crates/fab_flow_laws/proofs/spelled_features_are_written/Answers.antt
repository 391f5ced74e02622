use Rattle.fab_spelled_fabrics_laws.proofs.Whole.{spelled_fabric, spelled_tiles, spelled_words}
use Rattle.fab_flow_laws.proofs.BitsWritten.{bits_written}
use Rattle.fab_flow_laws.proofs.spelled_features_are_written.Goals as goal

pub returns : goal.returns
returns c = λ files name fabric spelled bits.
    bits_written fabric (spelled_fabric files name fabric spelled) (spelled_tiles files name fabric spelled) (spelled_words files name fabric spelled) bits
