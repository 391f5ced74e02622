use Rattle.fab_spelled_fabrics_laws.proofs.Readings.{spelled_keep}
use Rattle.fab_spelled_fabrics_laws.proofs.Sizes.{HasName, IsSized, sizes_kept}
use Rattle.fab_spelled_fabrics_laws.proofs.spelled_fabrics_are_sized.Goals as goal

pub returns : goal.returns
returns c = record {
  names = λ files name fabric spelled k d few. (spelled_keep HasName IsSized sizes_kept files name fabric spelled k d few).name;
  bits = λ files name fabric spelled k d few. (spelled_keep HasName IsSized sizes_kept files name fabric spelled k d few).few_bits;
  inputs = λ files name fabric spelled k d few. (spelled_keep HasName IsSized sizes_kept files name fabric spelled k d few).few_inputs;
}
