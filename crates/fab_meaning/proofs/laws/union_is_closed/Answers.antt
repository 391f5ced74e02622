use Rattle.fab_meaning.specs.Loading.{IsStreamOf}
use Rattle.fab_meaning.proofs.Loaded.{union_closed, within_more}
use Rattle.fab_meaning.proofs.laws.union_is_closed.Goals as goal

pub returns : goal.returns
returns c = record {
  closed = λ text names some others a b. union_closed text (IsStreamOf text names) some others a b;
  grows = λ text names some all more p w. within_more text (IsStreamOf text names) some all more p w;
}
