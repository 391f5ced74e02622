-- How many sites the fabric of a sample has.
use Rattle.std.specs.Prelude.{◌≡◌, ◌≤◌, ℕ, ◌*◌, length}
use Rattle.fab_kinds.specs.declared.kind.Kind.TheVariants as kinds
use Rattle.fab_model.specs.Grid.{PlainFabric}
use Rattle.fab_fabric.specs.Sites.{sites_of_kind}
use Rattle.fab_sample_laws.specs.Fabrics.{IsSampleFabric}

-- two look-up tables in each tile of logic, and four pads for each row
pub record HasSites (size : ℕ) (fabric : PlainFabric) : Type 0 where
  pub tables : length (sites_of_kind fabric kinds.Lut4c) ≡ 2 * size * size
  pub pads : length (sites_of_kind fabric kinds.Io) ≡ 4 * size

abbrev pub SampleFabricsHaveSites : Type 0
SampleFabricsHaveSites = (size : ℕ) (fabric : PlainFabric) → 2 ≤ size → size ≤ 16 → IsSampleFabric size fabric → HasSites size fabric
