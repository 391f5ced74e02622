-- The points of the index of a cell.
use Rattle.std.proofs.Common.{◌≡◌, ◌<◌, ℕ, zero, suc, List, ◌∷◌, codes, length, map, take, drop, refl, subst, Some, slice_get}
use Rattle.fab_kinds.specs.declared.kind.Kind.TheVariants as kinds
use Rattle.fab_kinds.specs.Pins.{input_names}
use Rattle.fab_meaning.specs.Points.{Point}
use Rattle.fab_fabric.specs.declared.wire.Site.{Site}
use Rattle.fab_netlist.specs.Packed.{PlainCell}
use Rattle.fab_points_laws.specs.fab_use_defs_Sites.{bel_point}

module _ (site : Site) (cell : PlainCell) where
  -- what holds of x and of each used pin holds of each point of the index
  pub index_each : (P : ℕ → Point → Type 0) → (0 < length cell.inputs → P 0 (bel_point site (codes "x"))) →
      ((pin : ℕ) (name : List ℕ) → pin < length cell.inputs → slice_get (input_names kinds.Lut4c) pin ≡ Some name → P pin (bel_point site name)) →
      (k : ℕ) (p : Point) → k < length cell.inputs → slice_get (bel_point site (codes "x") ∷ map (bel_point site) (take 3 (drop 1 (input_names kinds.Lut4c)))) k ≡ Some p → P k p
  index_each P first each zero p few is = (let e : bel_point site (codes "x") ≡ p = cc in subst (P 0) e (first few))
  index_each P first each (suc zero) p few is = (let e : bel_point site (codes "I1") ≡ p = cc in subst (P 1) e (each 1 (codes "I1") few refl))
  index_each P first each (suc (suc zero)) p few is = (let e : bel_point site (codes "I2") ≡ p = cc in subst (P 2) e (each 2 (codes "I2") few refl))
  index_each P first each (suc (suc (suc zero))) p few is = (let e : bel_point site (codes "I3") ≡ p = cc in subst (P 3) e (each 3 (codes "I3") few refl))
  index_each P first each (suc (suc (suc (suc k)))) p few is = cc
