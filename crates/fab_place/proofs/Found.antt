-- Where the items of a design are found in the implementation in which they stand.
use Rattle.std.proofs.Common.{◌≡◌, ℕ, ◌<◌, List, zero, suc, refl, inl, inr, arith, length, nat_eq}
use Rattle.std.proofs.lemmas.Bool.{eq-eqb}
use Rattle.std.proofs.lemmas.Bool.Decides.{eqb_tells}
use Rattle.fab_model.specs.Tiles.{counted}
use Rattle.fab_fabric.specs.declared.wire.Site.{Site}
use Rattle.fab_netlist.specs.Packed.{PlainPacked}
use Rattle.fab_ways_laws.specs.fab_legal_Sinks.{site_of}
use Rattle.fab_ways_laws.specs.Placing.{cell_site}
use Rattle.fab_place.specs.Standing.{site_at, standing}

found_key : (n : ℕ) (key : ℕ → ℕ) (g : ℕ → Site) → ((i j : ℕ) → key i ≡ key j → i ≡ j) → (k : ℕ) → k < n → site_of nat_eq (counted n (λ i. (key i, g i))) (key k) ≡ g k
unfolding counted
found_key zero key g apart k low = absurd (omega (arith, low))
found_key (suc n) key g apart zero low = rw (eq-eqb (key 0) (key 0) refl)
found_key (suc n) key g apart (suc k) low = elim (eqb_tells (key 0) (key (suc k))) [
  | inl t ↦ absurd (omega (arith, apart 0 (suc k) t.1))
  | inr f ↦ rw f.0 (found_key n (λ i. key (suc i)) (λ i. g (suc i)) (λ i j e. omega (arith, apart (suc i) (suc j) e)) k (omega (arith, low)))
]

-- a cell is found on the site of its item
pub cell_found : (packed : PlainPacked) (sites : List Site) (numbers : List ℕ) (number : ℕ) → number < length packed.cells → cell_site (standing packed sites numbers) number ≡ site_at sites numbers number
cell_found packed sites numbers number low = found_key (length packed.cells) (λ i. i) (site_at sites numbers) (λ i j e. e) number low
