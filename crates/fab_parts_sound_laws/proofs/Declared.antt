-- How the ports of a module are found by their names, where those are apart.
use Rattle.std.proofs.Common.{◌≡◌, ℕ, zero, suc, ◌<◌, true, false, List, [], ◌∷◌, map, length, get_or, ap, arith, Some, Contains}
use Rattle.std.specs.Str.{bytes_eq}
use Rattle.std.proofs.lemmas.List.Elements.{All-contains}
use Rattle.std.proofs.lemmas.Slice.Eq.{bytes_eq-Decides}
use Rattle.fab_syntax.specs.declared.tree.Port.{Port}
use Rattle.fab_syntax.specs.Plain.{PlainItem}
use Rattle.fab_syntax.specs.Declarations.{declared_shape, is_input}
use Rattle.fab_tile_drives_laws.proofs.fab_meaning_Declared.{bytes_apart}
use Rattle.fab_parts_sound_laws.proofs.Lists.{pairs_head, pairs_tail, contains_map}
use Rattle.fab_parts_sound_laws.proofs.Names.{Differ, AreApart}

abbrev pub port_names : List Port → List (List ℕ)
port_names ports = map (λ (port : Port). port.name) ports

module _ (port : Port) where
  first_told : (first : Port) → first ≡ port → bytes_eq first.name port.name ≡ true
  first_told first is = (bytes_eq-Decides first.name port.name).1 (ap (λ (p : Port). p.name) is)

  -- a port before it has another name
  others_told : (first : Port) (ports : List Port) (k : ℕ) → AreApart (port_names (first ∷ ports)) → k < length ports → get_or ports k port ≡ port → bytes_eq first.name port.name ≡ false
  others_told first ports k apart within is =
      bytes_apart first.name port.name
      (All-contains (Differ first.name) (port_names ports) port.name (pairs_head Differ first.name (port_names ports) apart)
      (contains_map (λ (p : Port). p.name) ports port (k, within, is)))

  shape_at : (ports : List Port) (items : List PlainItem) (k : ℕ) → AreApart (port_names ports) → k < length ports → get_or ports k port ≡ port →
      declared_shape ports items port.name ≡ Some port.shape
  shape_at [] items k apart within is = absurd (omega arith)
  shape_at (first ∷ ports) items zero apart within is = let here = first_told first is in rw here (ap (λ (p : Port). Some p.shape) is)
  shape_at (first ∷ ports) items (suc k) apart within is =
      let few : k < length ports = omega arith in
      let other = others_told first ports k apart few is in
      rw other (shape_at ports items k (pairs_tail Differ first.name (port_names ports) apart) few is)

  input_at : (ports : List Port) (k : ℕ) → AreApart (port_names ports) → k < length ports → get_or ports k port ≡ port → is_input ports port.name ≡ port.input
  input_at [] k apart within is = absurd (omega arith)
  input_at (first ∷ ports) zero apart within is = let here = first_told first is in rw here (ap (λ (p : Port). p.input) is)
  input_at (first ∷ ports) (suc k) apart within is =
      let few : k < length ports = omega arith in
      let other = others_told first ports k apart few is in
      rw other (input_at ports k (pairs_tail Differ first.name (port_names ports) apart) few is)

  -- a port is declared with its shape
  pub port_declared : (ports : List Port) (items : List PlainItem) → AreApart (port_names ports) → Contains ports port → declared_shape ports items port.name ≡ Some port.shape
  port_declared ports items apart there = shape_at ports items there.0 apart there.1 there.2

  -- and with its direction
  pub port_direction : (ports : List Port) → AreApart (port_names ports) → Contains ports port → is_input ports port.name ≡ port.input
  port_direction ports apart there = input_at ports there.0 apart there.1 there.2
