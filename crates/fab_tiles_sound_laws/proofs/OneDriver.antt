-- Each port and each net of a tile's module has the drivers that it has to have.
use Rattle.std.proofs.Common.{◌≡◌, ℕ, zero, suc, ◌+◌, ◌<◌, ◌≤◌, true, false, List, [], ◌∷◌, ◌++◌, map, get_or, length, refl, sym, ap, ◌∙◌, subst, inl, inr, arith, All, Contains, if◌then◌else◌}
use Rattle.std.specs.Str.{bytes_eq}
use Rattle.std.proofs.lemmas.Bool.{cases_Bool}
use Rattle.std.proofs.lemmas.List.Elements.{All-nil, All-cons, All-head, All-tail, All-append, All-map, All-weaker, All-contains_itself, Contains-append_left, Contains-append_right}
use Rattle.std.proofs.lemmas.Slice.Eq.{bytes_eq-Decides}
use Rattle.fab_syntax.specs.declared.tree.Shape.TheVariants.{Scalar, Vector}
use Rattle.fab_syntax.specs.declared.tree.Port.{Port}
use Rattle.fab_syntax.specs.Plain.{PlainExpr, PlainItem, PlainModule, wire, reg, assign, latch, clocked, instance}
use Rattle.fab_syntax.specs.Declarations.{times_driven, times_held}
use Rattle.fab_syntax.specs.Sound.{IsAssignedOnce, DirectionFits, PortIsDriven, ItemIsDriven}
use Rattle.fab_model.specs.declared.mode.Mode.{Mode}
use Rattle.fab_model.specs.declared.tiles.Bel.{Bel}
use Rattle.fab_model.specs.Tiles.{PlainTile, matrix_names, tile_bits, IsTile, bits_before}
use Rattle.fab_parts_sound_laws.specs.fab_gen_tile_Words.{IsNamed}
use Rattle.fab_parts_sound_laws.specs.fab_gen_tile_Names.{bits_name}
use Rattle.fab_parts_sound_laws.specs.fab_gen_tile_TileModule.{tile_ports, bits_wire, config_instances, matrix_output_names, matrix_instances, bel_instance, bel_instances, tile_items, tile_module}
use Rattle.std.specs.List.{enumerate_from}
use Rattle.fab_parts_sound_laws.proofs.Counts.{times, times_once, driven_times}
use Rattle.fab_parts_sound_laws.proofs.Names.{nets, net_names}
use Rattle.fab_parts_sound_laws.proofs.Lists.{contains_first, contains_later, contains_map}
use Rattle.fab_tiles_sound_laws.specs.Has.{HasModules}
use Rattle.fab_tiles_sound_laws.proofs.Apart.{declarations, later_items, instances, items_split, bits_names, declared_names, nets_apart, each_unconfigured, each_later, each_of_tile}
use Rattle.fab_tiles_sound_laws.proofs.Joins.{port_name}
use Rattle.fab_tiles_sound_laws.proofs.Drives.{times_both, out_names}
use Rattle.fab_tiles_sound_laws.proofs.Drivers.{drives_declared}

-- ---- counts of ports

abbrev in_names : List Port → List (List ℕ)
in_names [] = []
in_names (port ∷ ports) = (if port.input then port.name ∷ [] else []) ++ in_names ports

in_and_out : (ports : List Port) (name : List ℕ) → times (map port_name ports) name ≡ times (in_names ports) name + times (out_names ports) name
in_and_out [] name = refl
in_and_out (port ∷ ports) name =
    let later = in_and_out ports name in
    elim (cases_Bool port.input) [
      | inl t ↦ rw t (omega (arith, later))
      | inr f ↦ rw f (omega (arith, later))
    ]

one_at : (names : List (List ℕ)) (name : List ℕ) (k : ℕ) → k < length names → get_or names k name ≡ name → 1 ≤ times names name
one_at [] name k few is = absurd (omega arith)
one_at (other ∷ names) name zero few is =
    let same : bytes_eq other name ≡ true = (bytes_eq-Decides other name).1 is in
    rw same (omega arith)
one_at (other ∷ names) name (suc k) few is =
    let later : 1 ≤ times names name = one_at names name k (omega arith) is in
    omega arith

at_least_once : (names : List (List ℕ)) (name : List ℕ) → Contains names name → 1 ≤ times names name
at_least_once names name there = one_at names name there.0 there.1 there.2

input_at : (ports : List Port) (port : Port) (k : ℕ) → port.input ≡ true → k < length ports → get_or ports k port ≡ port → Contains (in_names ports) port.name
input_at [] port k input few is = absurd (omega arith)
input_at (first ∷ ports) port zero input few is =
    let t : first.input ≡ true = ap (λ (p : Port). p.input) is ∙ input in
    rw t (subst (λ (n : List ℕ). Contains (n ∷ in_names ports) port.name) (sym (ap port_name is)) (contains_first port.name (in_names ports)))
input_at (first ∷ ports) port (suc k) input few is =
    let later = input_at ports port k input (omega arith) is in
    elim (cases_Bool first.input) [
      | inl t ↦ rw t (contains_later first.name (in_names ports) port.name later)
      | inr f ↦ rw f later
    ]

output_at : (ports : List Port) (port : Port) (k : ℕ) → port.input ≡ false → k < length ports → get_or ports k port ≡ port → Contains (out_names ports) port.name
output_at [] port k output few is = absurd (omega arith)
output_at (first ∷ ports) port zero output few is =
    let f : first.input ≡ false = ap (λ (p : Port). p.input) is ∙ output in
    rw f (subst (λ (n : List ℕ). Contains (n ∷ out_names ports) port.name) (sym (ap port_name is)) (contains_first port.name (out_names ports)))
output_at (first ∷ ports) port (suc k) output few is =
    let later = output_at ports port k output (omega arith) is in
    elim (cases_Bool first.input) [
      | inl t ↦ rw t later
      | inr f ↦ rw f (contains_later first.name (out_names ports) port.name later)
    ]

-- ---- processes

-- an item that is no process
abbrev HoldsNone : PlainItem → Type 0
HoldsNone (latch target gate e) = ⊥
HoldsNone (clocked clock target e) = ⊥
HoldsNone _ = Unit {0}

never_held : (items : List PlainItem) (name : List ℕ) → All HoldsNone items → times_held items name ≡ 0
never_held [] name all = refl
never_held (wire shape other ∷ items) name all = never_held items name (All-tail HoldsNone (wire shape other) items all)
never_held (reg shape other ∷ items) name all = never_held items name (All-tail HoldsNone (reg shape other) items all)
never_held (assign target e ∷ items) name all = never_held items name (All-tail HoldsNone (assign target e) items all)
never_held (latch target gate e ∷ items) name all = absurd (All-head HoldsNone (latch target gate e) items all)
never_held (clocked clock target e ∷ items) name all = absurd (All-head HoldsNone (clocked clock target e) items all)
never_held (instance module_name i joins ∷ items) name all = never_held items name (All-tail HoldsNone (instance module_name i joins) items all)

-- what holds of all instances and assignments holds of what a tile has as instances, or in their place
pub each_instance : (P : PlainItem → Type 0) (mode : Mode) (tile : PlainTile) → ((target : List ℕ) (e : PlainExpr) → P (assign target e)) →
    ((module_name i : List ℕ) (joins : _) → P (instance module_name i joins)) → All P (instances mode tile)
each_instance P mode tile of_assign each =
    All-append P (config_instances mode tile (tile_bits tile)) _ (of_config (tile_bits tile))
    (All-append P (matrix_instances tile (matrix_output_names tile)) (bel_instances tile.bels) (of_matrix (matrix_output_names tile))
    (All-map P (λ (placed : ℕ × Bel). bel_instance placed.0 (bits_before tile.bels placed.0) placed.1) (enumerate_from 0 tile.bels) (λ k d few. each _ _ _)))
  where
    of_config : (bits : ℕ) → All P (config_instances mode tile bits)
    of_config zero = each_unconfigured P of_assign mode
    of_config (suc bits) = All-cons P _ [] (each _ _ _) (All-nil P)

    of_matrix : (outputs : List (List ℕ)) → All P (matrix_instances tile outputs)
    of_matrix [] = All-nil P
    of_matrix (output ∷ outputs) = All-cons P _ [] (each _ _ _) (All-nil P)

tile_holds : (mode : Mode) (tile : PlainTile) (name : List ℕ) → times_held (tile_items mode tile) name ≡ 0
tile_holds mode tile name = never_held (tile_items mode tile) name (each_of_tile HoldsNone mode tile (λ shape name. tt) (λ target e. tt) (each_instance HoldsNone mode tile (λ target e. tt) (λ module_name i joins. tt)))

-- ---- the rule

module _ (mode : Mode) (tile : PlainTile) (is : IsTile tile) (named : IsNamed tile) (text : List PlainModule) (has : HasModules mode text tile) where
  -- a net is declared once
  once : (name : List ℕ) → Contains (nets (tile_ports mode tile) (declarations tile)) name →
      times (in_names (tile_ports mode tile)) name + times (out_names (tile_ports mode tile)) name + times (net_names (declarations tile)) name ≡ 1
  once name there =
      let all : times (nets (tile_ports mode tile) (declarations tile)) name ≡ 1 = times_once (nets (tile_ports mode tile) (declarations tile)) name (nets_apart mode tile is named) there in
      let both : times (nets (tile_ports mode tile) (declarations tile)) name ≡ times (map port_name (tile_ports mode tile)) name + times (net_names (declarations tile)) name =
      times_both (map port_name (tile_ports mode tile)) (net_names (declarations tile)) name in
      omega (arith, in_and_out (tile_ports mode tile) name)

  driven : (name : List ℕ) → times_driven text (tile_items mode tile) name ≡ times (out_names (tile_ports mode tile)) name + times (net_names (declarations tile)) name
  driven name = driven_times text (tile_items mode tile) name ∙ drives_declared tile is mode text has name

  port_is_net : (port : Port) → Contains (tile_ports mode tile) port → Contains (nets (tile_ports mode tile) (declarations tile)) port.name
  port_is_net port there =
      Contains-append_left (map port_name (tile_ports mode tile)) (net_names (declarations tile)) port.name (contains_map port_name (tile_ports mode tile) port there)

  port_driven : (port : Port) → Contains (tile_ports mode tile) port → PortIsDriven text (tile_module mode tile) port
  port_driven port there =
      let one = once port.name (port_is_net port there) in
      let drivers = driven port.name in
      elim (cases_Bool port.input) [
        | inl t ↦ (
            let some : 1 ≤ times (in_names (tile_ports mode tile)) port.name = at_least_once (in_names (tile_ports mode tile)) port.name (input_at (tile_ports mode tile) port there.0 t there.1 there.2) in
            let none : times_driven text (tile_items mode tile) port.name ≡ 0 = omega (arith, one, drivers) in
            subst (λ input. DirectionFits text (tile_module mode tile) input port.name) (sym t) none)
        | inr f ↦ (
            let some : 1 ≤ times (out_names (tile_ports mode tile)) port.name = at_least_once (out_names (tile_ports mode tile)) port.name (output_at (tile_ports mode tile) port there.0 f there.1 there.2) in
            let single : times_driven text (tile_items mode tile) port.name ≡ 1 = omega (arith, one, drivers) in
            subst (λ input. DirectionFits text (tile_module mode tile) input port.name) (sym f) (single, tile_holds mode tile port.name))
      ]

  pub ports_driven : All (PortIsDriven text (tile_module mode tile)) (tile_ports mode tile)
  ports_driven = All-weaker (Contains (tile_ports mode tile)) (PortIsDriven text (tile_module mode tile)) port_driven (tile_ports mode tile) (All-contains_itself (tile_ports mode tile))

  net_driven : (name : List ℕ) → Contains (net_names (declarations tile)) name → IsAssignedOnce text (tile_module mode tile) name
  net_driven name there =
      let one = once name (Contains-append_right (map port_name (tile_ports mode tile)) (net_names (declarations tile)) name there) in
      let drivers = driven name in
      let some : 1 ≤ times (net_names (declarations tile)) name = at_least_once (net_names (declarations tile)) name there in
      (omega (arith, one, drivers), tile_holds mode tile name)

  abbrev IsDriven : PlainItem → Type 0
  IsDriven item = ItemIsDriven text (tile_module mode tile) item

  wires_driven : All IsDriven (map (wire Scalar) (matrix_names tile))
  wires_driven =
      All-map IsDriven (wire Scalar) (matrix_names tile)
      (All-weaker (Contains (matrix_names tile)) (λ name. IsDriven (wire Scalar name))
      (λ name there. net_driven name (subst (λ names. Contains names name) (sym (declared_names tile)) (Contains-append_left (matrix_names tile) (bits_names (tile_bits tile)) name there)))
      (matrix_names tile) (All-contains_itself (matrix_names tile)))

  bits_driven : (bits : ℕ) → tile_bits tile ≡ bits → All IsDriven (bits_wire bits)
  bits_driven zero are = All-nil IsDriven
  bits_driven (suc bits) are =
      All-cons IsDriven (wire (Vector (suc bits)) bits_name) []
      (net_driven bits_name
      (subst (λ names. Contains names bits_name) (sym (declared_names tile))
      (Contains-append_right (matrix_names tile) (bits_names (tile_bits tile)) bits_name
      (subst (λ n. Contains (bits_names n) bits_name) (sym are) (contains_first bits_name [])))))
      (All-nil IsDriven)

  pub items_driven : All IsDriven (tile_items mode tile)
  items_driven =
      subst (All IsDriven) (sym (items_split mode tile))
      (All-append IsDriven (declarations tile) (later_items mode tile)
      (All-append IsDriven (map (wire Scalar) (matrix_names tile)) (bits_wire (tile_bits tile)) wires_driven (bits_driven (tile_bits tile) refl))
      (each_later IsDriven (λ target e. tt) mode tile (each_instance IsDriven mode tile (λ target e. tt) (λ module_name i joins. tt))))
