-- A legal implementation of a packed netlist has a state that its own text spells.
use Rattle.std.proofs.Common.{◌≡◌, ◌≢◌, ℕ, suc, ◌+◌, ◌<◌, ◌≤◌, true, List, [], ◌∷◌, ◌++◌, map, length, All, Contains, Option, Some, None, nat_eq, option_map, refl, sym, ap, ◌∙◌, subst, arith}
use Rattle.std.specs.List.{AllByRecursion as Each, enumerate_from, filter_map, list_all}
use Rattle.std.specs.Str.{bytes_eq}
use Rattle.std.proofs.lemmas.Bool.Decides.{Decides-eqb}
use Rattle.std.proofs.lemmas.List.{map-append}
use Rattle.std.proofs.lemmas.List.Elements.{All-contains, All-cons, All-nil, All-weaker}
use Rattle.std.proofs.lemmas.List.Kept.{AllPairs-cons}
use Rattle.std.proofs.lemmas.Simd.{map-map}
use Rattle.std.proofs.lemmas.Slice.Eq.{bytes_eq-Decides}
use Rattle.fab_kinds.specs.declared.kind.Kind.TheVariants as kinds
use Rattle.fab_model.specs.Grid.{PlainFabric}
use Rattle.fab_fabric.specs.Fabric.{IsFabric}
use Rattle.fab_fabric.specs.declared.wire.Site.{Site}
use Rattle.fab_netlist.specs.declared.net_id.NetId.{NetId}
use Rattle.fab_netlist.specs.Packed.{PlainCell, PlainPacked}
use Rattle.fab_implementation.specs.Plain.{Pad, PlainImplementation}
use Rattle.fab_legal.specs.Legal.{IsLegal}
use Rattle.fab_legal.specs.Lines.{IsCell, IsInput, IsOutput, sited, sites}
use Rattle.fab_legal.specs.Sinks.{site_of}
use Rattle.fab_legal.specs.WellMade.{IsWellMadePacked, output_name, output_ports, ports as design_ports}
use Rattle.fab_legal.proofs.Bindings.{differ_left, differ_right}
use Rattle.fab_state.specs.Plain.{PlainState, Register}
use Rattle.fab_state.specs.Spelled.{HasSpelling, IsFresh, ports}
use Rattle.fab_texts.specs.Places.{IsWritable}
use Rattle.fab_texts.specs.Printed.{is_word}
use Rattle.fab_features.specs.fab_use_defs_Registers.{bound_pad, design_state, register_of}
use Rattle.fab_blif.proofs.Each.{each_mapped}
use Rattle.fab_spelled_designs_laws.proofs.Apart.{Differ, new_differ}
use Rattle.fab_spelled_designs_laws.proofs.Sited.{each_writable, sites_differ}

-- ---- the cells with a latch

abbrev latched : ℕ → List PlainCell → List ℕ
latched start cells = filter_map (λ at. option_map (λ init. at.0) at.1.latch) (enumerate_from start cells)

abbrev registers_from : PlainImplementation → ℕ → List PlainCell → List Register
registers_from implementation start cells = filter_map (λ at. register_of implementation at.0 at.1) (enumerate_from start cells)

abbrev register_site : Register → Site
register_site register = register.0

module _ (implementation : PlainImplementation) where
  abbrev cell_site : ℕ → Site
  cell_site number = site_of nat_eq implementation.cells number

  first_register : (start : ℕ) (cell : PlainCell) (cells : List PlainCell) (latch : Option ℕ) → cell.latch ≡ latch →
      map register_site (registers_from implementation (start + 1) cells) ≡ map cell_site (latched (start + 1) cells) →
      map register_site (registers_from implementation start (cell ∷ cells)) ≡ map cell_site (latched start (cell ∷ cells))
  first_register start cell cells None is rest = rw is rest
  first_register start cell cells (Some init) is rest = rw is (ap (λ (more : List Site). cell_site start ∷ more) rest)

  register_sites : (start : ℕ) (cells : List PlainCell) → map register_site (registers_from implementation start cells) ≡ map cell_site (latched start cells)
  register_sites start [] = refl
  register_sites start (cell ∷ cells) = first_register start cell cells cell.latch refl (register_sites (start + 1) cells)

-- numbers of cells from one on
record AreFrom (start count : ℕ) (numbers : List ℕ) : Type 0 where
  pub within : All (λ number. (start ≤ number) × (number < start + count)) numbers
  pub differ : Differ numbers

no_numbers : (start count : ℕ) → AreFrom start count []
no_numbers start count = record {
  within = All-nil (λ number. (start ≤ number) × (number < start + count));
  differ = λ i j d less inside. absurd (omega (arith, inside));
}

first_number : (start : ℕ) (cell : PlainCell) (cells : List PlainCell) (latch : Option ℕ) → cell.latch ≡ latch → AreFrom (start + 1) (length cells) (latched (start + 1) cells) →
    AreFrom start (suc (length cells)) (latched start (cell ∷ cells))
first_number start cell cells latch is rest = by_latch latch is
  where
    wider : All (λ number. (start ≤ number) × (number < start + suc (length cells))) (latched (start + 1) cells)
    wider =
        All-weaker (λ number. (start + 1 ≤ number) × (number < start + 1 + length cells)) (λ number. (start ≤ number) × (number < start + suc (length cells)))
        (λ number within. (omega (arith, within.0), omega (arith, within.1))) (latched (start + 1) cells) rest.within

    later : All (λ number. start ≢ number) (latched (start + 1) cells)
    later =
        All-weaker (λ number. (start + 1 ≤ number) × (number < start + 1 + length cells)) (λ number. start ≢ number)
        (λ number within same. omega (arith, within.0, same)) (latched (start + 1) cells) rest.within

    by_latch : (latch : Option ℕ) → cell.latch ≡ latch → AreFrom start (suc (length cells)) (latched start (cell ∷ cells))
    by_latch None is = rw is (record { within = wider; differ = rest.differ })
    by_latch (Some init) is =
        rw is (record {
          within = All-cons (λ number. (start ≤ number) × (number < start + suc (length cells))) start (latched (start + 1) cells) (omega arith, omega arith) wider;
          differ = AllPairs-cons (λ first second. first ≢ second) start (latched (start + 1) cells) later rest.differ;
        })

numbers_from : (start : ℕ) (cells : List PlainCell) → AreFrom start (length cells) (latched start cells)
numbers_from start [] = no_numbers start 0
numbers_from start (cell ∷ cells) = first_number start cell cells cell.latch refl (numbers_from (start + 1) cells)

-- ---- the state

-- what holds of the images of items holds of the items
each_unmapped : {X Y : Type 0} (P : Y → Type 0) (f : X → Y) (xs : List X) → Each P (map f xs) → Each (λ x. P (f x)) xs
each_unmapped P f [] all = tt
each_unmapped P f (x ∷ xs) all = (all.0, each_unmapped P f xs all.1)

-- things that were sited, by their sites
each_sited : {X Y : Type 0} (site : X → Site) (place : Y → Site) (things : List X) (made : List Y) → map place made ≡ map site things → Each (λ thing. IsWritable (site thing)) things →
    Each (λ one. IsWritable (place one)) made
each_sited site place things made are all = each_unmapped IsWritable place made (subst (Each IsWritable) (sym are) (each_mapped IsWritable site things all))

module _ (fabric : PlainFabric) (is : IsFabric fabric) (packed : PlainPacked) (made : IsWellMadePacked packed) (fixed : List Pad) (implementation : PlainImplementation)
    (legal : IsLegal fabric packed fixed implementation) where
  abbrev state : PlainState
  state = design_state packed implementation

  abbrev pad_port : Pad → List ℕ
  pad_port pad = pad.0

  abbrev pad_site : Pad → Site
  pad_site pad = pad.1

  abbrev in_site : List ℕ → Site
  in_site port = site_of bytes_eq implementation.ins port

  abbrev out_site : List ℕ → Site
  out_site port = site_of bytes_eq implementation.outs port

  -- ---- lines

  all_apart : Differ (sites implementation)
  all_apart = new_differ (sites implementation) legal.placed.sites

  cells_apart : Differ (sited implementation.cells)
  cells_apart = differ_left (sited implementation.cells) (sited implementation.ins ++ sited implementation.outs) all_apart

  pads_apart : Differ (sited implementation.ins ++ sited implementation.outs)
  pads_apart = differ_right (sited implementation.cells) (sited implementation.ins ++ sited implementation.outs) all_apart

  ins_apart : Differ (sited implementation.ins)
  ins_apart = differ_left (sited implementation.ins) (sited implementation.outs) pads_apart

  outs_apart : Differ (sited implementation.outs)
  outs_apart = differ_right (sited implementation.ins) (sited implementation.outs) pads_apart

  -- ---- pads

  ins_are : map pad_site state.ins ≡ map in_site packed.inputs
  ins_are = map-map pad_site (bound_pad implementation.ins) packed.inputs

  outs_are : map pad_site state.outs ≡ map out_site (output_ports packed)
  outs_are = map-map pad_site (λ (output : List ℕ × NetId). bound_pad implementation.outs output.0) packed.outputs ∙ sym (map-map out_site output_name packed.outputs)

  in_ports_are : map pad_port state.ins ≡ packed.inputs
  in_ports_are = map-map pad_port (bound_pad implementation.ins) packed.inputs ∙ kept packed.inputs where
    kept : (names : List (List ℕ)) → map (λ name. name) names ≡ names
    kept [] = refl
    kept (name ∷ names) = ap (λ (more : List (List ℕ)). name ∷ more) (kept names)

  out_ports_are : map pad_port state.outs ≡ output_ports packed
  out_ports_are = map-map pad_port (λ (output : List ℕ × NetId). bound_pad implementation.outs output.0) packed.outputs

  ports_are : ports state ≡ design_ports packed
  ports_are = map-append pad_port state.ins state.outs ∙ (λ j. in_ports_are j ++ out_ports_are j)

  -- ---- flip-flops

  abbrev numbers : List ℕ
  numbers = latched 0 packed.cells

  ffs_are : map register_site state.ffs ≡ map (cell_site implementation) numbers
  ffs_are = register_sites implementation 0 packed.cells

  numbered : (number : ℕ) → Contains numbers number → IsCell packed number
  numbered number here =
      let within = All-contains (λ n. (0 ≤ n) × (n < 0 + length packed.cells)) numbers number (numbers_from 0 packed.cells).within here in omega (arith, within.1)

  -- ---- the whole

  fresh : IsFresh state
  fresh = record {
    in_sites = each_sited in_site pad_site packed.inputs state.ins ins_are (each_writable bytes_eq bytes_eq-Decides fabric is kinds.Io (IsInput packed) implementation.ins legal.placed.ports.ins ins_apart
        packed.inputs (λ port here. here));
    out_sites = each_sited out_site pad_site (output_ports packed) state.outs outs_are (each_writable bytes_eq bytes_eq-Decides fabric is kinds.Io (IsOutput packed) implementation.outs legal.placed.ports.outs outs_apart
        (output_ports packed) (λ port here. here));
    ff_sites = each_sited (cell_site implementation) register_site numbers state.ffs ffs_are (each_writable nat_eq Decides-eqb fabric is kinds.Lut4c (IsCell packed) implementation.cells legal.placed.cells cells_apart
        numbers numbered);
    ports = subst Differ (sym ports_are) made.ports_differ;
    ins = subst Differ (sym ins_are) (sites_differ bytes_eq bytes_eq-Decides fabric is kinds.Io (IsInput packed) implementation.ins legal.placed.ports.ins ins_apart packed.inputs (λ port here. here)
        (differ_left packed.inputs (output_ports packed) made.ports_differ));
    outs = subst Differ (sym outs_are) (sites_differ bytes_eq bytes_eq-Decides fabric is kinds.Io (IsOutput packed) implementation.outs legal.placed.ports.outs outs_apart (output_ports packed) (λ port here. here)
        (differ_right packed.inputs (output_ports packed) made.ports_differ));
    ffs = subst Differ (sym ffs_are) (sites_differ nat_eq Decides-eqb fabric is kinds.Lut4c (IsCell packed) implementation.cells legal.placed.cells cells_apart numbers numbered (numbers_from 0 packed.cells).differ);
  }

  pub state_spelled : list_all is_word (design_ports packed) ≡ true → HasSpelling state
  state_spelled words = record { fresh = fresh; words = ap (list_all is_word) ports_are ∙ words }
