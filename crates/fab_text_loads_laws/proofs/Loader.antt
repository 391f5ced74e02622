-- The loader in the text of a fabric in frames: where it stands, how wide its names are, and what drives its registers.
use Rattle.std.proofs.Common.{◌≡◌, ◌≢◌, ℕ, zero, suc, ◌<◌, true, false, List, [], ◌∷◌, ◌++◌, map, refl, sym, ap, ◌∙◌, subst, inl, inr, arith, Some, All, Contains}
use Rattle.std.specs.Str.{bytes_eq}
use Rattle.std.specs.List.{flat_map}
use Rattle.std.proofs.lemmas.Bool.{cases_Bool}
use Rattle.std.proofs.lemmas.List.Elements.{All-nil, All-cons, All-append, All-map, All-weaker, Contains-append_right}
use Rattle.std.proofs.lemmas.Slice.Eq.{bytes_eq-Decides}
use Rattle.fab_kinds.specs.declared.kind.Kind.{Kind}
use Rattle.fab_syntax.specs.declared.tree.Shape.{Shape}
use Rattle.fab_syntax.specs.declared.tree.Shape.TheVariants.{Scalar, Vector}
use Rattle.fab_syntax.specs.declared.tree.Port.{Port}
use Rattle.fab_syntax.specs.Plain.{PlainExpr, PlainItem, PlainModule, variable, wire, assign}
use Rattle.fab_syntax.specs.Declarations.{module_named, declared_shape, width_if_any, is_input}
use Rattle.fab_meaning.specs.Points.{point, flop, Drives, Found, instance_named, instance_in, module_of, module_at}
use Rattle.fab_meaning.specs.Runs.{clock_name, clock_of}
use Rattle.fab_meaning.specs.Loading.{write_data_name, write_strobe_name}
use Rattle.fab_meaning.proofs.Clocks.{clock_at_top, clock_below}
use Rattle.fab_meaning.proofs.Dependence.{same_name}
use Rattle.fab_meaning.proofs.Modules.{each_all}
use Rattle.fab_drives_laws.specs.fab_prim_Modules.{module_of_kind}
use Rattle.fab_drives_laws.specs.fab_model_Tiles.{PlainTile, counted}
use Rattle.fab_drives_laws.specs.fab_model_mode_Mode.{Mode}
use Rattle.fab_drives_laws.specs.fab_model_mode_Mode_TheVariants as modes
use Rattle.fab_drives_laws.specs.fab_model_Grid.{PlainFabric}
use Rattle.fab_drives_laws.specs.fab_fabric_Names.{place_name}
use Rattle.fab_drives_laws.specs.fab_fabric_Fabric.{IsFabric}
use Rattle.fab_drives_laws.specs.fab_gen_tile_Names.{config_module_name, matrix_module_name, tile_module_name}
use Rattle.fab_drives_laws.specs.fab_gen_loader_Loader.{NextValues, port, address_port, strobe_port, row_port, loader_ports, registers, processes, outputs, loader_of, state_name, count_name, strobe_register_name, TakesNext, StepsAsTheMachine, address_register_name, row_register_name, loader_module_name}
use Rattle.fab_drives_laws.specs.fab_fabric_text_defs_Names.{top_module_name, loader_instance_name, column_strobe_name}
use Rattle.fab_drives_laws.specs.fab_fabric_text_defs_Mode.{text_mode}
use Rattle.fab_drives_laws.specs.fab_fabric_text_defs_Top.{loader_wires, loader_joins, loader_instance, column_strobes, top_items, top_module}
use Rattle.fab_drives_laws.specs.fab_fabric_text_defs_Text.{used_kinds, standing_types, tile_modules, fabric_text}
use Rattle.fab_drives_laws.specs.fab_fabric_text_defs_Texts.{AreLoaders, one, none, IsFabricText}
use Rattle.fab_drives_laws.proofs.fab_tile_drives_laws_Driven.{width_of}
use Rattle.fab_drives_laws.proofs.fab_tile_drives_laws_Endings.{all_counted, all_flat_map}
use Rattle.fab_drives_laws.proofs.fab_tile_drives_laws_Members.{contains_first, contains_counted}
use Rattle.fab_drives_laws.proofs.fab_tile_drives_laws_Widths.{passed_ports}
use Rattle.fab_drives_laws.proofs.Apart.{told_apart}
use Rattle.fab_drives_laws.proofs.Lists.{all_of, only_one_found}
use Rattle.fab_drives_laws.proofs.Modules.{Only, all_of_tile, no_loader_kind, top_is_last}
use Rattle.fab_drives_laws.proofs.Instances.{Agrees, all_of_top, instance_found}
use Rattle.fab_drives_laws.proofs.Texts.{HasFabric, text_has_fabric}
use Rattle.fab_text_loads_laws.specs.Points.{loader_path}
use Rattle.fab_text_loads_laws.proofs.InMode.{not_both, carrying_there}

-- ---- the text has it

pub record HasLoader (fabric : PlainFabric) (next : NextValues) (text : List PlainModule) : Type 0 where
  pub frames : text_mode fabric ≡ modes.Frames
  pub tiles : HasFabric fabric text
  pub named : module_named text loader_module_name ≡ Some (loader_of fabric.rows next)
  pub stands : module_at text loader_path ≡ Some (loader_of fabric.rows next)
  pub steps : StepsAsTheMachine fabric.rows (loader_of fabric.rows next)

abbrev pub found_loader : PlainFabric → Found
found_loader fabric = record { module_name = loader_module_name; joins = loader_joins fabric.rows }

pub loader_there : (fabric : PlainFabric) → text_mode fabric ≡ modes.Frames → Contains (top_items fabric) (loader_instance fabric.rows)
loader_there fabric frames =
    let behind = counted fabric.columns (λ x. wire (Vector 20) (column_strobe_name x)) ++ counted fabric.columns column_strobes in
    carrying_there fabric modes.Frames frames (loader_instance fabric.rows)
    (Contains-append_right (loader_wires fabric.rows) (loader_instance fabric.rows ∷ behind) (loader_instance fabric.rows)
    (contains_first (loader_instance fabric.rows) behind))

pub loader_found : (fabric : PlainFabric) → text_mode fabric ≡ modes.Frames →
    instance_named (top_items fabric) loader_instance_name ≡ Some (found_loader fabric)
loader_found fabric frames =
    instance_found (top_items fabric) loader_instance_name (found_loader fabric) (loader_there fabric frames)
    (all_of_top fabric (Agrees loader_instance_name (found_loader fabric)) (λ name. tt) (λ name. tt) (λ name. tt) (λ x. tt)
    (λ is same. refl)
    (λ placed there same. absurd (told_apart 0 (place_name placed.x placed.y) loader_instance_name refl same)))

-- no other module of the text has its name
loader_alone : (fabric : PlainFabric) (loader : PlainModule) → loader.name ≡ loader_module_name → All (Only loader.name loader) (fabric_text fabric (loader ∷ []))
loader_alone fabric loader is =
    let P = Only loader.name loader in
    let mode = text_mode fabric in
    All-append P (map module_of_kind (used_kinds fabric)) (flat_map (tile_modules mode) (standing_types fabric) ++ loader ∷ top_module fabric ∷ [])
    (All-map P module_of_kind (used_kinds fabric) (all_of (λ (kind : Kind). P (module_of_kind kind)) (used_kinds fabric) (λ kind same. absurd (no_loader_kind kind (sym is ∙ sym same)))))
    (All-append P (flat_map (tile_modules mode) (standing_types fabric)) (loader ∷ top_module fabric ∷ [])
    (all_flat_map P (tile_modules mode) (standing_types fabric)
    (all_of (λ (tile : PlainTile). All P (tile_modules mode tile)) (standing_types fabric) (λ tile. all_of_tile mode P tile
    (λ same. absurd (told_apart 0 (matrix_module_name tile) loader_module_name refl (same ∙ is)))
    (λ same. absurd (told_apart 0 (config_module_name tile) loader_module_name refl (same ∙ is)))
    (λ same. absurd (told_apart 0 (tile_module_name tile) loader_module_name refl (same ∙ is))))))
    (All-cons P loader (top_module fabric ∷ []) (λ same. refl)
    (All-cons P (top_module fabric) [] (λ same. absurd (told_apart 0 top_module_name loader_module_name refl (same ∙ is))) (All-nil P))))

loader_named : (fabric : PlainFabric) (loader : PlainModule) → loader.name ≡ loader_module_name → module_named (fabric_text fabric (loader ∷ [])) loader.name ≡ Some loader
loader_named fabric loader is =
    let rest = loader ∷ top_module fabric ∷ [] in
    only_one_found (λ (other : PlainModule). bytes_eq other.name loader.name) (fabric_text fabric (loader ∷ [])) loader
    (Contains-append_right (map module_of_kind (used_kinds fabric)) (flat_map (tile_modules (text_mode fabric)) (standing_types fabric) ++ rest) loader
    (Contains-append_right (flat_map (tile_modules (text_mode fabric)) (standing_types fabric)) rest loader (contains_first loader (top_module fabric ∷ []))))
    ((bytes_eq-Decides loader.name loader.name).1 refl)
    (All-weaker (Only loader.name loader) (λ (other : PlainModule). bytes_eq other.name loader.name ≡ true → other ≡ loader)
    (λ other alone same. alone ((bytes_eq-Decides other.name loader.name).0 same)) (fabric_text fabric (loader ∷ [])) (loader_alone fabric loader is))

text_has_loader : (fabric : PlainFabric) (next : NextValues) → IsFabric fabric → text_mode fabric ≡ modes.Frames →
    StepsAsTheMachine fabric.rows (loader_of fabric.rows next) →
    HasLoader fabric next (fabric_text fabric (loader_of fabric.rows next ∷ []))
text_has_loader fabric next is frames steps =
    let loader = loader_of fabric.rows next in
    let text = fabric_text fabric (loader ∷ []) in
    let named : module_named text loader_module_name ≡ Some loader = loader_named fabric loader refl in
    record {
      frames = frames;
      tiles = text_has_fabric fabric (loader ∷ []) is (All-cons (λ (m : PlainModule). m.name ≡ loader_module_name) loader [] refl (All-nil (λ m. m.name ≡ loader_module_name)));
      named = named;
      stands =
          ap (λ m. module_of text (instance_in m loader_instance_name)) (top_is_last fabric (loader ∷ []))
          ∙ ap (module_of text) (loader_found fabric frames)
          ∙ named;
      steps = steps;
    }

-- ---- or there is a chain

pub record HasChain (fabric : PlainFabric) (text : List PlainModule) : Type 0 where
  pub chain : text_mode fabric ≡ modes.Chain
  pub tiles : HasFabric fabric text

-- what carries the bits of a text
pub data Carrier (fabric : PlainFabric) (text : List PlainModule) : Type 0 where
  by_frames : (next : NextValues) → HasLoader fabric next text → Carrier fabric text
  by_chain : HasChain fabric text → Carrier fabric text

carrier_of : (fabric : PlainFabric) → IsFabric fabric → {mode : Mode} → text_mode fabric ≡ mode → {loaders : List PlainModule} →
    AreLoaders fabric.rows mode loaders →
    Carrier fabric (fabric_text fabric loaders)
carrier_of fabric is frames (one {loader} is_loader small) =
    let next = is_loader.next in
    let steps : StepsAsTheMachine fabric.rows (loader_of fabric.rows next) = subst (StepsAsTheMachine fabric.rows) is_loader.is is_loader.steps in
    by_frames next
    (subst (λ (m : PlainModule). HasLoader fabric next (fabric_text fabric (m ∷ []))) (sym is_loader.is) (text_has_loader fabric next is frames steps))
carrier_of fabric is chain none = by_chain (record { chain = chain; tiles = text_has_fabric fabric [] is (All-nil (λ m. m.name ≡ loader_module_name)) })

pub carrier : (fabric : PlainFabric) (text : List PlainModule) → IsFabric fabric → IsFabricText fabric text → Carrier fabric text
carrier fabric text is is_text = subst (Carrier fabric) (sym is_text.is) (carrier_of fabric is refl is_text.are)

-- a text in frames has a loader
pub has_loader : (fabric : PlainFabric) (text : List PlainModule) → IsFabric fabric → IsFabricText fabric text → text_mode fabric ≡ modes.Frames →
    (next : NextValues) × HasLoader fabric next text
has_loader fabric text is is_text frames =
    elim (carrier fabric text is is_text) [
      | by_frames next has ↦ (next, has)
      | by_chain has ↦ absurd (not_both (text_mode fabric) frames has.chain)
    ]

-- ---- its names

-- a counted port is found with its shape
port_found : (shape : Shape) (f : ℕ → List ℕ) (items : List PlainItem) (n i : ℕ) → i < n →
    declared_shape (counted n (λ k. port false shape (f k))) items (f i) ≡ Some shape
unfolding counted
port_found shape f items zero i within = absurd (omega arith)
port_found shape f items (suc n) zero within = rw (same_name (f 0)) refl
port_found shape f items (suc n) (suc i) within =
    elim (cases_Bool (bytes_eq (f 0) (f (suc i)))) [
      | inl same ↦ rw same refl
      | inr other ↦ rw other (port_found shape (λ k. f (suc k)) items n i (omega arith))
    ]

-- counted outputs are no inputs
no_input : (shape : Shape) (f : ℕ → List ℕ) (name : List ℕ) (n : ℕ) → is_input (counted n (λ k. port false shape (f k))) name ≡ false
unfolding counted
no_input shape f name zero = refl
no_input shape f name (suc n) =
    elim (cases_Bool (bytes_eq (f 0) name)) [
      | inl same ↦ rw same refl
      | inr other ↦ rw other (no_input shape (λ k. f (suc k)) name n)
    ]

module _ (rows : ℕ) (next : NextValues) where
  pub row_port_width : (row : ℕ) → row < rows → width_of (loader_of rows next) (row_port row) ≡ 32
  row_port_width row within = ap width_if_any (port_found (Vector 32) row_port (loader_of rows next).items rows row within)

  pub row_is_output : (row : ℕ) → is_input (loader_of rows next).ports (row_port row) ≡ false
  row_is_output row = no_input (Vector 32) row_port (row_port row) rows

  pub strobe_register_width : width_of (loader_of rows next) strobe_register_name ≡ 1
  strobe_register_width =
      let name = strobe_register_name in
      let Differs : Port → Type 0 = λ other. other.name ≢ name in
      let front : List Port =
      port true Scalar clock_name ∷ port true Scalar write_strobe_name ∷ port true (Vector 32) write_data_name
      ∷ port false (Vector 32) address_port ∷ port false Scalar strobe_port ∷ [] in
      let of_rows = counted rows (λ row. port false (Vector 32) (row_port row)) in
      passed_ports (loader_ports rows) (loader_of rows next).items name
      (All-append Differs front of_rows
      (each_all Differs front (
        told_apart 0 clock_name name refl,
        (
          told_apart 0 write_strobe_name name refl,
          (
            told_apart 0 write_data_name name refl,
            (told_apart 0 address_port name refl, (told_apart 0 strobe_port name refl, tt)),
          ),
        ),
      ))
      (all_counted Differs rows (λ row. port false (Vector 32) (row_port row)) (λ row few. told_apart 0 (row_port row) name refl)))

-- ---- its items

pub output_there : (rows : ℕ) (next : NextValues) (item : PlainItem) → Contains (outputs rows) item → Contains (loader_of rows next).items item
output_there rows next item there =
    Contains-append_right (registers rows) (processes rows next ++ outputs rows) item (Contains-append_right (processes rows next) (outputs rows) item there)

pub row_output_there : (rows row : ℕ) → row < rows → Contains (outputs rows) (assign (row_port row) (variable (row_register_name row)))
row_output_there rows row within =
    Contains-append_right (assign address_port (variable address_register_name) ∷ assign strobe_port (variable strobe_register_name) ∷ [])
    (counted rows (λ row. assign (row_port row) (variable (row_register_name row)))) (assign (row_port row) (variable (row_register_name row)))
    (contains_counted rows (λ row. assign (row_port row) (variable (row_register_name row))) row within)

-- ---- its registers

abbrev pub register_names : (rows : ℕ) → List (List ℕ)
register_names rows = state_name ∷ count_name ∷ address_register_name ∷ strobe_register_name ∷ counted rows row_register_name

pub all_registers : (P : List ℕ → Type 0) (rows : ℕ) → P state_name → P count_name → P address_register_name → P strobe_register_name → ((row : ℕ) → row < rows → P (row_register_name row)) →
    All P (register_names rows)
all_registers P rows state count address strobe each =
    All-cons P state_name (count_name ∷ address_register_name ∷ strobe_register_name ∷ counted rows row_register_name) state
    (All-cons P count_name (address_register_name ∷ strobe_register_name ∷ counted rows row_register_name) count
    (All-cons P address_register_name (strobe_register_name ∷ counted rows row_register_name) address
    (All-cons P strobe_register_name (counted rows row_register_name) strobe (all_counted P rows row_register_name each))))

pub row_register : (rows row : ℕ) → row < rows → Contains (register_names rows) (row_register_name row)
row_register rows row within =
    Contains-append_right (state_name ∷ count_name ∷ address_register_name ∷ strobe_register_name ∷ []) (counted rows row_register_name) (row_register_name row)
    (contains_counted rows row_register_name row within)

-- flip-flops of CLK drive the bits of the name
abbrev pub IsFlop : List PlainModule → (name : List ℕ) → Type 0
IsFlop text name = (next : PlainExpr) × ((bit : ℕ) → Drives text (point loader_path name bit) (flop loader_path clock_name next bit))

module _ (fabric : PlainFabric) (next : NextValues) (text : List PlainModule) (has : HasLoader fabric next text) where
  pub registers_are_flops : All (IsFlop text) (register_names fabric.rows)
  registers_are_flops =
      let takes : TakesNext fabric.rows text loader_path (λ p. false) = has.steps text loader_path (λ p. false) has.stands in
      all_registers (IsFlop text) fabric.rows (takes.state.next, takes.state.drives) (takes.count.next, takes.count.drives) (takes.address.next, takes.address.drives)
      (takes.strobe.next, takes.strobe.drives) (λ row within. ((takes.each_row row within).next, (takes.each_row row within).drives))

  -- their clock is that of the top
  pub loader_clock : clock_of text loader_path clock_name ≡ Some clock_name
  loader_clock =
      clock_below text [] loader_instance_name clock_name (loader_of fabric.rows next) (found_loader fabric) clock_name has.stands refl
      (ap (λ m. instance_in m loader_instance_name) has.tiles.top_is ∙ loader_found fabric has.frames) refl
      ∙ clock_at_top text (top_module fabric) clock_name has.tiles.top_is refl
