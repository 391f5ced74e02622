-- What flip-flops lead to. In frames those are the registers of the loader: they lead to all its points, and read no others.
use Rattle.std.proofs.Common.{◌≡◌, ℕ, Bool, true, false, ◌&&◌, List, [], ◌∷◌, ◌++◌, refl, sym, ap, ◌∙◌, subst, inl, inr, ◌⊎◌, arith, Some, All, Contains}
use Rattle.std.specs.List.{list_any}
use Rattle.std.specs.Str.{bytes_eq}
use Rattle.std.specs.Cmp.Lexicographic.{pointwise_decides}
use Rattle.std.proofs.lemmas.Bool.{and_parts}
use Rattle.std.proofs.lemmas.Slice.Eq.{bytes_eq-Decides}
use Rattle.std.proofs.lemmas.Map.Views.{Contains-from_any}
use Rattle.std.proofs.lemmas.List.Elements.{All-append, All-contains}
use Rattle.fab_syntax.specs.declared.tree.Shape.TheVariants.{Scalar, Vector}
use Rattle.fab_syntax.specs.declared.tree.Port.{Port}
use Rattle.fab_syntax.specs.Plain.{PlainExpr, PlainItem, PlainModule, variable, reg, assign, clocked}
use Rattle.fab_syntax.specs.Declarations.{is_input, is_input_of}
use Rattle.fab_meaning.specs.Points.{Path, Point, point, copy, bit_of, flop, Drives, module_at}
use Rattle.fab_meaning.specs.Reads.{mentions, is_declared, expression_reads, same_path}
use Rattle.fab_meaning.specs.Runs.{clock_name}
use Rattle.fab_meaning.specs.Loading.{Within, by_flop, by_stream, by_reads, IsClosed, IsLoading, write_data_name, write_strobe_name}
use Rattle.fab_meaning.proofs.Dependence.{same_name, same_path_refl, same_point_is}
use Rattle.fab_meaning.proofs.Modules.{each_all}
use Rattle.fab_drives_laws.specs.fab_model_Tiles.{counted}
use Rattle.fab_drives_laws.specs.fab_model_Grid.{PlainFabric}
use Rattle.fab_drives_laws.specs.fab_gen_loader_Loader.{NextValues, port, address_port, strobe_port, row_port, registers, processes, outputs, loader_of, state_name, count_name, strobe_register_name, address_register_name, row_register_name, loader_module_name}
use Rattle.fab_drives_laws.specs.fab_fabric_text_defs_Names.{loader_instance_name}
use Rattle.fab_drives_laws.specs.fab_fabric_text_defs_Top.{loader_joins, top_module}
use Rattle.fab_drives_laws.proofs.fab_tile_drives_laws_Endings.{all_counted}
use Rattle.fab_drives_laws.proofs.Modules.{any_there}
use Rattle.fab_drives_laws.proofs.Texts.{HasFabric}
use Rattle.fab_text_loads_laws.specs.Points.{loader_path}
use Rattle.fab_text_loads_laws.proofs.Drivers.{assigned_by, joined_to}
use Rattle.fab_text_loads_laws.proofs.Declared.{NetHolds, point_holds}
use Rattle.fab_text_loads_laws.proofs.Loader.{HasLoader, loader_there, output_there, row_output_there, register_names, row_register, IsFlop, registers_are_flops, loader_clock}

-- ---- what a driver reads

-- a point that an expression reads is a declared bit of a name that it mentions
pub read_point : (text : List PlainModule) (path : Path) (e : PlainExpr) (q : Point) → expression_reads text path e q ≡ true →
    (q ≡ point path q.name q.bit) × (mentions e q.name ≡ true) × (is_declared text q ≡ true)
read_point text path e q read =
    let parts = and_parts (same_path path q.path) _ read in
    let more = and_parts (mentions e q.name) (is_declared text q) parts.1 in
    let same : path ≡ q.path = (pointwise_decides bytes_eq-Decides path q.path).0 parts.0 in
    (ap (λ other. point other q.name q.bit) (sym same), more.0, more.1)

module _ (text : List PlainModule) (flops : Point → Bool) where
  -- all declared bits of a name are within
  abbrev pub AreWithin : Path → List ℕ → Type 0
  AreWithin path name = (bit : ℕ) → is_declared text (point path name bit) ≡ true → Within text flops (point path name bit)

  pub read_within : (path : Path) (e : PlainExpr) → ((name : List ℕ) → mentions e name ≡ true → AreWithin path name) → (q : Point) → expression_reads text path e q ≡ true → Within text flops q
  read_within path e each q read =
      let found = read_point text path e q read in
      subst (Within text flops) (sym found.0) (each q.name found.1 q.bit (subst (λ p. is_declared text p ≡ true) found.0 found.2))

  pub expression_within : (p : Point) (path : Path) (e : PlainExpr) (bit : ℕ) → is_declared text p ≡ true → Drives text p (bit_of path e bit) →
      ((name : List ℕ) → mentions e name ≡ true → AreWithin path name) → Within text flops p
  expression_within p path e bit declared drives each = by_reads (bit_of path e bit) declared drives tt (read_within path e each)

  -- a name that is mentioned alone
  pub only_name : (path : Path) (other : List ℕ) → AreWithin path other → (name : List ℕ) → bytes_eq other name ≡ true → AreWithin path name
  only_name path other is name same = subst (AreWithin path) ((bytes_eq-Decides other name).0 same) is

  pub variable_within : (p : Point) (path : Path) (name : List ℕ) (bit : ℕ) → is_declared text p ≡ true → Drives text p (bit_of path (variable name) bit) →
      AreWithin path name → Within text flops p
  variable_within p path name bit declared drives is = expression_within p path (variable name) bit declared drives (only_name path name is)

  pub copy_within : (p other : Point) → is_declared text p ≡ true → Drives text p (copy other) → Within text flops other → Within text flops p
  copy_within p other declared drives is = by_reads (copy other) declared drives tt (λ q read. subst (Within text flops) (same_point_is other q read) is)

  -- ---- what comes from the top

  module _ (fabric : PlainFabric) (has : HasFabric fabric text) where
    stream_within : (name : List ℕ) → (name ≡ clock_name) ⊎ ((name ≡ write_strobe_name) ⊎ (name ≡ write_data_name)) →
        is_input (top_module fabric).ports name ≡ true →
        AreWithin [] name
    stream_within name named input bit declared =
        let is : is_input_of (module_at text []) name ≡ true = ap (λ m. is_input_of m name) has.top_is ∙ input in
        by_stream (record { input = record { top = refl; input = is; is = refl }; declared = declared; named = named })

    pub clock_within : AreWithin [] clock_name
    clock_within = stream_within clock_name (inl refl) refl

    pub strobe_within : AreWithin [] write_strobe_name
    strobe_within = stream_within write_strobe_name (inr (inl refl)) refl

    pub data_within : AreWithin [] write_data_name
    data_within = stream_within write_data_name (inr (inr refl)) refl

-- ---- the registers of a loader

module _ (fabric : PlainFabric) (next : NextValues) (text : List PlainModule) (has : HasLoader fabric next text) where
  abbrev rows : ℕ
  rows = fabric.rows

  pub flops : Point → Bool
  flops p = same_path p.path loader_path && list_any (bytes_eq p.name) (register_names rows)

  abbrev loader : PlainModule
  loader = loader_of rows next

  -- ---- the loader

  input_within : (name : List ℕ) (place : Contains (loader_joins rows) (record { port = name; to = Some (variable name) })) → is_input loader.ports name ≡ true →
      AreWithin text flops [] name → AreWithin text flops loader_path name
  input_within name among input is bit declared =
      variable_within text flops (point loader_path name bit) [] name bit declared
      (joined_to text [] (top_module fabric) has.tiles.top_is loader loader_module_name loader_instance_name (loader_joins rows) has.named
      (loader_there fabric has.frames) name (variable name)
      bit among input)
      is

  register_within : (name : List ℕ) → Contains (register_names rows) name → AreWithin text flops loader_path name
  unfolding flops
  register_within name there bit declared =
      let at : same_path loader_path loader_path ≡ true = same_path_refl loader_path in
      let listed : list_any (bytes_eq name) (register_names rows) ≡ true = any_there (bytes_eq name) (register_names rows) name there (same_name name) in
      let both : flops (point loader_path name bit) ≡ true = rw (at, listed) refl in
      by_flop declared both

  output_within : (port register : List ℕ) → Contains (outputs rows) (assign port (variable register)) → Contains (register_names rows) register → AreWithin text flops loader_path port
  output_within port register there listed bit declared =
      variable_within text flops (point loader_path port bit) loader_path register bit declared
      (assigned_by text loader_path loader has.stands port (variable register) bit (output_there rows next (assign port (variable register)) there))
      (register_within register listed)

  ports_within : All (λ port. AreWithin text flops loader_path port.name) loader.ports
  ports_within =
      let P : Port → Type 0 = λ port. AreWithin text flops loader_path port.name in
      let fixed : List Port =
      port true Scalar clock_name ∷ port true Scalar write_strobe_name ∷ port true (Vector 32) write_data_name
      ∷ port false (Vector 32) address_port ∷ port false Scalar strobe_port ∷ [] in
      All-append P fixed (counted rows (λ row. port false (Vector 32) (row_port row)))
      (each_all P fixed (
        input_within clock_name (0, omega arith, refl) refl (clock_within text flops fabric has.tiles),
        (
          input_within write_strobe_name (1, omega arith, refl) refl (strobe_within text flops fabric has.tiles),
          (
            input_within write_data_name (2, omega arith, refl) refl (data_within text flops fabric has.tiles),
            (
              output_within address_port address_register_name (0, omega arith, refl) (2, omega arith, refl),
              (output_within strobe_port strobe_register_name (1, omega arith, refl) (3, omega arith, refl), tt),
            ),
          ),
        ),
      ))
      (all_counted P rows (λ row. port false (Vector 32) (row_port row)) (λ row few.
      output_within (row_port row) (row_register_name row) (row_output_there rows row few) (row_register rows row few)))

  nets_within : All (NetHolds (AreWithin text flops loader_path)) loader.items
  nets_within =
      let P = NetHolds (AreWithin text flops loader_path) in
      let fixed_registers : List PlainItem = reg (Vector 2) state_name ∷ reg (Vector 5) count_name ∷ reg (Vector 32) address_register_name ∷ reg Scalar strobe_register_name ∷ [] in
      let fixed_processes : List PlainItem =
      clocked clock_name state_name next.state ∷ clocked clock_name count_name next.count
      ∷ clocked clock_name address_register_name next.address ∷ clocked clock_name strobe_register_name next.strobe ∷ [] in
      let fixed_outputs : List PlainItem = assign address_port (variable address_register_name) ∷ assign strobe_port (variable strobe_register_name) ∷ [] in
      All-append P (registers rows) (processes rows next ++ outputs rows)
      (All-append P fixed_registers (counted rows (λ row. reg (Vector 32) (row_register_name row)))
      (each_all P fixed_registers (
        register_within state_name (0, omega arith, refl),
        (
          register_within count_name (1, omega arith, refl),
          (register_within address_register_name (2, omega arith, refl), (register_within strobe_register_name (3, omega arith, refl), tt)),
        ),
      ))
      (all_counted P rows (λ row. reg (Vector 32) (row_register_name row)) (λ row few. register_within (row_register_name row) (row_register rows row few))))
      (All-append P (processes rows next) (outputs rows)
      (All-append P fixed_processes (counted rows (λ row. clocked clock_name (row_register_name row) (next.row row))) (each_all P fixed_processes (tt, (tt, (tt, (tt, tt)))))
      (all_counted P rows (λ row. clocked clock_name (row_register_name row) (next.row row)) (λ row few. tt)))
      (All-append P fixed_outputs (counted rows (λ row. assign (row_port row) (variable (row_register_name row)))) (each_all P fixed_outputs (tt, (tt, tt)))
      (all_counted P rows (λ row. assign (row_port row) (variable (row_register_name row))) (λ row few. tt))))

  -- all points of the loader
  pub loader_within : (name : List ℕ) → AreWithin text flops loader_path name
  loader_within name bit declared =
      point_holds text loader_path loader (AreWithin text flops loader_path) name bit has.stands ports_within nets_within declared bit declared

  -- ---- they are closed

  pub closed : IsClosed text flops
  unfolding flops
  closed p is =
      let parts = and_parts (same_path p.path loader_path) (list_any (bytes_eq p.name) (register_names rows)) is in
      let at : p.path ≡ loader_path = (pointwise_decides bytes_eq-Decides p.path loader_path).0 parts.0 in
      let there : Contains (register_names rows) p.name = Contains-from_any {eq = bytes_eq} (λ x y. (bytes_eq-Decides x y).0) p.name (register_names rows) parts.1 in
      let found : IsFlop text p.name = All-contains (IsFlop text) (register_names rows) p.name (registers_are_flops fabric next text has) there in
      record {
        path = loader_path;
        clock = clock_name;
        next = found.0;
        bit = p.bit;
        drives = subst (λ path. Drives text (point path p.name p.bit) (flop loader_path clock_name found.0 p.bit)) (sym at) (found.1 p.bit);
        clocked = loader_clock fabric next text has;
        inside = read_within text flops loader_path found.0 (λ name mentioned. loader_within name);
      }

  -- so what they lead to are loading points
  pub within_is_loading : (p : Point) → Within text flops p → IsLoading text p
  within_is_loading p is = (flops, closed, is)
