-- What the laws of fabrics, of netlists and of legal implementations say together of a design that files spell.
use Rattle.std.proofs.Common.{◌≡◌, ◌<◌, ◌++◌, ℕ, true, All, Contains, List, [], ◌∷◌, Option, Some, None, map, sym, ap, subst, ◌∙◌, arith}
use Rattle.std.specs.List.{AllByRecursion as Each, filter, list_all}
use Rattle.std.proofs.lemmas.Bool.{and_parts}
use Rattle.std.proofs.lemmas.List.{map-append}
use Rattle.std.proofs.lemmas.List.Elements.{All-contains, All-contains_itself, All-from_recursion, All-map, All-weaker, recursion_from_All}
use Rattle.std.proofs.lemmas.Simd.{map-map}
use Rattle.fab_desk.specs.Files.{Map}
use Rattle.fab_fabric.specs.Fabric.{AreTiles, IsFabric}
use Rattle.fab_netlist.specs.Kept.{is_kept}
use Rattle.fab_netlist.specs.Packed.{PlainCell}
use Rattle.fab_netlist.specs.Packing.{Work, cell_of, net_of, of_cover, of_latch, others, packed, pair, works}
use Rattle.fab_netlist.specs.Plain.{PlainCover, PlainNetlist, name_of}
use Rattle.fab_netlist.specs.Resets.{netlist_with, reset_place, set_at, with_reset}
use Rattle.fab_netlist.specs.WellMade.{IsWellMade, ports}
use Rattle.fab_netlist.specs.Wide.{RunsAs}
use Rattle.fab_netlist.proofs.Resetting.{made_with}
use Rattle.fab_implementation.specs.Plain.{PlainImplementation, reset_name}
use Rattle.fab_legal.specs.Legal.{IsLegal}
use Rattle.fab_legal.specs.WellMade.{IsWellMadePacked, output_name, ports as design_ports}
use Rattle.fab_legal.proofs.PackedMade.{packed_made}
use Rattle.fab_state.specs.Spelled as states
use Rattle.fab_designs.specs.fab_impl_Spelled as texts
use Rattle.fab_fasm.specs.Printing as lines
use Rattle.fab_features.specs.Design.{design_features}
use Rattle.fab_texts.specs.Printed.{ends_line, is_last_word, is_word}
use Rattle.fab_texts.specs.Rows.{Word}
use Rattle.fab_features.specs.fab_use_defs_Registers.{design_state}
use Rattle.fab_blif.proofs.Each.{each_joined, each_kept, each_mapped, each_weaker}
use Rattle.fab_designs.specs.Designs.{DesignFiles, PlainDesign, SpellsDesign, read_of}
use Rattle.fab_designs.proofs.SplitNetlists.{design_runs, netlist_made as made_of, netlist_small}
use Rattle.fab_spelled_designs_laws.proofs.Named.{ports_are_words}
use Rattle.fab_spelled_fabrics_laws.proofs.Whole.{spelled_fabric, spelled_tiles, spelled_words}
use Rattle.fab_spelled_designs_laws.proofs.Apart.{each_tested}
use Rattle.fab_spelled_designs_laws.proofs.States.{state_spelled}
use Rattle.fab_spelled_designs_laws.proofs.Implementations.{implementation_spelled}
use Rattle.fab_spelled_designs_laws.proofs.Features.{features_spelled}

-- what holds of a netlist, with any reset port too, holds of it with the one that is named
holds_at : (P : PlainNetlist → Type 0) (netlist : PlainNetlist) → P netlist → ((place : ℕ) → P (with_reset place netlist)) → (place : Option ℕ) → P (set_at place netlist)
holds_at P netlist alone any None = alone
holds_at P netlist alone any (Some place) = any place

holds_with : (P : PlainNetlist → Type 0) (netlist : PlainNetlist) → P netlist → ((place : ℕ) → P (with_reset place netlist)) → (port : Option (List ℕ))
    → P (netlist_with port netlist)
holds_with P netlist alone any None = alone
holds_with P netlist alone any (Some port) = holds_at P netlist alone any (reset_place netlist port)

abbrev IsLast : Word → Type 0
IsLast word = is_last_word word ≡ true

-- the ports of a packed netlist have the names of the nets
ports_are : (netlist : PlainNetlist) → design_ports (packed netlist) ≡ map (name_of netlist) (ports netlist)
ports_are netlist =
    ap (λ (outputs : List Word). map (name_of netlist) netlist.inputs ++ outputs) (map-map output_name (λ net. (name_of netlist net, net_of netlist net)) netlist.outputs)
    ∙ sym (map-append (name_of netlist) netlist.inputs netlist.outputs)

abbrev HaveWords : PlainNetlist → Type 0
HaveWords netlist = All (λ net. IsLast (name_of netlist net)) (ports netlist)

port_words : (netlist : PlainNetlist) → HaveWords netlist → All IsLast (design_ports (packed netlist))
port_words netlist all = subst (All IsLast) (sym (ports_are netlist)) (All-map IsLast (name_of netlist) (ports netlist) all)

-- what is packed has the port names of what was read
words_again : (read netlist : PlainNetlist) → RunsAs read netlist → HaveWords read → HaveWords netlist
words_again read netlist alike words =
    let HasWord : ℕ → Type 0 = λ net. IsLast (name_of netlist net) in
    let inputs = sym alike.inputs in
    let outputs = sym alike.outputs in
    subst (All HasWord) (λ j. inputs j ++ outputs j)
    (All-weaker (Contains (ports read)) HasWord (λ net among.
    subst IsLast (sym (alike.names net (alike.ports net among))) (All-contains (λ port. IsLast (name_of read port)) (ports read) net words among))
    (ports read) (All-contains_itself (ports read)))

all_words : (names : List Word) → All IsLast names → list_all is_word names ≡ true
all_words names all =
    each_tested is_word names (each_weaker IsLast (λ name. is_word name ≡ true) (λ name last. (and_parts (is_word name) (ends_line name) last).0) names (recursion_from_All IsLast names all))

-- ---- tables

abbrev HasSmallTable : PlainCell → Type 0
HasSmallTable cell = cell.table < 65536

each_number : (P : ℕ → Type 0) (all : (n : ℕ) → P n) (numbers : List ℕ) → Each P numbers
each_number P all [] = tt
each_number P all (n ∷ numbers) = (all n, each_number P all numbers)

abbrev HaveSmallTables : PlainNetlist → Type 0
HaveSmallTables netlist = Each (λ cover. cover.table < 65536) netlist.covers

-- a cell has the table of its cover, or that which passes its input on
small_cells : (netlist : PlainNetlist) → HaveSmallTables netlist → All HasSmallTable (packed netlist).cells
small_cells netlist covers =
    let kept = filter (is_kept netlist) netlist.covers in
    let lone = others netlist 0 netlist.latches in
    let paired : PlainCover → Work = λ cover. of_cover cover (pair netlist cover) in
    let works_small : Each (λ work. HasSmallTable (cell_of netlist work)) (works netlist) =
    each_joined (λ work. HasSmallTable (cell_of netlist work)) (map paired kept) (map of_latch lone)
    (each_mapped (λ work. HasSmallTable (cell_of netlist work)) paired kept (each_kept (λ (cover : PlainCover). cover.table < 65536) (is_kept netlist) netlist.covers covers))
    (each_mapped (λ work. HasSmallTable (cell_of netlist work)) of_latch lone (each_number (λ place. HasSmallTable (cell_of netlist (of_latch place))) (λ place. omega arith) lone)) in
    All-from_recursion HasSmallTable (packed netlist).cells (each_mapped HasSmallTable (cell_of netlist) (works netlist) works_small)

-- ---- the design

module _ (files : Map) (names : DesignFiles) (design : PlainDesign) (spelled : SpellsDesign files names design) where
  pub fabric_is : IsFabric design.fabric
  fabric_is = spelled_fabric files names.fabric design.fabric spelled.fabric

  pub tiles_are : AreTiles design.fabric
  tiles_are = spelled_tiles files names.fabric design.fabric spelled.fabric

  pub netlist_made : IsWellMade design.netlist
  netlist_made = made_of spelled.netlist.bytes design.netlist spelled.netlist.spelled

  module _ (reset : Option (List ℕ)) where
    -- the netlist with its reset port
    abbrev used : PlainNetlist
    used = netlist_with reset design.netlist

    pub design_made : IsWellMadePacked (packed used)
    design_made = packed_made used (made_with design.netlist reset netlist_made)

    pub names_are : All IsLast (design_ports (packed used))
    names_are =
        let all = words_again (read_of spelled) design.netlist (design_runs spelled None) (ports_are_words 16 spelled.netlist.bytes spelled.netlist.spelled.is_blif) in
        port_words used (holds_with HaveWords design.netlist all (λ place. all) reset)

    tables_small : All HasSmallTable (packed used).cells
    tables_small =
        let all : HaveSmallTables design.netlist =
        recursion_from_All (λ (cover : PlainCover). cover.table < 65536) design.netlist.covers (netlist_small spelled.netlist.bytes design.netlist spelled.netlist.spelled) in
        small_cells used (holds_with HaveSmallTables design.netlist all (λ place. all) reset)

    module _ (implementation : PlainImplementation) (legal : IsLegal design.fabric (packed used) design.fixed implementation) where
      pub has_state : states.HasSpelling (design_state (packed used) implementation)
      has_state = state_spelled design.fabric fabric_is (packed used) design_made design.fixed implementation legal (all_words (design_ports (packed used)) names_are)

      pub has_text : implementation.reset ≡ reset_name (packed used) → texts.HasSpelling design.fabric implementation
      has_text is =
          implementation_spelled design.fabric fabric_is tiles_are (spelled_words files names.fabric design.fabric spelled.fabric) (packed used) design_made names_are design.fixed implementation legal is

      pub has_lines : All lines.HasSpelling (design_features design.fabric (packed used) implementation)
      has_lines =
          features_spelled design.fabric fabric_is tiles_are (spelled_words files names.fabric design.fabric spelled.fabric) (packed used) tables_small design.fixed implementation legal
