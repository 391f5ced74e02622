-- The ports and the flip-flops of a legal implementation's state stand in the text of its fabric.
use Rattle.std.proofs.Common.{◌≡◌, true, false, List, ◌++◌, codes, All, Contains, Some, refl, sym, ap, ◌∙◌, subst, arith}
use Rattle.std.proofs.lemmas.List.Elements.{All-append, All-map, All-weaker}
use Rattle.fab_kinds.specs.declared.kind.Kind.{Kind}
use Rattle.fab_kinds.specs.declared.kind.Kind.TheVariants as kinds
use Rattle.fab_systems_laws.specs.Ternary.{no}
use Rattle.fab_syntax.specs.declared.tree.Shape.TheVariants.{Scalar}
use Rattle.fab_syntax.specs.Plain.{PlainModule}
use Rattle.fab_meaning.specs.Points.{module_at}
use Rattle.fab_meaning.specs.Runs.{user_clock_name}
use Rattle.fab_meaning.specs.Ports.{scalar}
use Rattle.fab_values.specs.Declarations.{declared_at, found_in}
use Rattle.fab_values.specs.declared.names.Role.TheVariants as roles
use Rattle.fab_prim.specs.Ports.{top_inputs, top_name, top_outputs}
use Rattle.fab_prim.specs.Modules as modules
use Rattle.fab_prim.specs.Modules.{flip_flop_name, module_of_kind}
use Rattle.fab_model.specs.Grid.{PlainFabric}
use Rattle.fab_fabric.specs.Fabric.{IsFabric, AreTiles}
use Rattle.fab_fabric.specs.declared.wire.Site.{Site}
use Rattle.fab_netlist.specs.Packed.{PlainPacked}
use Rattle.fab_implementation.specs.Plain.{Pad, PlainImplementation}
use Rattle.fab_implementation.specs.OnFabric.{kind_at}
use Rattle.fab_legal.specs.Legal.{IsLegal}
use Rattle.fab_fabric_text_defs.specs.Names.{pad_port_name}
use Rattle.fab_tile_drives_laws.specs.Stands.{bel_path}
use Rattle.fab_fabric_text_defs.specs.Texts.{IsFabricText}
use Rattle.fab_state.specs.Plain.{PlainState, Register}
use Rattle.fab_points_laws.specs.fab_use_defs_Sites.{site_path}
use Rattle.fab_points_laws.specs.fab_use_defs_Registers.{design_state}
use Rattle.fab_points_laws.proofs.Bels.{bel_stands}
use Rattle.fab_points_laws.proofs.EachSource.{has_fabric}
use Rattle.fab_points_laws.proofs.Pads.{top_port}
use Rattle.fab_points_laws.proofs.Places.{cell_kind, in_kind, out_kind, site_bel, site_tile}
use Rattle.fab_points_laws.proofs.Registers.{q_drives}
use Rattle.fab_state_points.specs.Entries.{HasEntry, entries_of, in_entries, out_entries, register_entries}
use Rattle.fab_state_points.specs.declared.entry.Entry.TheVariants as entries
use Rattle.fab_legal_states_laws.proofs.Ports.{leaving_port, port_declared}
use Rattle.fab_legal_states_laws.proofs.StateLines.{IsInputAt, IsOfCell, IsOutputAt, ffs_bound, ins_listed, outs_listed}

module _ (fabric : PlainFabric) (text : List PlainModule) (packed : PlainPacked) (fixed : List Pad) (it : PlainImplementation) (is : IsFabric fabric) (are : AreTiles fabric)
    (is_text : IsFabricText fabric text) (legal : IsLegal fabric packed fixed it) where
  -- ---- pads

  entering : (site : Site) → kind_at fabric site ≡ Some kinds.Io → HasEntry text (entries.Input site)
  entering site kind_is =
      let tile = site_tile fabric site kinds.Io kind_is in
      let bel = site_bel fabric site kinds.Io tile.0 kind_is tile.1 in
      let among : Contains (top_inputs bel.found.kind) top_name = subst (λ (k : Kind). Contains (top_inputs k) top_name) (sym bel.kind_is) (0, omega arith, refl) in
      port_declared fabric text is_text is are (scalar true (pad_port_name site.x site.y site.bel top_name))
      (top_port fabric site.x site.y tile.0 site.bel bel.found top_name tile.1 bel.there among)

  leaving : (site : Site) → kind_at fabric site ≡ Some kinds.Io → HasEntry text (entries.Output site)
  leaving site kind_is =
      let tile = site_tile fabric site kinds.Io kind_is in
      let bel = site_bel fabric site kinds.Io tile.0 kind_is tile.1 in
      let among : Contains (top_outputs bel.found.kind) (codes "I_top") =
      subst (λ (k : Kind). Contains (top_outputs k) (codes "I_top")) (sym bel.kind_is) (0, omega arith, refl) in
      port_declared fabric text is_text is are (scalar false (pad_port_name site.x site.y site.bel (codes "I_top")))
      (leaving_port fabric site.x site.y tile.0 site.bel bel.found (codes "I_top") tile.1 bel.there among)

  -- ---- flip-flops

  lut_stands : (site : Site) → kind_at fabric site ≡ Some kinds.Lut4c → module_at text (bel_path (site_path site) site.bel) ≡ Some (module_of_kind kinds.Lut4c)
  lut_stands site kind_is =
      let tile = site_tile fabric site kinds.Lut4c kind_is in
      let bel = site_bel fabric site kinds.Lut4c tile.0 kind_is tile.1 in
      let stands = (has_fabric fabric text is is_text).stands site.x site.y tile.0 tile.1 in
      bel_stands _ text (site_path site) tile.0 stands (λ q. false) (λ q. false) (λ q. no) site.bel bel.found bel.there
      ∙ ap (λ (kind : Kind). Some (module_of_kind kind)) bel.kind_is

  holding : (site : Site) → kind_at fabric site ≡ Some kinds.Lut4c → HasEntry text (entries.Register site)
  holding site kind_is =
      let path = bel_path (site_path site) site.bel in
      let stands = lut_stands site kind_is in (
        record {
          local = record { first = 47; shape = Scalar; role = roles.Reg };
          is = ap (λ m. found_in (declared_at m) flip_flop_name) stands;
          shape_is = refl;
          role_is = refl;
        },
        record { path = path; clock = user_clock_name; next = modules.lut_next; bit = 0; drives = q_drives text path stands },
      )

  -- ---- the lines

  abbrev state : PlainState
  state = design_state packed it

  ins_there : All (HasEntry text) (in_entries state.ins)
  ins_there =
      All-map (HasEntry text) (λ (pad : Pad). entries.Input pad.1) state.ins
      (All-weaker (IsInputAt packed it) (λ (pad : Pad). HasEntry text (entries.Input pad.1))
      (λ pad at. entering pad.1 (in_kind fabric packed fixed it legal pad.0 pad.1 at.1)) state.ins (ins_listed fabric packed fixed it legal))

  outs_there : All (HasEntry text) (out_entries state.outs)
  outs_there =
      All-map (HasEntry text) (λ (pad : Pad). entries.Output pad.1) state.outs
      (All-weaker (IsOutputAt packed it) (λ (pad : Pad). HasEntry text (entries.Output pad.1))
      (λ pad at. leaving pad.1 (out_kind fabric packed fixed it legal pad.0 pad.1 at.1)) state.outs (outs_listed fabric packed fixed it legal))

  ffs_there : All (HasEntry text) (register_entries state.ffs)
  ffs_there =
      All-map (HasEntry text) (λ (register : Register). entries.Register register.0) state.ffs
      (All-weaker (λ (register : Register). IsOfCell packed it register.0) (λ (register : Register). HasEntry text (entries.Register register.0))
      (λ register of. holding register.0 (cell_kind fabric packed fixed it legal of.number register.0 of.cell of.bound)) state.ffs
      (ffs_bound fabric packed fixed it legal))

  pub entries_there : All (HasEntry text) (entries_of state)
  entries_there =
      All-append (HasEntry text) (in_entries state.ins) (out_entries state.outs ++ register_entries state.ffs) ins_there
      (All-append (HasEntry text) (out_entries state.outs) (register_entries state.ffs) outs_there ffs_there)
