-- The flip-flops of a design: they are no loading points, and at a tick of UserCLK they take what their tables show.
use Rattle.std.proofs.Common.{◌≡◌, ℕ, Bool, true, false, List, codes, sym, ap, ◌∙◌, subst, inl, inr, Some, if◌then◌else◌}
use Rattle.fab_kinds.specs.declared.kind.Kind.TheVariants as kinds
use Rattle.fab_systems_laws.specs.Ternary.{yes, no, known}
use Rattle.fab_meaning.specs.Points.{Point, Driver, flop, Drives, module_at}
use Rattle.fab_meaning.specs.Reads.{is_declared}
use Rattle.fab_meaning.specs.Runs.{user_clock_name, clock_of, is_clock}
use Rattle.fab_meaning.specs.Loading.{IsLoading}
use Rattle.fab_meaning.specs.Sound.{PointsOfSoundTextsHaveOneDriver}
use Rattle.fab_prim.specs.Modules as modules
use Rattle.fab_prim.specs.Modules.{flip_flop_name, module_of_kind}
use Rattle.fab_netlist.specs.Packing.{packed}
use Rattle.fab_tile_drives_laws.specs.Stands.{bel_path}
use Rattle.fab_ternary_laws.specs.Operators.{tern_at}
use Rattle.fab_ternary_laws.specs.Values.{tern_value}
use Rattle.fab_ternary_laws.specs.Shown.{Terns, tern_names}
use Rattle.fab_runs_laws.specs.fab_use_defs_Sites.{site_path, bel_point, reset_bit}
use Rattle.fab_runs_laws.specs.fab_use_defs_Design.{at_flip_flop, IsDesignPoint}
use Rattle.fab_runs_laws.proofs.fab_points_laws_Bels.{bel_stands}
use Rattle.fab_runs_laws.proofs.fab_points_laws_EachSource.{has_fabric}
use Rattle.fab_runs_laws.proofs.fab_points_laws_Places.{cell_kind, site_tile, site_bel}
use Rattle.fab_runs_laws.proofs.fab_points_laws_Registers.{lut_clock, q_drives, next_known}
use Rattle.fab_runs_laws.proofs.fab_points_laws_Resets.{reset_loads}
use Rattle.fab_simulation_laws.specs.Simulation.{LeavesAt}
use Rattle.fab_runs_laws.proofs.Setting.{Setting, cells_made}
use Rattle.fab_netlist_traces_laws.proofs.Drivers.{user_not_loading}
use Rattle.fab_netlist_traces_laws.proofs.Known.{IsRegister}

module _ (s : Setting) (p : Point) (r : IsRegister s p) where
  abbrev at : List ℕ → Point
  at = bel_point r.site

  here : (stands : module_at s.text (bel_path (site_path r.site) r.site.bel) ≡ Some (module_of_kind kinds.Lut4c))
      × (clock_of s.text (bel_path (site_path r.site) r.site.bel) user_clock_name ≡ Some user_clock_name)
  here =
      let has = has_fabric s.fabric s.text s.is s.is_text in
      let kind_is = cell_kind s.fabric (packed s.netlist) s.fixed s.implementation s.legal r.number r.site r.cell r.bound in
      let tile = site_tile s.fabric r.site kinds.Lut4c kind_is in
      let bel = site_bel s.fabric r.site kinds.Lut4c tile.0 kind_is tile.1 in
      let stands = bel_stands _ s.text (site_path r.site) tile.0 (has.stands r.site.x r.site.y tile.0 tile.1) (λ q. false) (λ q. false) (λ q. no) r.site.bel
      bel.found bel.there
      ∙ ap (λ kind. Some (module_of_kind kind)) bel.kind_is in
      (stands, lut_clock s.fabric s.text s.is has r.site.x r.site.y tile.0 r.site.bel bel.found tile.1 bel.there bel.kind_is stands)

  abbrev driver : Driver
  driver = flop (bel_path (site_path r.site) r.site.bel) user_clock_name modules.lut_next 0

  drives : Drives s.text p driver
  drives = subst (λ q. Drives s.text q driver) (sym r.is) (q_drives s.text (bel_path (site_path r.site) r.site.bel) here.0)

  -- a design point
  pub register_used : IsDesignPoint s.fabric s.text (packed s.netlist) s.implementation p
  register_used = subst (λ q. IsDesignPoint s.fabric s.text (packed s.netlist) s.implementation q) (sym r.is)
      (inl (inr (inr (inl (at_flip_flop r.bound r.latched)))))

  pub register_declared : is_declared s.text p ≡ true
  register_declared = s.laws.declared s.fabric s.text (packed s.netlist) s.fixed s.implementation s.is s.are s.is_text (cells_made s) s.legal p register_used

  pub register_not_loading : PointsOfSoundTextsHaveOneDriver → IsLoading s.text p → ⊥
  register_not_loading one =
      let driver_is = one s.text s.is_text.sound p register_declared in
      user_not_loading s.text p (λ d e of_d of_e. driver_is.2 d of_d ∙ sym (driver_is.2 e of_e)) (bel_path (site_path r.site) r.site.bel) user_clock_name
      modules.lut_next 0 drives here.1

  -- the bit that a reset loads is a design point too
  pub reset_used : IsDesignPoint s.fabric s.text (packed s.netlist) s.implementation (reset_bit r.site)
  reset_used = inr (reset_loads s.fabric (packed s.netlist) s.fixed s.implementation s.legal r.number r.site r.cell r.bound s.text s.is s.are s.is_text)

  -- enabled, it is left with that bit where it is reset, and else with its table
  pub register_left : (held t next : Terns) (reset : Bool) → LeavesAt s.text user_clock_name held t next → t (at (codes "EN")) ≡ yes →
      t (at (codes "SR")) ≡ known reset → next p ≡ (if reset then t (reset_bit r.site) else t (at (codes "t")))
  register_left held t next reset leaves enabled resets =
      leaves p driver register_declared drives
      ∙ ap (λ o. if is_clock user_clock_name o then tern_at (tern_value (tern_names s.text t (bel_path (site_path r.site) r.site.bel)) modules.lut_next) 0
      else held p) here.1
      ∙ next_known s.text (bel_path (site_path r.site) r.site.bel) here.0 t reset enabled resets
