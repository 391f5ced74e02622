-- The sources that read no other point, pads of input ports and flip-flops: which points have them, and what drives these.
use Rattle.std.proofs.Common.{◌≡◌, ℕ, Bool, true, false, List, codes, refl, sym, ap, ◌∙◌, subst, arith, Option, Some, None, Contains}
use Rattle.fab_kinds.specs.declared.kind.Kind.TheVariants as kinds
use Rattle.fab_systems_laws.specs.Ternary.{Tern, unknown, known}
use Rattle.fab_syntax.specs.Plain.{PlainExpr, PlainModule}
use Rattle.fab_meaning.specs.Points.{Path, Point, Driver, outside, copy, bit_of, flop, hold, Drives}
use Rattle.fab_meaning.specs.Settled.{Assignment}
use Rattle.fab_meaning.specs.Runs.{user_clock_name, clock_of}
use Rattle.fab_meaning.proofs.SingleDrivers.{one_driver}
use Rattle.fab_meaning.proofs.SoundTexts.{sound_drives_once}
use Rattle.fab_model.specs.Grid.{PlainFabric}
use Rattle.fab_fabric.specs.declared.wire.Site.{Site}
use Rattle.fab_netlist.specs.Packed.{PlainCell, PlainPacked}
use Rattle.fab_netlist.specs.Packing.{packed}
use Rattle.fab_implementation.specs.Plain.{PlainImplementation}
use Rattle.fab_prim.specs.Ports.{top_name, top_inputs}
use Rattle.fab_prim.specs.Modules as modules
use Rattle.fab_prim.specs.Modules.{flip_flop_name, module_of_kind}
use Rattle.fab_runs_laws.specs.fab_tile_drives_laws_Stands.{bel_path}
use Rattle.fab_runs_laws.proofs.fab_drives_laws_Texts.{HasFabric}
use Rattle.fab_ternary_laws.specs.Shown.{Terns, tern_shown}
use Rattle.fab_runs_laws.specs.fab_use_defs_Sites.{site_path, bel_point, top_point}
use Rattle.fab_runs_laws.specs.fab_use_defs_Design.{IsBound}
use Rattle.fab_runs_laws.specs.fab_use_defs_Sources as sources
use Rattle.fab_runs_laws.specs.fab_use_defs_Sources.{Source, HasSource, output_source}
use Rattle.fab_runs_laws.specs.fab_points_laws_Known.{KnowsBits}
use Rattle.fab_runs_laws.specs.fab_points_laws_Shown.{tern_source, Shown}
use Rattle.fab_runs_laws.proofs.fab_points_laws_EachSource.{has_fabric, sources_show}
use Rattle.fab_runs_laws.proofs.fab_points_laws_Bels.{bel_stands}
use Rattle.fab_runs_laws.proofs.fab_points_laws_Pads.{outer_shown}
use Rattle.fab_runs_laws.proofs.fab_points_laws_Places.{site_tile, site_bel, cell_kind, in_kind}
use Rattle.fab_runs_laws.proofs.fab_points_laws_Registers.{lut_clock, q_drives}
use Rattle.fab_runs_laws.proofs.Setting.{Setting, cells_made}
use Rattle.fab_settling_laws.specs.Steps.{IsInputPad}

-- ---- which points

-- the flip-flop of a cell with a latch
pub record IsRegister (packed : PlainPacked) (implementation : PlainImplementation) (p : Point) : Type 0 where
  pub cell_number : ℕ
  pub init : ℕ
  pub site : Site
  pub cell : PlainCell
  pub bound : IsBound packed implementation cell_number site cell
  pub latched : cell.latch ≡ Some init
  pub is : p ≡ bel_point site flip_flop_name

module _ (fabric : PlainFabric) (packed : PlainPacked) (implementation : PlainImplementation) where
  abbrev IsOrigin : Source → Point → Type 0
  IsOrigin (sources.always bit) p = Unit {0}
  IsOrigin sources.top_input p = IsInputPad implementation p
  IsOrigin sources.flip_flop p = IsRegister packed implementation p
  IsOrigin (sources.shows q) p = Unit {0}
  IsOrigin (sources.inverts q) p = Unit {0}
  IsOrigin (sources.looks_up table index) p = Unit {0}

  output_origin : (site : Site) (latch : Option ℕ) (p : Point) → IsOrigin (output_source site latch) p
  output_origin site None p = tt
  output_origin site (Some init) p = tt

  origin : (p : Point) (source : Source) → HasSource fabric packed implementation p source → IsOrigin source p
  origin p source (sources.pad_top {port} {site} listed) = (port, site, listed, refl)
  origin p source (sources.cell_register {cell_number} {init} {site} {cell} bound latched) =
      record { cell_number = cell_number; init = init; site = site; cell = cell; bound = bound; latched = latched; is = refl }
  origin p source (sources.cell_output {cell_number} {site} {cell} bound) = output_origin site cell.latch (bel_point site (codes "O"))
  origin p source other = tt

-- ---- which drivers

-- all points with one value
abbrev pub all_of : Bool → Assignment
all_of bit q = bit

-- the one driver that heeds the inputs is the outside, and the one source is an input
module _ (text : List PlainModule) (held : Assignment) (t : Terns) (p : Point) where
  no_change : (value : Tern) → value ≡ known true → value ≡ known false → ⊥
  no_change value first second = (let both : known true ≡ known false = sym first ∙ second in absurd cc)

  heeding_driver : (d : Driver) → tern_shown text (all_of true) held t p d ≡ known true → tern_shown text (all_of false) held t p d ≡ known false →
      d ≡ outside
  heeding_driver outside first second = refl
  heeding_driver (copy other) first second = absurd (no_change (tern_shown text held held t p (copy other)) first second)
  heeding_driver (bit_of path e bit) first second = absurd (no_change (tern_shown text held held t p (bit_of path e bit)) first second)
  heeding_driver (flop path clock next bit) first second = absurd (no_change (tern_shown text held held t p (flop path clock next bit)) first second)
  heeding_driver (hold path gate e bit) first second = absurd (no_change (tern_shown text held held t p (hold path gate e bit)) first second)

  heeding_source : (source : Source) → tern_source (all_of true) held t p source ≡ known true → tern_source (all_of false) held t p source ≡ known false →
      source ≡ sources.top_input
  heeding_source sources.top_input first second = refl
  heeding_source (sources.always bit) first second = absurd (no_change (tern_source held held t p (sources.always bit)) first second)
  heeding_source sources.flip_flop first second = absurd (no_change (tern_source held held t p sources.flip_flop) first second)
  heeding_source (sources.shows q) first second = absurd (no_change (tern_source held held t p (sources.shows q)) first second)
  heeding_source (sources.inverts q) first second = absurd (no_change (tern_source held held t p (sources.inverts q)) first second)
  heeding_source (sources.looks_up table index) first second =
      absurd (no_change (tern_source held held t p (sources.looks_up table index)) first second)

-- a flip-flop with a clock of the top
pub record IsFlop (text : List PlainModule) (p : Point) : Type 0 where
  pub path : Path
  pub next : PlainExpr
  pub drives : Drives text p (flop path user_clock_name next 0)
  pub clocked : clock_of text path user_clock_name ≡ Some user_clock_name

module _ (s : Setting) where
  abbrev cells : PlainPacked
  cells = packed s.netlist

  pub single : (p : Point) (d e : Driver) → Drives s.text p d → Drives s.text p e → d ≡ e
  single p d e first second = one_driver s.text (sound_drives_once s.text s.is_text.sound) p d e first second

  has : HasFabric s.fabric s.text
  has = has_fabric s.fabric s.text s.is s.is_text

  -- a point whose source is an input is the pad of an input port, and one that holds is a flip-flop
  pub source_pad : (p : Point) (source : Source) → HasSource s.fabric cells s.implementation p source → source ≡ sources.top_input →
      IsInputPad s.implementation p
  source_pad p source from is =
      origin s.fabric cells s.implementation p sources.top_input (subst (λ (r : Source). HasSource s.fabric cells s.implementation p r) is from)

  pub source_register : (p : Point) (source : Source) → HasSource s.fabric cells s.implementation p source → source ≡ sources.flip_flop →
      IsRegister cells s.implementation p
  source_register p source from is =
      origin s.fabric cells s.implementation p sources.flip_flop (subst (λ (r : Source). HasSource s.fabric cells s.implementation p r) is from)

  -- pads of input ports are inputs of the top,
  pub pad_outside : (p : Point) → IsInputPad s.implementation p → Drives s.text p outside
  pad_outside p (port, site, listed, is) =
      let kind_is = in_kind s.fabric cells s.fixed s.implementation s.legal port site listed in
      let at = site_tile s.fabric site kinds.Io kind_is in
      let bel = site_bel s.fabric site kinds.Io at.0 kind_is at.1 in
      let is_pad : Contains (top_inputs bel.found.kind) top_name =
      subst (λ kind. Contains (top_inputs kind) top_name) (sym bel.kind_is) (0, omega arith, refl) in
      let pad = top_point site top_name in
      let shows : (bit : Bool) → Shown s.text (all_of bit) (all_of false) (λ q. unknown) pad sources.top_input =
      λ bit. outer_shown s.fabric s.text s.is s.are has (all_of bit) (all_of false) (λ q. unknown) site.x site.y at.0 site.bel bel.found at.1 bel.there
      top_name is_pad in
      let same : (shows true).driver ≡ (shows false).driver = single pad (shows true).driver (shows false).driver (shows true).drives (shows false).drives in
      let low = ap (tern_shown s.text (all_of false) (all_of false) (λ q. unknown) pad) same ∙ (shows false).is in
      let heeds = heeding_driver s.text (all_of false) (λ q. unknown) pad (shows true).driver (shows true).is low in
      subst (λ (q : Point). Drives s.text q outside) (sym is) (subst (λ (d : Driver). Drives s.text pad d) heeds (shows true).drives)

  -- and no other points with sources are
  pub outside_is_pad : (t : Terns) → KnowsBits s.fabric s.bits t → (p : Point) (source : Source) → HasSource s.fabric cells s.implementation p source →
      Drives s.text p outside → IsInputPad s.implementation p
  outside_is_pad t knows p source from drives =
      let shows : (bit : Bool) → Shown s.text (all_of bit) (all_of false) t p source =
      λ bit. sources_show s.fabric s.text cells s.fixed s.implementation s.bits (all_of bit) (all_of false) t s.is s.are s.is_text (cells_made s) s.legal
      s.configures knows p source from in
      let gives : (bit : Bool) → tern_source (all_of bit) (all_of false) t p source ≡ known bit =
      λ bit. sym (shows bit).is
      ∙ ap (tern_shown s.text (all_of bit) (all_of false) t p) (single p (shows bit).driver outside (shows bit).drives drives) in
      source_pad p source from (heeding_source s.text (all_of false) t p source (gives true) (gives false))

  -- a flip-flop of a cell has UserCLK as its clock
  pub register_flop : (p : Point) → IsRegister cells s.implementation p → IsFlop s.text p
  register_flop p register =
      let site = register.site in
      let kind_is = cell_kind s.fabric cells s.fixed s.implementation s.legal register.cell_number site register.cell register.bound in
      let at = site_tile s.fabric site kinds.Lut4c kind_is in
      let bel = site_bel s.fabric site kinds.Lut4c at.0 kind_is at.1 in
      let path = bel_path (site_path site) site.bel in
      let tile_stands = has.stands site.x site.y at.0 at.1 in
      let stands = bel_stands _ s.text (site_path site) at.0 tile_stands (all_of false) (all_of false) (λ q. unknown) site.bel bel.found bel.there
      ∙ ap (λ kind. Some (module_of_kind kind)) bel.kind_is in
      record {
        path = path;
        next = modules.lut_next;
        drives = subst (λ (q : Point). Drives s.text q (flop path user_clock_name modules.lut_next 0)) (sym register.is) (q_drives s.text path stands);
        clocked = lut_clock s.fabric s.text s.is has site.x site.y at.0 site.bel bel.found at.1 bel.there bel.kind_is stands;
      }
