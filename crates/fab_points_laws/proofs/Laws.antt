-- The laws, put together.
use Rattle.std.proofs.Common.{◌≡◌, ◌⊎◌, ◌≤◌, Bool, true, List, length, refl, sym, ap, ◌∙◌, inl, inr, Some, All}
use Rattle.fab_kinds.specs.declared.kind.Kind.TheVariants as kinds
use Rattle.fab_systems_laws.specs.Ternary.{known}
use Rattle.fab_syntax.specs.Plain.{PlainModule}
use Rattle.fab_meaning.specs.Points.{Point, Driver, Drives}
use Rattle.fab_meaning.specs.Settled.{IsSettledOn, shown}
use Rattle.fab_meaning.specs.Reads.{is_declared}
use Rattle.fab_meaning.specs.Loading.{Within, by_flop, by_stream, by_reads, IsLoading}
use Rattle.fab_meaning.specs.Sound.{PointsOfSoundTextsHaveOneDriver}
use Rattle.fab_model.specs.Grid.{PlainFabric}
use Rattle.fab_fabric.specs.Fabric.{AreTiles}
use Rattle.fab_netlist.specs.Packed.{PlainPacked}
use Rattle.fab_use_defs.specs.fab_implementation_Plain.{Pad, PlainImplementation}
use Rattle.fab_use_defs.specs.fab_legal_WellMade.{IsWellMadePacked}
use Rattle.fab_use_defs.specs.fab_legal_Lines.{IsCell}
use Rattle.fab_use_defs.specs.fab_legal_Legal.{IsLegal}
use Rattle.fab_prim.specs.Modules.{flip_flop_name, module_of_kind}
use Rattle.fab_use_defs.specs.fab_tile_drives_laws_Stands.{bel_path}
use Rattle.fab_use_defs.specs.Sites.{site_path, bel_point}
use Rattle.fab_use_defs.specs.Design.{at_flip_flop, IsSourced, IsOfDesign, IsDesignPoint}
use Rattle.fab_use_defs.specs.Sources.{Source, HasSource, source_reads, source_value}
use Rattle.fab_ternary_laws.specs.Shown.{Terns}
use Rattle.fab_points_laws.specs.Shown.{Shown}
use Rattle.fab_points_laws.specs.Laws.{DesignIsCovered, DesignIsDeclared, DesignIsListed, DesignSettlesBySources, DesignSettlesByShownSources, RegistersTick, SourcesAreKnown, SourcesAgree}
use Rattle.fab_points_laws.proofs.EachSource.{has_fabric, sources_show}
use Rattle.fab_points_laws.proofs.Loading.{shown_is_known, configured_show}
use Rattle.fab_points_laws.proofs.Boolean.{source_known, gives_source, settled_source, source_settles}
use Rattle.fab_points_laws.proofs.Covers.{route_sourced, cell_sourced}
use Rattle.fab_points_laws.proofs.ReadPoints.{pad_sourced, reads_covered, reads_few}
use Rattle.fab_points_laws.proofs.Declares.{source_declared}
use Rattle.fab_points_laws.proofs.Rows.{design_rows}
use Rattle.fab_points_laws.proofs.Configuration.{configuration_point_loads}
use Rattle.fab_use_defs.specs.fab_fabric_text_defs_Mode.{text_mode}
use Rattle.fab_points_laws.proofs.Bels.{bel_stands}
use Rattle.fab_points_laws.proofs.Places.{site_tile, site_bel, line_kind}
use Rattle.fab_points_laws.proofs.Registers.{lut_clock, user_tick, loader_tick}

module _ (fabric : PlainFabric) (packed : PlainPacked) (fixed : List Pad) (implementation : PlainImplementation) (are : AreTiles fabric) (made : IsWellMadePacked packed)
    (legal : IsLegal fabric packed fixed implementation) where
  abbrev Routed : Point → Type 0
  Routed p = IsSourced fabric packed implementation p

  sourced : (p : Point) → Routed p → (s : Source) × HasSource fabric packed implementation p s
  sourced p (inl route) = route_sourced fabric packed fixed implementation are legal p route
  sourced p (inr (inl cell)) = cell_sourced fabric packed fixed implementation are legal p cell
  sourced p (inr (inr pad)) = pad_sourced fabric packed fixed implementation are legal made p pad

  covered : (p : Point) → Routed p → (s : Source) × HasSource fabric packed implementation p s × All Routed (source_reads s) × (length (source_reads s) ≤ 4)
  covered p is =
      let found = sourced p is in (
        found.0,
        found.1,
        reads_covered fabric packed fixed implementation are legal made p found.0 found.1,
        reads_few fabric packed fixed implementation are legal made p found.0 found.1,
      )

pub design_is_covered : DesignIsCovered
design_is_covered fabric text packed fixed implementation is are is_text made legal p (inl configuration) = inl (configuration_point_loads fabric text is are is_text p configuration)
design_is_covered fabric text packed fixed implementation is are is_text made legal p (inr routed) = inr (covered fabric packed fixed implementation are made legal p routed)

pub within_declared : (text : List PlainModule) (flops : Point → Bool) (p : Point) → Within text flops p → is_declared text p ≡ true
within_declared text flops p (by_flop declared is) = declared
within_declared text flops p (by_stream stream) = stream.declared
within_declared text flops p (by_reads d declared drives derived reads) = declared

loading_declared : (text : List PlainModule) (p : Point) → IsLoading text p → is_declared text p ≡ true
loading_declared text p loading = within_declared text loading.0 p loading.2

pub design_is_declared : DesignIsDeclared
design_is_declared fabric text packed fixed implementation is are is_text made legal p (inl (inl configuration)) = loading_declared text p (configuration_point_loads fabric text is are is_text p configuration)
design_is_declared fabric text packed fixed implementation is are is_text made legal p (inl (inr routed)) =
    let found = sourced fabric packed fixed implementation are made legal p routed in
    source_declared fabric text packed fixed implementation are (has_fabric fabric text is is_text) legal p found.0 found.1
design_is_declared fabric text packed fixed implementation is are is_text made legal p (inr loading) = loading_declared text p loading

pub design_settles_shown : PointsOfSoundTextsHaveOneDriver → DesignSettlesByShownSources
design_settles_shown one fabric text packed fixed implementation bits inputs held now is are is_text made legal configures bits_show loading = (holds, settles)
  where
    shows : (p : Point) (s : Source) → HasSource fabric packed implementation p s → Shown text inputs held (λ q. known (now q)) p s
    shows p s source =
        sources_show fabric text packed fixed implementation bits inputs held (λ q. known (now q)) is are is_text made legal configures
        (shown_is_known fabric text bits inputs held now (λ q. known (now q)) is is_text bits_show loading (λ q is. refl)) p s source

    holds : IsSettledOn (IsDesignPoint fabric text packed implementation) text inputs held now →
        (p : Point) (s : Source) → IsOfDesign fabric packed implementation p → HasSource fabric packed implementation p s → now p ≡ source_value inputs held now p s
    holds settled p s is_design source =
        settled_source text inputs held now p s (reads_few fabric packed fixed implementation are legal made p s source) (shows p s source)
        (IsDesignPoint fabric text packed implementation) settled (inl is_design)

    by_source : ((p : Point) (s : Source) → IsOfDesign fabric packed implementation p → HasSource fabric packed implementation p s → now p ≡ source_value inputs held now p s) →
        (p : Point) (d : Driver) → IsOfDesign fabric packed implementation p → IsLoading text p ⊎ ((s : Source) × HasSource fabric packed implementation p s) → Drives text p d →
        now p ≡ shown text inputs held now p d
    by_source each p d is_design (inl loads) drives = loading p d loads drives
    by_source each p d is_design (inr (s, source)) drives =
        source_settles text inputs held now p s (reads_few fabric packed fixed implementation are legal made p s source) (shows p s source)
        (one text is_text.sound p (design_is_declared fabric text packed fixed implementation is are is_text made legal p (inl is_design))) (each p s is_design source) d drives

    cover : (p : Point) → IsOfDesign fabric packed implementation p → IsLoading text p ⊎ ((s : Source) × HasSource fabric packed implementation p s)
    cover p (inl configuration) = inl (configuration_point_loads fabric text is are is_text p configuration)
    cover p (inr routed) = inr (sourced fabric packed fixed implementation are made legal p routed)

    settles : ((p : Point) (s : Source) → IsOfDesign fabric packed implementation p → HasSource fabric packed implementation p s → now p ≡ source_value inputs held now p s) →
        IsSettledOn (IsDesignPoint fabric text packed implementation) text inputs held now
    settles each p d (inl is_design) drives = by_source each p d is_design (cover p is_design) drives
    settles each p d (inr loads) drives = loading p d loads drives

pub design_settles : PointsOfSoundTextsHaveOneDriver → DesignSettlesBySources
design_settles one fabric text packed fixed implementation bits inputs held now is are is_text made legal configures configured loading =
    design_settles_shown one fabric text packed fixed implementation bits inputs held now is are is_text made legal configures
    (configured_show fabric text bits inputs held now is is_text configured loading) loading

pub registers_tick : RegistersTick
registers_tick fabric text packed fixed implementation held now after is are is_text legal number init site cell bound latched =
    let has = has_fabric fabric text is is_text in
    let kind_is = line_kind fabric kinds.Lut4c (IsCell packed) implementation.cells (number, site) legal.placed.cells.lines_right bound.listed in
    let at = site_tile fabric site kinds.Lut4c kind_is in
    let bel = site_bel fabric site kinds.Lut4c at.0 kind_is at.1 in
    let path = bel_path (site_path site) site.bel in
    let stands = bel_stands (text_mode fabric) text (site_path site) at.0 (has.stands site.x site.y at.0 at.1) now now (λ q. known (now q)) site.bel bel.found bel.there
    ∙ ap (λ kind. Some (module_of_kind kind)) bel.kind_is in
    let clocked = lut_clock fabric text is has site.x site.y at.0 site.bel bel.found at.1 bel.there bel.kind_is stands in
    let Has = IsDesignPoint fabric text packed implementation in
    let has_point : Has (bel_point site flip_flop_name) = inl (inr (inr (inl (at_flip_flop bound latched)))) in
    (user_tick text path stands clocked Has has_point held now after, loader_tick text path stands clocked Has has_point held now after)

pub design_is_listed : DesignIsListed
design_is_listed fabric packed fixed implementation are made legal =
    let table = design_rows fabric packed implementation fixed are legal made in
    (table.rows, table.sound, table.complete)

pub sources_are_known : SourcesAreKnown
sources_are_known fabric text packed fixed implementation bits inputs held now t is are is_text made legal configures knows p s source reads =
    let shows = sources_show fabric text packed fixed implementation bits inputs held t is are is_text made legal configures knows p s source in
    (shows.driver, shows.drives, shows.is ∙ source_known text inputs held now t p s (reads_few fabric packed fixed implementation are legal made p s source) reads)

pub sources_agree : PointsOfSoundTextsHaveOneDriver → SourcesAgree
sources_agree one fabric text packed fixed implementation bits inputs held now is are is_text made legal configures knows p s r source other =
    let t : Terns = λ q. known (now q) in
    let first = sources_show fabric text packed fixed implementation bits inputs held t is are is_text made legal configures knows p s source in
    let second = sources_show fabric text packed fixed implementation bits inputs held t is are is_text made legal configures knows p r other in
    let driver = one text is_text.sound p (source_declared fabric text packed fixed implementation are (has_fabric fabric text is is_text) legal p s source) in
    let same : first.driver ≡ second.driver = driver.2 first.driver first.drives ∙ sym (driver.2 second.driver second.drives) in
    sym (gives_source text inputs held now p s (reads_few fabric packed fixed implementation are legal made p s source) first)
    ∙ ap (shown text inputs held now p) same
    ∙ gives_source text inputs held now p r (reads_few fabric packed fixed implementation are legal made p r other) second
