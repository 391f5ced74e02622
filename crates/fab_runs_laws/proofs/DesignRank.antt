-- The design points of a legal implementation are ranked, so that exactly one assignment of them is settled.
use Rattle.std.proofs.Common.{◌≡◌, ◌⊎◌, ◌<◌, ℕ, false, List, [], map, inl, inr, subst, Contains}
use Rattle.std.specs.List.{All}
use Rattle.std.proofs.lemmas.List.Elements.{All-contains, All-weaker}
use Rattle.fab_meaning.specs.Points.{Point, point}
use Rattle.fab_meaning.specs.Settled.{Assignment}
use Rattle.fab_meaning.specs.Runs.{clock_name}
use Rattle.fab_meaning.specs.Loading.{IsLoading}
use Rattle.fab_netlist.specs.Packing.{packed}
use Rattle.fab_netlist.proofs.Members.{mapped_in}
use Rattle.fab_points_laws.proofs.fab_legal_Members.{from_mapped}
use Rattle.fab_points_laws.specs.fab_use_defs_Design.{IsSourced}
use Rattle.fab_points_laws.specs.fab_text_loads_laws_Loads.{IsConfigured}
use Rattle.fab_points_laws.specs.fab_use_defs_Headline.{SettlesOnce, DesignPoints}
use Rattle.fab_points_laws.specs.fab_use_defs_Sources.{Source, source_reads, HasSource}
use Rattle.fab_points_laws.specs.Laws.{RanksDesign}
use Rattle.fab_points_laws.proofs.Configuration.{configuration_point_loads}
use Rattle.fab_runs_laws.proofs.Setting.{Setting, cells_made}
use Rattle.fab_runs_laws.proofs.Ranks.{all_by, design_ranks}

module _ (s : Setting) where
  abbrev Is : Point → Type 0
  Is = IsSourced s.fabric (packed s.netlist) s.implementation

  abbrev Row : Type 0
  Row = Point × Source

  abbrev Sound : Row → Type 0
  Sound row = HasSource s.fabric (packed s.netlist) s.implementation row.0 row.1 × Is row.0

  listed : (rows : List Row) × All Sound rows × ((p : Point) → Is p → (source : Source) × Contains rows (p, source))
  listed = s.laws.listed s.fabric (packed s.netlist) s.fixed s.implementation s.are (cells_made s) s.legal

  abbrev points : List Point
  points = map (λ (row : Row). row.0) listed.0

  all_sourced : All Is points
  all_sourced = all_by Is points (λ p among.
      let from = from_mapped (λ (row : Row). row.0) listed.0 p among in
      subst Is from.2 (All-contains Sound listed.0 from.0 listed.1 from.1).1)

  pub design_rank : (rank : Point → ℕ) × (ranks : ℕ) × RanksDesign s.fabric s.text (packed s.netlist) s.implementation rank ranks
  design_rank =
      let ranked = design_ranks s.fabric s.netlist s.fixed s.implementation points s.are s.made s.acyclic s.legal all_sourced in (
        ranked.0,
        ranked.1,
        record {
          bound = λ p of_design. ranked.2 p;
          lower = λ p of_design.
              elim of_design [
                | inl configuration ↦ inl (configuration_point_loads s.fabric s.text s.is s.are s.is_text p configuration)
                | inr sourced ↦ (
                    let row = listed.2 p sourced in
                    let found = ranked.3 p (mapped_in (λ (row : Row). row.0) listed.0 (p, row.0) row.1) in
                    inr (found.0, found.1, All-weaker (λ q. ranked.0 q < ranked.0 p) (λ q. IsLoading s.text q ⊎ (ranked.0 q < ranked.0 p)) (λ q less. inr less) (source_reads found.0) found.2))
              ];
        },
      )

  pub settles_once : (held inputs : Assignment) → IsConfigured s.fabric s.bits held → inputs (point [] clock_name 0) ≡ false →
      SettlesOnce (DesignPoints s.fabric s.text s.netlist s.implementation) s.text inputs held
  settles_once held inputs configured low =
      s.laws.once s.fabric s.text (packed s.netlist) s.fixed s.implementation s.bits inputs held design_rank.0 design_rank.1 s.is s.are s.is_text (cells_made s) s.legal s.configures configured low
      design_rank.2
