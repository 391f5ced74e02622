-- In a cycle the least solution knows each design point: it has the value of the settled assignment.
use Rattle.std.proofs.Common.{◌≡◌, ◌⊎◌, ℕ, zero, suc, ◌<◌, true, false, refl, sym, ap, ◌∙◌, inl, inr, arith, Contains, Option, Some, None}
use Rattle.std.proofs.lemmas.List.Elements.{All-contains}
use Rattle.fab_systems_laws.specs.Ternary.{known}
use Rattle.fab_meaning.specs.Points.{Point, Driver, Drives}
use Rattle.fab_meaning.specs.Settled.{Assignment, IsSettledOn}
use Rattle.fab_meaning.specs.Reads.{is_declared}
use Rattle.fab_meaning.specs.Loading.{IsLoading}
use Rattle.fab_meaning.specs.Sound.{PointsOfSoundTextsHaveOneDriver}
use Rattle.fab_fabric.specs.declared.wire.Site.{Site}
use Rattle.fab_netlist.specs.Packed.{PlainCell}
use Rattle.fab_netlist.specs.Packing.{packed}
use Rattle.fab_prim.specs.Modules.{flip_flop_name}
use Rattle.fab_ternary_laws.specs.Shown.{Terns, tern_shown}
use Rattle.fab_text_loads_laws.specs.Loads.{IsConfigured}
use Rattle.fab_solutions_laws.specs.Solutions.{Solves}
use Rattle.fab_runs_laws.specs.fab_use_defs_Sites.{bel_point}
use Rattle.fab_runs_laws.specs.fab_use_defs_Design.{IsBound, IsSourced, IsOfDesign, IsDesignPoint}
use Rattle.fab_runs_laws.specs.fab_use_defs_Sources as sources
use Rattle.fab_runs_laws.specs.fab_use_defs_Sources.{Source, output_source, source_value, source_reads, HasSource}
use Rattle.fab_runs_laws.specs.fab_points_laws_Known.{KnowsBits}
use Rattle.fab_runs_laws.specs.fab_points_laws_Laws.{SourcesAreKnown}
use Rattle.fab_runs_laws.proofs.fab_points_laws_ReadPoints.{reads_covered}
use Rattle.fab_simulation_laws.specs.Laws.{AreKnown, LoadingIsKnown, LoadingIsKept}
use Rattle.fab_runs_laws.specs.Carrying.{MeetsSources}
use Rattle.fab_runs_laws.proofs.Setting.{Setting, cells_made}
use Rattle.fab_runs_laws.proofs.DesignRank.{design_rank}
use Rattle.fab_netlist_traces_laws.proofs.Drivers.{given_free, given_shown}

pub record KnownLaws : Type 0 where
  pub one : PointsOfSoundTextsHaveOneDriver
  pub sources : SourcesAreKnown
  pub loading : LoadingIsKnown
  pub kept : LoadingIsKept

-- ---- sources that look at what is held

abbrev IsFlipFlop : Source → Type 0
IsFlipFlop (sources.always bit) = ⊥
IsFlipFlop sources.top_input = ⊥
IsFlipFlop sources.flip_flop = Unit {0}
IsFlipFlop (sources.shows q) = ⊥
IsFlipFlop (sources.inverts q) = ⊥
IsFlipFlop (sources.looks_up bits qs) = ⊥

flip_flop_or_free : (s : Source) →
    IsFlipFlop s ⊎ ((inputs held kept now : Assignment) (p : Point) → source_value inputs held now p s ≡ source_value inputs kept now p s)
flip_flop_or_free (sources.always bit) = inr (λ inputs held kept now p. refl)
flip_flop_or_free sources.top_input = inr (λ inputs held kept now p. refl)
flip_flop_or_free sources.flip_flop = inl tt
flip_flop_or_free (sources.shows q) = inr (λ inputs held kept now p. refl)
flip_flop_or_free (sources.inverts q) = inr (λ inputs held kept now p. refl)
flip_flop_or_free (sources.looks_up bits qs) = inr (λ inputs held kept now p. refl)

output_no_flip_flop : (site : Site) (latch : Option ℕ) → IsFlipFlop (output_source site latch) → ⊥
output_no_flip_flop site None is = is
output_no_flip_flop site (Some init) is = is

module _ (s : Setting) where
  -- the flip-flop of a cell with a latch
  pub record IsRegister (p : Point) : Type 0 where
    pub number : ℕ
    pub init : ℕ
    pub site : Site
    pub cell : PlainCell
    pub bound : IsBound (packed s.netlist) s.implementation number site cell
    pub latched : cell.latch ≡ Some init
    pub is : p ≡ bel_point site flip_flop_name

  flip_flop_is : (p : Point) (source : Source) → HasSource s.fabric (packed s.netlist) s.implementation p source → IsFlipFlop source → IsRegister p
  flip_flop_is p source (sources.of_output tree output) is = absurd is
  flip_flop_is p source (sources.of_edge listed among there to output_is from) is = absurd is
  flip_flop_is p source (sources.of_input tree no_output some) is = absurd is
  flip_flop_is p source (sources.constant_bit tree there jump bare) is = absurd is
  flip_flop_is p source (sources.jump_bit tree there jump named) is = absurd is
  flip_flop_is p source (sources.end_bit tree placed_is no_jump) is = absurd is
  flip_flop_is p source (sources.into way before) is = absurd is
  flip_flop_is p source (sources.across way before) is = absurd is
  flip_flop_is p source (sources.passing_on way before few) is = absurd is
  flip_flop_is p source (sources.beginning bit way before number) is = absurd is
  flip_flop_is p source (sources.cell_wire bound tree) is = absurd is
  flip_flop_is p source (sources.cell_input pin bound there few at) is = absurd is
  flip_flop_is p source (sources.cell_reset bound there latched) is = absurd is
  flip_flop_is p source (sources.cell_enable bound there latched) is = absurd is
  flip_flop_is p source (sources.cell_index bound some) is = absurd is
  flip_flop_is p source (sources.cell_table bound) is = absurd is
  flip_flop_is p source (sources.cell_output {cell_number} {site} {cell} bound) is = absurd (output_no_flip_flop site cell.latch is)
  flip_flop_is p source (sources.cell_register {cell_number} {init} {site} {cell} bound latched) is =
      record { number = cell_number; init = init; site = site; cell = cell; bound = bound; latched = latched; is = refl }
  flip_flop_is p source (sources.pad_top listed) is = absurd is
  flip_flop_is p source (sources.pad_tile listed) is = absurd is
  flip_flop_is p source (sources.pad_bel listed) is = absurd is
  flip_flop_is p source (sources.pad_output listed) is = absurd is
  flip_flop_is p source (sources.pad_wire listed there) is = absurd is
  flip_flop_is p source (sources.shown_bel listed there) is = absurd is
  flip_flop_is p source (sources.shown_top listed) is = absurd is
  flip_flop_is p source (sources.shown_tile listed) is = absurd is
  flip_flop_is p source (sources.shown_outside listed) is = absurd is
  flip_flop_is p source (sources.turned_bel listed there) is = absurd is
  flip_flop_is p source (sources.turned_top listed) is = absurd is
  flip_flop_is p source (sources.turned_tile listed) is = absurd is
  flip_flop_is p source (sources.turned_outside listed) is = absurd is

  -- what is held at loading points and at flip-flops of the design is known
  pub record Follows (held : Terns) (base : Assignment) : Type 0 where
    pub loading : AreKnown (IsLoading s.text) held base
    pub registers : AreKnown IsRegister held base

  abbrev pub Design : Point → Type 0
  Design = IsOfDesign s.fabric (packed s.netlist) s.implementation

  module _ (laws : KnownLaws) (inputs held t : Terns) (bits base now : Assignment) (solves : Solves s.text inputs held t)
      (are_inputs : (p : Point) → inputs p ≡ known (bits p))
      (follows : Follows held base) (configured : IsConfigured s.fabric s.bits base) (settled : IsSettledOn (IsLoading s.text) s.text bits base now)
      (met : MeetsSources s.fabric (packed s.netlist) s.implementation bits base now) where
    loads_known : AreKnown (IsLoading s.text) t now
    loads_known = laws.loading s.text inputs held t bits base now solves (λ p stream. are_inputs p) follows.loading settled

    knows : KnowsBits s.fabric s.bits t
    knows = s.laws.known s.fabric s.text s.bits bits base now t s.is s.is_text configured settled loads_known

    declared : (p : Point) → Design p → is_declared s.text p ≡ true
    declared p design = s.laws.declared s.fabric s.text (packed s.netlist) s.fixed s.implementation s.is s.are s.is_text (cells_made s) s.legal p (inl design)

    abbrev KnownBy : Assignment → (p : Point) → Source → Type 0
    KnownBy old p source = (d : Driver) × Drives s.text p d × (tern_shown s.text bits old t p d ≡ known (source_value bits old now p source))

    shown_by : (old : Assignment) (p : Point) (source : Source) → HasSource s.fabric (packed s.netlist) s.implementation p source →
        ((q : Point) → Contains (source_reads source) q → t q ≡ known (now q)) → KnownBy old p source
    shown_by old p source has reads =
        laws.sources s.fabric s.text (packed s.netlist) s.fixed s.implementation s.bits bits old now t s.is s.are s.is_text (cells_made s) s.legal
        s.configures knows p source has reads

    -- a point is known where what its source reads is
    step_known : (p : Point) (source : Source) → Design p → HasSource s.fabric (packed s.netlist) s.implementation p source →
        ((q : Point) → Contains (source_reads source) q → t q ≡ known (now q)) → t p ≡ known (now p)
    step_known p source design has reads =
        elim (flip_flop_or_free source) [
          | inl is ↦ (
              let by = shown_by base p source has reads in
              let holds = follows.registers p (flip_flop_is p source has is) in
              solves p by.0 (declared p design) by.1 ∙ given_shown s.text inputs held bits t base p by.0 (are_inputs p) holds ∙ by.2
              ∙ ap known (sym (met p source design has)))
          | inr free ↦ (
              let one = shown_by (λ q. true) p source has reads in
              let zero = shown_by (λ q. false) p source has reads in
              let driver = laws.one s.text s.is_text.sound p (declared p design) in
              let same : zero.0 ≡ one.0 = driver.2 zero.0 zero.1 ∙ sym (driver.2 one.0 one.1) in
              let here : now p ≡ source_value bits base now p source = met p source design has in
              let of_one = one.2 ∙ ap known (free bits (λ q. true) base now p ∙ sym here) in
              let of_zero = ap (tern_shown s.text bits (λ q. false) t p) (sym same) ∙ zero.2 ∙ ap known (free bits (λ q. false) base now p ∙ sym here) in
              solves p one.0 (declared p design) one.1 ∙ given_free s.text inputs held bits t (now p) p one.0 (are_inputs p) of_one of_zero)
        ]

    abbrev rank : Point → ℕ
    rank = (design_rank s).0

    by_rank : (n : ℕ) (p : Point) → Design p → rank p < n → t p ≡ known (now p)
    by_rank zero p design less = absurd (omega (arith, less))
    by_rank (suc n) p design less =
        elim ((design_rank s).2.lower p design) [
          | inl loads ↦ loads_known p loads
          | inr sourced ↦ step_known p sourced.0 design sourced.1 (λ q is_read.
              elim (All-contains (λ r. IsLoading s.text r ⊎ (rank r < rank p)) (source_reads sourced.0) q sourced.2 is_read) [
                | inl loads ↦ loads_known q loads
                | inr lower ↦ by_rank n q
                    (inr (All-contains (IsSourced s.fabric (packed s.netlist) s.implementation) (source_reads sourced.0) q
                    (reads_covered s.fabric (packed s.netlist) s.fixed s.implementation s.are s.legal (cells_made s) p sourced.0 sourced.1) is_read))
                    (omega (arith, less, lower))
              ])
        ]

    pub design_known : (p : Point) → IsDesignPoint s.fabric s.text (packed s.netlist) s.implementation p → t p ≡ known (now p)
    design_known p (inl design) = by_rank (suc (rank p)) p design (omega arith)
    design_known p (inr loads) = loads_known p loads
