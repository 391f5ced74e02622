-- A small design keeps all that the laws ask for.
use Rattle.std.proofs.Common.{◌≡◌, ◌⊎◌, ℕ, zero, suc, ◌%◌, ◌^◌, ◌<◌, Bool, true, false, ◌&&◌, List, [], ◌∷◌, codes, length, take, get_or, refl, sym, ap, ◌∙◌, subst, inl, inr, arith, Some, None, nat_eq, nat_lt, All, Contains, if◌then◌else◌}
use Rattle.std.specs.Str.{bytes_eq}
use Rattle.std.proofs.Math.Nat.{zero-div}
use Rattle.std.proofs.lemmas.Bool.{cases_Bool}
use Rattle.std.proofs.lemmas.List.Elements.{All-nil, All-cons}
use Rattle.fab_kinds.specs.declared.kind.Kind.TheVariants as kinds
use Rattle.fab_syntax.specs.Plain.{PlainModule}
use Rattle.fab_meaning.specs.Points.{Point}
use Rattle.fab_meaning.specs.Loading.{IsLoading}
use Rattle.fab_fabric.specs.declared.wire.Site.{Site}
use Rattle.fab_netlist.specs.WellMade.{table_bit}
use Rattle.fab_netlist.specs.Packed.{PlainCell}
use Rattle.fab_use_defs.specs.fab_legal_WellMade.{IsWellMadeCell, IsWellMadePacked}
use Rattle.fab_use_defs.specs.fab_legal_Lines.{IsRightLine, IsCell, CellsHaveSites}
use Rattle.fab_use_defs.specs.fab_legal_Sinks.{Required, cell_input, latch_enable, latch_reset, input_released, output_shown, output_driven}
use Rattle.fab_use_defs.specs.fab_legal_Legal.{IsLegal}
use Rattle.fab_use_defs.specs.fab_drives_laws_Examples.{small_fabric}
use Rattle.fab_use_defs.proofs.fab_drives_laws_Lists.{none_there}
use Rattle.fab_use_defs.proofs.fab_drives_laws_SmallFabric.{small_is_fabric, small_is_of_tiles}
use Rattle.fab_use_defs.specs.fab_fabric_text_defs_Texts.{IsFabricText}
use Rattle.fab_use_defs.specs.Design as design
use Rattle.fab_use_defs.specs.Sites.{bel_point}
use Rattle.fab_use_defs.specs.Design.{IsBound, IsOfDesign, IsRoutePoint, IsCellPoint, IsPadPoint}
use Rattle.fab_use_defs.specs.Configuring.{Configures, cell_bit}
use Rattle.fab_use_defs.specs.Sources as sources
use Rattle.fab_use_defs.specs.Sources.{Source, HasSource, source_reads}
use Rattle.fab_points_laws.specs.Laws.{RanksDesign, RankedDesignSettlesOnce}
use Rattle.fab_points_laws.specs.Example.{zero_cell, lut_site, small_packed, small_implementation, small_bits, SmallDesignSettlesOnce}
use Rattle.fab_points_laws.proofs.Configuration.{configuration_point_loads}

no_bit : (place : ℕ) → table_bit 0 place ≡ false
no_bit place = ap (λ n. nat_eq (n % 2) 1) (zero-div (2 ^ place))

one_cell : (number : ℕ) (site : Site) (cell : PlainCell) → IsBound small_packed small_implementation number site cell → (site ≡ lut_site) × (cell ≡ zero_cell)
one_cell number site cell bound = (
  of_line bound.listed.0 bound.listed.1 bound.listed.2,
  of_cell number bound.cell_is.0 bound.cell_is.1,
)
  where
    of_line : (k : ℕ) → k < 1 → get_or small_implementation.cells k (number, site) ≡ (number, site) → site ≡ lut_site
    of_line zero few is = sym (ap (λ (l : ℕ × Site). l.1) is)
    of_line (suc k) few is = absurd (omega arith)

    of_cell : (k : ℕ) → k < 1 → get_or (zero_cell ∷ []) k cell ≡ cell → cell ≡ zero_cell
    of_cell zero few is = sym is
    of_cell (suc k) few is = absurd (omega arith)

small_made : IsWellMadePacked small_packed
small_made = record {
  few_cells = omega arith;
  few_ports = omega arith;
  cells = All-cons (IsWellMadeCell small_packed) zero_cell [] (record {
    few_inputs = omega arith;
    nets = All-nil _;
    repeats = λ place few. no_bit place ∙ sym (no_bit (place % 2 ^ 0));
    initial = λ init is. absurd (let e : None ≡ Some init = is in cc);
  }) (All-nil (IsWellMadeCell small_packed));
  nets = All-nil _;
  reset_below = λ place is. absurd (let e : None ≡ Some place = is in cc);
  ports_differ = λ i j d before within. absurd (omega (arith, within));
}

cell_lines : CellsHaveSites small_fabric small_packed small_implementation
cell_lines = record {
  lines_right = λ place line few at. right place line few at;
  all_named = λ number few. (0, omega arith, (let e : 0 ≡ number = omega (arith, few) in e));
}
  where
    right : (place : ℕ) (line : ℕ × Site) → place < 1 → (place < 1) × (get_or small_implementation.cells place line ≡ line) →
        IsRightLine small_fabric kinds.Lut4c (IsCell small_packed) (take place small_implementation.cells) line
    right zero line few at =
        subst (IsRightLine small_fabric kinds.Lut4c (IsCell small_packed) []) at.1 (record { known = omega arith; first = λ there. none_there 0 there; of_kind = refl })
    right (suc place) line few at = absurd (omega arith)

small_legal : IsLegal small_fabric small_packed [] small_implementation
small_legal = record {
  placed = record {
    cells = cell_lines;
    sites = λ place site few at. one_site place site few;
    ports = record {
      ins = record { lines_right = λ place line few at. absurd (omega (arith, few)); all_named = λ port known. absurd (none_there port known) };
      outs = record { lines_right = λ place line few at. absurd (omega (arith, few)); all_named = λ port known. absurd (none_there port known) };
    };
  };
  constraints = λ place pad few at. absurd (omega (arith, few));
  steps = λ place tree few at. absurd (omega (arith, few));
  reached = λ place tree few at. absurd (omega (arith, few));
  nets = λ place tree few at. absurd (omega (arith, few));
  sinks = λ net wire required. absurd (no_sink net wire required);
  apart = λ wire first second in_first in_second. absurd (none_there in_first.tree in_first.listed);
}
  where
    one_site : (place : ℕ) (site : Site) → place < 1 → Contains (take place (lut_site ∷ [])) site → ⊥
    one_site zero site few there = none_there site there
    one_site (suc place) site few there = omega (arith, few)

    no_sink : (net : _) (wire : _) → Required small_fabric small_packed small_implementation net wire → ⊥
    no_sink any wire (cell_input {number} {pin} {site} {cell} {net} listed cell_is at) =
        let cell_zero = (one_cell number site cell (record { listed = listed; cell_is = cell_is })).1 in
        let few : pin < 0 = subst (λ (c : PlainCell). pin < length c.inputs) cell_zero at.0 in
        omega (arith, few)
    no_sink net wire (latch_enable {number} {init} {site} {cell} listed cell_is is) =
        let cell_zero = (one_cell number site cell (record { listed = listed; cell_is = cell_is })).1 in
        let e : None ≡ Some init = sym (ap (λ (c : PlainCell). c.latch) cell_zero) ∙ is in cc
    no_sink net wire (latch_reset {number} {init} {site} {cell} listed cell_is is) =
        let cell_zero = (one_cell number site cell (record { listed = listed; cell_is = cell_is })).1 in
        let e : None ≡ Some init = sym (ap (λ (c : PlainCell). c.latch) cell_zero) ∙ is in cc
    no_sink net wire (input_released listed) = none_there _ listed
    no_sink net wire (output_shown listed among) = none_there _ listed
    no_sink net wire (output_driven listed) = none_there _ listed

small_configures : Configures small_fabric small_packed small_implementation small_bits
small_configures = record {
  cells = λ number bit site cell tile bound there few. sym (ap (λ c. cell_bit false c bit) (one_cell number site cell bound).1 ∙ zero_bit bit);
  edges = λ tree edge x y tile output input listed among there to is from. absurd (none_there tree listed);
}
  where
    past_table : (of_latch of_reset : Bool) → (if of_latch then false else of_reset && false) ≡ false
    past_table true of_reset = refl
    past_table false true = refl
    past_table false false = refl

    zero_bit : (bit : ℕ) → cell_bit false zero_cell bit ≡ false
    zero_bit bit =
        elim (cases_Bool (nat_lt bit 16)) [ inl table ↦ rw table (no_bit bit) | inr past ↦ rw past (past_table (nat_eq bit 16) (nat_eq bit 18)) ]

abbrev small_rank : Point → ℕ
small_rank p = if bytes_eq p.name (codes "O") then 1 else 0

abbrev Lower : List PlainModule → Point → Type 0
Lower text p = IsLoading text p ⊎ ((s : Source) × HasSource small_fabric small_packed small_implementation p s × All (λ q. IsLoading text q ⊎ (small_rank q < small_rank p)) (source_reads s))

small_ranks : (text : List PlainModule) → IsFabricText small_fabric text → RanksDesign small_fabric text small_packed small_implementation small_rank 2
small_ranks text is_text = record { bound = λ p is. below (bytes_eq p.name (codes "O")); lower = lower }
  where
    below : (b : Bool) → (if b then 1 else 0) < 2
    below true = omega arith
    below false = omega arith

    of_table : (number : ℕ) (site : Site) (cell : PlainCell) → IsBound small_packed small_implementation number site cell → Lower text (bel_point site (codes "t"))
    of_table number site cell bound = (
        let c = (one_cell number site cell bound).1 in
        let source : HasSource small_fabric small_packed small_implementation (bel_point site (codes "t")) (sources.looks_up zero_cell.table (sources.index_points site zero_cell)) =
        subst (λ c. HasSource small_fabric small_packed small_implementation (bel_point site (codes "t")) (sources.looks_up c.table (sources.index_points site c))) c (sources.cell_table bound) in
        inr (_, source, All-nil _))

    of_output : (number : ℕ) (site : Site) (cell : PlainCell) → IsBound small_packed small_implementation number site cell → Lower text (bel_point site (codes "O"))
    of_output number site cell bound = (
        let c = (one_cell number site cell bound).1 in
        let source : HasSource small_fabric small_packed small_implementation (bel_point site (codes "O")) (sources.shows (bel_point site (codes "t"))) =
        subst (λ (c : PlainCell). HasSource small_fabric small_packed small_implementation (bel_point site (codes "O")) (sources.output_source site c.latch)) c (sources.cell_output bound) in
        inr (_, source, All-cons (λ q. IsLoading text q ⊎ (small_rank q < 1)) (bel_point site (codes "t")) [] (inr (omega arith)) (All-nil _)))

    lower : (p : Point) → IsOfDesign small_fabric small_packed small_implementation p → Lower text p
    lower p (inl configuration) = inl (configuration_point_loads small_fabric text small_is_fabric small_is_of_tiles is_text p configuration)
    lower p (inr (inl (design.in_tile tree))) = absurd (none_there tree.stands.tree tree.stands.listed)
    lower p (inr (inl (design.in_matrix tree some))) = absurd (none_there tree.stands.tree tree.stands.listed)
    lower p (inr (inl (design.between tree placed no_jump way))) = absurd (none_there tree.stands.tree tree.stands.listed)
    lower p (inr (inr (inl (design.at_pin {cell_number} {site} {cell} {name} bound among)))) =
        absurd (none_there name (subst (λ c. Contains (design.required_pins c) name) (one_cell cell_number site cell bound).1 among))
    lower p (inr (inr (inl (design.at_table {cell_number} {site} {cell} bound)))) = of_table cell_number site cell bound
    lower p (inr (inr (inl (design.at_output {cell_number} {site} {cell} bound)))) = of_output cell_number site cell bound
    lower p (inr (inr (inl (design.at_index {cell_number} {site} {cell} bound some)))) =
        absurd (let few : 0 < 0 = subst (λ (c : PlainCell). 0 < length c.inputs) (one_cell cell_number site cell bound).1 some in omega (arith, few))
    lower p (inr (inr (inl (design.at_flip_flop {cell_number} {init} {site} {cell} bound latched)))) =
        absurd (let e : None ≡ Some init = sym (ap (λ (c : PlainCell). c.latch) (one_cell cell_number site cell bound).1) ∙ latched in cc)
    lower p (inr (inr (inr (design.of_input listed there among)))) = absurd (none_there _ listed)
    lower p (inr (inr (inr (design.of_output listed there among)))) = absurd (none_there _ listed)

pub small_settles : RankedDesignSettlesOnce → SmallDesignSettlesOnce
small_settles law text inputs held is_text configured low =
    law small_fabric text small_packed [] small_implementation small_bits inputs held small_rank 2 small_is_fabric small_is_of_tiles is_text small_made small_legal small_configures configured low
    (small_ranks text is_text)
