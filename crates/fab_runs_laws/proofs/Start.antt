-- What flip-flops hold when use starts, as values of the latches.
use Rattle.std.proofs.Common.{◌≡◌, ◌⊎◌, ℕ, zero, suc, ◌+◌, ◌<◌, ◌≤◌, Bool, false, List, [], ◌∷◌, length, get_or, nat_eq, Option, option_map, Contains, None, Some, slice_get, refl, sym, ap, ◌∙◌, subst, inl, inr, arith}
use Rattle.std.specs.List.{enumerate_from}
use Rattle.std.proofs.lemmas.Bool.{cases_lt}
use Rattle.std.proofs.lemmas.Bool.Decides.{Decides-eqb}
use Rattle.std.proofs.lemmas.List.{length-map, get_or_default}
use Rattle.std.proofs.lemmas.List.FromFn.{length-enumerate_from, get_or-enumerate_from}
use Rattle.std.proofs.lemmas.List.Elements.{All-contains}
use Rattle.fab_bits.specs.Bits.{first_bits}
use Rattle.fab_bits.proofs.Numbers.{length_first_bits, get_first_bits}
use Rattle.fab_kinds.specs.declared.kind.Kind.TheVariants as kinds
use Rattle.fab_meaning.specs.Settled.{Assignment}
use Rattle.fab_model.specs.Grid.{PlainFabric}
use Rattle.fab_fabric.specs.declared.wire.Site.{Site}
use Rattle.fab_netlist.specs.declared.netlist.Latch.{Latch}
use Rattle.fab_netlist.specs.Plain.{PlainNetlist, IsAt, bit_at}
use Rattle.fab_netlist.specs.WellMade.{IsWellMade}
use Rattle.fab_netlist.specs.Meaning.{begins_high, first_value}
use Rattle.fab_netlist.specs.Packed.{PlainCell}
use Rattle.fab_netlist.specs.Packing.{Work, no_latch, latch_at, works, latch_of, cell_of, packed}
use Rattle.fab_netlist.proofs.Members.{at_in}
use Rattle.fab_netlist.proofs.Counts.{at_mapped}
use Rattle.fab_netlist.proofs.Works.{is_work}
use Rattle.fab_implementation.specs.Plain.{Pad, PlainImplementation}
use Rattle.fab_points_laws.specs.fab_legal_Lines.{IsCell}
use Rattle.fab_points_laws.specs.fab_legal_Sinks.{site_of}
use Rattle.fab_points_laws.specs.fab_legal_Legal.{IsLegal}
use Rattle.fab_points_laws.proofs.fab_legal_Lists.{at_default, at_from_mapped}
use Rattle.fab_points_laws.proofs.fab_legal_SinkLaw.{known_site, site_is}
use Rattle.fab_prim.specs.Modules.{flip_flop_name}
use Rattle.fab_points_laws.proofs.fab_drives_laws_Lists.{contains_found, contains_numbered, all_found}
use Rattle.fab_points_laws.specs.fab_state_Plain.{Register}
use Rattle.fab_points_laws.specs.fab_use_defs_Sites.{bel_point}
use Rattle.fab_points_laws.specs.fab_use_defs_Registers.{HoldsLatches, register_of, design_state, HoldsState, IsInitial}
use Rattle.fab_runs_laws.proofs.Carried.{latched, latch_behind, within}
use Rattle.fab_runs_laws.proofs.LatchCells.{latch_cell, one_cell}

got : {X : Type 0} (xs : List X) (k : ℕ) (x : X) → IsAt xs k x → slice_get xs k ≡ Some x
got [] k x at = absurd (omega (arith, at.0))
got (first ∷ xs) zero x at = ap Some at.1
got (first ∷ xs) (suc k) x at = got xs k x (omega (arith, at.0), at.1)

module _ (fabric : PlainFabric) (netlist : PlainNetlist) (fixed : List Pad) (implementation : PlainImplementation) (made : IsWellMade netlist)
    (legal : IsLegal fabric (packed netlist) fixed implementation) where
  abbrev site_at : ℕ → Site
  site_at = site_of nat_eq implementation.cells

  cell_listed : (number : ℕ) → number < length (packed netlist).cells → Contains implementation.cells (number, site_at number)
  cell_listed number few = known_site nat_eq Decides-eqb fabric kinds.Lut4c (IsCell (packed netlist)) implementation.cells legal.placed.cells number few

  site_found : (number : ℕ) (site : Site) → Contains implementation.cells (number, site) → site_at number ≡ site
  site_found = site_is nat_eq Decides-eqb fabric kinds.Lut4c (IsCell (packed netlist)) implementation.cells legal.placed.cells

  -- ---- what flip-flops hold is what latches hold

  module _ (held : Assignment) where
    value_of : (place : ℕ) → (place < length netlist.latches) ⊎ (length netlist.latches ≤ place) → Bool
    value_of place (inl few) = held (bel_point (site_at (latch_cell netlist made place (get_or netlist.latches place no_latch) (at_default netlist.latches place no_latch few)).number) flip_flop_name)
    value_of place (inr past) = false

    abbrev value : ℕ → Bool
    value place = value_of place (cases_lt place (length netlist.latches))

    value_is : (number place : ℕ) (work : Work) (site : Site) (either : (place < length netlist.latches) ⊎ (length netlist.latches ≤ place)) → place < length netlist.latches →
        IsAt (works netlist) number work → latch_of work ≡ Some place → Contains implementation.cells (number, site) → value_of place either ≡ held (bel_point site flip_flop_name)
    unfolding value_of
    value_is number place work site (inr past) small at is listed = absurd (omega (arith, past, small))
    value_is number place work site (inl few) small at is listed =
        let cell = latch_cell netlist made place (get_or netlist.latches place no_latch) (at_default netlist.latches place no_latch few) in
        let same : cell.number ≡ number = one_cell netlist made place cell.work work cell.number number cell.has is cell.stands at in
        ap (λ s. held (bel_point s flip_flop_name)) (ap site_at same ∙ site_found number site listed)

    pub held_latches : (latches : List Bool) × HoldsLatches netlist implementation held latches
    held_latches = (
      first_bits (length netlist.latches) value,
      record {
        all = length_first_bits (length netlist.latches) value;
        each = λ number latch work site at is listed.
            let few = within netlist work latch (is_work netlist work (at_in (works netlist) number work at)) is in
            let as_many = length-map netlist.latches (λ (l : Latch). l.input) in
            let small : latch < length netlist.latches = omega (arith, few, as_many) in
            get_first_bits (length netlist.latches) value latch false small ∙ value_is number latch work site (cases_lt latch (length netlist.latches)) small at is listed;
      },
    )

  -- ---- the state file

  -- the flip-flop of a cell with a latch stands in the state
  in_state : (number init : ℕ) (cell : PlainCell) → IsAt (packed netlist).cells number cell → cell.latch ≡ Some init →
      Contains (design_state (packed netlist) implementation).ffs (site_at number, nat_eq init 1)
  in_state number init cell at has =
      contains_found (λ at. register_of implementation at.0 at.1) (enumerate_from 0 (packed netlist).cells) (number, cell) (site_at number, nat_eq init 1)
      (contains_numbered (packed netlist).cells number cell (got (packed netlist).cells number cell at)) (ap (option_map (λ init. (site_at number, nat_eq init 1))) has)

  pub state_begins : (held : Assignment) (latches : List Bool) → HoldsState (design_state (packed netlist) implementation) held → HoldsLatches netlist implementation held latches → IsInitial netlist latches
  state_begins held latches state holds place latch at =
      let c = latch_cell netlist made place latch at in
      let cell = cell_of netlist c.work in
      let at_cell : IsAt (packed netlist).cells c.number cell = at_mapped (cell_of netlist) (works netlist) c.number c.work c.stands in
      let same : latch_at netlist place ≡ latch = get_or_default netlist.latches place no_latch latch at.0 ∙ at.1 in
      let has : cell.latch ≡ Some latch.init = latched netlist c.work place c.has ∙ ap (λ (l : Latch). Some l.init) same in
      let holds_it : held (bel_point (site_at c.number) flip_flop_name) ≡ nat_eq latch.init 1 =
      All-contains (λ (register : Register). held (bel_point register.0 flip_flop_name) ≡ register.1) (design_state (packed netlist) implementation).ffs (site_at c.number, nat_eq latch.init 1) state
      (in_state c.number latch.init cell at_cell has) in
      let is : bit_at latches place ≡ nat_eq latch.init 1 = holds.each c.number place c.work (site_at c.number) c.stands c.has (cell_listed c.number at_cell.0) ∙ holds_it in
      (λ none. is ∙ ap (λ init. nat_eq init 1) none, λ one. is ∙ ap (λ init. nat_eq init 1) one)

  -- Where the latches have the values that they begin with, the flip-flops hold the state.
  module _ (held : Assignment) (latches : List Bool) (holds : HoldsLatches netlist implementation held latches)
      (begin : (place : ℕ) (latch : Latch) → IsAt netlist.latches place latch → bit_at latches place ≡ first_value latch) where
    abbrev HoldsIt : Register → Type 0
    HoldsIt register = held (bel_point register.0 flip_flop_name) ≡ register.1

    abbrev IsHeld : ℕ × PlainCell → Type 0
    IsHeld numbered = (register : Register) → register_of implementation numbered.0 numbered.1 ≡ Some register → HoldsIt register

    -- the flip-flop of a cell that was made of a latch
    held_first : (number init : ℕ) (work : Work) → IsAt (works netlist) number work → (cell_of netlist work).latch ≡ Some init →
        held (bel_point (site_at number) flip_flop_name) ≡ begins_high init
    held_first number init work at has =
        let behind = latch_behind netlist work init has in
        let latch = behind.0 in
        let as_many = length-map netlist.latches (λ (l : Latch). l.input) in
        let few : latch < length netlist.latches = omega (arith, within netlist work latch (is_work netlist work (at_in (works netlist) number work at)) behind.1, as_many) in
        let cells : number < length (packed netlist).cells = (at_mapped (cell_of netlist) (works netlist) number work at).0 in
        sym (holds.each number latch work (site_at number) at behind.1 (cell_listed number cells))
        ∙ begin latch (latch_at netlist latch) (at_default netlist.latches latch no_latch few)
        ∙ ap begins_high behind.2

    cell_held : (number : ℕ) (cell : PlainCell) → IsAt (packed netlist).cells number cell → IsHeld (number, cell)
    cell_held number cell at register is = by_latch cell.latch refl is
      where
        some_same : (a b : Register) → Some a ≡ Some b → a ≡ b
        some_same a b equal = cc

        by_latch : (latch : Option ℕ) → cell.latch ≡ latch → option_map (λ init. (site_at number, begins_high init)) latch ≡ Some register → HoldsIt register
        by_latch None none nothing = absurd (let bad : ⊥ = cc in bad)
        by_latch (Some init) has some =
            let from = at_from_mapped (cell_of netlist) (works netlist) number cell at in
            let known : (cell_of netlist from.0).latch ≡ Some init = ap (λ (c : PlainCell). c.latch) from.2 ∙ has in
            let same : (site_at number, begins_high init) ≡ register = some_same (site_at number, begins_high init) register some in
            subst HoldsIt same (held_first number init from.0 from.1 known)

    pub holds_state : HoldsState (design_state (packed netlist) implementation) held
    holds_state =
        let cells = (packed netlist).cells in
        all_found HoldsIt (λ at. register_of implementation at.0 at.1) (enumerate_from 0 cells) (λ place d inside.
        let few : place < length cells = omega (arith, inside, length-enumerate_from 0 cells) in
        let numbered : get_or (enumerate_from 0 cells) place d ≡ (place, get_or cells place d.1) =
        get_or-enumerate_from 0 cells place d few ∙ ap (λ (n : ℕ). (n, get_or cells place d.1)) (let same : 0 + place ≡ place = omega arith in same) in
        subst IsHeld (sym numbered) (cell_held place (get_or cells place d.1) (at_default cells place d.1 few)))
