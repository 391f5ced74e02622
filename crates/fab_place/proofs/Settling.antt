-- What is known of the sites and of the board when the items are to be settled.
use Rattle.std.proofs.Common.{◌≡◌, ◌≢◌, ℕ, ◌+◌, ◌<◌, ◌≤◌, List, ◌++◌, length, get_or, Option, Some, None, refl, sym, ◌∙◌, ap, subst, arith}
use Rattle.std.specs.List.{All, AllPairs}
use Rattle.std.specs.Option.{IfSome}
use Rattle.std.proofs.lemmas.List.{get_or_default}
use Rattle.fab_kinds.specs.declared.kind.Kind.TheVariants as kinds
use Rattle.fab_annealing.specs.declared.board.Board.{Board}
use Rattle.fab_annealing.specs.Boards.{IsBoard, IsPlaced}
use Rattle.fab_model.specs.Grid.{PlainFabric}
use Rattle.fab_fabric.specs.Fabric.{IsFabric}
use Rattle.fab_fabric.specs.declared.wire.Site.{Site}
use Rattle.fab_netlist.specs.Packed.{PlainPacked}
use Rattle.fab_implementation.specs.Plain.{Pad, PlainImplementation}
use Rattle.fab_implementation.specs.OnFabric.{IsOnFabric}
use Rattle.fab_ways_laws.specs.fab_legal_WellMade.{ports}
use Rattle.fab_fabric.specs.Sites.{sites_of_kind}
use Rattle.fab_ways_laws.specs.Placing.{IsGoodPlacement}
use Rattle.fab_place.specs.Fixings.{AreFixed, Fits}
use Rattle.fab_place.specs.inner.Constraints.{AreConstrained}
use Rattle.fab_place.specs.inner.Starts.{start_numbers}
use Rattle.fab_place.specs.Pins.{item_total}
use Rattle.fab_place.specs.Standing.{standing}
use Rattle.fab_place.specs.inner.BoardOf.{IsBoardOf, IsSettled}
use Rattle.fab_place.proofs.Ending.{good, on_fabric, count, all_inside}
use Rattle.fab_place.proofs.Matching.{pad_of}
use Rattle.fab_place.proofs.Once.{once_apart}
use Rattle.fab_place.proofs.Sited.{few_sites, once_sites}
use Rattle.fab_place.proofs.Starting.{constrained_length, is_board, is_placed}

module _ (fabric : PlainFabric) (packed : PlainPacked) (fixed : List Pad) (luts pads : List Site) (luts_are : luts ≡ sites_of_kind fabric kinds.Lut4c) (pads_are : pads ≡ sites_of_kind fabric kinds.Io) where
  pub few_luts : IsFabric fabric → length luts ≤ 25792
  few_luts is = subst (λ (sites : List Site). length sites ≤ 25792) (sym luts_are) (few_sites fabric kinds.Lut4c is)

  pub few_pads : IsFabric fabric → length pads ≤ 25792
  few_pads is = subst (λ (sites : List Site). length sites ≤ 25792) (sym pads_are) (few_sites fabric kinds.Io is)

  pub pads_apart : AllPairs (λ first second. first ≢ second) pads
  pads_apart = subst (λ (sites : List Site). AllPairs (λ first second. first ≢ second) sites) (sym pads_are) (once_apart (sites_of_kind fabric kinds.Io) (once_sites fabric kinds.Io))

  module _ (fits : Fits fabric packed) (are_fixed : AreFixed fabric packed fixed) where
    module _ (constrained : List (Option ℕ)) (are : AreConstrained fixed pads (ports packed) constrained) where
      abbrev Are : AreConstrained fixed (sites_of_kind fabric kinds.Io) (ports packed) constrained
      Are = subst (λ (sites : List Site). AreConstrained fixed sites (ports packed) constrained) pads_are are

      pub as_many : length constrained ≡ length packed.inputs + length packed.outputs
      as_many = constrained_length fabric packed fixed constrained fits are_fixed Are

      pub pads_enough : length constrained ≤ length pads
      pads_enough = subst (λ (sites : List Site). length constrained ≤ length sites) (sym pads_are) (omega (arith, as_many, fits.ports))

      if_some : (found : Option ℕ) (most : ℕ) → ((number : ℕ) → found ≡ Some number → number < most) → IfSome found (λ number. number < most)
      if_some None most each = tt
      if_some (Some number) most each = each number refl

      pub pads_inside : All (λ found. IfSome found (λ number. number < length pads)) constrained
      pads_inside k d low = if_some (get_or constrained k d) (length pads) (λ number is.
          let pad = pad_of fabric packed fixed constrained fits.made are_fixed Are k number (get_or_default constrained k None d low ∙ is) in
          subst (λ (sites : List Site). number < length sites) (sym pads_are) pad.is_at.0)

      module _ (board : Board) (is : IsBoardOf packed (luts ++ pads) (length luts) constrained board) where
        abbrev Is : IsBoardOf packed (sites_of_kind fabric kinds.Lut4c ++ sites_of_kind fabric kinds.Io) (length (sites_of_kind fabric kinds.Lut4c)) constrained board
        Is = subst (λ (sites : List Site). IsBoardOf packed (sites_of_kind fabric kinds.Lut4c ++ sites) (length (sites_of_kind fabric kinds.Lut4c)) constrained board) pads_are
            (subst (λ (sites : List Site). IsBoardOf packed (sites ++ pads) (length sites) constrained board) luts_are is)

        pub board_good : IsFabric fabric → IsBoard board
        board_good fine = is_board fabric packed fixed constrained fits are_fixed Are board Is fine

        pub start_placed : IsPlaced board (start_numbers (length packed.cells) (length luts) (length pads) constrained)
        start_placed =
            subst (λ (sites : List Site). IsPlaced board (start_numbers (length packed.cells) (length luts) (length sites) constrained)) (sym pads_are)
            (subst (λ (sites : List Site). IsPlaced board (start_numbers (length packed.cells) (length sites) (length (sites_of_kind fabric kinds.Io)) constrained)) (sym luts_are) (is_placed fabric packed fixed constrained fits are_fixed Are board Is))

    -- ---- the end

    module _ (numbers : List ℕ) (settled : IsSettled packed fixed luts pads numbers) where
      abbrev Settled : IsSettled packed fixed (sites_of_kind fabric kinds.Lut4c) (sites_of_kind fabric kinds.Io) numbers
      Settled = subst (λ (sites : List Site). IsSettled packed fixed (sites_of_kind fabric kinds.Lut4c) sites numbers) pads_are
          (subst (λ (sites : List Site). IsSettled packed fixed sites pads numbers) luts_are settled)

      both_are : luts ++ pads ≡ sites_of_kind fabric kinds.Lut4c ++ sites_of_kind fabric kinds.Io
      both_are = ap (λ (sites : List Site). sites ++ pads) luts_are ∙ ap (λ (sites : List Site). sites_of_kind fabric kinds.Lut4c ++ sites) pads_are

      pub items_are : length numbers ≡ item_total packed
      items_are = count fabric packed fixed numbers fits are_fixed Settled

      pub numbers_inside : All (λ number. number < length (luts ++ pads)) numbers
      numbers_inside = subst (λ (sites : List Site). All (λ number. number < length sites) numbers) (sym both_are) (all_inside fabric packed fixed numbers fits are_fixed Settled)

      module _ (sites : List Site) (sites_are : sites ≡ luts ++ pads) (placed : PlainImplementation) (is : placed ≡ standing packed sites numbers) where
        same : standing packed (sites_of_kind fabric kinds.Lut4c ++ sites_of_kind fabric kinds.Io) numbers ≡ placed
        same = sym (is ∙ ap (λ (all : List Site). standing packed all numbers) (sites_are ∙ both_are))

        pub good_end : IsGoodPlacement fabric packed fixed placed
        good_end = subst (λ (i : PlainImplementation). IsGoodPlacement fabric packed fixed i) same (good fabric packed fixed numbers fits are_fixed Settled)

        pub on_fabric_end : IsOnFabric fabric placed
        on_fabric_end = subst (λ (i : PlainImplementation). IsOnFabric fabric i) same (on_fabric fabric packed fixed numbers fits are_fixed Settled)
