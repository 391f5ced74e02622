-- Cells, sites, ports and constraints of an implementation are right, or there is a first item that is not.
use Rattle.std.proofs.Common.{◌≡◌, ◌<◌, ◌≤◌, ◌⊎◌, ◌++◌, ℕ, zero, suc, List, length, take, Contains, Option, Some, None, refl, ap, subst, arith, inl, inr}
use Rattle.std.proofs.lemmas.Bool.{cases_eq, cases_lt}
use Rattle.fab_kinds.specs.declared.kind.Kind.{Kind}
use Rattle.fab_kinds.specs.declared.kind.Kind.TheVariants as kinds
use Rattle.fab_model.specs.Grid.{PlainFabric}
use Rattle.fab_fabric.specs.Names.{site_text}
use Rattle.fab_fabric.specs.declared.wire.Site.{Site}
use Rattle.fab_netlist.specs.Packed.{PlainPacked}
use Rattle.fab_implementation.specs.Plain.{Pad, PlainImplementation}
use Rattle.fab_implementation.specs.OnFabric.{kind_at}
use Rattle.fab_legal.specs.Turns.{AreRight, IsFirstWrong}
use Rattle.fab_legal.specs.WellMade.{output_ports}
use Rattle.fab_legal.specs.Lines.{named, IsRightLine, IsCell, IsInput, IsOutput, CellsHaveSites, PortsHavePads, sites, IsNew, SitesDiffer, StandsOn, ConstraintsHold}
use Rattle.fab_legal.specs.Broken.{cell_text, IsFirstUnnamedCell, IsCellItem, wrong_line, unnamed, IsSiteItem, again, IsNamedBy, IsPortItem, wrong_in, wrong_out, unnamed_in, unnamed_out, IsConstraintItem, elsewhere}
use Rattle.fab_ready_laws.proofs.Decisions.{IsDecided, both, bytes_decided, decided_as, denied, listed_decided}
use Rattle.fab_ready_laws.proofs.Turns.{right_or_first_wrong}

-- ---- what is told apart

pub site_eq : (a b : Site) → IsDecided (a ≡ b)
site_eq a b = decided_as (λ same. λ i. record { x = same.0 i; y = same.1.0 i; bel = same.1.1 i })
    (λ same. (ap (λ (s : Site). s.x) same, (ap (λ (s : Site). s.y) same, ap (λ (s : Site). s.bel) same)))
    (both (cases_eq a.x b.x) (both (cases_eq a.y b.y) (cases_eq a.bel b.bel)))

pad_eq : (a b : Pad) → IsDecided (a ≡ b)
pad_eq a b = decided_as (λ same. λ i. (same.0 i, same.1 i)) (λ same. (ap (λ (p : Pad). p.0) same, ap (λ (p : Pad). p.1) same)) (both (bytes_decided a.0 b.0) (site_eq a.1 b.1))

kind_is : (found : Option Kind) (kind : Kind) → IsDecided (found ≡ Some kind)
kind_is None kind = inr (λ same. cc)
kind_is (Some kinds.Lut4c) kinds.Lut4c = inl refl
kind_is (Some kinds.Lut4c) kinds.Io = inr (λ same. cc)
kind_is (Some kinds.Lut4c) kinds.Mux8 = inr (λ same. cc)
kind_is (Some kinds.Io) kinds.Lut4c = inr (λ same. cc)
kind_is (Some kinds.Io) kinds.Io = inl refl
kind_is (Some kinds.Io) kinds.Mux8 = inr (λ same. cc)
kind_is (Some kinds.Mux8) kinds.Lut4c = inr (λ same. cc)
kind_is (Some kinds.Mux8) kinds.Io = inr (λ same. cc)
kind_is (Some kinds.Mux8) kinds.Mux8 = inl refl

-- ---- lines that name things with their sites

module _ (fabric : PlainFabric) where
  line_decided : {X : Type 0} → ((a b : X) → IsDecided (a ≡ b)) → (kind : Kind) (IsKnown : X → Type 0) → ((x : X) → IsDecided (IsKnown x)) → (before : List (X × Site)) (line : X × Site)
      → IsDecided (IsRightLine fabric kind IsKnown before line)
  line_decided same kind IsKnown known before line =
      decided_as (λ is. record { known = is.0; first = is.1.0; of_kind = is.1.1 }) (λ right. (right.known, (right.first, right.of_kind)))
      (both (known line.0) (both (denied (listed_decided same (named before) line.0)) (kind_is (kind_at fabric line.1) kind)))

  module _ (packed : PlainPacked) (i : PlainImplementation) where
    -- ---- cells

    abbrev AreNamed : ℕ → Type 0
    AreNamed n = (number : ℕ) → number < n → Contains (named i.cells) number

    one_more : (n : ℕ) → AreNamed n → Contains (named i.cells) n → AreNamed (suc n)
    one_more n all there number below = elim (cases_lt number n) [
      | inl less ↦ all number less
      | inr past ↦ (let same : n ≡ number = omega (arith, below, past) in subst (Contains (named i.cells)) same there)
    ]

    named_to : (n : ℕ) → n ≤ length packed.cells → AreNamed n ⊎ ((number : ℕ) × IsFirstUnnamedCell packed i number)
    named_to zero few = inl (λ number below. absurd (omega (arith, below)))
    named_to (suc n) few = elim (named_to n (omega (arith, few))) [
      | inr found ↦ inr found
      | inl all ↦
          elim (listed_decided cases_eq (named i.cells) n) [
            | inr never ↦ inr (n, record { is_cell = omega (arith, few); unnamed = never; before = all })
            | inl there ↦ inl (one_more n all there)
          ]
    ]

    cell_known : (number : ℕ) → IsDecided (IsCell packed number)
    cell_known number = elim (cases_lt number (length packed.cells)) [ inl below ↦ inl below | inr past ↦ inr (λ below. absurd (omega (arith, below, past))) ]

    pub cells_judged : CellsHaveSites fabric packed i ⊎ ((item : List ℕ) × IsCellItem fabric packed i item)
    cells_judged = elim (right_or_first_wrong (IsRightLine fabric kinds.Lut4c (IsCell packed)) i.cells
        (λ place line at. line_decided cases_eq kinds.Lut4c (IsCell packed) cell_known (take place i.cells) line)) [
          | inr first ↦ inr (cell_text first.0.0, wrong_line first.1)
          | inl right ↦
              elim (named_to (length packed.cells) (omega arith)) [
                | inl all ↦ inl (record { lines_right = right; all_named = all })
                | inr found ↦ inr (cell_text found.0, unnamed right found.1)
              ]
        ]

    -- ---- sites

    pub sites_judged : SitesDiffer i ⊎ ((item : List ℕ) × IsSiteItem i item)
    sites_judged = elim (right_or_first_wrong IsNew (sites i) (λ place site at. denied (listed_decided site_eq (take place (sites i)) site))) [
      | inl right ↦ inl right
      | inr first ↦ inr (site_text first.0, again first.1)
    ]

    -- ---- ports

    -- each of these ports is named
    all_named : (lines : List Pad) (ports : List (List ℕ)) → AreRight (IsNamedBy lines) ports → (port : List ℕ) → Contains ports port → Contains (named lines) port
    all_named lines ports right port there = right there.0 port there.1 (there.1, there.2)

    pads_judged : (IsKnown : List ℕ → Type 0) → ((port : List ℕ) → IsDecided (IsKnown port)) → (lines : List Pad)
        → AreRight (IsRightLine fabric kinds.Io IsKnown) lines ⊎ ((line : Pad) × IsFirstWrong (IsRightLine fabric kinds.Io IsKnown) lines line)
    pads_judged IsKnown known lines =
        right_or_first_wrong (IsRightLine fabric kinds.Io IsKnown) lines (λ place line at. line_decided bytes_decided kinds.Io IsKnown known (take place lines) line)

    names_judged : (lines : List Pad) (ports : List (List ℕ)) → AreRight (IsNamedBy lines) ports ⊎ ((port : List ℕ) × IsFirstWrong (IsNamedBy lines) ports port)
    names_judged lines ports = right_or_first_wrong (IsNamedBy lines) ports (λ place port at. listed_decided bytes_decided (named lines) port)

    abbrev PortsAreJudged : Type 0
    PortsAreJudged = PortsHavePads fabric packed i ⊎ ((item : List ℕ) × IsPortItem fabric packed i item)

    by_names : AreRight (IsRightLine fabric kinds.Io (IsInput packed)) i.ins → AreRight (IsRightLine fabric kinds.Io (IsOutput packed)) i.outs → PortsAreJudged
    by_names ins outs = elim (names_judged i.ins packed.inputs) [
      | inr first ↦ inr (first.0, unnamed_in ins outs first.1)
      | inl inputs ↦
          elim (names_judged i.outs (output_ports packed)) [
            | inr first ↦ inr (first.0, unnamed_out ins outs inputs first.1)
            | inl outputs ↦ inl (record {
              ins = record { lines_right = ins; all_named = all_named i.ins packed.inputs inputs };
              outs = record { lines_right = outs; all_named = all_named i.outs (output_ports packed) outputs };
            })
          ]
    ]

    pub ports_judged : PortsAreJudged
    ports_judged = elim (pads_judged (IsInput packed) (listed_decided bytes_decided packed.inputs) i.ins) [
      | inr first ↦ inr (first.0.0, wrong_in first.1)
      | inl ins ↦
          elim (pads_judged (IsOutput packed) (listed_decided bytes_decided (output_ports packed)) i.outs) [
            | inr first ↦ inr (first.0.0, wrong_out ins first.1)
            | inl outs ↦ by_names ins outs
          ]
    ]

    -- ---- constraints

    pub constraints_judged : (fixed : List Pad) → ConstraintsHold fixed i ⊎ ((item : List ℕ) × IsConstraintItem fixed i item)
    constraints_judged fixed = elim (right_or_first_wrong (StandsOn i) fixed (λ place pad at. listed_decided pad_eq (i.ins ++ i.outs) pad)) [
      | inl right ↦ inl right
      | inr first ↦ inr (first.0.0, elsewhere first.1)
    ]
