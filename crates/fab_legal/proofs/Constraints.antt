-- Constrained ports.
use Rattle.std.proofs.Common.{◌≡◌, ℕ, List, get_or, take, Contains, sym, subst, inl, inr}
use Rattle.fab_kinds.specs.declared.kind.Kind.TheVariants as kinds
use Rattle.fab_implementation.specs.fab_model.specs.Grid.{PlainFabric}
use Rattle.fab_bits.specs.Keys.{key_names}
use Rattle.fab_implementation.specs.fab_netlist.specs.Packed.{PlainPacked}
use Rattle.fab_implementation.specs.fab_netlist.proofs.Members.{in_left, in_right}
use Rattle.fab_implementation.specs.Plain.{Pad, PlainImplementation}
use Rattle.fab_legal.specs.Turns.{AreRight, IsFirstWrongAt}
use Rattle.fab_legal.specs.WellMade.{output_ports}
use Rattle.fab_legal.specs.Lines.{HaveSites, PortsHavePads, StandsOn, ConstraintsHold}
use Rattle.fab_legal.specs.Broken.{IsConstraintItem, elsewhere}
use Rattle.fab_legal.specs.inner.Keeping.{ArePads, HasPad}
use Rattle.fab_legal.specs.inner.Kept.{HasOne}
use Rattle.fab_legal.specs.declared.ports.Pads.{Pads}
use Rattle.fab_legal.specs.declared.placed.Placed.{Placed}
use Rattle.fab_legal.proofs.Lists.{first_wrong, at_read}
use Rattle.fab_legal.proofs.Members.{in_either}
use Rattle.fab_legal.proofs.PortNumbers.{pad_stands, stands_pad}

one_stands : (fabric : PlainFabric) (declared : List (List ℕ)) (lines : List Pad) (pads : Pads) (pad : Pad) → HaveSites fabric kinds.Io (Contains declared) lines → ArePads declared lines pads →
    HasPad (key_names pads.names.keys) pads.sites.items pad → Contains lines pad
one_stands fabric declared lines pads pad have are has =
    pad_stands fabric declared lines pads.sites.items pad have are.sites_are (subst (λ (names : List (List ℕ)). HasPad names pads.sites.items pad) are.names_are has)

stands_one : (fabric : PlainFabric) (declared : List (List ℕ)) (lines : List Pad) (pads : Pads) (pad : Pad) → HaveSites fabric kinds.Io (Contains declared) lines → ArePads declared lines pads →
    Contains lines pad → HasPad (key_names pads.names.keys) pads.sites.items pad
stands_one fabric declared lines pads pad have are here =
    subst (λ (names : List (List ℕ)). HasPad names pads.sites.items pad) (sym are.names_are) (stands_pad fabric declared lines pads.sites.items pad have are.sites_are here)

module _ (fabric : PlainFabric) (packed : PlainPacked) (i : PlainImplementation) (placed : Placed) (ports : PortsHavePads fabric packed i)
    (ins : ArePads packed.inputs i.ins placed.ins) (outs : ArePads (output_ports packed) i.outs placed.outs) where
  stands : (before : List Pad) (pad : Pad) → HasOne placed before pad → StandsOn i before pad
  stands before pad (inl has) = in_left i.ins i.outs pad (one_stands fabric packed.inputs i.ins placed.ins pad ports.ins ins has)
  stands before pad (inr has) = in_right i.ins i.outs pad (one_stands fabric (output_ports packed) i.outs placed.outs pad ports.outs outs has)

  has_one : (before : List Pad) (pad : Pad) → StandsOn i before pad → HasOne placed before pad
  has_one before pad here =
      elim (in_either i.ins i.outs pad here) [
        | inl left ↦ inl (stands_one fabric packed.inputs i.ins placed.ins pad ports.ins ins left)
        | inr right ↦ inr (stands_one fabric (output_ports packed) i.outs placed.outs pad ports.outs outs right)
      ]

  pub constraints_hold : (seen fixed : List Pad) → seen ≡ fixed → AreRight (HasOne placed) seen → ConstraintsHold fixed i
  constraints_hold seen fixed same right =
      subst (λ (pads : List Pad). ConstraintsHold pads i) same (λ place pad below at. stands (take place seen) pad (right place pad below at))

  pub constraint_broken : (seen fixed : List Pad) (place : ℕ) (pad : Pad) → seen ≡ fixed → IsFirstWrongAt (HasOne placed) seen place → pad ≡ get_or seen place pad → IsConstraintItem fixed i pad.0
  constraint_broken seen fixed place pad same first read =
      let turned : IsFirstWrongAt (StandsOn i) seen place = record {
        inside = first.inside;
        wrong = λ other at here. first.wrong other at (has_one (take place seen) other here);
        before = λ earlier other below at. stands (take earlier seen) other (first.before earlier other below at);
      } in
      subst (λ (pads : List Pad). IsConstraintItem pads i pad.0) same (elsewhere (first_wrong (StandsOn i) seen place pad turned (at_read seen place pad first.inside read)))
