-- Which sites the lines of an implementation give to cells and ports.
use Rattle.std.specs.Prelude.{◌≡◌, ℕ, ◌<◌, List, ◌++◌, map, length, Contains, Some}
use Rattle.fab_kinds.specs.declared.kind.Kind.{Kind}
use Rattle.fab_kinds.specs.declared.kind.Kind.TheVariants as kinds
use Rattle.fab_implementation.specs.fab_model.specs.Grid.{PlainFabric}
use Rattle.fab_implementation.specs.fab_fabric.specs.declared.wire.Site.{Site}
use Rattle.fab_implementation.specs.fab_netlist.specs.Packed.{PlainPacked}
use Rattle.fab_implementation.specs.Plain.{Pad, PlainImplementation}
use Rattle.fab_implementation.specs.OnFabric.{kind_at}
use Rattle.fab_legal.specs.Turns.{AreRight}
use Rattle.fab_legal.specs.WellMade.{output_ports}

-- the things that lines name: cells by number or ports by name
abbrev pub named : {X : Type 0} → List (X × Site) → List X
named {X} lines = map (λ (line : X × Site). line.0) lines

abbrev pub sited : {X : Type 0} → List (X × Site) → List Site
sited {X} lines = map (λ (line : X × Site). line.1) lines

-- a line names a thing that is known and that no line before it names, with a site of the kind
pub record IsRightLine {X : Type 0} (fabric : PlainFabric) (kind : Kind) (IsKnown : X → Type 0) (before : List (X × Site)) (line : X × Site) : Type 0 where
  pub known : IsKnown line.0
  pub first : Contains (named before) line.0 → ⊥
  pub of_kind : kind_at fabric line.1 ≡ Some kind

-- each known thing has exactly one site of a kind, and no other thing is named
pub record HaveSites {X : Type 0} (fabric : PlainFabric) (kind : Kind) (IsKnown : X → Type 0) (lines : List (X × Site)) : Type 0 where
  pub lines_right : AreRight (IsRightLine fabric kind IsKnown) lines
  pub all_named : (thing : X) → IsKnown thing → Contains (named lines) thing

abbrev pub IsCell : PlainPacked → ℕ → Type 0
IsCell packed number = number < length packed.cells

abbrev pub IsInput : PlainPacked → List ℕ → Type 0
IsInput packed port = Contains packed.inputs port

abbrev pub IsOutput : PlainPacked → List ℕ → Type 0
IsOutput packed port = Contains (output_ports packed) port

abbrev pub CellsHaveSites : PlainFabric → PlainPacked → PlainImplementation → Type 0
CellsHaveSites fabric packed implementation = HaveSites fabric kinds.Lut4c (IsCell packed) implementation.cells

-- The lines of inputs come before those of outputs. A port of the other direction is none that a line may name.
pub record PortsHavePads (fabric : PlainFabric) (packed : PlainPacked) (implementation : PlainImplementation) : Type 0 where
  pub ins : HaveSites fabric kinds.Io (IsInput packed) implementation.ins
  pub outs : HaveSites fabric kinds.Io (IsOutput packed) implementation.outs

-- the sites in the order of the lines
abbrev pub sites : PlainImplementation → List Site
sites implementation = sited implementation.cells ++ (sited implementation.ins ++ sited implementation.outs)

abbrev pub IsNew : {X : Type 0} → List X → X → Type 0
IsNew before x = Contains before x → ⊥

-- no site is used twice
abbrev pub SitesDiffer : PlainImplementation → Type 0
SitesDiffer implementation = AreRight IsNew (sites implementation)

-- a port stands on a pad
abbrev pub StandsOn : PlainImplementation → List Pad → Pad → Type 0
StandsOn implementation before pad = Contains (implementation.ins ++ implementation.outs) pad

-- each constrained port stands on its pad
abbrev pub ConstraintsHold : (fixed : List Pad) → PlainImplementation → Type 0
ConstraintsHold fixed implementation = AreRight (StandsOn implementation) fixed
