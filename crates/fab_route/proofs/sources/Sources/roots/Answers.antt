use Rattle.std.proofs.Common.{ℕ, ◌<◌, ◌≡◌, [], ◌∷◌, List, Contains, length, get_or, Vec, Global, sym, ap, ap₂, ◌∙◌, subst, arith}
use Rattle.std.proofs.lemmas.List.{get_or_default}
use Rattle.std.proofs.lemmas.Result.{IfOk-weaker}
use Rattle.fab_kinds.specs.declared.kind.Kind.TheVariants as kinds
use Rattle.fab_fabric.specs.declared.wire.Site.{Site}
use Rattle.fab_netlist.specs.declared.net_id.NetId.{NetId}
use Rattle.fab_netlist.specs.declared.net_id.NetId.TheVariants as ids
use Rattle.fab_implementation.specs.Plain.{Pad, PlainImplementation}
use Rattle.fab_legal.specs.Sinks.{packed_net}
use Rattle.fab_legal.specs.Steps.{pin_wire}
use Rattle.fab_legal.specs.WellMade.{IsNetId}
use Rattle.fab_ways_laws.proofs.InputPins.{kind_of_line}
use Rattle.fab_route.specs.Plain.{node_of}
use Rattle.fab_route.specs.inner.Wanted.{AreRoots}
use Rattle.fab_route.proofs.Naming.{line_low, line_there, line_listed, pad_kind}
use Rattle.fab_route.proofs.Reaching.{cell_root, port_root}
use Rattle.fab_route.proofs.sources.Sources.roots.Goals as goal

pub index-pad-requires : goal.index-pad-requires
index-pad-requires c =
    let low = subst (λ (n : NetId). IsNetId c.args.packed.now n) c.in-In.is c.requires.known in
    let line = c.index-line.ensures ∙ line_listed c.args.packed.now c.args.placed.now c.args.self.now.lines.items c.in-In.number c.index-line.result.now c.requires.sources.lines low in
    let port : List ℕ = get_or c.args.packed.now.inputs c.in-In.number [] in
    omega (
      arith,
      line,
      line_low c.args.fabric.now c.args.packed.now c.args.placed.now c.requires.placed port (c.in-In.number, low, get_or_default c.args.packed.now.inputs c.in-In.number port [] low),
      ap (λ (i : PlainImplementation). length i.ins) c.placed.view_is,
    )

pub root_at-requires-clause-pin : goal.root_at-requires-clause-pin
root_at-requires-clause-pin c =
    let low = subst (λ (n : NetId). IsNetId c.args.packed.now n) c.in-In.is c.requires.known in
    let line = c.index-line.ensures ∙ line_listed c.args.packed.now c.args.placed.now c.args.self.now.lines.items c.in-In.number c.index-line.result.now c.requires.sources.lines low in
    let port : List ℕ = get_or c.args.packed.now.inputs c.in-In.number [] in
    let here = line_there c.args.fabric.now c.args.packed.now c.args.placed.now c.requires.placed port c.index-pad.result.now (c.in-In.number, low, get_or_default c.args.packed.now.inputs c.in-In.number port [] low) (c.index-pad.ensures ∙ ap₂ (λ (pads : List Pad) (k : ℕ). get_or pads k c.index-pad.result.now) (ap (λ (i : PlainImplementation). i.ins) c.placed.view_is) line) in
    (kinds.Io, pad_kind c.args.fabric.now c.args.packed.now c.args.placed.now c.requires.placed port c.index-pad.result.now.1 here, omega arith)

pub root_at-requires-in-Cell-clause-pin : goal.root_at-requires-in-Cell-clause-pin
root_at-requires-in-Cell-clause-pin c =
    let low = subst (λ (n : NetId). IsNetId c.args.packed.now n) c.in-Cell.is c.requires.known in
    let here = subst (λ (s : Site). Contains c.args.placed.now.cells (c.in-Cell.number, s)) (sym c.index.ensures) (c.requires.sources.cells.each c.in-Cell.number c.index.result.now low) in
    (kinds.Lut4c, kind_of_line c.args.fabric.now kinds.Lut4c (λ n. n < length c.args.packed.now.cells) c.args.placed.now.cells c.in-Cell.number c.index.result.now c.requires.placed.cells.lines_right here, omega arith)

pub returns-in_ok-from_slice-in-Zero : goal.returns-in_ok-from_slice-in-Zero
returns-in_ok-from_slice-in-Zero c =
    subst (λ (n : NetId). AreRoots c.args.fabric.now c.args.placed.now c.args.nodes.now (packed_net c.args.packed.now n) c.in_ok-from_slice-in-Zero.field-0.items) (sym c.in-Zero.is)
    (subst (λ (rs : List ℕ). AreRoots c.args.fabric.now c.args.placed.now c.args.nodes.now (packed_net c.args.packed.now ids.Zero) rs) (sym (c.in_ok-from_slice-in-Zero.ensures.items ∙ c.deref.ensures.value)) c.requires.sources.zeros)

pub returns-in_ok-from_slice-in-One : goal.returns-in_ok-from_slice-in-One
returns-in_ok-from_slice-in-One c =
    subst (λ (n : NetId). AreRoots c.args.fabric.now c.args.placed.now c.args.nodes.now (packed_net c.args.packed.now n) c.in_ok-from_slice-in-One.field-0.items) (sym c.in-One.is)
    (subst (λ (rs : List ℕ). AreRoots c.args.fabric.now c.args.placed.now c.args.nodes.now (packed_net c.args.packed.now ids.One) rs) (sym (c.in_ok-from_slice-in-One.ensures.items ∙ c.deref-in-One.ensures.value)) c.requires.sources.ones)

pub returns-in-In : goal.returns-in-In
returns-in-In c =
    let low = subst (λ (n : NetId). IsNetId c.args.packed.now n) c.in-In.is c.requires.known in
    let line = c.index-line.ensures ∙ line_listed c.args.packed.now c.args.placed.now c.args.self.now.lines.items c.in-In.number c.index-line.result.now c.requires.sources.lines low in
    let port : List ℕ = get_or c.args.packed.now.inputs c.in-In.number [] in
    let here = line_there c.args.fabric.now c.args.packed.now c.args.placed.now c.requires.placed port c.index-pad.result.now (c.in-In.number, low, get_or_default c.args.packed.now.inputs c.in-In.number port [] low) (c.index-pad.ensures ∙ ap₂ (λ (pads : List Pad) (k : ℕ). get_or pads k c.index-pad.result.now) (ap (λ (i : PlainImplementation). i.ins) c.placed.view_is) line) in
    let roots = port_root c.args.fabric.now c.is_well_made.ensures.are_tiles c.args.packed.now c.args.placed.now c.requires.placed c.args.nodes.now c.requires.nodes port c.index-pad.result.now.1 here in
    IfOk-weaker c.root_at.result (λ (v : Vec ℕ Global). v.items ≡ node_of c.args.nodes.now (pin_wire c.args.fabric.now c.index-pad.result.now.1 2) ∷ [])
    (λ (v : Vec ℕ Global). AreRoots c.args.fabric.now c.args.placed.now c.args.nodes.now (packed_net c.args.packed.now c.args.net) v.items)
    (λ v is.
    subst (λ (n : NetId). AreRoots c.args.fabric.now c.args.placed.now c.args.nodes.now (packed_net c.args.packed.now n) v.items) (sym c.in-In.is)
    (subst (λ (rs : List ℕ). AreRoots c.args.fabric.now c.args.placed.now c.args.nodes.now (packed_net c.args.packed.now (ids.In c.in-In.number)) rs) (sym is) roots))
    c.root_at.ensures

pub returns-in-Cell : goal.returns-in-Cell
returns-in-Cell c =
    let low = subst (λ (n : NetId). IsNetId c.args.packed.now n) c.in-Cell.is c.requires.known in
    let here = subst (λ (s : Site). Contains c.args.placed.now.cells (c.in-Cell.number, s)) (sym c.index.ensures) (c.requires.sources.cells.each c.in-Cell.number c.index.result.now low) in
    let roots = cell_root c.args.fabric.now c.is_well_made.ensures.are_tiles c.args.packed.now c.args.placed.now c.requires.placed c.args.nodes.now c.requires.nodes c.in-Cell.number c.index.result.now here in
    IfOk-weaker c.root_at-in-Cell.result (λ (v : Vec ℕ Global). v.items ≡ node_of c.args.nodes.now (pin_wire c.args.fabric.now c.index.result.now 7) ∷ [])
    (λ (v : Vec ℕ Global). AreRoots c.args.fabric.now c.args.placed.now c.args.nodes.now (packed_net c.args.packed.now c.args.net) v.items)
    (λ v is.
    subst (λ (n : NetId). AreRoots c.args.fabric.now c.args.placed.now c.args.nodes.now (packed_net c.args.packed.now n) v.items) (sym c.in-Cell.is)
    (subst (λ (rs : List ℕ). AreRoots c.args.fabric.now c.args.placed.now c.args.nodes.now (packed_net c.args.packed.now (ids.Cell c.in-Cell.number)) rs) (sym is) roots))
    c.root_at-in-Cell.ensures
