use Rattle.std.proofs.Common.{rules, ◌≡◌, All, Some, sym, subst}
use Rattle.fab_kinds.specs.declared.kind.Kind.TheVariants as kinds
use Rattle.fab_implementation.specs.Plain.{Pad}
use Rattle.fab_implementation.specs.OnFabric.{kind_at}
use Rattle.fab_timing.specs.inner.Passes.{IsCellLine}
use Rattle.fab_timing.proofs.Timed.{cells_known, outs_pads, ends_made}
use Rattle.fab_timing.proofs.ends.ends_of.Goals as goal

pub put_pads-requires-clause-pads : goal.put_pads-requires-clause-pads
put_pads-requires-clause-pads c =
    let outs : c.deref.result.now ≡ c.args.legal.now.outs = search rules in
    subst (All (λ (pad : Pad). kind_at c.args.fabric.now pad.1 ≡ Some kinds.Io)) (sym outs) (outs_pads c.args.fabric.now c.args.packed.now c.requires.legal.0 c.args.legal.now c.requires.legal.1)

pub put_ends-requires-clause-lines : goal.put_ends-requires-clause-lines
put_ends-requires-clause-lines c =
    let cells : c.deref-2.result.now ≡ c.args.legal.now.cells = search rules in
    subst (All (IsCellLine c.args.fabric.now c.args.packed.now)) (sym cells) (cells_known c.args.fabric.now c.args.packed.now c.requires.legal.0 c.args.legal.now c.requires.legal.1)

pub returns : goal.returns
returns c =
    let outs : c.deref.result.now ≡ c.args.legal.now.outs = search rules in
    let cells : c.deref-2.result.now ≡ c.args.legal.now.cells = search rules in
    let made = ends_made c.args.fabric.now c.args.packed.now c.requires.legal.0 c.args.legal.now c.requires.legal.1 c.requires.made c.deref.result.now c.deref-2.result.now c.new-ends.result.items
    c.put_pads.new.pins.items c.put_ends.new.ends.items outs cells c.new-ends.ensures.items c.in_ok-put_pads.ensures c.in_ok-put_ends.ensures in
    record { ends = made.0; within = made.1 }
