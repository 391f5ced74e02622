use Rattle.std.proofs.Common.{rules, ◌≡◌, All, Some, sym, subst}
use Rattle.fab_kinds.specs.declared.kind.Kind.TheVariants as kinds
use Rattle.fab_implementation.specs.Plain.{Pad}
use Rattle.fab_implementation.specs.OnFabric.{kind_at}
use Rattle.fab_timing.specs.inner.Passes.{IsCellLine}
use Rattle.fab_timing.proofs.Timed.{cells_known, ins_pads, starts_made}
use Rattle.fab_timing.proofs.ends.starts_of.Goals as goal

pub put_pads-requires-clause-pads : goal.put_pads-requires-clause-pads
put_pads-requires-clause-pads c =
    let ins : c.deref.result.now ≡ c.args.legal.now.ins = search rules in
    subst (All (λ (pad : Pad). kind_at c.args.fabric.now pad.1 ≡ Some kinds.Io)) (sym ins) (ins_pads c.args.fabric.now c.args.packed.now c.requires.legal.0 c.args.legal.now c.requires.legal.1)

pub put_starts-requires : goal.put_starts-requires
put_starts-requires c =
    let cells : c.deref-2.result.now ≡ c.args.legal.now.cells = search rules in
    subst (All (IsCellLine c.args.fabric.now c.args.packed.now)) (sym cells) (cells_known c.args.fabric.now c.args.packed.now c.requires.legal.0 c.args.legal.now c.requires.legal.1)

pub returns : goal.returns
returns c =
    let ins : c.deref.result.now ≡ c.args.legal.now.ins = search rules in
    let cells : c.deref-2.result.now ≡ c.args.legal.now.cells = search rules in
    let made = starts_made c.args.fabric.now c.args.packed.now c.requires.legal.0 c.args.legal.now c.requires.legal.1 c.deref.result.now c.deref-2.result.now c.new-starts.result.items
    c.put_pads.new.pins.items c.put_starts.new.starts.items ins cells c.new-starts.ensures.items c.in_ok-put_pads.ensures c.in_ok-put_starts.ensures in
    record { starts = made.0; within = made.1; apart = made.2 }
