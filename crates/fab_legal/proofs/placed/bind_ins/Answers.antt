use Rattle.std.proofs.Common.{◌≢◌, ℕ, List, AllPairs, sym, ◌∙◌, ap, subst}
use Rattle.fab_implementation.specs.fab_netlist.specs.Packed.{PlainPacked}
use Rattle.fab_implementation.specs.Plain.{PlainImplementation}
use Rattle.fab_legal.specs.WellMade.{output_ports}
use Rattle.fab_legal.specs.inner.Keeping.{BindsPads}
use Rattle.std.proofs.lemmas.Result.{IfOk-weaker}
use Rattle.fab_bits.specs.Keys.{key_names}
use Rattle.fab_legal.proofs.Bindings.{differ_left, moved_pads}
use Rattle.fab_legal.proofs.placed.bind_ins.Goals as goal

pub bind_pads-requires-clause-apart : goal.bind_pads-requires-clause-apart
bind_pads-requires-clause-apart c =
    let view = c.in_ok-names.ensures ∙ c.deref.ensures.value ∙ ap (λ (p : PlainPacked). p.inputs) c.packed.view_is in
    subst (λ (l : List (List ℕ)). AllPairs (λ first second. first ≢ second) l) (sym view) (differ_left c.args.packed.now.inputs (output_ports c.args.packed.now) c.requires.ports_differ)

pub returns : goal.returns
returns c =
    let p = c.args.packed.now in
    let i = c.args.implementation.now in
    let names = key_names c.in_ok-names.names.keys in
    let names_are = c.in_ok-names.ensures ∙ c.deref.ensures.value ∙ ap (λ (q : PlainPacked). q.inputs) c.packed.view_is in
    let lines_are = c.deref-2.ensures.value ∙ ap (λ (j : PlainImplementation). j.ins) c.implementation.view_is in
    IfOk-weaker c.bind_pads.result (BindsPads c.args.fabric.now names c.deref-2.result.now) (BindsPads c.args.fabric.now p.inputs i.ins)
    (λ bound binds. moved_pads c.args.fabric.now names p.inputs c.deref-2.result.now i.ins bound names_are lines_are binds) c.bind_pads.ensures
