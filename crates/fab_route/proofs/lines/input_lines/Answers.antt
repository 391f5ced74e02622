use Rattle.std.proofs.Common.{◌≢◌, ◌≤◌, ℕ, List, AllPairs, length, sym, ap, ◌∙◌, subst}
use Rattle.fab_implementation.specs.Plain.{Pad, PlainImplementation}
use Rattle.fab_legal.specs.inner.Keeping.{port_number}
use Rattle.fab_legal.specs.Lines.{named}
use Rattle.fab_legal.proofs.Lists.{at_read}
use Rattle.fab_route.proofs.Naming.{names_apart, few_lines}
use Rattle.fab_route.proofs.Stepped.{mapped_more}
use Rattle.fab_route.proofs.lines.input_lines.Goals as goal

pub line_names-requires : goal.line_names-requires
line_names-requires c =
    subst (λ (pads : List Pad). AllPairs (λ first second. first ≢ second) (named pads)) (sym (c.deref.ensures.value ∙ ap (λ (i : PlainImplementation). i.ins) c.placed.view_is))
    (names_apart c.args._fabric.now c.args.packed.now c.args.placed.now c.requires.placed)

pub line_of-requires : goal.line_of-requires
line_of-requires c =
    subst (λ (names : List (List ℕ)). length names ≤ 16384) (sym (c.in_ok-names.ensures ∙ ap named (c.deref.ensures.value ∙ ap (λ (i : PlainImplementation). i.ins) c.placed.view_is)))
    (few_lines c.args._fabric.now c.args.packed.now c.args.placed.now c.requires.placed c.requires.made)

pub loop-port-preserved : goal.loop-port-preserved
loop-port-preserved c =
    let ports = c.deref-port-items.result.now in
    let names_are = c.in_ok-names.ensures ∙ ap named (c.deref.ensures.value ∙ ap (λ (i : PlainImplementation). i.ins) c.placed.view_is) in
    mapped_more (port_number (named c.args.placed.now.ins)) ports c.loop-port.port-index c.port-item.result c.loop-port.lines.items c.push.new.self.items c.line_of.result
    (at_read ports c.loop-port.port-index c.port-item.result c.loop-port-test.true c.port-item.is) c.loop-port.invariant c.in_ok-push.ensures.items
    (c.line_of.ensures ∙ ap (λ (names : List (List ℕ)). port_number names c.port-item.result) names_are)
