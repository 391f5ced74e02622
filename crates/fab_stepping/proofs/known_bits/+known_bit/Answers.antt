use Rattle.std.proofs.Common.{◌≡◌, ◌-◌, ◌<◌, ap, ap₂, ◌∙◌, subst, arith}
use Rattle.fab_ternary_laws.specs.Operators.{tern_at, inverse, both, either, differs}
use Rattle.fab_compiled.specs.declared.tree.Tree.{Tree}
use Rattle.fab_compiled.specs.Trees.{tree_width, IsMade}
use Rattle.fab_compiled.specs.Evaluation.{value_seen}
use Rattle.fab_compiled.proofs.Evaluated.{each_of, high_of, long_at, low_of, not_at, operands_long, wide_at}
use Rattle.fab_stepping.proofs.KnownBits.{bit_is, both_is, differs_is, either_is, inverse_is}
use Rattle.fab_stepping.proofs.known_bits.+known_bit.Goals as goal

pub returns-then-bit-width : goal.returns-then-bit-width
returns-then-bit-width t c =
    let terns = c.args.view.now.terns.now in
    let leads = c.args.view.now.leads.now in
    let value = value_seen terns leads c.args.first in
    let low = c.in-Cat.low.value in
    let high = c.in-Cat.high.value in
    let made : (tree_width low ≡ c.in-Cat.width) × IsMade low × IsMade high = subst IsMade c.in-Cat.is c.requires.made in
    c.known_bit.ensures ∙ ap (λ (x : Tree). tern_at (value x) c.args.bit) c.deref.ensures
    ∙ low_of (value low) (value high) (value c.args.tree.now) c.args.bit (ap value c.in-Cat.is)
    (long_at terns leads c.args.first low c.args.bit made.1 (omega (arith, c.if-bit-width.true, made.0)))

pub returns-else-bit-width : goal.returns-else-bit-width
returns-else-bit-width t c =
    let terns = c.args.view.now.terns.now in
    let leads = c.args.view.now.leads.now in
    let value = value_seen terns leads c.args.first in
    let low = c.in-Cat.low.value in
    let high = c.in-Cat.high.value in
    let made : (tree_width low ≡ c.in-Cat.width) × IsMade low × IsMade high = subst IsMade c.in-Cat.is c.requires.made in
    c.known_bit-else-bit-width.ensures ∙ ap (λ (x : Tree). tern_at (value x) (c.args.bit - c.in-Cat.width)) c.deref-else-bit-width.ensures
    ∙ high_of (value low) (value high) (value c.args.tree.now) c.args.bit c.in-Cat.width (ap value c.in-Cat.is) (wide_at terns leads c.args.first low made.1 ∙ made.0) c.if-bit-width.false

pub returns-in-Not : goal.returns-in-Not
returns-in-Not t c =
    let terns = c.args.view.now.terns.now in
    let leads = c.args.view.now.leads.now in
    let value = value_seen terns leads c.args.first in
    let inner = c.in-Not.inner.value in
    inverse_is c.known_bit-in-Not.result
    ∙ ap inverse (c.known_bit-in-Not.ensures ∙ ap (λ (x : Tree). tern_at (value x) c.args.bit) c.deref-in-Not.ensures)
    ∙ not_at (value inner) (value c.args.tree.now) c.args.bit (ap value c.in-Not.is) (long_at terns leads c.args.first c.args.tree.now c.args.bit c.requires.made c.requires.within)

pub returns-in-And : goal.returns-in-And
returns-in-And t c =
    let terns = c.args.view.now.terns.now in
    let leads = c.args.view.now.leads.now in
    let value = value_seen terns leads c.args.first in
    let left = c.in-And.left.value in
    let right = c.in-And.right.value in
    let made : (tree_width left ≡ tree_width right) × IsMade left × IsMade right = subst IsMade c.in-And.is c.requires.made in
    let within : c.args.bit < tree_width left = subst (λ (x : Tree). c.args.bit < tree_width x) c.in-And.is c.requires.within in
    let long = operands_long terns leads c.args.first left right c.args.bit made.0 made.1 made.2 within in
    both_is c.known_bit-in-And.result c.known_bit-in-And-2.result
    ∙ ap₂ both (c.known_bit-in-And.ensures ∙ ap (λ (x : Tree). tern_at (value x) c.args.bit) c.deref-in-And.ensures)
    (c.known_bit-in-And-2.ensures ∙ ap (λ (x : Tree). tern_at (value x) c.args.bit) c.deref-in-And-2.ensures)
    ∙ each_of both (value left) (value right) (value c.args.tree.now) c.args.bit (ap value c.in-And.is) long.0 long.1

pub returns-in-Or : goal.returns-in-Or
returns-in-Or t c =
    let terns = c.args.view.now.terns.now in
    let leads = c.args.view.now.leads.now in
    let value = value_seen terns leads c.args.first in
    let left = c.in-Or.left.value in
    let right = c.in-Or.right.value in
    let made : (tree_width left ≡ tree_width right) × IsMade left × IsMade right = subst IsMade c.in-Or.is c.requires.made in
    let within : c.args.bit < tree_width left = subst (λ (x : Tree). c.args.bit < tree_width x) c.in-Or.is c.requires.within in
    let long = operands_long terns leads c.args.first left right c.args.bit made.0 made.1 made.2 within in
    either_is c.known_bit-in-Or.result c.known_bit-in-Or-2.result
    ∙ ap₂ either (c.known_bit-in-Or.ensures ∙ ap (λ (x : Tree). tern_at (value x) c.args.bit) c.deref-in-Or.ensures)
    (c.known_bit-in-Or-2.ensures ∙ ap (λ (x : Tree). tern_at (value x) c.args.bit) c.deref-in-Or-2.ensures)
    ∙ each_of either (value left) (value right) (value c.args.tree.now) c.args.bit (ap value c.in-Or.is) long.0 long.1

pub returns-in-Xor : goal.returns-in-Xor
returns-in-Xor t c =
    let terns = c.args.view.now.terns.now in
    let leads = c.args.view.now.leads.now in
    let value = value_seen terns leads c.args.first in
    let left = c.in-Xor.left.value in
    let right = c.in-Xor.right.value in
    let made : (tree_width left ≡ tree_width right) × IsMade left × IsMade right = subst IsMade c.in-Xor.is c.requires.made in
    let within : c.args.bit < tree_width left = subst (λ (x : Tree). c.args.bit < tree_width x) c.in-Xor.is c.requires.within in
    let long = operands_long terns leads c.args.first left right c.args.bit made.0 made.1 made.2 within in
    differs_is c.known_bit-in-Xor.result c.known_bit-in-Xor-2.result
    ∙ ap₂ differs (c.known_bit-in-Xor.ensures ∙ ap (λ (x : Tree). tern_at (value x) c.args.bit) c.deref-in-Xor.ensures)
    (c.known_bit-in-Xor-2.ensures ∙ ap (λ (x : Tree). tern_at (value x) c.args.bit) c.deref-in-Xor-2.ensures)
    ∙ each_of differs (value left) (value right) (value c.args.tree.now) c.args.bit (ap value c.in-Xor.is) long.0 long.1

pub returns-in-Const : goal.returns-in-Const
returns-in-Const t c =
    bit_is c.args.view.now.terns.now c.args.view.now.leads.now c.requires.own c.requires.known c.args.first c.requires.begins c.args.tree.now c.requires.inside c.args.bit
    c.is_one.result c.is_one.ensures
