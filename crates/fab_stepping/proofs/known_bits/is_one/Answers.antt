use Rattle.std.proofs.Common.{◌≡◌, ◌+◌, ◌-◌, ◌<◌, ◌≤◌, length, sym, ap, ◌∙◌, subst, arith}
use Rattle.fab_ternary.specs.declared.Tern.TheVariants.{No}
use Rattle.fab_ternary.specs.Terns.{is_one}
use Rattle.fab_ternary_laws.specs.Operators.{tern_at}
use Rattle.fab_compiled.specs.declared.tree.Tree.{Tree}
use Rattle.fab_compiled.specs.Terns.{seen}
use Rattle.fab_compiled.specs.Trees.{tree_width}
use Rattle.fab_compiled.specs.Evaluation.{value_seen, IsWithin}
use Rattle.fab_compiled.proofs.Bits.{first_at, one_at}
use Rattle.fab_stepping.proofs.Reading.{kept_get, leads_seen}
use Rattle.fab_stepping.proofs.known_bits.is_one.Goals as goal

pub returns-in-Bits : goal.returns-in-Bits
returns-in-Bits c =
    let terns = c.args.view.now.terns.now in
    let leads = c.args.view.now.leads.now in
    let first = c.args.first in
    let bit = c.args.bit in
    let place = c.in-Bits.place in
    let count = c.in-Bits.field-1 in
    let value = value_seen terns leads first in
    let within : bit < count = subst (λ (x : Tree). bit < tree_width x) c.in-Bits.is c.requires.within in
    let below : place + count ≤ length leads - first = subst (λ (x : Tree). IsWithin x first (length leads)) c.in-Bits.is c.requires.inside in
    let less : first + place + bit < length terns = omega (arith, within, below, c.requires.begins, c.requires.own.long) in
    let here : first + place + bit ≡ first + (place + bit) = omega arith in
    c.is_yes.ensures
    ∙ ap is_one
    (kept_get terns (first + place + bit) No less ∙ sym (leads_seen (length terns) leads terns c.requires.own (first + place + bit) less) ∙ ap (seen terns leads) here
    ∙ sym (ap (λ (x : Tree). tern_at (value x) bit) c.in-Bits.is ∙ first_at count (λ k. seen terns leads (first + (place + k))) bit within))
    ∙ one_at (value c.args.tree.now) bit
