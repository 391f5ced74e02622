use Rattle.std.proofs.Common.{◌≡◌, ◌+◌, ◌*◌, ◌^◌, ◌≤◌, ℕ, List, [], ◌∷◌, length, map, sym, ap, ◌∙◌, subst}
use Rattle.fab_systems_laws.specs.Ternary.{Tern as PlainTern}
use Rattle.fab_solutions_laws.specs.fab_ternary_laws_Operators.{entry}
use Rattle.fab_solutions_laws.specs.fab_ternary_laws_Shown.{first_terns}
use Rattle.fab_ternary.specs.Terns.{plain_tern}
use Rattle.fab_compiled.specs.Terns.{seen}
use Rattle.fab_compiled.proofs.Evaluated.{table_is}
use Rattle.fab_nodes.specs.declared.operands.Unary.{Unary}
use Rattle.fab_nodes.specs.inner.Operands.{made_of, made_width, IsWide}
use Rattle.fab_nodes.proofs.Kept.{set_alone}
use Rattle.fab_nodes.proofs.filling.make.Goals as goal

pub returns-in-Pick : goal.returns-in-Pick
returns-in-Pick c =
    let at : ℕ → PlainTern = seen c.args.view.now.terns.now c.args.view.now.leads.now in
    let index = map plain_tern c.args.bits.now in
    let place = c.in-Pick.place in
    let width = c.in-Pick.field-1 in
    let wide : (length c.args.bits.now ≡ width) × (width ≤ 32) = subst (λ (o : Unary). IsWide o (length c.args.bits.now)) c.in-Pick.is c.requires.wide in
    let alone : length c.args.own.now ≡ 1 = c.requires.width ∙ ap (λ (o : Unary). made_width o (length c.args.bits.now)) c.in-Pick.is in
    set_alone c.args.own.now c.entry.result alone
    ∙ ap (λ (t : PlainTern). t ∷ [])
    (c.entry.ensures ∙ ap (λ (n : ℕ). entry (first_terns (2 ^ n) (λ k. at (c.args.first + place + 1 * k))) index) wide.0
    ∙ ap (λ (ts : List PlainTern). entry ts index) (table_is at (2 ^ width) c.args.first place))
    ∙ sym (ap (λ (o : Unary). made_of (λ k. at (c.args.first + k)) o index) c.in-Pick.is)
