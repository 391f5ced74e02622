use Rattle.std.proofs.Common.{◌≡◌, ◌∷◌, [], length, map, sym, ap, ◌∙◌}
use Rattle.fab_systems_laws.specs.Ternary.{Tern as PlainTern}
use Rattle.fab_ternary.specs.Terns.{plain_tern}
use Rattle.fab_nodes.specs.declared.operands.Binary.{Binary}
use Rattle.fab_nodes.specs.inner.Operands.{joined, joined_width}
use Rattle.fab_nodes.proofs.Kept.{set_alone}
use Rattle.fab_nodes.proofs.filling.join.Goals as goal

pub returns-in-Equal : goal.returns-in-Equal
returns-in-Equal c =
    let left = c.args.left.now in
    let right = c.args.right.now in
    let alone : length c.args.own.now ≡ 1 = c.requires.width ∙ ap (λ (o : Binary). joined_width o (length left) (length right)) c.in-Equal.is in
    set_alone c.args.own.now c.same_bits.result alone
    ∙ ap (λ (t : PlainTern). t ∷ []) c.same_bits.ensures ∙ sym (ap (λ (o : Binary). joined o (map plain_tern left) (map plain_tern right)) c.in-Equal.is)
