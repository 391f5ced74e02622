use Rattle.std.proofs.Common.{◌≡◌, ◌∙◌, [], map, sym, ap, drop, true, false, get_or, rules}
use Rattle.std.specs.Option.{option_or}
use Rattle.std.proofs.lemmas.List.{drop_all}
use Rattle.fab_syntax.specs.Plain.{plain_item}
use Rattle.fab_sound.specs.inner.Checks.{found, net_declared, net_of}
use Rattle.fab_sound.proofs.Nets.{items_step, or_none}
use Rattle.fab_sound.proofs.Noting.{items_twice, items_unknown, items_pass}
use Rattle.fab_sound.proofs.names.name_items.Goals as goal

pub returns-then-not-branch-clause-names : goal.returns-then-not-branch-clause-names
returns-then-not-branch-clause-names c = λ before notes.
    let at = c.loop-item.invariant.0 before notes in
    let item : c.item-item.result ≡ get_or c.args.items.now c.loop-item.item-index c.item-item.result = search rules in
    let refused : c.in_ok-name_item.field-0 ≡ false = search rules in
    let h = items_twice _ c.loop-item.names c.name_item.new.names c.args.items.now c.loop-item.item-index c.item-item.result c.loop-item-test.true item at.0 at.1
    (sym c.in_ok-name_item.ensures.new ∙ refused) in
    (h.0, at.2 ∙ h.1)

pub returns-then-not-branch-2-clause-names : goal.returns-then-not-branch-2-clause-names
returns-then-not-branch-2-clause-names c = λ before notes.
    let at = c.loop-item.invariant.0 before notes in
    let item : c.item-item.result ≡ get_or c.args.items.now c.loop-item.item-index c.item-item.result = search rules in
    let fresh : c.in_ok-name_item.field-0 ≡ true = search rules in
    let refused : c.in_ok-uses_nets.field-0 ≡ false = search rules in
    let h = items_unknown _ c.loop-item.names c.name_item.new.names c.args.items.now c.loop-item.item-index c.item-item.result c.loop-item-test.true item at.0 at.1
    (sym c.in_ok-name_item.ensures.new ∙ fresh) (c.in_ok-name_item.ensures.takes fresh) (sym c.in_ok-uses_nets.ensures ∙ refused) in
    (h.0, at.2 ∙ h.1)

pub loop-item-preserved : goal.loop-item-preserved
loop-item-preserved c =
    let item : c.item-item.result ≡ get_or c.args.items.now c.loop-item.item-index c.item-item.result = search rules in
    let fresh : c.in_ok-name_item.field-0 ≡ true = search rules in
    let all : c.in_ok-uses_nets.field-0 ≡ true = search rules in (
      λ before notes.
          let at = c.loop-item.invariant.0 before notes in
          let h = items_pass _ c.loop-item.names c.name_item.new.names c.args.items.now c.loop-item.item-index c.item-item.result c.loop-item-test.true item at.0 at.1
          (sym c.in_ok-name_item.ensures.new ∙ fresh) (c.in_ok-name_item.ensures.takes fresh) (sym c.in_ok-uses_nets.ensures ∙ all) in
          (h.0, h.1, at.2 ∙ h.2),
      λ name. items_step _ c.loop-item.names c.name_item.new.names c.args.items.now c.loop-item.item-index c.item-item.result c.loop-item-test.true item
          (sym c.in_ok-name_item.ensures.new ∙ fresh) (c.in_ok-name_item.ensures.takes fresh) name
          ∙ c.loop-item.invariant.1 name,
    )

pub returns-clause-nets : goal.returns-clause-nets
returns-clause-nets c = λ none name.
    let end : drop c.loop-item.item-index c.args.items.now ≡ [] = drop_all c.loop-item.item-index c.args.items.now c.loop-item-test.false in
    sym (or_none (net_declared (found c.loop-item.names name)))
    ∙ ap (λ xs. option_or (net_declared (found c.loop-item.names name)) (net_of [] (map plain_item xs) name)) (sym end)
    ∙ c.loop-item.invariant.1 name
