use Rattle.std.proofs.Common.{◌≡◌, ◌∙◌, ◌++◌, [], List, map, sym, ap, subst, true, false, rules}
use Rattle.fab_base.specs.declared.words.Reason.TheVariants.{NameTwice}
use Rattle.fab_syntax.specs.declared.tree.Port.{Port}
use Rattle.fab_syntax.specs.declared.tree.Item.{Item}
use Rattle.fab_syntax.specs.Sound.{refusals}
use Rattle.fab_sound.specs.inner.Checks.{StartsWith, TakesNets}
use Rattle.fab_syntax.specs.Plain.{plain_item}
use Rattle.fab_sound.proofs.Nets.{module_nets}
use Rattle.fab_sound.proofs.Noting.{port_nets, items_mentions, notes_empty, advances_true, advances_false, of_some, of_none}
use Rattle.fab_sound.proofs.names.name_module.Goals as goal

pub returns-then-not-branch-clause-names : goal.returns-then-not-branch-clause-names
returns-then-not-branch-clause-names c =
    let items : List Item = c.args.module.now.items.items in
    let refused : c.in_ok-name_ports.field-0 ≡ false = search rules in
    let h = advances_false _ c.name_ports.new.names [] (port_nets c.deref.result.now) c.in_ok-name_ports.field-0 refused
    (c.in_ok-name_ports.ensures.names [] (notes_empty _ c.new-names.result c.new-names.ensures.empty)) (items_mentions items) in
    subst (λ (ports : List Port). StartsWith (refusals [] (port_nets ports ++ items_mentions items)) NameTwice) c.deref.ensures.value h

pub returns-in-Some-clause-names : goal.returns-in-Some-clause-names
returns-in-Some-clause-names c =
    let items : List Item = c.args.module.now.items.items in
    let fits : c.in_ok-name_ports.field-0 ≡ true = search rules in
    let p = advances_true _ c.name_ports.new.names [] (port_nets c.deref.result.now) c.in_ok-name_ports.field-0 fits
    (c.in_ok-name_ports.ensures.names [] (notes_empty _ c.new-names.result c.new-names.ensures.empty)) (items_mentions c.deref-2.result.now) in
    let h = of_some c.in_ok-reason.field-0 (refusals p.0 (items_mentions c.deref-2.result.now) ≡ []) (λ reason. StartsWith (refusals p.0 (items_mentions c.deref-2.result.now)) reason)
    c.in-Some.reason c.in-Some.is (c.in_ok-reason.ensures.names p.0 p.1) in (
      h.0,
      ap (λ (ports : List Port). refusals [] (port_nets ports ++ items_mentions items)) (sym c.deref.ensures.value)
          ∙ ap (λ (xs : List Item). refusals [] (port_nets c.deref.result.now ++ items_mentions xs)) (sym c.deref-2.ensures.value)
          ∙ p.2 ∙ h.1,
    )

pub returns-clause-names : goal.returns-clause-names
returns-clause-names c =
    let items : List Item = c.args.module.now.items.items in
    let fits : c.in_ok-name_ports.field-0 ≡ true = search rules in
    let p = advances_true _ c.name_ports.new.names [] (port_nets c.deref.result.now) c.in_ok-name_ports.field-0 fits
    (c.in_ok-name_ports.ensures.names [] (notes_empty _ c.new-names.result c.new-names.ensures.empty)) (items_mentions c.deref-2.result.now) in
    let h = of_none c.in_ok-reason.field-0 (refusals p.0 (items_mentions c.deref-2.result.now) ≡ []) (λ reason. StartsWith (refusals p.0 (items_mentions c.deref-2.result.now)) reason)
    c.in-None.is (c.in_ok-reason.ensures.names p.0 p.1) in
    ap (λ (ports : List Port). refusals [] (port_nets ports ++ items_mentions items)) (sym c.deref.ensures.value)
    ∙ ap (λ (xs : List Item). refusals [] (port_nets c.deref.result.now ++ items_mentions xs)) (sym c.deref-2.ensures.value)
    ∙ p.2 ∙ h

pub returns-clause-nets : goal.returns-clause-nets
returns-clause-nets c =
    let fits : c.in_ok-name_ports.field-0 ≡ true = search rules in
    let one = subst (λ (ports : List Port). TakesNets c.new-names.result c.name_ports.new.names ports []) c.deref.ensures.value (c.in_ok-name_ports.ensures.nets fits) in
    let two = subst (λ (xs : List Item). TakesNets c.name_ports.new.names c.name_items.new.names [] (map plain_item xs)) c.deref-2.ensures.value
    (c.in_ok-reason.ensures.nets c.in-None.is) in
    module_nets _ c.new-names.result c.name_ports.new.names c.name_items.new.names c.args.module.now.ports.items (map plain_item c.args.module.now.items.items)
    c.new-names.ensures.empty one two
