use Rattle.std.proofs.Common.{◌≡◌, ◌∙◌, ℕ, List, ◌&&◌, map, sym, ap}
use Rattle.std.specs.List.{list_all}
use Rattle.fab_syntax.specs.Plain.{plain_item}
use Rattle.fab_syntax.specs.Declarations.{times_driven, times_held}
use Rattle.fab_sound.specs.inner.Checks.{count_at, known_module, library_text}
use Rattle.fab_sound.specs.inner.Rules.{port_is_driven, item_is_driven}
use Rattle.fab_sound.proofs.Driven.{ports_same, items_same}
use Rattle.fab_sound.proofs.drivers.module_is_driven.Goals as goal
use Rattle.fab_sound.proofs.drivers.module_is_driven.Goals.{then-ports_are_driven, else-ports_are_driven}

pub returns : goal.returns
returns c =
    let text = library_text c.args.library.now in
    let m = known_module c.args.known.now in
    let driven = count_at c.in_ok-drives.drives.driven in
    let held = count_at c.in_ok-drives.drives.held in
    let same : (name : List ℕ) → driven name ≡ times_driven text m.items name =
    λ name. c.in_ok-drives.ensures.driven name ∙ ap (λ xs. times_driven text (map plain_item xs) name) c.deref.ensures.value in
    let alike : (name : List ℕ) → held name ≡ times_held m.items name =
    λ name. c.in_ok-drives.ensures.held name ∙ ap (λ xs. times_held (map plain_item xs) name) c.deref.ensures.value in
    let ports : c.ports_are_driven.result ≡ list_all (port_is_driven (times_driven text m.items) (times_held m.items)) m.ports =
    c.ports_are_driven.ensures ∙ ap (list_all (port_is_driven driven held)) c.deref-2.ensures.value
    ∙ ports_same driven held (times_driven text m.items) (times_held m.items) same alike m.ports in
    elim c.if-ports_are_driven.branch [
      | then-ports_are_driven w ↦ (let items : w.items_are_driven.result ≡ list_all (item_is_driven (times_driven text m.items) (times_held m.items)) m.items =
          w.items_are_driven.ensures ∙ ap (λ xs. list_all (item_is_driven driven held) (map plain_item xs)) w.deref-then-ports_are_driven.ensures.value
          ∙ items_same driven held (times_driven text m.items) (times_held m.items) same alike m.items in
          w.result-is ∙ items ∙ ap (λ b. b && list_all (item_is_driven (times_driven text m.items) (times_held m.items)) m.items) (sym w.if-ports_are_driven.true ∙ ports))
      | else-ports_are_driven w ↦
          w.result-is ∙ w.if-ports_are_driven.false ∙ ap (λ b. b && list_all (item_is_driven (times_driven text m.items) (times_held m.items)) m.items) (sym w.if-ports_are_driven.false ∙ ports)
    ]
