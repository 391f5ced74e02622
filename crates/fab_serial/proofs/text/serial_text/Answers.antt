use Rattle.std.proofs.Common.{◌≡◌, [], ◌∷◌, ◌++◌, append-nil, option_to_list, sym, ap, ◌∙◌, subst}
use Rattle.fab_syntax.specs.Plain.{plain_text}
use Rattle.fab_syntax.specs.Sound.{IsSound}
use Rattle.fab_serial.specs.Delivery.{DeliversSerially}
use Rattle.fab_serial.proofs.Last.{with_port}
use Rattle.fab_serial.proofs.Sound.{serial_text_is_sound}
use Rattle.fab_serial.proofs.Sends.{delivers}
use Rattle.fab_serial.proofs.text.serial_text.Goals as goal
use Rattle.fab_serial.proofs.text.serial_text.Goals.{in-Some+in_ok-push-2, in_default}

pub returns-clause-sound : goal.returns-clause-sound
returns-clause-sound c can =
    let front = c.args.text.modules.items ++ c.in_ok-serial_module.field-0 ∷ [] in
    let items : c.match-top-3.modules.items ≡ front ++ option_to_list c.in_ok-top.top =
    elim c.match-top-3.branch [
      | in-Some+in_ok-push-2 w ↦ ap (λ v. v.items) w.modules-is ∙ (w.in_ok-push-2.ensures.items
          ∙ (ap (λ l. l ++ w.in-Some.top ∷ []) c.in_ok-push.ensures.items ∙ ap (λ o. front ++ option_to_list o) (sym w.in-Some.is)))
      | in_default w ↦ ap (λ v. v.items) w.modules-is ∙ (c.in_ok-push.ensures.items ∙ (sym (append-nil front) ∙ ap (λ o. front ++ option_to_list o) (sym w.in_default.is)))
    ] in
    let is =
    with_port c.args.text.modules.items c.deref.result.now c.in_ok-serial_module.field-0 c.in_ok-top.top c.match-top-3.modules.items c.deref.ensures.value
    c.in_ok-serial_module.ensures c.in_ok-top.ensures items in
    subst IsSound (sym is) (serial_text_is_sound (plain_text c.args.text) can)

pub returns-clause-delivers : goal.returns-clause-delivers
returns-clause-delivers c can =
    let front = c.args.text.modules.items ++ c.in_ok-serial_module.field-0 ∷ [] in
    let items : c.match-top-3.modules.items ≡ front ++ option_to_list c.in_ok-top.top =
    elim c.match-top-3.branch [
      | in-Some+in_ok-push-2 w ↦ ap (λ v. v.items) w.modules-is ∙ (w.in_ok-push-2.ensures.items
          ∙ (ap (λ l. l ++ w.in-Some.top ∷ []) c.in_ok-push.ensures.items ∙ ap (λ o. front ++ option_to_list o) (sym w.in-Some.is)))
      | in_default w ↦ ap (λ v. v.items) w.modules-is ∙ (c.in_ok-push.ensures.items ∙ (sym (append-nil front) ∙ ap (λ o. front ++ option_to_list o) (sym w.in_default.is)))
    ] in
    let is =
    with_port c.args.text.modules.items c.deref.result.now c.in_ok-serial_module.field-0 c.in_ok-top.top c.match-top-3.modules.items c.deref.ensures.value
    c.in_ok-serial_module.ensures c.in_ok-top.ensures items in
    subst DeliversSerially (sym is) (delivers (plain_text c.args.text) can)
