use Rattle.std.proofs.Common.{[], ◌∷◌, map, option_to_list, sym, ap, ◌∙◌}
use Rattle.fab_serial.specs.Module.{serial_top}
use Rattle.fab_serial.proofs.Last.{last_plain}
use Rattle.fab_serial.proofs.text.top_behind.Goals as goal

pub returns-in_ok-serial_top-in-Some : goal.returns-in_ok-serial_top-in-Some
returns-in_ok-serial_top-in-Some c =
    ap (λ m. m ∷ []) c.in_ok-serial_top-in-Some.ensures
    ∙ sym (ap (λ last. map serial_top (option_to_list last)) (last_plain c.args.modules.now c.in-Some.top.now c.in-Some.ensures.value))
