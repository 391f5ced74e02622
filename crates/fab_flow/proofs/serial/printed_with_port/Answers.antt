use Rattle.std.proofs.Common.{◌≡◌, ◌+◌, ◌-◌, ◌∙◌, ℕ, length, subst, ap, sym, arith, List}
use Rattle.std.specs.List.{remove_range}
use Rattle.std.proofs.lemmas.List.{length-map}
use Rattle.std.proofs.lemmas.Result.{IfOk-weaker}
use Rattle.fab_syntax.specs.Plain.{PlainModule, plain_module, plain_text}
use Rattle.fab_syntax.specs.Sound.{IsSound}
use Rattle.fab_syntax.specs.Spelling.{text_bytes}
use Rattle.fab_model.specs.declared.mode.Mode.TheVariants as modes
use Rattle.fab_model.specs.Grid.{PlainFabric}
use Rattle.fab_gen_top.specs.fab_fabric_text_defs_Mode.{text_mode}
use Rattle.fab_gen_top.proofs.Modes.{text_mode_told}
use Rattle.fab_assemble.specs.fab_fabric_text_defs_Texts.{IsFabricText}
use Rattle.fab_serial.specs.Delivery.{DeliversSerially}
use Rattle.fab_serial.specs.Module.{serial_text}
use Rattle.fab_serial_laws.specs.Loads.{LoadsSerially}
use Rattle.fab_flow.specs.Generating.{generated_text}
use Rattle.fab_flow.specs.Serial.{text_with_port}
use Rattle.fab_flow.proofs.Lengths.{text_long}
use Rattle.fab_flow.proofs.PortLengths.{port_text_long, port_without_loaders}
use Rattle.fab_flow.proofs.serial.printed_with_port.Goals as goal

in_frames : (fabric : PlainFabric) → fabric.mode ≡ modes.Frames → text_mode fabric ≡ modes.Frames
in_frames fabric is = sym (text_mode_told fabric modes.Frames (sym is))

pub overflow_sub-top : goal.overflow_sub-top
overflow_sub-top c =
    let text = c.in_ok-text.text in
    let all = text_long c.args.fabric.now (plain_text text) c.in_ok-text.ensures.text in
    let long = length-map text.modules.items plain_module in
    omega (arith, all, long, c.len-top.ensures, text.modules.ok.0)

pub overflow_sub-first : goal.overflow_sub-first
overflow_sub-first c =
    let text = c.in_ok-text.text in
    let all = text_long c.args.fabric.now (plain_text text) c.in_ok-text.ensures.text in
    let long = length-map text.modules.items plain_module in
    omega (arith, all, long, c.len-top.ensures, text.modules.ok.0, c.loader_count.ensures)

pub printed_text-requires-clause-within : goal.printed_text-requires-clause-within
printed_text-requires-clause-within c =
    let text = c.in_ok-text.text in
    let whole = c.in_ok-text-2.text in
    let fabric = c.args.fabric.now in
    let all = text_long fabric (plain_text text) c.in_ok-text.ensures.text in
    let long = length-map text.modules.items plain_module in
    let whole_is : plain_text whole ≡ text_with_port fabric = c.in_ok-text-2.ensures.is ∙ ap serial_text c.in_ok-text.ensures.text in
    let longer = port_text_long fabric (plain_text whole) whole_is in
    omega (arith, all, long, longer, c.len-top.ensures, text.modules.ok.0)

pub returns-clause-printed : goal.returns-clause-printed
returns-clause-printed c =
    let whole_is = c.in_ok-text-2.ensures.is ∙ ap serial_text c.in_ok-text.ensures.text in
    IfOk-weaker c.printed_text.result _ _ (λ printed is. is ∙ ap text_bytes whole_is) c.printed_text.ensures.bytes

pub returns-clause-is_text : goal.returns-clause-is_text
returns-clause-is_text c =
    IfOk-weaker c.printed_text.result _ _
    (λ printed is named. subst (IsFabricText c.args.fabric.now) c.in_ok-text.ensures.text (c.in_ok-text.ensures.is_text named)) c.printed_text.ensures.bytes

pub returns-clause-sound : goal.returns-clause-sound
returns-clause-sound c =
    let fabric = c.args.fabric.now in
    let text = plain_text c.in_ok-text.text in
    let whole_is = c.in_ok-text-2.ensures.is ∙ ap serial_text c.in_ok-text.ensures.text in
    IfOk-weaker c.printed_text.result _ _
    (λ printed is named. subst IsSound whole_is (c.in_ok-text-2.ensures.sound
    (c.fabric_texts_take_ports.ensures fabric text (in_frames fabric c.requires) c.is_well_made.ensures.is_fabric (c.in_ok-text.ensures.is_text named)))) c.printed_text.ensures.bytes

pub returns-clause-delivers : goal.returns-clause-delivers
returns-clause-delivers c =
    let fabric = c.args.fabric.now in
    let text = plain_text c.in_ok-text.text in
    let whole_is = c.in_ok-text-2.ensures.is ∙ ap serial_text c.in_ok-text.ensures.text in
    IfOk-weaker c.printed_text.result _ _
    (λ printed is named. subst DeliversSerially whole_is (c.in_ok-text-2.ensures.delivers
    (c.fabric_texts_take_ports.ensures fabric text (in_frames fabric c.requires) c.is_well_made.ensures.is_fabric (c.in_ok-text.ensures.is_text named)))) c.printed_text.ensures.bytes

pub returns-clause-loads : goal.returns-clause-loads
returns-clause-loads c =
    let fabric = c.args.fabric.now in
    let text = plain_text c.in_ok-text.text in
    IfOk-weaker c.printed_text.result _ _
    (λ printed is named. subst (λ (ms : List PlainModule). LoadsSerially fabric (serial_text ms)) c.in_ok-text.ensures.text
    (c.serial_texts_load.ensures fabric text (in_frames fabric c.requires) c.is_well_made.ensures.is_fabric (c.in_ok-text.ensures.is_text named))) c.printed_text.ensures.bytes

pub returns-clause-length : goal.returns-clause-length
returns-clause-length c =
    let text = c.in_ok-text.text in
    let whole = c.in_ok-text-2.text in
    let fabric = c.args.fabric.now in
    let top : ℕ = c.len-top.result - 1 in
    let first = text_long fabric (plain_text text) c.in_ok-text.ensures.text in
    let all = ap length c.in_ok-text.ensures.text in
    let long = length-map text.modules.items plain_module in
    let at : top + 1 ≡ length (generated_text fabric) = omega (arith, first, all, long, c.len-top.ensures, text.modules.ok.0) in
    let whole_is : plain_text whole ≡ text_with_port fabric = c.in_ok-text-2.ensures.is ∙ ap serial_text c.in_ok-text.ensures.text in
    let unloaded : ℕ → ℕ = λ loaders. length (text_bytes (remove_range (plain_text whole) (top - loaders) top)) in
    let without = port_without_loaders fabric (plain_text whole) top whole_is at in
    IfOk-weaker c.printed_text.result _ _
    (λ printed is. is ∙ ap unloaded c.loader_count.ensures ∙ ap (λ (ms : List PlainModule). length (text_bytes ms)) without) c.printed_text.ensures.unloaded
