use Rattle.std.proofs.Common.{◌≡◌, ◌+◌, ◌-◌, ◌∙◌, ℕ, length, subst, ap, arith, List}
use Rattle.std.specs.List.{remove_range}
use Rattle.std.proofs.lemmas.List.{length-map}
use Rattle.std.proofs.lemmas.Result.{IfOk-weaker}
use Rattle.fab_syntax.specs.Plain.{PlainModule, plain_module, plain_text}
use Rattle.fab_syntax.specs.Spelling.{text_bytes}
use Rattle.fab_assemble.specs.fab_drives_laws_Drives.{ShowsDrives}
use Rattle.fab_flow.proofs.Lengths.{text_long, without_loaders}
use Rattle.fab_flow.proofs.generating.printed_fabric.Goals as goal

pub overflow_sub-top : goal.overflow_sub-top
overflow_sub-top c =
    let text = c.in_ok-text.text in
    let all = text_long c.args.fabric.now (plain_text text) c.in_ok-text.ensures.text in
    let long = length-map text.modules.items plain_module in
    omega (arith, all, long, c.len-top.ensures, text.modules.ok.0)

pub overflow_sub-first : goal.overflow_sub-first
overflow_sub-first c =
    let text = c.in_ok-text.text in
    let all = text_long c.args.fabric.now (plain_text text) c.in_ok-text.ensures.text in
    let long = length-map text.modules.items plain_module in
    omega (arith, all, long, c.len-top.ensures, text.modules.ok.0, c.loader_count.ensures)

pub printed_text-requires-clause-within : goal.printed_text-requires-clause-within
printed_text-requires-clause-within c =
    let text = c.in_ok-text.text in
    let long = length-map text.modules.items plain_module in
    omega (arith, long, c.len-top.ensures, text.modules.ok.0)

pub returns-clause-drives : goal.returns-clause-drives
returns-clause-drives c =
    IfOk-weaker c.printed_text.result _ _ (λ _ _. subst (ShowsDrives c.args.fabric.now) c.in_ok-text.ensures.text c.in_ok-text.ensures.drives)
    c.printed_text.ensures.bytes

pub returns-clause-length : goal.returns-clause-length
returns-clause-length c =
    let text = c.in_ok-text.text in
    let fabric = c.args.fabric.now in
    let top : ℕ = c.len-top.result - 1 in
    let all = text_long fabric (plain_text text) c.in_ok-text.ensures.text in
    let long = length-map text.modules.items plain_module in
    let at : top + 1 ≡ length (plain_text text) = omega (arith, all, long, c.len-top.ensures, text.modules.ok.0) in
    let unloaded : ℕ → ℕ = λ loaders. length (text_bytes (remove_range (plain_text text) (top - loaders) top)) in
    let without = without_loaders fabric (plain_text text) top c.in_ok-text.ensures.text at in
    IfOk-weaker c.printed_text.result _ _
    (λ printed is. is ∙ ap unloaded c.loader_count.ensures ∙ ap (λ (ms : List PlainModule). length (text_bytes ms)) without) c.printed_text.ensures.unloaded
