use Rattle.std.proofs.Common.{◌∙◌, ◌≡◌, ap, false, ◌==◌, length, sym}
use Rattle.std.specs.List.{list_any, before_first, after_first}
use Rattle.fab_words.specs.Arguments.{is_equals}
use Rattle.fab_words.proofs.Taken.{text_is, parts_say, setting_taken}
use Rattle.fab_words.proofs.arguments.Arguments.take_option.Goals as goal

pub returns-clause-taken : goal.returns-clause-taken
returns-clause-taken c =
    let option = text_is c.args.word.now c.option_text.result c.in_ok-text.text c.option_text.ensures c.in_ok-text.ensures.ok_part in
    let parts = parts_say c.in_ok-text.text.now c.parts_of.result c.in-Some.name c.in-Some.value c.parts_of.ensures c.in-Some.is in
    let filled : (length c.in-Some.value.now == 0) ≡ false = sym c.is_empty.ensures ∙ c.if-is_empty.false in
    setting_taken c.args.word.now c.in-Some.name.now c.in-Some.value.now _ _ c.requires option.0
    (ap (list_any is_equals) (sym option.1) ∙ parts.0)
    (parts.1 ∙ ap (before_first is_equals) option.1)
    (parts.2 ∙ ap (after_first is_equals) option.1)
    filled c.in_ok-push_setting.ensures
