use Rattle.std.proofs.Common.{◌∙◌, ap, option_map, Some, None, if◌then◌else◌}
use Rattle.std.specs.Str.{is_utf8}
use Rattle.fab_files.proofs.Text.{text_shown}
use Rattle.fab_files.proofs.fetching.text_of.Goals as goal

pub returns : goal.returns
returns c =
    ap (option_map (λ text. text.now)) c.ok.ensures.value
    ∙ text_shown c.bytes.result.now _ c.from_utf8.result c.from_utf8.ensures.cases
    ∙ ap (λ bytes. if is_utf8 bytes then Some bytes else None) c.bytes.ensures
