use Rattle.std.proofs.Common.{◌∙◌, ap, ℕ, List}
use Rattle.std.specs.Prelude.{not, ◌==◌, length, filter}
use Rattle.std.specs.List.{slice_split}
use Rattle.fab_lines.specs.Parts.{is_blank}
use Rattle.fab_lines.specs.Items.{is_filled}
use Rattle.fab_texts.proofs.Filled.{holds_some}
use Rattle.fab_texts.proofs.rows.holds_word.Goals as goal

pub returns : goal.returns
returns c =
    c.has_filled.ensures ∙ holds_some c.uncommented.result.now ∙ ap (λ (text : List ℕ). not (length (filter is_filled (slice_split is_blank text)) == 0)) c.uncommented.ensures
