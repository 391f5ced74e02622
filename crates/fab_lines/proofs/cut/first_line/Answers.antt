use Rattle.std.proofs.Common.{◌≡◌, ap, ◌∙◌, take, sym}
use Rattle.std.specs.Str.Lines.{strip_carriage_return}
use Rattle.fab_lines.proofs.FirstLine.{lines_at_feed, lines_at_end}
use Rattle.fab_lines.proofs.cut.first_line.Goals as goal

pub returns-in_default-clause-first : goal.returns-in_default-clause-first
returns-in_default-clause-first c = lines_at_end c.args.bytes.now c.requires (sym c.place.ensures ∙ c.in_default.is)

pub returns-clause-first : goal.returns-clause-first
returns-clause-first c =
    let first = lines_at_feed c.args.bytes.now c.in-Some.end (sym c.place.ensures ∙ c.in-Some.is) in
    let line : c.without_return.result.now ≡ strip_carriage_return (take c.in-Some.end c.args.bytes.now) = c.without_return.ensures ∙ ap strip_carriage_return c.split_at.ensures.front in
    rw (line, c.split_at-2.ensures.back) first
