use Rattle.std.proofs.Common.{ℕ, List, Bor, sym, ◌∙◌}
use Rattle.fab_tables.proofs.Seen.{pieces_seen}
use Rattle.fab_tables.proofs.cell.are_pieces.Goals as goal

pub returns-then-is_text : goal.returns-then-is_text
returns-then-is_text c = pieces_seen (λ (piece : Bor (List ℕ)). piece.now) c.args.pieces.now _ c.are_choices.result c.in-len1-up.len_at_least (sym c.is_text.ensures ∙ c.if-is_text.true) c.are_choices.ensures
