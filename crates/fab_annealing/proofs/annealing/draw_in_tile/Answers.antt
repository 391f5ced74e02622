use Rattle.std.proofs.Common.{◌≡◌, ◌<◌, ℕ, Bool, List, ◌%◌, length, sym, subst, true, false, arith}
use Rattle.std.specs.List.{All}
use Rattle.std.specs.Prelude.{get_or}
use Rattle.fab_annealing.specs.Boards.{site_count, is_second}
use Rattle.fab_annealing.specs.inner.Standing.{lot_number}
use Rattle.fab_annealing.proofs.annealing.draw_in_tile.Goals as goal

pub at-lot-requires-clause-first : goal.at-lot-requires-clause-first
at-lot-requires-clause-first c = (c.requires.lots false).count

pub at-lot-requires-clause-second : goal.at-lot-requires-clause-second
at-lot-requires-clause-second c = (c.requires.lots true).count

pub returns-clause-inside : goal.returns-clause-inside
returns-clause-inside c =
    let lot = c.at-lot.result.now in
    let sound = subst (λ (ss : List ℕ). All (λ site. (site < site_count c.args.board.now) × (is_second c.args.board.now site ≡ c.is_second-second.result)) ss) (sym c.at-lot.ensures)
    ((c.requires.lots c.is_second-second.result).sound (lot_number c.draw_near-column.result c.draw_near-row.result)) in
    (sound (c.next_word.result % length lot) 0 (omega (arith, c.if-count-eq0.false))).0

pub returns-clause-kind : goal.returns-clause-kind
returns-clause-kind c =
    let lot = c.at-lot.result.now in
    let sound = subst (λ (ss : List ℕ). All (λ site. (site < site_count c.args.board.now) × (is_second c.args.board.now site ≡ c.is_second-second.result)) ss) (sym c.at-lot.ensures)
    ((c.requires.lots c.is_second-second.result).sound (lot_number c.draw_near-column.result c.draw_near-row.result)) in
    subst (λ (second : Bool). is_second c.args.board.now (get_or lot (c.next_word.result % length lot) 0) ≡ second) c.is_second-second.ensures
    (sound (c.next_word.result % length lot) 0 (omega (arith, c.if-count-eq0.false))).1
