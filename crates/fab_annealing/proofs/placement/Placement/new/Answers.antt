use Rattle.std.proofs.Common.{ℕ, List, map, get_or, ◌∙◌, ap, arith}
use Rattle.fab_annealing.proofs.Filling.{places_near}
use Rattle.fab_annealing.proofs.placement.Placement.new.Goals as goal

pub new-requires-clause-near : goal.new-requires-clause-near
new-requires-clause-near c =
    places_near c.args.board.now.columns.items c.args.sites.now c.in_ok-places_of.field-0.items
    (c.in_ok-places_of.ensures ∙ ap (λ (table : List ℕ). map (λ s. get_or table s 0) c.args.sites.now) c.deref.ensures.value)
    c.requires.board.near_columns c.requires.placed.inside

pub new-requires-2-clause-near : goal.new-requires-2-clause-near
new-requires-2-clause-near c =
    places_near c.args.board.now.rows.items c.args.sites.now c.in_ok-places_of-2.field-0.items
    (c.in_ok-places_of-2.ensures ∙ ap (λ (table : List ℕ). map (λ s. get_or table s 0) c.args.sites.now) c.deref-2.ensures.value)
    c.requires.board.near_rows (λ k d low. omega (arith, c.requires.placed.inside k d low, c.requires.board.rows_count))
