-- A tested table is consistent, and low at goals.
use Rattle.std.proofs.Common.{◌≡◌, ℕ, ap₂, arith}
use Rattle.fab_nodes_laws.specs.Tables.{away, hop_between}
use Rattle.fab_nodes_laws.specs.Laws.{TestedIsConsistent, GoalsAreLow}

pub tested_is_consistent : TestedIsConsistent
tested_is_consistent graph places hops table x y from to within has tested few_x few_y low low_to edge =
    let here = within from low in
    let there = within to low_to in
    tested (hop_between places from to) (has from to low edge)
    (away (places.column from) x) (away (places.row from) y) (away (places.column to) x) (away (places.row to) y)
    (omega (arith, here, few_x)) (omega (arith, here, few_y)) (omega (arith, there, few_x)) (omega (arith, there, few_y))
    (omega (arith, here, there, few_x)) (omega (arith, here, there, few_y))

pub goals_are_low : GoalsAreLow
goals_are_low places classes table x y node low here x_is y_is =
    let across : away (places.column node) x ≡ 32 = omega (arith, x_is) in
    let down : away (places.row node) y ≡ 32 = omega (arith, y_is) in
    let same : table (places.class node) (away (places.column node) x) (away (places.row node) y) ≡ table (places.class node) 32 32 =
    ap₂ (λ (a b : ℕ). table (places.class node) a b) across down in
    omega (arith, same, low (places.class node) here)
