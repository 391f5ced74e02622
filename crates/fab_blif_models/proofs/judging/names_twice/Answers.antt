use Rattle.std.proofs.Common.{ℕ, List, Bor, Global, [], ◌++◌, ap, sym, ◌∙◌, map, drop, get_or, ◌+◌}
use Rattle.std.specs.Str.{bytes_eq}
use Rattle.indexmap.specs.IndexSet.{insert_key}
use Rattle.fab_blif_models.specs.Judge.{names_twice}
use Rattle.fab_bits.specs.Keys.{key_names}
use Rattle.fab_blif_models.proofs.Sets.{insert_of_names, map_drop_cons, twice_here, twice_later}
use Rattle.fab_blif_models.proofs.judging.names_twice.Goals as goal

pub returns-then-is_in_either : goal.returns-then-is_in_either
returns-then-is_in_either c =
    let seen : Bor (List ℕ) → List ℕ = λ w. w.now in
    let before = key_names c.args.before.now.keys in
    let done = key_names c.loop-name.seen.keys in
    let names = c.args.names.now in
    let i = c.loop-name.name-index in
    let none : Bor (List ℕ) = record { ref_ptr = (0, 0); now = [] } in
    let here = twice_here before done (seen (get_or names i none)) (map seen (drop (i + 1) names)) (sym c.is_in_either.ensures ∙ c.if-is_in_either.true) in
    sym here ∙ sym (ap (names_twice (before ++ done)) (map_drop_cons seen names i none c.loop-name-test.true)) ∙ c.loop-name.invariant

pub loop-name-preserved : goal.loop-name-preserved
loop-name-preserved c =
    let seen : Bor (List ℕ) → List ℕ = λ w. w.now in
    let before = key_names c.args.before.now.keys in
    let done = key_names c.loop-name.seen.keys in
    let names = c.args.names.now in
    let i = c.loop-name.name-index in
    let none : Bor (List ℕ) = record { ref_ptr = (0, 0); now = [] } in
    let rest = map seen (drop (i + 1) names) in
    let later = twice_later before done (seen (get_or names i none)) rest (sym c.is_in_either.ensures ∙ c.if-is_in_either.false) in
    let added = ap (key_names {A = Global}) c.in_ok-insert.ensures.keys ∙ insert_of_names c.loop-name.seen.keys c.in_ok-key.key ∙ ap (insert_key bytes_eq done) c.in_ok-key.ensures.items in
    ap (λ (keys : List (List ℕ)). names_twice (before ++ keys) rest) added ∙ sym later ∙ sym (ap (names_twice (before ++ done)) (map_drop_cons seen names i none c.loop-name-test.true)) ∙ c.loop-name.invariant
