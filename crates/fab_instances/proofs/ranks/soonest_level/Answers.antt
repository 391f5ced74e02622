use Rattle.std.proofs.Common.{◌≡◌, ◌∙◌, ℕ, Bor, false, true, ap, arith, length, map, option_map, rules, sym}
use Rattle.std.proofs.lemmas.List.{length-map}
use Rattle.fab_base.specs.declared.name.Name.{Name}
use Rattle.fab_blif_models.specs.Plain.{plain_model, plain_models, plain_statement}
use Rattle.fab_instances.specs.inner.Ranks.{level_in}
use Rattle.fab_instances.specs.Uses.{soonest_of}
use Rattle.fab_bits.specs.Keys.{key_names}
use Rattle.fab_instances.proofs.Levels.{levels_done, levels_more, levels_skipped}
use Rattle.fab_instances.proofs.Searching.{lines_here}
use Rattle.fab_instances.proofs.ranks.soonest_level.Goals as goal

pub loop-place-preserved-then-not-is_marked : goal.loop-place-preserved-then-not-is_marked
loop-place-preserved-then-not-is_marked c =
    let unmarked : c.is_marked.result ≡ false = search rules in
    levels_skipped (plain_models c.args.models.now) c.args.ranks.now c.args.used.now c.loop-place.place _ c.requires.used (sym c.is_marked.ensures ∙ unmarked) c.loop-place.invariant

pub loop-place-preserved : goal.loop-place-preserved
loop-place-preserved c =
    let models = plain_models c.args.models.now in
    let place = c.loop-place.place in
    let marked : c.is_marked.result ≡ true = search rules in
    let lines = lines_here c.args.models.now place c.index-models-place.result c.loop-place-test.true c.index-models-place.is in
    levels_more models c.args.ranks.now (key_names c.args.places.now.keys) c.requires.places place ((c.requires.used place).0 (sym c.is_marked.ensures ∙ marked)) _ _ _
    (sym lines) (c.soonest_level_in-found.ensures ∙ ap (λ (rank : ℕ). soonest_of (level_in (key_names c.args.places.now.keys) c.args.ranks.now rank) (option_map (λ (found : ℕ × Bor Name). (found.0, found.1.now)) c.loop-place.found) (map plain_statement c.index-models-place.result.statements.items)) c.rank_at.ensures)
    c.loop-place.invariant

pub returns : goal.returns
returns c =
    let models = plain_models c.args.models.now in
    let count : length c.args.models.now ≡ length models = sym (length-map c.args.models.now plain_model) in
    let all : c.loop-place.place ≡ length models = omega (arith, count) in
    levels_done models c.args.ranks.now c.args.used.now c.loop-place.place _ (c.requires.size ∙ count) c.requires.used all c.loop-place.invariant
