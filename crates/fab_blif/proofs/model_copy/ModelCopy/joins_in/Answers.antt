use Rattle.std.proofs.Common.{◌+◌, ◌∙◌, sym, ap, List, ℕ, drop, get_or, filter_map, option_to_list}
use Rattle.std.specs.Str.{bytes_eq}
use Rattle.std.proofs.lemmas.List.{at_drop_more}
use Rattle.indexmap.specs.IndexMap.{insert_all}
use Rattle.fab_blif.specs.Flat.{join_in, PlainNet}
use Rattle.fab_blif.specs.inner.Walk.{plain_joins}
use Rattle.fab_blif.proofs.Joins.{word_joined}
use Rattle.fab_blif.proofs.model_copy.ModelCopy.joins_in.Goals as goal

pub loop-word-preserved : goal.loop-word-preserved
loop-word-preserved c =
    let joins = join_in c.args.self.now in
    let words = c.args.words.now in
    let at = c.loop-word.word-index in
    let word = c.word-item.result in
    let old = plain_joins c.loop-word.joins.entries in
    let rest = filter_map joins (drop (at + 1) words) in
    ap (λ (list : List (List ℕ × PlainNet)). insert_all bytes_eq list rest)
    (c.in_ok-join.ensures ∙ ap (λ (w : List ℕ). insert_all bytes_eq old (option_to_list (joins w))) (c.bytes.ensures ∙ c.word-item.is))
    ∙ sym (word_joined old (joins (get_or words at word)) rest)
    ∙ sym (at_drop_more (λ (list : List (List ℕ)). insert_all bytes_eq old (filter_map joins list)) words at word c.loop-word-test.true)
    ∙ c.loop-word.invariant
