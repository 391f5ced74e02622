use Rattle.std.proofs.Common.{rules, ◌≡◌, ℕ, ◌-◌, ◌^◌, true, false, length, map, Vec, Global, refl, sym, ap, ◌∙◌}
use Rattle.fab_netlist.specs.Wide.{rows_say}
use Rattle.fab_wide.proofs.Joined.{all_spell, all_words, words_by}
use Rattle.fab_wide.proofs.Marked.{table_off, table_on, written_back}
use Rattle.fab_wide.proofs.words.words_of.Goals as goal
use Rattle.fab_wide.proofs.words.words_of.Goals.{then-not-cover, else-not-cover}

table : (c : goal.Joined-not-cover) →
    c.if-not-cover.words.items ≡ words_by (2 ^ (length c.args.cover.now.inputs - 4)) (rows_say c.args.cover.now.on c.args.cover.now.rows)
table c = elim c.if-not-cover.branch [
  | then-not-cover w ↦ (
      let old = w.deref_mut.result.now in
      let on : c.args.cover.now.on ≡ false = search rules in
      let covered = w.deref_mut.ensures.value ∙ c.in_ok-words.ensures in
      ap (λ (v : Vec ℕ Global). v.items) w.words-is
      ∙ written_back c.in_ok-words.words.len c.in_ok-words.words.items w.turn_over.new.words
      (sym (ap length w.deref_mut.ensures.value) ∙ w.deref_mut.ensures.len)
      (w.turn_over.auto.words ∙ ap length w.deref_mut.ensures.value)
      ∙ w.turn_over.ensures ∙ ap (map (λ word. 65535 - word)) covered
      ∙ table_off c.args.cover.now.on c.args.cover.now.rows (2 ^ (length c.args.cover.now.inputs - 4)) on)
  | else-not-cover w ↦ (
      let on : c.args.cover.now.on ≡ true = search rules in
      ap (λ (v : Vec ℕ Global). v.items) w.words-is ∙ c.in_ok-words.ensures
      ∙ table_on c.args.cover.now.on c.args.cover.now.rows (2 ^ (length c.args.cover.now.inputs - 4)) on)
]

pub returns-clause-words : goal.returns-clause-words
returns-clause-words c =
    all_words (length c.args.cover.now.inputs) (2 ^ (length c.args.cover.now.inputs - 4)) (rows_say c.args.cover.now.on c.args.cover.now.rows)
    c.if-not-cover.words.items (table c) refl

pub returns-clause-table : goal.returns-clause-table
returns-clause-table c =
    all_spell (length c.args.cover.now.inputs) (2 ^ (length c.args.cover.now.inputs - 4)) (rows_say c.args.cover.now.on c.args.cover.now.rows)
    c.if-not-cover.words.items (table c) refl
