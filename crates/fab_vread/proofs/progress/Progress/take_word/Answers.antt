use Rattle.std.proofs.Common.{◌≡◌, ◌<◌, true, length, sym, ap, ◌∙◌, arith}
use Rattle.std.specs.List.{list_all}
use Rattle.std.proofs.lemmas.Bool.{false≢true}
use Rattle.fab_tokens.specs.declared.scanner.Scan.{Scan}
use Rattle.fab_tokens.specs.declared.scanner.Scan.TheVariants as scans
use Rattle.fab_tokens.specs.Literals.{is_word_byte}
use Rattle.fab_vread.specs.inner.Machine.{read_from}
use Rattle.fab_vread.specs.inner.Progress.{plain_progress}
use Rattle.fab_vread.proofs.InWord.{word_taken}
use Rattle.fab_vread.proofs.progress.Progress.take_word.Goals as goal
use Rattle.fab_vread.proofs.progress.Progress.take_word.Goals.{in-Between, in_default}

pub returns-clause-read : goal.returns-clause-read
returns-clause-read c file =
    let p = plain_progress c.args.self.now in
    let word = c.split_at.result.0.now in
    let rest = c.split_at.result.1.now in
    let some : 0 < length word = grind (arith, c.is_empty.ensures, c.if-is_empty.false) in
    let all : list_all is_word_byte word ≡ true = ap (list_all is_word_byte) c.split_at.ensures.front ∙ c.word_len.ensures.word in
    let scan : c.put.new.slot ≡ scans.Word word = c.put.ensures ∙ ap scans.Word c.in_ok-word.ensures in
    elim c.match-matches.branch [
      | in-Between w ↦
          ap (read_from file p) c.split_at.ensures.by_index.0
          ∙ word_taken file p word rest w.in-Between.is some all
          ∙ ap (λ (s : Scan). read_from file (record p { scan = s; last = p.line }) rest) (sym scan)
      | in_default w ↦ absurd (false≢true (sym w.matches-is ∙ c.if-not-matches.false))
    ]
