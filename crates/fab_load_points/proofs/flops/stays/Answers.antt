use Rattle.std.proofs.Common.{rules, ◌≡◌, Bool, true, false, Some, length, slice_index_or, slice_get, sym, ap, ◌∙◌, subst, arith}
use Rattle.std.proofs.lemmas.Option.{slice_get_within, slice_get-get_or}
use Rattle.fab_syntax.specs.Plain.{PlainExpr, plain_text}
use Rattle.fab_meaning.specs.Points.{Path}
use Rattle.fab_meaning.specs.Reads.{expression_reads}
use Rattle.fab_equations.specs.Instances.{points}
use Rattle.fab_equations.specs.Equations.{IsSource}
use Rattle.fab_load_points.specs.inner.Causes.{AreReads}
use Rattle.fab_load_points.specs.inner.Search.{told}
use Rattle.fab_load_points.proofs.Rounds.{AllInside, inside_more, read_there, read_within, read_beyond}
use Rattle.fab_load_points.proofs.flops.stays.Goals as goal

pub is_inside-requires-clause-name : goal.is_inside-requires-clause-name
is_inside-requires-clause-name c =
    let text = plain_text c.args.equations.now in
    let l = c.requires.flop in
    let numbers = c.deref-read-items.result.now in
    let k = c.loop-read.read-index in
    let n = slice_index_or numbers k 0 in
    let all : AreReads text (expression_reads text l.path l.next) numbers =
    subst (AreReads text (expression_reads text l.path l.next)) (sym c.deref-read-items.ensures.value) (c.in_ok-reads.ensures l.path l.next l.source) in
    let found = read_there text c.requires.sound (expression_reads text l.path l.next) numbers all k n (slice_get-get_or numbers k 0 c.loop-read-test.true) in
    slice_get_within (points text) n found.0 found.1.is

pub returns-then-not-branch-clause-looks : goal.returns-then-not-branch-clause-looks
returns-then-not-branch-clause-looks c scene s =
    let text = plain_text c.args.equations.now in
    let l = c.requires.flop in
    let numbers = c.deref-read-items.result.now in
    let k = c.loop-read.read-index in
    let n = slice_index_or numbers k 0 in
    let all : (path : Path) (e : PlainExpr) → IsSource text c.args.flop.next path e → AreReads text (expression_reads text path e) numbers =
    λ path e source. subst (AreReads text (expression_reads text path e)) (sym c.deref-read-items.ensures.value) (c.in_ok-reads.ensures path e source) in
    let at : slice_get numbers k ≡ Some n = slice_get-get_or numbers k 0 c.loop-read-test.true in
    let found = read_there text c.requires.sound (expression_reads text l.path l.next) numbers (all l.path l.next l.source) k n at in
    let after = c.in_ok-is_inside.ensures.told scene found.0 found.1 (c.loop-read.invariant.search scene s).0 in
    let refused : c.in_ok-is_inside.field-0 ≡ false = search rules in (
      after.0,
      read_beyond text c.requires.sound scene c.is_inside.new.self.statuses.items after.0 c.args.flop numbers all k n at (after.1 ∙ ap (λ (b : Bool). Some (told b)) refused),
    )

pub loop-read-preserved : goal.loop-read-preserved
loop-read-preserved c =
    let text = plain_text c.args.equations.now in
    let l = c.requires.flop in
    let numbers = c.deref-read-items.result.now in
    let k = c.loop-read.read-index in
    let n = slice_index_or numbers k 0 in
    let all : AreReads text (expression_reads text l.path l.next) numbers =
    subst (AreReads text (expression_reads text l.path l.next)) (sym c.deref-read-items.ensures.value) (c.in_ok-reads.ensures l.path l.next l.source) in
    let at : slice_get numbers k ≡ Some n = slice_get-get_or numbers k 0 c.loop-read-test.true in
    let found = read_there text c.requires.sound (expression_reads text l.path l.next) numbers all k n at in
    let passed : c.in_ok-is_inside.field-0 ≡ true = search rules in
    record {
      long = c.in_ok-is_inside.ensures.long ∙ c.loop-read.invariant.long;
      rest = c.in_ok-is_inside.ensures.rest;
      search = λ scene s.
          let before = c.loop-read.invariant.search scene s in
          let after = c.in_ok-is_inside.ensures.told scene found.0 found.1 before.0 in (
            after.0,
            inside_more text scene.all numbers k n before.1 at (λ p stands. after.0.inside n p stands (after.1 ∙ ap (λ (b : Bool). Some (told b)) passed)),
          );
    }

pub returns-clause-looks : goal.returns-clause-looks
returns-clause-looks c scene s =
    let text = plain_text c.args.equations.now in
    let numbers = c.deref-read-items.result.now in
    let all : (path : Path) (e : PlainExpr) → IsSource text c.args.flop.next path e → AreReads text (expression_reads text path e) numbers =
    λ path e source. subst (AreReads text (expression_reads text path e)) (sym c.deref-read-items.ensures.value) (c.in_ok-reads.ensures path e source) in
    let before = c.loop-read.invariant.search scene s in
    let inside : AllInside text scene.all numbers (length numbers) = λ k n below at p stands. before.1 k n (omega (arith, below, c.loop-read-test.false)) at p stands in
    (before.0, read_within text c.requires.sound scene c.loop-read.search.statuses.items before.0 c.args.flop numbers all inside)
