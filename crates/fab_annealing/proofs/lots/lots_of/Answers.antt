use Rattle.std.proofs.Common.{◌≡◌, ◌<◌, ◌+◌, ◌*◌, ◌++◌, ◌∷◌, [], ℕ, List, length, refl, sym, ◌∙◌, ap, subst, arith, length-set}
use Rattle.std.proofs.lemmas.Bool.{false≢true}
use Rattle.std.specs.List.{All, slice_get}
use Rattle.fab_annealing.specs.Measured.{numbers_of}
use Rattle.fab_annealing.specs.Boards.{site_count, is_second, column, row}
use Rattle.fab_annealing.specs.inner.Standing.{lot_number}
use Rattle.fab_annealing.proofs.Kept.{numbers_read}
use Rattle.fab_annealing.proofs.Filling.{sound_more, whole_more, whole_past}
use Rattle.fab_annealing.proofs.lots.lots_of.Goals as goal

pub loop-site-init : goal.loop-site-init
loop-site-init c = record {
  count = c.in_ok-lots.ensures.len;
  sound = λ number. subst (λ (ns : List ℕ). All (λ site. (site < site_count c.args.board.now) × (is_second c.args.board.now site ≡ c.args.second)) ns) (sym (c.in_ok-lots.ensures.empty number)) (λ k d low. absurd (omega (arith, low)));
  whole = λ site low. absurd (omega (arith, low));
}

pub loop-site-preserved : goal.loop-site-preserved
loop-site-preserved c =
    let board = c.args.board.now in
    let lots = c.loop-site.lots.items in
    let k = c.column.result * 32 + c.row.result in
    let site = c.loop-site.site in
    let inv = c.loop-site.invariant in
    let low : k < length lots = omega (arith, inv.count, c.column.ensures.near, c.row.ensures.near) in
    let inside : site < site_count board = omega (arith, c.loop-site-test.true, c.sites-site-end.ensures) in
    let kind : is_second board site ≡ c.args.second = c.if-not-is_of.ensures.0 refl in
    let more : c.push.new.self.items ≡ numbers_of (slice_get lots k) ++ site ∷ [] = c.in_ok-push.ensures.items ∙ ap (λ (ns : List ℕ). ns ++ site ∷ []) (numbers_read lots k c.index_mut.result.now low c.index_mut.ensures.value) in
    let number : k ≡ lot_number (column board site) (row board site) = omega (arith, c.column.ensures.value, c.row.ensures.value) in
    record {
      count = length-set lots k c.push.new.self ∙ inv.count;
      sound = sound_more board c.args.second lots k site c.push.new.self low more inv.sound inside kind;
      whole = whole_more board c.args.second lots k site c.push.new.self low more number inv.whole;
    }

pub loop-site-preserved-then-not-is_of : goal.loop-site-preserved-then-not-is_of
loop-site-preserved-then-not-is_of c =
    let inv = c.loop-site.invariant in
    record {
      count = inv.count;
      sound = inv.sound;
      whole = whole_past c.args.board.now c.args.second c.loop-site.lots.items c.loop-site.site (λ e. false≢true (c.if-not-is_of.ensures.1 e)) inv.whole;
    }
