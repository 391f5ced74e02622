use Rattle.std.proofs.Common.{◌≡◌, ℕ, ◌+◌, ◌-◌, ◌/◌, ◌≤◌, drop, length, take, arith, inl, inr, refl, ap, ◌∙◌, bit_and}
use Rattle.std.specs.Int.Bits.{and_self}
use Rattle.std.proofs.lemmas.Nat.{and_assoc, and_le_r}
use borrow.Rule.Slice.PartMut.{put_mid}
use Rattle.fab_wide.specs.inner.Words.{joined}
use Rattle.fab_wide.proofs.Blocks.{blocks_marked, first_of, marked_from}
use Rattle.fab_wide.proofs.marks.mark.Goals as goal

pub overflow_sub-free-2 : goal.overflow_sub-free-2
overflow_sub-free-2 c =
    let blocks = blocks_marked c.args.care c.args.value c.args.bits c.args.words.now c.requires.power c.requires.row c.if-words-le-BLOCK.false in
    omega (arith, blocks.row_within)

pub loop-above-init : goal.loop-above-init
loop-above-init c = record {
  free_alone = inl refl;
  so_far = (blocks_marked c.args.care c.args.value c.args.bits c.args.words.now c.requires.power c.requires.row c.if-words-le-BLOCK.false).none;
}

pub slice_bounds-join-end : goal.slice_bounds-join-end
slice_bounds-join-end c =
    let blocks = blocks_marked c.args.care c.args.value c.args.bits c.args.words.now c.requires.power c.requires.row c.if-words-le-BLOCK.false in
    let free : ℕ = length c.args.words.now / 64 - 1 - c.args.care / 64 in
    let next : ℕ = bit_and (c.loop-above.above - 1) free in
    let few : next ≤ free = and_le_r (c.loop-above.above - 1) free in
    omega (arith, blocks.within (next + 1) (omega (arith, few)), c.loop-above.auto.words)

pub loop-above-preserved : goal.loop-above-preserved
loop-above-preserved c =
    let blocks = blocks_marked c.args.care c.args.value c.args.bits c.args.words.now c.requires.power c.requires.row c.if-words-le-BLOCK.false in
    let free : ℕ = length c.args.words.now / 64 - 1 - c.args.care / 64 in
    let next : ℕ = bit_and (c.loop-above.above - 1) free in
    let first : ℕ = first_of c.args.value next in
    let few : first + 64 - first ≡ 64 = omega arith in
    record {
      free_alone = inr (and_assoc free (c.loop-above.above - 1) free ∙ ap (bit_and (c.loop-above.above - 1)) (and_self free));
      so_far =
          (λ j. put_mid first (few j) c.loop-above.words (c.join.ensures j))
          ∙ ap (λ n. put_mid first 64 c.loop-above.words (joined (take n (drop first c.loop-above.words)) c.mark_few-2.new.words)) few
          ∙ blocks.more c.loop-above.above c.loop-above.words c.mark_few-2.new.words c.loop-above-test.true c.loop-above.invariant.free_alone
          c.loop-above.invariant.so_far c.mark_few-2.ensures;
    }

pub returns : goal.returns
returns c =
    let blocks = blocks_marked c.args.care c.args.value c.args.bits c.args.words.now c.requires.power c.requires.row c.if-words-le-BLOCK.false in
    let none : c.loop-above.above ≡ 0 = omega (arith, c.loop-above-test.false) in
    c.loop-above.invariant.so_far
    ∙ ap (λ n. marked_from c.args.care c.args.value c.args.bits (first_of c.args.value n) c.args.words.now) none ∙ blocks.all
