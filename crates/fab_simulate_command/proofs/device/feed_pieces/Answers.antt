use Rattle.std.proofs.Common.{◌≡◌, ◌+◌, ◌++◌, ℕ, List, [], length, sym, ap, ◌∙◌, subst, arith, append_assoc, append-nil, length-append}
use Rattle.std.proofs.lemmas.List.{nil_from_length}
use Rattle.std.specs.Slice.Iter.{chunks_rest}
use Rattle.fab_vread.specs.Pieces.{HasRead}
use Rattle.fab_simulate_command.proofs.device.feed_pieces.Goals as goal

pub loop-piece-preserved : goal.loop-piece-preserved
loop-piece-preserved c =
    let so_far = c.loop-piece.invariant in
    let room = so_far.0 in
    let done = so_far.1 in
    let piece = c.in-Some.piece.now in
    let left = chunks_rest c.next.new.self in
    let parted : chunks_rest c.loop-piece.piece-iterator ≡ piece ++ left = c.in-Some.ensures.steps.1.0 in
    let long = ap length parted ∙ length-append piece left in
    let counted = c.in_ok-feed.ensures.counted in (
      omega (arith, room, long, counted),
      done ++ piece,
      append_assoc done piece left ∙ ap (λ (rest : List ℕ). done ++ rest) (sym parted) ∙ so_far.2,
      λ file before has. subst (λ (bytes : List ℕ). HasRead file bytes c.feed.new.self) (append_assoc before done piece) (c.in_ok-feed.ensures.read file (before ++ done) (so_far.3 file before has)),
    )

pub returns-clause-read : goal.returns-clause-read
returns-clause-read c =
    let so_far = c.loop-piece.invariant in
    let done = so_far.1 in
    let none : chunks_rest c.loop-piece.piece-iterator ≡ [] = nil_from_length (chunks_rest c.loop-piece.piece-iterator) c.in-None.ensures.steps.1.0 in
    let all : done ≡ c.args.bytes.now = sym (append-nil done) ∙ ap (λ (rest : List ℕ). done ++ rest) (sym none) ∙ so_far.2 in
    λ file before has. subst (λ (bytes : List ℕ). HasRead file (before ++ bytes) c.loop-piece.reader) all (so_far.3 file before has)
