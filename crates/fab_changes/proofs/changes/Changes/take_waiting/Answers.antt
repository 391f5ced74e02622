use Rattle.std.proofs.Common.{ℕ, List, length, subst}
use Rattle.fab_network.specs.Passes.{IsListed}
use Rattle.fab_changes.specs.inner.Looking.{HaveTaken}
use Rattle.fab_changes.proofs.Noted.{all_taken}
use Rattle.fab_changes.proofs.changes.Changes.take_waiting.Goals as goal

pub take_given-requires-clause-within : goal.take_given-requires-clause-within
take_given-requires-clause-within c place listed = c.requires.within place (subst (λ (xs : List ℕ). IsListed xs place) c.deref.ensures.value listed)

pub take_given-requires-else-self-clause-within : goal.take_given-requires-else-self-clause-within
take_given-requires-else-self-clause-within c place listed =
    c.requires.within place
    (c.requires.waiting.among place (subst (λ (xs : List ℕ). IsListed xs place) c.deref-else-self.ensures.value listed))

pub returns-else-self-clause-taken : goal.returns-else-self-clause-taken
returns-else-self-clause-taken c =
    let old = c.args.demand.now in
    let mid = c.take_given-else-self.new.demand in
    let waiting = c.args.self.now.waiting.items in
    let have : HaveTaken waiting (length waiting) c.args.given.now old mid =
    subst (λ (xs : List ℕ). HaveTaken xs (length xs) c.args.given.now old mid) c.deref-else-self.ensures.value c.take_given-else-self.ensures.taken in
    all_taken c.args.self.now c.args.given.now old mid c.requires.waiting c.requires.has c.if-self.false have
