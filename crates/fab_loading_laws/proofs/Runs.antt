-- What words leave that come one a tick, and where others follow them.
use Rattle.std.proofs.Common.{◌≡◌, ℕ, Bool, true, List, [], ◌∷◌, ◌++◌, refl}
use Rattle.fab_gen_loader.specs.Machine.{Machine, Word, tick}
use Rattle.fab_loading_laws.specs.Latches.{LatchPlace, latch_shows}

-- ---- words, one a tick

abbrev pub after_words : (rows : ℕ) → Machine → List Word → Machine
after_words rows machine [] = machine
after_words rows machine (word ∷ words) = after_words rows (tick rows machine true word) words

abbrev pub latch_after_words : (rows : ℕ) → Machine → LatchPlace → (held : Bool) → List Word → Bool
latch_after_words rows machine place held [] = held
latch_after_words rows machine place held (word ∷ words) =
    latch_after_words rows (tick rows machine true word) place (latch_shows machine place held) words

-- ---- some words and others

pub after_both : (rows : ℕ) (machine : Machine) (first second : List Word) → after_words rows machine (first ++ second) ≡ after_words rows (after_words rows machine first) second
after_both rows machine [] second = refl
after_both rows machine (word ∷ first) second = after_both rows (tick rows machine true word) first second

pub latch_after_both : (rows : ℕ) (machine : Machine) (place : LatchPlace) (held : Bool) (first second : List Word) →
    latch_after_words rows machine place held (first ++ second) ≡ latch_after_words rows (after_words rows machine first) place (latch_after_words rows machine place held first) second
latch_after_both rows machine place held [] second = refl
latch_after_both rows machine place held (word ∷ first) second = latch_after_both rows (tick rows machine true word) place (latch_shows machine place held) first second
