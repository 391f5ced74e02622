-- Words whose bits are placed, in either mode told by their places in the fabric.
use Rattle.std.proofs.Common.{◌≡◌, ℕ, Bool, true, false, not, if◌then◌else◌, List, Option, Some, None, refl, sym, ap, ◌∙◌, subst}
use Rattle.fab_base.specs.declared.words.Reason.TheVariants as reasons
use Rattle.fab_model.specs.Grid.{PlainFabric}
use Rattle.fab_model.specs.Drive.{PlainBits}
use Rattle.fab_frames.specs.Positions.{bit_place, bit_in}
use Rattle.fab_frames.specs.Stream.{Part, fixed, of_row, of_chain, word_of, bit_placed_at, placed_word, has_spare, part_problem, problem_of}
use Rattle.fab_frames.specs.inner.Taking.{plain_part, placed_by, TakesBits, TakesWord}
use Rattle.fab_frames.specs.declared.positions.BitPlace.{BitPlace}
use Rattle.fab_frames.specs.declared.plan.Part.{Part as CodePart}
use Rattle.fab_frames.specs.declared.plan.Part.TheVariants as code_parts
use Rattle.fab_frames.proofs.Words.{placed_word_mapped, has_spare_mapped}

-- the word of a part is not the same for all configurations
abbrev pub PlacesBits : Part → Type 0
PlacesBits (fixed word) = ⊥
PlacesBits (of_row x y frame) = Unit {0}
PlacesBits (of_chain number) = Unit {0}

pub places_bits : (fabric : PlainFabric) (part : Part) (bit : ℕ) (at : BitPlace) → placed_by fabric part bit ≡ Some at → PlacesBits part
places_bits fabric (fixed word) bit at there = cc
places_bits fabric (of_row x y frame) bit at there = tt
places_bits fabric (of_chain number) bit at there = tt

-- its word has the bits that are placed, told by their places in the fabric,
pub word_by_places : (fabric : PlainFabric) (bits : PlainBits) (part : Part) → PlacesBits part → word_of fabric bits part ≡ placed_word (placed_by fabric part) (bit_in bits)
word_by_places fabric bits (fixed word) places = absurd places
word_by_places fabric bits (of_row x y frame) places = placed_word_mapped (bit_place x y) (bit_placed_at fabric x y frame) (bit_in bits)
word_by_places fabric bits (of_chain number) places = refl

-- and is refused for a spare bit alone
pub problem_by_places : (fabric : PlainFabric) (part : Part) (word : ℕ) → PlacesBits part → part_problem fabric part word ≡ (if has_spare (placed_by fabric part) word then Some reasons.SpareBit else None)
problem_by_places fabric (fixed expected) word places = absurd places
problem_by_places fabric (of_row x y frame) word places = ap (λ b. if b then Some reasons.SpareBit else None) (has_spare_mapped (bit_place x y) (bit_placed_at fabric x y frame) word)
problem_by_places fabric (of_chain number) word places = refl

-- ---- in the code

pub no_fixed_part : (part : CodePart) → ((word : ℕ) → part ≡ code_parts.Fixed word → ⊥) → PlacesBits (plain_part part)
no_fixed_part (code_parts.Fixed word) other = other word refl
no_fixed_part (code_parts.Row x y frame) other = tt
no_fixed_part (code_parts.Chain number) other = tt

problem_is : (fabric : PlainFabric) (part : Part) (given : Option ℕ) (word : ℕ) (fine spare : Bool) → PlacesBits part → given ≡ Some word → fine ≡ not (has_spare (placed_by fabric part) word) → fine ≡ not spare →
    problem_of fabric (Some part) given ≡ (if spare then Some reasons.SpareBit else None)
problem_is fabric part given word fine spare places given_is told is =
    let spares : has_spare (placed_by fabric part) word ≡ spare = same_truth (has_spare (placed_by fabric part) word) spare (sym told ∙ is) in
    ap (problem_of fabric (Some part)) given_is ∙ problem_by_places fabric part word places ∙ ap (λ b. if b then Some reasons.SpareBit else None) spares
  where
    same_truth : (first second : Bool) → not first ≡ not second → first ≡ second
    same_truth true true is = refl
    same_truth true false is = cc
    same_truth false true is = cc
    same_truth false false is = refl

pub fine_word : (fabric : PlainFabric) (part : Part) (given : Option ℕ) (word : ℕ) (fine : Bool) → PlacesBits part → given ≡ Some word → fine ≡ not (has_spare (placed_by fabric part) word) → fine ≡ true →
    problem_of fabric (Some part) given ≡ None
fine_word fabric part given word fine places given_is told is = problem_is fabric part given word fine false places given_is told is

pub spare_word : (fabric : PlainFabric) (part : Part) (given : Option ℕ) (word : ℕ) (fine : Bool) → PlacesBits part → given ≡ Some word → fine ≡ not (has_spare (placed_by fabric part) word) → fine ≡ false →
    problem_of fabric (Some part) given ≡ Some reasons.SpareBit
spare_word fabric part given word fine places given_is told is = problem_is fabric part given word fine true places given_is told is

takes_there : (fabric : PlainFabric) (part : Part) (word : ℕ) (old new : List (List (List Bool))) → PlacesBits part → TakesBits (placed_by fabric part) word old new → TakesWord fabric part (Some word) old new
takes_there fabric (fixed expected) word old new places takes = absurd places
takes_there fabric (of_row x y frame) word old new places takes = takes
takes_there fabric (of_chain number) word old new places takes = takes

pub takes_word : (fabric : PlainFabric) (part : Part) (given : Option ℕ) (word : ℕ) (old new : List (List (List Bool))) → PlacesBits part → given ≡ Some word → TakesBits (placed_by fabric part) word old new →
    TakesWord fabric part given old new
takes_word fabric part given word old new places given_is takes = subst (λ (o : Option ℕ). TakesWord fabric part o old new) (sym given_is) (takes_there fabric part word old new places takes)
