-- How a stepper goes through blocks and cycles, one after the other.
use Rattle.std.proofs.Common.{◌≡◌, ◌+◌, ◌-◌, ℕ, suc, Bool, List, [], ◌∷◌, ◌++◌, length, map, refl, sym, ◌∙◌, subst, append_assoc, append-nil}
use Rattle.std.proofs.lemmas.List.{map-append}
use Rattle.fab_syntax.specs.Plain.{PlainModule}
use Rattle.fab_systems_laws.specs.Ternary.{Tern, known}
use Rattle.fab_state.specs.Plain.{PlainState}
use Rattle.fab_equations.specs.Instances.{points}
use Rattle.fab_sim.specs.fab_ordering_laws_Ordered.{AreOrderedBlocks, AreOrderedCycles, ChangesKnown, IsOrderedBlock, Moment, after, enough, last, more, none}
use Rattle.fab_sim.specs.declared.stepper.Stepper.{Stepper}
use Rattle.fab_sim.specs.Stepper.{Stands}
use Rattle.fab_simulate_command.specs.inner.Going.{HasCycled, HasGoneInOrder}

-- A stepper has made blocks, and so many are left.
pub record HasMade (text : List PlainModule) (state : PlainState) (draws : ℕ → ℕ) (stepper : Stepper) (left : ℕ) (before : Moment) : Type 0 where
  pub now : Moment
  pub stands : Stands text state draws stepper now
  pub on : (end : Moment) → AreOrderedBlocks text draws left now end → AreOrderedBlocks text draws (1 + length (points text)) before end

module _ (text : List PlainModule) (state : PlainState) (draws : ℕ → ℕ) where
  -- where none is made, one more is left than there are points
  pub none_made : (stepper : Stepper) (left : ℕ) (before : Moment) → left ≡ 1 + length (points text) → Stands text state draws stepper before → HasMade text state draws stepper left before
  none_made stepper left before left_is stands =
      record { now = before; stands = stands; on = λ end blocks. subst (λ n. AreOrderedBlocks text draws n before end) left_is blocks }

  -- one more that changed a known point
  pub one_made : (stepper next : Stepper) (left fewer : ℕ) (before between : Moment) (made : HasMade text state draws stepper left before) → left ≡ suc fewer →
      IsOrderedBlock text draws made.now between → ChangesKnown text made.now between → Stands text state draws next between → HasMade text state draws next fewer before
  one_made stepper next left fewer before between made left_is block changes stands = record {
    now = between;
    stands = stands;
    on = λ end blocks. made.on end (subst (λ n. AreOrderedBlocks text draws n made.now end) (sym left_is) (more block changes blocks));
  }

  -- the last one, which changed none
  pub last_made : (stepper : Stepper) (left fewer : ℕ) (before end : Moment) (made : HasMade text state draws stepper left before) → left ≡ suc fewer →
      IsOrderedBlock text draws made.now end → (ChangesKnown text made.now end → ⊥) → AreOrderedBlocks text draws (1 + length (points text)) before end
  last_made stepper left fewer before end made left_is block changes =
      made.on end (subst (λ n. AreOrderedBlocks text draws n made.now end) (sym left_is) (last block changes))

  -- or no more may be made
  pub all_made : (stepper : Stepper) (left : ℕ) (before : Moment) (made : HasMade text state draws stepper left before) → left ≡ 0 →
      AreOrderedBlocks text draws (1 + length (points text)) before made.now
  all_made stepper left before made left_is = made.on made.now (subst (λ n. AreOrderedBlocks text draws n made.now made.now) (sym left_is) enough)

-- A stepper has gone through cycles that showed `done`, and goes on through the lines that are left.
pub record HasStepped (text : List PlainModule) (state : PlainState) (draws : ℕ → ℕ) (stepper : Stepper) (start : Moment) (lines left : List (List Bool)) (done : List (List Tern)) : Type 0 where
  pub bits : List (List Bool)
  pub known_is : done ≡ map (map known) bits
  pub now : Moment
  pub stands : Stands text state draws stepper now
  pub on : (later : List (List Bool)) (end : Moment) → AreOrderedCycles text state draws now left later end → AreOrderedCycles text state draws start lines (bits ++ later) end

module _ (text : List PlainModule) (state : PlainState) (draws : ℕ → ℕ) (start : Moment) (lines : List (List Bool)) where
  pub none_stepped : (stepper : Stepper) → Stands text state draws stepper start → HasStepped text state draws stepper start lines lines []
  none_stepped stepper stands = record { bits = []; known_is = refl; now = start; stands = stands; on = λ later end cycles. cycles }

  -- one cycle more
  pub one_stepped : (stepper next : Stepper) (values : List Bool) (left : List (List Bool)) (done : List (List Tern)) (shown : List Tern)
      (stepped : HasStepped text state draws stepper start lines (values ∷ left) done) → HasCycled text state draws values shown stepped.now next →
      HasStepped text state draws next start lines left (done ++ shown ∷ [])
  one_stepped stepper next values left done shown stepped cycled = record {
    bits = stepped.bits ++ cycled.bits ∷ [];
    known_is =
        (λ j. stepped.known_is j ++ cycled.known_is j ∷ []) ∙ sym (map-append (map known) stepped.bits (cycled.bits ∷ []));
    now = cycled.next;
    stands = cycled.stands;
    on = λ later end cycles.
        subst (λ (bits : List (List Bool)). AreOrderedCycles text state draws start lines bits end) (sym (append_assoc stepped.bits (cycled.bits ∷ []) later))
        (stepped.on (cycled.bits ∷ later) end (after cycled.cycle cycles));
  }

  -- where no line is left, all cycles are gone through
  pub all_stepped : (stepper : Stepper) (done : List (List Tern)) → HasStepped text state draws stepper start lines [] done → HasGoneInOrder text state draws start lines done
  all_stepped stepper done stepped = record {
    bits = stepped.bits;
    known_is = stepped.known_is;
    last = stepped.now;
    cycles = subst (λ (bits : List (List Bool)). AreOrderedCycles text state draws start lines bits stepped.now) (append-nil stepped.bits) (stepped.on [] stepped.now none);
  }
