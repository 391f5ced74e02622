-- Clocks that tick at once tick in turn.
use Rattle.std.proofs.Common.{◌≡◌, ℕ, Bool, true, false, ◌||◌, List, [], ◌∷◌, map, if◌then◌else◌, All, refl, sym, ap, ◌∙◌, subst}
use Rattle.fab_syntax.specs.Plain.{PlainModule}
use Rattle.fab_meaning.specs.Value.{value, bit_at}
use Rattle.fab_meaning.specs.Points.{Point, Driver, outside, copy, bit_of, flop, hold, Drives}
use Rattle.fab_meaning.specs.Settled.{Assignment, names_at}
use Rattle.fab_meaning.specs.Runs.{clock_of, is_clock, kept}
use Rattle.fab_meaning.specs.Sound.{DrivesOnce}
use Rattle.fab_meaning.specs.Activation.{State, tick, IsTick, IsStep, AreSteps}
use Rattle.fab_nested_laws.specs.Together.{is_among, kept_together, IsTickTogether, TogetherIsInTurn}
use Rattle.fab_nested_laws.proofs.Next.{next_state}

-- one clock more, before the others
one_more : (here among taken held : Bool) → (if here || among then taken else held) ≡ (if among then taken else (if here then taken else held))
one_more true true taken held = refl
one_more true false taken held = refl
one_more false among taken held = refl

no_more : (here taken held : Bool) → (if here || false then taken else held) ≡ (if here then taken else held)
no_more true taken held = refl
no_more false taken held = refl

module _ (text : List PlainModule) where
  -- one clock at once is one clock
  kept_alone : (clock : List ℕ) (held now : Assignment) (p : Point) (d : Driver) → kept_together text (clock ∷ []) held now p d ≡ kept text clock held now p d
  kept_alone clock held now p outside = refl
  kept_alone clock held now p (copy other) = refl
  kept_alone clock held now p (bit_of path e bit) = refl
  kept_alone clock held now p (flop path own next bit) =
      no_more (is_clock clock (clock_of text path own)) (bit_at (value (names_at text now path) next) bit) (held p)
  kept_alone clock held now p (hold path gate e bit) = refl

  -- the first of several clocks ticks, and then the others
  kept_first : (clock : List ℕ) (more : List (List ℕ)) (held between now : Assignment) (p : Point) (d : Driver) → between p ≡ kept text clock held now p d →
      kept_together text (clock ∷ more) held now p d ≡ kept_together text more between now p d
  kept_first clock more held between now p outside is = sym is
  kept_first clock more held between now p (copy other) is = sym is
  kept_first clock more held between now p (bit_of path e bit) is = sym is
  kept_first clock more held between now p (flop path own next bit) is =
      let here = is_clock clock (clock_of text path own) in
      let among = is_among more (clock_of text path own) in
      let taken = bit_at (value (names_at text now path) next) bit in
      one_more here among taken (held p) ∙ ap (λ v. if among then taken else v) (sym is)
  kept_first clock more held between now p (hold path gate e bit) is = refl

  -- the values are the same in both states
  kept_there : (clocks : List (List ℕ)) (held now last : Assignment) → ((q : Point) → now q ≡ last q) → (p : Point) (d : Driver) →
      kept_together text clocks held now p d ≡ kept_together text clocks held last p d
  kept_there clocks held now last same p d =
      let both : now ≡ last = λ j q. same q j in
      ap (λ (a : Assignment). kept_together text clocks held a p d) both

  alone_to_tick : (clock : List ℕ) (before after : State) → IsTickTogether text (clock ∷ []) before after → IsTick text clock before after
  alone_to_tick clock before after is =
      record { stays = is.stays; keeps = λ p d drives. is.keeps p d drives ∙ kept_alone clock before.held before.now p d }

  tick_to_alone : (clock : List ℕ) (before after : State) → IsTick text clock before after → IsTickTogether text (clock ∷ []) before after
  tick_to_alone clock before after is =
      record { stays = is.stays; keeps = λ p d drives. is.keeps p d drives ∙ sym (kept_alone clock before.held before.now p d) }

  module _ (clock : List ℕ) (more : List (List ℕ)) (before between after : State) (first : IsTick text clock before between) where
    kept_behind : (p : Point) (d : Driver) → Drives text p d →
        kept_together text (clock ∷ more) before.held before.now p d ≡ kept_together text more between.held between.now p d
    kept_behind p d drives =
        kept_first clock more before.held between.held before.now p d (first.keeps p d drives)
        ∙ kept_there more between.held before.now between.now (λ q. sym (first.stays q)) p d

    behind_first : IsTickTogether text (clock ∷ more) before after → IsTickTogether text more between after
    behind_first is = record {
      stays = λ p. is.stays p ∙ sym (first.stays p);
      keeps = λ p d drives. is.keeps p d drives ∙ kept_behind p d drives;
    }

    from_first : IsTickTogether text more between after → IsTickTogether text (clock ∷ more) before after
    from_first is = record {
      stays = λ p. is.stays p ∙ first.stays p;
      keeps = λ p d drives. is.keeps p d drives ∙ sym (kept_behind p d drives);
    }

  module _ (once : All (DrivesOnce text) text) where
    pub in_turn : (clock : List ℕ) (more : List (List ℕ)) (before after : State) → IsTickTogether text (clock ∷ more) before after →
        AreSteps (IsStep text) (map tick (clock ∷ more)) before after
    in_turn clock [] before after is = (after, alone_to_tick clock before after is, refl)
    in_turn clock (other ∷ more) before after is =
        let first = next_state text once before (tick clock) tt in
        (first.0, first.1, in_turn other more first.0 after (behind_first clock (other ∷ more) before first.0 after first.1 is))

  pub at_once : (clock : List ℕ) (more : List (List ℕ)) (before after : State) → AreSteps (IsStep text) (map tick (clock ∷ more)) before after →
      IsTickTogether text (clock ∷ more) before after
  at_once clock [] before after (between, first, same) = subst (IsTickTogether text (clock ∷ []) before) same (tick_to_alone clock before between first)
  at_once clock (other ∷ more) before after (between, first, steps) =
      from_first clock (other ∷ more) before between after first (at_once other more between after steps)

pub together_is_in_turn : TogetherIsInTurn
together_is_in_turn text once clock more before after = (in_turn text once clock more before after, at_once text clock more before after)
