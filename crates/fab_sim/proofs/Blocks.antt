-- Blocks of a stepper are blocks of the simulation for which it stands.
use Rattle.std.proofs.Common.{◌≡◌, ℕ, zero, suc, Vec, Global, ◌+◌, ◌-◌, ◌<◌, Bool, true, false, List, [], ◌∷◌, length, refl, sym, ap, ◌∙◌, subst, arith}
use Rattle.std.specs.Prelude.{◌↔◌, IsTrue}
use Rattle.std.specs.List.{All}
use Rattle.std.proofs.Common.{add_assoc}
use Rattle.rand_pcg.specs.Lcg.{Lcg}
use Rattle.fab_draws.specs.Draws.{after, behind, word_at}
use Rattle.fab_draws.specs.Shuffled.{shuffled}
use Rattle.fab_draws.proofs.Drawing.{words_behind}
use Rattle.fab_syntax.specs.Plain.{PlainModule}
use Rattle.fab_systems_laws.specs.Ternary.{no, yes, unknown, known}
use Rattle.fab_systems_laws.specs.Ternary.{Tern as PlainTern}
use Rattle.fab_meaning.specs.Sound.{PointsOfSoundTextsHaveOneDriver}
use Rattle.fab_state.specs.Plain.{PlainState}
use Rattle.fab_ternary.specs.declared.Tern.{Tern}
use Rattle.fab_ternary.specs.Terns.{is_known}
use Rattle.fab_equations.specs.Instances.{points}
use Rattle.fab_equations.proofs.Numbering.{some_there}
use Rattle.fab_equations.proofs.Points.{declared_are_points}
use Rattle.fab_network.specs.declared.network.Network.{Network}
use Rattle.fab_network.specs.Passes.{kept_tern}
use Rattle.fab_wiring.proofs.Solved.{is_point}
use Rattle.fab_stepping.specs.Activating.{AreActivated, AreApart, HasChanged}
use Rattle.fab_stepping.specs.Boards.{IsBoardOf}
use Rattle.fab_stepping.proofs.Standing.{activated_states, AreStepped}
use Rattle.fab_ordering_laws.specs.Ordered.{Moment, ChangesKnown, IsOrderedBlock}
use Rattle.fab_state_points.specs.Standing.{StandsAt}
use Rattle.fab_sim.specs.Making.{IsNetworkOf}
use Rattle.fab_sim.specs.Stepper.{AreFreeInputs, Stands}
use Rattle.fab_sim.specs.declared.stepper.Stepper.{Stepper}
use Rattle.fab_sim.proofs.Points.{number_declared}

-- ---- known values

pub one_bit : (a b : Bool) → known a ≡ known b → a ≡ b
one_bit true true e = refl
one_bit true false e = cc
one_bit false true e = cc
one_bit false false e = refl

known_value : (t : PlainTern) → is_known t ≡ true → (b : Bool) × (t ≡ known b)
known_value no e = (false, refl)
known_value yes e = (true, refl)
known_value unknown e = cc

pub known_is : (b : Bool) → is_known (known b) ≡ true
known_is true = refl
known_is false = refl

known_within : (terns : List Tern) (point : ℕ) → is_known (kept_tern terns point) ≡ true → point < length terns
known_within [] point e = cc
known_within (t ∷ terns) zero e = omega arith
known_within (t ∷ terns) (suc point) e = let less = known_within terns point e in omega (arith, less)

-- words behind others
pub words_later : (draws : ℕ → ℕ) (drawn more : ℕ) (random next : Lcg) → word_at random ≡ behind drawn draws → next ≡ after more random →
    word_at next ≡ behind (drawn + more) draws
words_later draws drawn more random next is drew =
    ap word_at drew ∙ words_behind more random ∙ ap (behind more) is ∙ (λ i place. draws (sym (add_assoc drawn more place) i))

-- ---- a block

module _ (text : List PlainModule) (state : PlainState) (draws : ℕ → ℕ) (one : PointsOfSoundTextsHaveOneDriver) (old new : Stepper) (before : Moment)
    (stands : Stands text state draws old before) (network_is : new.network ≡ old.network) (points_are : new.points ≡ old.points) (free_is : new.free ≡ old.free)
    (solution_is : new.solution ≡ old.solution)
    (order_is : new.order.items ≡ shuffled (length old.order.items) (word_at old.random) old.order.items) (order_long : length new.order.items ≡ length (points text)) (random_is : new.random ≡ after (length old.order.items - 1) old.random)
    (below : All (λ point. point < length (points text)) new.order.items) (apart : AreApart new.order.items)
    (board : IsBoardOf old.network new.board) (activated : AreActivated old.network new.order.items old.board new.board) where
  pub stepped : AreStepped text stands.network.sound one old.network stands.network.drives stands.network.long new.order.items before.standing new.board
  stepped =
      activated_states text stands.network.sound one old.network stands.network.drives stands.network.long new.order.items old.board new.board before.standing
      (λ k d l. let less = below k d l in let long = stands.network.long in omega (arith, less, long)) stands.board stands.standing activated

  abbrev pub after_block : Moment
  after_block = record {
    standing = stepped.last;
    solution = before.solution;
    order = new.order.items;
    drawn = before.drawn + (length before.order - 1);
  }

  pub is_block : IsOrderedBlock text draws before after_block
  is_block = record {
    order =
        order_is ∙ (λ i. shuffled (length (stands.order i)) (stands.drawn i) (stands.order i));
    drawn = refl;
    activated = stepped.activated;
    numbered = stepped.numbered;
    steps = stepped.steps;
    solution = refl;
  }

  pub stands_after : Stands text state draws new after_block
  stands_after = record {
    network = subst (IsNetworkOf text) (sym network_is) stands.network;
    once = stands.once;
    points_stand = subst (StandsAt text state) (sym points_are) stands.points_stand;
    board = subst (λ (n : Network). IsBoardOf n new.board) (sym network_is) board;
    standing = stepped.stands;
    solution_long = ap (λ (v : Vec Tern Global). length v.items) solution_is ∙ stands.solution_long;
    solution = λ number p at. ap (λ (v : Vec Tern Global). kept_tern v.items number) solution_is ∙ stands.solution number p at;
    order = refl;
    order_long = order_long;
    below = below;
    apart = apart;
    free = subst (λ (v : Vec Bool Global). AreFreeInputs text state v.items) (sym free_is) stands.free;
    drawn =
        words_later draws before.drawn (length before.order - 1) old.random new.random stands.drawn
        (random_is ∙ ap (λ (xs : List ℕ). after (length xs - 1) old.random) stands.order);
  }

  -- ---- what has changed

  changes_to : HasChanged old.solution.items old.board new.board → ChangesKnown text before after_block
  changes_to has =
      let less = known_within old.solution.items has.point has.is_known in
      let there = some_there (points text) has.point (omega (arith, less, stands.solution_long)) in
      let value = known_value (before.solution there.0) (ap is_known (sym (stands.solution has.point there.0 there.1)) ∙ has.is_known) in
      record {
        p = there.0;
        declared = number_declared text stands.network.sound has.point there.0 there.1;
        value = value.0;
        is_known = value.1;
        changed = λ same.
            has.changed (stepped.stands.shown has.point there.0 there.1 ∙ ap known same ∙ sym (stands.standing.shown has.point there.0 there.1));
      }

  changes_back : ChangesKnown text before after_block → HasChanged old.solution.items old.board new.board
  changes_back has =
      let there = is_point text has.p (declared_are_points text stands.network.sound has.p has.declared) in
      record {
        point = there.0;
        is_known = ap is_known (stands.solution there.0 has.p there.1 ∙ has.is_known) ∙ known_is has.value;
        changed = λ same.
            has.changed
            (one_bit (stepped.last.now has.p) (before.standing.now has.p)
            (sym (stepped.stands.shown there.0 has.p there.1) ∙ same ∙ stands.standing.shown there.0 has.p there.1));
      }

  pub told_so : (told : Bool) → (IsTrue told ↔ HasChanged old.solution.items old.board new.board) → IsTrue told ↔ ChangesKnown text before after_block
  told_so told tells = (λ t. changes_to (tells.0 t), λ has. tells.1 (changes_back has))
