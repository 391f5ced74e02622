-- The least solution of a board.
use Rattle.std.proofs.Common.{◌≡◌, ℕ, ◌+◌, ◌<◌, true, List, Option, Some, length, refl, sym, ap, ◌∙◌, subst, inl, inr, arith, slice_index, slice_set}
use Rattle.std.specs.List.{slice_get}
use Rattle.std.proofs.lemmas.Bool.{cases_eq}
use Rattle.fab_equations.proofs.Numbering.{some_there}
use Rattle.fab_systems_laws.specs.Ternary.{IsBelow}
use Rattle.fab_systems_laws.specs.Ternary.{Tern as PlainTern}
use Rattle.fab_systems_laws.proofs.Order.{below_self, below_equal}
use Rattle.fab_ternary.specs.declared.Tern.{Tern}
use Rattle.fab_ternary.specs.Terns.{is_known, plain_tern}
use Rattle.fab_compiled.specs.Terns.{seen}
use Rattle.fab_compiled.specs.Leading.{PointTerns, AreAbove}
use Rattle.fab_network.specs.declared.network.Drive.{Drive}
use Rattle.fab_network.specs.declared.network.Drive.TheVariants.{Given, Flop, Same, Value, Hold}
use Rattle.fab_network.specs.declared.network.Network.{Network}
use Rattle.fab_network.specs.Network.{drive_tern}
use Rattle.fab_network.specs.Passes.{kept_tern, shows, AreBacked, AreOwn, AreRising, AreSolved, StaysBelow}
use Rattle.fab_network.specs.Solved.{asked_by, IsLeast, Solves}
use Rattle.fab_network.proofs.Kept.{known_below}
use Rattle.fab_wiring.specs.Given.{given_at}
use Rattle.fab_stepping.specs.declared.board.Board.{Board}
use Rattle.fab_stepping.specs.Boards.{begun_by, given_on, shown_on, AreKnown, IsBegun, IsBoardOf}
use Rattle.fab_stepping.proofs.Reading.{board_shown, leads_seen, written, not_written}

module _ (network : Network) (board : Board) (is : IsBoardOf network board) (begun : List Tern) (begins : IsBegun network board begun) where
  abbrev drives : List Drive
  drives = network.drives.items

  abbrev leads : List ℕ
  leads = board.leads.items

  abbrev held_at : ℕ → PlainTern
  held_at = kept_tern board.held.items

  own : (point : ℕ) → point < length drives → slice_index leads point ≡ point
  own = is.leads.own

  in_drives : (point : ℕ) → point < length leads → point < length drives
  in_drives point l = omega (arith, is.leads.long)

  seen_so : (terns : List Tern) (point : ℕ) → point < length drives → seen terns leads point ≡ kept_tern terns point
  seen_so terns = leads_seen (length drives) leads terns is.leads

  pub own_order : AreOwn leads leads
  own_order place l =
      let here = own place (in_drives place l) in
      (omega (arith, here), ap (slice_index leads) here)

  -- ---- at first

  backed_at : (point : ℕ) → point < length drives → (drive : Drive) → slice_get drives point ≡ Some drive →
      IsBelow (seen begun leads point) (drive_tern network.trees.items (held_at point) (seen begun leads) point (Some drive))
  backed_at point l Given at = below_self (seen begun leads point)
  backed_at point l (Flop clock next) at = below_self (seen begun leads point)
  backed_at point l (Same other) at = subst (λ (t : PlainTern). IsBelow t (seen begun leads other)) (sym (seen_so begun point l ∙ begins.begun point (Same other) at)) tt
  backed_at point l (Value source) at =
      subst (λ (t : PlainTern). IsBelow t (drive_tern network.trees.items (held_at point) (seen begun leads) point (Some (Value source))))
      (sym (seen_so begun point l ∙ begins.begun point (Value source) at)) tt
  backed_at point l (Hold gate latched) at =
      subst (λ (t : PlainTern). IsBelow t (drive_tern network.trees.items (held_at point) (seen begun leads) point (Some (Hold gate latched))))
      (sym (seen_so begun point l ∙ begins.begun point (Hold gate latched) at)) tt

  pub backed : AreBacked network.trees.items drives board.held.items leads (seen begun leads)
  backed place l =
      let within = in_drives place l in
      let there = some_there drives place within in
      subst (λ (n : ℕ). IsBelow (seen begun leads n) (shows network.trees.items drives board.held.items (seen begun leads) n)) (sym (own place within))
      (subst (λ (o : Option Drive). IsBelow (seen begun leads place) (drive_tern network.trees.items (held_at place) (seen begun leads) place o)) (sym there.1)
      (backed_at place within there.0 there.1))

  -- ---- at last

  module _ (known : AreKnown network board) (new : List Tern) (rising : AreRising begun new)
      (below : StaysBelow network.trees.items drives board.held.items leads leads begun new)
      (solved : AreSolved network.trees.items drives board.held.items leads (seen new leads)) where
    shows_so : (point : ℕ) → point < length drives → (drive : Drive) → slice_get drives point ≡ Some drive →
        seen new leads point ≡ drive_tern network.trees.items (held_at point) (seen new leads) point (Some drive)
    shows_so point l drive at =
        subst (λ (n : ℕ). seen new leads n ≡ shows network.trees.items drives board.held.items (seen new leads) n) (own point l) (solved point (omega (arith, is.leads.long)))
        ∙ ap (drive_tern network.trees.items (held_at point) (seen new leads) point) at

    -- what is known at first stays
    stays : (point : ℕ) → point < length drives → (t : PlainTern) → kept_tern begun point ≡ t → is_known t ≡ true → seen new leads point ≡ t
    stays point l t e k =
        seen_so new point l ∙ sym (known_below t (kept_tern new point) k (subst (λ (u : PlainTern). IsBelow u (kept_tern new point)) e (rising point)))

    solves_at : (point : ℕ) → point < length drives → (drive : Drive) → slice_get drives point ≡ Some drive →
        seen new leads point ≡ asked_by network.trees.items (given_at (Some drive) (shown_on board point) (held_at point)) (seen new leads) (Some drive)
    solves_at point l Given at =
        stays point l (kept_tern board.terns.items point) (begins.begun point Given at) (known.inputs point at) ∙ sym (board_shown network board is point l)
    solves_at point l (Flop clock next) at = stays point l (held_at point) (begins.begun point (Flop clock next) at) (known.flops point clock next at)
    solves_at point l (Same other) at = shows_so point l (Same other) at
    solves_at point l (Value source) at = shows_so point l (Value source) at
    solves_at point l (Hold gate latched) at = shows_so point l (Hold gate latched) at

    solves : Solves network.trees.items drives (given_on network board) (seen new leads)
    solves point l =
        let there = some_there drives point l in
        solves_at point l there.0 there.1
        ∙ sym (ap (λ (o : Option Drive). asked_by network.trees.items (given_at o (shown_on board point) (held_at point)) (seen new leads) o) there.1)

    module _ (u : PointTerns) (solves_too : Solves network.trees.items drives (given_on network board) u) where
      asked_so : (point : ℕ) → point < length drives → (drive : Drive) → slice_get drives point ≡ Some drive →
          u point ≡ asked_by network.trees.items (given_at (Some drive) (shown_on board point) (held_at point)) u (Some drive)
      asked_so point l drive at =
          solves_too point l ∙ ap (λ (o : Option Drive). asked_by network.trees.items (given_at o (shown_on board point) (held_at point)) u o) at

      settled_at : (point : ℕ) → point < length drives → (drive : Drive) → slice_get drives point ≡ Some drive →
          u point ≡ drive_tern network.trees.items (held_at point) u point (Some drive)
      settled_at point l Given at = refl
      settled_at point l (Flop clock next) at = refl
      settled_at point l (Same other) at = asked_so point l (Same other) at
      settled_at point l (Value source) at = asked_so point l (Value source) at
      settled_at point l (Hold gate latched) at = asked_so point l (Hold gate latched) at

      settled : AreSolved network.trees.items drives board.held.items leads u
      settled place l =
          let within = in_drives place l in
          let there = some_there drives place within in
          subst (λ (n : ℕ). u n ≡ shows network.trees.items drives board.held.items u n) (sym (own place within))
          (settled_at place within there.0 there.1 ∙ sym (ap (drive_tern network.trees.items (held_at place) u place) there.1))

      above_at : (point : ℕ) → point < length drives → (drive : Drive) → slice_get drives point ≡ Some drive → IsBelow (kept_tern begun point) (u point)
      above_at point l Given at =
          below_equal (kept_tern begun point) (u point) (begins.begun point Given at ∙ sym (asked_so point l Given at ∙ board_shown network board is point l))
      above_at point l (Flop clock next) at =
          below_equal (kept_tern begun point) (u point) (begins.begun point (Flop clock next) at ∙ sym (asked_so point l (Flop clock next) at))
      above_at point l (Same other) at = subst (λ (t : PlainTern). IsBelow t (u point)) (sym (begins.begun point (Same other) at)) tt
      above_at point l (Value source) at = subst (λ (t : PlainTern). IsBelow t (u point)) (sym (begins.begun point (Value source) at)) tt
      above_at point l (Hold gate latched) at = subst (λ (t : PlainTern). IsBelow t (u point)) (sym (begins.begun point (Hold gate latched) at)) tt

      above : AreAbove begun leads u
      above point l =
          let within = in_drives point l in
          let there = some_there drives point within in
          subst (λ (t : PlainTern). IsBelow t (u point)) (sym (seen_so begun point within)) (above_at point within there.0 there.1)

      least_so : (point : ℕ) → point < length drives → IsBelow (seen new leads point) (u point)
      least_so point l = below u settled (λ q h. ap u (sym (own q (in_drives q h)))) above point (omega (arith, is.leads.long))

    pub least : IsLeast network.trees.items drives (given_on network board) (seen new leads)
    least = record { solves = solves; least = least_so }

-- ---- the beginning, point by point

abbrev pub BegunSoFar : Network → Board → (count : ℕ) → List Tern → Type 0
BegunSoFar network board count solution =
    (point : ℕ) (drive : Drive) → point < count → slice_get network.drives.items point ≡ Some drive →
    kept_tern solution point ≡ begun_by drive (kept_tern board.terns.items point) (kept_tern board.held.items point)

pub begun_more : (network : Network) (board : Board) (point : ℕ) (old new : List Tern) (drive : Drive) (t tern held : Tern) → slice_get network.drives.items point ≡ Some drive →
    new ≡ slice_set old point t → point < length old → plain_tern tern ≡ kept_tern board.terns.items point → plain_tern held ≡ kept_tern board.held.items point →
    plain_tern t ≡ begun_by drive (plain_tern tern) (plain_tern held) → BegunSoFar network board point old → BegunSoFar network board (point + 1) new
begun_more network board point old new drive t tern held at is less tern_is held_is value so_far other d l e =
    elim (cases_eq other point) [
      | inl same ↦
          let both : Some drive ≡ Some d = sym at ∙ ap (slice_get network.drives.items) (sym same) ∙ e in
          let one : drive ≡ d = cc in
          subst (λ (n : ℕ). kept_tern new n ≡ begun_by d (kept_tern board.terns.items n) (kept_tern board.held.items n)) (sym same)
          (written old new point t is less ∙ value ∙ (λ i. begun_by (one i) (tern_is i) (held_is i)))
      | inr apart ↦ not_written old new point t is other apart ∙ so_far other d (omega (arith, apart)) e
    ]
