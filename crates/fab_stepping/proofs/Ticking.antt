-- A tick, and values that are taken over, point by point.
use mathlib.Core.Bool.{beq, not}
use Rattle.std.proofs.Common.{◌≡◌, ℕ, ◌+◌, ◌<◌, ◌≤◌, Bool, true, false, List, Some, length, refl, sym, ap, ◌∙◌, subst, inl, inr, arith, slice_set}
use Rattle.std.specs.List.{slice_get}
use Rattle.std.proofs.lemmas.Bool.{cases_eq}
use Rattle.std.proofs.lemmas.List.{length-set}
use Rattle.std.proofs.lemmas.Option.{slice_get_within}
use Rattle.fab_systems_laws.specs.Ternary.{Tern as PlainTern}
use Rattle.fab_ternary.specs.declared.Tern.{Tern}
use Rattle.fab_ternary.specs.Terns.{plain_tern}
use Rattle.fab_compiled.specs.declared.tree.Tree.{Tree}
use Rattle.fab_compiled.specs.Terns.{seen}
use Rattle.fab_network.specs.declared.network.Clock.TheVariants.{User}
use Rattle.fab_network.specs.declared.network.Network.{Network}
use Rattle.fab_network.specs.Passes.{kept_tern}
use Rattle.fab_network.specs.Sharing.{IsShared}
use Rattle.fab_network.specs.declared.sharing.Shared.{Shared}
use Rattle.fab_wiring.specs.Given.{left_by}
use Rattle.fab_stepping.specs.declared.board.Board.{Board}
use Rattle.fab_stepping.specs.Boards.{left_on, IsTicked, IsTakenOver}
use Rattle.fab_stepping.proofs.Reading.{written, not_written}

-- what a tick has left with the first points
pub record TickedSoFar (network : Network) (before now : Board) (count : ℕ) : Type 0 where
  pub terns : now.terns ≡ before.terns
  pub leads : now.leads ≡ before.leads
  pub long : length now.held.items ≡ length before.held.items
  pub left : (point : ℕ) → point < count → kept_tern now.held.items point ≡ left_on network before point
  pub rest : (point : ℕ) → count ≤ point → kept_tern now.held.items point ≡ kept_tern before.held.items point

pub ticked_none : (network : Network) (board : Board) → TickedSoFar network board board 0
ticked_none network board = record { terns = refl; leads = refl; long = refl; left = λ point l. absurd (omega arith); rest = λ point l. refl }

-- one more point is left with this
pub ticked_more : (network : Network) (before now after : Board) (point : ℕ) (held t : Tern) (terns : List Tern) (leads : List ℕ) →
    TickedSoFar network before now point → point < length now.held.items → after.terns ≡ now.terns → after.leads ≡ now.leads →
    after.held.items ≡ slice_set now.held.items point t → terns ≡ now.terns.items → leads ≡ now.leads.items → plain_tern held ≡ kept_tern now.held.items point →
    plain_tern t ≡ left_by network.trees.items User (plain_tern held) (seen terns leads) point (slice_get network.drives.items point) →
    TickedSoFar network before after (point + 1)
ticked_more network before now after point held t terns leads so_far less same_terns same_leads is terns_are leads_are held_is left_is =
    let drive = slice_get network.drives.items point in
    let by : List Tern → List ℕ → PlainTern → PlainTern = λ ts ls h. left_by network.trees.items User h (seen ts ls) point drive in
    let value : plain_tern t ≡ left_on network before point =
    left_is
    ∙ (λ i. by (terns_are i) (leads_are i) (held_is i))
    ∙ (λ i. by (so_far.terns i).items (so_far.leads i).items (so_far.rest point (omega arith) i)) in
    record {
      terns = same_terns ∙ so_far.terns;
      leads = same_leads ∙ so_far.leads;
      long = ap length is ∙ length-set now.held.items point t ∙ so_far.long;
      left = λ other l.
          elim (cases_eq other point) [
            | inl e ↦ subst (λ (n : ℕ). kept_tern after.held.items n ≡ left_on network before n) (sym e) (written now.held.items after.held.items point t is less ∙ value)
            | inr apart ↦ not_written now.held.items after.held.items point t is other apart ∙ so_far.left other (omega (arith, apart))
          ];
      rest = λ other l. not_written now.held.items after.held.items point t is other (λ e. absurd (omega arith)) ∙ so_far.rest other (omega arith);
    }

pub ticked_all : (network : Network) (before now : Board) (count : ℕ) → length network.drives.items ≤ count → TickedSoFar network before now count → IsTicked network before now
ticked_all network before now count all so_far = record {
  terns = so_far.terns;
  leads = so_far.leads;
  long = so_far.long;
  left = λ point l. so_far.left point (omega arith);
}

-- what is kept of an expression is right of equal lists
pub shared_at : (trees other_trees : List Tree) (terns other_terns : List Tern) (leads other_leads : List ℕ) (shared : Shared) →
    trees ≡ other_trees → terns ≡ other_terns → leads ≡ other_leads →
    IsShared trees (length leads) (seen terns leads) shared → IsShared other_trees (length other_leads) (seen other_terns other_leads) shared
shared_at trees other_trees terns other_terns leads other_leads shared e f g is =
    subst (λ (xs : List Tree). IsShared xs (length other_leads) (seen other_terns other_leads) shared) e
    (subst (λ (xs : List Tern). IsShared trees (length other_leads) (seen xs other_leads) shared) f
    (subst (λ (xs : List ℕ). IsShared trees (length xs) (seen terns xs) shared) g is))

-- ---- values that are taken over

pub record TakenSoFar (marks : List Bool) (mark : Bool) (from old now : List Tern) (count : ℕ) : Type 0 where
  pub long : length now ≡ length old
  pub taken : (point : ℕ) → point < count → slice_get marks point ≡ Some mark → kept_tern now point ≡ kept_tern from point
  pub others : (point : ℕ) → (slice_get marks point ≡ Some mark → ⊥) → kept_tern now point ≡ kept_tern old point

pub taken_none : (marks : List Bool) (mark : Bool) (from old : List Tern) → TakenSoFar marks mark from old old 0
taken_none marks mark from old = record { long = refl; taken = λ point l e. absurd (omega arith); others = λ point other. refl }

-- a point that is marked otherwise is passed
pub taken_past : (marks : List Bool) (mark : Bool) (from old now : List Tern) (point : ℕ) → (slice_get marks point ≡ Some mark → ⊥) →
    TakenSoFar marks mark from old now point → TakenSoFar marks mark from old now (point + 1)
taken_past marks mark from old now point otherwise so_far = record {
  long = so_far.long;
  taken = λ other l e.
      elim (cases_eq other point) [
        | inl same ↦ absurd (otherwise (ap (slice_get marks) (sym same) ∙ e))
        | inr apart ↦ so_far.taken other (omega (arith, apart)) e
      ];
  others = so_far.others;
}

pub taken_more : (marks : List Bool) (mark : Bool) (from old now new : List Tern) (point : ℕ) (t : Tern) → slice_get marks point ≡ Some mark → new ≡ slice_set now point t →
    point < length now → plain_tern t ≡ kept_tern from point → TakenSoFar marks mark from old now point → TakenSoFar marks mark from old new (point + 1)
taken_more marks mark from old now new point t at is less value so_far = record {
  long = ap length is ∙ length-set now point t ∙ so_far.long;
  taken = λ other l e.
      elim (cases_eq other point) [
        | inl same ↦ subst (λ (n : ℕ). kept_tern new n ≡ kept_tern from n) (sym same) (written now new point t is less ∙ value)
        | inr apart ↦ not_written now new point t is other apart ∙ so_far.taken other (omega (arith, apart)) e
      ];
  others = λ other otherwise. not_written now new point t is other (λ e. otherwise (ap (slice_get marks) e ∙ at)) ∙ so_far.others other otherwise;
}

pub taken_all : (marks : List Bool) (mark : Bool) (from old now : List Tern) (count : ℕ) → length marks ≤ count → TakenSoFar marks mark from old now count →
    IsTakenOver marks mark from old now
taken_all marks mark from old now count all so_far = record {
  long = so_far.long;
  taken = λ point e. let within = slice_get_within marks point mark e in so_far.taken point (omega arith) e;
  others = so_far.others;
}

-- what is not a mark
pub other_mark : (marks : List Bool) (point : ℕ) (other mark : Bool) → slice_get marks point ≡ Some other → (other ≡ mark → ⊥) → slice_get marks point ≡ Some mark → ⊥
other_mark marks point other mark at apart e =
    let both : Some other ≡ Some mark = sym at ∙ e in
    let same : other ≡ mark = cc in
    apart same

-- what a test of two marks tells
pub marks_same : (a b : Bool) → not (beq a b) ≡ false → a ≡ b
marks_same true true e = refl
marks_same true false e = cc
marks_same false true e = cc
marks_same false false e = refl

pub marks_differ : (a b : Bool) → not (beq a b) ≡ true → a ≡ b → ⊥
marks_differ true true e same = cc
marks_differ true false e same = cc
marks_differ false true e same = cc
marks_differ false false e same = cc
