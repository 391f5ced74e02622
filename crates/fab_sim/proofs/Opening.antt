-- Forms that are found within a run: what is known of the points that stand for themselves is forgotten, point by point.
use Rattle.std.proofs.Common.{◌≡◌, ◌⊎◌, ℕ, zero, suc, ◌+◌, ◌<◌, ◌≤◌, Bool, List, [], ◌∷◌, length, refl, sym, ap, ◌∙◌, subst, inl, inr, arith, slice_index, slice_set}
use Rattle.std.proofs.lemmas.Bool.{cases_eq, cases_lt}
use Rattle.fab_systems_laws.specs.Ternary.{unknown}
use Rattle.fab_ternary.specs.declared.Tern.{Tern}
use Rattle.fab_ternary.specs.declared.Tern.TheVariants.{Open}
use Rattle.fab_compiled.specs.Leading.{PointTerns, IsMarked}
use Rattle.fab_network.specs.declared.network.Network.{Network}
use Rattle.fab_network.specs.Passes.{kept_tern, IsListed}
use Rattle.fab_network.proofs.Kept.{kept_other}
use Rattle.fab_demand.specs.Asked.{Asked, DiffersInOwn}
use Rattle.fab_demand.specs.Demand.{AreOpen}
use Rattle.fab_phases.specs.Cycles.{IsRunningAt}

-- Of the first points that stand for themselves nothing is known, and all else is as it was.
pub record OpenedSoFar (count : ℕ) (old now : Asked) : Type 0 where
  pub stays : (asked : Asked) → DiffersInOwn asked old → DiffersInOwn asked now
  pub opened : (place : ℕ) → place < count → kept_tern now.terns (slice_index old.own place) ≡ unknown

differs_none : (asked : Asked) → DiffersInOwn asked asked
differs_none asked = record { leads = refl; marks = refl; own = refl; others = λ point absent. refl }

pub opened_none : (asked : Asked) → OpenedSoFar 0 asked asked
opened_none asked = record { stays = λ other differs. differs; opened = λ place less. absurd (omega arith) }

-- the leads and the points that stand for themselves are the same
pub leads_stay : (old now : Asked) → ((asked : Asked) → DiffersInOwn asked old → DiffersInOwn asked now) → length now.leads ≡ length old.leads
leads_stay old now stays = ap length (stays old (differs_none old)).leads

pub own_stay : (old now : Asked) → ((asked : Asked) → DiffersInOwn asked old → DiffersInOwn asked now) → now.own ≡ old.own
own_stay old now stays = (stays old (differs_none old)).own

-- nothing is known of a point that is opened
open_there : (terns : List Tern) (point : ℕ) → kept_tern (slice_set terns point Open) point ≡ unknown
open_there [] zero = refl
open_there [] (suc point) = refl
open_there (t ∷ terns) zero = refl
open_there (t ∷ terns) (suc point) = open_there terns point

opened_terns : (terns : List Tern) (point other : ℕ) → (kept_tern terns other ≡ unknown) ⊎ (other ≡ point) → kept_tern (slice_set terns point Open) other ≡ unknown
opened_terns terns point other is =
    elim (cases_eq other point) [
      | inl same ↦ ap (kept_tern (slice_set terns point Open)) same ∙ open_there terns point
      | inr apart ↦ kept_other terns point Open other apart ∙ elim is [ inl before ↦ before | inr same ↦ absurd (apart same) ]
    ]

pub opened_more : (old now new : Asked) (count : ℕ) → count < length old.own → OpenedSoFar count old now →
    new ≡ record now { terns = slice_set now.terns (slice_index now.own count) Open } → OpenedSoFar (count + 1) old new
opened_more old now new count less so_far is = record {
  stays = λ asked differs.
      let before = so_far.stays asked differs in
      let point = slice_index now.own count in
      let inside : count < length asked.own = omega (arith, less, ap length differs.own) in
      let listed : IsListed asked.own point = (count, inside, ap (λ (own : List ℕ). slice_index own count) (sym before.own)) in
      subst (DiffersInOwn asked) (sym is)
      (record {
        leads = before.leads;
        marks = before.marks;
        own = before.own;
        others = λ other absent.
            kept_other now.terns point Open other (λ same. absent (subst (IsListed asked.own) (sym same) listed)) ∙ before.others other absent;
      });
  opened = λ place under.
      let other = slice_index old.own place in
      let at : slice_index now.own count ≡ slice_index old.own count = ap (λ (own : List ℕ). slice_index own count) (own_stay old now so_far.stays) in
      ap (λ (a : Asked). kept_tern a.terns other) is
      ∙ opened_terns now.terns (slice_index now.own count) other
      (elim (cases_lt place count) [
        | inl before ↦ inl (so_far.opened place before)
        | inr past ↦ inr (let last : place ≡ count = omega (arith, past, under) in ap (slice_index old.own) last ∙ sym at)
      ]);
}

-- all of them are open
pub opened_all : (count : ℕ) (old now : Asked) → length old.own ≤ count → ((point : ℕ) → IsListed old.own point → IsMarked old.marks point) → OpenedSoFar count old now →
    AreOpen now
opened_all count old now all marked so_far point listed =
    let differs = so_far.stays old (differs_none old) in
    let before : IsListed old.own point = subst (λ (own : List ℕ). IsListed own point) differs.own listed in (
      subst (λ (marks : List Bool). IsMarked marks point) (sym differs.marks) (marked point before),
      ap (kept_tern now.terns) (sym before.2) ∙ so_far.opened before.0 (omega (arith, before.1, all)),
    )

-- ---- a run

-- points that stand for themselves have been asked for
pub own_marked : (network : Network) (ins outs : List ℕ) (demand : Asked) (given : List Tern) (held : PointTerns) → IsRunningAt network ins outs demand given held →
    (point : ℕ) → IsListed demand.own point → IsMarked demand.marks point
own_marked network ins outs demand given held at point listed =
    let for = at.asked_for in
    subst (λ (marks : List Bool). IsMarked marks point) (sym for.differs.marks)
    (for.is_asked.own point (subst (λ (own : List ℕ). IsListed own point) for.differs.own listed)).0

-- a run goes on where what is kept for these points alone has changed
pub runs_on : (network : Network) (ins outs : List ℕ) (old new : Asked) (given : List Tern) (held : PointTerns) →
    ((asked : Asked) → DiffersInOwn asked old → DiffersInOwn asked new) → IsRunningAt network ins outs old given held → IsRunningAt network ins outs new given held
runs_on network ins outs old new given held stays at = record {
  asked_for = record {
    base = at.asked_for.base;
    asked = at.asked_for.asked;
    is_asked = at.asked_for.is_asked;
    registers = at.asked_for.registers;
    differs = stays at.asked_for.asked at.asked_for.differs;
    outputs = at.asked_for.outputs;
    inputs = at.asked_for.inputs;
  };
  kept = at.kept;
  own = at.own;
}
