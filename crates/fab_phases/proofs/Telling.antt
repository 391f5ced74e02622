-- Points and outputs, one after the other.
use Rattle.std.proofs.Common.{◌≡◌, ◌⊎◌, ℕ, zero, suc, ◌+◌, ◌<◌, ◌≤◌, Bool, List, [], ◌∷◌, length, map, Option, Some, None, refl, sym, ap, ◌∙◌, subst, inl, inr, arith, get_or, slice_set}
use Rattle.std.specs.List.{slice_get}
use Rattle.std.proofs.lemmas.Bool.{cases_eq}
use Rattle.fab_systems_laws.specs.Ternary.{known}
use Rattle.fab_systems_laws.specs.Ternary.{Tern as PlainTern}
use Rattle.fab_ternary.specs.declared.Tern.{Tern}
use Rattle.fab_ternary.specs.Terns.{plain_tern}
use Rattle.fab_compiled.specs.Terns.{seen}
use Rattle.fab_compiled.specs.Leading.{PointTerns}
use Rattle.fab_compiled.specs.declared.tree.Tree.{Tree}
use Rattle.fab_network.specs.declared.network.Clock.TheVariants.{Loader, User, Other}
use Rattle.fab_network.specs.declared.network.Drive.{Drive}
use Rattle.fab_network.specs.declared.network.Drive.TheVariants.{Given, Flop, Same, Value, Hold}
use Rattle.fab_network.specs.declared.network.Network.{Network}
use Rattle.fab_network.specs.Passes.{kept_tern}
use Rattle.fab_network.proofs.Kept.{kept_same, kept_other}
use Rattle.fab_demand.specs.Asked.{Asked}
use Rattle.fab_phases.specs.Cycles.{AreOnce, IsFed, IsIn}
use Rattle.fab_phases.specs.Running.{IsTickedOwn, WritesOwn, written_by}

-- ---- values that are fed

pub record IsFedSoFar (ins : List ℕ) (values : List Bool) (count : ℕ) (old : PointTerns) (now : List Tern) : Type 0 where
  pub fed : (place point : ℕ) (value : Bool) → place < count → slice_get ins place ≡ Some point → slice_get values place ≡ Some value → kept_tern now point ≡ known value
  pub others : (point : ℕ) → (IsIn ins point → ⊥) → kept_tern now point ≡ old point

pub fed_none : (ins : List ℕ) (values : List Bool) (now : List Tern) → IsFedSoFar ins values 0 (kept_tern now) now
fed_none ins values now = record { fed = λ place point value less e f. absurd (omega arith); others = λ point absent. refl }

pub fed_more : (ins : List ℕ) (values : List Bool) (count : ℕ) (old : PointTerns) (now : List Tern) (point : ℕ) (value : Bool) (t : Tern) → AreOnce ins →
    slice_get ins count ≡ Some point → slice_get values count ≡ Some value → point < length now → plain_tern t ≡ known value → IsFedSoFar ins values count old now →
    IsFedSoFar ins values (count + 1) old (slice_set now point t)
fed_more ins values count old now point value t once at value_at less is so_far = record {
  fed = λ place other v l e f.
      elim (cases_eq place count) [
        | inl same ↦
            let points : Some point ≡ Some other = sym at ∙ ap (slice_get ins) (sym same) ∙ e in
            let point_is : point ≡ other = cc in
            let bits : Some value ≡ Some v = sym value_at ∙ ap (slice_get values) (sym same) ∙ f in
            let value_is : value ≡ v = cc in
            ap (kept_tern (slice_set now point t)) (sym point_is) ∙ kept_same now point t less ∙ is ∙ ap known value_is
        | inr apart ↦
            let other_point : other ≡ point → ⊥ = λ p. apart (once place count other e (at ∙ ap (λ (n : ℕ). Some n) (sym p))) in
            kept_other now point t other other_point ∙ so_far.fed place other v (omega (arith, apart)) e f
      ];
  others = λ other absent.
      let apart : other ≡ point → ⊥ = λ p. absent (count, point, at, sym p) in
      kept_other now point t other apart ∙ so_far.others other absent;
}

pub fed_all : (ins : List ℕ) (values : List Bool) (count : ℕ) (old : PointTerns) (now : List Tern) → ((place point : ℕ) → slice_get ins place ≡ Some point → place < count) →
    IsFedSoFar ins values count old now → IsFed ins values old (kept_tern now)
fed_all ins values count old now all so_far = record { fed = λ place point value e f. so_far.fed place point value (all place point e) e f; others = so_far.others }

-- ---- outputs that are shown

abbrev pub AreShownSoFar : List ℕ → PointTerns → (count : ℕ) → List Tern → Type 0
AreShownSoFar outs t count outputs =
    (place point : ℕ) (output : Tern) → place < count → slice_get outs place ≡ Some point → slice_get outputs place ≡ Some output → plain_tern output ≡ t point

-- what stands at a place of a list that was written to
set_get : {X : Type 0} (xs : List X) (n : ℕ) (x : X) (k : ℕ) (y : X) → slice_get (slice_set xs n x) k ≡ Some y → ((k ≡ n) × (x ≡ y)) ⊎ ((k ≡ n → ⊥) × (slice_get xs k ≡ Some y))
set_get [] n x k y e = inr ((λ same. absurd (cc)), e)
set_get (z ∷ xs) zero x zero y e = let same : x ≡ y = cc in inl (refl, same)
set_get (z ∷ xs) zero x (suc k) y e = inr ((λ same. absurd (cc)), e)
set_get (z ∷ xs) (suc n) x zero y e = inr ((λ same. absurd (cc)), e)
set_get (z ∷ xs) (suc n) x (suc k) y e =
    elim (set_get xs n x k y e) [
      | inl h ↦ inl (ap suc h.0, h.1)
      | inr h ↦ inr ((λ same. h.0 (omega arith)), h.1)
    ]

pub shown_more : (outs : List ℕ) (t : PointTerns) (count : ℕ) (outputs : List Tern) (point : ℕ) (output : Tern) → slice_get outs count ≡ Some point → plain_tern output ≡ t point →
    AreShownSoFar outs t count outputs → AreShownSoFar outs t (count + 1) (slice_set outputs count output)
shown_more outs t count outputs point output at value so_far place other o less e f =
    elim (set_get outputs count output place o f) [
      | inl h ↦
          let both : Some point ≡ Some other = sym at ∙ ap (slice_get outs) (sym h.0) ∙ e in
          let same : point ≡ other = cc in
          ap plain_tern (sym h.1) ∙ value ∙ ap t same
      | inr h ↦ so_far place other o (omega (arith, h.0)) e h.1
    ]

pub shown_all : (outs : List ℕ) (t : PointTerns) (outputs : List Tern) → length outputs ≡ length outs →
    ((place point : ℕ) (output : Tern) → slice_get outs place ≡ Some point → slice_get outputs place ≡ Some output → plain_tern output ≡ t point) → map plain_tern outputs ≡ map t outs
shown_all [] t [] long each = refl
shown_all [] t (o ∷ outputs) long each = absurd (omega arith)
shown_all (out ∷ outs) t [] long each = absurd (omega arith)
shown_all (out ∷ outs) t (o ∷ outputs) long each =
    let here : plain_tern o ≡ t out = each 0 out o refl refl in
    let rest : map plain_tern outputs ≡ map t outs = shown_all outs t outputs (omega arith) (λ k p x e f. each (suc k) p x e f) in
    cc

-- ---- points that a tick writes

written_again : (trees : List Tree) (held : PlainTern) (t : PointTerns) (point : ℕ) (drive : Option Drive) →
    written_by trees (written_by trees held t point drive) t point drive ≡ written_by trees held t point drive
written_again trees held t point None = refl
written_again trees held t point (Some Given) = refl
written_again trees held t point (Some (Flop User next)) = refl
written_again trees held t point (Some (Flop Loader next)) = refl
written_again trees held t point (Some (Flop Other next)) = refl
written_again trees held t point (Some (Same other)) = refl
written_again trees held t point (Some (Value source)) = refl
written_again trees held t point (Some (Hold gate latched)) = refl

abbrev pub IsDone : List ℕ → (count : ℕ) → (point : ℕ) → Type 0
IsDone own count point = (place : ℕ) × (place < count) × (get_or own place 0 ≡ point)

pub record IsTickedSoFar (network : Network) (demand : Asked) (count : ℕ) (old now : List Tern) : Type 0 where
  pub way : (point : ℕ) → (kept_tern now point ≡ kept_tern old point) ⊎ WritesOwn network demand point (kept_tern old point) (kept_tern now point)
  pub done : (point : ℕ) → IsDone demand.own count point → WritesOwn network demand point (kept_tern old point) (kept_tern now point)
  pub others : (point : ℕ) → (IsDone demand.own count point → ⊥) → kept_tern now point ≡ kept_tern old point

pub ticked_none : (network : Network) (demand : Asked) (old : List Tern) → IsTickedSoFar network demand 0 old old
ticked_none network demand old = record { way = λ p. inl refl; done = λ p d. let less : d.0 < 0 = d.1 in absurd (omega arith); others = λ p d. refl }

pub ticked_more : (network : Network) (demand : Asked) (count : ℕ) (old now : List Tern) (point : ℕ) (left : Tern) → get_or demand.own count 0 ≡ point → point < length now →
    WritesOwn network demand point (kept_tern now point) (plain_tern left) → IsTickedSoFar network demand count old now →
    IsTickedSoFar network demand (count + 1) old (slice_set now point left)
ticked_more network demand count old now point left at less writes so_far =
    let by : PlainTern → PlainTern = λ held. written_by network.trees.items held (seen demand.terns demand.leads) point (slice_get network.drives.items point) in
    let value : plain_tern left ≡ by (kept_tern old point) =
    elim (so_far.way point) [
      | inl e ↦ writes ∙ ap by e
      | inr w ↦ writes ∙ ap by w ∙ written_again network.trees.items (kept_tern old point) (seen demand.terns demand.leads) point (slice_get network.drives.items point)
    ] in
    let here : WritesOwn network demand point (kept_tern old point) (kept_tern (slice_set now point left) point) = kept_same now point left less ∙ value in
    record {
      way = λ p.
          elim (cases_eq p point) [
            | inl e ↦ inr (subst (λ (q : ℕ). WritesOwn network demand q (kept_tern old q) (kept_tern (slice_set now point left) q)) (sym e) here)
            | inr apart ↦
                let same = kept_other now point left p apart in
                elim (so_far.way p) [ inl e ↦ inl (same ∙ e) | inr w ↦ inr (same ∙ w) ]
          ];
      done = λ p d.
          elim (cases_eq p point) [
            | inl e ↦ subst (λ (q : ℕ). WritesOwn network demand q (kept_tern old q) (kept_tern (slice_set now point left) q)) (sym e) here
            | inr apart ↦
                let earlier : d.0 < count =
                let bound : d.0 < count + 1 = d.1 in
                elim (cases_eq d.0 count) [ inl e ↦ absurd (apart (sym d.2 ∙ ap (λ (k : ℕ). get_or demand.own k 0) e ∙ at)) | inr other ↦ omega (arith, other) ] in
                kept_other now point left p apart ∙ so_far.done p (d.0, earlier, d.2)
          ];
      others = λ p none.
          let apart : p ≡ point → ⊥ = λ e. none (count, omega arith, at ∙ sym e) in
          kept_other now point left p apart ∙ so_far.others p (λ d. let bound : d.0 < count = d.1 in none (d.0, omega arith, d.2));
    }

pub ticked_all : (network : Network) (demand : Asked) (count : ℕ) (old now : List Tern) → length demand.own ≤ count → count ≤ length demand.own →
    IsTickedSoFar network demand count old now → IsTickedOwn network demand old now
ticked_all network demand count old now past all so_far = record {
  own = λ p listed. let bound : listed.0 < length demand.own = listed.1 in so_far.done p (listed.0, omega arith, listed.2);
  others = λ p none. so_far.others p (λ d. let bound : d.0 < count = d.1 in none (d.0, omega arith, d.2));
}

-- what is written over a view of the demand
pub written_at : (network : Network) (demand : Asked) (terns : List Tern) (leads : List ℕ) (point : ℕ) (read held left : PlainTern) → terns ≡ demand.terns → leads ≡ demand.leads →
    read ≡ held → left ≡ written_by network.trees.items read (seen terns leads) point (slice_get network.drives.items point) → WritesOwn network demand point held left
written_at network demand terns leads point read held left same_terns same_leads same value =
    let by : PointTerns → PlainTern → PlainTern = λ t h. written_by network.trees.items h t point (slice_get network.drives.items point) in
    value
    ∙ ap (by (seen terns leads)) same
    ∙ ap (λ (ts : List Tern). by (seen ts leads) held) same_terns
    ∙ ap (λ (ls : List ℕ). by (seen demand.terns ls) held) same_leads
