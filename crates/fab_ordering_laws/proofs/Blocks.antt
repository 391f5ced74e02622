-- Within a cycle each block makes one more pass of the least solution stand, and one that changes no known point makes all of them stand.
use Rattle.std.proofs.Common.{◌≡◌, ◌≢◌, ◌⊎◌, ℕ, zero, suc, ◌+◌, ◌<◌, ◌≤◌, Bool, true, false, List, [], ◌∷◌, length, map, Contains, refl, sym, ap, ◌∙◌, subst, inl, inr, arith}
use Rattle.std.proofs.lemmas.Bool.{cases_Bool, cases_lt, false≢true, true≢false}
use Rattle.fab_syntax.specs.Plain.{PlainExpr}
use Rattle.fab_systems_laws.specs.Ternary.{Tern, unknown, yes, no, known, IsBelow, AreBelow}
use Rattle.fab_systems_laws.proofs.Order.{below_equal, below_trans}
use Rattle.fab_meaning.specs.Points.{Path, Point, Driver, outside, copy, bit_of, flop, hold, Drives}
use Rattle.fab_meaning.specs.Settled.{Assignment, shown}
use Rattle.fab_meaning.specs.Reads.{is_declared, same_point}
use Rattle.fab_meaning.specs.Activation.{State, Event, activate, held_after, IsActivation, IsStep, AreSteps}
use Rattle.fab_meaning.specs.Loading.{IsLoading}
use Rattle.fab_meaning.specs.Loaded.{IsLoaded}
use Rattle.fab_meaning.proofs.Dependence.{same_point_refl, same_point_is}
use Rattle.fab_meaning.proofs.SoundTexts.{sound_drives_once}
use Rattle.fab_netlist.proofs.Members.{first_or_later}
use Rattle.fab_ternary_laws.specs.Shown.{Terns}
use Rattle.fab_ternary_laws.proofs.Drivers.{driver_known}
use Rattle.fab_solutions_laws.specs.Solutions.{tern_given, IsLeastSolution}
use Rattle.fab_solutions_laws.proofs.Drivers.{given_shown}
use Rattle.fab_ordering_laws.specs.Ordered.{Moment, IsOrderedBlock, ChangesKnown, AreOrderedBlocks, enough, last, more}
use Rattle.fab_ordering_laws.specs.Laws.{EndUnchanged, AllStand}
use Rattle.fab_ordering_laws.proofs.Orders.{HasAll, shuffled_all, all_activated}
use Rattle.fab_ordering_laws.proofs.Setting.{Setting}
use Rattle.fab_ordering_laws.proofs.Passes as passes

-- a known value has only itself above
known_above : (t : Tern) (value : Bool) (now : Bool) → t ≡ known value → IsBelow t (known now) → now ≡ value
known_above t true true is below = refl
known_above t false false is below = refl
known_above t true false is below = (let wrong : IsBelow yes no = subst (λ (u : Tern). IsBelow u no) is below in cc)
known_above t false true is below = (let wrong : IsBelow no yes = subst (λ (u : Tern). IsBelow u yes) is below in cc)

below_known : (t u : Tern) (value : Bool) → t ≡ known value → IsBelow t u → u ≡ known value
below_known t u true is below = sym (subst (λ (x : Tern). IsBelow x u) is below)
below_known t u false is below = sym (subst (λ (x : Tern). IsBelow x u) is below)

-- what is not known is below all, and what is known has a value
known_or_not : (t : Tern) → (t ≡ unknown) ⊎ ((value : Bool) × (t ≡ known value))
known_or_not no = inr (false, refl)
known_or_not yes = inr (true, refl)
known_or_not unknown = inl refl

unless_changed : (a b : Bool) → (a ≢ b → ⊥) → a ≡ b
unless_changed true true same = refl
unless_changed true false same = absurd (same true≢false)
unless_changed false true same = absurd (same false≢true)
unless_changed false false same = refl

-- what is held stays, but for a latch
abbrev pub HoldsOn : Driver → (before after : Bool) → Type 0
HoldsOn (hold path gate e bit) before after = Unit {0}
HoldsOn outside before after = after ≡ before
HoldsOn (copy other) before after = after ≡ before
HoldsOn (bit_of path e bit) before after = after ≡ before
HoldsOn (flop path clock next bit) before after = after ≡ before

pub holds_same : (d : Driver) (before after : Bool) → after ≡ before → HoldsOn d before after
holds_same (hold path gate e bit) before after same = tt
holds_same outside before after same = same
holds_same (copy other) before after same = same
holds_same (bit_of path e bit) before after same = same
holds_same (flop path clock next bit) before after same = same

holds_activated : (d : Driver) (before now after : Bool) → after ≡ held_after d before now → HoldsOn d before after
holds_activated (hold path gate e bit) before now after is = tt
holds_activated outside before now after is = is
holds_activated (copy other) before now after is = is
holds_activated (bit_of path e bit) before now after is = is
holds_activated (flop path clock next bit) before now after is = is

holds_further : (d : Driver) (first second third : Bool) → HoldsOn d first second → HoldsOn d second third → HoldsOn d first third
holds_further (hold path gate e bit) first second third a b = tt
holds_further outside first second third a b = b ∙ a
holds_further (copy other) first second third a b = b ∙ a
holds_further (bit_of path e bit) first second third a b = b ∙ a
holds_further (flop path clock next bit) first second third a b = b ∙ a

module _ (s : Setting) (begun : State) where
  -- what stays within a cycle
  pub record Keeps (at : State) : Type 0 where
    pub loaded : IsLoaded s.text at
    pub loading : (p : Point) → IsLoading s.text p → at.now p ≡ begun.now p
    pub inputs : (p : Point) → Drives s.text p outside → at.now p ≡ begun.now p
    pub holding : (p : Point) (d : Driver) → Drives s.text p d → HoldsOn d (begun.held p) (at.held p)

  apart : (q p : Point) → same_point q p ≡ false → p ≢ q
  apart q p other same = false≢true (sym other ∙ ap (same_point q) same ∙ same_point_refl q)

  input_stays : (q p : Point) (a b : State) → IsActivation s.text q a b → Drives s.text p outside → b.now p ≡ a.now p
  input_stays q p a b step drives =
      elim (cases_Bool (same_point q p)) [
        | inl here ↦ (
            let same : q ≡ p = same_point_is q p here in
            subst (λ (r : Point). b.now r ≡ a.now r) same (step.takes outside (subst (λ (r : Point). Drives s.text r outside) (sym same) drives)))
        | inr other ↦ (step.others p (apart q p other)).0
      ]

  held_stays : (q p : Point) (a b : State) (d : Driver) → IsActivation s.text q a b → Drives s.text p d → HoldsOn d (a.held p) (b.held p)
  held_stays q p a b d step drives =
      elim (cases_Bool (same_point q p)) [
        | inl here ↦ (
            let same : q ≡ p = same_point_is q p here in
            subst (λ (r : Point). HoldsOn d (a.held r) (b.held r)) same
            (holds_activated d (a.held q) (b.now q) (b.held q) (step.holds d (subst (λ (r : Point). Drives s.text r d) (sym same) drives))))
        | inr other ↦ holds_same d (a.held p) (b.held p) (step.others p (apart q p other)).1
      ]

  activation_keeps : (q : Point) (a b : State) → Keeps a → IsActivation s.text q a b → Keeps b
  activation_keeps q a b keeps step =
      let one = s.stay s.text (sound_drives_once s.text s.sound) (activate q ∷ []) a b keeps.loaded (b, record { step = step; kind = tt }, refl) in
      record {
        loaded = one.0;
        loading = λ p loads. one.1 p loads ∙ keeps.loading p loads;
        inputs = λ p drives. input_stays q p a b step drives ∙ keeps.inputs p drives;
        holding = λ p d drives.
            holds_further d (begun.held p) (a.held p) (b.held p) (keeps.holding p d drives) (held_stays q p a b d step drives);
      }

  -- a point that is no loading point shows the same over what was given and held when the cycle began
  as_begun : (a : State) → Keeps a → (q : Point) (d : Driver) → is_declared s.text q ≡ true → Drives s.text q d →
      IsLoading s.text q ⊎ (shown s.text begun.now begun.held a.now q d ≡ shown s.text a.now a.held a.now q d)
  as_begun a keeps q outside declared drives = inr (sym (keeps.inputs q drives))
  as_begun a keeps q (copy other) declared drives = inr refl
  as_begun a keeps q (bit_of path e bit) declared drives = inr refl
  as_begun a keeps q (flop path clock next bit) declared drives = inr (sym (keeps.holding q (flop path clock next bit) drives))
  as_begun a keeps q (hold path gate e bit) declared drives = inl (s.latches q path gate e bit declared drives)

  abbrev pub given_inputs : Terns
  given_inputs p = known (begun.now p)

  abbrev pub given_held : Terns
  given_held p = known (begun.held p)

  abbrev pass : ℕ → Terns
  pass = passes.pass s given_inputs given_held

  abbrev driver : Point → Driver
  driver = passes.driver s given_inputs given_held

  module _ (solution : Terns) (least : IsLeastSolution s.text given_inputs given_held solution) (begins : IsLoaded s.text begun) where
    loading_known : (p : Point) → IsLoading s.text p → solution p ≡ known (begun.now p)
    loading_known =
        s.knows s.text given_inputs given_held solution begun.now begun.held begun.now least.solves (λ p is. refl) (λ p loads. refl) begins

    -- what a pass knows stands
    abbrev Stands : (k : ℕ) → Assignment → Type 0
    Stands k now = AreBelow (pass k) (λ p. known (now p))

    pub first_stands : (now : Assignment) → Stands zero now
    first_stands now p = subst (λ (t : Tern). IsBelow t (known (now p))) (sym (passes.pass_first s given_inputs given_held p)) tt

    -- an activated point takes what one more pass knows of it
    takes_next : (k : ℕ) (q : Point) (a b : State) → Keeps a → Stands k a.now → IsActivation s.text q a b → IsBelow (pass (suc k) q) (known (b.now q))
    takes_next k q a b keeps stands step =
        elim (cases_Bool (is_declared s.text q)) [
          | inr none ↦ passes.undeclared_below s given_inputs given_held (suc k) q (known (b.now q)) none
          | inl declared ↦ (
              let drives = passes.driven s given_inputs given_held q declared in
              elim (as_begun a keeps q (driver q) declared drives) [
                | inl loads ↦ (
                    let is : solution q ≡ known (b.now q) =
                    loading_known q loads ∙ ap known (sym ((activation_keeps q a b keeps step).loading q loads)) in
                    subst (λ (t : Tern). IsBelow (pass (suc k) q) t) is (passes.pass_below s given_inputs given_held solution least (suc k) q))
                | inr same ↦ (
                    let all : tern_given s.text given_inputs given_held (λ r. known (a.now r)) q (driver q) ≡ known (b.now q) =
                    given_shown s.text begun.now begun.held (λ r. known (a.now r)) q (driver q)
                    ∙ driver_known s.text begun.now begun.held a.now (λ r. known (a.now r)) q (driver q) (λ r is_read. refl)
                    ∙ ap known (same ∙ sym (step.takes (driver q) drives)) in
                    subst (λ (t : Tern). IsBelow t (known (b.now q))) (sym (passes.pass_next s given_inputs given_held k q declared))
                    (subst (λ (t : Tern). IsBelow (passes.show s given_inputs given_held q (pass k)) t) all
                    (passes.monotone s given_inputs given_held q (pass k) (λ r. known (a.now r)) declared stands)))
              ])
        ]

    -- a point that is not activated stays
    elsewhere : (t : Tern) (q p : Point) (a b : State) → IsActivation s.text q a b → same_point q p ≡ false → IsBelow t (known (a.now p)) →
        IsBelow t (known (b.now p))
    elsewhere t q p a b step other below = subst (λ (v : Bool). IsBelow t (known v)) (sym (step.others p (apart q p other)).0) below

    next_here : (k : ℕ) (q p : Point) (a b : State) → Keeps a → Stands k a.now → IsActivation s.text q a b → q ≡ p →
        IsBelow (pass (suc k) p) (known (b.now p))
    next_here k q p a b keeps stands step same =
        subst (λ (r : Point). IsBelow (pass (suc k) r) (known (b.now r))) same (takes_next k q a b keeps stands step)

    next_still : (k : ℕ) (q p : Point) (a b : State) → Keeps a → Stands k a.now → IsActivation s.text q a b →
        IsBelow (pass (suc k) p) (known (a.now p)) → IsBelow (pass (suc k) p) (known (b.now p))
    next_still k q p a b keeps stands step below =
        elim (cases_Bool (same_point q p)) [
          | inl here ↦ next_here k q p a b keeps stands step (same_point_is q p here)
          | inr other ↦ elsewhere (pass (suc k) p) q p a b step other below
        ]

    still_stands : (k : ℕ) (q : Point) (a b : State) → Keeps a → Stands k a.now → IsActivation s.text q a b → Stands k b.now
    still_stands k q a b keeps stands step p =
        elim (cases_Bool (same_point q p)) [
          | inl here ↦ below_trans (pass k p) (pass (suc k) p) (known (b.now p)) (passes.pass_grows s given_inputs given_held k p)
              (next_here k q p a b keeps stands step (same_point_is q p here))
          | inr other ↦ elsewhere (pass k p) q p a b step other (stands p)
        ]

    -- along activations, each point that was activated takes one more pass
    activations : (k : ℕ) (ps : List Point) (a b : State) → Keeps a → Stands k a.now → AreSteps (IsStep s.text) (map activate ps) a b →
        Keeps b × ((p : Point) → Contains ps p ⊎ IsBelow (pass (suc k) p) (known (a.now p)) → IsBelow (pass (suc k) p) (known (b.now p)))
    activations k [] a b keeps stands steps =
        subst (λ (c : State). Keeps c × ((p : Point) → Contains [] p ⊎ IsBelow (pass (suc k) p) (known (a.now p)) → IsBelow (pass (suc k) p) (known (c.now p))))
        steps (keeps, λ p was. elim was [ inl there ↦ absurd (omega (arith, there.1)) | inr below ↦ below ])
    activations k (q ∷ ps) a b keeps stands (between, step, steps) =
        let rest = activations k ps between b (activation_keeps q a between keeps step) (still_stands k q a between keeps stands step) steps in (
          rest.0,
          λ p was. rest.1 p (elim was [
            | inl there ↦ elim (first_or_later q ps p there) [
              | inl same ↦ inr (next_here k q p a between keeps stands step same)
              | inr later ↦ inl later
            ]
            | inr below ↦ inr (next_still k q p a between keeps stands step below)
          ]),
        )

    -- ---- a block

    -- a moment of the cycle
    pub record IsAt (moment : Moment) : Type 0 where
      pub keeps : Keeps moment.standing
      pub all : HasAll s.text moment.order
      pub solution_is : moment.solution ≡ solution

    module _ (draws : ℕ → ℕ) where
      pub block : (k : ℕ) (before after : Moment) → IsAt before → Stands k before.standing.now → IsOrderedBlock s.text draws before after →
          IsAt after × Stands (suc k) after.standing.now
      block k before after at stands is =
          let all : HasAll s.text after.order =
          subst (HasAll s.text) (sym is.order) (shuffled_all s.text _ before.order at.all) in
          let taken = activations k is.activated before.standing after.standing at.keeps stands is.steps in (
            record { keeps = taken.0; all = all; solution_is = is.solution ∙ at.solution_is },
            λ p.
                elim (cases_Bool (is_declared s.text p)) [
                  | inl declared ↦ taken.1 p (inl (all_activated s.text s.sound after.order is.activated all is.numbered p declared))
                  | inr none ↦ passes.undeclared_below s given_inputs given_held (suc k) p (known (after.standing.now p)) none
                ],
          )

      -- where a block changes no known point, all passes stood before it
      unchanged_stands : (before after : Moment) → IsAt before → IsOrderedBlock s.text draws before after → (ChangesKnown s.text before after → ⊥) → (k : ℕ) →
          Stands k before.standing.now
      unchanged_stands before after at is unchanged zero p = first_stands before.standing.now p
      unchanged_stands before after at is unchanged (suc k) p =
          let stands = (block k before after at (unchanged_stands before after at is unchanged k) is).1 p in
          elim (cases_Bool (is_declared s.text p)) [
            | inr none ↦ passes.undeclared_below s given_inputs given_held (suc k) p (known (before.standing.now p)) none
            | inl declared ↦ elim (known_or_not (pass (suc k) p)) [
              | inl dark ↦ subst (λ (t : Tern). IsBelow t (known (before.standing.now p))) (sym dark) tt
              | inr value ↦ (
                  let is_known : solution p ≡ known value.0 =
                  below_known (pass (suc k) p) (solution p) value.0 value.1 (passes.pass_below s given_inputs given_held solution least (suc k) p) in
                  let same : after.standing.now p ≡ before.standing.now p =
                  unless_changed (after.standing.now p) (before.standing.now p) (λ differ. unchanged (record {
                    p = p;
                    declared = declared;
                    value = value.0;
                    is_known = ap (λ (t : Terns). t p) at.solution_is ∙ is_known;
                    changed = differ;
                  })) in
                  subst (λ (v : Bool). IsBelow (pass (suc k) p) (known v)) same stands)
            ]
          ]

      -- ---- the blocks of a cycle

      all_stand : (now : Assignment) → Stands (passes.enough s given_inputs given_held) now → AllStand s.text solution now
      all_stand now stands p value declared is =
          known_above (solution p) value (now p) is
          (below_trans (solution p) (pass (passes.enough s given_inputs given_held) p) (known (now p))
          (passes.solution_below s given_inputs given_held solution least p declared) (stands p))

      one_more : (now : Assignment) → Stands (suc (passes.enough s given_inputs given_held)) now → Stands (passes.enough s given_inputs given_held) now
      one_more now stands p =
          below_trans (pass (passes.enough s given_inputs given_held) p) (pass (suc (passes.enough s given_inputs given_held)) p) (known (now p))
          (passes.pass_grows s given_inputs given_held (passes.enough s given_inputs given_held) p) (stands p)

      -- once all passes stand, a block changes no known point
      nothing_left : (before after : Moment) → IsAt before → Stands (passes.enough s given_inputs given_held) before.standing.now →
          IsOrderedBlock s.text draws before after → ChangesKnown s.text before after → ⊥
      nothing_left before after at stands is changes =
          let known_here : solution changes.p ≡ known changes.value = ap (λ (t : Terns). t changes.p) (sym at.solution_is) ∙ changes.is_known in
          let was = all_stand before.standing.now stands changes.p changes.value changes.declared known_here in
          let now = all_stand after.standing.now (one_more after.standing.now (block _ before after at stands is).1) changes.p changes.value changes.declared
          known_here in
          changes.changed (now ∙ sym was)

      pub blocks_settle : (most k : ℕ) (before after : Moment) (blocks : AreOrderedBlocks s.text draws most before after) →
          most + k ≡ suc (passes.enough s given_inputs given_held) → k ≤ passes.enough s given_inputs given_held → IsAt before → Stands k before.standing.now →
          EndUnchanged blocks × IsAt after × AllStand s.text solution after.standing.now
      blocks_settle zero k before after enough count few at stands = absurd (omega (arith, count, few))
      blocks_settle (suc most) k before after (last is unchanged) count few at stands =
          let all = unchanged_stands before after at is unchanged (passes.enough s given_inputs given_held) in
          let next = block (passes.enough s given_inputs given_held) before after at all is in
          (tt, next.0, all_stand after.standing.now (one_more after.standing.now next.1))
      blocks_settle (suc most) k before after (more {between = between} is changes later) count few at stands =
          elim (cases_lt k (passes.enough s given_inputs given_held)) [
            | inl below ↦ (
                let next = block k before between at stands is in
                blocks_settle most (suc k) between after later (omega (arith, count)) (omega (arith, below)) next.0 next.1)
            | inr not_below ↦ (
                let same : k ≡ passes.enough s given_inputs given_held = omega (arith, not_below, few) in
                absurd (nothing_left before between at (subst (λ n. Stands n before.standing.now) same stands) is changes))
          ]
