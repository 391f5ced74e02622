-- A netlist without a cycle of covers has one run over each list of input vectors.
use Rattle.std.proofs.Common.{◌≡◌, ℕ, Bool, List, [], ◌∷◌, map, get_or, Option, Some, None, if◌then◌else◌, refl, sym, ap, ◌∙◌, subst}
use Rattle.fab_netlist.specs.declared.netlist.Latch.{Latch}
use Rattle.fab_netlist.specs.Plain.{PlainNetlist, bit_at}
use Rattle.fab_netlist.specs.WellMade.{IsWired}
use Rattle.fab_netlist.specs.Cycles.{HasNoCycle}
use Rattle.fab_netlist.specs.Meaning.{IsRun, AgreeAlways, first_value, reset_by, is_reset, next_held}
use Rattle.fab_netlist.proofs.Meaning.{one_meaning}

-- assignments that agree give the same next held values
same_latches : (a b : ℕ → Bool) → ((net : ℕ) → a net ≡ b net) → (r : Bool) (latches : List Latch) →
    map (λ (latch : Latch). if r then first_value latch else a latch.input) latches ≡ map (λ (latch : Latch). if r then first_value latch else b latch.input) latches
same_latches a b agree r [] = refl
same_latches a b agree r (latch ∷ latches) =
    let here : a latch.input ≡ b latch.input = agree latch.input in
    let rest = same_latches a b agree r latches in
    λ j. (if r then first_value latch else here j) ∷ rest j

same_reset : (a b : ℕ → Bool) → ((net : ℕ) → a net ≡ b net) → (inputs : List ℕ) (reset : Option ℕ) → reset_by inputs a reset ≡ reset_by inputs b reset
same_reset a b agree inputs None = refl
same_reset a b agree inputs (Some place) = agree (get_or inputs place 0)

same_next : (netlist : PlainNetlist) (a b : ℕ → Bool) → ((net : ℕ) → a net ≡ b net) → next_held netlist a ≡ next_held netlist b
same_next netlist a b agree =
    same_latches a b agree (is_reset netlist a) netlist.latches
    ∙ ap (λ r. map (λ (latch : Latch). if r then first_value latch else b latch.input) netlist.latches) (same_reset a b agree netlist.inputs netlist.reset)

module _ (netlist : PlainNetlist) (wiring : IsWired netlist) (none : HasNoCycle netlist) where
  -- there is a run
  pub run_exists : (held : List Bool) (vectors : List (List Bool)) → (nows : List (ℕ → Bool)) × IsRun netlist held vectors nows
  run_exists held [] = ([], tt)
  run_exists held (given ∷ vectors) =
      let now = (one_meaning netlist wiring none (bit_at given) (bit_at held)).0 in
      let rest = run_exists (next_held netlist now.0) vectors in
      (now.0 ∷ rest.0, (now.1, rest.1))

  -- two runs agree
  pub runs_agree : (held : List Bool) (vectors : List (List Bool)) (first second : List (ℕ → Bool)) → IsRun netlist held vectors first → IsRun netlist held vectors second → AgreeAlways first second
  runs_agree held [] [] [] run_a run_b = tt
  runs_agree held [] [] (b ∷ rest) run_a run_b = absurd run_b
  runs_agree held [] (a ∷ later) second run_a run_b = absurd run_a
  runs_agree held (given ∷ vectors) [] second run_a run_b = absurd run_a
  runs_agree held (given ∷ vectors) (a ∷ later) [] run_a run_b = absurd run_b
  runs_agree held (given ∷ vectors) (a ∷ later) (b ∷ rest) run_a run_b =
      let agree = (one_meaning netlist wiring none (bit_at given) (bit_at held)).1 a b run_a.0 run_b.0 in
      let same : next_held netlist b ≡ next_held netlist a = sym (same_next netlist a b agree) in
      (agree, runs_agree (next_held netlist a) vectors later rest run_a.1 (subst (λ (next : List Bool). IsRun netlist next vectors rest) same run_b.1))
