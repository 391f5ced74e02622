-- Runs of a split netlist are runs of the netlist, on its nets.
use Rattle.std.proofs.Common.{◌≡◌, ℕ, ◌+◌, ◌<◌, Bool, false, List, [], ◌∷◌, ◌++◌, map, replicate, length, get_or, Contains, nat_lt, if◌then◌else◌, Option, Some, None, refl, sym, ap, ◌∙◌, subst, inl, inr, arith}
use Rattle.std.proofs.lemmas.Bool.{cases_Bool, lt-ltb, ltb-true}
use Rattle.std.proofs.lemmas.List.{get_or_append_left}
use Rattle.std.proofs.Math.Seq.{take-length}
use Rattle.std.specs.Str.{bytes_eq}
use Rattle.std.specs.Prelude.{position}
use Rattle.std.specs.List.{flat_map}
use Rattle.fab_bits.specs.Bits.{number}
use Rattle.fab_netlist.specs.declared.netlist.Latch.{Latch}
use Rattle.fab_netlist.specs.Plain.{PlainCover, PlainNetlist, bit_at, name_of}
use Rattle.fab_netlist.specs.WellMade.{IsWired, times, cover_outputs, latch_outputs, latch_inputs, driven, ports, table_bit}
use Rattle.fab_netlist.specs.Meaning.{cover_value, Meets, first_value, reset_by, is_reset, next_held, IsRun, AgreeAlways}
use Rattle.fab_netlist.specs.Resets.{reset_place, with_reset, set_at, netlist_with}
use Rattle.fab_netlist.specs.Wide.{within, RunsAs}
use Rattle.fab_netlist.proofs.Counts.{times_joined}
use Rattle.fab_netlist.proofs.Meaning.{output_small, latch_small, input_small}
use Rattle.fab_netlist.proofs.Members.{in_none, first_or_later, first_in, later_in, at_in, mapped_in, in_left, in_right}
use Rattle.fab_netlist.proofs.Resetting.{inputs_below, place_below}
use Rattle.fab_netlist.proofs.RunLaw.{runs_agree}
use Rattle.fab_netlist.proofs.Stepping.{in_flat}
use Rattle.fab_wide.specs.Split.{taken_by, parts, all_taken, all_parts, split_of}
use Rattle.fab_wide.specs.Laws.{AgreeOn, SplitKeepsRuns, SplitShowsRuns}
use Rattle.fab_wide.proofs.Drivers.{parts_times}
use Rattle.fab_wide.proofs.Values.{Holds, narrow_means}

-- ---- values

-- covers have their values where their parts have
parts_mean : (now : ℕ → Bool) (covers : List PlainCover) (fresh : ℕ) → Holds now (all_parts covers fresh) → Holds now covers
parts_mean now [] fresh holds cover here = absurd (in_none cover here)
parts_mean now (first ∷ covers) fresh holds cover here =
    let rest = all_parts covers (taken_by first + fresh) in
    elim (first_or_later first covers cover here) [
      | inl same ↦ (
          let all = narrow_means now first.line first.inputs (length first.inputs) first.table first.output fresh (omega arith)
          (λ c among. holds c (in_left (parts first fresh) rest c among)) in
          let whole : now first.output ≡ cover_value first now = all ∙ ap (λ nets. table_bit first.table (number (map now nets))) (take-length first.inputs) in
          subst (λ (c : PlainCover). now c.output ≡ cover_value c now) same whole)
      | inr later ↦ parts_mean now covers (taken_by first + fresh) (λ c among. holds c (in_right (parts first fresh) rest c among)) cover later
    ]

-- ---- the first nets

within_is : (n : ℕ) (now : ℕ → Bool) (net : ℕ) → net < n → within n now net ≡ now net
within_is n now net small = rw (lt-ltb net n small) refl

mapped_within : (n : ℕ) (now : ℕ → Bool) (nets : List ℕ) → ((net : ℕ) → Contains nets net → net < n) → map (within n now) nets ≡ map now nets
mapped_within n now [] small = refl
mapped_within n now (net ∷ nets) small =
    let here = within_is n now net (small net (first_in net nets net refl)) in
    let rest = mapped_within n now nets (λ other among. small other (later_in net nets other among)) in
    λ j. here j ∷ rest j

-- ---- runs

module _ (netlist : PlainNetlist) (wiring : IsWired netlist) where
  abbrev n : ℕ
  n = length netlist.nets

  -- what covers and latches read
  pub input_below : (cover : PlainCover) → Contains netlist.covers cover → (net : ℕ) → Contains cover.inputs net → net < n
  input_below cover here net reads =
      wiring.read_below net (in_left (flat_map (λ (c : PlainCover). c.inputs) netlist.covers) (latch_inputs netlist ++ netlist.outputs) net
      (in_flat (λ (c : PlainCover). c.inputs) netlist.covers cover net here reads))

  latch_below : (latch : Latch) → Contains netlist.latches latch → latch.input < n
  latch_below latch here =
      wiring.read_below latch.input (in_right (flat_map (λ (c : PlainCover). c.inputs) netlist.covers) (latch_inputs netlist ++ netlist.outputs) latch.input
      (in_left (latch_inputs netlist) netlist.outputs latch.input (mapped_in (λ (l : Latch). l.input) netlist.latches latch here)))

  module _ (given held now : ℕ → Bool) (meets : Meets (split_of netlist) given held now) where
    abbrev old : ℕ → Bool
    old = within n now

    covers_meet : (cover : PlainCover) → Contains netlist.covers cover → old cover.output ≡ cover_value cover old
    covers_meet cover here =
        within_is n now cover.output (output_small netlist wiring cover here)
        ∙ parts_mean now netlist.covers n meets.covers cover here
        ∙ ap (λ bits. table_bit cover.table (number bits)) (sym (mapped_within n now cover.inputs (input_below cover here)))

    others_meet : (net : ℕ) → times net (driven netlist) ≡ 0 → old net ≡ false
    others_meet net none =
        let behind = latch_outputs netlist ++ netlist.inputs in
        elim (cases_Bool (nat_lt net n)) [
          | inr large ↦ rw large refl
          | inl small ↦ rw small (meets.others net (
              times_joined net (cover_outputs (all_parts netlist.covers n)) behind
              ∙ ap (λ k. k + times net behind) (parts_times netlist.covers n net (ltb-true net n small))
              ∙ sym (times_joined net (cover_outputs netlist.covers) behind) ∙ none))
        ]

    old_meets : Meets netlist given held old
    old_meets = record {
      covers = covers_meet;
      latches = λ place net at. within_is n now net (latch_small netlist wiring net (at_in (latch_outputs netlist) place net at)) ∙ meets.latches place net at;
      inputs = λ place net at. within_is n now net (input_small netlist wiring net (at_in netlist.inputs place net at)) ∙ meets.inputs place net at;
      others = others_meet;
    }

  reset_same : (now : ℕ → Bool) (reset : Option ℕ) → ((place : ℕ) → reset ≡ Some place → place < length netlist.inputs) →
      reset_by netlist.inputs (within n now) reset ≡ reset_by netlist.inputs now reset
  reset_same now None small = refl
  reset_same now (Some place) small = within_is n now (get_or netlist.inputs place 0) (inputs_below netlist wiring place 0 (small place refl))

  next_of : (now : ℕ → Bool) (reset : Bool) (latches : List Latch) → ((latch : Latch) → Contains latches latch → latch.input < n) →
      map (λ latch. if reset then first_value latch else within n now latch.input) latches ≡ map (λ latch. if reset then first_value latch else now
      latch.input) latches
  next_of now reset [] small = refl
  next_of now reset (latch ∷ latches) small =
      let here = within_is n now latch.input (small latch (first_in latch latches latch refl)) in
      let rest = next_of now reset latches (λ other among. small other (later_in latch latches other among)) in
      λ j. (if reset then first_value latch else here j) ∷ rest j

  -- both hold the same next
  next_same : (now : ℕ → Bool) → next_held netlist (within n now) ≡ next_held (split_of netlist) now
  next_same now =
      ap (λ reset. map (λ (latch : Latch). if reset then first_value latch else within n now latch.input) netlist.latches)
      (reset_same now netlist.reset wiring.reset_below)
      ∙ next_of now (is_reset netlist now) netlist.latches latch_below

  runs_kept : (held : List Bool) (vectors : List (List Bool)) (nows : List (ℕ → Bool)) → IsRun (split_of netlist) held vectors nows →
      IsRun netlist held vectors (map (within n) nows)
  runs_kept held [] [] run = tt
  runs_kept held [] (now ∷ later) run = absurd run
  runs_kept held (given ∷ vectors) [] run = absurd run
  runs_kept held (given ∷ vectors) (now ∷ later) run = (
    old_meets (bit_at given) (bit_at held) now run.0,
    subst (λ next. IsRun netlist next vectors (map (within n) later)) (sym (next_same now)) (runs_kept (next_held (split_of netlist) now) vectors later run.1),
  )

  -- ---- names

  pub name_same : (net : ℕ) → net < n → name_of (split_of netlist) net ≡ name_of netlist net
  name_same net small = get_or_append_left netlist.nets (replicate (all_taken netlist.covers) []) [] net small

  pub port_below : (net : ℕ) → Contains (ports netlist) net → net < n
  port_below = ports_below netlist.inputs netlist.outputs (input_small netlist wiring)
      (λ net here. wiring.read_below net (in_right (flat_map (λ (c : PlainCover). c.inputs) netlist.covers) (latch_inputs netlist ++ netlist.outputs) net
      (in_right (latch_inputs netlist) netlist.outputs net here)))
    where
      ports_below : (xs ys : List ℕ) → ((net : ℕ) → Contains xs net → net < n) → ((net : ℕ) → Contains ys net → net < n) → (net : ℕ) →
          Contains (xs ++ ys) net → net < n
      ports_below [] ys first second net here = second net here
      ports_below (x ∷ xs) ys first second net here =
          elim (first_or_later x (xs ++ ys) net here) [
            | inl same ↦ first net (first_in x xs net same)
            | inr later ↦ ports_below xs ys (λ other among. first other (later_in x xs other among)) second net later
          ]

  pub runs_as : RunsAs netlist (split_of netlist)
  runs_as = record {
    inputs = refl;
    outputs = refl;
    latches = refl;
    reset = refl;
    names = name_same;
    ports = port_below;
    runs = runs_kept;
  }

  -- ---- with a reset port

  names_same : (nets : List ℕ) → ((net : ℕ) → Contains nets net → net < n) → map (name_of (split_of netlist)) nets ≡ map (name_of netlist) nets
  names_same [] small = refl
  names_same (net ∷ nets) small =
      let here = name_same net (small net (first_in net nets net refl)) in
      let rest = names_same nets (λ other among. small other (later_in net nets other among)) in
      λ j. here j ∷ rest j

  place_same : (port : List ℕ) → reset_place (split_of netlist) port ≡ reset_place netlist port
  place_same port = ap (position (bytes_eq port)) (names_same netlist.inputs (input_small netlist wiring))

wired_with : (netlist : PlainNetlist) → IsWired netlist → (place : ℕ) → place < length netlist.inputs → IsWired (with_reset place netlist)
wired_with netlist wiring place few = record {
  small = wiring.small;
  driven_below = wiring.driven_below;
  read_below = wiring.read_below;
  initials = wiring.initials;
  driven_once = wiring.driven_once;
  read_driven = wiring.read_driven;
  reset_below = λ other is. subst (λ k. k < length netlist.inputs) (some_same place other is) few;
  ports_differ = wiring.ports_differ;
}
  where
    some_same : (a b : ℕ) → Some a ≡ Some b → a ≡ b
    some_same a b same = cc

pub split_keeps_runs : SplitKeepsRuns
split_keeps_runs netlist wiring None = runs_as netlist wiring
split_keeps_runs netlist wiring (Some port) =
    subst (λ found. RunsAs (netlist_with (Some port) netlist) (set_at found (split_of netlist))) (sym (place_same netlist wiring port))
    (by_place (reset_place netlist port) (place_below netlist port))
  where
    by_place : (found : Option ℕ) → ((place : ℕ) → found ≡ Some place → place < length netlist.inputs) →
        RunsAs (set_at found netlist) (set_at found (split_of netlist))
    by_place None below = runs_as netlist wiring
    by_place (Some place) below = runs_as (with_reset place netlist) (wired_with netlist wiring place (below place refl))

-- ---- all runs

agree_within : (n : ℕ) (first second : List (ℕ → Bool)) → AgreeAlways (map (within n) first) second → AgreeOn n first second
agree_within n [] [] agree = tt
agree_within n [] (b ∷ rest) agree = agree
agree_within n (a ∷ later) [] agree = agree
agree_within n (a ∷ later) (b ∷ rest) agree = (λ net small. sym (within_is n a net small) ∙ agree.0 net, agree_within n later rest agree.1)

pub split_shows_runs : SplitShowsRuns
split_shows_runs netlist wiring acyclic held vectors first second split_run run =
    agree_within (length netlist.nets) first second
    (runs_agree netlist wiring acyclic held vectors (map (within (length netlist.nets)) first) second (runs_kept netlist wiring held vectors first split_run)
    run)
