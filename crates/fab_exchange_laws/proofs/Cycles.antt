-- Cycle by cycle, while words come, the pads show what the netlist says.
use Rattle.std.proofs.Common.{◌≡◌, ℕ, Bool, List, [], ◌∷◌, ◌++◌, map, refl, ap, ◌∙◌, subst}
use Rattle.std.specs.List.{All, AllZip, flat_map}
use Rattle.std.proofs.lemmas.List.{map-append}
use Rattle.std.proofs.lemmas.List.Elements.{All-nil, All-cons, All-head, All-tail}
use Rattle.fab_meaning.specs.Settled.{Assignment}
use Rattle.fab_meaning.specs.Runs.{Moment}
use Rattle.fab_netlist.specs.Plain.{PlainNetlist, bit_at}
use Rattle.fab_netlist.specs.Meaning.{Meets, next_held, IsRun}
use Rattle.fab_gen_loader.specs.Machine.{Word}
use Rattle.fab_loading_laws.specs.Latches.{Turn, word, pause, other_clock, words_of}
use Rattle.fab_text_loads_laws.specs.Loads.{IsTurn}
use Rattle.fab_runs_laws.specs.fab_use_defs_Cycles.{Instant, AreInstants, Shows, EndsCycle, Cycle, EachShows}
use Rattle.fab_runs_laws.proofs.Instants.{Has, Passes, loader_holds}
use Rattle.fab_exchange_laws.specs.Runs.{FeedsPads, AreOpenCycles, IsPartFed, moment_of}
use Rattle.fab_exchange_laws.proofs.Instants.{Exchange, Stands, carried, user_holds, goes_on, same_stands}

-- ---- turns one after the other

-- the turns of some moments, and those of the moments behind them
pub record SplitsTurns (turns : List Turn) (front back : List Moment) : Type 0 where
  pub first : List Turn
  pub second : List Turn
  pub turns_are : turns ≡ first ++ second
  pub of_front : AllZip IsTurn first front
  pub of_back : AllZip IsTurn second back

pub split_turns : (turns : List Turn) (front back : List Moment) → AllZip IsTurn turns (front ++ back) → SplitsTurns turns front back
split_turns turns [] back are = record { first = []; second = turns; turns_are = refl; of_front = tt; of_back = are }
split_turns [] (moment ∷ front) back are = absurd are
split_turns (turn ∷ turns) (moment ∷ front) back are =
    let rest = split_turns turns front back are.1 in
    record { first = turn ∷ rest.first; second = rest.second; turns_are = ap (λ ts. turn ∷ ts) rest.turns_are; of_front = (are.0, rest.of_front); of_back = rest.of_back }

words_both : (first second : List Turn) (rest : List Word) → words_of (first ++ second) ++ rest ≡ words_of first ++ (words_of second ++ rest)
words_both [] second rest = refl
words_both (word offered ∷ first) second rest = ap (λ words. offered ∷ words) (words_both first second rest)
words_both (pause ∷ first) second rest = words_both first second rest
words_both (other_clock ∷ first) second rest = words_both first second rest

pub words_split : (turns : List Turn) (front back : List Moment) (split : SplitsTurns turns front back) (rest : List Word) →
    words_of turns ++ rest ≡ words_of split.first ++ (words_of split.second ++ rest)
words_split turns front back split rest = ap (λ ts. words_of ts ++ rest) split.turns_are ∙ words_both split.first split.second rest

-- ---- runs of the netlist

-- what the latches hold behind a run
abbrev pub last_held : PlainNetlist → (latches : List Bool) → List (ℕ → Bool) → List Bool
last_held netlist latches [] = latches
last_held netlist latches (nets ∷ later) = last_held netlist (next_held netlist nets) later

-- a run goes on with one more vector
pub one_more : (netlist : PlainNetlist) (latches : List Bool) (vectors : List (List Bool)) (nows : List (ℕ → Bool)) (given : List Bool) (nets : ℕ → Bool) →
    IsRun netlist latches vectors nows → Meets netlist (bit_at given) (bit_at (last_held netlist latches nows)) nets →
    IsRun netlist latches (vectors ++ given ∷ []) (nows ++ nets ∷ [])
one_more netlist latches [] [] given nets run meets = (meets, tt)
one_more netlist latches [] (now ∷ nows) given nets run meets = absurd run
one_more netlist latches (vector ∷ vectors) [] given nets run meets = absurd run
one_more netlist latches (vector ∷ vectors) (now ∷ nows) given nets run meets = (run.0, one_more netlist (next_held netlist now) vectors nows given nets run.1 meets)

-- what the nets have in a run over one vector
pub one_vector : (netlist : PlainNetlist) (latches given : List Bool) (nows : List (ℕ → Bool)) → IsRun netlist latches (given ∷ []) nows →
    (nets : ℕ → Bool) × Meets netlist (bit_at given) (bit_at latches) nets
one_vector netlist latches given [] run = absurd run
one_vector netlist latches given (nets ∷ later) run = (nets, run.0)

module _ (e : Exchange) where
  -- ---- one cycle

  module _ (given : List Bool) where
    abbrev IsGiven : Instant → Type 0
    IsGiven i = FeedsPads e.s.netlist e.s.implementation given i.inputs

    abbrev IsPart : Instant → Type 0
    IsPart i = IsPartFed e.s.netlist e.s.implementation given i

    module _ (latches : List Bool) (nets : ℕ → Bool) (meets : Meets e.s.netlist (bit_at given) (bit_at latches) nets) where
      abbrev ShowsThem : Instant → Type 0
      ShowsThem i = Shows e.s.netlist e.s.implementation i.now nets

      cycle_shows : (is : List Instant) (turns : List Turn) (rest : List Word) (held after : Assignment) → EndsCycle is → All IsGiven is → AllZip IsTurn turns (map moment_of is) →
          AreInstants (Has e.s) e.s.text is held after → Stands e held latches (words_of turns ++ rest) → All ShowsThem is × Stands e after (next_held e.s.netlist nets) rest
      cycle_shows [] turns rest held after ends given_all are run stands = absurd ends
      cycle_shows (i ∷ is) [] rest held after ends given_all are run stands = absurd are
      cycle_shows (i ∷ []) (turn ∷ t ∷ turns) rest held after ends given_all are run stands = absurd are.1
      cycle_shows (i ∷ []) (turn ∷ []) rest held after ends given_all are (next, settled, low, ticks, same) stands =
          let passes : Passes e.s i held next = record { settled = settled; low = low; ticks = ticks } in
          let feeds = All-head IsGiven i [] given_all in
          let words = words_of (turn ∷ []) ++ rest in
          let behind : Stands e next (next_held e.s.netlist nets) rest = record {
            way = goes_on e i held next passes turn [] rest are.0 stands.way;
            holds = user_holds e i held next passes words stands.way given latches stands.holds feeds nets meets ends;
          } in (
            All-cons ShowsThem i [] (carried e i held next passes words stands.way given latches stands.holds feeds nets meets).0 (All-nil ShowsThem),
            same_stands e next after (next_held e.s.netlist nets) rest same behind,
          )
      cycle_shows (i ∷ j ∷ more) (turn ∷ turns) rest held after ends given_all are (next, settled, low, ticks, run) stands =
          let passes : Passes e.s i held next = record { settled = settled; low = low; ticks = ticks } in
          let feeds = All-head IsGiven i (j ∷ more) given_all in
          let words = words_of (turn ∷ turns) ++ rest in
          let behind : Stands e next latches (words_of turns ++ rest) = record {
            way = goes_on e i held next passes turn turns rest are.0 stands.way;
            holds = loader_holds e.s i held next passes latches stands.holds ends.0;
          } in
          let others = cycle_shows (j ∷ more) turns rest next after ends.1 (All-tail IsGiven i (j ∷ more) given_all) are.1 run behind in
          (All-cons ShowsThem i (j ∷ more) (carried e i held next passes words stands.way given latches stands.holds feeds nets meets).0 others.0, others.1)

      -- the first instants of a cycle
      part_shows : (is : List Instant) (turns : List Turn) (rest : List Word) (held after : Assignment) → All IsPart is → AllZip IsTurn turns (map moment_of is) →
          AreInstants (Has e.s) e.s.text is held after → Stands e held latches (words_of turns ++ rest) → All ShowsThem is × Stands e after latches rest
      part_shows [] [] rest held after fed are same stands = (All-nil ShowsThem, same_stands e held after latches rest same stands)
      part_shows [] (turn ∷ turns) rest held after fed are same stands = absurd are
      part_shows (i ∷ is) [] rest held after fed are run stands = absurd are
      part_shows (i ∷ is) (turn ∷ turns) rest held after fed are (next, settled, low, ticks, run) stands =
          let passes : Passes e.s i held next = record { settled = settled; low = low; ticks = ticks } in
          let here = All-head IsPart i is fed in
          let words = words_of (turn ∷ turns) ++ rest in
          let behind : Stands e next latches (words_of turns ++ rest) = record {
            way = goes_on e i held next passes turn turns rest are.0 stands.way;
            holds = loader_holds e.s i held next passes latches stands.holds here.1;
          } in
          let others = part_shows is turns rest next after (All-tail IsPart i is fed) are.1 run behind in
          (All-cons ShowsThem i is (carried e i held next passes words stands.way given latches stands.holds here.0 nets meets).0 others.0, others.1)

  -- ---- all cycles

  abbrev pub vectors : List Cycle → List (List Bool)
  vectors cycles = map (λ (c : Cycle). c.given) cycles

  abbrev pub all_instants : List Cycle → List Instant
  all_instants cycles = flat_map (λ (c : Cycle). c.instants) cycles

  pub cycles_show : (cycles : List Cycle) (turns : List Turn) (rest : List Word) (held after : Assignment) (latches : List Bool) (nows : List (ℕ → Bool)) →
      AreOpenCycles (Has e.s) e.s.text e.s.netlist e.s.implementation cycles held after → AllZip IsTurn turns (map moment_of (all_instants cycles)) →
      IsRun e.s.netlist latches (vectors cycles) nows → Stands e held latches (words_of turns ++ rest) →
      EachShows e.s.netlist e.s.implementation cycles nows × Stands e after (last_held e.s.netlist latches nows) rest
  cycles_show [] [] rest held after latches [] same are run stands = (tt, same_stands e held after latches rest same stands)
  cycles_show [] (turn ∷ turns) rest held after latches nows same are run stands = absurd are
  cycles_show [] [] rest held after latches (nets ∷ later) same are run stands = absurd run
  cycles_show (c ∷ more) turns rest held after latches [] is are run stands = absurd run
  cycles_show (c ∷ more) turns rest held after latches (nets ∷ later) (is_cycle, next, here, others_are) are run stands =
      let moments : map moment_of (c.instants ++ all_instants more) ≡ map moment_of c.instants ++ map moment_of (all_instants more) = map-append moment_of c.instants (all_instants more) in
      let split = split_turns turns (map moment_of c.instants) (map moment_of (all_instants more)) (subst (AllZip IsTurn turns) moments are) in
      let words = words_split turns (map moment_of c.instants) (map moment_of (all_instants more)) split rest in
      let one = cycle_shows c.given latches nets run.0 c.instants split.first (words_of split.second ++ rest) held next is_cycle.0 is_cycle.1 split.of_front here
      (subst (Stands e held latches) words stands) in
      let all = cycles_show more split.second rest next after (next_held e.s.netlist nets) later others_are split.of_back run.1 one.1 in
      ((one.0, all.0), all.1)

  -- ---- the part of one more

  pub part_show : (given : List Bool) (is : List Instant) (turns : List Turn) (rest : List Word) (held after : Assignment) (latches : List Bool) (nets : ℕ → Bool) →
      Meets e.s.netlist (bit_at given) (bit_at latches) nets → All (IsPartFed e.s.netlist e.s.implementation given) is → AllZip IsTurn turns (map moment_of is) →
      AreInstants (Has e.s) e.s.text is held after → Stands e held latches (words_of turns ++ rest) →
      All (λ (i : Instant). Shows e.s.netlist e.s.implementation i.now nets) is × Stands e after latches rest
  part_show given is turns rest held after latches nets meets fed are run stands = part_shows given latches nets meets is turns rest held after fed are run stands
