-- Instants and cycles behind others.
use Rattle.std.proofs.Common.{◌≡◌, ℕ, List, [], ◌∷◌, ◌++◌, refl, ap, ◌∙◌, if◌then◌else◌}
use Rattle.fab_syntax.specs.Plain.{PlainModule}
use Rattle.fab_meaning.specs.Points.{Point, Driver, outside, copy, bit_of, flop, hold}
use Rattle.fab_meaning.specs.Value.{value, bit_at}
use Rattle.fab_meaning.specs.Settled.{Assignment, names_at, shown}
use Rattle.fab_meaning.specs.Runs.{clock_of, is_clock, kept}
use Rattle.fab_netlist.specs.Plain.{PlainNetlist}
use Rattle.fab_implementation.specs.Plain.{PlainImplementation}
use Rattle.fab_points_laws.specs.fab_use_defs_Cycles.{Instant, AreInstants, IsCycle, Cycle, AreCycles}

module _ (text : List PlainModule) where
  -- what a point shows, and what it is left with, looks at what is held there alone
  shown_alike : (inputs a b now : Assignment) (p : Point) (d : Driver) → a p ≡ b p → shown text inputs a now p d ≡ shown text inputs b now p d
  shown_alike inputs a b now p outside same = refl
  shown_alike inputs a b now p (copy other) same = refl
  shown_alike inputs a b now p (bit_of path e bit) same = refl
  shown_alike inputs a b now p (flop path clock next bit) same = same
  shown_alike inputs a b now p (hold path gate e bit) same =
      ap (λ h. if bit_at (value (names_at text now path) gate) 0 then bit_at (value (names_at text now path) e) bit else h) same

  kept_alike : (clock : List ℕ) (a b now : Assignment) (p : Point) (d : Driver) → a p ≡ b p → kept text clock a now p d ≡ kept text clock b now p d
  kept_alike clock a b now p outside same = same
  kept_alike clock a b now p (copy other) same = same
  kept_alike clock a b now p (bit_of path e bit) same = same
  kept_alike clock a b now p (flop path own next bit) same =
      ap (λ h. if is_clock clock (clock_of text path own) then bit_at (value (names_at text now path) next) bit else h) same
  kept_alike clock a b now p (hold path gate e bit) same = refl

  module _ (Has : Point → Type 0) where
    -- instants may begin with any content that is the same on the points
    instants_from : (instants : List Instant) (held other after : Assignment) → ((p : Point) → Has p → held p ≡ other p) →
        AreInstants Has text instants held after → AreInstants Has text instants other after
    instants_from [] held other after same are = λ p has. are p has ∙ same p has
    instants_from (i ∷ more) held other after same (next, settled, low, ticks, rest) = (
      next,
      (λ p d has drives. settled p d has drives ∙ shown_alike i.inputs held other i.now p d (same p has)),
      low,
      (λ p d has drives. ticks p d has drives ∙ kept_alike i.clock held other i.now p d (same p has)),
      rest,
    )

    pub one_more_instant : (instants : List Instant) (i : Instant) (held middle next : Assignment) → AreInstants Has text instants held middle →
        AreInstants Has text (i ∷ []) middle next → AreInstants Has text (instants ++ i ∷ []) held next
    one_more_instant [] i held middle next same one = instants_from (i ∷ []) middle held next same one
    one_more_instant (j ∷ more) i held middle next (after, settled, low, ticks, rest) one = (after, settled, low, ticks, one_more_instant more i after middle next rest one)

    module _ (netlist : PlainNetlist) (implementation : PlainImplementation) where
      pub one_more_cycle : (cycles : List Cycle) (c : Cycle) (start between next : Assignment) → AreCycles Has text netlist implementation cycles start between →
          IsCycle netlist implementation c → AreInstants Has text c.instants between next → AreCycles Has text netlist implementation (cycles ++ c ∷ []) start next
      one_more_cycle [] c start between next same is_cycle are = (is_cycle, next, instants_from c.instants between start next same are, λ p has. refl)
      one_more_cycle (b ∷ more) c start between next (is_first, middle, first, rest) is_cycle are =
          (is_first, middle, first, one_more_cycle more c middle between next rest is_cycle are)
