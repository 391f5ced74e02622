-- Which ports of a module without instances serve as clocks.
use Rattle.std.proofs.Common.{ℕ, List, All}
use Rattle.std.proofs.lemmas.List.Elements.{All-contains}
use Rattle.fab_syntax.specs.Plain.{PlainItem, PlainModule, clocked, instance}
use Rattle.fab_syntax.specs.Sound.{ServesAsClock, ticks, leads}

-- a flip-flop has a clock of which this holds, and there are no instances
abbrev pub ClocksBy : (List ℕ → Type 0) → PlainItem → Type 0
ClocksBy P (clocked clock target e) = P clock
ClocksBy P (instance module_name i joins) = ⊥
ClocksBy P _ = Unit {0}

pub serves : (P : List ℕ → Type 0) (text : List PlainModule) (m : PlainModule) (port : List ℕ) → All (ClocksBy P) m.items → ServesAsClock text m port → P port
serves P text m port all (ticks target value there) = All-contains (ClocksBy P) m.items (clocked port target value) all there
serves P text m port all (leads module_name i joins join below there among to named later) =
    absurd (All-contains (ClocksBy P) m.items (instance module_name i joins) all there)
