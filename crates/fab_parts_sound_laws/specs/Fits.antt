-- When a module fits into a text behind the modules that stand before it: the rules of sound texts, said of one module.
use Rattle.std.specs.Prelude.{◌≡◌, ◌≢◌, List, [], ◌∷◌, ◌++◌, All, AllPairs}
use Rattle.fab_syntax.specs.Plain.{PlainModule}
use Rattle.fab_syntax.specs.Sound.{refusals, mentions_in, item_expressions, Every, SelectFits, OperandsFit, SidesFit, InstanceFits, PortIsDriven, ItemIsDriven, ClockFits, IsSound}

pub record FitsIn (text before : List PlainModule) (m : PlainModule) : Type 0 where
  pub names : refusals [] (mentions_in m) ≡ []
  pub selects : All (λ item. All (Every (SelectFits m)) (item_expressions item)) m.items
  pub widths : All (λ item. All (Every (OperandsFit m)) (item_expressions item) × SidesFit m item) m.items
  pub instances : All (InstanceFits before m) m.items
  pub ports_driven : All (PortIsDriven text m) m.ports
  pub items_driven : All (ItemIsDriven text m) m.items
  pub clocks : All (ClockFits text m) m.items

-- each of these modules fits behind those before it
abbrev pub AllFit : (text before rest : List PlainModule) → Type 0
AllFit text before [] = Unit {0}
AllFit text before (m ∷ rest) = FitsIn text before m × AllFit text (before ++ m ∷ []) rest

-- A text whose modules fit, and have names of their own, is sound.
abbrev pub FittingTextsAreSound : Type 0
FittingTextsAreSound = (text : List PlainModule) → AllPairs (λ first second. first.name ≢ second.name) text → AllFit text [] text → IsSound text
