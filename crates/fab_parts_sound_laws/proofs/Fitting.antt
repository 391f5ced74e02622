-- A text is sound whose modules fit and have names of their own.
use Rattle.std.proofs.Common.{◌≡◌, ◌≢◌, ℕ, List, [], ◌∷◌, ◌++◌, get_or, None, refl, All, AllPairs, false, arith}
use Rattle.std.specs.Str.{bytes_eq}
use Rattle.std.proofs.lemmas.List.Elements.{All-nil, All-cons, All-head, All-tail}
use Rattle.fab_syntax.specs.Plain.{PlainModule}
use Rattle.fab_syntax.specs.Declarations.{module_named}
use Rattle.fab_syntax.specs.Sound.{refusals, mentions_in, item_expressions, Every, SelectFits, OperandsFit, SidesFit, PortIsDriven, ItemIsDriven, ClockFits, InstancesFitBehind, text_refusals}
use Rattle.fab_tile_drives_laws.proofs.fab_meaning_Declared.{bytes_apart}
use Rattle.fab_parts_sound_laws.specs.Fits.{FitsIn, AllFit, FittingTextsAreSound}
use Rattle.fab_parts_sound_laws.proofs.Lists.{pairs_head, pairs_tail}

module _ (text : List PlainModule) where
  -- a fact that each module has that fits
  each_fits : (P : PlainModule → Type 0) → ((before : List PlainModule) (m : PlainModule) → FitsIn text before m → P m) → (before rest : List PlainModule) → AllFit text before rest → All P rest
  each_fits P has before [] fit = All-nil P
  each_fits P has before (m ∷ rest) fit = All-cons P m rest (has before m fit.0) (each_fits P has (before ++ m ∷ []) rest fit.1)

  each_instances : (before rest : List PlainModule) → AllFit text before rest → InstancesFitBehind before rest
  each_instances before [] fit = tt
  each_instances before (m ∷ rest) fit = (fit.0.instances, each_instances (before ++ m ∷ []) rest fit.1)

  abbrev Differ : PlainModule → PlainModule → Type 0
  Differ first second = first.name ≢ second.name

  -- no module before has the name
  not_named : (seen : List PlainModule) (name : List ℕ) → All (λ (m : PlainModule). m.name ≢ name) seen → module_named seen name ≡ None
  not_named [] name differ = refl
  not_named (m ∷ seen) name differ =
      let other : bytes_eq m.name name ≡ false = bytes_apart m.name name (All-head (λ (n : PlainModule). n.name ≢ name) m seen differ) in
      rw other (not_named seen name (All-tail (λ (n : PlainModule). n.name ≢ name) m seen differ))

  -- the modules that stand before are seen with the last of them first
  names_fit : (seen before rest : List PlainModule) → All (λ m. All (λ n. Differ n m) seen) rest → AllPairs Differ rest → AllFit text before rest → text_refusals seen rest ≡ []
  names_fit seen before [] behind apart fit = refl
  names_fit seen before (m ∷ rest) behind apart fit =
      let new : module_named seen m.name ≡ None = not_named seen m.name (All-head (λ k. All (λ n. Differ n k) seen) m rest behind) in
      let own : refusals [] (mentions_in m) ≡ [] = fit.0.names in
      let later : text_refusals (m ∷ seen) rest ≡ [] =
      names_fit (m ∷ seen) (before ++ m ∷ []) rest
      (λ k d within. All-cons (λ n. Differ n (get_or rest k d)) m seen (pairs_head Differ m rest apart k d within) (All-tail (λ k. All (λ n. Differ n k) seen) m rest behind k d within))
      (pairs_tail Differ m rest apart) fit.1 in
      rw (new, own, later) refl

pub fitting_is_sound : FittingTextsAreSound
fitting_is_sound text apart fit = record {
  names = names_fit text [] [] text (λ k d within i e few. absurd (omega arith)) apart fit;
  selects = each_fits text (λ m. All (λ item. All (Every (SelectFits m)) (item_expressions item)) m.items) (λ before m fits. fits.selects) [] text fit;
  widths = each_fits text (λ m. All (λ item. All (Every (OperandsFit m)) (item_expressions item) × SidesFit m item) m.items) (λ before m fits. fits.widths) [] text fit;
  instances = each_instances text [] text fit;
  drivers = each_fits text (λ m. All (PortIsDriven text m) m.ports × All (ItemIsDriven text m) m.items) (λ before m fits. (fits.ports_driven, fits.items_driven)) [] text fit;
  clocks = each_fits text (λ m. All (ClockFits text m) m.items) (λ before m fits. fits.clocks) [] text fit;
}
