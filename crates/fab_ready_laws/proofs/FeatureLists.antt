-- Features are right on a fabric, or one of them is the first that is wrong.
use Rattle.std.proofs.Common.{◌≡◌, ◌≤◌, ◌⊎◌, ℕ, zero, suc, List, [], ◌∷◌, take, Contains, Option, Some, None, refl, sym, ap, ◌∙◌, arith, inl, inr}
use Rattle.std.proofs.lemmas.Bool.{cases_eq, cases_lt}
use Rattle.fab_model.specs.Grid.{PlainFabric}
use Rattle.fab_legal.specs.Turns.{AreRight}
use Rattle.fab_fasm.specs.declared.feature.Feature.{Feature}
use Rattle.fab_features.specs.Features.{Chooses}
use Rattle.fab_features.specs.Said.{said_of, choice}
use Rattle.fab_features.specs.Wrong.{said_width, IsFeature, Agrees, IsRightFeature, BreaksBehind, unknown, contrary, BreaksFirst}
use Rattle.fab_features.specs.declared.said.Choice.{Choice}
use Rattle.fab_features.specs.declared.said.Said.{Said}
use Rattle.fab_features.specs.declared.said.Said.TheVariants as said
use Rattle.fab_features.proofs.Saids.{one_choice, no_both}
use Rattle.fab_ready_laws.proofs.Decisions.{IsDecided, behind, in_front}
use Rattle.fab_ready_laws.proofs.Turns.{right_or_wrong}

module _ (fabric : PlainFabric) where
  -- ---- what a feature says

  nothing_said : (feature : Feature) → said_of fabric feature.name ≡ None → IsFeature fabric feature → ⊥
  nothing_said feature none is = let some = is.said_is in absurd cc

  too_high : (feature : Feature) (found : Said) → said_of fabric feature.name ≡ Some found → said_width found ≤ feature.high → IsFeature fabric feature → ⊥
  too_high feature found says high is =
      let same : Some found ≡ Some is.found = sym says ∙ is.said_is in
      let width : said_width found ≡ said_width is.found = ap said_width (some_is same) in
      absurd (omega (arith, high, width, is.inside))
    where
      some_is : {a b : Said} → Some a ≡ Some b → a ≡ b
      some_is same = cc

  feature_decided : (feature : Feature) → IsDecided (IsFeature fabric feature)
  feature_decided feature = by_said (said_of fabric feature.name) refl
    where
      by_said : (found : Option Said) → said_of fabric feature.name ≡ found → IsDecided (IsFeature fabric feature)
      by_said None is = inr (nothing_said feature is)
      by_said (Some found) is = elim (cases_lt feature.high (said_width found)) [
        | inl inside ↦ inl (record { found = found; said_is = is; inside = inside })
        | inr high ↦ inr (too_high feature found is high)
      ]

  -- ---- a feature that chooses an input, and those before it

  -- another input is chosen for its output
  record Differs (c : Choice) (earlier : Feature) : Type 0 where
    pub other : ℕ
    pub chooses : Chooses fabric earlier c.x c.y c.output other
    pub differs : other ≡ c.input → ⊥

  -- no other input is
  abbrev IsAlike : Choice → Feature → Type 0
  IsAlike c earlier = (other : ℕ) → Chooses fabric earlier c.x c.y c.output other → other ≡ c.input

  -- a choice of another output
  elsewhere : (c d : Choice) (earlier : Feature) → said_of fabric earlier.name ≡ Some (said.OfPair d) → ((d.x ≡ c.x) → (d.y ≡ c.y) → (d.output ≡ c.output) → ⊥) → IsAlike c earlier
  elsewhere c d earlier says apart other chooses =
      let same : d ≡ choice c.x c.y c.output other = one_choice fabric earlier.name d (choice c.x c.y c.output other) says chooses.said_is in
      absurd (apart (ap (λ (e : Choice). e.x) same) (ap (λ (e : Choice). e.y) same) (ap (λ (e : Choice). e.output) same))

  same_output : (c d : Choice) (earlier : Feature) → said_of fabric earlier.name ≡ Some (said.OfPair d) → (earlier.value ≡ 0 → ⊥) → d.x ≡ c.x → d.y ≡ c.y → d.output ≡ c.output
      → IsAlike c earlier ⊎ Differs c earlier
  same_output c d earlier says some x y output = elim (cases_eq d.input c.input) [
    | inl same ↦ inl (λ other chooses.
        let is : d ≡ choice c.x c.y c.output other = one_choice fabric earlier.name d (choice c.x c.y c.output other) says chooses.said_is in
        sym (ap (λ (e : Choice). e.input) is) ∙ same)
    | inr differs ↦ (
        let moved : d ≡ choice c.x c.y c.output d.input = λ i. choice (x i) (y i) (output i) d.input in
        inr (record { other = d.input; chooses = record { said_is = says ∙ ap (λ (e : Choice). Some (said.OfPair e)) moved; some = some }; differs = differs }))
  ]

  by_output : (c d : Choice) (earlier : Feature) → said_of fabric earlier.name ≡ Some (said.OfPair d) → (earlier.value ≡ 0 → ⊥) → IsAlike c earlier ⊎ Differs c earlier
  by_output c d earlier says some = elim (cases_eq d.x c.x) [
    | inr differs ↦ inl (elsewhere c d earlier says (λ x y output. differs x))
    | inl x ↦
        elim (cases_eq d.y c.y) [
          | inr differs ↦ inl (elsewhere c d earlier says (λ _ y output. differs y))
          | inl y ↦
              elim (cases_eq d.output c.output) [
                | inr differs ↦ inl (elsewhere c d earlier says (λ _ _ output. differs output))
                | inl output ↦ same_output c d earlier says some x y output
              ]
        ]
  ]

  one_judged : (c : Choice) (earlier : Feature) → IsAlike c earlier ⊎ Differs c earlier
  one_judged c earlier = elim (cases_eq earlier.value 0) [
    | inl none ↦ inl (λ other chooses. absurd (chooses.some none))
    | inr some ↦ by_said some (said_of fabric earlier.name) refl
  ]
    where
      by_said : (earlier.value ≡ 0 → ⊥) → (found : Option Said) → said_of fabric earlier.name ≡ found → IsAlike c earlier ⊎ Differs c earlier
      by_said some None is = inl (λ other chooses. let says = chooses.said_is in absurd cc)
      by_said some (Some (said.OfBel field)) is = inl (λ other chooses. no_both fabric earlier.name field (choice c.x c.y c.output other) is chooses.said_is)
      by_said some (Some (said.OfPair d)) is = by_output c d earlier is some

  -- ---- all that stand before it

  before_judged : (c : Choice) (before : List Feature) → ((earlier : Feature) → Contains before earlier → IsAlike c earlier) ⊎ ((earlier : Feature) × Contains before earlier × Differs c earlier)
  before_judged c [] = inl (λ earlier there. absurd (omega (arith, there.1)))
  before_judged c (first ∷ rest) = elim (one_judged c first) [
    | inr differs ↦ inr (first, in_front first rest, differs)
    | inl alike ↦
        elim (before_judged c rest) [
          | inr found ↦ inr (found.0, behind first found.0 rest found.1, found.2)
          | inl all ↦ inl (either alike all)
        ]
  ]
    where
      either : IsAlike c first → ((earlier : Feature) → Contains rest earlier → IsAlike c earlier) → (earlier : Feature) → Contains (first ∷ rest) earlier → IsAlike c earlier
      either alike all earlier (zero, few, is) other chooses = alike other (subst_to is chooses)
        where
          subst_to : first ≡ earlier → Chooses fabric earlier c.x c.y c.output other → Chooses fabric first c.x c.y c.output other
          subst_to same it = record { said_is = ap (λ (f : Feature). said_of fabric f.name) same ∙ it.said_is; some = λ none. it.some (ap (λ (f : Feature). f.value) (sym same) ∙ none) }
      either alike all earlier (suc k, few, is) other chooses = all earlier (k, omega (arith, few), is) other chooses

  -- ---- a feature behind others

  right_feature : (before : List Feature) (feature : Feature) → IsFeature fabric feature → Agrees fabric before feature → IsRightFeature fabric before feature ⊎ ((rule : ℕ) × (item : List ℕ) × BreaksBehind fabric before feature rule item)
  right_feature before feature known agrees = inl (record { known = known; agrees = agrees })

  chosen_judged : (before : List Feature) (feature : Feature) (c : Choice) → IsFeature fabric feature → said_of fabric feature.name ≡ Some (said.OfPair c) → (feature.value ≡ 0 → ⊥)
      → IsRightFeature fabric before feature ⊎ ((rule : ℕ) × (item : List ℕ) × BreaksBehind fabric before feature rule item)
  chosen_judged before feature c known says some = elim (before_judged c before) [
    | inl alike ↦ right_feature before feature known (agrees alike)
    | inr found ↦ (
        let own : Chooses fabric feature c.x c.y c.output c.input = record { said_is = says; some = some } in
        inr (11, _, contrary c.input found.2.other found.0 known own found.1 found.2.chooses found.2.differs))
  ]
    where
      agrees : ((earlier : Feature) → Contains before earlier → IsAlike c earlier) → Agrees fabric before feature
      agrees alike x y output input other earlier chooses there chose =
          let same : c ≡ choice x y output input = one_choice fabric feature.name c (choice x y output input) says chooses.said_is in
          let moved : choice x y output other ≡ choice c.x c.y c.output other = λ i. choice (sym same i).x (sym same i).y (sym same i).output other in
          let there_too : Chooses fabric earlier c.x c.y c.output other = record { said_is = chose.said_is ∙ ap (λ (e : Choice). Some (said.OfPair e)) moved; some = chose.some } in
          alike earlier there other there_too ∙ ap (λ (e : Choice). e.input) same

  feature_judged : (before : List Feature) (feature : Feature) → IsRightFeature fabric before feature ⊎ ((rule : ℕ) × (item : List ℕ) × BreaksBehind fabric before feature rule item)
  feature_judged before feature = elim (feature_decided feature) [
    | inr never ↦ inr (10, feature.name, unknown never)
    | inl known ↦
        elim (cases_eq feature.value 0) [
          | inl none ↦ right_feature before feature known (λ x y output input other earlier chooses there chose. absurd (chooses.some none))
          | inr some ↦ by_said known some (said_of fabric feature.name) refl
        ]
  ]
    where
      by_said : IsFeature fabric feature → (feature.value ≡ 0 → ⊥) → (found : Option Said) → said_of fabric feature.name ≡ found
          → IsRightFeature fabric before feature ⊎ ((rule : ℕ) × (item : List ℕ) × BreaksBehind fabric before feature rule item)
      by_said known some None is = absurd (nothing_said feature is known)
      by_said known some (Some (said.OfBel field)) is =
          right_feature before feature known (λ x y output input other earlier chooses there chose. no_both fabric feature.name field (choice x y output input) is chooses.said_is)
      by_said known some (Some (said.OfPair c)) is = chosen_judged before feature c known is some

  -- all lines are right, or one is the first that is wrong
  pub features_judged : (features : List Feature) → AreRight (IsRightFeature fabric) features ⊎ ((rule : ℕ) × (item : List ℕ) × BreaksFirst fabric features rule item)
  features_judged features = elim (right_or_wrong (IsRightFeature fabric) (λ before feature. (rule : ℕ) × (item : List ℕ) × BreaksBehind fabric before feature rule item) features
      (λ place feature at. feature_judged (take place features) feature)) [
        | inl right ↦ inl right
        | inr has ↦ inr (has.wrong.0, has.wrong.1, record { place = has.place; feature = has.item; is_at = has.is_at; before = has.before; breaks = has.wrong.2 })
      ]
