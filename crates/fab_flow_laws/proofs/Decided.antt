-- Some feature of a list chooses an input for an output, or none does.
use Rattle.std.proofs.Common.{◌≡◌, ◌⊎◌, ℕ, List, [], ◌∷◌, Contains, Option, Some, None, sym, refl, ap, ◌∙◌, subst, inl, inr}
use Rattle.std.proofs.lemmas.Bool.Decides.{eqb_tells}
use Rattle.fab_model.specs.Grid.{PlainFabric}
use Rattle.fab_netlist.proofs.Members.{in_none, first_or_later, first_in, later_in}
use Rattle.fab_fasm.specs.declared.feature.Feature.{Feature}
use Rattle.fab_features.specs.Said.{said_of, choice}
use Rattle.fab_features.specs.Features.{Chooses}
use Rattle.fab_features.specs.declared.said.Choice.{Choice}
use Rattle.fab_features.specs.declared.said.Said.{Said}
use Rattle.fab_features.specs.declared.said.Said.TheVariants as said
use Rattle.fab_features.proofs.Chosen.{the_choice, field_chooses_none}

-- a feature of the list that chooses an input
pub record IsChosen (fabric : PlainFabric) (features : List Feature) (x y output : ℕ) : Type 0 where
  pub feature : Feature
  pub input : ℕ
  pub listed : Contains features feature
  pub chooses : Chooses fabric feature x y output input

abbrev pub NoneChooses : PlainFabric → List Feature → (x y output : ℕ) → Type 0
NoneChooses fabric features x y output = (feature : Feature) (input : ℕ) → Contains features feature → Chooses fabric feature x y output input → ⊥

module _ (fabric : PlainFabric) (x y output : ℕ) where
  abbrev ChoosesOne : Feature → Type 0
  ChoosesOne feature = (input : ℕ) × Chooses fabric feature x y output input

  not_said : (feature : Feature) → said_of fabric feature.name ≡ None → ChoosesOne feature → ⊥
  not_said feature says one = never (choice x y output one.0) (sym says ∙ one.1.said_is)
    where
      never : (c : Choice) → None ≡ Some (said.OfPair c) → ⊥
      never c e = cc

  of_pair : (feature : Feature) (pair : Choice) → said_of fabric feature.name ≡ Some (said.OfPair pair) → ChoosesOne feature ⊎ (ChoosesOne feature → ⊥)
  of_pair feature pair says =
      let same : (one : ChoosesOne feature) → choice x y output one.0 ≡ pair = λ one. the_choice fabric feature pair says x y output one.0 one.1 in
      elim (eqb_tells feature.value 0) [
        | inl none ↦ inr (λ one. one.1.some none.1)
        | inr some ↦ elim (eqb_tells pair.x x) [
          | inr f ↦ inr (λ one. f.1 (sym (ap (λ (c : Choice). c.x) (same one))))
          | inl x_is ↦ elim (eqb_tells pair.y y) [
            | inr f ↦ inr (λ one. f.1 (sym (ap (λ (c : Choice). c.y) (same one))))
            | inl y_is ↦ elim (eqb_tells pair.output output) [
              | inr f ↦ inr (λ one. f.1 (sym (ap (λ (c : Choice). c.output) (same one))))
              | inl output_is ↦ inl (
                pair.input,
                record {
                  said_is = says
                      ∙ ap (λ n. Some (said.OfPair (choice n pair.y pair.output pair.input))) x_is.1
                      ∙ ap (λ n. Some (said.OfPair (choice x n pair.output pair.input))) y_is.1
                      ∙ ap (λ n. Some (said.OfPair (choice x y n pair.input))) output_is.1;
                  some = some.1;
                },
              )
            ]
          ]
        ]
      ]

  one_decided : (feature : Feature) → ChoosesOne feature ⊎ (ChoosesOne feature → ⊥)
  one_decided feature = by (said_of fabric feature.name) refl
    where
      by : (what : Option Said) → said_of fabric feature.name ≡ what → ChoosesOne feature ⊎ (ChoosesOne feature → ⊥)
      by None says = inr (not_said feature says)
      by (Some (said.OfBel field)) says = inr (λ one. field_chooses_none fabric feature field says x y output one.0 one.1)
      by (Some (said.OfPair pair)) says = of_pair feature pair says

  pub decided : (features : List Feature) → IsChosen fabric features x y output ⊎ NoneChooses fabric features x y output
  decided [] = inr (λ feature input here chooses. in_none feature here)
  decided (feature ∷ features) =
      elim (one_decided feature) [
        | inl one ↦ inl (record { feature = feature; input = one.0; listed = first_in feature features feature refl; chooses = one.1 })
        | inr never ↦ elim (decided features) [
          | inl some ↦ inl (record { feature = some.feature; input = some.input; listed = later_in feature features some.feature some.listed; chooses = some.chooses })
          | inr none ↦ inr (λ other input here chooses.
              elim (first_or_later feature features other here) [
                | inl same ↦ never (input, subst (λ (f : Feature). Chooses fabric f x y output input) (sym same) chooses)
                | inr later ↦ none other input later chooses
              ])
        ]
      ]
