-- Which line of a list of features is wrong first, and by which rule.
use Rattle.std.specs.Prelude.{◌≡◌, ◌<◌, ℕ, List, ◌++◌, codes, take, Contains, Some}
use Rattle.fab_model.specs.Grid.{PlainFabric}
use Rattle.fab_fabric.specs.Names.{place_name, name_at}
use Rattle.fab_netlist.specs.Plain.{IsAt}
use Rattle.fab_legal.specs.Turns.{FirstAreRight}
use Rattle.fab_legal.specs.declared.broken.CheckFault.{CheckFault}
use Rattle.fab_legal.specs.declared.broken.CheckFault.TheVariants as faults
use Rattle.fab_fasm.specs.declared.feature.Feature.{Feature}
use Rattle.fab_features.specs.Said.{said_of}
use Rattle.fab_features.specs.Features.{Chooses}
use Rattle.fab_features.specs.declared.said.Said.{Said}
use Rattle.fab_features.specs.declared.said.Said.TheVariants as said

-- how many bits there are: a pair is one
abbrev pub said_width : Said → ℕ
said_width (said.OfBel field) = field.width
said_width (said.OfPair choice) = 1

-- the fabric has the feature, and all bits of its address
pub record IsFeature (fabric : PlainFabric) (feature : Feature) : Type 0 where
  pub found : Said
  pub said_is : said_of fabric feature.name ≡ Some found
  pub inside : feature.high < said_width found

-- no line before it chooses another input for the output for which it chooses one
abbrev pub Agrees : PlainFabric → (before : List Feature) → Feature → Type 0
Agrees fabric before feature =
    (x y output input other : ℕ) (earlier : Feature) → Chooses fabric feature x y output input → Contains before earlier → Chooses fabric earlier x y output other → other ≡ input

pub record IsRightFeature (fabric : PlainFabric) (before : List Feature) (feature : Feature) : Type 0 where
  pub known : IsFeature fabric feature
  pub agrees : Agrees fabric before feature

-- as X1Y2.LA_I0
abbrev pub output_name : PlainFabric → (x y output : ℕ) → List ℕ
output_name fabric x y output = place_name x y ++ codes "." ++ name_at fabric x y output

-- the rule that a line breaks behind others, and the item that is reported
pub data BreaksBehind (fabric : PlainFabric) (before : List Feature) (feature : Feature) : (rule : ℕ) → (item : List ℕ) → Type 0 where
  unknown : (IsFeature fabric feature → ⊥) → BreaksBehind fabric before feature 10 feature.name
  contrary : {x y output : ℕ} (input other : ℕ) (earlier : Feature) → IsFeature fabric feature → Chooses fabric feature x y output input → Contains before earlier
      → Chooses fabric earlier x y output other → (other ≡ input → ⊥) → BreaksBehind fabric before feature 11 (output_name fabric x y output)

-- the lines before this one are right
pub record BreaksFirst (fabric : PlainFabric) (features : List Feature) (rule : ℕ) (item : List ℕ) : Type 0 where
  pub place : ℕ
  pub feature : Feature
  pub is_at : IsAt features place feature
  pub before : FirstAreRight (IsRightFeature fabric) features place
  pub breaks : BreaksBehind fabric (take place features) feature rule item

abbrev pub IsFirstWrongFeature : PlainFabric → List Feature → CheckFault → Type 0
IsFirstWrongFeature fabric features (faults.Broken broken) = BreaksFirst fabric features broken.rule broken.item
IsFirstWrongFeature fabric features faults.Memory = Unit {0}
