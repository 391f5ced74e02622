-- Tables, entry by entry.
use Rattle.std.proofs.Common.{◌≡◌, ◌⊎◌, ℕ, zero, suc, ◌+◌, ◌*◌, ◌/◌, ◌%◌, ◌<◌, Bool, List, length, Option, Some, refl, sym, ap, ◌∙◌, subst, inl, inr, arith, get_or, slice_set, slice_get, slice_index}
use Rattle.std.proofs.lemmas.Bool.{cases_eq}
use Rattle.std.proofs.lemmas.List.{length-set, get_or-set_same, get_or-set_other}
use Rattle.std.proofs.lemmas.Option.{slice_get-get_or}
use Rattle.fab_systems_laws.specs.Ternary.{no, yes, unknown}
use Rattle.fab_systems_laws.specs.Ternary.{Tern as PlainTern}
use Rattle.fab_ternary.specs.declared.Tern.{Tern}
use Rattle.fab_ternary.specs.declared.Tern.TheVariants.{No}
use Rattle.fab_ternary.specs.Terns.{plain_tern}
use Rattle.fab_compiled.specs.declared.tree.Tree.{Tree}
use Rattle.fab_compiled.specs.Leading.{PointTerns}
use Rattle.fab_compiled.specs.Terns.{seen}
use Rattle.fab_compiled.proofs.TreesGrow.{tree_same}
use Rattle.fab_network.specs.declared.network.Source.{Source}
use Rattle.fab_network.specs.declared.tables.Inputs.{Inputs}
use Rattle.fab_network.specs.declared.tables.Values.{Values}
use Rattle.fab_network.specs.declared.tables.Table.{Table}
use Rattle.fab_network.specs.Network.{tern_in, source_tern}
use Rattle.fab_network.specs.Passes.{kept_tern}
use Rattle.fab_network.specs.Tables.{digit_of, entry_place, put_at, tern_of, AreDigits, AreInputs, AreInside, AreKept, IsFixed, IsInput, IsRead, IsTable, ReadsAll, StayFixed}
use Rattle.fab_network.proofs.Kept.{kept_other, kept_same}

-- ---- digits

pub digit_small : (t : PlainTern) → digit_of t < 3
digit_small no = omega arith
digit_small yes = omega arith
digit_small unknown = omega arith

pub digit_is : (t : PlainTern) → tern_of (digit_of t) ≡ t
digit_is no = refl
digit_is yes = refl
digit_is unknown = refl

pub open_digit : (n : ℕ) → (n ≡ 0 → ⊥) → (n ≡ 1 → ⊥) → unknown ≡ tern_of n
open_digit zero a b = absurd (a refl)
open_digit (suc zero) a b = absurd (b refl)
open_digit (suc (suc n)) a b = refl

-- a number of four digits
first_digit : (a b c d place : ℕ) → a < 3 → a + 3 * b + 9 * (c + 3 * d) ≡ place → place % 3 ≡ a
first_digit a b c d place l e = omega arith

second_digit : (a b c d place : ℕ) → a < 3 → b < 3 → a + 3 * b + 9 * (c + 3 * d) ≡ place → place / 3 % 3 ≡ b
second_digit a b c d place l m e =
    let rest : place / 3 ≡ b + 3 * (c + 3 * d) = omega arith in
    omega (arith, rest)

third_digit : (a b c d place : ℕ) → a < 3 → b < 3 → c < 3 → a + 3 * b + 9 * (c + 3 * d) ≡ place → place / 9 % 3 ≡ c
third_digit a b c d place l m n e =
    let rest : place / 9 ≡ c + 3 * d = omega arith in
    omega (arith, rest)

fourth_digit : (a b c d place : ℕ) → a < 3 → b < 3 → c < 3 → d < 3 → a + 3 * b + 9 * (c + 3 * d) ≡ place → place / 27 % 3 ≡ d
fourth_digit a b c d place l m n o e =
    let rest : place / 27 ≡ d = omega arith in
    omega (arith, rest)

-- the values at the place for what the inputs have
pub digits_kept : (inputs : Inputs) (t : PointTerns) (place : ℕ) (values : Values) → entry_place inputs t ≡ place → AreDigits place values →
    AreKept t inputs values
digits_kept inputs t place values e are =
    let a = digit_of (t inputs.first) in
    let b = digit_of (t inputs.second) in
    let c = digit_of (t inputs.third) in
    let d = digit_of (t inputs.fourth) in
    let la : a < 3 = digit_small (t inputs.first) in
    let lb : b < 3 = digit_small (t inputs.second) in
    let lc : c < 3 = digit_small (t inputs.third) in
    let ld : d < 3 = digit_small (t inputs.fourth) in
    record {
      first = are.first ∙ ap tern_of (first_digit a b c d place la e) ∙ digit_is (t inputs.first);
      second = are.second ∙ ap tern_of (second_digit a b c d place la lb e) ∙ digit_is (t inputs.second);
      third = are.third ∙ ap tern_of (third_digit a b c d place la lb lc e) ∙ digit_is (t inputs.third);
      fourth = are.fourth ∙ ap tern_of (fourth_digit a b c d place la lb lc ld e) ∙ digit_is (t inputs.fourth);
    }

pub place_small : (inputs : Inputs) (t : PointTerns) → entry_place inputs t < 81
place_small inputs t =
    omega (arith, digit_small (t inputs.first), digit_small (t inputs.second), digit_small (t inputs.third), digit_small (t inputs.fourth))

-- ---- values that are given to inputs

set_kept : (old now : List Tern) (point : ℕ) (t : Tern) → point < length old → plain_tern t ≡ kept_tern now point → (q : ℕ) →
    (kept_tern old q ≡ kept_tern now q) ⊎ (q ≡ point) → kept_tern (slice_set old point t) q ≡ kept_tern now q
set_kept old now point t l is q has =
    elim (cases_eq q point) [
      | inl e ↦ ap (kept_tern (slice_set old point t)) e ∙ kept_same old point t l ∙ is ∙ ap (kept_tern now) (sym e)
      | inr n ↦ kept_other old point t q n ∙ elim has [ inl same ↦ same | inr e ↦ absurd (n e) ]
    ]

none_of : (inputs : Inputs) (q : ℕ) → (q ≡ inputs.first → ⊥) → (q ≡ inputs.second → ⊥) → (q ≡ inputs.third → ⊥) → (q ≡ inputs.fourth → ⊥) → IsInput inputs q → ⊥
none_of inputs q a b c d (inl e) = a e
none_of inputs q a b c d (inr (inl e)) = b e
none_of inputs q a b c d (inr (inr (inl e))) = c e
none_of inputs q a b c d (inr (inr (inr e))) = d e

pub input_or_not : (inputs : Inputs) (q : ℕ) → IsInput inputs q ⊎ (IsInput inputs q → ⊥)
input_or_not inputs q =
    elim (cases_eq q inputs.first) [
      | inl e ↦ inl (inl e)
      | inr a ↦ elim (cases_eq q inputs.second) [
        | inl e ↦ inl (inr (inl e))
        | inr b ↦ elim (cases_eq q inputs.third) [
          | inl e ↦ inl (inr (inr (inl e)))
          | inr c ↦ elim (cases_eq q inputs.fourth) [ inl e ↦ inl (inr (inr (inr e))) | inr d ↦ inr (none_of inputs q a b c d) ]
        ]
      ]
    ]

module _ (old : List Tern) (inputs : Inputs) (values : Values) where
  abbrev one : List Tern
  one = slice_set old inputs.first values.first

  abbrev two : List Tern
  two = slice_set one inputs.second values.second

  abbrev three : List Tern
  three = slice_set two inputs.third values.third

  long_one : length one ≡ length old
  long_one = length-set old inputs.first values.first

  long_two : length two ≡ length old
  long_two = length-set one inputs.second values.second ∙ long_one

  long_three : length three ≡ length old
  long_three = length-set two inputs.third values.third ∙ long_two

  pub long_put : length (put_at old inputs values) ≡ length old
  long_put = length-set three inputs.fourth values.fourth ∙ long_three

  -- all else stays
  pub put_others : (q : ℕ) → (IsInput inputs q → ⊥) → kept_tern (put_at old inputs values) q ≡ kept_tern old q
  put_others q none =
      kept_other three inputs.fourth values.fourth q (λ e. none (inr (inr (inr e))))
      ∙ kept_other two inputs.third values.third q (λ e. none (inr (inr (inl e))))
      ∙ kept_other one inputs.second values.second q (λ e. none (inr (inl e)))
      ∙ kept_other old inputs.first values.first q (λ e. none (inl e))

  -- inputs that are given what they have elsewhere
  module _ (now : List Tern) (inside : AreInside (length old) inputs) (are : AreKept (kept_tern now) inputs values) where
    first_put : (q : ℕ) → (kept_tern old q ≡ kept_tern now q) ⊎ (q ≡ inputs.first) → kept_tern one q ≡ kept_tern now q
    first_put q has = set_kept old now inputs.first values.first inside.first are.first q has

    second_put : (q : ℕ) → (kept_tern one q ≡ kept_tern now q) ⊎ (q ≡ inputs.second) → kept_tern two q ≡ kept_tern now q
    second_put q has = set_kept one now inputs.second values.second (omega (arith, inside.second, long_one)) are.second q has

    third_put : (q : ℕ) → (kept_tern two q ≡ kept_tern now q) ⊎ (q ≡ inputs.third) → kept_tern three q ≡ kept_tern now q
    third_put q has = set_kept two now inputs.third values.third (omega (arith, inside.third, long_two)) are.third q has

    fourth_put : (q : ℕ) → (kept_tern three q ≡ kept_tern now q) ⊎ (q ≡ inputs.fourth) → kept_tern (put_at old inputs values) q ≡ kept_tern now q
    fourth_put q has = set_kept three now inputs.fourth values.fourth (omega (arith, inside.fourth, long_three)) are.fourth q has

    pub put_kept : (q : ℕ) → (kept_tern old q ≡ kept_tern now q) ⊎ IsInput inputs q → kept_tern (put_at old inputs values) q ≡ kept_tern now q
    put_kept q (inl same) = fourth_put q (inl (third_put q (inl (second_put q (inl (first_put q (inl same)))))))
    put_kept q (inr (inl e)) = fourth_put q (inl (third_put q (inl (second_put q (inl (first_put q (inr e)))))))
    put_kept q (inr (inr (inl e))) = fourth_put q (inl (third_put q (inl (second_put q (inr e)))))
    put_kept q (inr (inr (inr (inl e)))) = fourth_put q (inl (third_put q (inr e)))
    put_kept q (inr (inr (inr (inr e)))) = fourth_put q (inr e)

-- ---- what a source reads

-- A source has the same where all that it reads has the same.
source_same : (trees : List Tree) (leads : List ℕ) (marks : List Bool) (base one other : List Tern) (inputs : Inputs) (source : Source) (tree : Tree) →
    slice_get trees source.tree ≡ Some tree → ReadsAll marks base leads inputs source.first tree →
    ((q : ℕ) → IsFixed marks base q ⊎ IsInput inputs q → kept_tern one q ≡ kept_tern other q) →
    source_tern trees (seen one leads) source ≡ source_tern trees (seen other leads) source
source_same trees leads marks base one other inputs source tree there reads same =
    ap (λ (o : Option Tree). tern_in o (seen one leads) source.first source.bit) there
    ∙ ap (λ (ts : List PlainTern). get_or ts source.bit no)
    (tree_same (λ place. IsRead marks base leads inputs (source.first + place)) (λ place. seen one leads (source.first + place))
    (λ place. seen other leads (source.first + place)) (λ k read. same (slice_index leads (source.first + k)) read) tree reads)
    ∙ sym (ap (λ (o : Option Tree). tern_in o (seen other leads) source.first source.bit) there)

-- ---- entries

-- an entry has what the source has wherever the inputs have the values of its place
abbrev pub IsEntry : List Tree → List ℕ → (marks : List Bool) → (base : List Tern) → Source → Inputs → (place : ℕ) → Tern → Type 0
IsEntry trees leads marks base source inputs place entry =
    (now : List Tern) → StayFixed marks base now → entry_place inputs (kept_tern now) ≡ place → plain_tern entry ≡ source_tern trees (seen now leads) source

-- all is as it was but for inputs
abbrev pub AreOthersSame : Inputs → (base now : List Tern) → Type 0
AreOthersSame inputs base now = (q : ℕ) → (IsInput inputs q → ⊥) → kept_tern now q ≡ kept_tern base q

pub put_again : (inputs : Inputs) (base old : List Tern) (values : Values) → AreOthersSame inputs base old →
    AreOthersSame inputs base (put_at old inputs values)
put_again inputs base old values same q none = put_others old inputs values q none ∙ same q none

-- inputs are given back what they had
pub put_back : (inputs : Inputs) (base old : List Tern) (values : Values) → AreInside (length old) inputs → AreKept (kept_tern base) inputs values →
    AreOthersSame inputs base old → (q : ℕ) → kept_tern (put_at old inputs values) q ≡ kept_tern base q
put_back inputs base old values inside are same q =
    put_kept old inputs values base inside are q (elim (input_or_not inputs q) [ inl input ↦ inr input | inr none ↦ inl (same q none) ])

module _ (trees : List Tree) (leads : List ℕ) (marks : List Bool) (base : List Tern) (source : Source) (tree : Tree) (inputs : Inputs)
    (there : slice_get trees source.tree ≡ Some tree) (are : AreInputs marks base leads source.first tree inputs) where
  abbrev IsOf : (place : ℕ) → Tern → Type 0
  IsOf place entry = IsEntry trees leads marks base source inputs place entry

  -- the value for the values of a place
  pub entry_made : (old : List Tern) (place : ℕ) (values : Values) (entry : Tern) → length old ≡ length leads → AreOthersSame inputs base old →
      AreDigits place values → plain_tern entry ≡ source_tern trees (seen (put_at old inputs values) leads) source → IsOf place entry
  entry_made old place values entry long same digits value now stays at =
      let inside : AreInside (length old) inputs = subst (λ (n : ℕ). AreInside n inputs) (sym long) are.inside in
      let kept : AreKept (kept_tern now) inputs values = digits_kept inputs (kept_tern now) place values at digits in
      let unchanged : (q : ℕ) → IsFixed marks base q → (kept_tern old q ≡ kept_tern now q) ⊎ IsInput inputs q =
      λ q fixed. elim (input_or_not inputs q) [ inl input ↦ inr input | inr none ↦ inl (same q none ∙ sym (stays q fixed)) ] in
      value
      ∙ source_same trees leads marks base (put_at old inputs values) now inputs source tree there are.reads
      (λ q read. put_kept old inputs values now inside kept q (elim read [ inl fixed ↦ unchanged q fixed | inr input ↦ inr input ]))

  -- one more entry
  pub entries_more : (entries : List Tern) (place : ℕ) (entry : Tern) → place < length entries → IsOf place entry →
      ((k : ℕ) → k < place → IsOf k (get_or entries k No)) → (k : ℕ) → k < place + 1 → IsOf k (get_or (slice_set entries place entry) k No)
  entries_more entries place entry room is before k l =
      elim (cases_eq k place) [
        | inl e ↦ subst (λ (n : ℕ). IsOf n (get_or (slice_set entries place entry) n No)) (sym e)
            (subst (IsOf place) (sym (get_or-set_same entries place entry No room)) is)
        | inr n ↦ subst (IsOf k) (sym (get_or-set_other entries place k entry No n)) (before k (omega (arith, l, n)))
      ]

  -- an entry that no values of the inputs pick
  pub entries_passed : (entries : List Tern) (place : ℕ) (values : Values) → AreDigits place values → ((t : PointTerns) → AreKept t inputs values → ⊥) →
      ((k : ℕ) → k < place → IsOf k (get_or entries k No)) → (k : ℕ) → k < place + 1 → IsOf k (get_or entries k No)
  entries_passed entries place values digits none before k l =
      elim (cases_eq k place) [
        | inl e ↦ λ now stays at. absurd (none (kept_tern now) (digits_kept inputs (kept_tern now) place values (at ∙ e) digits))
        | inr n ↦ before k (omega (arith, l, n))
      ]

  -- all entries
  pub table_made : (entries : List Tern) (table : Table) → table.inputs ≡ inputs → table.entries ≡ entries → length entries ≡ 81 →
      ((k : ℕ) → k < 81 → IsOf k (get_or entries k No)) → IsTable trees leads marks base source table
  table_made entries table same_inputs same_entries long all = record {
    inside = subst (AreInside (length leads)) (sym same_inputs) are.inside;
    long = ap length same_entries ∙ long;
    value = λ now stays found at.
        let place = entry_place inputs (kept_tern now) in
        let small : place < 81 = place_small inputs (kept_tern now) in
        let here : slice_get entries place ≡ Some found =
        ap (λ (xs : List Tern). slice_get xs place) (sym same_entries)
        ∙ ap (λ (i : Inputs). slice_get table.entries (entry_place i (kept_tern now))) (sym same_inputs) ∙ at in
        let both : Some (get_or entries place No) ≡ Some found = sym (slice_get-get_or entries place No (omega (arith, small, long))) ∙ here in
        let one : found ≡ get_or entries place No = cc in
        ap plain_tern one ∙ all place small now stays refl;
  }
