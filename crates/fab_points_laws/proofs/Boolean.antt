-- Where what a source reads is known, so is what it gives; and so settled points have the values of their sources.
use Rattle.std.proofs.Common.{◌≡◌, suc, ◌^◌, ◌<◌, ◌≤◌, Bool, true, false, not, List, [], ◌∷◌, length, map, refl, sym, ap, ◌∙◌, arith, Contains, pow_mono}
use Rattle.std.proofs.lemmas.List.{length-map}
use Rattle.fab_bits.specs.Bits.{number, first_bits}
use Rattle.fab_bits.proofs.Numbers.{get_first_bits}
use Rattle.fab_systems_laws.specs.Ternary.{Tern, no, yes, unknown, known}
use Rattle.fab_syntax.specs.Plain.{PlainModule}
use Rattle.fab_meaning.specs.Points.{Point, Driver, Drives}
use Rattle.fab_meaning.specs.Settled.{Assignment, IsSettledOn, shown}
use Rattle.fab_meaning.specs.Sound.{HasOneDriver}
use Rattle.fab_netlist.specs.WellMade.{table_bit}
use Rattle.fab_ternary_laws.specs.Operators.{inverse, entry}
use Rattle.fab_ternary_laws.proofs.Known.{known_entry}
use Rattle.fab_use_defs.specs.Sources as sources
use Rattle.fab_use_defs.specs.Sources.{Source, source_value, source_reads}
use Rattle.fab_ternary_laws.specs.Shown.{Terns}
use Rattle.fab_points_laws.specs.Shown.{table_terns, tern_source, Shown}
use Rattle.fab_ternary_laws.proofs.Drivers.{driver_known}
use Rattle.fab_points_laws.proofs.Entries.{number_small}

module _ (text : List PlainModule) (inputs held now : Assignment) (t : Terns) where
  inverse_known : (b : Bool) → inverse (known b) ≡ known (not b)
  inverse_known true = refl
  inverse_known false = refl

  map_known : (qs : List Point) → ((q : Point) → Contains qs q → t q ≡ known (now q)) → map t qs ≡ map known (map now qs)
  map_known [] each = refl
  map_known (q ∷ qs) each =
      let here : t q ≡ known (now q) = each q (0, omega arith, refl) in
      let rest : map t qs ≡ map known (map now qs) = map_known qs (λ r there. each r (suc there.0, omega (arith, there.1), there.2)) in
      λ j. here j ∷ rest j

  few_bits : (qs : List Point) → length qs ≤ 4 → number (map now qs) < 16
  few_bits qs few =
      let small : number (map now qs) < 2 ^ length (map now qs) = number_small (map now qs) in
      let most : 2 ^ length (map now qs) ≤ 2 ^ 4 = pow_mono {i = length (map now qs)} {j = 4} (omega (arith, few, length-map qs now)) in
      omega arith

  pub source_known : (p : Point) (s : Source) → length (source_reads s) ≤ 4 → ((q : Point) → Contains (source_reads s) q → t q ≡ known (now q)) →
      tern_source inputs held t p s ≡ known (source_value inputs held now p s)
  source_known p (sources.always bit) few each = refl
  source_known p sources.top_input few each = refl
  source_known p sources.flip_flop few each = refl
  source_known p (sources.shows q) few each = each q (0, omega arith, refl)
  source_known p (sources.inverts q) few each = ap inverse (each q (0, omega arith, refl)) ∙ inverse_known (now q)
  source_known p (sources.looks_up bits qs) few each =
      ap (entry (table_terns bits)) (map_known qs each)
      ∙ known_entry (first_bits 16 (table_bit bits)) (map now qs)
      ∙ ap known (get_first_bits 16 (table_bit bits) (number (map now qs)) false (few_bits qs few))

-- ---- Boolean assignments

bit_back : Tern → Bool
bit_back yes = true
bit_back no = false
bit_back unknown = false

back_known : (b : Bool) → bit_back (known b) ≡ b
unfolding bit_back
back_known true = refl
back_known false = refl

pub same_known : (a b : Bool) → known a ≡ known b → a ≡ b
same_known a b e = sym (back_known a) ∙ ap bit_back e ∙ back_known b

module _ (text : List PlainModule) (inputs held now : Assignment) (p : Point) (s : Source) (few : length (source_reads s) ≤ 4) (shows : Shown text inputs held (λ q. known (now q)) p s) where
  abbrev t : Terns
  t q = known (now q)

  -- what the driver gives is the value of the source
  pub gives_source : shown text inputs held now p shows.driver ≡ source_value inputs held now p s
  gives_source =
      same_known (shown text inputs held now p shows.driver) (source_value inputs held now p s)
      (sym (driver_known text inputs held now t p shows.driver (λ q read. refl)) ∙ shows.is ∙ source_known text inputs held now t p s few (λ q read. refl))

  -- a settled point has the value of its source
  pub settled_source : (Has : Point → Type 0) → IsSettledOn Has text inputs held now → Has p → now p ≡ source_value inputs held now p s
  settled_source Has settled has = settled p shows.driver has shows.drives ∙ gives_source

  -- and a point that has it is settled, where it has one driver
  pub source_settles : HasOneDriver text p → now p ≡ source_value inputs held now p s → (d : Driver) → Drives text p d → now p ≡ shown text inputs held now p d
  source_settles one is d drives =
      let same : shows.driver ≡ d = one.2 shows.driver shows.drives ∙ sym (one.2 d drives) in
      is ∙ sym gives_source ∙ ap (shown text inputs held now p) same
