-- Entries of tables at indices of which some bits are unknown, and select chains of which some inputs are.
use Rattle.std.proofs.Common.{◌≡◌, ◌≢◌, ℕ, suc, ◌+◌, ◌-◌, ◌*◌, ◌^◌, ◌<◌, ◌≤◌, Bool, true, false, List, [], ◌∷◌, map, length, nat_eq, nat_lt, lt-ltb, le-ltb, refl, ap, ap₂, ◌∙◌, subst, inl, inr, arith, slice_range}
use Rattle.std.proofs.lemmas.Bool.Decides.{eqb_tells}
use Rattle.std.proofs.lemmas.Bool.{cases_Bool, cases_lt}
use Rattle.fab_bits.specs.Bits.{number, digits, same_bits}
use Rattle.fab_bits.proofs.Numbers.{same_bits_digits}
use Rattle.fab_matrix.specs.fab_meaning.specs.Value.{value, bit_at}
use Rattle.fab_matrix.specs.Names.{Name}
use Rattle.fab_matrix.specs.fab_meaning.specs.Ports.{config_name}
use Rattle.fab_matrix.specs.Matrix.{field, chain}
use Rattle.fab_systems_laws.specs.Ternary.{Tern, no, yes, unknown, known}
use Rattle.fab_ternary_laws.specs.Operators.{agreed, same_terns, one_of, evens, odds, entry}
use Rattle.fab_ternary_laws.specs.Values.{tern_value}
use Rattle.fab_ternary_laws.specs.Laws.{Fits, at_from}
use Rattle.fab_ternary_laws.proofs.Known.{known_at, evens_map, odds_map, even_at, odd_at, known_same, known_range}

agreed_self : (b : Bool) → agreed (known b) (known b) ≡ known b
agreed_self true = refl
agreed_self false = refl

pub agreed_entry : (bits : List Bool) (index : List Tern) (b : Bool) → ((choice : List Bool) → Fits index choice → bit_at bits (number choice) ≡ b) →
    entry (map known bits) index ≡ known b
agreed_entry bits [] b all = known_at bits 0 ∙ ap known (all [] tt)
agreed_entry bits (no ∷ index) b all =
    ap (λ ts. entry ts index) (evens_map bits)
    ∙ agreed_entry (evens bits) index b (λ choice fits. let e : 2 * number choice ≡ 0 + 2 * number choice = omega arith in
    even_at bits (number choice) ∙ ap (bit_at bits) e ∙ all (false ∷ choice) (refl, fits))
agreed_entry bits (yes ∷ index) b all =
    ap (λ ts. entry ts index) (odds_map bits)
    ∙ agreed_entry (odds bits) index b (λ choice fits. odd_at bits (number choice) ∙ all (true ∷ choice) (refl, fits))
agreed_entry bits (unknown ∷ index) b all =
    let first : entry (evens (map known bits)) index ≡ known b =
    ap (λ ts. entry ts index) (evens_map bits)
    ∙ agreed_entry (evens bits) index b (λ choice fits. let e : 2 * number choice ≡ 0 + 2 * number choice = omega arith in
    even_at bits (number choice) ∙ ap (bit_at bits) e ∙ all (false ∷ choice) (tt, fits)) in
    let second : entry (odds (map known bits)) index ≡ known b =
    ap (λ ts. entry ts index) (odds_map bits)
    ∙ agreed_entry (odds bits) index b (λ choice fits. odd_at bits (number choice) ∙ all (true ∷ choice) (tt, fits)) in
    ap₂ agreed first second ∙ agreed_self b

passed : (select i : ℕ) (first input : Name) (inputs : List Name) → select ≢ i → at_from (i + 1) select first inputs ≡ at_from i select first (input ∷ inputs)
passed select i first input inputs apart =
    elim (cases_lt select i) [
      | inl l ↦ (let below : select < i + 1 = omega arith in rw (lt-ltb select i l, lt-ltb select (i + 1) below) refl)
      | inr g ↦ (
          let above : i + 1 ≤ select = omega arith in
          let next : select - i ≡ suc (select - (i + 1)) = omega arith in
          rw (le-ltb select i g, le-ltb select (i + 1) above, next) refl)
    ]

module _ (names : Name → List Bool) (terns : Name → List Tern) (configured : terns config_name ≡ map known (names config_name)) where
  pub chain_picks : (low width i : ℕ) (first : Name) (inputs : List Name) → length (value names (field low width)) ≡ width → i + length inputs ≤ 2 ^ width →
      tern_value terns (chain low width i first inputs) ≡ terns (at_from i (number (value names (field low width))) first inputs)
  chain_picks low width i first [] long room =
      ap terns (elim (cases_Bool (nat_lt (number (value names (field low width))) i)) [ inl t ↦ rw t refl | inr f ↦ rw f refl ])
  chain_picks low width i first (input ∷ inputs) long room =
      let bits = value names (field low width) in
      let select = number bits in
      let small : i < 2 ^ length bits = rw long (omega arith) in
      let test : same_bits bits (digits width i) ≡ nat_eq select i = subst (λ k. same_bits bits (digits k i) ≡ nat_eq select i) long (same_bits_digits bits i small) in
      let field_known : tern_value terns (field low width) ≡ map known bits =
      ap (λ ts. slice_range ts low (low + width - 1 + 1)) configured ∙ known_range (names config_name) low (low + width - 1 + 1) in
      let tested : same_terns (tern_value terns (field low width)) (map known (digits width i)) ≡ known (nat_eq select i) =
      ap (λ ts. same_terns ts (map known (digits width i))) field_known ∙ known_same bits (digits width i) ∙ ap known test in
      ap (λ t. one_of t (terns input) (tern_value terns (chain low width (i + 1) first inputs))) tested
      ∙ elim (eqb_tells select i) [
        | inl e ↦ (
            let above : i ≤ select = omega arith in
            let here : select - i ≡ 0 = omega arith in
            rw (e.0, le-ltb select i above, here) refl)
        | inr e ↦ rw e.0 (chain_picks low width (i + 1) first inputs long (omega arith) ∙ ap terns (passed select i first input inputs e.1))
      ]
