-- Numbers of nets in the order in which they are first named.
use Rattle.std.proofs.Common.{◌≡◌, ℕ, ◌<◌, ◌≤◌, nat_lt, arith, position, slice_get, option_map, Bool, false, not, ◌&&◌, ◌||◌, nat_eq, cond, List, [], ◌∷◌, ◌++◌, map, length, get_or, drop, refl, ap, sym, ◌∙◌, inl, inr, ◌+◌, append_assoc}
use Rattle.std.specs.List.{list_any, position_or_len}
use Rattle.std.specs.Option.{unwrap_or}
use Rattle.std.specs.Str.{bytes_eq}
use Rattle.std.proofs.lemmas.Bool.{cases_Bool}
use Rattle.std.proofs.lemmas.Bool.Decides.{nat_tests}
use Rattle.std.proofs.lemmas.List.{map-append, length-map, at_drop_more}
use Rattle.indexmap.specs.IndexSet.{insert_key, insert_all}
use Rattle.fab_blif.specs.declared.design.ClockName.{ClockName}
use Rattle.fab_blif.specs.declared.net.Net.{Net}
use Rattle.fab_blif.specs.Flat.{PlainNet, net_eq}
use Rattle.fab_blif.specs.Design.{number_in}
use Rattle.fab_blif.specs.inner.Walk.{plain_net, plain_nets, plain_clock, net_numbers}

-- how keys are compared
abbrev pub same_net : Net → Net → Bool
same_net a b = nat_eq a.depth b.depth && bytes_eq a.name.items b.name.items

any_of_nets : (net : Net) (keys : List Net) → list_any (same_net net) keys ≡ list_any (net_eq (plain_net net)) (plain_nets keys)
any_of_nets net [] = refl
any_of_nets net (key ∷ keys) = ap (λ rest. same_net net key || rest) (any_of_nets net keys)

pub nets_of_insert : (keys : List Net) (net : Net) → plain_nets (insert_key same_net keys net) ≡ insert_key net_eq (plain_nets keys) (plain_net net)
nets_of_insert keys net =
    let any = any_of_nets net keys in
    elim (cases_Bool (list_any (net_eq (plain_net net)) (plain_nets keys))) [
      | inl t ↦ rw (any, t) refl
      | inr f ↦ rw (any, f) (map-append plain_net keys (net ∷ []))
    ]

pub place_of_net : (net : Net) (keys : List Net) → position_or_len (same_net net) keys ≡ position_or_len (net_eq (plain_net net)) (plain_nets keys)
place_of_net net [] = refl
place_of_net net (key ∷ keys) = ap (λ n. cond (not (same_net net key)) (1 + n) 0) (place_of_net net keys)

module _ {X : Type 0} (net : X → PlainNet) (names : List X) (at : ℕ) (name : X) (within : at < length names) (is : name ≡ get_or names at name)
    (old new : List PlainNet) (added : new ≡ insert_key net_eq old (net name)) where
  -- the nets of names, after one more name
  pub nets_more : (all : List PlainNet) → insert_all net_eq old (map net (drop at names)) ≡ all → insert_all net_eq new (map net (drop (at + 1) names)) ≡ all
  nets_more all so_far =
      ap (λ nets. insert_all net_eq nets (map net (drop (at + 1) names))) added
      ∙ ap (λ first. insert_all net_eq (insert_key net_eq old (net first)) (map net (drop (at + 1) names))) is
      ∙ sym (at_drop_more (λ rest. insert_all net_eq old (map net rest)) names at name within)
      ∙ so_far

  -- the numbers of names, after one more name
  pub numbers_more : (all numbers pushed : List ℕ) (number : ℕ) → pushed ≡ numbers ++ number ∷ [] → number ≡ number_in old (net name) →
      numbers ++ net_numbers old (map net (drop at names)) ≡ all → pushed ++ net_numbers new (map net (drop (at + 1) names)) ≡ all
  numbers_more all numbers pushed number push is_number so_far =
      let rest = drop (at + 1) names in
      ap (λ list. list ++ net_numbers new (map net rest)) push
      ∙ append_assoc numbers (number ∷ []) (net_numbers new (map net rest))
      ∙ ap (λ n. numbers ++ n ∷ net_numbers new (map net rest)) is_number
      ∙ ap (λ nets. numbers ++ number_in old (net name) ∷ net_numbers nets (map net rest)) added
      ∙ ap (λ first. numbers ++ number_in old (net first) ∷ net_numbers (insert_key net_eq old (net first)) (map net rest)) is
      ∙ sym (ap (λ list. numbers ++ list) (at_drop_more (λ list. net_numbers old (map net list)) names at name within))
      ∙ so_far

-- a net stands where its key stands
pub at_net : (net : Net) (keys : List Net) → position (same_net net) keys ≡ position (net_eq (plain_net net)) (plain_nets keys)
at_net net keys = rw (place_of_net net keys, length-map keys plain_net) refl

pub first_clock : (clocks : List ClockName) → slice_get (map plain_clock clocks) 0 ≡ option_map plain_clock (slice_get clocks 0)
first_clock [] = refl
first_clock (clock ∷ clocks) = refl

-- where something stands, or how many there are
pub place_or_len : {X : Type 0} (p : X → Bool) (xs : List X) → unwrap_or (position p xs) (length xs) ≡ position_or_len p xs
place_or_len p xs =
    elim (cases_Bool (nat_lt (position_or_len p xs) (length xs))) [
      | inl t ↦ rw t refl
      | inr f ↦ rw f (omega (arith, least_place p xs, at_least _ _ f))
    ]
  where
    least_place : {X : Type 0} (p : X → Bool) (xs : List X) → position_or_len p xs ≤ length xs
    least_place p [] = omega arith
    least_place p (x ∷ xs) = elim (cases_Bool (p x)) [ inl t ↦ rw t (omega arith) | inr f ↦ rw f (omega (arith, least_place p xs)) ]

    at_least : (a b : ℕ) → nat_lt a b ≡ false → b ≤ a
    at_least a b is = grind (arith, nat_tests)
