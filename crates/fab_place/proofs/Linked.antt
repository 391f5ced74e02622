-- Lists of numbers that are filled pin by pin.
use Rattle.std.proofs.Common.{◌≡◌, ◌≢◌, ℕ, ◌<◌, ◌≤◌, ◌++◌, List, [], ◌∷◌, length, get_or, set, take, zero, suc, Vec, Global, refl, sym, ap, subst, inl, inr, arith}
use Rattle.std.proofs.lemmas.Bool.{cases_eq}
use Rattle.std.proofs.lemmas.List.{get_or_default}
use Rattle.std.proofs.lemmas.List.Elements.{Contains-push, Contains-push_cases, Contains-append_left}
use Rattle.std.specs.List.{All, Contains, slice_get}
use Rattle.fab_annealing.specs.declared.nets.Nets.{Nets}
use Rattle.fab_annealing.specs.Measured.{IsNets, numbers_of, items_of, nets_of, net_count, item_count}
use Rattle.fab_place.specs.declared.nets.Pin.{Pin}
use Rattle.fab_place.specs.Pins.{HavePins}

-- ---- a list of lists, one of which is written

pub numbers_here : (lists : List (Vec ℕ Global)) (k : ℕ) (list : Vec ℕ Global) → k < length lists → numbers_of (slice_get (set lists k list) k) ≡ list.items
numbers_here [] k list low = absurd (omega (arith, low))
numbers_here (first ∷ lists) zero list low = refl
numbers_here (first ∷ lists) (suc k) list low = numbers_here lists k list (omega arith)

pub numbers_there : (lists : List (Vec ℕ Global)) (k m : ℕ) (list : Vec ℕ Global) → m ≢ k → numbers_of (slice_get (set lists k list) m) ≡ numbers_of (slice_get lists m)
numbers_there [] k m list apart = refl
numbers_there (first ∷ lists) zero zero list apart = absurd (apart refl)
numbers_there (first ∷ lists) zero (suc m) list apart = refl
numbers_there (first ∷ lists) (suc k) zero list apart = refl
numbers_there (first ∷ lists) (suc k) (suc m) list apart = numbers_there lists k m list (λ e. apart (ap suc e))

-- ---- lists that have the pins so far

pub take_past : {X : Type 0} (n : ℕ) (xs : List X) → length xs ≤ n → take n xs ≡ xs
take_past zero [] past = refl
take_past (suc n) [] past = refl
take_past zero (x ∷ xs) past = absurd (omega (arith, past))
take_past (suc n) (x ∷ xs) past = ap (λ rest. x ∷ rest) (take_past n xs (omega (arith, past)))

-- each pin's number stands in the list at its place, and no other number stands in any list
pub record AreListed (at_of number_of : Pin → ℕ) (lists : List (Vec ℕ Global)) (pins : List Pin) : Type 0 where
  pub whole : (pin : Pin) → Contains pins pin → Contains (numbers_of (slice_get lists (at_of pin))) (number_of pin)
  pub sound : (at number : ℕ) → Contains (numbers_of (slice_get lists at)) number → (pin : Pin) × Contains pins pin × (at_of pin ≡ at) × (number_of pin ≡ number)

nothing_in : {X : Type 0} (xs : List X) (x : X) → xs ≡ [] → Contains xs x → ⊥
nothing_in xs x is h = omega (arith, h.1, ap length is)

pub none_listed : (at_of number_of : Pin → ℕ) (lists : List (Vec ℕ Global)) (pins : List Pin) → pins ≡ [] → ((number : ℕ) → numbers_of (slice_get lists number) ≡ []) → AreListed at_of number_of lists pins
none_listed at_of number_of lists pins none empty = record {
  whole = λ pin h. absurd (nothing_in pins pin none h);
  sound = λ at number h. absurd (nothing_in (numbers_of (slice_get lists at)) number (empty at) h);
}

module _ (at_of number_of : Pin → ℕ) (old new : List (Vec ℕ Global)) (before after : List Pin) (one : Pin) (listed : AreListed at_of number_of old before) (more : after ≡ before ++ one ∷ [])
    (here : numbers_of (slice_get new (at_of one)) ≡ numbers_of (slice_get old (at_of one)) ++ number_of one ∷ []) (others : (other : ℕ) → other ≢ at_of one → numbers_of (slice_get new other) ≡ numbers_of (slice_get old other)) where
  kept_in : (at number : ℕ) → Contains (numbers_of (slice_get old at)) number → Contains (numbers_of (slice_get new at)) number
  kept_in at number among = elim (cases_eq at (at_of one)) [
    | inl e ↦ subst (λ n. Contains (numbers_of (slice_get new n)) number) (sym e)
        (subst (λ (ns : List ℕ). Contains ns number) (sym here) (Contains-append_left (numbers_of (slice_get old (at_of one))) (number_of one ∷ []) number (subst (λ n. Contains (numbers_of (slice_get old n)) number) e among)))
    | inr n ↦ subst (λ (ns : List ℕ). Contains ns number) (sym (others at n)) among
  ]

  whole_more : (pin : Pin) → Contains after pin → Contains (numbers_of (slice_get new (at_of pin))) (number_of pin)
  whole_more pin among = elim (Contains-push_cases before one pin (subst (λ (ps : List Pin). Contains ps pin) more among)) [
    | inl h ↦ kept_in (at_of pin) (number_of pin) (listed.whole pin h)
    | inr e ↦ subst (λ (p : Pin). Contains (numbers_of (slice_get new (at_of p))) (number_of p)) e (subst (λ (ns : List ℕ). Contains ns (number_of one)) (sym here) (Contains-push (numbers_of (slice_get old (at_of one))) (number_of one)))
  ]

  before_after : (pin : Pin) → Contains before pin → Contains after pin
  before_after pin h = subst (λ (ps : List Pin). Contains ps pin) (sym more) (Contains-append_left before (one ∷ []) pin h)

  sound_old : (at number : ℕ) → Contains (numbers_of (slice_get old at)) number → (pin : Pin) × Contains after pin × (at_of pin ≡ at) × (number_of pin ≡ number)
  sound_old at number h = let found = listed.sound at number h in (found.0, before_after found.0 found.1, found.2, found.3)

  sound_more : (at number : ℕ) → Contains (numbers_of (slice_get new at)) number → (pin : Pin) × Contains after pin × (at_of pin ≡ at) × (number_of pin ≡ number)
  sound_more at number among = elim (cases_eq at (at_of one)) [
    | inl e ↦ elim (Contains-push_cases (numbers_of (slice_get old (at_of one))) (number_of one) number (subst (λ (ns : List ℕ). Contains ns number) here (subst (λ n. Contains (numbers_of (slice_get new n)) number) e among))) [
      | inl h ↦ sound_old at number (subst (λ n. Contains (numbers_of (slice_get old n)) number) (sym e) h)
      | inr f ↦ (one, subst (λ (ps : List Pin). Contains ps one) (sym more) (Contains-push before one), sym e, f)
    ]
    | inr n ↦ sound_old at number (subst (λ (ns : List ℕ). Contains ns number) (others at n) among)
  ]

  pub listed_more : AreListed at_of number_of new after
  listed_more = record { whole = whole_more; sound = sound_more }

-- ---- nets that have the pins

abbrev pub net_of : Pin → ℕ
net_of pin = pin.net

abbrev pub item_of : Pin → ℕ
item_of pin = pin.item

module _ (nets : Nets) (pins : List Pin) (by_net : AreListed net_of item_of nets.items.items pins) (by_item : AreListed item_of net_of nets.touching.items pins)
    (net_low : All (λ (pin : Pin). pin.net < net_count nets) pins) (item_low : All (λ (pin : Pin). pin.item < item_count nets) pins) where
  holds : (P : Pin → Type 0) → All P pins → (pin : Pin) → Contains pins pin → P pin
  holds P each pin h = subst P h.2 (each h.0 pin h.1)

  inside : (net : ℕ) → net < net_count nets → All (λ item. item < item_count nets) (items_of nets net)
  inside net low k d within =
      let found = by_net.sound net (get_or (items_of nets net) k d) (k, within, get_or_default (items_of nets net) k (get_or (items_of nets net) k d) d within) in
      omega (arith, holds (λ pin. pin.item < item_count nets) item_low found.0 found.1, found.3)

  touched : (item : ℕ) → item < item_count nets → All (λ net. net < net_count nets) (nets_of nets item)
  touched item low k d within =
      let found = by_item.sound item (get_or (nets_of nets item) k d) (k, within, get_or_default (nets_of nets item) k (get_or (nets_of nets item) k d) d within) in
      omega (arith, holds (λ pin. pin.net < net_count nets) net_low found.0 found.1, found.3)

  to_net : (item net : ℕ) → Contains (items_of nets net) item → Contains (nets_of nets item) net
  to_net item net h =
      let found = by_net.sound net item h in
      subst (λ i. Contains (nets_of nets i) net) found.3 (subst (λ n. Contains (nets_of nets (item_of found.0)) n) found.2 (by_item.whole found.0 found.1))

  to_item : (item net : ℕ) → Contains (nets_of nets item) net → Contains (items_of nets net) item
  to_item item net h =
      let found = by_item.sound item net h in
      subst (λ n. Contains (items_of nets n) item) found.3 (subst (λ i. Contains (items_of nets (net_of found.0)) i) found.2 (by_net.whole found.0 found.1))

  pub made_nets : net_count nets ≤ 65536 → item_count nets ≤ 65536 → IsNets nets
  made_nets few few_items = record {
    inside = inside;
    touched = touched;
    complete = λ item net low net_low. (to_net item net, to_item item net);
    few = few;
    few_items = few_items;
  }

  pub made_pins : HavePins nets pins
  made_pins = record { whole = by_net.whole; sound = by_net.sound }
