-- Constraints of ports and the numbers of their pads.
use Rattle.std.proofs.Common.{◌≡◌, ◌⊎◌, ℕ, ◌<◌, ◌≤◌, Bool, true, false, not, List, [], ◌∷◌, map, filter, length, get_or, Option, Some, None, zero, suc, refl, sym, ◌∙◌, ap, subst, inl, inr, arith}
use Rattle.std.specs.List.{Contains, list_any}
use Rattle.std.specs.Str.{bytes_eq}
use Rattle.std.proofs.lemmas.Bool.{cases_Bool}
use Rattle.std.proofs.lemmas.List.{get_or_default}
use Rattle.std.proofs.lemmas.List.Elements.{All-contains}
use Rattle.std.proofs.lemmas.Slice.Eq.{bytes_eq-Decides}
use Rattle.fab_kinds.specs.declared.kind.Kind.TheVariants as kinds
use Rattle.fab_model.specs.Tiles.{counted}
use Rattle.fab_model.specs.Grid.{PlainFabric}
use Rattle.fab_fabric.specs.declared.wire.Site.{Site}
use Rattle.fab_netlist.specs.Plain.{IsAt}
use Rattle.fab_netlist.specs.Packed.{PlainPacked}
use Rattle.fab_netlist.proofs.Members.{any_by, any_gives}
use Rattle.fab_implementation.specs.Plain.{Pad}
use Rattle.fab_implementation.specs.OnFabric.{kind_at}
use Rattle.fab_ways_laws.specs.fab_legal_Lines.{named, sited}
use Rattle.fab_ways_laws.specs.fab_legal_Sinks.{site_of}
use Rattle.fab_ways_laws.specs.fab_legal_WellMade.{ports, IsWellMadePacked}
use Rattle.fab_fabric.specs.Sites.{sites_of_kind}
use Rattle.fab_ways_laws.specs.Sites.{same_site}
use Rattle.fab_ways_laws.specs.Placing.{no_site, is_fixed, pads_in_order, free_pads}
use Rattle.fab_ways_laws.proofs.Lists.{from_counted}
use Rattle.fab_place.specs.Fixings.{AreFixed}
use Rattle.fab_place.specs.inner.Constraints.{IsPadOf, AreConstrained}
use Rattle.fab_place.specs.inner.Starts.{is_taken, free_numbers, loose, numbers_in_order}
use Rattle.fab_place.proofs.Counting.{map_counted, counted_list}
use Rattle.fab_place.proofs.Once.{Once, once_at, once_pairs}
use Rattle.fab_place.proofs.Orders.{pads_of, from_pads, taken_is, is_taken_by}
use Rattle.fab_place.proofs.Sited.{into_sites}
use Rattle.fab_place.proofs.Finding.{site_tells, site_found, one_line}

-- ---- lists

bool_same : (a b : Bool) → (a ≡ true → b ≡ true) → (b ≡ true → a ≡ true) → a ≡ b
bool_same true b into from = sym (into refl)
bool_same false true into from = from refl
bool_same false false into from = refl

filter_mapped : {X Y : Type 0} (q : Y → Bool) (f : X → Y) (xs : List X) → filter q (map f xs) ≡ map f (filter (λ x. q (f x)) xs)
filter_mapped q f [] = refl
filter_mapped {X} {Y} q f (x ∷ xs) = elim (cases_Bool (q (f x))) [
  | inl t ↦ rw t (ap (λ (rest : List Y). f x ∷ rest) (filter_mapped q f xs))
  | inr n ↦ rw n (filter_mapped q f xs)
]

filter_same : {X : Type 0} (p q : X → Bool) (xs : List X) → ((x : X) → Contains xs x → p x ≡ q x) → filter p xs ≡ filter q xs
filter_same p q [] same = refl
filter_same {X} p q (x ∷ xs) same =
    let rest = filter_same p q xs (λ y h. same y (suc h.0, omega (arith, h.1), h.2)) in
    let here = same x (0, omega arith, refl) in
    elim (cases_Bool (p x)) [
      | inl t ↦ (let other : q x ≡ true = sym here ∙ t in rw (t, other) (ap (λ (ys : List X). x ∷ ys) rest))
      | inr n ↦ (let other : q x ≡ false = sym here ∙ n in rw (n, other) rest)
    ]

no_some : {V : Type 0} (a : V) → None ≡ Some a → ⊥
no_some a e = cc

within : (constrained : List (Option ℕ)) (place number : ℕ) → get_or constrained place None ≡ Some number → place < length constrained
within [] place number is = absurd (no_some number is)
within (c ∷ constrained) zero number is = omega arith
within (c ∷ constrained) (suc place) number is = omega (arith, within constrained place number is)

pub none_or_some : (o : Option ℕ) → (o ≡ None) ⊎ ((number : ℕ) × (o ≡ Some number))
none_or_some None = inl refl
none_or_some (Some number) = inr (number, refl)

pub pads_once : (constrained : List (Option ℕ)) → ((i j number : ℕ) → get_or constrained i None ≡ Some number → get_or constrained j None ≡ Some number → i ≡ j) → Once (pads_of constrained)
unfolding pads_of
pads_once [] apart = tt
pads_once (None ∷ constrained) apart = pads_once constrained (λ i j number hi hj. (let same = apart (suc i) (suc j) number hi hj in omega (arith, same)))
pads_once (Some pad ∷ constrained) apart =
    let here : Contains (pads_of constrained) pad → ⊥ = λ h.
    (let found = from_pads constrained pad h in
    let same = apart 0 (suc found.0) pad refl (get_or_default constrained found.0 None (Some pad) found.1 ∙ found.2) in omega (arith, same)) in
    (here, pads_once constrained (λ i j number hi hj. (let same = apart (suc i) (suc j) number hi hj in omega (arith, same))))

-- ---- constraints

module _ (fabric : PlainFabric) (packed : PlainPacked) (fixed : List Pad) (constrained : List (Option ℕ)) (made : IsWellMadePacked packed) (are_fixed : AreFixed fabric packed fixed)
    (are : AreConstrained fixed (sites_of_kind fabric kinds.Io) (ports packed) constrained) where
  abbrev Pads : List Site
  Pads = sites_of_kind fabric kinds.Io

  abbrev pub At : ℕ → Site
  At number = get_or (sites_of_kind fabric kinds.Io) number no_site

  at_is : (number : ℕ) (site : Site) → IsAt Pads number site → At number ≡ site
  at_is number site at = get_or_default Pads number no_site site at.0 ∙ at.1

  -- the pad of a constraint by its number
  pub numbered_pad : (pad : Pad) → Contains fixed pad → (number : ℕ) × IsAt Pads number pad.1
  numbered_pad pad h =
      let found = into_sites fabric kinds.Io pad.1 (All-contains (λ (p : Pad). kind_at fabric p.1 ≡ Some kinds.Io) fixed pad are_fixed.kinds h) in
      (found.0, (found.1, found.2))

  port_at : (place : ℕ) (port : List ℕ) → IsAt (ports packed) place port → get_or (ports packed) place [] ≡ port
  port_at place port at = get_or_default (ports packed) place [] port at.0 ∙ at.1

  -- a constraint is kept by its port
  pub record HasPort (pad : Pad) : Type 0 where
    pub place : ℕ
    pub low : place < length (ports packed)
    pub port : get_or (ports packed) place [] ≡ pad.0
    pub number : ℕ
    pub is_at : IsAt (sites_of_kind fabric kinds.Io) number pad.1
    pub given : get_or constrained place None ≡ Some number

  pub port_of : (pad : Pad) → Contains fixed pad → HasPort pad
  port_of pad h =
      let known = All-contains (λ (p : Pad). Contains (ports packed) p.0) fixed pad are_fixed.known h in
      let port = port_at known.0 pad.0 (known.1, known.2) in
      let number = numbered_pad pad h in
      record {
        place = known.0;
        low = known.1;
        port = port;
        number = number.0;
        is_at = number.1;
        given = (are.each known.0 number.0 known.1).1 (record { site = pad.1; constrained = subst (λ (name : List ℕ). Contains fixed (name, pad.1)) (sym port) h; is_at = number.1 });
      }

  pub pad_of : (place number : ℕ) → get_or constrained place None ≡ Some number → IsPadOf fixed Pads (get_or (ports packed) place []) number
  pad_of place number is = (are.each place number (omega (arith, within constrained place number is, are.count))).0 is

  -- two ports have no pad in common
  pub given_apart : (i j number : ℕ) → get_or constrained i None ≡ Some number → get_or constrained j None ≡ Some number → i ≡ j
  given_apart i j number hi hj =
      let a = pad_of i number hi in
      let b = pad_of j number hj in
      let sites : a.site ≡ b.site = sym (at_is number a.site a.is_at) ∙ at_is number b.site b.is_at in
      let line = one_line fixed (get_or (ports packed) i [], a.site) (get_or (ports packed) j [], b.site) (once_pairs (sited fixed) are_fixed.sites_apart) a.constrained b.constrained sites in
      once_at (ports packed) i j [] (once_pairs (ports packed) made.ports_differ) (omega (arith, within constrained i number hi, are.count)) (omega (arith, within constrained j number hj, are.count)) (ap (λ (l : Pad). l.0) line)

  -- a pad is taken where a constraint names it
  named_site : (site : Site) → Bool
  named_site site = list_any (λ (pad : Pad). same_site pad.1 site) fixed

  taken_named : (number : ℕ) → is_taken constrained number ≡ true → list_any (λ (pad : Pad). same_site pad.1 (At number)) fixed ≡ true
  taken_named number t =
      let found = taken_is constrained number t in
      let pad = pad_of found.0 number (get_or_default constrained found.0 None (Some number) found.1 ∙ found.2) in
      any_by (λ (p : Pad). same_site p.1 (At number)) fixed (get_or (ports packed) found.0 [], pad.site) pad.constrained ((site_tells pad.site (At number)).1 (sym (at_is number pad.site pad.is_at)))

  named_taken : (number : ℕ) → number < length Pads → list_any (λ (pad : Pad). same_site pad.1 (At number)) fixed ≡ true → is_taken constrained number ≡ true
  named_taken number low t =
      let found = any_gives (λ (p : Pad). same_site p.1 (At number)) fixed t in
      let same : found.0.1 ≡ At number = (site_tells found.0.1 (At number)).0 found.2 in
      let port = port_of found.0 found.1 in
      let here : IsAt Pads number found.0.1 = (low, get_or_default Pads number found.0.1 no_site low ∙ sym same) in
      let read : get_or (ports packed) port.place [] ≡ found.0.0 = port.port in
      let given = (are.each port.place number port.low).1 (record { site = found.0.1; constrained = subst (λ (name : List ℕ). Contains fixed (name, found.0.1)) (sym read) found.1; is_at = here }) in
      let inside = within constrained port.place number given in
      is_taken_by constrained number (port.place, inside, get_or_default constrained port.place (Some number) None inside ∙ given)

  -- the free pads by their numbers
  pub free_same : map At (free_numbers constrained (length (sites_of_kind fabric kinds.Io))) ≡ free_pads fabric fixed
  free_same =
      let test : Site → Bool = λ site. not (list_any (λ (pad : Pad). same_site pad.1 site) fixed) in
      let numbers = counted (length Pads) (λ (i : ℕ). i) in
      let all : Pads ≡ map At numbers = counted_list Pads no_site ∙ sym (map_counted At (length Pads) (λ i. i)) in
      ap (map At) (filter_same (λ number. not (is_taken constrained number)) (λ number. test (At number)) numbers
      (λ number h.
      let found = from_counted (length Pads) (λ i. i) number h in
      ap not (bool_same (is_taken constrained number) (list_any (λ (pad : Pad). same_site pad.1 (At number)) fixed) (taken_named number) (named_taken number (omega (arith, found.1, found.2))))))
      ∙ sym (filter_mapped test At numbers) ∙ ap (filter test) (sym all)

  -- ---- ports in order

  abbrev Suits : (port : List ℕ) → Option ℕ → Type 0
  Suits port None = is_fixed fixed port ≡ false
  Suits port (Some number) = (is_fixed fixed port ≡ true) × (site_of bytes_eq fixed port ≡ At number)

  abbrev Match : List (List ℕ) → List (Option ℕ) → Type 0
  Match [] [] = Unit {0}
  Match [] (c ∷ cs) = ⊥
  Match (p ∷ ps) [] = ⊥
  Match (p ∷ ps) (c ∷ cs) = Suits p c × Match ps cs

  match_all : (ps : List (List ℕ)) (cs : List (Option ℕ)) → length cs ≡ length ps → ((place : ℕ) → place < length ps → Suits (get_or ps place []) (get_or cs place None)) → Match ps cs
  match_all [] [] count each = tt
  match_all [] (c ∷ cs) count each = omega (arith, count)
  match_all (p ∷ ps) [] count each = omega (arith, count)
  match_all (p ∷ ps) (c ∷ cs) count each = (each 0 (omega arith), match_all ps cs (omega (arith, count)) (λ place low. each (suc place) (omega (arith, low))))

  suits : (place : ℕ) → place < length (ports packed) → Suits (get_or (ports packed) place []) (get_or constrained place None)
  suits place low = elim (none_or_some (get_or constrained place None)) [
    | inl none ↦ rw none (elim (cases_Bool (is_fixed fixed (get_or (ports packed) place []))) [
      | inl t ↦ absurd (unconstrained none t)
      | inr f ↦ f
    ])
    | inr some ↦ rw some.1 (given some.0 some.1)
  ] where
    port : List ℕ
    port = get_or (ports packed) place []

    unconstrained : get_or constrained place None ≡ None → is_fixed fixed (get_or (ports packed) place []) ≡ true → ⊥
    unconstrained none t =
        let found = any_gives (λ (pad : Pad). bytes_eq pad.0 (get_or (ports packed) place [])) fixed t in
        let name = (bytes_eq-Decides found.0.0 (get_or (ports packed) place [])).0 found.2 in
        let number = numbered_pad found.0 found.1 in
        let is = (are.each place number.0 low).1 (record { site = found.0.1; constrained = subst (λ (n : List ℕ). Contains fixed (n, found.0.1)) name found.1; is_at = number.1 }) in
        no_some number.0 (sym none ∙ is)

    given : (number : ℕ) → get_or constrained place None ≡ Some number → Suits (get_or (ports packed) place []) (Some number)
    given number is =
        let pad = pad_of place number is in (
          any_by (λ (p : Pad). bytes_eq p.0 (get_or (ports packed) place [])) fixed (get_or (ports packed) place [], pad.site) pad.constrained ((bytes_eq-Decides (get_or (ports packed) place []) (get_or (ports packed) place [])).1 refl),
          site_found bytes_eq bytes_eq-Decides fixed (get_or (ports packed) place []) pad.site (once_pairs (named fixed) are_fixed.ports_apart) pad.constrained ∙ sym (at_is number pad.site pad.is_at),
        )

  pub all_match : Match (ports packed) constrained
  all_match = match_all (ports packed) constrained are.count suits

  abbrev pub paired : List (List ℕ) → List Site → List Pad
  paired [] sites = []
  paired (p ∷ ps) [] = []
  paired (p ∷ ps) (site ∷ sites) = (p, site) ∷ paired ps sites

  pub in_order : (ps : List (List ℕ)) (cs : List (Option ℕ)) (free : List ℕ) → Match ps cs → loose cs ≤ length free → pads_in_order fixed (map At free) ps ≡ paired ps (map At (numbers_in_order free cs))
  in_order [] [] free match enough = refl
  in_order [] (c ∷ cs) free match enough = absurd match
  in_order (p ∷ ps) [] free match enough = absurd match
  in_order (p ∷ ps) (Some number ∷ cs) free match enough =
      rw (match.0.0, match.0.1) (ap (λ (rest : List Pad). (p, At number) ∷ rest) (in_order ps cs free match.1 enough))
  in_order (p ∷ ps) (None ∷ cs) [] match enough = absurd (omega (arith, enough))
  in_order (p ∷ ps) (None ∷ cs) (first ∷ free) match enough =
      rw match.0 (ap (λ (rest : List Pad). (p, At first) ∷ rest) (in_order ps cs free match.1 (omega (arith, enough))))

  pub paired_counted : (ps : List (List ℕ)) (sites : List Site) → length ps ≡ length sites → paired ps sites ≡ counted (length ps) (λ k. (get_or ps k [], get_or sites k no_site))
  unfolding counted
  paired_counted [] sites count = refl
  paired_counted (p ∷ ps) [] count = absurd (omega (arith, count))
  paired_counted (p ∷ ps) (site ∷ sites) count = ap (λ (rest : List Pad). (p, site) ∷ rest) (paired_counted ps sites (omega (arith, count)))
