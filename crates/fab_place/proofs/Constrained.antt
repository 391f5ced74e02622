-- Maps from pads to numbers and from ports to pads.
use Rattle.std.proofs.Common.{◌≡◌, ◌≢◌, ◌↔◌, ℕ, ◌+◌, ◌<◌, ◌≤◌, ◌&&◌, List, [], ◌∷◌, ◌++◌, Vec, Global, map, length, get_or, take, Option, Some, None, Decides, nat_eq, refl, sym, ◌∙◌, ap, subst, inl, inr, arith}
use Rattle.std.specs.List.{AllPairs, Contains}
use Rattle.std.specs.Map.{lookup}
use Rattle.std.specs.Option.{option_and_then}
use Rattle.std.specs.Str.{bytes_eq}
use Rattle.std.proofs.lemmas.Bool.Decides.{Decides-eqb}
use Rattle.std.proofs.lemmas.List.{get_or-map, get_or-take, length-map, length-take-le, map-append, take-map}
use Rattle.std.proofs.lemmas.Slice.Eq.{bytes_eq-Decides}
use Rattle.indexmap.specs.IndexMap.{IndexMap, insert_entry, get_by}
use Rattle.fab_model.proofs.Steps.{then_gives}
use Rattle.fab_fabric.specs.declared.wire.Site.{Site}
use Rattle.fab_netlist.specs.declared.net_id.NetId.{NetId}
use Rattle.fab_netlist.specs.Plain.{IsAt}
use Rattle.fab_netlist.specs.Packed.{PlainPacked}
use Rattle.fab_netlist.proofs.Members.{mapped_in, parts_true, both_true}
use Rattle.fab_implementation.specs.Plain.{Pad}
use Rattle.fab_ways_laws.specs.fab_legal_inner_Kept.{site_key}
use Rattle.fab_ways_laws.specs.fab_legal_Lines.{named}
use Rattle.fab_ways_laws.specs.fab_legal_WellMade.{output_name, ports}
use Rattle.fab_ways_laws.proofs.fab_legal_Lists.{same_at, cases_below}
use Rattle.fab_ways_laws.proofs.fab_legal_Members.{in_taken, stays_taken, last_taken}
use Rattle.fab_place.specs.inner.Constraints.{IsPadOf, AreConstrained, site_by, same_key, HasNumbers, HasConstraints, pad_in}
use Rattle.fab_place.proofs.Lines.{new_at}
use Rattle.fab_place.proofs.Maps.{map_more, map_none}
use Rattle.fab_place.proofs.Once.{once_pairs}

-- ---- the numbers of pads

pub key_tells : (a b : ℕ × ℕ × ℕ) → Decides (same_key a b) (a ≡ b)
key_tells a b = (
  λ t.
      let both = parts_true (nat_eq a.0 b.0 && nat_eq a.1 b.1) (nat_eq a.2 b.2) t in
      let two = parts_true (nat_eq a.0 b.0) (nat_eq a.1 b.1) both.0 in
      ap (λ (n : ℕ). (n, a.1, a.2)) ((Decides-eqb a.0 b.0).0 two.0) ∙ ap (λ (n : ℕ). (b.0, n, a.2)) ((Decides-eqb a.1 b.1).0 two.1) ∙ ap (λ (n : ℕ). (b.0, b.1, n)) ((Decides-eqb a.2 b.2).0 both.1),
  λ e.
      both_true (nat_eq a.0 b.0 && nat_eq a.1 b.1) (nat_eq a.2 b.2)
      (both_true (nat_eq a.0 b.0) (nat_eq a.1 b.1) ((Decides-eqb a.0 b.0).1 (ap (λ (k : ℕ × ℕ × ℕ). k.0) e)) ((Decides-eqb a.1 b.1).1 (ap (λ (k : ℕ × ℕ × ℕ). k.1) e))) ((Decides-eqb a.2 b.2).1 (ap (λ (k : ℕ × ℕ × ℕ). k.2) e)),
)

at_taken : {X : Type 0} (xs : List X) (n place : ℕ) (x : X) → n ≤ length xs → IsAt (take n xs) place x → (place < n) × IsAt xs place x
at_taken xs n place x short at =
    let less : place < n = omega (arith, at.0, length-take-le n xs short) in
    (less, (omega (arith, less, short), sym (get_or-take n xs place x less) ∙ at.1))

taken_at : {X : Type 0} (xs : List X) (n place : ℕ) (x : X) → n ≤ length xs → place < n → IsAt xs place x → IsAt (take n xs) place x
taken_at xs n place x short less at = (omega (arith, less, length-take-le n xs short), get_or-take n xs place x less ∙ at.1)

abbrev pub AreNumbered : (pads : List Site) → List ((ℕ × ℕ × ℕ) × ℕ) → Type 0
AreNumbered pads entries = (key : ℕ × ℕ × ℕ) (number : ℕ) → (lookup (same_key key) entries ≡ Some number) ↔ IsAt pads number (site_by key)

pub none_numbered : (pads : List Site) (entries : List ((ℕ × ℕ × ℕ) × ℕ)) → entries ≡ [] → AreNumbered (take 0 pads) entries
none_numbered pads entries is =
    map_none (λ (key : ℕ × ℕ × ℕ). key) same_key key_tells (λ key number. IsAt (take 0 pads) number (site_by key)) entries is (λ key number at. omega (arith, at.0))

pub numbers_more : (pads : List Site) (k number : ℕ) (entries more : List ((ℕ × ℕ × ℕ) × ℕ)) (site : Site) → AllPairs (λ first second. first ≢ second) pads → IsAt pads k site → number ≡ k → more ≡ insert_entry same_key entries (site_key site) number
    → AreNumbered (take k pads) entries → AreNumbered (take (k + 1) pads) more
numbers_more pads k number entries more site apart at same is has =
    let short : k ≤ length pads = omega (arith, at.0) in
    let long : k + 1 ≤ length pads = omega (arith, at.0) in
    let R : ℕ × ℕ × ℕ → ℕ → Type 0 = λ key n. IsAt (take k pads) n (site_by key) in
    let S : ℕ × ℕ × ℕ → ℕ → Type 0 = λ key n. IsAt (take (k + 1) pads) n (site_by key) in
    map_more (λ (key : ℕ × ℕ × ℕ). key) same_key key_tells R S entries more (site_key site) number is has
    (λ n there. new_at pads k site (once_pairs pads apart) at (n, there.0, there.1))
    (λ key n there.
    let found = at_taken pads (k + 1) n (site_by key) long there in
    elim (cases_below n k found.0) [
      | inl less ↦ inl (taken_at pads k n (site_by key) short less found.1)
      | inr e ↦ inr (ap site_key (same_at pads k site (site_by key) at (subst (λ m. IsAt pads m (site_by key)) e found.1)), same ∙ sym e)
    ])
    (λ key n there. let found = at_taken pads k n (site_by key) short there in taken_at pads (k + 1) n (site_by key) long (omega (arith, found.0)) found.1)
    (subst (λ n. IsAt (take (k + 1) pads) n site) (sym same) (taken_at pads (k + 1) k site long (omega arith) at))

-- ---- the constraints by port

abbrev pub AreKept : (fixed : List Pad) → List (Vec ℕ Global × Site) → Type 0
AreKept fixed entries = (port : List ℕ) (site : Site) → (lookup (λ key. bytes_eq port key.items) entries ≡ Some site) ↔ Contains fixed (port, site)

pub none_kept : (fixed : List Pad) (entries : List (Vec ℕ Global × Site)) → entries ≡ [] → AreKept (take 0 fixed) entries
none_kept fixed entries is =
    map_none (λ (key : Vec ℕ Global). key.items) bytes_eq bytes_eq-Decides (λ port site. Contains (take 0 fixed) (port, site)) entries is (λ port site h. omega (arith, h.1))

pub constraints_more : (fixed : List Pad) (k : ℕ) (entries more : List (Vec ℕ Global × Site)) (key : Vec ℕ Global) (pad : Pad) → AllPairs (λ first second. first ≢ second) (named fixed) → IsAt fixed k pad → key.items ≡ pad.0
    → more ≡ insert_entry (λ (a b : Vec ℕ Global). bytes_eq a.items b.items) entries key pad.1 → AreKept (take k fixed) entries → AreKept (take (k + 1) fixed) more
constraints_more fixed k entries more key pad apart at name is has =
    let R : List ℕ → Site → Type 0 = λ port site. Contains (take k fixed) (port, site) in
    let S : List ℕ → Site → Type 0 = λ port site. Contains (take (k + 1) fixed) (port, site) in
    map_more (λ (key : Vec ℕ Global). key.items) bytes_eq bytes_eq-Decides R S entries more key pad.1 is has
    (λ site there.
    new_at (named fixed) k key.items (once_pairs (named fixed) apart)
    (omega (arith, at.0, length-map fixed (λ (p : Pad). p.0)), get_or-map (λ (p : Pad). p.0) fixed k pad key.items at.0 ∙ ap (λ (p : Pad). p.0) at.1 ∙ sym name)
    (subst (λ (names : List (List ℕ)). Contains names key.items) (sym (take-map (λ (p : Pad). p.0) k fixed)) (mapped_in (λ (p : Pad). p.0) (take k fixed) (key.items, site) there)))
    (λ port site there. elim (in_taken fixed k pad (port, site) at there) [
      | inl before ↦ inl before
      | inr e ↦ inr (name ∙ ap (λ (p : Pad). p.0) e, ap (λ (p : Pad). p.1) e)
    ])
    (λ port site there. stays_taken fixed k pad (port, site) at there)
    (subst (λ (n : List ℕ). Contains (take (k + 1) fixed) (n, pad.1)) (sym name) (last_taken fixed k pad at))

-- ---- what both give

names_mapped : (f : List ℕ → Option ℕ) (outputs : List (List ℕ × NetId)) → map (λ (output : List ℕ × NetId). f output.0) outputs ≡ map f (map output_name outputs)
names_mapped f [] = refl
names_mapped f (output ∷ outputs) = ap (λ (rest : List (Option ℕ)). f output.0 ∷ rest) (names_mapped f outputs)

pub all_found : (packed : PlainPacked) (f : List ℕ → Option ℕ) (none first all : List (Option ℕ)) → none ≡ [] → first ≡ none ++ map f packed.inputs → all ≡ first ++ map (λ (output : List ℕ × NetId). f output.0) packed.outputs → all ≡ map f (ports packed)
all_found packed f none first all empty inputs outputs =
    outputs ∙ ap (λ (front : List (Option ℕ)). front ++ map (λ (output : List ℕ × NetId). f output.0) packed.outputs) (inputs ∙ ap (λ (start : List (Option ℕ)). start ++ map f packed.inputs) empty)
    ∙ ap (λ (back : List (Option ℕ)). map f packed.inputs ++ back) (names_mapped f packed.outputs) ∙ sym (map-append f packed.inputs (map output_name packed.outputs))

module _ {S T : Type 0} (fixed : List Pad) (pads : List Site) (constraints : IndexMap (Vec ℕ Global) Site S) (numbers : IndexMap (ℕ × ℕ × ℕ) ℕ T) (kept : HasConstraints fixed constraints) (numbered : HasNumbers pads numbers) where
  pad_is : (port : List ℕ) (number : ℕ) → (pad_in constraints numbers port ≡ Some number) ↔ IsPadOf fixed pads port number
  pad_is port number =
      let of_site : Site → Option ℕ = λ site. get_by (same_key (site_key site)) numbers in (
        λ e.
            let found = then_gives of_site (get_by (λ key. bytes_eq port key.items) constraints) number e in
            record { site = found.0; constrained = (kept port found.0).0 found.1; is_at = (numbered (site_key found.0) number).0 found.2 },
        λ pad. ap (option_and_then of_site) ((kept port pad.site).1 pad.constrained) ∙ (numbered (site_key pad.site) number).1 pad.is_at,
      )

  pub are_constrained : (names : List (List ℕ)) (found : List (Option ℕ)) → found ≡ map (pad_in constraints numbers) names → AreConstrained fixed pads names found
  are_constrained names found is = record {
    count = ap length is ∙ length-map names (pad_in constraints numbers);
    each = λ place number low.
        let read : get_or found place None ≡ pad_in constraints numbers (get_or names place []) = ap (λ (os : List (Option ℕ)). get_or os place None) is ∙ get_or-map (pad_in constraints numbers) names place [] None low in
        let both = pad_is (get_or names place []) number in
        (λ e. both.0 (sym read ∙ e), λ pad. read ∙ both.1 pad);
  }
