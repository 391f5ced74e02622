-- The search for the wires that are reached.
use Rattle.std.proofs.Common.{◌≡◌, ◌⊎◌, ℕ, ◌+◌, ◌-◌, ◌<◌, ◌≤◌, Bool, true, false, List, [], ◌∷◌, ◌++◌, Vec, map, length, get_or, set, take, Contains, Some, None, position, nat_eq, lt-ltb, le-ltb, refl, sym, ap, ◌∙◌, subst, inl, inr, arith, eq-eqb, eqb-true, append_assoc, append-nil, cond}
use Rattle.std.specs.List.{list_any, position_or_len, filter}
use Rattle.std.proofs.lemmas.Bool.{cases_Bool, cases_lt}
use Rattle.std.proofs.lemmas.Bool.Decides.{Decides-eqb, eqb_tells}
use Rattle.std.proofs.lemmas.List.{map-append, map-set, length-map, get_or-set_same, get_or-set_other, get_or_append_left, get_or_default, get_or_past, length-append}
use Rattle.std.proofs.lemmas.List.Elements.{filter-append}
use Rattle.std.proofs.lemmas.List.Sums.{passes_at_first}
use Rattle.indexmap.specs.IndexSet.{insert_key, insert_all}
use Rattle.fab_select.specs.Selection.{inputs_of}
use Rattle.fab_implementation.specs.fab_fabric.specs.Wires.{numbered_wire}
use Rattle.fab_implementation.specs.fab_fabric.specs.declared.wire.Wire.{Wire}
use Rattle.fab_implementation.specs.Plain.{Edge}
use Rattle.fab_implementation.specs.fab_netlist.specs.Plain.{IsAt}
use Rattle.fab_implementation.specs.fab_netlist.proofs.Counts.{at_mapped}
use Rattle.fab_implementation.specs.fab_netlist.proofs.Members.{in_none, first_or_later, first_in, later_in, mapped_in, in_left}
use Rattle.fab_legal.specs.Nets.{Reached, root, step, entered_wires, IsRightEntry}
use Rattle.fab_legal.specs.inner.Tables.{left_number, entered_number, link, targets, IsRootSet, IsReachedSet, missing}
use Rattle.fab_bits.specs.Keys.{group_at}
use Rattle.fab_legal.proofs.Members.{from_mapped, taken_more, in_taken, stays_taken, last_taken, last_in}
use Rattle.fab_legal.proofs.PortNumbers.{place_in}
use Rattle.fab_legal.proofs.Sets.{any_in, in_any, none_in, put_in, put_stays, put_here, all_in, old_in, new_in}

-- ---- sets of numbers

pub set_in : (xs : List ℕ) (n : ℕ) → Contains (insert_all nat_eq [] xs) n → Contains xs n
set_in xs n here = elim (all_in nat_eq Decides-eqb [] xs n here) [ inl none ↦ absurd (in_none n none) | inr there ↦ there ]

pub in_set : (xs : List ℕ) (n : ℕ) → Contains xs n → Contains (insert_all nat_eq [] xs) n
in_set xs n here = new_in nat_eq Decides-eqb [] xs n here

pub entered_wire : (edges : List Edge) (n : ℕ) → Contains (map entered_number edges) n → Contains (entered_wires edges) (numbered_wire n)
entered_wire edges n here =
    let found = from_mapped entered_number edges n here in
    subst (λ (w : Wire). Contains (entered_wires edges) w) (ap numbered_wire found.2) (mapped_in (λ (e : Edge). e.1) edges found.0 found.1)

pub entered_as : (edges : List Edge) (w : Wire) → Contains (entered_wires edges) w → Contains (map entered_number edges) w.0
entered_as edges w here =
    let found = from_mapped (λ (e : Edge). e.1) edges w here in
    subst (λ (n : ℕ). Contains (map entered_number edges) n) (ap (λ (x : Wire). x.0) found.2) (mapped_in entered_number edges found.0 found.1)

-- ---- places of numbers

pub number_place : (xs : List ℕ) (n : ℕ) → Contains xs n → position_or_len (nat_eq n) xs < length xs
number_place xs n here = place_in (nat_eq n) xs (in_any nat_eq Decides-eqb xs n here)

pub number_at : (xs : List ℕ) (n d : ℕ) → position_or_len (nat_eq n) xs < length xs → get_or xs (position_or_len (nat_eq n) xs) d ≡ n
number_at xs n d small = sym (eqb-true n (get_or xs (position_or_len (nat_eq n) xs) d) (passes_at_first (nat_eq n) xs d small))

-- ---- targets

in_filter : {X : Type 0} (p : X → Bool) (xs : List X) (x : X) → Contains (filter p xs) x → Contains xs x × (p x ≡ true)
in_filter p [] x here = absurd (in_none x here)
in_filter {X} p (y ∷ xs) x here =
    elim (cases_Bool (p y)) [
      | inl t ↦ (
          let there : Contains (y ∷ filter p xs) x = rw t at here in
          elim (first_or_later y (filter p xs) x there) [
            | inl now ↦ (first_in y xs x now, subst (λ (z : X). p z ≡ true) now t)
            | inr later ↦ (let found = in_filter p xs x later in (later_in y xs x found.0, found.1))
          ])
      | inr f ↦ (let there : Contains (filter p xs) x = rw f at here in let found = in_filter p xs x there in (later_in y xs x found.0, found.1))
    ]

into_filter : {X : Type 0} (p : X → Bool) (xs : List X) (x : X) → Contains xs x → p x ≡ true → Contains (filter p xs) x
into_filter p [] x here passes = absurd (in_none x here)
into_filter {X} p (y ∷ xs) x here passes =
    elim (first_or_later y xs x here) [
      | inl now ↦ (let t : p y ≡ true = subst (λ (z : X). p z ≡ true) (sym now) passes in rw t (first_in y (filter p xs) x now))
      | inr later ↦ elim (cases_Bool (p y)) [
        | inl t ↦ rw t (later_in y (filter p xs) x (into_filter p xs x later passes))
        | inr f ↦ rw f (into_filter p xs x later passes)
      ]
    ]

pub in_targets : (lefts : List ℕ) (edges : List Edge) (place n : ℕ) → Contains (targets lefts edges place) n →
    (edge : Edge) × Contains edges edge × (position_or_len (nat_eq (left_number edge)) lefts ≡ place) × (entered_number edge ≡ n)
in_targets lefts edges place n here =
    let pair = from_mapped (λ (p : ℕ × ℕ). p.1) (filter (λ p. nat_eq p.0 place) (map (link lefts) edges)) n here in
    let kept = in_filter (λ (p : ℕ × ℕ). nat_eq p.0 place) (map (link lefts) edges) pair.0 pair.1 in
    let edge = from_mapped (link lefts) edges pair.0 kept.0 in
    (edge.0, edge.1, ap (λ (p : ℕ × ℕ). p.0) edge.2 ∙ eqb-true pair.0.0 place kept.1, ap (λ (p : ℕ × ℕ). p.1) edge.2 ∙ pair.2)

pub into_targets : (lefts : List ℕ) (edges : List Edge) (place : ℕ) (edge : Edge) → Contains edges edge → position_or_len (nat_eq (left_number edge)) lefts ≡ place → Contains (targets lefts edges place) (entered_number edge)
into_targets lefts edges place edge here is =
    mapped_in (λ (p : ℕ × ℕ). p.1) (filter (λ p. nat_eq p.0 place) (map (link lefts) edges)) (link lefts edge)
    (into_filter (λ (p : ℕ × ℕ). nat_eq p.0 place) (map (link lefts) edges) (link lefts edge) (mapped_in (link lefts) edges edge here) (eq-eqb (position_or_len (nat_eq (left_number edge)) lefts) place is))

-- ---- groups, one edge after another

inputs_push : (pairs : List (ℕ × ℕ)) (pair : ℕ × ℕ) (output : ℕ) → inputs_of nat_eq (pairs ++ pair ∷ []) output ≡ (inputs_of nat_eq pairs output ++ cond (nat_eq pair.0 output) (pair.1 ∷ []) [])
inputs_push pairs pair output =
    let test : ℕ × ℕ → Bool = λ p. nat_eq p.0 output in
    let second : ℕ × ℕ → ℕ = λ p. p.1 in
    ap (map second) (filter-append test pairs (pair ∷ []))
    ∙ map-append second (filter test pairs) (filter test (pair ∷ []))
    ∙ ap (λ more. inputs_of nat_eq pairs output ++ more) (elim (cases_Bool (nat_eq pair.0 output)) [ inl t ↦ rw t refl | inr f ↦ rw f refl ])

pub groups_more : {A : Type 0} (lefts : List ℕ) (groups : List (Vec ℕ A)) (new : Vec ℕ A) (edges : List Edge) (i at : ℕ) (edge : Edge) → IsAt edges i edge → at ≡ position_or_len (nat_eq (left_number edge)) lefts →
    at < length groups → new.items ≡ group_at groups at ++ entered_number edge ∷ [] → ((place : ℕ) → group_at groups place ≡ targets lefts (take i edges) place) →
    (place : ℕ) → group_at (set groups at new) place ≡ targets lefts (take (i + 1) edges) place
groups_more {A} lefts groups new edges i at edge there at_is within is so_far place =
    let before = map (link lefts) (take i edges) in
    let items : Vec ℕ A → List ℕ = λ group. group.items in
    let long : at < length (map items groups) = omega (arith, within, length-map groups items) in
    let listed : map (link lefts) (take (i + 1) edges) ≡ before ++ link lefts edge ∷ [] = ap (map (link lefts)) (taken_more edges i edge there) ∙ map-append (link lefts) (take i edges) (edge ∷ []) in
    let more : targets lefts (take (i + 1) edges) place ≡ inputs_of nat_eq before place ++ cond (nat_eq (position_or_len (nat_eq (left_number edge)) lefts) place) (entered_number edge ∷ []) [] =
    ap (λ ps. inputs_of nat_eq ps place) listed ∙ inputs_push before (link lefts edge) place in
    let turned : targets lefts (take (i + 1) edges) place ≡ inputs_of nat_eq before place ++ cond (nat_eq at place) (entered_number edge ∷ []) [] =
    more ∙ ap (λ (m : ℕ). inputs_of nat_eq before place ++ cond (nat_eq m place) (entered_number edge ∷ []) []) (sym at_is) in
    ap (λ lists. get_or lists place []) (map-set items groups at new)
    ∙ elim (eqb_tells at place) [
      | inl t ↦ (
          ap (λ k. get_or (set (map items groups) at new.items) k []) (sym t.1)
          ∙ get_or-set_same (map items groups) at new.items [] long
          ∙ is
          ∙ ap (λ front. front ++ entered_number edge ∷ []) (so_far at ∙ ap (λ (m : ℕ). inputs_of nat_eq before m) t.1)
          ∙ sym (ap (λ b. inputs_of nat_eq before place ++ cond b (entered_number edge ∷ []) []) t.0)
          ∙ sym turned)
      | inr f ↦ (
          get_or-set_other (map items groups) at place new.items [] (λ e. f.1 (sym e))
          ∙ so_far place
          ∙ sym (turned ∙ rw (f.0, append-nil) refl))
    ]

-- ---- what is missing

any_more : (n : ℕ) (keys more : List ℕ) → list_any (nat_eq n) keys ≡ true → list_any (nat_eq n) (keys ++ more) ≡ true
any_more n keys more there = in_any nat_eq Decides-eqb (keys ++ more) n (in_left keys more n (any_in nat_eq Decides-eqb keys n there))

missing_fewer : (edges : List Edge) (keys more : List ℕ) → missing edges (keys ++ more) ≤ missing edges keys
missing_fewer [] keys more = omega arith
missing_fewer (edge ∷ edges) keys more =
    elim (cases_Bool (list_any (nat_eq (entered_number edge)) keys)) [
      | inl t ↦ (let still = any_more (entered_number edge) keys more t in rw (t, still) (omega (arith, missing_fewer edges keys more)))
      | inr f ↦ elim (cases_Bool (list_any (nat_eq (entered_number edge)) (keys ++ more))) [
        | inl now ↦ rw (f, now) (omega (arith, missing_fewer edges keys more))
        | inr not ↦ rw (f, not) (omega (arith, missing_fewer edges keys more))
      ]
    ]

missing_one : (edges : List Edge) (keys : List ℕ) (n : ℕ) → Contains (map entered_number edges) n → list_any (nat_eq n) keys ≡ false → missing edges (keys ++ n ∷ []) + 1 ≤ missing edges keys
missing_one [] keys n here new = absurd (in_none n here)
missing_one (edge ∷ edges) keys n here new =
    elim (first_or_later (entered_number edge) (map entered_number edges) n here) [
      | inl same ↦ (
          let old : list_any (nat_eq (entered_number edge)) keys ≡ false = subst (λ (m : ℕ). list_any (nat_eq m) keys ≡ false) (sym same) new in
          let now : list_any (nat_eq (entered_number edge)) (keys ++ n ∷ []) ≡ true =
          in_any nat_eq Decides-eqb (keys ++ n ∷ []) (entered_number edge) (subst (λ (m : ℕ). Contains (keys ++ n ∷ []) m) (sym same) (last_here keys n)) in
          rw (old, now) (omega (arith, missing_fewer edges keys (n ∷ []))))
      | inr later ↦ (
          let rest = missing_one edges keys n later new in
          elim (cases_Bool (list_any (nat_eq (entered_number edge)) keys)) [
            | inl t ↦ (let still = any_more (entered_number edge) keys (n ∷ []) t in rw (t, still) (omega (arith, rest)))
            | inr f ↦ elim (cases_Bool (list_any (nat_eq (entered_number edge)) (keys ++ n ∷ []))) [
              | inl now ↦ rw (f, now) (omega (arith, rest))
              | inr not ↦ rw (f, not) (omega (arith, rest))
            ]
          ])
    ]
  where
    last_here : (xs : List ℕ) (x : ℕ) → Contains (xs ++ x ∷ []) x
    last_here xs x = last_in xs x

pub missing_all : (edges : List Edge) (keys xs : List ℕ) → ((n : ℕ) → Contains xs n → Contains (map entered_number edges) n) →
    missing edges (insert_all nat_eq keys xs) + length (insert_all nat_eq keys xs) ≤ missing edges keys + length keys
missing_all edges keys [] entered = omega arith
missing_all edges keys (x ∷ xs) entered =
    let rest = missing_all edges (insert_key nat_eq keys x) xs (λ n here. entered n (later_in x xs n here)) in
    elim (cases_Bool (list_any (nat_eq x) keys)) [
      | inl t ↦ (let same : insert_key nat_eq keys x ≡ keys = rw t refl in
          let kept = subst (λ (ks : List ℕ). missing edges (insert_all nat_eq ks xs) + length (insert_all nat_eq ks xs) ≤ missing edges ks + length ks) same rest in
          subst (λ (ks : List ℕ). missing edges (insert_all nat_eq ks xs) + length (insert_all nat_eq ks xs) ≤ missing edges keys + length keys) (sym same) kept)
      | inr f ↦ (let more : insert_key nat_eq keys x ≡ keys ++ x ∷ [] = rw f refl in
          let grown = subst (λ (ks : List ℕ). missing edges (insert_all nat_eq (insert_key nat_eq keys x) xs) + length (insert_all nat_eq (insert_key nat_eq keys x) xs) ≤ missing edges ks + length ks) more rest in
          omega (arith, grown, missing_one edges keys x (entered x (first_in x xs x refl)) f, length-append keys (x ∷ [])))
    ]

-- ---- insertion keeps places

grows : (keys xs : List ℕ) → (more : List ℕ) × (insert_all nat_eq keys xs ≡ keys ++ more)
grows keys [] = ([], sym (append-nil keys))
grows keys (x ∷ xs) =
    let rest = grows (insert_key nat_eq keys x) xs in
    elim (cases_Bool (list_any (nat_eq x) keys)) [
      | inl t ↦ (let same : insert_key nat_eq keys x ≡ keys = rw t refl in (rest.0, rest.1 ∙ ap (λ (ks : List ℕ). ks ++ rest.0) same))
      | inr f ↦ (let more : insert_key nat_eq keys x ≡ keys ++ x ∷ [] = rw f refl in ((x ∷ []) ++ rest.0, rest.1 ∙ ap (λ (ks : List ℕ). ks ++ rest.0) more ∙ append_assoc keys (x ∷ []) rest.0))
    ]

pub keeps_place : (keys xs : List ℕ) (j : ℕ) → j < length keys → (j < length (insert_all nat_eq keys xs)) × (get_or (insert_all nat_eq keys xs) j 0 ≡ get_or keys j 0)
keeps_place keys xs j inside =
    let grown = grows keys xs in (
      omega (arith, inside, ap (λ (ks : List ℕ). length ks) grown.1, length-append keys grown.0),
      ap (λ (ks : List ℕ). get_or ks j 0) grown.1 ∙ get_or_append_left keys grown.0 0 j inside,
    )

-- ---- the search

pub record Searching (edges : List Edge) (found : List ℕ) (next : ℕ) : Type 0 where
  pub within : next ≤ length found
  pub sound : (n : ℕ) → Contains found n → Reached edges (numbered_wire n)
  pub rooted : (edge : Edge) → Contains edges edge → (Contains (map entered_number edges) (left_number edge) → ⊥) → Contains found (left_number edge)
  pub followed : (j : ℕ) (edge : Edge) → j < next → get_or found j 0 ≡ left_number edge → Contains edges edge → Contains found (entered_number edge)

module _ (edges : List Edge) (lefts : List ℕ) (lefts_are : lefts ≡ insert_all nat_eq [] (map left_number edges)) where
  pub left_in : (edge : Edge) → Contains edges edge → Contains lefts (left_number edge)
  left_in edge here = subst (λ (l : List ℕ). Contains l (left_number edge)) (sym lefts_are) (in_set (map left_number edges) (left_number edge) (mapped_in left_number edges edge here))

  pub search_begins : (entered roots : List ℕ) → entered ≡ insert_all nat_eq [] (map entered_number edges) → IsRootSet lefts entered roots → Searching edges roots 0
  search_begins entered roots entered_are is = record {
    within = omega arith;
    sound = λ n here. root (λ in_wires. (is.sound n here).1
        (subst (λ (l : List ℕ). Contains l n) (sym entered_are) (in_set (map entered_number edges) n (entered_as edges (numbered_wire n) in_wires))));
    rooted = λ edge here free. is.complete (left_number edge) (left_in edge here)
        (λ in_entered. free (set_in (map entered_number edges) (left_number edge) (subst (λ (l : List ℕ). Contains l (left_number edge)) entered_are in_entered)));
    followed = λ j edge below at here. absurd (omega (arith, below));
  }

  module _ (found : List ℕ) (next : ℕ) (searching : Searching edges found next) (inside : next < length found) where
    abbrev wire_here : ℕ
    wire_here = get_or found next 0

    -- the wire has edges that lead from it
    pub search_follows : (place : ℕ) → place ≡ position_or_len (nat_eq wire_here) lefts → place < length lefts → Searching edges (insert_all nat_eq found (targets lefts edges place)) (next + 1)
    search_follows place place_is small =
        let group = targets lefts edges place in
        let more = insert_all nat_eq found group in
        let at_place : (n : ℕ) → position_or_len (nat_eq n) lefts ≡ place → n ≡ wire_here = λ n same.
        sym (number_at lefts n 0 (omega (arith, small, same))) ∙ ap (λ (p : ℕ). get_or lefts p 0) (same ∙ place_is) ∙ number_at lefts wire_here 0 (omega (arith, small, place_is)) in
        record {
          within = omega (arith, (keeps_place found group next inside).0);
          sound = λ n here. elim (all_in nat_eq Decides-eqb found group n here) [
            | inl old ↦ searching.sound n old
            | inr new ↦ (
                let edge = in_targets lefts edges place n new in
                let from : left_number edge.0 ≡ wire_here = at_place (left_number edge.0) edge.2 in
                let listed : Contains edges (numbered_wire wire_here, numbered_wire n) =
                subst (λ (e : Edge). Contains edges e) (ap (λ (m : ℕ). (numbered_wire m, edge.0.1)) from ∙ ap (λ (m : ℕ). (numbered_wire wire_here, numbered_wire m)) edge.3) edge.1 in
                step (numbered_wire wire_here) listed (searching.sound wire_here (next, inside, get_or_default found next wire_here 0 inside)))
          ];
          rooted = λ edge here free. old_in nat_eq Decides-eqb found group (left_number edge) (searching.rooted edge here free);
          followed = λ j edge below at here.
              elim (cases_lt j next) [
                | inl earlier ↦ old_in nat_eq Decides-eqb found group (entered_number edge)
                    (searching.followed j edge earlier (sym (keeps_place found group j (omega (arith, earlier, inside))).1 ∙ at) here)
                | inr other ↦ (
                    let same : j ≡ next = omega (arith, other, below) in
                    let wire : wire_here ≡ left_number edge = sym (keeps_place found group next inside).1 ∙ ap (λ (m : ℕ). get_or more m 0) (sym same) ∙ at in
                    new_in nat_eq Decides-eqb found group (entered_number edge)
                    (into_targets lefts edges place edge here (ap (λ (m : ℕ). position_or_len (nat_eq m) lefts) (sym wire) ∙ sym place_is)))
              ];
        }

    -- it has none
    pub search_passes : length lefts ≤ position_or_len (nat_eq wire_here) lefts → Searching edges found (next + 1)
    search_passes none = record {
      within = omega (arith, inside);
      sound = searching.sound;
      rooted = searching.rooted;
      followed = λ j edge below at here.
          elim (cases_lt j next) [
            | inl earlier ↦ searching.followed j edge earlier at here
            | inr other ↦ (
                let same : j ≡ next = omega (arith, other, below) in
                let wire : wire_here ≡ left_number edge = ap (λ (m : ℕ). get_or found m 0) (sym same) ∙ at in
                let small = number_place lefts wire_here (subst (λ (m : ℕ). Contains lefts m) (sym wire) (left_in edge here)) in
                absurd (omega (arith, small, none)))
          ];
    }

    -- the work that is left
    pub less_missing : (place : ℕ) → missing edges (insert_all nat_eq found (targets lefts edges place)) + (length (insert_all nat_eq found (targets lefts edges place)) - (next + 1)) < missing edges found + (length found - next)
    less_missing place =
        let group = targets lefts edges place in
        let entered : (n : ℕ) → Contains group n → Contains (map entered_number edges) n = λ n here.
        (let edge = in_targets lefts edges place n here in subst (λ (m : ℕ). Contains (map entered_number edges) m) edge.3 (mapped_in entered_number edges edge.0 edge.1)) in
        omega (arith, missing_all edges found group entered, (keeps_place found group next inside).0, inside)

-- all wires that are reached are found
module _ (edges : List Edge) (found : List ℕ) (next : ℕ) (searching : Searching edges found next) (all : length found ≤ next) where
  reached_found : {wire : Wire} → Reached edges wire → (edge : Edge) → Contains edges edge → (wire.0 ≡ left_number edge) ⊎ (wire.0 ≡ entered_number edge) → Contains found wire.0
  reached_found {wire} (root free) edge here (inl from) =
      subst (λ (n : ℕ). Contains found n) (sym from)
      (searching.rooted edge here (λ entered. free (subst (λ (n : ℕ). Contains (entered_wires edges) (numbered_wire n)) (sym from) (entered_wire edges (left_number edge) entered))))
  reached_found {wire} (root free) edge here (inr to) =
      absurd (free (subst (λ (n : ℕ). Contains (entered_wires edges) (numbered_wire n)) (sym to) (mapped_in (λ (e : Edge). e.1) edges edge here)))
  reached_found {wire} (step from listed before) edge here either =
      let first = reached_found before (from, wire) listed (inl refl) in
      searching.followed first.0 (from, wire) (omega (arith, first.1, all)) (get_or_default found first.0 0 from.0 first.1 ∙ first.2) listed

  pub search_ends : IsReachedSet edges found
  search_ends = record {
    sound = searching.sound;
    complete = λ wire entered reached.
        let edge = from_mapped (λ (e : Edge). e.1) edges wire entered in
        reached_found reached edge.0 edge.1 (inr (ap (λ (w : Wire). w.0) (sym edge.2)));
  }

-- ---- roots, one wire after another

module _ (entered : List ℕ) where
  pub no_roots : (lefts : List ℕ) → IsRootSet (take 0 lefts) entered []
  no_roots lefts = record { sound = λ wire here. absurd (in_none wire here); complete = λ wire here free. absurd (in_none wire here) }

  module _ (lefts : List ℕ) (n wire : ℕ) (roots : List ℕ) (at : IsAt lefts n wire) (so_far : IsRootSet (take n lefts) entered roots) where
    pub root_more : list_any (nat_eq wire) entered ≡ false → IsRootSet (take (n + 1) lefts) entered (insert_key nat_eq roots wire)
    root_more free = record {
      sound = λ w here. elim (put_in nat_eq Decides-eqb roots wire w here) [
        | inl old ↦ (let was = so_far.sound w old in (stays_taken lefts n wire w at was.0, was.1))
        | inr now ↦ (
          subst (λ (m : ℕ). Contains (take (n + 1) lefts) m) now (last_taken lefts n wire at),
          λ there. none_in nat_eq Decides-eqb entered wire free (subst (λ (m : ℕ). Contains entered m) (sym now) there),
        )
      ];
      complete = λ w here out. elim (in_taken lefts n wire w at here) [
        | inl earlier ↦ put_stays nat_eq Decides-eqb roots wire w (so_far.complete w earlier out)
        | inr now ↦ subst (λ (m : ℕ). Contains (insert_key nat_eq roots wire) m) now (put_here nat_eq Decides-eqb roots wire)
      ];
    }

    pub no_root : list_any (nat_eq wire) entered ≡ true → IsRootSet (take (n + 1) lefts) entered roots
    no_root there = record {
      sound = λ w here. (let was = so_far.sound w here in (stays_taken lefts n wire w at was.0, was.1));
      complete = λ w here out. elim (in_taken lefts n wire w at here) [
        | inl earlier ↦ so_far.complete w earlier out
        | inr now ↦ absurd (out (subst (λ (m : ℕ). Contains entered m) now (any_in nat_eq Decides-eqb entered wire there)))
      ];
    }

-- ---- places that look-ups give

pub found_place : (xs : List ℕ) (n p : ℕ) → Some p ≡ position (nat_eq n) xs → (p ≡ position_or_len (nat_eq n) xs) × (p < length xs)
found_place xs n p is =
    let at = position_or_len (nat_eq n) xs in
    elim (cases_lt at (length xs)) [
      | inl small ↦ (
          let whole : position (nat_eq n) xs ≡ Some at = rw (lt-ltb at (length xs) small) refl in
          let same : p ≡ at = same_some p at (is ∙ whole) in
          (same, omega (arith, same, small)))
      | inr past ↦ (
          let none : position (nat_eq n) xs ≡ None = rw (le-ltb at (length xs) past) refl in
          absurd (some_none p (is ∙ none)))
    ]
  where
    same_some : (a b : ℕ) → Some a ≡ Some b → a ≡ b
    same_some a b e = cc

    some_none : (a : ℕ) → Some a ≡ None → ⊥
    some_none a e = cc

pub no_place : (xs : List ℕ) (n : ℕ) → None ≡ position (nat_eq n) xs → length xs ≤ position_or_len (nat_eq n) xs
no_place xs n is =
    let at = position_or_len (nat_eq n) xs in
    elim (cases_lt at (length xs)) [
      | inl small ↦ (let whole : position (nat_eq n) xs ≡ Some at = rw (lt-ltb at (length xs) small) refl in absurd (none_some at (is ∙ whole)))
      | inr past ↦ past
    ]
  where
    none_some : (a : ℕ) → None ≡ Some a → ⊥
    none_some a e = cc

pub group_read : {A : Type 0} (groups : List (Vec ℕ A)) (at : ℕ) (group : Vec ℕ A) → at < length groups → group ≡ get_or groups at group → group.items ≡ group_at groups at
group_read {A} groups at group inside read =
    let there = at_mapped (λ (g : Vec ℕ A). g.items) groups at group (inside, sym read) in
    sym there.1 ∙ get_or_default (map (λ (g : Vec ℕ A). g.items) groups) at group.items [] there.0

pub no_group : {A : Type 0} (groups : List (Vec ℕ A)) (at : ℕ) → length groups ≤ at → group_at groups at ≡ []
no_group {A} groups at past = get_or_past (map (λ (g : Vec ℕ A). g.items) groups) at [] (omega (arith, past, length-map groups (λ (g : Vec ℕ A). g.items)))

-- one wire of the search, whether edges lead from it or not
pub search_next : {A : Type 0} (edges : List Edge) (lefts : List ℕ) (groups : List (Vec ℕ A)) (found more : List ℕ) (next : ℕ) → lefts ≡ insert_all nat_eq [] (map left_number edges) → length groups ≡ length lefts →
    ((place : ℕ) → group_at groups place ≡ targets lefts edges place) → Searching edges found next → next < length found →
    more ≡ insert_all nat_eq found (group_at groups (position_or_len (nat_eq (get_or found next 0)) lefts)) →
    Searching edges more (next + 1) × (missing edges more + (length more - (next + 1)) < missing edges found + (length found - next))
search_next edges lefts groups found more next lefts_are many are searching inside is =
    let place = position_or_len (nat_eq (get_or found next 0)) lefts in
    let listed : more ≡ insert_all nat_eq found (targets lefts edges place) = is ∙ ap (λ (l : List ℕ). insert_all nat_eq found l) (are place) in
    let less = less_missing edges lefts lefts_are found next searching inside place in (
      elim (cases_lt place (length lefts)) [
        | inl small ↦ subst (λ (l : List ℕ). Searching edges l (next + 1)) (sym listed) (search_follows edges lefts lefts_are found next searching inside place refl small)
        | inr past ↦ (
            let none : more ≡ found = is ∙ ap (λ (l : List ℕ). insert_all nat_eq found l) (no_group groups place (omega (arith, past, many))) in
            subst (λ (l : List ℕ). Searching edges l (next + 1)) (sym none) (search_passes edges lefts lefts_are found next searching inside past))
      ],
      subst (λ (l : List ℕ). missing edges l + (length l - (next + 1)) < missing edges found + (length found - next)) (sym listed) less,
    )

-- ---- entries in turn

module _ (edges : List Edge) (n : ℕ) (edge : Edge) (at : IsAt edges n edge) (seen reached : List ℕ) (seen_are : seen ≡ insert_all nat_eq [] (map entered_number (take n edges))) (found : IsReachedSet edges reached) where
  pub entered_again : list_any (nat_eq edge.1.0) seen ≡ true → IsRightEntry edges (take n edges) edge → ⊥
  entered_again again right =
      right.once (entered_wire (take n edges) edge.1.0 (set_in (map entered_number (take n edges)) edge.1.0
      (subst (λ (l : List ℕ). Contains l edge.1.0) seen_are (any_in nat_eq Decides-eqb seen edge.1.0 again))))

  wire_entered : Contains (entered_wires edges) edge.1
  wire_entered = mapped_in (λ (e : Edge). e.1) edges edge (n, at.0, at.1)

  pub not_reached : list_any (nat_eq edge.1.0) reached ≡ false → IsRightEntry edges (take n edges) edge → ⊥
  not_reached out right = none_in nat_eq Decides-eqb reached edge.1.0 out (found.complete edge.1 wire_entered right.reached)

  pub entry_right : list_any (nat_eq edge.1.0) seen ≡ false → list_any (nat_eq edge.1.0) reached ≡ true → IsRightEntry edges (take n edges) edge
  entry_right new inside = record {
    once = λ here. none_in nat_eq Decides-eqb seen edge.1.0 new
        (subst (λ (l : List ℕ). Contains l edge.1.0) (sym seen_are) (in_set (map entered_number (take n edges)) edge.1.0 (entered_as (take n edges) edge.1 here)));
    reached = found.sound edge.1.0 (any_in nat_eq Decides-eqb reached edge.1.0 inside);
  }
