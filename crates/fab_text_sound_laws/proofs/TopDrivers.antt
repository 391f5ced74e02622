-- A name of the top is driven as often as it is an output or a wire.
use Rattle.std.proofs.Common.{◌≡◌, ◌≢◌, ℕ, zero, suc, Bool, true, false, List, [], ◌∷◌, ◌++◌, refl, sym, ap, ◌∙◌, inl, inr, arith, Some, All, AllPairs, Contains, append_assoc, if◌then◌else◌}
use Rattle.std.specs.List.{AllZip}
use Rattle.std.proofs.lemmas.List.Elements.{All-nil, All-cons, All-append, All-head, All-tail, All-weaker, All-contains}
use Rattle.fab_syntax.specs.declared.tree.Shape.{Shape}
use Rattle.fab_syntax.specs.declared.tree.Port.{Port}
use Rattle.fab_syntax.specs.Plain.{PlainJoin, PlainItem, PlainModule, wire, reg, assign, latch, clocked, instance}
use Rattle.fab_syntax.specs.Declarations.{is_input}
use Rattle.fab_model.specs.Tiles.{counted}
use Rattle.fab_drives_laws.proofs.Lists.{none_there, first_or_later}
use Rattle.fab_tiles_sound_laws.proofs.fab_parts_sound_laws_Counts.{driven_name, joined_names, times, times_none, times_once}
use Rattle.fab_tiles_sound_laws.proofs.fab_parts_sound_laws_Lists.{pairs_none, pairs_head, pairs_tail, contains_first}
use Rattle.fab_tiles_sound_laws.proofs.fab_parts_sound_laws_Names.{Differ, AreApart, IsNoneOf, net_names}
use Rattle.fab_tiles_sound_laws.proofs.Drives.{times_both, out_names}
use Rattle.std.proofs.lemmas.List.Kept.{AllPairs-cons}
use Rattle.fab_text_sound_laws.proofs.Pairs.{one_alone}
use Rattle.fab_text_sound_laws.proofs.Order.{net_there}
use Rattle.fab_text_sound_laws.proofs.TopApart.{item_names, AllNames, Clear, PortsDiffer}

-- ---- what joins drive, by the ports to which they are in their order

abbrev pub outs : List PlainJoin → List Port → List (List ℕ)
outs [] ports = []
outs (join ∷ joins) [] = []
outs (join ∷ joins) (port ∷ ports) = (if port.input then [] else driven_name join.to) ++ outs joins ports

abbrev pub SameName : PlainJoin → Port → Type 0
SameName join port = join.port ≡ port.name

pub outs_are : (below : PlainModule) (joins : List PlainJoin) (ports : List Port) → AllZip SameName joins ports → All (λ port. is_input below.ports port.name ≡ port.input) ports →
    joined_names (Some below) joins ≡ outs joins ports
outs_are below [] [] matched directed = refl
outs_are below [] (port ∷ ports) matched directed = absurd matched
outs_are below (join ∷ joins) [] matched directed = absurd matched
outs_are below (join ∷ joins) (port ∷ ports) matched directed =
    let input : is_input below.ports join.port ≡ port.input =
    ap (is_input below.ports) matched.0 ∙ All-head (λ (port : Port). is_input below.ports port.name ≡ port.input) port ports directed in
    λ j. (if input j then [] else driven_name join.to) ++ outs_are below joins ports matched.1 (All-tail (λ (port : Port). is_input below.ports port.name ≡ port.input) port ports directed) j

pub outs_append : (xs us : List PlainJoin) (ys vs : List Port) → AllZip SameName xs ys → outs (xs ++ us) (ys ++ vs) ≡ outs xs ys ++ outs us vs
outs_append [] us [] vs matched = refl
outs_append [] us (y ∷ ys) vs matched = absurd matched
outs_append (x ∷ xs) us [] vs matched = absurd matched
outs_append (x ∷ xs) us (y ∷ ys) vs matched =
    ap (λ rest. (if y.input then [] else driven_name x.to) ++ rest) (outs_append xs us ys vs matched.1)
    ∙ sym (append_assoc (if y.input then [] else driven_name x.to) (outs xs ys) (outs us vs))

pub outs_counted : (n : ℕ) (f : ℕ → PlainJoin) (g : ℕ → Port) (h : ℕ → List ℕ) → ((i : ℕ) → (if (g i).input then [] else driven_name (f i).to) ≡ h i ∷ []) → outs (counted n f) (counted n g) ≡ counted n h
unfolding counted
outs_counted zero f g h each = refl
outs_counted (suc n) f g h each = λ j. each 0 j ++ outs_counted n (λ i. f (suc i)) (λ i. g (suc i)) (λ i. h (suc i)) (λ i. each (suc i)) j

pub no_outs_counted : (n : ℕ) (f : ℕ → PlainJoin) (g : ℕ → Port) → ((i : ℕ) → (g i).input ≡ true) → outs (counted n f) (counted n g) ≡ []
unfolding counted
no_outs_counted zero f g each = refl
no_outs_counted (suc n) f g each =
    let input = each 0 in
    rw input (no_outs_counted n (λ i. f (suc i)) (λ i. g (suc i)) (λ i. each (suc i)))

-- ---- wires

pub nets_append : (xs ys : List PlainItem) → net_names (xs ++ ys) ≡ net_names xs ++ net_names ys
nets_append [] ys = refl
nets_append (wire shape name ∷ xs) ys = ap (λ rest. name ∷ rest) (nets_append xs ys)
nets_append (reg shape name ∷ xs) ys = ap (λ rest. name ∷ rest) (nets_append xs ys)
nets_append (assign target e ∷ xs) ys = nets_append xs ys
nets_append (latch target gate e ∷ xs) ys = nets_append xs ys
nets_append (clocked clock target e ∷ xs) ys = nets_append xs ys
nets_append (instance of i joins ∷ xs) ys = nets_append xs ys

pub counted_wires : (shape : Shape) (n : ℕ) (f : ℕ → List ℕ) → net_names (counted n (λ i. wire shape (f i))) ≡ counted n f
unfolding counted
counted_wires shape zero f = refl
counted_wires shape (suc n) f = ap (λ rest. f 0 ∷ rest) (counted_wires shape n (λ i. f (suc i)))

-- ---- how often a name is a wire, or an output

pub no_wire : (items : List PlainItem) (name : List ℕ) → All (AllNames (Differ name)) items → times (net_names items) name ≡ 0
no_wire items name differ = times_none (net_names items) name (none items differ)
  where
    none : (items : List PlainItem) → All (AllNames (Differ name)) items → IsNoneOf (net_names items) name
    none [] differ = All-nil (λ other. other ≢ name)
    none (wire shape other ∷ items) differ =
        All-cons (λ other. other ≢ name) other (net_names items)
        (λ same. All-head (Differ name) other [] (All-head (AllNames (Differ name)) (wire shape other) items differ) (sym same))
        (none items (All-tail (AllNames (Differ name)) (wire shape other) items differ))
    none (reg shape other ∷ items) differ =
        All-cons (λ other. other ≢ name) other (net_names items)
        (λ same. All-head (Differ name) other [] (All-head (AllNames (Differ name)) (reg shape other) items differ) (sym same))
        (none items (All-tail (AllNames (Differ name)) (reg shape other) items differ))
    none (assign target e ∷ items) differ = none items (All-tail (AllNames (Differ name)) (assign target e) items differ)
    none (latch target gate e ∷ items) differ = none items (All-tail (AllNames (Differ name)) (latch target gate e) items differ)
    none (clocked clock target e ∷ items) differ = none items (All-tail (AllNames (Differ name)) (clocked clock target e) items differ)
    none (instance of i joins ∷ items) differ = none items (All-tail (AllNames (Differ name)) (instance of i joins) items differ)

-- what differs from each name of an item, where those of a wire do
clear_names : (shape : Shape) (name : List ℕ) (items : List PlainItem) → All (Clear (wire shape name)) items → All (AllNames (Differ name)) items
clear_names shape name items clear =
    All-weaker (Clear (wire shape name)) (AllNames (Differ name)) (λ item is. All-head (λ n. All (Differ n) (item_names item)) name [] is) items clear

pub one_wire : (items : List PlainItem) (shape : Shape) (name : List ℕ) → AllPairs Clear items → Contains items (wire shape name) → times (net_names items) name ≡ 1
one_wire items shape name clear there = times_once (net_names items) name (nets_apart items clear) (net_there items shape name there)
  where
    tail_apart : (shape : Shape) (name : List ℕ) (items : List PlainItem) → All (Clear (wire shape name)) items → All (Differ name) (net_names items)
    tail_apart shape name [] clear = All-nil (Differ name)
    tail_apart shape name (wire other_shape other ∷ items) clear =
        All-cons (Differ name) other (net_names items) (All-head (Differ name) other [] (All-head (AllNames (Differ name)) (wire other_shape other) items (clear_names shape name (wire other_shape other ∷ items) clear)))
        (tail_apart shape name items (All-tail (Clear (wire shape name)) (wire other_shape other) items clear))
    tail_apart shape name (reg other_shape other ∷ items) clear =
        All-cons (Differ name) other (net_names items) (All-head (Differ name) other [] (All-head (AllNames (Differ name)) (reg other_shape other) items (clear_names shape name (reg other_shape other ∷ items) clear)))
        (tail_apart shape name items (All-tail (Clear (wire shape name)) (reg other_shape other) items clear))
    tail_apart shape name (assign target e ∷ items) clear = tail_apart shape name items (All-tail (Clear (wire shape name)) (assign target e) items clear)
    tail_apart shape name (latch target gate e ∷ items) clear = tail_apart shape name items (All-tail (Clear (wire shape name)) (latch target gate e) items clear)
    tail_apart shape name (clocked clock target e ∷ items) clear = tail_apart shape name items (All-tail (Clear (wire shape name)) (clocked clock target e) items clear)
    tail_apart shape name (instance of i joins ∷ items) clear = tail_apart shape name items (All-tail (Clear (wire shape name)) (instance of i joins) items clear)

    nets_apart : (items : List PlainItem) → AllPairs Clear items → AreApart (net_names items)
    nets_apart [] clear = pairs_none Differ
    nets_apart (wire shape name ∷ items) clear =
        AllPairs-cons Differ name (net_names items) (tail_apart shape name items (pairs_head Clear (wire shape name) items clear)) (nets_apart items (pairs_tail Clear (wire shape name) items clear))
    nets_apart (reg shape name ∷ items) clear =
        AllPairs-cons Differ name (net_names items) (tail_apart shape name items (pairs_head Clear (reg shape name) items clear)) (nets_apart items (pairs_tail Clear (reg shape name) items clear))
    nets_apart (assign target e ∷ items) clear = nets_apart items (pairs_tail Clear (assign target e) items clear)
    nets_apart (latch target gate e ∷ items) clear = nets_apart items (pairs_tail Clear (latch target gate e) items clear)
    nets_apart (clocked clock target e ∷ items) clear = nets_apart items (pairs_tail Clear (clocked clock target e) items clear)
    nets_apart (instance of i joins ∷ items) clear = nets_apart items (pairs_tail Clear (instance of i joins) items clear)

pub no_output : (ports : List Port) (name : List ℕ) → All (λ port. port.name ≢ name) ports → times (out_names ports) name ≡ 0
no_output ports name differ = times_none (out_names ports) name (none ports differ)
  where
    none : (ports : List Port) → All (λ port. port.name ≢ name) ports → IsNoneOf (out_names ports) name
    none [] differ = All-nil (λ other. other ≢ name)
    none (port ∷ ports) differ =
        All-append (λ other. other ≢ name) (if port.input then [] else port.name ∷ []) (out_names ports) (own port.input)
        (none ports (All-tail (λ (port : Port). port.name ≢ name) port ports differ))
      where
        own : (input : Bool) → All (λ other. other ≢ name) (if input then [] else port.name ∷ [])
        own true = All-nil (λ other. other ≢ name)
        own false = All-cons (λ other. other ≢ name) port.name [] (All-head (λ (port : Port). port.name ≢ name) port ports differ) (All-nil (λ other. other ≢ name))

-- an output of so many
abbrev pub one_if_output : (input : Bool) → ℕ
one_if_output true = 0
one_if_output false = 1

own_times : (input : Bool) (name : List ℕ) → times (if input then [] else name ∷ []) name ≡ one_if_output input
own_times true name = refl
own_times false name = times_once (name ∷ []) name (one_alone Differ name) (contains_first name [])

other_times : (input : Bool) (other name : List ℕ) → other ≢ name → times (if input then [] else other ∷ []) name ≡ 0
other_times true other name differ = refl
other_times false other name differ = times_none (other ∷ []) name (All-cons (λ o. o ≢ name) other [] differ (All-nil (λ o. o ≢ name)))

pub output_times : (ports : List Port) (port : Port) → AllPairs PortsDiffer ports → Contains ports port → times (out_names ports) port.name ≡ one_if_output port.input
output_times [] port apart there = absurd (none_there port there)
output_times (first ∷ ports) port apart there =
    let both = times_both (if first.input then [] else first.name ∷ []) (out_names ports) port.name in
    let differ = pairs_head PortsDiffer first ports apart in
    elim (first_or_later first ports port there) [
      | inl is ↦ (
          let here : times (if first.input then [] else first.name ∷ []) port.name ≡ one_if_output port.input =
          ap (λ (p : Port). times (if p.input then [] else p.name ∷ []) port.name) is ∙ own_times port.input port.name in
          let later = no_output ports port.name (All-weaker (PortsDiffer first) (λ other. other.name ≢ port.name) (λ other apart_from same. apart_from (ap (λ (p : Port). p.name) is ∙ sym same)) ports differ) in
          omega (arith, both, here, later))
      | inr behind ↦ (
          let here = other_times first.input first.name port.name (All-contains (PortsDiffer first) ports port differ behind) in
          let later = output_times ports port (pairs_tail PortsDiffer first ports apart) behind in
          omega (arith, both, here, later))
    ]
