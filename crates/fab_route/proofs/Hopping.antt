-- The hops of edges, edge by edge.
use Rattle.std.proofs.Common.{◌≡◌, ℕ, ◌+◌, ◌<◌, List, [], ◌∷◌, ◌++◌, Vec, map, length, get_or, Contains, refl, sym, ap, ◌∙◌, subst, inl, inr, arith}
use Rattle.std.specs.List.{All}
use Rattle.std.proofs.Math.ListN.{set}
use Rattle.std.proofs.lemmas.Bool.{cases_eq}
use Rattle.std.proofs.lemmas.List.{length-map, length-set, map-set, get_or-set_same, get_or-set_other, get_or_default}
use Rattle.std.proofs.lemmas.List.Elements.{All-weaker, All-contains}
use Rattle.fab_netlist.proofs.Counts.{at_mapped}
use Rattle.fab_legal.proofs.Lists.{cases_below}
use Rattle.fab_legal.proofs.Members.{still_in, last_in}
use Rattle.fab_astar.specs.Walks.{Graph}
use Rattle.fab_route.specs.declared.classes.Place.{Place}
use Rattle.fab_route.specs.declared.hops.Hop.{Hop}
use Rattle.fab_route.specs.inner.Guided.{no_place, place_at, hop_between, hops_to, HasHop, HaveHops, KeepHops}

abbrev items_of : {A : Type 0} → Vec Hop A → List Hop
items_of group = group.items

pub keeps_itself : {A : Type 0} (hops : List (Vec Hop A)) → KeepHops hops hops
keeps_itself hops = (refl, λ class hop here. here)

pub keeps_on : {A : Type 0} (first second third : List (Vec Hop A)) → KeepHops first second → KeepHops second third → KeepHops first third
keeps_on first second third one other = (other.0 ∙ one.0, λ class hop here. other.1 class hop (one.1 class hop here))

pub all_kept : {A : Type 0} (old new : List (Vec Hop A)) (from : Place) (places : List Place) (ends : List ℕ) → KeepHops old new → All (λ (end : ℕ). HasHop old from (place_at places end)) ends →
    All (λ (end : ℕ). HasHop new from (place_at places end)) ends
all_kept {A} old new from places ends kept have =
    All-weaker (λ (end : ℕ). HasHop old from (place_at places end)) (λ (end : ℕ). HasHop new from (place_at places end))
    (λ end here. kept.1 (place_at places end).class (hop_between from (place_at places end)) here) ends have

-- one more hop of a class
pub pushed : {A : Type 0} (old : List (Vec Hop A)) (class : ℕ) (group new : Vec Hop A) (hop : Hop) → class < length old → group ≡ get_or old class group → new.items ≡ group.items ++ hop ∷ [] →
    KeepHops old (set old class new) × Contains (hops_to (set old class new) class) hop
pushed {A} old class group new hop low read is = ((length-set old class new, keep), subst (λ (hs : List Hop). Contains hs hop) (sym own) (subst (λ (hs : List Hop). Contains hs hop) (sym is) (last_in group.items hop)))
  where
    long : class < length (map (items_of {A = A}) old)
    long = omega (arith, low, length-map old (items_of {A = A}))

    own : hops_to (set old class new) class ≡ new.items
    own = ap (λ (ls : List (List Hop)). get_or ls class []) (map-set (items_of {A = A}) old class new) ∙ get_or-set_same (map (items_of {A = A}) old) class new.items [] long

    old_is : hops_to old class ≡ group.items
    old_is = let mapped = at_mapped (items_of {A = A}) old class group (low, sym read) in get_or_default (map (items_of {A = A}) old) class [] group.items mapped.0 ∙ mapped.1

    keep : (c : ℕ) (h : Hop) → Contains (hops_to old c) h → Contains (hops_to (set old class new) c) h
    keep c h here = elim (cases_eq c class) [
      | inl same ↦ subst (λ (k : ℕ). Contains (hops_to (set old class new) k) h) (sym same)
          (subst (λ (hs : List Hop). Contains hs h) (sym (own ∙ is)) (still_in group.items hop h (subst (λ (hs : List Hop). Contains hs h) old_is (subst (λ (k : ℕ). Contains (hops_to old k) h) same here))))
      | inr other ↦ subst (λ (hs : List Hop). Contains hs h)
          (sym (ap (λ (ls : List (List Hop)). get_or ls c []) (map-set (items_of {A = A}) old class new) ∙ get_or-set_other (map (items_of {A = A}) old) class c new.items [] other)) here
    ]

pub group_read : {A : Type 0} (hops : List (Vec Hop A)) (class : ℕ) (group : Vec Hop A) → class < length hops → group ≡ get_or hops class group → hops_to hops class ≡ group.items
group_read {A} hops class group low read =
    let mapped = at_mapped (items_of {A = A}) hops class group (low, sym read) in get_or_default (map (items_of {A = A}) hops) class [] group.items mapped.0 ∙ mapped.1

pub place_read : (places : List Place) (node : ℕ) (place : Place) → node < length places → place ≡ get_or places node place → place ≡ place_at places node
place_read places node place low read = read ∙ get_or_default places node place no_place low

-- what a group has
pub group_has : {A : Type 0} (hops : List (Vec Hop A)) (class : ℕ) (group : Vec Hop A) (hop : Hop) → class < length hops → group ≡ get_or hops class group → Contains group.items hop → Contains (hops_to hops class) hop
group_has {A} hops class group hop low read here =
    let mapped = at_mapped (items_of {A = A}) hops class group (low, sym read) in
    subst (λ (hs : List Hop). Contains hs hop) (sym (get_or_default (map (items_of {A = A}) hops) class [] group.items mapped.0 ∙ mapped.1)) here

-- the edges of one node more
pub node_more : {A : Type 0} (graph : Graph) (places : List Place) (node : ℕ) (from : Place) (ends : List ℕ) (old new : List (Vec Hop A)) → from ≡ place_at places node → ends ≡ graph.ends node → KeepHops old new →
    All (λ (end : ℕ). HasHop new from (place_at places end)) ends → HaveHops graph places node old → HaveHops graph places (node + 1) new
node_more {A} graph places node from ends old new from_is ends_are kept added so_far v w few edge = elim (cases_below v node few) [
  | inl less ↦ kept.1 (place_at places w).class (hop_between (place_at places v) (place_at places w)) (so_far v w less edge)
  | inr same ↦ (
      let here : Contains ends w = subst (λ (es : List ℕ). Contains es w) (sym ends_are) (subst (λ (n : ℕ). Contains (graph.ends n) w) same edge) in
      subst (λ (p : Place). HasHop new p (place_at places w)) (from_is ∙ ap (place_at places) (sym same)) (All-contains (λ (end : ℕ). HasHop new from (place_at places end)) ends w added here))
]
