-- The edges of a walk of nodes, from its first node on.
use Rattle.std.proofs.Common.{◌≡◌, ℕ, suc, ◌+◌, ◌-◌, ◌<◌, ◌≤◌, List, [], ◌∷◌, ◌++◌, length, get_or, drop, refl, sym, ap, ◌∙◌, arith}
use Rattle.std.proofs.lemmas.List.{append_assoc}
use Rattle.std.proofs.Math.Seq.{drop-cons, drop-length}
use Rattle.fab_fabric.specs.Wires.{numbered_wire}
use Rattle.fab_implementation.specs.Plain.{Edge}
use Rattle.fab_ways_laws.specs.Trees.{edges_along}
use Rattle.fab_nodes_laws.specs.Nodes.{Numbering}
use Rattle.fab_nodes_laws.specs.Nets.{wires_along}
use Rattle.fab_route.specs.Plain.{hop_edges}

module _ (numbering : Numbering) where
  abbrev pub edges : List ℕ → List Edge
  edges path = edges_along (wires_along numbering path)

  hop_along : (node before : ℕ) (rest : List ℕ) → edges (node ∷ (before ∷ rest)) ≡ edges (before ∷ rest) ++ hop_edges numbering before node
  hop_along node before [] = refl
  hop_along node before (other ∷ rest) =
      append_assoc (edges (before ∷ (other ∷ rest))) ((numbered_wire (numbering.wire before), numbered_wire (numbering.output node)) ∷ [])
      ((numbered_wire (numbering.output node), numbered_wire (numbering.wire node)) ∷ [])

  -- a walk that begins
  pub none_along : (path : List ℕ) → edges (drop (length path - 1) path) ≡ []
  none_along [] = refl
  none_along (node ∷ path) = one (node ∷ path) (omega arith)
    where
      one : (nodes : List ℕ) → 1 ≤ length nodes → edges (drop (length nodes - 1) nodes) ≡ []
      one nodes some =
          let at : length nodes - 1 < length nodes = omega (arith, some) in
          let past : suc (length nodes - 1) ≡ length nodes = omega (arith, some) in
          ap edges (drop-cons nodes (length nodes - 1) 0 at ∙ ap (λ k. get_or nodes (length nodes - 1) 0 ∷ drop k nodes) past ∙ ap (λ l. get_or nodes (length nodes - 1) 0 ∷ l) (drop-length nodes))

  -- one node more
  pub more_along : (path : List ℕ) (step place : ℕ) (old now new : List Edge) → 1 ≤ step → step < length path → place ≡ length path - step - 1 → now ≡ old ++ edges (drop (length path - step) path) →
      new ≡ now ++ hop_edges numbering (get_or path (place + 1) 0) (get_or path place 0) → new ≡ old ++ edges (drop (length path - (step + 1)) path)
  more_along path step place old now new some low place_is so_far is =
      let here : length path - (step + 1) ≡ place = omega (arith, place_is) in
      let next : length path - step ≡ suc place = omega (arith, place_is, low) in
      let first = drop-cons path place 0 (omega (arith, place_is, low)) in
      let second = drop-cons path (suc place) 0 (omega (arith, place_is, low, some)) in
      let before = get_or path (suc place) 0 in
      let node = get_or path place 0 in
      let rest = drop (suc (suc place)) path in
      let after : place + 1 ≡ suc place = omega arith in
      is ∙ ap (λ k. now ++ hop_edges numbering (get_or path k 0) node) after
      ∙ ap (λ l. l ++ hop_edges numbering before node) (so_far ∙ ap (λ k. old ++ edges (drop k path)) next ∙ ap (λ l. old ++ edges l) second)
      ∙ append_assoc old (edges (before ∷ rest)) (hop_edges numbering before node)
      ∙ ap (λ l. old ++ l) (sym (ap (λ k. edges (drop k path)) here ∙ ap edges (first ∙ ap (λ l. node ∷ l) second) ∙ hop_along node before rest))

  -- the sink behind it
  sink_along : (sink node : ℕ) (rest : List ℕ) → edges_along (sink ∷ wires_along numbering (node ∷ rest)) ≡ edges (node ∷ rest) ++ (numbered_wire (numbering.wire node), numbered_wire sink) ∷ []
  sink_along sink node [] = refl
  sink_along sink node (other ∷ rest) = refl

  pub all_along : (path : List ℕ) (step sink : ℕ) (old now new : List Edge) → length path ≤ step → 1 ≤ length path → now ≡ old ++ edges (drop (length path - step) path) →
      new ≡ now ++ (numbered_wire (numbering.wire (get_or path 0 0)), numbered_wire sink) ∷ [] → new ≡ old ++ edges_along (sink ∷ wires_along numbering path)
  all_along [] step sink old now new past some so_far is = absurd (omega (arith, some))
  all_along (node ∷ rest) step sink old now new past some so_far is =
      let whole : length (node ∷ rest) - step ≡ 0 = omega (arith, past) in
      let last : Edge = (numbered_wire (numbering.wire node), numbered_wire sink) in
      is ∙ ap (λ l. l ++ last ∷ []) (so_far ∙ ap (λ k. old ++ edges (drop k (node ∷ rest))) whole) ∙ append_assoc old (edges (node ∷ rest)) (last ∷ []) ∙ ap (λ l. old ++ l) (sym (sink_along sink node rest))

  pub empty_along : (path : List ℕ) (step sink : ℕ) (old now : List Edge) → length path ≡ 0 → now ≡ old ++ edges (drop (length path - step) path) → now ≡ old ++ edges_along (sink ∷ wires_along numbering path)
  empty_along [] step sink old now none so_far = so_far ∙ ap (λ k. old ++ edges (drop k [])) (zero_less step)
    where
      zero_less : (k : ℕ) → 0 - k ≡ 0
      zero_less k = omega arith
  empty_along (node ∷ path) step sink old now none so_far = absurd (omega (arith, none))
