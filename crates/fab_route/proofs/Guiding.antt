-- Tested tables give bounds.
use Rattle.std.proofs.Common.{◌≡◌, ℕ, ◌+◌, ◌*◌, ◌^◌, ◌<◌, List, [], Vec, replicate, map, length, get_or, Contains, sym, ap, ap₂, ◌∙◌, subst, inl, inr, arith}
use Rattle.std.specs.List.{All}
use Rattle.std.proofs.Math.ListN.{set}
use Rattle.std.proofs.lemmas.Bool.{cases_eq, cases_lt}
use Rattle.std.proofs.lemmas.List.{get_or-set_same, get_or-set_other, get_or_past, get_or-replicate, length-replicate}
use Rattle.fab_model.specs.Grid.{PlainFabric}
use Rattle.std.proofs.lemmas.List.Elements.{All-contains}
use Rattle.fab_fabric.specs.Fabric.{IsFabric}
use Rattle.fab_legal.proofs.Lists.{at_default}
use Rattle.fab_nodes_laws.proofs.NetSinks.{mapped_at}
use Rattle.fab_astar.specs.Walks.{Graph}
use Rattle.fab_astar.specs.Scene.{IsGraph, IsBound}
use Rattle.fab_route.specs.declared.classes.Place.{Place}
use Rattle.fab_route.specs.declared.hops.Hop.{Hop}
use Rattle.fab_route.specs.declared.window.Window.{Window}
use Rattle.fab_route.specs.inner.Guided.{no_place, place_at, IsWindow, IsWithin, away, hop_between, HaveHops, entry_of, AreTestedTables, IsAim, AreAims, spot_of, AreConsistent, PlainBounds, left_from}

pub ends_inside : (graph : Graph) → IsGraph graph → (v w : ℕ) → v < graph.nodes → Contains (graph.ends v) w → w < graph.nodes
ends_inside graph is v w few edge = All-contains (λ (n : ℕ). n < graph.nodes) (graph.ends v) w (is.inside v few) edge

pub zero_aims : (fabric : PlainFabric) (size many : ℕ) (aims : List ℕ) → IsFabric fabric → aims ≡ replicate many 0 → AreAims fabric size aims
zero_aims fabric size many aims is_fabric are aim = record {
  table = 0;
  column = 0;
  row = 0;
  few = omega arith;
  column_in = omega (arith, is_fabric.some_columns);
  row_in = omega (arith, is_fabric.some_rows);
  aim_is = omega (arith, ap (λ (ns : List ℕ). get_or ns aim 0) are, zero_at);
}
  where
    zero_at : ◌≡◌ {A = ℕ} (get_or (replicate many 0) aim 0) 0
    zero_at = elim (cases_lt aim many) [
      | inl low ↦ get_or-replicate many aim 0 0 low
      | inr past ↦ get_or_past (replicate many 0) aim 0 (omega (arith, past, length-replicate {A = ℕ} many 0))
    ]

pub set_aim : (fabric : PlainFabric) (size at aim : ℕ) (aims : List ℕ) → AreAims fabric size aims → at < length aims → IsAim fabric size aim → AreAims fabric size (set aims at aim)
set_aim fabric size at aim aims are low is other = elim (cases_eq other at) [
  | inl same ↦ subst (λ (n : ℕ). IsAim fabric size n) (sym (ap (λ k. get_or (set aims at aim) k 0) same ∙ get_or-set_same aims at aim 0 low)) is
  | inr differs ↦ subst (λ (n : ℕ). IsAim fabric size n) (sym (get_or-set_other aims at other aim 0 differs)) (are other)
]

module _ (window : Window) (is_window : IsWindow window) (classes : ℕ) where
  -- the entry of a place at an aim
  entry_is : (place : Place) (start column row : ℕ) → IsWithin window classes place → column < window.columns → row < window.rows →
      spot_of place + (start + column * 64 + row) ≡ entry_of start place.class (away place.column column) (away place.row row)
  entry_is place start column row within column_in row_in = omega (arith, within.column, within.row, is_window.few_columns, is_window.few_rows, column_in, row_in)

  pub consistent : {A : Type 0} (graph : Graph) (places : List Place) (hops : List (Vec Hop A)) (entries : List ℕ) → ((v w : ℕ) → v < graph.nodes → Contains (graph.ends v) w → w < graph.nodes) → length places ≡ graph.nodes →
      All (IsWithin window classes) places → length hops ≡ classes → HaveHops graph places graph.nodes hops → AreTestedTables entries window hops (classes * 4096) → AreConsistent graph places window (classes * 4096) entries
  consistent graph places hops entries inside long within many have tested table column row from to few column_in row_in low edge =
      let start = table * (classes * 4096) in
      let here = within from no_place (omega (arith, low, long)) in
      let there = within to no_place (omega (arith, inside from to low edge, long)) in
      let p = place_at places from in
      let q = place_at places to in
      let step = tested table few q.class (hop_between p q) (omega (arith, there.class, many)) (have from to low edge)
      (away p.column column) (away p.row row) (away q.column column) (away q.row row)
      (omega (arith, here.column, column_in, is_window.few_columns), omega (arith, here.column, column_in, is_window.few_columns))
      (omega (arith, here.row, row_in, is_window.few_rows), omega (arith, here.row, row_in, is_window.few_rows))
      (omega (arith, there.column, column_in, is_window.few_columns), omega (arith, there.column, column_in, is_window.few_columns))
      (omega (arith, there.row, row_in, is_window.few_rows), omega (arith, there.row, row_in, is_window.few_rows))
      (omega (arith, here.column, there.column, column_in, is_window.few_columns)) (omega (arith, here.row, there.row, row_in, is_window.few_rows)) in
      omega (
        arith,
        step,
        ap (λ k. get_or entries k 0) (entry_is p start column row here column_in row_in),
        ap (λ k. get_or entries k 0) (entry_is q start column row there column_in row_in),
      )

pub none_consistent : (graph : Graph) (places : List Place) (window : Window) (size : ℕ) → AreConsistent graph places window size []
none_consistent graph places window size table column row from to few column_in row_in low edge =
    omega (arith, get_or_past {X = ℕ} [] (spot_of (place_at places from) + (table * size + column * 64 + row)) 0 (omega arith))

pub none_tested : {A : Type 0} (window : Window) (hops : List (Vec Hop A)) (size : ℕ) → AreTestedTables [] window hops size
none_tested {A} window hops size table few to hop low here across down across2 down2 a d a2 d2 shift shift_down =
    omega (arith, get_or_past {X = ℕ} [] (entry_of (table * size) hop.from across down) 0 (omega arith))

-- ---- the bound

pub is_bound : (fabric : PlainFabric) (window : Window) (graph : Graph) (places : List Place) (size : ℕ) (bounds : PlainBounds) → window.columns ≡ fabric.columns → window.rows ≡ fabric.rows → length places ≡ graph.nodes →
    ((v w : ℕ) → v < graph.nodes → Contains (graph.ends v) w → w < graph.nodes) → bounds.spots ≡ map spot_of places → AreAims fabric size bounds.aims → AreConsistent graph places window size bounds.entries →
    ((k : ℕ) → get_or bounds.entries k 0 < 2 ^ 32) → IsBound graph (left_from bounds)
is_bound fabric window graph places size bounds columns rows long inside spots aims consistent low = record {
  falls = λ aim v w few edge.
      let to = aims aim in
      let step = consistent to.table to.column to.row v w to.few (omega (arith, to.column_in, columns)) (omega (arith, to.row_in, rows)) few edge in
      omega (arith, step, ap (λ k. get_or bounds.entries k 0) (entry v few aim to), ap (λ k. get_or bounds.entries k 0) (entry w (inside v w few edge) aim to));
  low = λ aim w few. low (get_or bounds.spots w 0 + get_or bounds.aims aim 0);
}
  where
    spot_is : (node : ℕ) → node < graph.nodes → get_or bounds.spots node 0 ≡ spot_of (place_at places node)
    spot_is node few = ap (λ (ss : List ℕ). get_or ss node 0) spots ∙ mapped_at spot_of places node (place_at places node) 0 (at_default places node no_place (omega (arith, few, long)))

    entry : (node : ℕ) → node < graph.nodes → (aim : ℕ) (to : IsAim fabric size (get_or bounds.aims aim 0)) →
        get_or bounds.spots node 0 + get_or bounds.aims aim 0 ≡ spot_of (place_at places node) + (to.table * size + to.column * 64 + to.row)
    entry node few aim to = ap₂ (λ (a b : ℕ). a + b) (spot_is node few) to.aim_is
