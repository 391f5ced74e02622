-- Tables that are filled site by site: the items of sites, and the sites of tiles.
use Rattle.std.proofs.Common.{◌≡◌, ◌≢◌, ℕ, ◌+◌, ◌<◌, ◌≤◌, ◌++◌, Bool, List, [], ◌∷◌, length, map, get_or, set, zero, suc, Option, Some, None, Vec, Global, refl, sym, ◌∙◌, ap, subst, inl, inr, arith, get_or-set_same, get_or-set_other}
use Rattle.std.proofs.lemmas.Bool.{cases_eq}
use Rattle.std.proofs.lemmas.List.Elements.{All-push, Contains-push, Contains-append_left}
use Rattle.std.specs.List.{All, Contains, slice_get}
use Rattle.fab_annealing.specs.declared.board.Board.{Board}
use Rattle.fab_annealing.specs.Measured.{numbers_of}
use Rattle.fab_annealing.specs.Boards.{IsPlaced, site_count, is_second, column, row}
use Rattle.fab_annealing.specs.inner.Standing.{lot_number}
use Rattle.fab_annealing.proofs.Exchanging.{some_same}

-- ---- items of sites

module _ (board : Board) (sites : List ℕ) (items : List (Option ℕ)) (count : ℕ) (placed : IsPlaced board sites) (low : count < length sites) (wide : length items ≡ site_count board) where
  inside : get_or sites count 0 < length items
  inside = omega (arith, placed.inside count 0 low, wide)

  pub here_more : ((item : ℕ) → item < count → get_or items (get_or sites item 0) None ≡ Some item) → (item : ℕ) → item < count + 1 → get_or (set items (get_or sites count 0) (Some count)) (get_or sites item 0) None ≡ Some item
  here_more here item below = elim (cases_eq item count) [
    | inl e ↦ ap (λ k. get_or (set items (get_or sites count 0) (Some count)) (get_or sites k 0) None) e ∙ get_or-set_same items (get_or sites count 0) (Some count) None inside ∙ ap Some (sym e)
    | inr n ↦
        let under : item < count = omega arith in
        get_or-set_other items (get_or sites count 0) (get_or sites item 0) (Some count) None (λ e. n (placed.apart item count (omega arith) low e)) ∙ here item under
  ]

  pub there_more : ((site item : ℕ) → get_or items site None ≡ Some item → (item < count) × (get_or sites item 0 ≡ site))
      → (site item : ℕ) → get_or (set items (get_or sites count 0) (Some count)) site None ≡ Some item → (item < count + 1) × (get_or sites item 0 ≡ site)
  there_more there site item is = elim (cases_eq site (get_or sites count 0)) [
    | inl e ↦
        let same : item ≡ count = some_same item count (sym is ∙ ap (λ s. get_or (set items (get_or sites count 0) (Some count)) s None) e ∙ get_or-set_same items (get_or sites count 0) (Some count) None inside) in
        (omega arith, ap (λ k. get_or sites k 0) same ∙ sym e)
    | inr n ↦ let old = there site item (sym (get_or-set_other items (get_or sites count 0) site (Some count) None n) ∙ is) in (omega (arith, old.0), old.1)
  ]

near_all : (table sites : List ℕ) → All (λ place. place ≤ 31) table → All (λ site. site < length table) sites → All (λ place. place ≤ 31) (map (λ s. get_or table s 0) sites)
near_all table [] near inside k d low = absurd (omega (arith, low))
near_all table (s ∷ sites) near inside zero d low = near s 0 (inside 0 0 (omega arith))
near_all table (s ∷ sites) near inside (suc k) d low = near_all table sites near (λ m e l. inside (suc m) e (omega arith)) k d (omega arith)

-- places of sites are as near as the table has them
pub places_near : (table sites places : List ℕ) → places ≡ map (λ s. get_or table s 0) sites → All (λ place. place ≤ 31) table → All (λ site. site < length table) sites → All (λ place. place ≤ 31) places
places_near table sites places same near inside = subst (λ (ps : List ℕ). All (λ place. place ≤ 31) ps) (sym same) (near_all table sites near inside)

-- ---- sites of tiles

numbers_here : (lists : List (Vec ℕ Global)) (k : ℕ) (list : Vec ℕ Global) → k < length lists → numbers_of (slice_get (set lists k list) k) ≡ list.items
numbers_here [] k list low = absurd (omega (arith, low))
numbers_here (first ∷ lists) zero list low = refl
numbers_here (first ∷ lists) (suc k) list low = numbers_here lists k list (omega arith)

numbers_there : (lists : List (Vec ℕ Global)) (k m : ℕ) (list : Vec ℕ Global) → m ≢ k → numbers_of (slice_get (set lists k list) m) ≡ numbers_of (slice_get lists m)
numbers_there [] k m list apart = refl
numbers_there (first ∷ lists) zero zero list apart = absurd (apart refl)
numbers_there (first ∷ lists) zero (suc m) list apart = refl
numbers_there (first ∷ lists) (suc k) zero list apart = refl
numbers_there (first ∷ lists) (suc k) (suc m) list apart = numbers_there lists k m list (λ e. apart (ap suc e))

-- a site is put into the list of its tile
module _ (board : Board) (second : Bool) (lists : List (Vec ℕ Global)) (k site : ℕ) (list : Vec ℕ Global) (low : k < length lists) (more : list.items ≡ numbers_of (slice_get lists k) ++ site ∷ []) where
  pub sound_more : ((number : ℕ) → All (λ s. (s < site_count board) × (is_second board s ≡ second)) (numbers_of (slice_get lists number))) → site < site_count board → is_second board site ≡ second
      → (number : ℕ) → All (λ s. (s < site_count board) × (is_second board s ≡ second)) (numbers_of (slice_get (set lists k list) number))
  sound_more sound inside kind number = elim (cases_eq number k) [
    | inl e ↦ subst (λ n. All (λ s. (s < site_count board) × (is_second board s ≡ second)) (numbers_of (slice_get (set lists k list) n))) (sym e)
        (subst (λ (ns : List ℕ). All (λ s. (s < site_count board) × (is_second board s ≡ second)) ns) (sym (numbers_here lists k list low ∙ more))
        (All-push (λ s. (s < site_count board) × (is_second board s ≡ second)) (numbers_of (slice_get lists k)) site (sound k) (inside, kind)))
    | inr n ↦ subst (λ (ns : List ℕ). All (λ s. (s < site_count board) × (is_second board s ≡ second)) ns) (sym (numbers_there lists k number list n)) (sound number)
  ]

  kept_in : (number s : ℕ) → Contains (numbers_of (slice_get lists number)) s → Contains (numbers_of (slice_get (set lists k list) number)) s
  kept_in number s among = elim (cases_eq number k) [
    | inl e ↦ subst (λ n. Contains (numbers_of (slice_get (set lists k list) n)) s) (sym e)
        (subst (λ (ns : List ℕ). Contains ns s) (sym (numbers_here lists k list low ∙ more)) (Contains-append_left (numbers_of (slice_get lists k)) (site ∷ []) s (subst (λ n. Contains (numbers_of (slice_get lists n)) s) e among)))
    | inr n ↦ subst (λ (ns : List ℕ). Contains ns s) (sym (numbers_there lists k number list n)) among
  ]

  pub whole_more : k ≡ lot_number (column board site) (row board site)
      → ((s : ℕ) → s < site → is_second board s ≡ second → Contains (numbers_of (slice_get lists (lot_number (column board s) (row board s)))) s)
      → (s : ℕ) → s < site + 1 → is_second board s ≡ second → Contains (numbers_of (slice_get (set lists k list) (lot_number (column board s) (row board s)))) s
  whole_more is whole s below kind = elim (cases_eq s site) [
    | inl e ↦ subst (λ t. Contains (numbers_of (slice_get (set lists k list) (lot_number (column board t) (row board t)))) t) (sym e)
        (subst (λ n. Contains (numbers_of (slice_get (set lists k list) n)) site) is
        (subst (λ (ns : List ℕ). Contains ns site) (sym (numbers_here lists k list low ∙ more)) (Contains-push (numbers_of (slice_get lists k)) site)))
    | inr n ↦ kept_in (lot_number (column board s) (row board s)) s (whole s (omega arith) kind)
  ]

-- a site of the other kind is passed over
pub whole_past : (board : Board) (second : Bool) (lists : List (Vec ℕ Global)) (site : ℕ) → is_second board site ≢ second
    → ((s : ℕ) → s < site → is_second board s ≡ second → Contains (numbers_of (slice_get lists (lot_number (column board s) (row board s)))) s)
    → (s : ℕ) → s < site + 1 → is_second board s ≡ second → Contains (numbers_of (slice_get lists (lot_number (column board s) (row board s)))) s
whole_past board second lists site other whole s below kind = elim (cases_eq s site) [
  | inl e ↦ absurd (other (ap (is_second board) (sym e) ∙ kind))
  | inr n ↦ whole s (omega arith) kind
]
