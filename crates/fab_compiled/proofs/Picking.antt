-- What an entry depends on that an index picks of a table.
use Rattle.std.proofs.Common.{◌≡◌, ℕ, suc, ◌+◌, ◌-◌, ◌*◌, ◌^◌, ◌<◌, ◌≤◌, Bool, true, false, List, [], ◌∷◌, ◌++◌, length, map, drop, slice_get, Option, None, Some, MatchOption, refl, sym, ap, ap₂, ◌∙◌, subst, arith}
use Rattle.std.proofs.lemmas.List.{drop_more, length-drop}
use Rattle.std.proofs.Math.ListN.{drop_of_length-le}
use Rattle.fab_systems_laws.specs.Ternary.{no, yes, unknown, known, Tern as PlainTern}
use Rattle.fab_solutions_laws.specs.fab_ternary_laws_Operators.{tern_at, agreed, evens, odds, entry}
use Rattle.fab_solutions_laws.specs.fab_ternary_laws_Shown.{first_terns}
use Rattle.fab_solutions_laws.specs.Laws.{AreUnder}
use Rattle.fab_ternary.specs.declared.Tern.{Tern}
use Rattle.fab_compiled.specs.declared.leads.Lead.{Lead}
use Rattle.fab_compiled.specs.declared.leads.Lead.TheVariants.{Known, Point, Own, Unmarked}
use Rattle.fab_compiled.specs.declared.picks.Table.{Table}
use Rattle.fab_compiled.specs.declared.tree.Tree.{Tree, Bits}
use Rattle.fab_compiled.specs.Trees.{tree_value, tree_width, IsMade}
use Rattle.fab_compiled.specs.Terns.{seen}
use Rattle.fab_compiled.specs.Evaluation.{value_seen, IsWithin}
use Rattle.fab_compiled.specs.Leading.{PointTerns, AreAbove, AreMarked, IsMarked, PointLeads, RangeIsMarked, bit_under, TellsBit}
use Rattle.fab_compiled.specs.inner.Indices.{IsNumberBelow}
use Rattle.fab_compiled.specs.inner.Picks.{entries, evens_of, odds_of, index_under, picked, AreSame, IsAlike, IsPickedAlike, IsTableBelow, PickLeads}
use Rattle.fab_compiled.proofs.Bits.{first_at}
use Rattle.fab_compiled.proofs.Entries.{table, even_entries, odd_entries, entry_no, entry_yes, entry_open, entries_even, entries_odd, entries_room}
use Rattle.fab_compiled.proofs.Evaluated.{table_is, low_of, high_of, wide_at}
use Rattle.fab_compiled.proofs.Lengths.{value_length}
use Rattle.fab_compiled.proofs.TreesGrow.{same_first, tree_grows, tree_same}
use Rattle.fab_compiled.proofs.Leading.{index_is}
use Rattle.fab_compiled.proofs.Numbered.{picked_is}

-- what follows where no point is found that is not marked
pub none_then : {P Q : Type 0} → (marks : List Bool) → (P → Q) → (o : Option ℕ) → MatchOption o P (λ point. slice_get marks point ≡ Some false) →
    MatchOption o Q (λ point. slice_get marks point ≡ Some false)
none_then marks f None h = f h
none_then marks f (Some point) h = h

-- ---- two choices

agreed_self : (t : PlainTern) → agreed t t ≡ t
agreed_self no = refl
agreed_self yes = refl
agreed_self unknown = refl

-- a bit does not matter that chooses between the same
choose_same : (at : ℕ → PlainTern) (size first stride : ℕ) (b : PlainTern) (rest : List PlainTern) →
    entry (table at size first (2 * stride)) rest ≡ entry (table at size (first + stride) (2 * stride)) rest →
    entry (table at (suc size) first stride) (b ∷ rest) ≡ entry (table at size first (2 * stride)) rest
choose_same at size first stride no rest e = entry_no at size first stride rest
choose_same at size first stride yes rest e = entry_yes at size first stride rest ∙ sym e
choose_same at size first stride unknown rest e =
    entry_open at size first stride rest ∙ ap (agreed (entry (table at size first (2 * stride)) rest)) (sym e) ∙ agreed_self (entry (table at size first (2 * stride)) rest)

-- the same bit chooses the same of halves that are the same
choose_alike : (at other : ℕ → PlainTern) (n m f g s r : ℕ) (b c : PlainTern) (rest more : List PlainTern) → b ≡ c →
    entry (table at n f (2 * s)) rest ≡ entry (table other m g (2 * r)) more → entry (table at n (f + s) (2 * s)) rest ≡ entry (table other m (g + r) (2 * r)) more →
    entry (table at (suc n) f s) (b ∷ rest) ≡ entry (table other (suc m) g r) (c ∷ more)
choose_alike at other n m f g s r no c rest more e even odd =
    entry_no at n f s rest ∙ even ∙ sym (entry_no other m g r more) ∙ ap (λ x. entry (table other (suc m) g r) (x ∷ more)) e
choose_alike at other n m f g s r yes c rest more e even odd =
    entry_yes at n f s rest ∙ odd ∙ sym (entry_yes other m g r more) ∙ ap (λ x. entry (table other (suc m) g r) (x ∷ more)) e
choose_alike at other n m f g s r unknown c rest more e even odd =
    entry_open at n f s rest ∙ ap₂ agreed even odd ∙ sym (entry_open other m g r more) ∙ ap (λ x. entry (table other (suc m) g r) (x ∷ more)) e

-- the entries of a table that is not the last, by their halves
whole : (t : PointTerns) (it : Table) → 0 < it.size → entries t it ≡ table t (suc (it.size - 1)) it.first it.stride
whole t it some = let e : it.size ≡ suc (it.size - 1) = omega arith in ap (λ n. first_terns (2 ^ n) (λ k. t (it.first + it.stride * k))) e

evens_alike : (t u : PointTerns) (it : Table) → 0 < it.size → entries t it ≡ entries u it → entries t (evens_of it) ≡ entries u (evens_of it)
evens_alike t u it some e =
    sym (even_entries t (it.size - 1) it.first it.stride) ∙ ap evens (sym (whole t it some) ∙ e ∙ whole u it some) ∙ even_entries u (it.size - 1) it.first it.stride

odds_alike : (t u : PointTerns) (it : Table) → 0 < it.size → entries t it ≡ entries u it → entries t (odds_of it) ≡ entries u (odds_of it)
odds_alike t u it some e =
    sym (odd_entries t (it.size - 1) it.first it.stride) ∙ ap odds (sym (whole t it some) ∙ e ∙ whole u it some) ∙ odd_entries u (it.size - 1) it.first it.stride

-- ---- where the entries of a table lie

module _ (it : Table) (count : ℕ) (below : IsTableBelow count it) where
  split_below : 0 < it.size → it.first + it.stride * 2 ^ suc (it.size - 1) < count + it.stride
  split_below some =
      let e : it.size ≡ suc (it.size - 1) = omega arith in
      subst (λ (n : ℕ). it.first + it.stride * 2 ^ n < count + it.stride) e below

  pub room_below : 0 < it.size → it.first + it.stride < count
  room_below some = entries_room (it.size - 1) it.first it.stride count (split_below some)

  pub evens_below : 0 < it.size → IsTableBelow count (evens_of it)
  evens_below some = entries_even (it.size - 1) it.first it.stride count (split_below some)

  pub odds_below : 0 < it.size → IsTableBelow count (odds_of it)
  odds_below some = entries_odd (it.size - 1) it.first it.stride count (split_below some)

-- ---- tables with the same entries

module _ (terns : List Tern) (leads : List ℕ) (left right : Table) (sizes : left.size ≡ right.size) where
  pub halves_same : 0 < left.size → AreSame terns leads (evens_of left) (evens_of right) → AreSame terns leads (odds_of left) (odds_of right) → AreSame terns leads left right
  halves_same some even odd t above [] long = absurd (omega (arith, some, long))
  halves_same some even odd t above (b ∷ index) long =
      let rest : length index ≡ left.size - 1 = omega (arith, long) in
      let there : 0 < right.size = omega (arith, some, sizes) in
      ap (λ ts. entry ts (b ∷ index)) (whole t left some)
      ∙ choose_alike t t (left.size - 1) (right.size - 1) left.first right.first left.stride right.stride b b index index refl (even t above index rest) (odd t above index rest)
      ∙ sym (ap (λ ts. entry ts (b ∷ index)) (whole t right there))

-- the same of tables that are equal to these
pub same_by : (terns : List Tern) (leads : List ℕ) (left right x y : Table) → x ≡ left → y ≡ right → AreSame terns leads x y → AreSame terns leads left right
same_by terns leads left right x y e f h = subst (λ (z : Table). AreSame terns leads z right) e (subst (λ (z : Table). AreSame terns leads x z) f h)

-- ---- the bits of an index

bit_alike : (marks : List Bool) (first : ℕ) (tree part : Tree) (bit place : ℕ) → ((t : PointTerns) → bit_under t first tree bit ≡ bit_under t first part place) →
    IsAlike marks first part place → IsAlike marks first tree bit
bit_alike marks first tree part bit place same alike t u agree = same t ∙ alike t u agree ∙ sym (same u)

module _ (marks : List Bool) (first : ℕ) where
  pub all_alike : (tree : Tree) (bit : ℕ) → AreMarked marks first tree → IsAlike marks first tree bit
  all_alike tree bit all t u agree =
      ap (λ ts. tern_at ts bit) (tree_same (λ place. IsMarked marks (first + place)) (λ place. t (first + place)) (λ place. u (first + place)) (λ k m. agree (first + k) m) tree all)

  pub point_alike : (tree : Tree) (place count bit : ℕ) → tree ≡ Bits place count → bit < count → RangeIsMarked marks first (place + bit) 1 → IsAlike marks first tree bit
  point_alike tree place count bit is l range t u agree =
      let value : (s : PointTerns) → bit_under s first tree bit ≡ s (first + (place + bit)) =
      λ s. ap (λ (x : Tree). bit_under s first x bit) is ∙ first_at count (λ k. s (first + (place + k))) bit l in
      let p : first + (place + bit + 0) ≡ first + (place + bit) = omega arith in
      value t ∙ agree (first + (place + bit)) (subst (IsMarked marks) p (range 0 (omega arith))) ∙ sym (value u)

  pub low_alike : (tree low high : Tree) (bit width : ℕ) → ((at : ℕ → PlainTern) → tree_value at tree ≡ tree_value at low ++ tree_value at high) →
      tree_width low ≡ width → IsMade low → bit < width → IsAlike marks first low bit → IsAlike marks first tree bit
  low_alike tree low high bit width is wide made l =
      bit_alike marks first tree low bit bit
      (λ t. sym (low_of (tree_value (λ place. t (first + place)) low) (tree_value (λ place. t (first + place)) high) (tree_value (λ place. t (first + place)) tree) bit
      (is (λ place. t (first + place))) (omega (arith, l, wide, value_length (λ place. t (first + place)) low made))))

  pub high_alike : (tree low high : Tree) (bit width : ℕ) → ((at : ℕ → PlainTern) → tree_value at tree ≡ tree_value at low ++ tree_value at high) →
      tree_width low ≡ width → IsMade low → width ≤ bit → IsAlike marks first high (bit - width) → IsAlike marks first tree bit
  high_alike tree low high bit width is wide made l =
      bit_alike marks first tree high bit (bit - width)
      (λ t. sym (high_of (tree_value (λ place. t (first + place)) low) (tree_value (λ place. t (first + place)) high) (tree_value (λ place. t (first + place)) tree) bit width
      (is (λ place. t (first + place))) (value_length (λ place. t (first + place)) low made ∙ wide) l))

-- ---- entries by the bits of an index that are left

module _ (terns : List Tern) (leads : List ℕ) (marks : List Bool) (it : Table) (first : ℕ) (index : Tree) (bit : ℕ)
    (made : IsMade index) (bits : bit + it.size ≡ tree_width index) where
  -- one bit, and those behind it
  cut : (t : PointTerns) → 0 < it.size →
      drop bit (index_under t first index) ≡ tern_at (index_under t first index) bit ∷ drop (bit + 1) (index_under t first index)
  cut t some = drop_more (index_under t first index) bit no (omega (arith, some, bits, value_length (λ place. t (first + place)) index made))

  behind : (t : PointTerns) → 0 < it.size → length (drop (bit + 1) (index_under t first index)) ≡ it.size - 1
  behind t some =
      length-drop (bit + 1) (index_under t first index) ∙ omega (arith, some, bits, value_length (λ place. t (first + place)) index made)

  -- where all of the index is marked
  pub marked_picked : AreMarked marks first index → IsPickedAlike terns leads marks it first index bit
  marked_picked all t u above over agree same =
      ap₂ (λ es ts. entry es (drop bit ts)) same
      (tree_same (λ place. IsMarked marks (first + place)) (λ place. t (first + place)) (λ place. u (first + place)) (λ k m. agree (first + k) m) index all)

  pub last_picked : it.size ≡ 0 → IsPickedAlike terns leads marks it first index bit
  last_picked none t u above over agree same =
      let end : (s : PointTerns) → drop bit (index_under s first index) ≡ [] =
      λ s. drop_of_length-le (index_under s first index) {i = bit} (omega (arith, none, bits, value_length (λ place. s (first + place)) index made)) in
      ap (entry (entries t it)) (end t) ∙ ap (λ ts. tern_at ts 0) same ∙ sym (ap (entry (entries u it)) (end u))

  pub same_picked : 0 < it.size → AreSame terns leads (evens_of it) (odds_of it) → IsPickedAlike terns leads marks (evens_of it) first index (bit + 1) →
      IsPickedAlike terns leads marks it first index bit
  same_picked some halves even t u above over agree same =
      let one : (s : PointTerns) → AreAbove terns leads s →
      entry (entries s it) (drop bit (index_under s first index)) ≡ entry (entries s (evens_of it)) (drop (bit + 1) (index_under s first index)) =
      λ s h. ap (entry (entries s it)) (cut s some)
      ∙ ap (λ ts. entry ts (tern_at (index_under s first index) bit ∷ drop (bit + 1) (index_under s first index))) (whole s it some)
      ∙ choose_same s (it.size - 1) it.first it.stride (tern_at (index_under s first index) bit) (drop (bit + 1) (index_under s first index))
      (halves s h (drop (bit + 1) (index_under s first index)) (behind s some)) in
      one t above ∙ even t u above over agree (evens_alike t u it some same) ∙ sym (one u over)

  pub both_picked : 0 < it.size → IsAlike marks first index bit → IsPickedAlike terns leads marks (evens_of it) first index (bit + 1) →
      IsPickedAlike terns leads marks (odds_of it) first index (bit + 1) → IsPickedAlike terns leads marks it first index bit
  both_picked some here even odd t u above over agree same =
      let split : (s : PointTerns) → entry (entries s it) (drop bit (index_under s first index))
      ≡ entry (table s (suc (it.size - 1)) it.first it.stride) (tern_at (index_under s first index) bit ∷ drop (bit + 1) (index_under s first index)) =
      λ s. ap (entry (entries s it)) (cut s some)
      ∙ ap (λ ts. entry ts (tern_at (index_under s first index) bit ∷ drop (bit + 1) (index_under s first index))) (whole s it some) in
      split t
      ∙ choose_alike t u (it.size - 1) (it.size - 1) it.first it.first it.stride it.stride
      (tern_at (index_under t first index) bit) (tern_at (index_under u first index) bit) (drop (bit + 1) (index_under t first index)) (drop (bit + 1) (index_under u first index))
      (here t u agree) (even t u above over agree (evens_alike t u it some same)) (odd t u above over agree (odds_alike t u it some same))
      ∙ sym (split u)

-- ---- picks

-- a table of points that follow one another, all of them marked
pub own_pick : (terns : List Tern) (leads : List ℕ) (marks : List Bool) (first place width : ℕ) (index : Tree) → RangeIsMarked marks first place (2 ^ width) →
    IsPickedAlike terns leads marks (record { first = first + place; stride = 1; size = width }) first index 0 → PickLeads terns leads marks first place width index Own
own_pick terns leads marks first place width index range alike t u above over agree =
    let is : (s : PointTerns) → first_terns (2 ^ width) (λ k. s (first + place + 1 * k)) ≡ first_terns (2 ^ width) (λ k. s (first + (place + k))) =
    λ s. table_is s (2 ^ width) first place in
    let same : first_terns (2 ^ width) (λ k. t (first + (place + k))) ≡ first_terns (2 ^ width) (λ k. u (first + (place + k))) =
    same_first (2 ^ width) (λ k. t (first + (place + k))) (λ k. u (first + (place + k))) (λ k l. agree (first + (place + k)) (range k l)) in
    ap (λ ts. entry ts (index_under t first index)) (sym (is t)) ∙ alike t u above over agree (is t ∙ same ∙ sym (is u)) ∙ ap (λ ts. entry ts (index_under u first index)) (is u)

-- an index that is known stays so
known_stays : (bits : List Bool) (ts : List PlainTern) → AreUnder (map known bits) ts → ts ≡ map known bits
known_stays [] [] h = refl
known_stays [] (t ∷ ts) h = absurd h
known_stays (b ∷ bits) [] h = absurd h
known_stays (false ∷ bits) (t ∷ ts) h = ap₂ (λ x xs. x ∷ xs) (sym h.0) (known_stays bits ts h.1)
known_stays (true ∷ bits) (t ∷ ts) h = ap₂ (λ x xs. x ∷ xs) (sym h.0) (known_stays bits ts h.1)

-- the entry at a number is what its point has
module _ (terns : List Tern) (leads : List ℕ) (marks : List Bool) (first place width : ℕ) (index : Tree) (number : ℕ)
    (made : IsMade index) (begins : first ≤ length leads) (inside : IsWithin index first (length leads)) (wide : tree_width index ≡ width)
    (is : IsNumberBelow (value_seen terns leads first index) 0 number) where
  index_stays : (t : PointTerns) → AreAbove terns leads t → index_under t first index ≡ value_seen terns leads first index
  index_stays t above =
      known_stays is.0 (index_under t first index)
      (subst (λ (ts : List PlainTern). AreUnder ts (index_under t first index)) is.1
      (tree_grows (length leads - first) (λ k. seen terns leads (first + k)) (λ k. t (first + k)) (λ k l. above (first + k) (omega (arith, l, begins))) index made inside))
      ∙ sym is.1

  entry_is : (t : PointTerns) → AreAbove terns leads t → picked t first place width index ≡ t (first + place + number)
  entry_is t above =
      let g : (k : ℕ) → t (first + (place + k)) ≡ t (first + place + k) = λ k. ap t (omega arith) in
      (λ j. entry (first_terns (2 ^ width) (λ k. g k j)) (index_stays t above j))
      ∙ sym (picked_is t (value_seen terns leads first index) width (first + place) number (wide_at terns leads first index made ∙ wide) is)

  pub followed_pick : (lead : Lead) → PointLeads leads marks (first + place + number) lead → PickLeads terns leads marks first place width index lead
  followed_pick (Known b) h = absurd h
  followed_pick Own h = absurd h
  followed_pick (Unmarked point) h = h
  followed_pick (Point lead) h = (
    λ t above follow. entry_is t above ∙ follow (first + place + number) h.0 ∙ ap t (index_is leads (first + place + number) lead h.1),
    (first + place + number, h.0, index_is leads (first + place + number) lead h.1),
  )

-- what is told of an entry is true of the expression that picks it
module _ (first place width bit : ℕ) (tree index : Tree) where
  abbrev IsPick : Type 0
  IsPick = (at : ℕ → PlainTern) → tree_value at tree ≡ entry (first_terns (2 ^ width) (λ k. at (place + k))) (tree_value at index) ∷ []

  picked_bit : IsPick → bit < 1 → (t : PointTerns) → bit_under t first tree bit ≡ picked t first place width index
  picked_bit is l t =
      let e : bit ≡ 0 = omega (arith, l) in
      ap (λ ts. tern_at ts bit) (is (λ k. t (first + k))) ∙ ap (tern_at (picked t first place width index ∷ [])) e

pub pick_leads : (terns : List Tern) (leads : List ℕ) (marks : List Bool) (first place width bit : ℕ) (tree index : Tree) →
    ((at : ℕ → PlainTern) → tree_value at tree ≡ entry (first_terns (2 ^ width) (λ k. at (place + k))) (tree_value at index) ∷ []) → bit < 1 →
    (lead : Lead) → PickLeads terns leads marks first place width index lead → TellsBit terns leads marks first tree bit lead
pick_leads terns leads marks first place width bit tree index is l (Known b) h = absurd h
pick_leads terns leads marks first place width bit tree index is l (Point lead) h =
    (λ t above follow. picked_bit first place width bit tree index is l t ∙ h.0 t above follow, h.1)
pick_leads terns leads marks first place width bit tree index is l Own h = λ t u above over agree.
    picked_bit first place width bit tree index is l t ∙ h t u above over agree ∙ sym (picked_bit first place width bit tree index is l u)
pick_leads terns leads marks first place width bit tree index is l (Unmarked point) h = h
