-- What a netlist of wide covers is split into.
use Rattle.std.proofs.Common.{◌≡◌, ℕ, zero, suc, ◌+◌, ◌*◌, ◌/◌, ◌%◌, ◌^◌, ◌<◌, ◌≤◌, Bool, true, false, not, ◌||◌, List, [], ◌∷◌, ◌++◌, max, take, replicate, length, get_or, Contains, nat_eq, nat_lt, bit_and, refl, sym, ap, ◌∙◌, subst, inl, inr, arith, pow-suc}
use Rattle.std.specs.List.{All, list_any}
use Rattle.std.proofs.lemmas.Bool.{cases_Bool, ltb-true}
use Rattle.std.proofs.lemmas.List.{length-append, length-replicate}
use Rattle.std.proofs.lemmas.Nat.{and_le_r, and_mod, mod_below, pow_pos, shr-shr, shr_below}
use Rattle.std.proofs.Math.Nat.{mod-eq_of_lt, mod-le}
use Rattle.fab_bits.specs.Bits.{bit_number, number, first_bits}
use Rattle.fab_bits.proofs.Numbers.{length_first_bits}
use Rattle.fab_netlist.specs.declared.wide.Cube.{Cube}
use Rattle.fab_netlist.specs.Plain.{PlainCover, PlainNetlist}
use Rattle.fab_netlist.specs.WellMade.{IsWellMade, most_nets, table_bit}
use Rattle.fab_netlist.specs.Cycles.{HasNoCycle}
use Rattle.fab_netlist.specs.Wide.{PlainWide, PlainWideCover, matches, rows_say, tabled_cover, tabled, IsFineRow, IsWideMade, RunsAsWith}
use Rattle.fab_netlist.proofs.Packs.{from_mapped}
use Rattle.fab_netlist.proofs.Stepping.{all_of}
use Rattle.fab_wide.specs.Split.{low_half, high_half, chooser, cover_with, taken, narrow, parts, all_taken, split_of, split_nets}
use Rattle.fab_wide.specs.Laws.{HasAtMost}
use Rattle.fab_wide.proofs.Falls.{both_hold, one_holds}
use Rattle.fab_wide.proofs.Halves.{number_small}
use Rattle.fab_wide.proofs.Heights.{split_keeps_order}
use Rattle.fab_wide.proofs.Made.{Repeats, all_hold, not_below, split_made}
use Rattle.fab_wide.proofs.Runs.{split_keeps_runs}
use Rattle.fab_wide.proofs.Stays.{split_keeps_narrow}

-- ---- the table of rows

-- its bits are those of the function that it was made of
table_reads : (n : ℕ) (f : ℕ → Bool) (place : ℕ) → place < n → table_bit (number (first_bits n f)) place ≡ f place
table_reads zero f place small = absurd (omega (arith, small))
table_reads (suc n) f zero small = lowest (f 0) (number (first_bits n (λ i. f (suc i))))
  where
    lowest : (b : Bool) (x : ℕ) → table_bit (bit_number b + 2 * x) 0 ≡ b
    lowest true x = let odd : (1 + 2 * x) / 1 % 2 ≡ 1 = omega arith in ap (λ k. nat_eq k 1) odd
    lowest false x = let even : (0 + 2 * x) / 1 % 2 ≡ 0 = omega arith in ap (λ k. nat_eq k 1) even
table_reads (suc n) f (suc place) small = higher (f 0) (number (first_bits n (λ i. f (suc i)))) ∙ table_reads n (λ i. f (suc i)) place (omega (arith, small))
  where
    halved : (b : Bool) (x : ℕ) → (bit_number b + 2 * x) / 2 ≡ x
    halved true x = omega arith
    halved false x = omega arith

    higher : (b : Bool) (x : ℕ) → table_bit (bit_number b + 2 * x) (suc place) ≡ table_bit x place
    higher b x =
        let one : suc place ≡ 1 + place = omega arith in
        ap (table_bit (bit_number b + 2 * x)) one
        ∙ ap (λ k. nat_eq (k % 2) 1) (sym (shr-shr (bit_number b + 2 * x) 1 place))
        ∙ ap (λ k. nat_eq (k / 2 ^ place % 2) 1) (halved b x)

-- a row of so many inputs does not look past them
matches_low : (inputs : ℕ) (cube : Cube) → IsFineRow inputs cube → (place : ℕ) → matches cube place ≡ matches cube (place % 2 ^ inputs)
matches_low inputs cube fine place =
    let most = 2 ^ inputs in
    let less : bit_and place cube.care < most = omega (arith, fine.low, and_le_r place cube.care) in
    let same : bit_and place cube.care ≡ bit_and (place % most) cube.care =
    sym (mod-eq_of_lt less) ∙ and_mod place cube.care inputs ∙ ap (bit_and (place % most)) (mod-eq_of_lt fine.low) in
    ap (λ k. nat_eq k cube.value) same

some_low : (inputs : ℕ) (rows : List Cube) → All (IsFineRow inputs) rows → (place : ℕ) →
    list_any (λ cube. matches cube place) rows ≡ list_any (λ cube. matches cube (place % 2 ^ inputs)) rows
some_low inputs [] fine place = refl
some_low inputs (cube ∷ rows) fine place =
    let here = matches_low inputs cube (fine 0 cube (omega arith)) place in
    let rest = some_low inputs rows (λ k d within. fine (suc k) d (omega (arith, within))) place in
    λ j. here j || rest j

rows_low : (inputs : ℕ) (on : Bool) (rows : List Cube) → All (IsFineRow inputs) rows → (place : ℕ) →
    rows_say on rows place ≡ rows_say on rows (place % 2 ^ inputs)
rows_low inputs true rows fine place = some_low inputs rows fine place
rows_low inputs false rows fine place = ap not (some_low inputs rows fine place)

-- a table for fewer than four inputs is repeated to 16 bits
table_repeats : (cover : PlainWideCover) → All (IsFineRow (length cover.inputs)) cover.rows → length cover.inputs < 4 →
    Repeats (length cover.inputs) (tabled_cover cover).table
table_repeats cover fine few place small =
    let inputs = length cover.inputs in
    let says = rows_say cover.on cover.rows in
    let bits = 2 ^ max 4 inputs in
    let four : max 4 inputs ≡ 4 = omega (arith, few) in
    let enough : 16 ≡ bits = sym (ap (λ k. 2 ^ k) four) in
    let less : place % 2 ^ inputs ≤ place = mod-le place (2 ^ inputs) in
    table_reads bits says place (omega (arith, small, enough))
    ∙ rows_low inputs cover.on cover.rows fine place
    ∙ sym (table_reads bits says (place % 2 ^ inputs) (omega (arith, less, small, enough)))

-- ---- tables of 16 bits

module _ (line : ℕ) (inputs : List ℕ) where
  -- the covers that stand for a table
  narrow_small : (n table output fresh : ℕ) → (n ≤ 4 → table < 65536) → (4 ≤ n → table < 2 ^ 2 ^ n) → (cover : PlainCover) →
      Contains (narrow line inputs n table output fresh) cover → cover.table < 65536
  narrow_small zero table output fresh few many = one_holds (λ (c : PlainCover). c.table < 65536) (cover_with line [] output table) (few (omega arith))
  narrow_small (suc n) table output fresh few many =
      let low : ℕ = low_half n table in
      let high : ℕ = high_half n table in
      elim (cases_Bool (nat_lt n 4)) [
        | inl small ↦ rw small (one_holds (λ (c : PlainCover). c.table < 65536) (cover_with line (take (suc n) inputs) output table)
            (few (omega (arith, ltb-true n 4 small))))
        | inr large ↦ (
            let more : 4 ≤ n = not_below n 4 large in
            let twice : 2 ^ suc n ≡ 2 ^ n + 2 ^ n = omega (arith, pow-suc 2 n) in
            let bound : table < 2 ^ (2 ^ n + 2 ^ n) = subst (λ k. table < 2 ^ k) twice (many (omega (arith, more))) in
            let low_bound : low < 2 ^ 2 ^ n = mod_below table (2 ^ 2 ^ n) (pow_pos (2 ^ n)) in
            let high_bound : high < 2 ^ 2 ^ n = shr_below table (2 ^ n) (2 ^ n) bound in
            let at_four : (half : ℕ) → half < 2 ^ 2 ^ n → n ≤ 4 →
            half < 65536 = λ half below most. let four : n ≡ 4 = omega (arith, more, most) in subst (λ k. half < 2 ^ 2 ^ k) four below in
            elim (cases_Bool (nat_eq low high)) [
              | inl same ↦ rw (large, same) (narrow_small n low output fresh (at_four low low_bound) (λ some. low_bound))
              | inr other ↦ rw (large, other) (
                  let later = taken n low + (2 + fresh) in
                  let first = narrow line inputs n low fresh (2 + fresh) in
                  let second = narrow line inputs n high (1 + fresh) later in
                  let choose = cover_with line (fresh ∷ (1 + fresh) ∷ get_or inputs n 0 ∷ []) output chooser in
                  both_hold (λ (c : PlainCover). c.table < 65536) first (second ++ choose ∷ []) (narrow_small n low fresh (2 + fresh) (at_four low low_bound)
                  (λ some. low_bound))
                  (both_hold (λ (c : PlainCover). c.table < 65536) second (choose ∷ []) (narrow_small n high (1 + fresh) later (at_four high high_bound)
                  (λ some. high_bound))
                  (one_holds (λ (c : PlainCover). c.table < 65536) choose (omega arith))))
            ])
      ]

-- the table of rows has as many bits as it should
table_small : (cover : PlainWideCover) → (tabled_cover cover).table < 2 ^ 2 ^ max 4 (length cover.inputs)
table_small cover =
    let bits = 2 ^ max 4 (length cover.inputs) in
    let says = rows_say cover.on cover.rows in
    subst (λ k. number (first_bits bits says) < 2 ^ k) (length_first_bits bits says) (number_small (first_bits bits says))

-- ---- all covers

module _ (wide : PlainWide) where
  -- a cover with a table is one of the covers with rows
  by_rows : (P : PlainCover → Type 0) → ((cover : PlainWideCover) → Contains wide.covers cover → P (tabled_cover cover)) → (cover : PlainCover) →
      Contains (tabled wide).covers cover → P cover
  by_rows P each cover here =
      let (from, among, is) = from_mapped tabled_cover wide.covers cover here in
      subst P is (each from among)

  pub at_most_16 : IsWideMade wide → HasAtMost 16 (tabled wide)
  at_most_16 made = by_rows (λ cover. length cover.inputs ≤ 16) made.few

  pub split_is_made : IsWideMade wide → split_nets (tabled wide) ≤ most_nets → IsWellMade (split_of (tabled wide))
  split_is_made made fits =
      split_made (tabled wide) made.wired fits (by_rows (λ cover. length cover.inputs < 4 → Repeats (length cover.inputs) cover.table)
      (λ cover here. table_repeats cover (made.rows cover here)))

  pub split_is_acyclic : IsWideMade wide → HasNoCycle (tabled wide) → HasNoCycle (split_of (tabled wide))
  split_is_acyclic made = split_keeps_order (tabled wide) made.wired (at_most_16 made)

  pub split_runs : IsWideMade wide → RunsAsWith (tabled wide) (split_of (tabled wide))
  split_runs made = split_keeps_runs (tabled wide) made.wired

  pub split_is_small : IsWideMade wide → All (λ cover. cover.table < 65536) (split_of (tabled wide)).covers
  split_is_small made =
      all_of (λ cover. cover.table < 65536) (split_of (tabled wide)).covers
      (all_hold (λ cover. cover.table < 65536) (length wide.nets) (tabled wide).covers (length wide.nets) (omega arith)
      (by_rows (λ cover. (at : ℕ) → length wide.nets ≤ at → (part : PlainCover) → Contains (parts cover at) part → part.table < 65536) (λ cover here at above.
      narrow_small cover.line cover.inputs (length cover.inputs) (tabled_cover cover).table cover.output at
      (λ few. let four : max 4 (length cover.inputs) ≡ 4 = omega (arith, few) in subst (λ k. (tabled_cover cover).table < 2 ^ 2 ^ k) four (table_small cover))
      (λ many. let all : max 4 (length cover.inputs) ≡ length cover.inputs = omega (arith, many) in subst (λ k. (tabled_cover cover).table < 2 ^ 2 ^ k) all
      (table_small cover)))))

-- a netlist without wide covers stays as it is
pub split_same : (netlist : PlainNetlist) → HasAtMost 4 netlist → split_of netlist ≡ netlist
split_same = split_keeps_narrow

-- how many nets there are
pub split_many : (netlist : PlainNetlist) → length (split_of netlist).nets ≡ split_nets netlist
split_many netlist = length-append netlist.nets (replicate (all_taken netlist.covers) []) ∙ ap (λ k. length netlist.nets + k)
    (length-replicate {A = List ℕ} (all_taken netlist.covers) [])
