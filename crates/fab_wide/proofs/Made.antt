-- What a wired netlist is split into is well made.
use Rattle.std.proofs.Common.{◌≡◌, ◌⊎◌, ℕ, zero, suc, ◌+◌, ◌-◌, ◌%◌, ◌^◌, ◌<◌, ◌≤◌, false, List, [], ◌∷◌, ◌++◌, take, replicate, length, get_or, Contains, nat_eq, nat_lt, refl, sym, ap, ◌∙◌, subst, inl, inr, arith}
use Rattle.std.specs.List.{flat_map}
use Rattle.std.proofs.lemmas.Bool.{cases_Bool, cases_lt, lt-ltb, ltb-true, false≢true}
use Rattle.std.proofs.lemmas.List.{length-append, length-replicate, length-take}
use Rattle.fab_netlist.specs.Plain.{PlainCover, PlainNetlist, IsAt, name_of}
use Rattle.fab_netlist.specs.WellMade.{IsWired, IsWellMade, most_nets, times, cover_outputs, latch_outputs, latch_inputs, driven, read, ports, table_bit}
use Rattle.fab_netlist.proofs.Counts.{times_joined, member_counts, nowhere_or_at}
use Rattle.fab_netlist.proofs.Meaning.{output_small, latch_small, input_small}
use Rattle.fab_netlist.proofs.Members.{in_none, first_in, later_in, at_in, in_left, in_right}
use Rattle.fab_netlist.proofs.Packs.{from_mapped}
use Rattle.fab_netlist.proofs.Stepping.{in_flat}
use Rattle.fab_wide.specs.Split.{low_half, high_half, chooser, cover_with, taken, narrow, taken_by, parts, all_taken, all_parts, split_of, split_nets}
use Rattle.fab_wide.proofs.Drivers.{parts_times, parts_new, parts_past}
use Rattle.fab_wide.proofs.Falls.{IsBelow, both_hold, one_holds, below_more, in_taken, place_in, three_small, narrow_below}
use Rattle.fab_wide.proofs.Halves.{low_bit, high_bit}
use Rattle.fab_wide.proofs.Runs.{input_below, name_same, port_below}

-- ---- four inputs, and tables of 16 bits

-- the bits of a table of so many inputs are repeated to 16
abbrev pub Repeats : (inputs table : ℕ) → Type 0
Repeats inputs table = (place : ℕ) → place < 16 → table_bit table place ≡ table_bit table (place % 2 ^ inputs)

abbrev pub IsNarrow : PlainCover → Type 0
IsNarrow cover = (length cover.inputs ≤ 4) × Repeats (length cover.inputs) cover.table

four_repeat : (table : ℕ) → Repeats 4 table
four_repeat table place small = ap (table_bit table) (omega (arith, small))

chooser_repeats : Repeats 3 chooser
chooser_repeats place small =
    elim (cases_lt place 8) [
      | inl low ↦ ap (table_bit chooser) (omega (arith, low))
      | inr high ↦ (
          let later : place ≡ 8 + (place - 8) = omega (arith, high) in
          let rest : place - 8 ≡ place % 8 = omega (arith, high, small) in
          ap (table_bit chooser) later ∙ sym (high_bit 3 chooser (place - 8)) ∙ low_bit 3 chooser (place - 8) (omega (arith, small)) ∙ ap (table_bit chooser)
          rest)
    ]

pub not_below : (a b : ℕ) → nat_lt a b ≡ false → b ≤ a
not_below a b not_less =
    elim (cases_lt a b) [
      | inl less ↦ absurd (false≢true (sym not_less ∙ lt-ltb a b less))
      | inr above ↦ above
    ]

module _ (line : ℕ) (inputs : List ℕ) where
  narrow_narrow : (n table output fresh : ℕ) → n ≤ length inputs → (n < 4 → Repeats n table) → (cover : PlainCover) →
      Contains (narrow line inputs n table output fresh) cover → IsNarrow cover
  narrow_narrow zero table output fresh few repeats = one_holds IsNarrow (cover_with line [] output table) (omega arith, repeats (omega arith))
  narrow_narrow (suc n) table output fresh few repeats =
      let low : ℕ = low_half n table in
      let high : ℕ = high_half n table in
      elim (cases_Bool (nat_lt n 4)) [
        | inl small ↦ rw small (
            let less : n < 4 = ltb-true n 4 small in
            let many : length (take (suc n) inputs) ≡ suc n = omega (arith, length-take (suc n) inputs, few) in
            let all : Repeats (suc n) table = elim (cases_lt (suc n) 4) [
              | inl below ↦ repeats below
              | inr above ↦ (let four : 4 ≡ suc n = omega (arith, less, above) in subst (λ k. Repeats k table) four (four_repeat table))
            ] in
            one_holds IsNarrow (cover_with line (take (suc n) inputs) output table) (omega (arith, many, less), subst (λ k. Repeats k table) (sym many) all))
        | inr large ↦ (
            let more : 4 ≤ n = not_below n 4 large in
            elim (cases_Bool (nat_eq low high)) [
              | inl same ↦ rw (large, same) (narrow_narrow n low output fresh (omega (arith, few)) (λ below. absurd (omega (arith, below, more))))
              | inr other ↦ rw (large, other) (
                  let later = taken n low + (2 + fresh) in
                  let first = narrow line inputs n low fresh (2 + fresh) in
                  let second = narrow line inputs n high (1 + fresh) later in
                  let choose = cover_with line (fresh ∷ (1 + fresh) ∷ get_or inputs n 0 ∷ []) output chooser in
                  both_hold IsNarrow first (second ++ choose ∷ []) (narrow_narrow n low fresh (2 + fresh) (omega (arith, few))
                  (λ below. absurd (omega (arith, below, more))))
                  (both_hold IsNarrow second (choose ∷ []) (narrow_narrow n high (1 + fresh) later (omega (arith, few))
                  (λ below. absurd (omega (arith, below, more))))
                  (one_holds IsNarrow choose (omega arith, chooser_repeats))))
            ])
      ]

  -- a cover reads these inputs, and new nets
  abbrev ReadsOld : (fresh : ℕ) → PlainCover → Type 0
  ReadsOld fresh cover = (net : ℕ) → Contains cover.inputs net → Contains inputs net ⊎ (fresh ≤ net)

  reads_more : (few many : ℕ) (cover : PlainCover) → few ≤ many → ReadsOld many cover → ReadsOld few cover
  reads_more few many cover less reads net here =
      elim (reads net here) [
        | inl old ↦ inl old
        | inr new ↦ inr (omega (arith, less, new))
      ]

  -- and so do all covers that stand for a table
  narrow_reads : (n table output fresh : ℕ) → n ≤ length inputs → (cover : PlainCover) → Contains (narrow line inputs n table output fresh) cover →
      ReadsOld fresh cover
  narrow_reads zero table output fresh few = one_holds (ReadsOld fresh) (cover_with line [] output table) (λ net here. absurd (in_none net here))
  narrow_reads (suc n) table output fresh few =
      let low : ℕ = low_half n table in
      let high : ℕ = high_half n table in
      elim (cases_Bool (nat_lt n 4)) [
        | inl small ↦ rw small (one_holds (ReadsOld fresh) (cover_with line (take (suc n) inputs) output table)
            (λ net here. inl (in_taken (suc n) inputs net here)))
        | inr large ↦ elim (cases_Bool (nat_eq low high)) [
          | inl same ↦ rw (large, same) (narrow_reads n low output fresh (omega (arith, few)))
          | inr other ↦ rw (large, other) (
              let later = taken n low + (2 + fresh) in
              let first = narrow line inputs n low fresh (2 + fresh) in
              let second = narrow line inputs n high (1 + fresh) later in
              let choose = cover_with line (fresh ∷ (1 + fresh) ∷ get_or inputs n 0 ∷ []) output chooser in
              both_hold (ReadsOld fresh) first (second ++ choose ∷ []) (λ c here. reads_more fresh (2 + fresh) c (omega arith)
              (narrow_reads n low fresh (2 + fresh) (omega (arith, few)) c here))
              (both_hold (ReadsOld fresh) second (choose ∷ []) (λ c here. reads_more fresh later c (omega arith)
              (narrow_reads n high (1 + fresh) later (omega (arith, few)) c here))
              (one_holds (ReadsOld fresh) choose (three_small (λ net. Contains inputs net ⊎ (fresh ≤ net)) fresh (1 + fresh) (get_or inputs n 0)
              (inr (omega arith)) (inr (omega arith))
              (inl (place_in inputs n (omega (arith, few))))))))
        ]
      ]

-- ---- all covers

-- what holds of all parts of covers, where it holds of the parts of each
pub all_hold : (P : PlainCover → Type 0) (nets : ℕ) (covers : List PlainCover) (fresh : ℕ) → nets ≤ fresh →
    ((cover : PlainCover) → Contains covers cover → (at : ℕ) → nets ≤ at → (part : PlainCover) → Contains (parts cover at) part → P part) →
    (part : PlainCover) → Contains (all_parts covers fresh) part → P part
all_hold P nets [] fresh few each part here = absurd (in_none part here)
all_hold P nets (cover ∷ covers) fresh few each part here =
    both_hold P (parts cover fresh) (all_parts covers (taken_by cover + fresh)) (each cover (first_in cover covers cover refl) fresh few)
    (all_hold P nets covers (taken_by cover + fresh) (omega (arith, few)) (λ c among. each c (later_in cover covers c among))) part here

-- their nets are old and new ones
all_below : (covers : List PlainCover) (fresh : ℕ) → ((cover : PlainCover) → Contains covers cover → cover.output < fresh) →
    ((cover : PlainCover) → Contains covers cover → (net : ℕ) → Contains cover.inputs net → net < fresh) →
    (part : PlainCover) → Contains (all_parts covers fresh) part → IsBelow (all_taken covers + fresh) part
all_below [] fresh outputs inputs part here = absurd (in_none part here)
all_below (cover ∷ covers) fresh outputs inputs part among =
    let later = taken_by cover + fresh in
    let here = first_in cover covers cover refl in
    both_hold (IsBelow (taken_by cover + all_taken covers + fresh)) (parts cover fresh) (all_parts covers later)
    (λ c one. below_more later (taken_by cover + all_taken covers + fresh) c (omega arith) (narrow_below cover.line cover.inputs (length cover.inputs)
    cover.table cover.output fresh (omega arith) (outputs cover here) (inputs cover here) c one))
    (λ c one. below_more (all_taken covers + later) (taken_by cover + all_taken covers + fresh) c (omega arith)
    (all_below covers later (λ d known. omega (arith, outputs d (later_in cover covers d known)))
    (λ d known net reads. omega (arith, inputs d (later_in cover covers d known) net reads)) c one)) part among

-- an item of joined lists stands in one of them
from_flat : {X Y : Type 0} (f : X → List Y) (xs : List X) (y : Y) → Contains (flat_map f xs) y → (x : X) × Contains xs x × Contains (f x) y
from_flat f [] y here = absurd (in_none y here)
from_flat {X = X} f (x ∷ xs) y here =
    both_hold (λ z. (w : X) × Contains (x ∷ xs) w × Contains (f w) z) (f x) (flat_map f xs) (λ z one. (x, first_in x xs x refl, one))
    (λ z one. let (w, among, there) = from_flat f xs z one in (w, later_in x xs w among, there)) y here

none_above : (xs : List ℕ) (n net : ℕ) → ((other : ℕ) → Contains xs other → other < n) → n ≤ net → times net xs ≡ 0
none_above xs n net small above =
    elim (nowhere_or_at net xs) [
      | inl none ↦ none
      | inr at ↦ absurd (omega (arith, small net (at_in xs at.0 net at.1), above))
    ]

-- ---- the split netlist

module _ (netlist : PlainNetlist) (wiring : IsWired netlist) (fits : split_nets netlist ≤ most_nets)
    (repeats : (cover : PlainCover) → Contains netlist.covers cover → length cover.inputs < 4 → Repeats (length cover.inputs) cover.table) where
  abbrev n : ℕ
  n = length netlist.nets

  abbrev all : List PlainCover
  all = all_parts netlist.covers n

  abbrev behind : List ℕ
  behind = latch_outputs netlist ++ netlist.inputs

  many : length (split_of netlist).nets ≡ all_taken netlist.covers + n
  many = length-append netlist.nets (replicate (all_taken netlist.covers) []) ∙ omega (arith, length-replicate {A = List ℕ} (all_taken netlist.covers) [])

  narrow_parts : (part : PlainCover) → Contains all part → IsNarrow part
  narrow_parts =
      all_hold IsNarrow n netlist.covers n (omega arith) (λ cover here at few. narrow_narrow cover.line cover.inputs (length cover.inputs) cover.table
      cover.output at (omega arith) (repeats cover here))

  parts_below : (part : PlainCover) → Contains all part → IsBelow (all_taken netlist.covers + n) part
  parts_below = all_below netlist.covers n (output_small netlist wiring) (input_below netlist wiring)

  behind_below : (net : ℕ) → Contains behind net → net < n
  behind_below = both_hold (λ net. net < n) (latch_outputs netlist) netlist.inputs (latch_small netlist wiring) (input_small netlist wiring)

  read_old : (net : ℕ) → Contains (read netlist) net → net < n
  read_old = wiring.read_below

  all_driven_below : (net : ℕ) → Contains (driven (split_of netlist)) net → net < length (split_of netlist).nets
  all_driven_below =
      both_hold (λ net. net < length (split_of netlist).nets) (cover_outputs all) behind
      (λ net here. let (part, among, is) = from_mapped (λ (c : PlainCover). c.output) all net here in omega (arith, (parts_below part among).0, is, many))
      (λ net here. omega (arith, behind_below net here, many))

  all_read_below : (net : ℕ) → Contains (read (split_of netlist)) net → net < length (split_of netlist).nets
  all_read_below =
      both_hold (λ net. net < length (split_of netlist).nets) (flat_map (λ (c : PlainCover). c.inputs) all) (latch_inputs netlist ++ netlist.outputs)
      (λ net here. let (part, among, reads) = from_flat (λ (c : PlainCover). c.inputs) all net here in
      omega (arith, (parts_below part among).1 net reads, many)) (λ net here. omega (
        arith,
        read_old net (in_right (flat_map (λ (c : PlainCover). c.inputs) netlist.covers) (latch_inputs netlist ++ netlist.outputs) net here),
        many,
      ))

  -- how often a net is driven
  count_parts : (net : ℕ) → times net (driven (split_of netlist)) ≡ times net (cover_outputs all) + times net behind
  count_parts net = times_joined net (cover_outputs all) behind

  old_times : (net : ℕ) → net < n → times net (driven (split_of netlist)) ≡ times net (driven netlist)
  old_times net old = omega (arith, count_parts net, parts_times netlist.covers n net old, times_joined net (cover_outputs netlist.covers) behind)

  new_times : (net : ℕ) → n ≤ net → net < all_taken netlist.covers + n → times net (driven (split_of netlist)) ≡ 1
  new_times net above below = omega (
    arith,
    count_parts net,
    parts_new netlist.covers n net (output_small netlist wiring) above below,
    none_above behind n net behind_below above,
  )

  all_driven_once : (net : ℕ) → times net (driven (split_of netlist)) ≤ 1
  all_driven_once net =
      elim (cases_lt net n) [
        | inl old ↦ omega (arith, old_times net old, wiring.driven_once net)
        | inr above ↦ elim (cases_lt net (all_taken netlist.covers + n)) [
          | inl new ↦ omega (arith, new_times net above new)
          | inr past ↦ omega (
            arith,
            count_parts net,
            parts_past netlist.covers n net (output_small netlist wiring) past,
            none_above behind n net behind_below above,
          )
        ]
      ]

  -- an old net that parts read is read by a cover
  read_before : (net : ℕ) → net < n → Contains (read (split_of netlist)) net → Contains (read netlist) net
  read_before net old here =
      both_hold (λ other. other < n → Contains (read netlist) other) (flat_map (λ (c : PlainCover). c.inputs) all) (latch_inputs netlist ++ netlist.outputs)
      (λ other one small. let (part, among, reads) = from_flat (λ (c : PlainCover). c.inputs) all other one in part_reads part among other reads small)
      (λ other one small. in_right (flat_map (λ (c : PlainCover). c.inputs) netlist.covers) (latch_inputs netlist ++ netlist.outputs) other one) net here old
    where
      part_reads : (part : PlainCover) → Contains all part → (net : ℕ) → Contains part.inputs net → net < n → Contains (read netlist) net
      part_reads =
          all_hold (λ part. (net : ℕ) → Contains part.inputs net → net < n → Contains (read netlist) net) n netlist.covers n (omega arith)
          (λ cover here at few part among net reads small.
          elim (narrow_reads cover.line cover.inputs (length cover.inputs) cover.table cover.output at (omega arith) part among net reads) [
            | inl old ↦ in_left (flat_map (λ (c : PlainCover). c.inputs) netlist.covers) (latch_inputs netlist ++ netlist.outputs) net
                (in_flat (λ (c : PlainCover). c.inputs) netlist.covers cover net here old)
            | inr new ↦ absurd (omega (arith, new, few, small))
          ])

  all_read_driven : (net : ℕ) → Contains (read (split_of netlist)) net → Contains (driven (split_of netlist)) net
  all_read_driven net here =
      elim (nowhere_or_at net (driven (split_of netlist))) [
        | inr at ↦ at_in (driven (split_of netlist)) at.0 net at.1
        | inl none ↦ absurd (elim (cases_lt net n) [
          | inl old ↦ omega (arith, none, old_times net old, member_counts net (driven netlist) (wiring.read_driven net (read_before net old here)))
          | inr above ↦ omega (arith, none, new_times net above (omega (arith, all_read_below net here, many)))
        ])
      ]

  port_name : (place net : ℕ) → IsAt (ports netlist) place net → name_of (split_of netlist) net ≡ name_of netlist net
  port_name place net at = name_same netlist wiring net (port_below netlist wiring net (at_in (ports netlist) place net at))

  pub split_made : IsWellMade (split_of netlist)
  split_made = record {
    small = omega (arith, many, fits);
    driven_below = all_driven_below;
    read_below = all_read_below;
    four_inputs = λ part here. (narrow_parts part here).0;
    repeats = λ part here. (narrow_parts part here).1;
    initials = wiring.initials;
    driven_once = all_driven_once;
    read_driven = all_read_driven;
    reset_below = wiring.reset_below;
    ports_differ = λ j k first second at_j at_k same. wiring.ports_differ j k first second at_j at_k
        (sym (port_name j first at_j) ∙ same ∙ port_name k second at_k);
  }
