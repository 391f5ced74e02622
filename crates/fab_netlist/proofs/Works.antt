-- The cells of a netlist: where they come from, and which nets are seen by others than a paired latch.
use Rattle.std.proofs.Common.{◌≡◌, ◌⊎◌, ℕ, zero, suc, ◌+◌, ◌≤◌, Bool, true, false, List, [], ◌∷◌, ◌++◌, map, Contains, Some, None, is_some, nat_eq, refl, sym, ap, ◌∙◌, subst, inl, inr, arith, eqb-true}
use Rattle.std.specs.List.{filter, flat_map}
use Rattle.std.proofs.lemmas.Bool.{cases_Bool, false≢true}
use Rattle.std.proofs.lemmas.List.Elements.{Contains-append_cases}
use Rattle.fab_netlist.specs.declared.netlist.Latch.{Latch}
use Rattle.fab_netlist.specs.Plain.{PlainCover, PlainNetlist, IsAt}
use Rattle.fab_netlist.specs.WellMade.{times, cover_outputs, latch_inputs, read}
use Rattle.fab_netlist.specs.Kept.{is_kept}
use Rattle.fab_netlist.specs.Packing.{Work, of_cover, of_latch, inner_reads, is_alone, place_of, pair, is_paired, others, works, latch_of}
use Rattle.fab_netlist.proofs.Members.{in_none, first_or_later, first_in, later_in, at_in, mapped_in, in_left, in_right, parts_true, both_true, number_any}
use Rattle.fab_netlist.proofs.Counts.{times_joined, member_counts, one_place, at_mapped}
use Rattle.fab_netlist.proofs.Stepping.{in_flat}
use Rattle.fab_netlist.proofs.Packs.{from_mapped, filtered_in}

-- a net has no place in a list, or a first one
pub nowhere_or_first : (net : ℕ) (nets : List ℕ) → ((place_of net nets ≡ None) × (times net nets ≡ 0)) ⊎ ((place : ℕ) × (place_of net nets ≡ Some place) × IsAt nets place net)
nowhere_or_first net [] = inl (refl, refl)
nowhere_or_first net (other ∷ nets) =
    elim (cases_Bool (nat_eq other net)) [
      | inl equal ↦ inr (0, (rw equal refl), (omega arith, eqb-true other net equal))
      | inr differ ↦ elim (nowhere_or_first net nets) [
        | inl none ↦ inl ((rw (differ, none.0) refl), (rw differ (omega (arith, none.1))))
        | inr at ↦ inr (suc at.0, (rw (differ, at.1) refl), (omega (arith, at.2.0), at.2.1))
      ]
    ]

-- members that pass a test
test_in : {X : Type 0} (test : X → Bool) (xs : List X) (x : X) → Contains xs x → test x ≡ true → Contains (filter test xs) x
test_in test [] x here passes = absurd (in_none x here)
test_in test (y ∷ ys) x here passes =
    elim (first_or_later y ys x here) [
      | inl same ↦ (let also : test y ≡ true = ap test same ∙ passes in rw also (first_in y (filter test ys) x same))
      | inr later ↦ elim (cases_Bool (test y)) [
        | inl first ↦ rw first (later_in y (filter test ys) x (test_in test ys x later passes))
        | inr other ↦ rw other (test_in test ys x later passes)
      ]
    ]

-- where a cover drives the net, it is kept and has no latch
abbrev pub IsSeen : PlainNetlist → ℕ → Type 0
IsSeen netlist net = (cover : PlainCover) → Contains netlist.covers cover → cover.output ≡ net → (is_kept netlist cover ≡ true) × (pair netlist cover ≡ None)

-- what is read keeps a cover
kept_if : (netlist : PlainNetlist) (cover : PlainCover) → Contains (read netlist) cover.output → is_kept netlist cover ≡ true
kept_if netlist cover here = number_any (read netlist) cover.output here

-- one reader, and no output
alone_parts : (netlist : PlainNetlist) (net : ℕ) → is_alone netlist net ≡ true → (times net (inner_reads netlist) ≡ 1) × (times net netlist.outputs ≡ 0)
alone_parts netlist net alone =
    let parts = parts_true (nat_eq (times net (inner_reads netlist)) 1) (nat_eq (times net netlist.outputs) 0) alone in
    (eqb-true (times net (inner_reads netlist)) 1 parts.0, eqb-true (times net netlist.outputs) 0 parts.1)

-- a net that is not alone is in no pair
unpaired : (netlist : PlainNetlist) (cover : PlainCover) → (is_alone netlist cover.output ≡ true → place_of cover.output (latch_inputs netlist) ≡ None) → pair netlist cover ≡ None
unpaired netlist cover none =
    elim (cases_Bool (is_alone netlist cover.output)) [
      | inl alone ↦ rw alone (none alone)
      | inr other ↦ rw other refl
    ]

-- readers by their kind
inner_parts : (netlist : PlainNetlist) (net : ℕ) → times net (inner_reads netlist) ≡ times net (flat_map (λ (cover : PlainCover). cover.inputs) netlist.covers) + times net (latch_inputs netlist)
inner_parts netlist net = times_joined net (flat_map (λ (cover : PlainCover). cover.inputs) netlist.covers) (latch_inputs netlist)

-- what a cover reads is seen
pub cover_input_seen : (netlist : PlainNetlist) (reader : PlainCover) (net : ℕ) → Contains netlist.covers reader → Contains reader.inputs net → IsSeen netlist net
cover_input_seen netlist reader net here reads cover member same =
    let all = flat_map (λ (z : PlainCover). z.inputs) netlist.covers in
    let there : Contains all cover.output = in_flat (λ (z : PlainCover). z.inputs) netlist.covers reader cover.output here (subst (λ (z : ℕ). Contains reader.inputs z) (sym same) reads) in (
      kept_if netlist cover (in_left all (latch_inputs netlist ++ netlist.outputs) cover.output there),
      unpaired netlist cover (λ alone.
          elim (nowhere_or_first cover.output (latch_inputs netlist)) [
            | inl none ↦ none.0
            | inr at ↦ absurd (omega (
              arith,
              (alone_parts netlist cover.output alone).0,
              inner_parts netlist cover.output,
              member_counts cover.output all there,
              member_counts cover.output (latch_inputs netlist) (at_in (latch_inputs netlist) at.0 cover.output at.2),
            ))
          ]),
    )

-- outputs are seen
pub output_seen : (netlist : PlainNetlist) (net : ℕ) → Contains netlist.outputs net → IsSeen netlist net
output_seen netlist net here cover member same =
    let there : Contains netlist.outputs cover.output = subst (λ (z : ℕ). Contains netlist.outputs z) (sym same) here in (
      kept_if netlist cover (in_right (flat_map (λ (z : PlainCover). z.inputs) netlist.covers) (latch_inputs netlist ++ netlist.outputs) cover.output (in_right (latch_inputs netlist) netlist.outputs cover.output there)),
      unpaired netlist cover (λ alone. absurd (omega (arith, (alone_parts netlist cover.output alone).1, member_counts cover.output netlist.outputs there))),
    )

-- the output of a cover has a place among such outputs
driven_found : (netlist : PlainNetlist) (net : ℕ) → Contains (cover_outputs netlist.covers) net → is_some (place_of net (cover_outputs netlist.covers)) ≡ true
driven_found netlist net here =
    elim (nowhere_or_first net (cover_outputs netlist.covers)) [
      | inl none ↦ absurd (omega (arith, none.1, member_counts net (cover_outputs netlist.covers) here))
      | inr at ↦ ap is_some at.1
    ]

-- what a latch without a pair takes is seen
pub other_seen : (netlist : PlainNetlist) (latch : Latch) → Contains netlist.latches latch → is_paired netlist latch ≡ false → IsSeen netlist latch.input
other_seen netlist latch here lone cover member same =
    let there : Contains (latch_inputs netlist) cover.output = subst (λ (z : ℕ). Contains (latch_inputs netlist) z) (sym same) (mapped_in (λ (z : Latch). z.input) netlist.latches latch here) in
    let drives : Contains (cover_outputs netlist.covers) latch.input = subst (λ (z : ℕ). Contains (cover_outputs netlist.covers) z) same (mapped_in (λ (z : PlainCover). z.output) netlist.covers cover member) in (
      kept_if netlist cover (in_right (flat_map (λ (z : PlainCover). z.inputs) netlist.covers) (latch_inputs netlist ++ netlist.outputs) cover.output (in_left (latch_inputs netlist) netlist.outputs cover.output there)),
      unpaired netlist cover (λ alone.
          absurd (false≢true (sym lone ∙ both_true (is_alone netlist latch.input) (is_some (place_of latch.input (cover_outputs netlist.covers))) (ap (is_alone netlist) (sym same) ∙ alone) (driven_found netlist latch.input drives)))),
    )

-- the numbers of latches without a pair
others_at : (netlist : PlainNetlist) (start : ℕ) (latches : List Latch) (place : ℕ) → Contains (others netlist start latches) place → (turn : ℕ) × (latch : Latch) × (place ≡ start + turn) × IsAt latches turn latch × (is_paired netlist latch ≡ false)
others_at netlist start [] place here = absurd (in_none place here)
others_at netlist start (latch ∷ latches) place here =
    elim (cases_Bool (is_paired netlist latch)) [
      | inl paired ↦ (
          let there : Contains (others netlist (suc start) latches) place = rw paired at here in
          let rest = others_at netlist (suc start) latches place there in
          (suc rest.0, rest.1, omega (arith, rest.2), (omega (arith, rest.3.0), rest.3.1), rest.4))
      | inr lone ↦ (
          let there : Contains (start ∷ others netlist (suc start) latches) place = rw lone at here in
          elim (first_or_later start (others netlist (suc start) latches) place there) [
            | inl same ↦ (0, latch, omega (arith, same), (omega arith, refl), lone)
            | inr later ↦ (let rest = others_at netlist (suc start) latches place later in (suc rest.0, rest.1, omega (arith, rest.2), (omega (arith, rest.3.0), rest.3.1), rest.4))
          ])
    ]

-- each of them stands there
other_in : (netlist : PlainNetlist) (start : ℕ) (latches : List Latch) (turn : ℕ) (latch : Latch) → IsAt latches turn latch → is_paired netlist latch ≡ false → Contains (others netlist start latches) (start + turn)
other_in netlist start [] turn latch at lone = absurd (omega (arith, at.0))
other_in netlist start (first ∷ latches) zero latch at lone =
    let also : is_paired netlist first ≡ false = ap (is_paired netlist) at.1 ∙ lone in
    rw also (first_in start (others netlist (suc start) latches) (start + 0) (omega arith))
other_in netlist start (first ∷ latches) (suc turn) latch at lone =
    let rest : Contains (others netlist (suc start) latches) (suc start + turn) = other_in netlist (suc start) latches turn latch (omega (arith, at.0), at.1) lone in
    let sum : suc start + turn ≡ start + suc turn = omega arith in
    let there : Contains (others netlist (suc start) latches) (start + suc turn) = subst (λ (z : ℕ). Contains (others netlist (suc start) latches) z) sum rest in
    elim (cases_Bool (is_paired netlist first)) [
      | inl paired ↦ rw paired there
      | inr other ↦ rw other (later_in start (others netlist (suc start) latches) (start + suc turn) there)
    ]

-- what each cell is made of
abbrev pub IsWork : PlainNetlist → Work → Type 0
IsWork netlist (of_cover cover latch) = Contains netlist.covers cover × (pair netlist cover ≡ latch)
IsWork netlist (of_latch place) = (latch : Latch) × IsAt netlist.latches place latch × (is_paired netlist latch ≡ false)

-- the cells of covers
abbrev cover_works : PlainNetlist → List Work
cover_works netlist = map (λ cover. of_cover cover (pair netlist cover)) (filter (is_kept netlist) netlist.covers)

-- the cells of latches alone
abbrev latch_works : PlainNetlist → List Work
latch_works netlist = map of_latch (others netlist 0 netlist.latches)

-- each cell is made so
pub is_work : (netlist : PlainNetlist) (work : Work) → Contains (works netlist) work → IsWork netlist work
is_work netlist work here =
    elim (Contains-append_cases (cover_works netlist) (latch_works netlist) work here) [
      | inl covers ↦ (
          let from = from_mapped (λ cover. of_cover cover (pair netlist cover)) (filter (is_kept netlist) netlist.covers) work covers in
          subst (IsWork netlist) from.2 (filtered_in (is_kept netlist) netlist.covers from.0 from.1, refl))
      | inr latches ↦ (
          let from = from_mapped of_latch (others netlist 0 netlist.latches) work latches in
          let at = others_at netlist 0 netlist.latches from.0 from.1 in
          let place : at.0 ≡ from.0 = omega (arith, at.2) in
          subst (IsWork netlist) from.2 (at.1, subst (λ (z : ℕ). IsAt netlist.latches z at.1) place at.3, at.4))
    ]

-- each cover that is kept has a cell
pub cover_work : (netlist : PlainNetlist) (cover : PlainCover) → Contains netlist.covers cover → is_kept netlist cover ≡ true → Contains (works netlist) (of_cover cover (pair netlist cover))
cover_work netlist cover here keeps =
    in_left (cover_works netlist) (latch_works netlist) (of_cover cover (pair netlist cover))
    (mapped_in (λ z. of_cover z (pair netlist z)) (filter (is_kept netlist) netlist.covers) cover (test_in (is_kept netlist) netlist.covers cover here keeps))

-- each latch without a pair has a cell
other_work : (netlist : PlainNetlist) (place : ℕ) (latch : Latch) → IsAt netlist.latches place latch → is_paired netlist latch ≡ false → Contains (works netlist) (of_latch place)
other_work netlist place latch at lone =
    in_right (cover_works netlist) (latch_works netlist) (of_latch place)
    (mapped_in of_latch (others netlist 0 netlist.latches) place (subst (λ (z : ℕ). Contains (others netlist 0 netlist.latches) z) (let sum : 0 + place ≡ place = omega arith in sum) (other_in netlist 0 netlist.latches place latch at lone)))

-- the cover of a pair
paired_parts : (netlist : PlainNetlist) (latch : Latch) → is_paired netlist latch ≡ true → (is_alone netlist latch.input ≡ true) × ((cover : PlainCover) × Contains netlist.covers cover × (cover.output ≡ latch.input))
paired_parts netlist latch paired =
    let parts = parts_true (is_alone netlist latch.input) (is_some (place_of latch.input (cover_outputs netlist.covers))) paired in (
      parts.0,
      elim (nowhere_or_first latch.input (cover_outputs netlist.covers)) [
        | inl none ↦ absurd (false≢true (sym (ap is_some none.0) ∙ parts.1))
        | inr at ↦ from_mapped (λ (z : PlainCover). z.output) netlist.covers latch.input (at_in (cover_outputs netlist.covers) at.0 latch.input at.2)
      ],
    )

-- each latch has a cell
pub latch_work : (netlist : PlainNetlist) (place : ℕ) (latch : Latch) → IsAt netlist.latches place latch → (work : Work) × Contains (works netlist) work × (latch_of work ≡ Some place)
latch_work netlist place latch at =
    elim (cases_Bool (is_paired netlist latch)) [
      | inr lone ↦ (of_latch place, other_work netlist place latch at lone, refl)
      | inl paired ↦ (
          let parts = paired_parts netlist latch paired in
          let cover = parts.1.0 in
          let same : cover.output ≡ latch.input = parts.1.2 in
          let here : IsAt (latch_inputs netlist) place cover.output = subst (λ (z : ℕ). IsAt (latch_inputs netlist) place z) (sym same) (at_mapped (λ (z : Latch). z.input) netlist.latches place latch at) in
          let member : Contains (latch_inputs netlist) cover.output = at_in (latch_inputs netlist) place cover.output here in
          let alone : is_alone netlist cover.output ≡ true = ap (is_alone netlist) same ∙ parts.0 in
          let keeps = kept_if netlist cover (in_right (flat_map (λ (z : PlainCover). z.inputs) netlist.covers) (latch_inputs netlist ++ netlist.outputs) cover.output (in_left (latch_inputs netlist) netlist.outputs cover.output member)) in
          let found : pair netlist cover ≡ Some place = elim (nowhere_or_first cover.output (latch_inputs netlist)) [
            | inl none ↦ absurd (omega (arith, none.1, member_counts cover.output (latch_inputs netlist) member))
            | inr first ↦ (
                let one : times cover.output (latch_inputs netlist) ≤ 1 = omega (arith, (alone_parts netlist cover.output alone).0, inner_parts netlist cover.output) in
                rw alone (first.1 ∙ ap Some (one_place cover.output (latch_inputs netlist) first.0 place one first.2 here)))
          ] in
          (of_cover cover (pair netlist cover), cover_work netlist cover parts.1.1 keeps, found))
    ]

-- the latch of a pair takes the cover's output
pub pair_at : (netlist : PlainNetlist) (cover : PlainCover) (place : ℕ) → pair netlist cover ≡ Some place → IsAt (latch_inputs netlist) place cover.output
pair_at netlist cover place found =
    elim (cases_Bool (is_alone netlist cover.output)) [
      | inr other ↦ absurd (let bad : None ≡ Some place = rw other at found in let worse : ⊥ = cc in worse)
      | inl alone ↦ (
          let first : place_of cover.output (latch_inputs netlist) ≡ Some place = rw alone at found in
          elim (nowhere_or_first cover.output (latch_inputs netlist)) [
            | inl none ↦ absurd (let bad : None ≡ Some place = sym none.0 ∙ first in let worse : ⊥ = cc in worse)
            | inr at ↦ (
                let both : Some at.0 ≡ Some place = sym at.1 ∙ first in
                let same : at.0 ≡ place = cc in
                subst (λ (z : ℕ). IsAt (latch_inputs netlist) z cover.output) same at.2)
          ])
    ]
