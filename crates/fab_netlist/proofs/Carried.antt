-- The packed netlist means what the netlist means.
use Rattle.std.proofs.Common.{◌≡◌, ◌⊎◌, ℕ, zero, suc, ◌<◌, Bool, true, false, List, [], ◌∷◌, length, get_or, map, Contains, Option, Some, None, refl, sym, ap, ◌∙◌, subst, inl, inr, arith}
use Rattle.std.proofs.lemmas.List.{length-map}
use Rattle.fab_bits.specs.Bits.{number}
use Rattle.fab_netlist.specs.declared.netlist.Latch.{Latch}
use Rattle.fab_netlist.specs.declared.net_id.NetId.{NetId}
use Rattle.fab_netlist.specs.declared.net_id.NetId.TheVariants as ids
use Rattle.fab_netlist.specs.Plain.{PlainCover, PlainNetlist, IsAt, name_of}
use Rattle.fab_netlist.specs.WellMade.{IsWired, times, cover_outputs, latch_outputs, latch_inputs, driven, table_bit}
use Rattle.fab_netlist.specs.Meaning.{Meets}
use Rattle.fab_netlist.specs.Packed.{PlainCell}
use Rattle.fab_netlist.specs.Packing.{Work, of_cover, of_latch, no_latch, latch_at, works, latch_of, output_of, net_of, cell_of, packed, computes, held_or, Carries, ShowsAs, PackingKeepsMeaning}
use Rattle.fab_netlist.proofs.Members.{at_in, mapped_in}
use Rattle.fab_netlist.proofs.Counts.{driven_parts, member_counts, nowhere_or_at, at_mapped}
use Rattle.fab_netlist.proofs.Ranks.{no_cycle_rank}
use Rattle.fab_netlist.proofs.Settling.{same_inputs}
use Rattle.fab_netlist.proofs.Levels.{level, levels_fall}
use Rattle.fab_netlist.proofs.Meaning.{covers_once}
use Rattle.fab_netlist.proofs.Packs.{map_twice, from_mapped}
use Rattle.fab_netlist.proofs.Wired.{wired}
use Rattle.fab_netlist.proofs.Works.{nowhere_or_first, IsSeen, cover_input_seen, output_seen, other_seen, IsWork, is_work, cover_work, latch_work, pair_at}

-- what an item at a place of a mapped list comes from
at_from : {X Y : Type 0} (f : X → Y) (xs : List X) (place : ℕ) (y : Y) → IsAt (map f xs) place y → (x : X) × IsAt xs place x × (f x ≡ y)
at_from f [] place y at = absurd (omega (arith, at.0))
at_from f (x ∷ xs) zero y at = (x, (omega arith, refl), at.1)
at_from f (x ∷ xs) (suc place) y at = let rest = at_from f xs place y (omega (arith, at.0), at.1) in (rest.0, (omega (arith, rest.1.0), rest.1.1), rest.2)

-- one item stands at a place
at_one : {X : Type 0} (xs : List X) (place : ℕ) (x y : X) → IsAt xs place x → IsAt xs place y → x ≡ y
at_one [] place x y first second = absurd (omega (arith, first.0))
at_one (z ∷ zs) zero x y first second = sym first.1 ∙ second.1
at_one (z ∷ zs) (suc place) x y first second = at_one zs place x y (omega (arith, first.0), first.1) (omega (arith, second.0), second.1)

-- what is read there stands there
at_read : {X : Type 0} (xs : List X) (place : ℕ) (d : X) → place < length xs → IsAt xs place (get_or xs place d)
at_read [] place d small = absurd (omega arith)
at_read (x ∷ xs) zero d small = (omega arith, refl)
at_read (x ∷ xs) (suc place) d small = let rest = at_read xs place d (omega arith) in (omega (arith, rest.0), rest.1)

-- what stands there is read
read_at : {X : Type 0} (xs : List X) (place : ℕ) (x d : X) → IsAt xs place x → get_or xs place d ≡ x
read_at xs place x d at = at_one xs place (get_or xs place d) x (at_read xs place d at.0) at

-- a table that passes on its one input
pass_on : (bit : Bool) → table_bit 43690 (number (bit ∷ [])) ≡ bit
pass_on true = refl
pass_on false = refl

module _ (netlist : PlainNetlist) (wiring : IsWired netlist) where
  -- the nets of the cells
  abbrev nets : List ℕ
  nets = map (output_of netlist) (works netlist)

  -- a latch's net is that of its cell
  latch_drives : (place net : ℕ) (work : Work) → IsAt (latch_outputs netlist) place net → latch_of work ≡ Some place → output_of netlist work ≡ net
  latch_drives place net work at is =
      let from = at_from (λ (z : Latch). z.output) netlist.latches place net at in
      let there : (latch_at netlist place).output ≡ net = ap (λ (z : Latch). z.output) (read_at netlist.latches place from.0 no_latch from.1) ∙ from.2 in
      by_work work is ∙ there
    where
      -- by what the cell is made of
      by_work : (work : Work) → latch_of work ≡ Some place → output_of netlist work ≡ (latch_at netlist place).output
      by_work (of_cover cover None) is = absurd (let bad : None ≡ Some place = is in let worse : ⊥ = cc in worse)
      by_work (of_cover cover (Some other)) is = let same : other ≡ place = cc in ap (λ z. (latch_at netlist z).output) same
      by_work (of_latch other) is = let same : other ≡ place = cc in ap (λ z. (latch_at netlist z).output) same

  -- a net that is seen is an input, that of a cell, or one that nothing drives
  kinds : (net : ℕ) → IsSeen netlist net →
      ((place : ℕ) × (net_of netlist net ≡ ids.In place) × IsAt netlist.inputs place net)
      ⊎ (((place : ℕ) × (work : Work) × (net_of netlist net ≡ ids.Cell place) × IsAt (works netlist) place work × (output_of netlist work ≡ net)) ⊎ ((net_of netlist net ≡ ids.Zero) × (times net (driven netlist) ≡ 0)))
  kinds net seen =
      elim (nowhere_or_first net netlist.inputs) [
        | inr input ↦ inl (input.0, (rw input.1 refl), input.2)
        | inl no_input ↦ inr (elim (nowhere_or_first net nets) [
          | inr cell ↦ (
              let work = at_from (output_of netlist) (works netlist) cell.0 net cell.2 in
              inl (cell.0, work.0, (rw (no_input.0, cell.1) refl), work.1, work.2))
          | inl no_cell ↦ (
              let no_work : (work : Work) → Contains (works netlist) work → output_of netlist work ≡ net → ⊥ = λ work here drives.
              omega (arith, no_cell.1, member_counts net nets (subst (λ (z : ℕ). Contains nets z) drives (mapped_in (output_of netlist) (works netlist) work here))) in
              let latch : times net (latch_outputs netlist) ≡ 0 = elim (nowhere_or_at net (latch_outputs netlist)) [
                | inl none ↦ none
                | inr at ↦ absurd (
                    let from = at_from (λ (z : Latch). z.output) netlist.latches at.0 net at.1 in
                    let work = latch_work netlist at.0 from.0 from.1 in
                    no_work work.0 work.1 (latch_drives at.0 net work.0 at.1 work.2))
              ] in
              let cover : times net (cover_outputs netlist.covers) ≡ 0 = elim (nowhere_or_at net (cover_outputs netlist.covers)) [
                | inl none ↦ none
                | inr at ↦ absurd (
                    let from = from_mapped (λ (z : PlainCover). z.output) netlist.covers net (at_in (cover_outputs netlist.covers) at.0 net at.1) in
                    let both = seen from.0 from.1 from.2 in
                    let here : Contains (works netlist) (of_cover from.0 None) = subst (λ (z : Option ℕ). Contains (works netlist) (of_cover from.0 z)) both.1 (cover_work netlist from.0 from.1 both.0) in
                    no_work (of_cover from.0 None) here from.2)
              ] in
              inr ((rw (no_input.0, no_cell.0) refl), omega (arith, latch, cover, no_input.1, driven_parts netlist net)))
        ])
      ]

  module _ (given held now : ℕ → Bool) (meets : Meets netlist given held now) where
    -- a latch's net has the held value
    latch_now : (place : ℕ) → place < length netlist.latches → now (latch_at netlist place).output ≡ held place
    latch_now place small = meets.latches place (latch_at netlist place).output (at_mapped (λ (z : Latch). z.output) netlist.latches place (latch_at netlist place) (at_read netlist.latches place no_latch small))

    module _ (values : NetId → Bool) (zero_is : values ids.Zero ≡ false) (inputs_are : (place : ℕ) → place < length netlist.inputs → values (ids.In place) ≡ given place) where
      -- the value of a net that is seen
      seen_value : (net : ℕ) → IsSeen netlist net → ((place : ℕ) (work : Work) → IsAt (works netlist) place work → output_of netlist work ≡ net → values (ids.Cell place) ≡ now net) → values (net_of netlist net) ≡ now net
      seen_value net seen cells =
          elim (kinds net seen) [
            | inl input ↦ ap values input.1 ∙ inputs_are input.0 input.2.0 ∙ sym (meets.inputs input.0 net input.2)
            | inr (inl cell) ↦ ap values cell.2 ∙ cells cell.0 cell.1 cell.3 cell.4
            | inr (inr none) ↦ ap values none.0 ∙ zero_is ∙ sym (meets.others net none.1)
          ]

      -- what a cover's cell computes where its inputs have their values
      cover_computes : (cover : PlainCover) (latch : Option ℕ) → Contains netlist.covers cover → ((net : ℕ) → Contains cover.inputs net → values (net_of netlist net) ≡ now net) → computes (cell_of netlist (of_cover cover latch)) values ≡ now cover.output
      cover_computes cover latch here inputs =
          ap (λ bits. table_bit cover.table (number bits)) (map_twice values (net_of netlist) cover.inputs ∙ same_inputs (λ net. values (net_of netlist net)) now cover.inputs inputs)
          ∙ sym (meets.covers cover here)

      -- the value of a cell's net
      cell_value : (work : Work) → IsWork netlist work → ((cover : PlainCover) → work ≡ of_cover cover None → (net : ℕ) → Contains cover.inputs net → values (net_of netlist net) ≡ now net) →
          held_or (latch_of work) held (computes (cell_of netlist work) values) ≡ now (output_of netlist work)
      cell_value (of_cover cover None) is inputs = cover_computes cover None is.0 (inputs cover refl)
      cell_value (of_cover cover (Some place)) is inputs =
          let at : IsAt (latch_inputs netlist) place cover.output = pair_at netlist cover place is.1 in
          sym (latch_now place (omega (arith, at.0, length-map netlist.latches (λ (z : Latch). z.input))))
      cell_value (of_latch place) is inputs = sym (latch_now place is.1.0)

      -- what a cell's latch takes next
      next_value : (work : Work) (latch net : ℕ) → IsWork netlist work → latch_of work ≡ Some latch → IsAt (latch_inputs netlist) latch net → ((other : ℕ) → IsSeen netlist other → values (net_of netlist other) ≡ now other) →
          computes (cell_of netlist work) values ≡ now net
      next_value (of_cover cover None) latch net is has at value = absurd (let bad : None ≡ Some latch = has in let worse : ⊥ = cc in worse)
      next_value (of_cover cover (Some place)) latch net is has at value =
          let same : place ≡ latch = cc in
          let there : IsAt (latch_inputs netlist) latch cover.output = subst (λ (z : ℕ). IsAt (latch_inputs netlist) z cover.output) same (pair_at netlist cover place is.1) in
          cover_computes cover (Some place) is.0 (λ other reads. value other (cover_input_seen netlist cover other is.0 reads)) ∙ ap now (at_one (latch_inputs netlist) latch cover.output net there at)
      next_value (of_latch place) latch net is has at value =
          let same : place ≡ latch = cc in
          let there : IsAt (latch_inputs netlist) place is.0.input = at_mapped (λ (z : Latch). z.input) netlist.latches place is.0 is.1 in
          let taken : (latch_at netlist place).input ≡ is.0.input = ap (λ (z : Latch). z.input) (read_at netlist.latches place is.0 no_latch is.1) in
          pass_on (values (net_of netlist (latch_at netlist place).input))
          ∙ ap (λ z. values (net_of netlist z)) taken
          ∙ value is.0.input (other_seen netlist is.0 (at_in netlist.latches place is.0 is.1) is.2)
          ∙ ap now (at_one (latch_inputs netlist) latch is.0.input net (subst (λ (z : ℕ). IsAt (latch_inputs netlist) z is.0.input) same there) at)

    module _ (rank : ℕ → ℕ) (falls : (reader source : PlainCover) → Contains netlist.covers reader → Contains netlist.covers source → Contains reader.inputs source.output → rank source.output < rank reader.output)
        (values : NetId → Bool) (carries : Carries netlist given held values) where
      -- what a cell's net carries
      cells_are : (place : ℕ) (work : Work) → IsAt (works netlist) place work → values (ids.Cell place) ≡ held_or (latch_of work) held (computes (cell_of netlist work) values)
      cells_are place work at = carries.cells place work (cell_of netlist work) at (at_mapped (cell_of netlist) (works netlist) place work at)

      -- by the rank of the cover that drives the net
      below : (most net : ℕ) → IsSeen netlist net → ((cover : PlainCover) → Contains netlist.covers cover → cover.output ≡ net → rank net < most) → values (net_of netlist net) ≡ now net
      below zero net seen low =
          seen_value values carries.zero carries.inputs net seen (λ place work at drives.
          cells_are place work at
          ∙ cell_value values carries.zero carries.inputs work (is_work netlist work (at_in (works netlist) place work at)) (λ cover is other reads.
          absurd (
          let cell : IsWork netlist (of_cover cover None) = subst (IsWork netlist) is (is_work netlist work (at_in (works netlist) place work at)) in
          let output : cover.output ≡ net = ap (output_of netlist) (sym is) ∙ drives in
          omega (arith, low cover cell.0 output)))
          ∙ ap now drives)
      below (suc most) net seen low =
          seen_value values carries.zero carries.inputs net seen (λ place work at drives.
          cells_are place work at
          ∙ cell_value values carries.zero carries.inputs work (is_work netlist work (at_in (works netlist) place work at)) (λ cover is other reads.
          let cell : IsWork netlist (of_cover cover None) = subst (IsWork netlist) is (is_work netlist work (at_in (works netlist) place work at)) in
          let output : cover.output ≡ net = ap (output_of netlist) (sym is) ∙ drives in
          below most other (cover_input_seen netlist cover other cell.0 reads) (λ source here same.
          let lower : rank source.output < rank cover.output = falls cover source cell.0 here (subst (λ (z : ℕ). Contains cover.inputs z) (sym same) reads) in
          omega (arith, lower, low cover cell.0 output, ap rank same, ap rank output)))
          ∙ ap now drives)

      -- each net that is seen has its value
      value : (net : ℕ) → IsSeen netlist net → values (net_of netlist net) ≡ now net
      value net seen = below (suc (rank net)) net seen (λ cover here same. omega arith)

      -- so each cell has the value of its net
      pub each_cell : (place : ℕ) (work : Work) → IsAt (works netlist) place work → values (ids.Cell place) ≡ now (output_of netlist work)
      each_cell place work at =
          let is = is_work netlist work (at_in (works netlist) place work at) in
          cells_are place work at
          ∙ cell_value values carries.zero carries.inputs work is (λ cover same other reads.
          let cell : IsWork netlist (of_cover cover None) = subst (IsWork netlist) same is in
          value other (cover_input_seen netlist cover other cell.0 reads))

      -- the packed netlist shows what the netlist does
      pub shows_as : ShowsAs netlist now values
      shows_as = record {
        outputs = λ place net name id at there.
            let expected : IsAt (packed netlist).outputs place (name_of netlist net, net_of netlist net) = at_mapped (λ z. (name_of netlist z, net_of netlist z)) netlist.outputs place net at in
            let same : (name, id) ≡ (name_of netlist net, net_of netlist net) = at_one (packed netlist).outputs place (name, id) (name_of netlist net, net_of netlist net) there expected in
            ap (λ (pair : List ℕ × NetId). values pair.1) same ∙ value net (output_seen netlist net (at_in netlist.outputs place net at));
        next = λ place latch net work cell at there has takes.
            let same : cell ≡ cell_of netlist work = at_one (packed netlist).cells place cell (cell_of netlist work) there (at_mapped (cell_of netlist) (works netlist) place work at) in
            ap (λ (z : PlainCell). computes z values) same
            ∙ next_value values carries.zero carries.inputs work latch net (is_work netlist work (at_in (works netlist) place work at)) has takes value;
        latches = λ latch small.
            let work = latch_work netlist latch (latch_at netlist latch) (at_read netlist.latches latch no_latch small) in
            (work.1.0, work.0, (work.1.1, work.1.2), work.2);
      }

    -- values of the packed nets, by the assignment
    abbrev pub chosen : NetId → Bool
    chosen ids.Zero = false
    chosen ids.One = true
    chosen (ids.In place) = given place
    chosen (ids.Cell place) = now (get_or nets place 0)

    -- the value of a cell
    chosen_cell : (place net : ℕ) (work : Work) → IsAt (works netlist) place work → output_of netlist work ≡ net → now (get_or nets place 0) ≡ now net
    chosen_cell place net work at drives = ap now (read_at nets place (output_of netlist work) 0 (at_mapped (output_of netlist) (works netlist) place work at) ∙ drives)

    -- they are values that the packed netlist has
    pub carries_chosen : Carries netlist given held chosen
    carries_chosen = record {
      zero = refl;
      one = refl;
      inputs = λ place small. refl;
      cells = λ place work cell at there.
          let is = is_work netlist work (at_in (works netlist) place work at) in
          let same : cell ≡ cell_of netlist work = at_one (packed netlist).cells place cell (cell_of netlist work) there (at_mapped (cell_of netlist) (works netlist) place work at) in
          chosen_cell place (output_of netlist work) work at refl
          ∙ sym (cell_value chosen refl (λ j small. refl) work is (λ cover made_of net reads.
          let made_so : IsWork netlist (of_cover cover None) = subst (IsWork netlist) made_of is in
          seen_value chosen refl (λ j small. refl) net (cover_input_seen netlist cover net made_so.0 reads) (λ other made_other at_other drives. chosen_cell other net made_other at_other drives)))
          ∙ ap (λ (z : PlainCell). held_or (latch_of work) held (computes z chosen)) (sym same);
    }

-- packing keeps the meaning
pub keeps_meaning : PackingKeepsMeaning
keeps_meaning netlist made none given held now meets =
    let ranked = no_cycle_rank netlist none in
    let rank = level netlist (covers_once netlist (wired made)) ranked.0 ranked.1 in
    let falls = levels_fall netlist (covers_once netlist (wired made)) ranked.0 ranked.1 in (
      (chosen netlist (wired made) given held now meets, carries_chosen netlist (wired made) given held now meets),
      (λ values carries. shows_as netlist (wired made) given held now meets rank falls values carries),
      (λ first second carries_first carries_second place small.
          let first_work : Work = get_or (works netlist) place (of_latch 0) in
          let at : IsAt (works netlist) place first_work = at_read (works netlist) place (of_latch 0) small in
          each_cell netlist (wired made) given held now meets rank falls first carries_first place first_work at
          ∙ sym (each_cell netlist (wired made) given held now meets rank falls second carries_second place first_work at)),
    )
