-- A netlist without a cycle of covers has one assignment for each vector.
use Rattle.std.proofs.Common.{◌≡◌, ℕ, zero, suc, ◌+◌, ◌<◌, ◌≤◌, Bool, true, false, List, [], ◌∷◌, ◌++◌, map, length, set, replicate, Contains, nat_eq, refl, sym, ap, ◌∙◌, subst, inl, inr, arith, eq-eqb}
use Rattle.std.proofs.lemmas.List.{length-set, get_or-set_same, get_or-set_other, get_or_default, length-replicate, length-map}
use Rattle.fab_bits.specs.Bits.{first_bits}
use Rattle.fab_netlist.specs.Plain.{PlainCover, PlainNetlist, IsAt, bit_at, cover_at, no_cover}
use Rattle.fab_netlist.specs.WellMade.{times, cover_outputs, latch_outputs, driven, IsWired}
use Rattle.fab_netlist.specs.Meaning.{Meets, HasOneMeaning}
use Rattle.fab_netlist.specs.Cycles.{HasNoCycle}
use Rattle.fab_netlist.specs.inner.Order.{IsOrder}
use Rattle.fab_netlist.specs.inner.Passes.{placed, start, settled}
use Rattle.fab_netlist.proofs.Members.{first_in, later_in, at_in, mapped_in, in_left, in_right}
use Rattle.fab_netlist.proofs.Counts.{driven_parts, member_counts, nowhere_or_at}
use Rattle.fab_netlist.proofs.Ranks.{no_cycle_rank}
use Rattle.fab_netlist.proofs.Orders.{no_cycle_order}
use Rattle.fab_netlist.proofs.Settling.{Holds, same_value, asked_settle, asked_other, none_settled}
use Rattle.fab_netlist.proofs.Levels.{level, levels_fall, level_small}

-- placing bits keeps the length
pub placed_length : (nets : List ℕ) (bits values : List Bool) → length (placed nets bits values) ≡ length values
placed_length [] bits values = refl
placed_length (net ∷ nets) [] values = refl
placed_length (net ∷ nets) (bit ∷ bits) values = placed_length nets bits (set values net bit) ∙ length-set values net bit

-- other nets keep their values
placed_other : (nets : List ℕ) (bits values : List Bool) (net : ℕ) → times net nets ≡ 0 → bit_at (placed nets bits values) net ≡ bit_at values net
placed_other [] bits values net none = refl
placed_other (first ∷ nets) [] values net none = refl
placed_other (first ∷ nets) (bit ∷ bits) values net none =
    placed_other nets bits (set values first bit) net (omega (arith, none))
    ∙ get_or-set_other values first net bit false (λ same. omega (arith, none, member_counts net (first ∷ nets) (first_in first nets net (sym same))))

-- a net that stands once stands nowhere behind its first place
counted_first : (first : ℕ) (nets : List ℕ) (net : ℕ) → first ≡ net → times net (first ∷ nets) ≤ 1 → 1 + times net nets ≤ 1
counted_first first nets net same once =
    let equal : nat_eq first net ≡ true = eq-eqb first net same in
    let more : times net (first ∷ nets) ≡ 1 + times net nets = rw equal refl in
    omega (arith, more, once)

-- a net takes the bit of its place
placed_at : (nets : List ℕ) (bits values : List Bool) (place net : ℕ) → times net nets ≤ 1 → length bits ≡ length nets → net < length values → IsAt nets place net → bit_at (placed nets bits values) net ≡ bit_at bits place
placed_at [] bits values place net once lengths small at = absurd (omega (arith, at.0))
placed_at (first ∷ nets) [] values place net once lengths small at = absurd (omega (arith, lengths))
placed_at (first ∷ nets) (bit ∷ bits) values zero net once lengths small at =
    let counts : 1 + times net nets ≤ 1 = counted_first first nets net at.1 once in
    placed_other nets bits (set values first bit) net (omega (arith, counts))
    ∙ ap (λ other. bit_at (set values first bit) other) (sym at.1)
    ∙ get_or-set_same values first bit false (omega (arith, at.1, small))
placed_at (first ∷ nets) (bit ∷ bits) values (suc place) net once lengths small at =
    placed_at nets bits (set values first bit) place net (omega (arith, once)) (omega (arith, lengths)) (omega (arith, small, length-set values first bit)) (omega (arith, at.0), at.1)

-- zeros are 0 everywhere
zeros_at : (count net : ℕ) → bit_at (replicate count false) net ≡ false
zeros_at zero net = refl
zeros_at (suc count) zero = refl
zeros_at (suc count) (suc net) = zeros_at count net

-- an item of a mapped list comes from one of the list
from_mapped : {X Y : Type 0} (f : X → Y) (xs : List X) (place : ℕ) (y : Y) → IsAt (map f xs) place y → (x : X) × Contains xs x × (f x ≡ y)
from_mapped f [] place y at = absurd (omega (arith, at.0))
from_mapped f (x ∷ xs) zero y at = (x, first_in x xs x refl, at.1)
from_mapped f (x ∷ xs) (suc place) y at =
    let rest = from_mapped f xs place y (omega (arith, at.0), at.1) in
    (rest.0, later_in x xs rest.0 rest.1, rest.2)

-- there are as many first bits as asked for
first_length : (count : ℕ) (f : ℕ → Bool) → length (first_bits count f) ≡ count
first_length zero f = refl
first_length (suc count) f = ap suc (first_length count (λ place. f (suc place)))

-- they are the bits of the function
bit_of_first : (count : ℕ) (f : ℕ → Bool) (place : ℕ) → place < count → bit_at (first_bits count f) place ≡ f place
bit_of_first zero f place small = absurd (omega arith)
bit_of_first (suc count) f zero small = refl
bit_of_first (suc count) f (suc place) small = bit_of_first count (λ later. f (suc later)) place (omega arith)

module _ (netlist : PlainNetlist) (wiring : IsWired netlist) where
  -- no two covers drive one net
  pub covers_once : (net : ℕ) → times net (cover_outputs netlist.covers) ≤ 1
  covers_once net = omega (arith, wiring.driven_once net, driven_parts netlist net)

  -- outputs of covers are nets
  pub output_small : (cover : PlainCover) → Contains netlist.covers cover → cover.output < length netlist.nets
  output_small cover here =
      wiring.driven_below cover.output (in_left (cover_outputs netlist.covers) (latch_outputs netlist ++ netlist.inputs) cover.output (mapped_in (λ (z : PlainCover). z.output) netlist.covers cover here))

  -- outputs of latches are nets
  pub latch_small : (net : ℕ) → Contains (latch_outputs netlist) net → net < length netlist.nets
  latch_small net here =
      wiring.driven_below net (in_right (cover_outputs netlist.covers) (latch_outputs netlist ++ netlist.inputs) net (in_left (latch_outputs netlist) netlist.inputs net here))

  -- inputs are nets
  pub input_small : (net : ℕ) → Contains netlist.inputs net → net < length netlist.nets
  input_small net here =
      wiring.driven_below net (in_right (cover_outputs netlist.covers) (latch_outputs netlist ++ netlist.inputs) net (in_right (latch_outputs netlist) netlist.inputs net here))

  -- there is a value for each net
  pub start_length : (given held : List Bool) → length (start netlist given held) ≡ length netlist.nets
  start_length given held =
      placed_length (latch_outputs netlist) held (placed netlist.inputs given (replicate (length netlist.nets) false))
      ∙ placed_length netlist.inputs given (replicate (length netlist.nets) false)
      ∙ length-replicate (length netlist.nets) false

  -- a cover at a place
  cover_is : (cover : PlainCover) (here : Contains netlist.covers cover) → cover_at netlist here.0 ≡ cover
  cover_is cover here = get_or_default netlist.covers here.0 no_cover cover here.1 ∙ here.2

  -- what covers that are asked in an order leave is an assignment that the netlist has
  pub settled_meets : (order : List ℕ) → IsOrder netlist order → (given held : List Bool) → length given ≡ length netlist.inputs → length held ≡ length netlist.latches → Meets netlist (bit_at given) (bit_at held) (bit_at (settled netlist order given held))
  settled_meets order orders given held given_length held_length =
      let zeros : List Bool = replicate (length netlist.nets) false in
      let first : List Bool = placed netlist.inputs given zeros in
      let begun : List Bool = start netlist given held in
      let still : (net : ℕ) → times net (cover_outputs netlist.covers) ≡ 0 → bit_at (settled netlist order given held) net ≡ bit_at begun net =
      λ net apart. asked_other netlist covers_once [] order begun net orders.behind apart in
      record {
        covers = λ cover here.
            subst (λ (one : PlainCover). Holds (settled netlist order given held) one) (cover_is cover here)
            (asked_settle netlist covers_once [] order begun (λ place small. omega (arith, output_small (cover_at netlist place) (place, small, get_or_default netlist.covers place (cover_at netlist place) no_cover small), start_length given held))
            orders.behind (none_settled netlist covers_once begun) here.0 (inr (orders.all here.0 here.1)));
        latches = λ place net at.
            let counts : 1 ≤ times net (latch_outputs netlist) = member_counts net (latch_outputs netlist) (at_in (latch_outputs netlist) place net at) in
            still net (omega (arith, counts, wiring.driven_once net, driven_parts netlist net))
            ∙ placed_at (latch_outputs netlist) held first place net (omega (arith, wiring.driven_once net, driven_parts netlist net))
            (held_length ∙ sym (length-map netlist.latches (λ latch. latch.output)))
            (omega (arith, latch_small net (at_in (latch_outputs netlist) place net at), placed_length netlist.inputs given zeros, length-replicate (length netlist.nets) false)) at;
        inputs = λ place net at.
            let counts : 1 ≤ times net netlist.inputs = member_counts net netlist.inputs (at_in netlist.inputs place net at) in
            still net (omega (arith, counts, wiring.driven_once net, driven_parts netlist net))
            ∙ placed_other (latch_outputs netlist) held first net (omega (arith, counts, wiring.driven_once net, driven_parts netlist net))
            ∙ placed_at netlist.inputs given zeros place net (omega (arith, wiring.driven_once net, driven_parts netlist net)) given_length
            (omega (arith, input_small net (at_in netlist.inputs place net at), length-replicate (length netlist.nets) false)) at;
        others = λ net apart.
            still net (omega (arith, apart, driven_parts netlist net))
            ∙ placed_other (latch_outputs netlist) held first net (omega (arith, apart, driven_parts netlist net))
            ∙ placed_other netlist.inputs given zeros net (omega (arith, apart, driven_parts netlist net))
            ∙ zeros_at (length netlist.nets) net;
      }

  module _ (none : HasNoCycle netlist) where
    module _ (given held a b : ℕ → Bool) (meets_a : Meets netlist given held a) (meets_b : Meets netlist given held b) where
      -- two assignments agree where no cover drives
      agree_apart : (net : ℕ) → times net (cover_outputs netlist.covers) ≡ 0 → a net ≡ b net
      agree_apart net apart =
          elim (nowhere_or_at net (latch_outputs netlist)) [
            | inr latch ↦ meets_a.latches latch.0 net latch.1 ∙ sym (meets_b.latches latch.0 net latch.1)
            | inl no_latch ↦ elim (nowhere_or_at net netlist.inputs) [
              | inr input ↦ meets_a.inputs input.0 net input.1 ∙ sym (meets_b.inputs input.0 net input.1)
              | inl no_input ↦ (
                  let alone : times net (driven netlist) ≡ 0 = omega (arith, apart, no_latch, no_input, driven_parts netlist net) in
                  meets_a.others net alone ∙ sym (meets_b.others net alone))
            ]
          ]

      -- and on the outputs of covers of low rank
      agree_below : (rank : ℕ → ℕ) → ((reader source : PlainCover) → Contains netlist.covers reader → Contains netlist.covers source → Contains reader.inputs source.output → rank source.output < rank reader.output) →
          (most : ℕ) (cover : PlainCover) → Contains netlist.covers cover → rank cover.output < most → a cover.output ≡ b cover.output
      agree_below rank falls zero cover here below = absurd (omega arith)
      agree_below rank falls (suc most) cover here below =
          meets_a.covers cover here
          ∙ same_value cover a b (λ net reads.
          elim (nowhere_or_at net (cover_outputs netlist.covers)) [
            | inl apart ↦ agree_apart net apart
            | inr at ↦ (
                let source = from_mapped (λ (z : PlainCover). z.output) netlist.covers at.0 net at.1 in
                let less = falls cover source.0 here source.1 (subst (λ (z : ℕ). Contains cover.inputs z) (sym source.2) reads) in
                ap a (sym source.2) ∙ agree_below rank falls most source.0 source.1 (omega (arith, less, below)) ∙ ap b source.2)
          ])
          ∙ sym (meets_b.covers cover here)

      -- so they agree everywhere
      pub agree : (net : ℕ) → a net ≡ b net
      agree net =
          elim (nowhere_or_at net (cover_outputs netlist.covers)) [
            | inl apart ↦ agree_apart net apart
            | inr at ↦ (
                let cover = from_mapped (λ (z : PlainCover). z.output) netlist.covers at.0 net at.1 in
                let ranked = no_cycle_rank netlist none in
                ap a (sym cover.2)
                ∙ agree_below (level netlist covers_once ranked.0 ranked.1) (levels_fall netlist covers_once ranked.0 ranked.1) (length netlist.covers) cover.0 cover.1 (level_small netlist covers_once ranked.0 ranked.1 cover.0 cover.1)
                ∙ ap b cover.2)
          ]

  -- the first bits of a function are the function, as far as they go
  meets_given : (given held now : ℕ → Bool) → Meets netlist (bit_at (first_bits (length netlist.inputs) given)) (bit_at (first_bits (length netlist.latches) held)) now → Meets netlist given held now
  meets_given given held now meets = record {
    covers = meets.covers;
    latches = λ place net at. meets.latches place net at ∙ bit_of_first (length netlist.latches) held place (omega (arith, at.0, length-map netlist.latches (λ latch. latch.output)));
    inputs = λ place net at. meets.inputs place net at ∙ bit_of_first (length netlist.inputs) given place at.0;
    others = meets.others;
  }

  -- there is one assignment, and there are no two
  pub one_meaning : HasNoCycle netlist → HasOneMeaning netlist
  one_meaning none given held =
      let order = no_cycle_order netlist none in
      let given_bits : List Bool = first_bits (length netlist.inputs) given in
      let held_bits : List Bool = first_bits (length netlist.latches) held in (
        (
          bit_at (settled netlist order.0 given_bits held_bits),
          meets_given given held (bit_at (settled netlist order.0 given_bits held_bits))
              (settled_meets order.0 order.1 given_bits held_bits (first_length (length netlist.inputs) given) (first_length (length netlist.latches) held)),
        ),
        λ a b meets_a meets_b net. agree none given held a b meets_a meets_b net,
      )
