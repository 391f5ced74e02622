-- Covers that are asked once, each behind those that it reads, are settled.
use Rattle.std.proofs.Common.{◌≡◌, ◌⊎◌, ℕ, ◌<◌, ◌≤◌, Bool, true, false, List, [], ◌∷◌, map, length, get_or, set, Contains, refl, sym, ap, ◌∙◌, subst, inl, inr, arith}
use Rattle.std.proofs.lemmas.Bool.{false≢true}
use Rattle.std.proofs.lemmas.List.{length-set, get_or-set_same, get_or-set_other, set-get_or, get_or_default}
use Rattle.fab_bits.specs.Bits.{number, same_bit}
use Rattle.fab_netlist.specs.Plain.{PlainCover, PlainNetlist, IsAt, bit_at, cover_at, no_cover}
use Rattle.fab_netlist.specs.WellMade.{times, cover_outputs, table_bit}
use Rattle.fab_netlist.specs.Meaning.{cover_value}
use Rattle.fab_netlist.specs.Cycles.{Reads}
use Rattle.fab_netlist.specs.inner.Order.{StandBehind}
use Rattle.fab_netlist.specs.inner.Passes.{taken, asked}
use Rattle.fab_netlist.proofs.Members.{in_none, first_or_later, first_in, later_in, at_in}
use Rattle.fab_netlist.proofs.Counts.{member_counts, nowhere_or_at, one_place, at_mapped}

-- the output of a cover has its value
abbrev pub Holds : List Bool → PlainCover → Type 0
Holds values cover = bit_at values cover.output ≡ cover_value cover (bit_at values)

-- a cover has the same value under assignments that agree on its inputs
pub same_inputs : (a b : ℕ → Bool) (nets : List ℕ) → ((net : ℕ) → Contains nets net → a net ≡ b net) → map a nets ≡ map b nets
same_inputs a b [] agree = refl
same_inputs a b (net ∷ nets) agree =
    let here : a net ≡ b net = agree net (first_in net nets net refl) in
    let rest : map a nets ≡ map b nets = same_inputs a b nets (λ other member. agree other (later_in net nets other member)) in
    cc

-- so its value is the same
pub same_value : (cover : PlainCover) (a b : ℕ → Bool) → ((net : ℕ) → Contains cover.inputs net → a net ≡ b net) → cover_value cover a ≡ cover_value cover b
same_value cover a b agree = ap (λ bits. table_bit cover.table (number bits)) (same_inputs a b cover.inputs agree)

-- other nets keep their values
taken_other : (cover : PlainCover) (values : List Bool) (net : ℕ) → (net ≡ cover.output → ⊥) → bit_at (taken cover values) net ≡ bit_at values net
taken_other cover values net differ = get_or-set_other values cover.output net (cover_value cover (bit_at values)) false differ

-- what holds already changes nothing
taken_again : (cover : PlainCover) (values : List Bool) → Holds values cover → taken cover values ≡ values
taken_again cover values holds = ap (λ bit. set values cover.output bit) (sym holds) ∙ set-get_or values cover.output false

-- a cover that does not read its own output holds once it is asked
taken_holds : (cover : PlainCover) (values : List Bool) → cover.output < length values → (Contains cover.inputs cover.output → ⊥) → Holds (taken cover values) cover
taken_holds cover values small apart =
    get_or-set_same values cover.output (cover_value cover (bit_at values)) false small
    ∙ same_value cover (bit_at values) (bit_at (taken cover values)) (λ net here.
    sym (taken_other cover values net (λ same. apart (subst (λ (other : ℕ). Contains cover.inputs other) same here))))

-- a cover keeps holding where another one is asked, whose output it does not read
taken_keeps : (cover other : PlainCover) (values : List Bool) → Holds values cover → (cover.output ≡ other.output → ⊥) → (Contains cover.inputs other.output → ⊥) → Holds (taken other values) cover
taken_keeps cover other values holds differ apart =
    taken_other other values cover.output differ
    ∙ holds
    ∙ same_value cover (bit_at values) (bit_at (taken other values)) (λ net here.
    sym (taken_other other values net (λ same. apart (subst (λ (read : ℕ). Contains cover.inputs read) same here))))

-- bits that the test calls the same
pub same_bit_same : (a b : Bool) → same_bit a b ≡ true → a ≡ b
same_bit_same true b given = sym given
same_bit_same false true given = absurd (false≢true given)
same_bit_same false false given = refl

-- asking covers keeps the length
pub asked_length : (covers : List PlainCover) (places : List ℕ) (values : List Bool) → length (asked covers places values) ≡ length values
asked_length covers [] values = refl
asked_length covers (place ∷ places) values =
    let cover = get_or covers place no_cover in
    asked_length covers places (taken cover values) ∙ length-set values cover.output (cover_value cover (bit_at values))

module _ (netlist : PlainNetlist) (once : (net : ℕ) → times net (cover_outputs netlist.covers) ≤ 1) where
  abbrev cover : ℕ → PlainCover
  cover place = cover_at netlist place

  -- the output of a cover stands among those of all
  output_at : (place : ℕ) → place < length netlist.covers → IsAt (cover_outputs netlist.covers) place (cover place).output
  output_at place small = at_mapped (λ (z : PlainCover). z.output) netlist.covers place (cover place) (small, get_or_default netlist.covers place (cover place) no_cover small)

  -- asking covers leaves nets alone that no cover drives
  pub asked_other : (first places : List ℕ) (values : List Bool) (net : ℕ) → StandBehind netlist first places → times net (cover_outputs netlist.covers) ≡ 0 → bit_at (asked netlist.covers places values) net ≡ bit_at values net
  asked_other first [] values net behind none = refl
  asked_other first (place ∷ places) values net behind none =
      asked_other (place ∷ first) places (taken (cover place) values) net behind.2 none
      ∙ taken_other (cover place) values net (λ same.
      omega (arith, none, member_counts net (cover_outputs netlist.covers) (subst (λ (other : ℕ). Contains (cover_outputs netlist.covers) other) (sym same) (at_in (cover_outputs netlist.covers) place (cover place).output (output_at place behind.0)))))

  -- Covers that were asked, of which each reads only others of them. They hold.
  pub record AreSettled (first : List ℕ) (values : List Bool) : Type 0 where
    pub within : (place : ℕ) → Contains first place → place < length netlist.covers
    pub closed : (reader source : ℕ) → Contains first reader → Reads netlist reader source → Contains first source
    pub hold : (place : ℕ) → Contains first place → Holds values (cover place)

  -- one more cover is asked, which reads only those
  one_asked : (first : List ℕ) (values : List Bool) (place : ℕ) → AreSettled first values → place < length netlist.covers → (cover place).output < length values → ((source : ℕ) → Reads netlist place source → Contains first source) →
      AreSettled (place ∷ first) (taken (cover place) values)
  one_asked first values place settled small below reads = record {
    within = λ other here. elim (first_or_later place first other here) [ inl same ↦ omega (arith, same, small) | inr before ↦ settled.within other before ];
    closed = λ reader source here read.
        elim (first_or_later place first reader here) [
          | inl same ↦ later_in place first source (reads source (subst (λ (other : ℕ). Reads netlist other source) (sym same) read))
          | inr before ↦ later_in place first source (settled.closed reader source before read)
        ];
    hold = λ other here.
        elim (nowhere_or_at place first) [
          | inr at ↦ (
              let again = taken_again (cover place) values (settled.hold place (at_in first at.0 place at.1)) in
              subst (λ (list : List Bool). Holds list (cover other)) (sym again)
              (elim (first_or_later place first other here) [
                | inl same ↦ subst (λ (one : ℕ). Holds values (cover one)) same (settled.hold place (at_in first at.0 place at.1))
                | inr before ↦ settled.hold other before
              ]))
          | inl nowhere ↦ (
              let apart : Contains first place → ⊥ = λ member. omega (arith, nowhere, member_counts place first member) in
              elim (first_or_later place first other here) [
                | inl same ↦ subst (λ (one : ℕ). Holds (taken (cover place) values) (cover one)) same (taken_holds (cover place) values below (λ read. apart (reads place (small, small, read))))
                | inr before ↦ taken_keeps (cover other) (cover place) values (settled.hold other before)
                    (λ same. apart (subst (λ (one : ℕ). Contains first one) (one_place (cover other).output (cover_outputs netlist.covers) other place (once (cover other).output) (output_at other (settled.within other before)) (subst (λ (net : ℕ). IsAt (cover_outputs netlist.covers) place net) (sym same) (output_at place small))) before))
                    (λ read. apart (settled.closed other place before (settled.within other before, small, read)))
              ])
        ];
  }

  -- covers that are asked behind those that they read hold in the end
  pub asked_settle : (first places : List ℕ) (values : List Bool) → ((place : ℕ) → place < length netlist.covers → (cover place).output < length values) → StandBehind netlist first places → AreSettled first values →
      (place : ℕ) → Contains first place ⊎ Contains places place → Holds (asked netlist.covers places values) (cover place)
  asked_settle first [] values below behind settled place (inl before) = settled.hold place before
  asked_settle first [] values below behind settled place (inr here) = absurd (in_none place here)
  asked_settle first (next ∷ places) values below behind settled place given =
      asked_settle (next ∷ first) places (taken (cover next) values)
      (λ other small. omega (arith, below other small, length-set values (cover next).output (cover_value (cover next) (bit_at values))))
      behind.2 (one_asked first values next settled behind.0 (below next behind.0) behind.1) place
      (elim given [
        | inl before ↦ inl (later_in next first place before)
        | inr here ↦ elim (first_or_later next places place here) [
          | inl same ↦ inl (first_in next first place same)
          | inr later ↦ inr later
        ]
      ])

  -- at first none was asked
  pub none_settled : (values : List Bool) → AreSettled [] values
  none_settled values = record {
    within = λ place here. absurd (in_none place here);
    closed = λ reader source here read. absurd (in_none reader here);
    hold = λ place here. absurd (in_none place here);
  }
