-- A tick of CLK takes the machine of the loader a step on, and a tick of another clock leaves it as it is.
use Rattle.std.proofs.Common.{◌≡◌, ◌≢◌, ℕ, zero, suc, ◌/◌, ◌^◌, ◌<◌, Bool, true, false, List, [], ◌∷◌, length, get_or, cond, refl, sym, ap, ◌∙◌, subst, inl, inr, arith, All, Contains, slice_index_or}
use Rattle.std.specs.Str.{bytes_eq}
use Rattle.std.proofs.lemmas.Bool.{cases_Bool}
use Rattle.std.proofs.lemmas.List.Elements.{All-contains}
use Rattle.std.proofs.lemmas.Slice.Eq.{bytes_eq-Decides}
use Rattle.fab_bits.specs.Bits.{number, digits, first_bits}
use Rattle.fab_bits.proofs.Numbers.{length_first_bits, first_bits_same, get_first_bits}
use Rattle.fab_syntax.specs.Plain.{PlainModule}
use Rattle.fab_syntax.specs.Declarations.{width}
use Rattle.fab_meaning.specs.Value.{value, bit_at}
use Rattle.fab_meaning.specs.Points.{point, flop}
use Rattle.fab_meaning.specs.Settled.{Assignment, names_at, IsSettledOn}
use Rattle.fab_meaning.specs.Runs.{clock_name, is_clock, Ticks}
use Rattle.fab_meaning.specs.Loading.{IsLoading, write_data_name, write_strobe_name}
use Rattle.fab_drives_laws.specs.fab_model_Tiles.{counted}
use Rattle.fab_drives_laws.specs.fab_model_Grid.{PlainFabric}
use Rattle.fab_drives_laws.specs.fab_fabric_Fabric.{IsFabric}
use Rattle.fab_drives_laws.specs.fab_gen_loader_Machine.{Machine, Word, tick}
use Rattle.fab_drives_laws.specs.fab_gen_loader_Loader.{NextValues, loader_of, state_name, count_name, strobe_register_name, bits_at, machine_at, machine_next, RegisterTakes, TakesNext, address_register_name, row_register_name}
use Rattle.fab_drives_laws.specs.fab_model_mode_Mode.{Mode}
use Rattle.fab_drives_laws.specs.fab_fabric_text_defs_Top.{data_shape}
use Rattle.fab_loading_laws.specs.Latches.{IsWord, IsMachine}
use Rattle.fab_loading_laws.specs.Streams.{TicksKeepMachines}
use Rattle.fab_loading_laws.proofs.fab_frames_Numbers.{digits_number, number_digits, number_below}
use Rattle.fab_drives_laws.proofs.fab_gen_loader_Counted.{length-counted, get_counted}
use Rattle.fab_drives_laws.proofs.fab_gen_loader_Widths.{state_width, count_width, address_width, row_width}
use Rattle.fab_drives_laws.proofs.fab_tile_drives_laws_Driven.{width_of, declared_at}
use Rattle.fab_drives_laws.proofs.fab_tile_drives_laws_Endings.{all_counted}
use Rattle.fab_text_loads_laws.specs.Points.{loader_path, in_loader}
use Rattle.fab_text_loads_laws.specs.Loads.{WritesWord}
use Rattle.fab_text_loads_laws.proofs.Loader.{HasLoader, strobe_register_width, register_names, all_registers, row_register, IsFlop, registers_are_flops, loader_clock}
use Rattle.fab_text_loads_laws.proofs.Named.{named_are_loading}
use Rattle.fab_text_loads_laws.proofs.Settled.{register_shows, input_shows}

-- ---- lists by their places

bits_again : (bits : List Bool) → first_bits (length bits) (λ bit. bit_at bits bit) ≡ bits
bits_again [] = refl
bits_again (bit ∷ bits) = ap (λ rest. bit ∷ rest) (bits_again bits)

counted_again : {X : Type 0} (xs : List X) (n : ℕ) (f : ℕ → X) (d : X) → length xs ≡ n → ((i : ℕ) → i < n → f i ≡ get_or xs i d) → counted n f ≡ xs
unfolding counted
counted_again [] zero f d long each = refl
counted_again [] (suc n) f d long each = absurd (omega (arith, long))
counted_again (x ∷ xs) zero f d long each = absurd (omega (arith, long))
counted_again (x ∷ xs) (suc n) f d long each =
    let first : f 0 ≡ x = each 0 (omega arith) in
    let rest : counted n (λ i. f (suc i)) ≡ xs = counted_again xs n (λ i. f (suc i)) d (omega (arith, long)) (λ i few. each (suc i) (omega (arith, few))) in
    λ j. first j ∷ rest j

pub digits_long : (width n : ℕ) → length (digits width n) ≡ width
digits_long zero n = refl
digits_long (suc width) n = ap suc (digits_long width (n / 2))

-- ---- what registers can hold

number_of : (n : ℕ) (f : ℕ → Bool) → number (first_bits n f) < 2 ^ n
number_of n f = subst (λ k. number (first_bits n f) < 2 ^ k) (length_first_bits n f) (number_below (first_bits n f))

pub held_is_machine : (rows : ℕ) (held : Assignment) → IsMachine rows (machine_at held loader_path rows)
held_is_machine rows held = record {
  state = omega (arith, number_of 2 (λ bit. held (point loader_path state_name bit)));
  count = omega (arith, number_of 5 (λ bit. held (point loader_path count_name bit)));
  address = length_first_bits 32 (λ bit. held (point loader_path address_register_name bit));
  as_many = length-counted rows (λ row. bits_at held loader_path (row_register_name row) 32);
  words = all_counted IsWord rows (λ row. bits_at held loader_path (row_register_name row) 32) (λ row few. length_first_bits 32 (λ bit. held (point loader_path (row_register_name row) bit)));
}

-- registers that agree make one machine
pub machine_same : (rows : ℕ) (next : NextValues) (held other : Assignment) →
    ((name : List ℕ) (bit : ℕ) → Contains (register_names rows) name → bit < width_of (loader_of rows next) name → held (point loader_path name bit) ≡ other (point loader_path name bit)) →
    machine_at held loader_path rows ≡ machine_at other loader_path rows
machine_same rows next held other same =
    let bits : (name : List ℕ) (width : ℕ) → Contains (register_names rows) name → width_of (loader_of rows next) name ≡ width →
    bits_at held loader_path name width ≡ bits_at other loader_path name width =
    λ name width listed wide. first_bits_same width (λ bit. held (point loader_path name bit)) (λ bit. other (point loader_path name bit))
    (λ bit few. same name bit listed (omega (arith, few, wide))) in
    let state = bits state_name 2 (0, omega arith, refl) (state_width rows next) in
    let count = bits count_name 5 (1, omega arith, refl) (count_width rows next) in
    let address = bits address_register_name 32 (2, omega arith, refl) (address_width rows next) in
    let strobe = same strobe_register_name 0 (3, omega arith, refl) (omega (arith, strobe_register_width rows next)) in
    let others : counted rows (λ row. bits_at held loader_path (row_register_name row) 32) ≡ counted rows (λ row. bits_at other loader_path (row_register_name row) 32) =
    counted_again (counted rows (λ row. bits_at other loader_path (row_register_name row) 32)) rows (λ row. bits_at held loader_path (row_register_name row) 32) []
    (length-counted rows (λ row. bits_at other loader_path (row_register_name row) 32))
    (λ row few. bits (row_register_name row) 32 (row_register rows row few) (row_width rows next row few)
    ∙ sym (get_counted rows (λ row. bits_at other loader_path (row_register_name row) 32) row [] few)) in
    λ j. record { state = number (state j); count = number (count j); address = address j; strobe = strobe j; rows = others j }

-- ---- a tick

module _ (fabric : PlainFabric) (next : NextValues) (text : List PlainModule) (has : HasLoader fabric next text) (is : IsFabric fabric) (keeps : TicksKeepMachines)
    (inputs held now after : Assignment) (settled : IsSettledOn (IsLoading text) text inputs held now) (ticks : Ticks (IsLoading text) text clock_name held now after) where
  abbrev rows : ℕ
  rows = fabric.rows

  -- the machine of the registers as they stand
  shown_machine : machine_at now loader_path rows ≡ machine_at held loader_path rows
  shown_machine = machine_same rows next now held (register_shows fabric next text has is inputs held now settled)

  takes_here : TakesNext rows text loader_path now
  takes_here = has.steps text loader_path now has.stands

  after_takes : (name : List ℕ) (bits : List Bool) (bit : ℕ) → RegisterTakes text loader_path now name bits → bit < width_of (loader_of rows next) name →
      after (point loader_path name bit) ≡ bit_at bits bit
  after_takes name bits bit takes few =
      let p = point loader_path name bit in
      let driver = flop loader_path clock_name takes.next bit in
      ticks p driver (named_are_loading fabric next text has p (in_loader refl) (declared_at text loader_path (loader_of rows next) name bit has.stands few)) (takes.drives bit)
      ∙ ap (λ found. cond (is_clock clock_name found) (bit_at (value (names_at text now loader_path) takes.next) bit) (held p)) (loader_clock fabric next text has)
      ∙ ap (λ bits. bit_at bits bit) takes.gives

  bits_after : (name : List ℕ) (bits : List Bool) (width : ℕ) → RegisterTakes text loader_path now name bits → length bits ≡ width → width_of (loader_of rows next) name ≡ width →
      bits_at after loader_path name width ≡ bits
  bits_after name bits width takes long wide =
      first_bits_same width (λ bit. after (point loader_path name bit)) (λ bit. bit_at bits bit) (λ bit few. after_takes name bits bit takes (omega (arith, few, wide)))
      ∙ ap (λ n. first_bits n (λ bit. bit_at bits bit)) (sym long)
      ∙ bits_again bits

  abbrev stepped : Machine
  stepped = machine_next now loader_path rows

  stepped_is_machine : IsMachine rows stepped
  stepped_is_machine =
      let few = is.few_rows in
      keeps rows (machine_at now loader_path rows) (now (point loader_path write_strobe_name 0)) (bits_at now loader_path write_data_name 32) (omega (arith, few))
      (held_is_machine rows now) (length_first_bits 32 (λ bit. now (point loader_path write_data_name bit)))

  machine_steps : machine_at after loader_path rows ≡ stepped
  machine_steps =
      let may = stepped_is_machine in
      let few_states = may.state in
      let few_counts = may.count in
      let state : number (bits_at after loader_path state_name 2) ≡ stepped.state =
      ap number (bits_after state_name (digits 2 stepped.state) 2 takes_here.state (digits_long 2 stepped.state) (state_width rows next)) ∙ number_digits 2 stepped.state (omega (arith, few_states)) in
      let count : number (bits_at after loader_path count_name 5) ≡ stepped.count =
      ap number (bits_after count_name (digits 5 stepped.count) 5 takes_here.count (digits_long 5 stepped.count) (count_width rows next)) ∙ number_digits 5 stepped.count (omega (arith, few_counts)) in
      let address = bits_after address_register_name stepped.address 32 takes_here.address may.address (address_width rows next) in
      let strobe : after (point loader_path strobe_register_name 0) ≡ stepped.strobe =
      after_takes strobe_register_name (stepped.strobe ∷ []) 0 takes_here.strobe (omega (arith, strobe_register_width rows next)) in
      let others : counted rows (λ row. bits_at after loader_path (row_register_name row) 32) ≡ stepped.rows =
      counted_again stepped.rows rows (λ row. bits_at after loader_path (row_register_name row) 32) [] may.as_many
      (λ row few. bits_after (row_register_name row) (slice_index_or stepped.rows row []) 32 (takes_here.each_row row few)
      (may.words row [] (omega (arith, few, may.as_many))) (row_width rows next row few)) in
      λ j. record { state = state j; count = count j; address = address j; strobe = strobe j; rows = others j }

  -- the machine after the tick, where the inputs write a word
  pub word_ticks : (word : Word) → WritesWord word inputs → IsWord word → machine_at after loader_path rows ≡ tick rows (machine_at held loader_path rows) true word
  word_ticks word writes long =
      let strobe : now (point loader_path write_strobe_name 0) ≡ true =
      input_shows fabric next text has is inputs held now settled write_strobe_name 0 (1, omega arith, refl) (1, omega arith, refl) refl refl (omega arith) (omega arith) ∙ writes.strobe in
      let bits : bits_at now loader_path write_data_name 32 ≡ word =
      first_bits_same 32 (λ bit. now (point loader_path write_data_name bit)) (λ bit. bit_at word bit)
      (λ bit few. input_shows fabric next text has is inputs held now settled write_data_name bit (2, omega arith, refl) (2, omega arith, refl) refl refl few
      (subst (λ (m : Mode). bit < width (data_shape m)) (sym has.frames) few)
      ∙ writes.bits bit (omega (arith, few, long)))
      ∙ ap (λ n. first_bits n (λ bit. bit_at word bit)) (sym long)
      ∙ bits_again word in
      machine_steps ∙ (λ j. tick rows (shown_machine j) (strobe j) (bits j))

  -- ---- no word is written

  quiet_step : inputs (point [] write_strobe_name 0) ≡ false → stepped ≡ tick rows (machine_at held loader_path rows) false []
  quiet_step quiet =
      let strobe : now (point loader_path write_strobe_name 0) ≡ false =
      input_shows fabric next text has is inputs held now settled write_strobe_name 0 (1, omega arith, refl) (1, omega arith, refl) refl refl (omega arith) (omega arith) ∙ quiet in
      λ j. tick rows (shown_machine j) (strobe j) (bits_at now loader_path write_data_name 32)

  -- the machine after the tick, where they write none
  pub quiet_ticks : inputs (point [] write_strobe_name 0) ≡ false → machine_at after loader_path rows ≡ tick rows (machine_at held loader_path rows) false []
  quiet_ticks quiet = machine_steps ∙ quiet_step quiet

  module _ (quiet : inputs (point [] write_strobe_name 0) ≡ false) (strobe_low : held (point loader_path strobe_register_name 0) ≡ false) where
    abbrev pub Stays : List ℕ → Type 0
    Stays name = (bit : ℕ) → bit < width_of (loader_of rows next) name → after (point loader_path name bit) ≡ held (point loader_path name bit)

    digits_again : (width : ℕ) (f : ℕ → Bool) → digits width (number (first_bits width f)) ≡ first_bits width f
    digits_again width f = subst (λ w. digits w (number (first_bits width f)) ≡ first_bits width f) (length_first_bits width f) (digits_number (first_bits width f))

    state_stays : Stays state_name
    state_stays bit few =
        let f : ℕ → Bool = λ bit. held (point loader_path state_name bit) in
        after_takes state_name (digits 2 stepped.state) bit takes_here.state few
        ∙ ap (λ (m : Machine). bit_at (digits 2 m.state) bit) (quiet_step quiet)
        ∙ ap (λ bits. bit_at bits bit) (digits_again 2 f)
        ∙ get_first_bits 2 f bit false (omega (arith, few, state_width rows next))

    count_stays : Stays count_name
    count_stays bit few =
        let f : ℕ → Bool = λ bit. held (point loader_path count_name bit) in
        after_takes count_name (digits 5 stepped.count) bit takes_here.count few
        ∙ ap (λ (m : Machine). bit_at (digits 5 m.count) bit) (quiet_step quiet)
        ∙ ap (λ bits. bit_at bits bit) (digits_again 5 f)
        ∙ get_first_bits 5 f bit false (omega (arith, few, count_width rows next))

    address_stays : Stays address_register_name
    address_stays bit few =
        after_takes address_register_name stepped.address bit takes_here.address few
        ∙ ap (λ (m : Machine). bit_at m.address bit) (quiet_step quiet)
        ∙ get_first_bits 32 (λ bit. held (point loader_path address_register_name bit)) bit false (omega (arith, few, address_width rows next))

    strobe_stays : Stays strobe_register_name
    strobe_stays bit few =
        let first : 0 ≡ bit = omega (arith, few, strobe_register_width rows next) in
        subst (λ bit. after (point loader_path strobe_register_name bit) ≡ held (point loader_path strobe_register_name bit)) first
        (after_takes strobe_register_name (stepped.strobe ∷ []) 0 takes_here.strobe (omega (arith, strobe_register_width rows next))
        ∙ ap (λ (m : Machine). m.strobe) (quiet_step quiet)
        ∙ sym strobe_low)

    row_stays : (row : ℕ) → row < rows → Stays (row_register_name row)
    row_stays row within bit few =
        let f : ℕ → Bool = λ bit. held (point loader_path (row_register_name row) bit) in
        after_takes (row_register_name row) (slice_index_or stepped.rows row []) bit (takes_here.each_row row within) few
        ∙ ap (λ (m : Machine). bit_at (slice_index_or m.rows row []) bit) (quiet_step quiet)
        ∙ ap (λ bits. bit_at bits bit) (get_counted rows (λ row. bits_at held loader_path (row_register_name row) 32) row [] within)
        ∙ get_first_bits 32 f bit false (omega (arith, few, row_width rows next row within))

    -- then the registers stay as they are
    pub registers_stay : All Stays (register_names rows)
    registers_stay = all_registers Stays rows state_stays count_stays address_stays strobe_stays row_stays

-- ---- a tick of another clock

module _ (fabric : PlainFabric) (next : NextValues) (text : List PlainModule) (has : HasLoader fabric next text)
    (clock : List ℕ) (other : clock ≢ clock_name) (held now after : Assignment) (ticks : Ticks (IsLoading text) text clock held now after) where
  other_clock : bytes_eq clock_name clock ≡ false
  other_clock =
      elim (cases_Bool (bytes_eq clock_name clock)) [
        | inl same ↦ absurd (other (sym ((bytes_eq-Decides clock_name clock).0 same)))
        | inr differs ↦ differs
      ]

  register_keeps : (name : List ℕ) (bit : ℕ) → Contains (register_names fabric.rows) name → bit < width_of (loader_of fabric.rows next) name →
      after (point loader_path name bit) ≡ held (point loader_path name bit)
  register_keeps name bit listed few =
      let p = point loader_path name bit in
      let is_flop : IsFlop text name = All-contains (IsFlop text) (register_names fabric.rows) name (registers_are_flops fabric next text has) listed in
      let taken = bit_at (value (names_at text now loader_path) is_flop.0) bit in
      ticks p (flop loader_path clock_name is_flop.0 bit)
      (named_are_loading fabric next text has p (in_loader refl) (declared_at text loader_path (loader_of fabric.rows next) name bit has.stands few)) (is_flop.1 bit)
      ∙ ap (λ found. cond (is_clock clock found) taken (held p)) (loader_clock fabric next text has)
      ∙ ap (λ ticked. cond ticked taken (held p)) other_clock

  -- the machine stays
  pub machine_stays : machine_at after loader_path fabric.rows ≡ machine_at held loader_path fabric.rows
  machine_stays = machine_same fabric.rows next after held register_keeps
