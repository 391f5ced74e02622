-- What the words of a frame leave: an open strobe with the frame's address and rows.
use Rattle.std.proofs.Common.{◌≡◌, ℕ, zero, suc, ◌+◌, ◌%◌, ◌<◌, ◌≤◌, ◌∙◌, Bool, true, false, [], ◌∷◌, get_or, nat_eq, refl, sym, ap, ap₂, subst, arith}
use Rattle.std.proofs.lemmas.Bool.{ne_eqb, eq-eqb}
use Rattle.fab_gen_loader.specs.fab_model.specs.Tiles.{counted}
use Rattle.fab_gen_loader.specs.Machine.{Machine, Word, end_bit, tick, with_row}
use Rattle.fab_loading_laws.specs.Latches.{LatchPlace, latch_shows}
use Rattle.fab_loading_laws.proofs.Runs.{after_words, latch_after_words}
use Rattle.fab_loading_laws.proofs.Ticks.{address_tick, row_tick, turn_row, other_row}

-- the loader before the words of the last rows
pub record AwaitsRows (left : ℕ) (machine : Machine) : Type 0 where
  pub state : machine.state ≡ 2
  pub count : machine.count ≡ left
  pub strobe : machine.strobe ≡ false

-- the loader after these words
record HasRows (rows left : ℕ) (words : ℕ → Word) (machine next : Machine) : Type 0 where
  pub state : next.state ≡ 1
  pub strobe : next.strobe ≡ true
  pub address : next.address ≡ machine.address
  pub kept : (row : ℕ) → row + left < rows → get_or next.rows row [] ≡ get_or machine.rows row []
  pub taken : (row place : ℕ) → place < left → row + left ≡ rows + place → get_or next.rows row [] ≡ words place

abbrev pub with_last_row : (rows : ℕ) → Machine → Word → Machine
with_last_row rows machine word = record machine { state = 1; strobe = true; rows = with_row rows machine word }

abbrev pub with_next_row : (rows : ℕ) → Machine → Word → Machine
with_next_row rows machine word = record machine { state = 2; count = (machine.count + 31) % 32; strobe = false; rows = with_row rows machine word }

module _ (rows : ℕ) (machine : Machine) (word : Word) where
  pub last_row : AwaitsRows 1 machine → tick rows machine true word ≡ with_last_row rows machine word
  last_row awaits =
      let last : nat_eq machine.count 1 ≡ true = eq-eqb machine.count 1 awaits.count in
      row_tick rows machine word awaits.state ∙ rw last refl

  pub next_row : (left : ℕ) → AwaitsRows (suc (suc left)) machine → tick rows machine true word ≡ with_next_row rows machine word
  next_row left awaits =
      let more : nat_eq machine.count 1 ≡ false = ne_eqb machine.count 1 (λ e. omega (arith, e, awaits.count)) in
      row_tick rows machine word awaits.state ∙ rw more refl

  pub awaits_next : (left : ℕ) → rows < 32 → suc (suc left) ≤ rows → AwaitsRows (suc (suc left)) machine → AwaitsRows (suc left) (with_next_row rows machine word)
  awaits_next left few within awaits = record { state = refl; count = omega (arith, awaits.count); strobe = refl }

-- ---- the loader

rows_last : (rows : ℕ) (words : ℕ → Word) (machine : Machine) → 1 ≤ rows → AwaitsRows 1 machine → HasRows rows 1 words machine (with_last_row rows machine (words 0))
rows_last rows words machine some awaits = record {
  state = refl;
  strobe = refl;
  address = refl;
  kept = λ row before. other_row rows machine (words 0) row (omega arith) (λ e. omega (arith, e, awaits.count));
  taken = λ row place low at.
      let first : place ≡ 0 = omega arith in
      turn_row rows machine (words 0) row (omega arith) (omega (arith, awaits.count)) ∙ ap words (sym first);
}

taken_before : (rows left : ℕ) (words : ℕ → Word) (machine next : Machine) → suc (suc left) ≤ rows → AwaitsRows (suc (suc left)) machine →
    HasRows rows (suc left) (λ place. words (suc place)) (with_next_row rows machine (words 0)) next →
    (row place : ℕ) → place < suc (suc left) → row + suc (suc left) ≡ rows + place → get_or next.rows row [] ≡ words place
taken_before rows left words machine next within awaits rest row zero low at =
    rest.kept row (omega arith) ∙ turn_row rows machine (words 0) row (omega arith) (omega (arith, awaits.count))
taken_before rows left words machine next within awaits rest row (suc place) low at = rest.taken row place (omega arith) (omega arith)

rows_more : (rows left : ℕ) (words : ℕ → Word) (machine next : Machine) → suc (suc left) ≤ rows → AwaitsRows (suc (suc left)) machine →
    HasRows rows (suc left) (λ place. words (suc place)) (with_next_row rows machine (words 0)) next → HasRows rows (suc (suc left)) words machine next
rows_more rows left words machine next within awaits rest = record {
  state = rest.state;
  strobe = rest.strobe;
  address = rest.address;
  kept = λ row before. rest.kept row (omega arith) ∙ other_row rows machine (words 0) row (omega arith) (λ e. omega (arith, e, awaits.count));
  taken = taken_before rows left words machine next within awaits rest;
}

has_rows : (rows left : ℕ) (words : ℕ → Word) (machine : Machine) → rows < 32 → 1 ≤ left → left ≤ rows → AwaitsRows left machine →
    HasRows rows left words machine (after_words rows machine (counted left words))
unfolding counted
has_rows rows zero words machine few some within awaits = absurd (omega arith)
has_rows rows (suc zero) words machine few some within awaits =
    subst (HasRows rows 1 words machine) (sym (last_row rows machine (words 0) awaits)) (rows_last rows words machine within awaits)
has_rows rows (suc (suc left)) words machine few some within awaits =
    let more = λ (place : ℕ). words (suc place) in
    let next = with_next_row rows machine (words 0) in
    let rest = has_rows rows (suc left) more next few (omega arith) (omega arith) (awaits_next rows machine (words 0) left few within awaits) in
    subst (HasRows rows (suc (suc left)) words machine) (sym (ap (λ m. after_words rows m (counted (suc left) more)) (next_row rows machine (words 0) left awaits)))
    (rows_more rows left words machine (after_words rows next (counted (suc left) more)) within awaits rest)

-- ---- latches

-- a latch holds while the strobe is 0
closed : (machine : Machine) (place : LatchPlace) (held : Bool) → machine.strobe ≡ false → latch_shows machine place held ≡ held
closed machine place held is = rw is refl

rows_hold : (rows left : ℕ) (words : ℕ → Word) (machine : Machine) (place : LatchPlace) (held : Bool) → rows < 32 → 1 ≤ left → left ≤ rows → AwaitsRows left machine →
    latch_after_words rows machine place held (counted left words) ≡ held
unfolding counted
rows_hold rows zero words machine place held few some within awaits = absurd (omega arith)
rows_hold rows (suc zero) words machine place held few some within awaits = closed machine place held awaits.strobe
rows_hold rows (suc (suc left)) words machine place held few some within awaits =
    let more = λ (place : ℕ). words (suc place) in
    let next = with_next_row rows machine (words 0) in
    ap₂ (λ m h. latch_after_words rows m place h (counted (suc left) more)) (next_row rows machine (words 0) left awaits) (closed machine place held awaits.strobe)
    ∙ rows_hold rows (suc left) more next place held few (omega arith) (omega arith) (awaits_next rows machine (words 0) left few within awaits)

-- ---- a frame

-- the loader after the words of a frame
pub record HasFrame (rows : ℕ) (named : Word) (words : ℕ → Word) (next : Machine) : Type 0 where
  pub state : next.state ≡ 1
  pub strobe : next.strobe ≡ true
  pub address : next.address ≡ named
  pub row_words : (row : ℕ) → row < rows → get_or next.rows row [] ≡ words row

abbrev pub with_address : (rows : ℕ) → Machine → Word → Machine
with_address rows machine word = record machine { state = 2; count = rows; address = word; strobe = false }

module _ (rows : ℕ) (few : rows < 32) (some : 1 ≤ rows) (machine : Machine) (is : machine.state ≡ 1) (address : Word) (goes_on : get_or address end_bit false ≡ false) (words : ℕ → Word) where
  pub address_taken : tick rows machine true address ≡ with_address rows machine address
  address_taken = address_tick rows machine address is ∙ rw goes_on refl

  pub awaits_all : AwaitsRows rows (with_address rows machine address)
  awaits_all = record { state = refl; count = refl; strobe = refl }

  pub has_frame : HasFrame rows address words (after_words rows machine (address ∷ counted rows words))
  has_frame =
      let next = with_address rows machine address in
      let all = has_rows rows rows words next few some (omega arith) awaits_all in
      let frame : HasFrame rows address words (after_words rows next (counted rows words))
      = record { state = all.state; strobe = all.strobe; address = all.address; row_words = λ row low. all.taken row row low (omega arith) } in
      subst (HasFrame rows address words) (sym (ap (λ m. after_words rows m (counted rows words)) address_taken)) frame

  -- a latch keeps what it showed before
  pub frame_holds : (place : LatchPlace) (held : Bool) → latch_after_words rows machine place held (address ∷ counted rows words) ≡ latch_shows machine place held
  frame_holds place held =
      let shown = latch_shows machine place held in
      ap (λ m. latch_after_words rows m place shown (counted rows words)) address_taken
      ∙ rows_hold rows rows words (with_address rows machine address) place shown few some (omega arith) awaits_all
