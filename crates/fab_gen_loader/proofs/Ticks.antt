-- What a tick of the machine comes to, field by field.
use Rattle.std.proofs.Common.{◌≡◌, ℕ, ◌+◌, ◌-◌, ◌<◌, Bool, true, false, not, ◌&&◌, List, [], get_or, nat_eq, refl, sym, arith, inl, inr, if◌then◌else◌}
use Rattle.std.proofs.lemmas.Bool.{cases_Bool}
use Rattle.std.proofs.lemmas.Bool.Decides.{nat_tests}
use Rattle.fab_bits.specs.Bits.{number, digits}
use Rattle.fab_gen_loader.specs.Machine.{Machine, Word, wake_word, end_bit, tick, with_row}
use Rattle.fab_gen_loader.proofs.Counted.{get_counted}
use Rattle.fab_gen_loader.proofs.Digits.{one_less}

module _ (rows : ℕ) (machine : Machine) (word : Word) where
  pub state_after : (write : Bool) (kept : List Bool) → kept ≡ digits 2 machine.state →
      (if write
      then (if nat_eq machine.state 1
      then (if get_or word end_bit false then digits 2 0 else digits 2 2)
      else (if nat_eq machine.state 2
      then (if nat_eq machine.count 1 then digits 2 1 else digits 2 2)
      else (if nat_eq (number word) wake_word then digits 2 1 else digits 2 0)))
      else kept)
      ≡ digits 2 (tick rows machine write word).state
  state_after false kept is = is
  state_after true kept is =
      elim (cases_Bool (nat_eq machine.state 1)) [
        | inl address ↦ rw address (elim (cases_Bool (get_or word end_bit false)) [ inl end ↦ rw end refl | inr on ↦ rw on refl ])
        | inr other ↦ rw other
            (elim (cases_Bool (nat_eq machine.state 2)) [
              | inl row ↦ rw row (elim (cases_Bool (nat_eq machine.count 1)) [ inl last ↦ rw last refl | inr more ↦ rw more refl ])
              | inr waits ↦ rw waits (elim (cases_Bool (nat_eq (number word) wake_word)) [ inl wakes ↦ rw wakes refl | inr sleeps ↦ rw sleeps refl ])
            ])
      ]

  pub count_after : (write : Bool) (kept : List Bool) → kept ≡ digits 5 machine.count →
      (if write
      then (if nat_eq machine.state 1
      then (if get_or word end_bit false then kept else digits 5 rows)
      else (if nat_eq machine.state 2
      then (if nat_eq machine.count 1 then kept else digits 5 (machine.count + 32 - 1))
      else kept))
      else kept)
      ≡ digits 5 (tick rows machine write word).count
  count_after false kept is = is
  count_after true kept is =
      elim (cases_Bool (nat_eq machine.state 1)) [
        | inl address ↦ rw address (elim (cases_Bool (get_or word end_bit false)) [ inl end ↦ rw end is | inr on ↦ rw on refl ])
        | inr other ↦ rw other
            (elim (cases_Bool (nat_eq machine.state 2)) [
              | inl row ↦ rw row (elim (cases_Bool (nat_eq machine.count 1)) [ inl last ↦ rw last is | inr more ↦ rw more (one_less machine.count) ])
              | inr waits ↦ rw waits is
            ])
      ]

  pub address_after : (write : Bool) →
      (if (write && nat_eq machine.state 1) && not (get_or word end_bit false) then word else machine.address) ≡ (tick rows machine write word).address
  address_after false = refl
  address_after true =
      elim (cases_Bool (nat_eq machine.state 1)) [
        | inl address ↦ rw address (elim (cases_Bool (get_or word end_bit false)) [ inl end ↦ rw end refl | inr on ↦ rw on refl ])
        | inr other ↦ rw other
            (elim (cases_Bool (nat_eq machine.state 2)) [
              | inl row ↦ rw row (elim (cases_Bool (nat_eq machine.count 1)) [ inl last ↦ rw last refl | inr more ↦ rw more refl ])
              | inr waits ↦ rw waits refl
            ])
      ]

  pub strobe_after : (write : Bool) → (write && nat_eq machine.state 2) && nat_eq machine.count 1 ≡ (tick rows machine write word).strobe
  strobe_after false = refl
  strobe_after true =
      elim (cases_Bool (nat_eq machine.state 1)) [
        | inl address ↦
            (let one : machine.state ≡ 1 = grind (arith, nat_tests) in
            let no_row : nat_eq machine.state 2 ≡ false = rw one refl in
            rw (no_row, address) (elim (cases_Bool (get_or word end_bit false)) [ inl end ↦ rw end refl | inr on ↦ rw on refl ]))
        | inr other ↦ rw other
            (elim (cases_Bool (nat_eq machine.state 2)) [
              | inl row ↦ rw row (elim (cases_Bool (nat_eq machine.count 1)) [ inl last ↦ rw last refl | inr more ↦ rw more refl ])
              | inr waits ↦ rw waits refl
            ])
      ]

  pub row_after : (write : Bool) (row : ℕ) → row < rows →
      (if (write && nat_eq machine.state 2) && nat_eq machine.count (rows - row) then word else get_or machine.rows row [])
      ≡ get_or (tick rows machine write word).rows row []
  row_after false row within = refl
  row_after true row within =
      let turn = λ (r : ℕ). if nat_eq machine.count (rows - r) then word else get_or machine.rows r [] in
      let taken : turn row ≡ get_or (with_row rows machine word) row [] = sym (get_counted rows turn row [] within) in
      elim (cases_Bool (nat_eq machine.state 1)) [
        | inl address ↦
            (let one : machine.state ≡ 1 = grind (arith, nat_tests) in
            let no_row : nat_eq machine.state 2 ≡ false = rw one refl in
            rw (no_row, address) (elim (cases_Bool (get_or word end_bit false)) [ inl end ↦ rw end refl | inr on ↦ rw on refl ]))
        | inr other ↦ rw other
            (elim (cases_Bool (nat_eq machine.state 2)) [
              | inl rows_come ↦ rw rows_come (elim (cases_Bool (nat_eq machine.count 1)) [ inl last ↦ rw last taken | inr more ↦ rw more taken ])
              | inr waits ↦ rw waits refl
            ])
      ]
