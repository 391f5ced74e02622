-- What the words before the first address leave: a loader that takes an address.
use Rattle.std.proofs.Common.{◌≡◌, ◌≢◌, ℕ, zero, suc, ◌+◌, ◌-◌, ◌%◌, ◌<◌, ◌≤◌, ◌∙◌, true, false, [], ◌∷◌, map, replicate, get_or, nat_eq, refl, sym, ap, subst, arith, inl, inr, if◌then◌else◌}
use Rattle.std.proofs.lemmas.Bool.{ne_eqb}
use Rattle.std.proofs.lemmas.Bool.Decides.{eqb_tells}
use Rattle.std.proofs.lemmas.List.{map-append}
use Rattle.fab_bits.specs.Bits.{number, digits}
use Rattle.fab_gen_loader.specs.Machine.{Machine, Word, wake_word, end_bit, tick, with_row}
use Rattle.fab_frames.specs.Stream.{waiting_word, waiting_words, synchronizing_words, header}
use Rattle.fab_loading_laws.proofs.Ticks.{address_tick, row_tick, waiting_tick}
use Rattle.fab_loading_laws.proofs.Runs.{after_words, after_both}

-- ---- waiting words

-- how many waiting words set the loader waiting: a count of 0 wraps to 31
abbrev words_left : (state count : ℕ) → ℕ
words_left state count = if nat_eq state 0 then 0 else (if nat_eq state 2 then (if nat_eq count 0 then 33 else count + 1) else 1)

record IsNearer (machine next : Machine) : Type 0 where
  pub count : next.count < 32
  pub fewer : words_left next.state next.count ≤ words_left machine.state machine.count - 1

count_falls : (count : ℕ) → count < 32 → count ≢ 1 → words_left 2 ((count + 31) % 32) ≤ words_left 2 count - 1
count_falls zero small not_one = omega arith
count_falls (suc zero) small not_one = absurd (not_one refl)
count_falls (suc (suc count)) small not_one =
    let next : (suc (suc count) + 31) % 32 ≡ suc count = omega arith in
    let more : nat_eq (suc count) 0 ≡ false = ne_eqb (suc count) 0 (λ e. omega (arith, e)) in
    let some : nat_eq (suc (suc count)) 0 ≡ false = ne_eqb (suc (suc count)) 0 (λ e. omega (arith, e)) in
    rw (next, more, some) (omega arith)

module _ (rows : ℕ) (word : Word) (ends : get_or word end_bit false ≡ true) (sleeps : nat_eq (number word) wake_word ≡ false) where
  address_nearer : (machine : Machine) → machine.count < 32 → machine.state ≡ 1 → IsNearer machine (tick rows machine true word)
  address_nearer machine small is =
      let to : tick rows machine true word ≡ record machine { state = 0; strobe = false } = address_tick rows machine word is ∙ rw ends refl in
      subst (IsNearer machine) (sym to) (record { count = small; fewer = omega arith })

  row_nearer : (machine : Machine) → machine.count < 32 → machine.state ≡ 2 → IsNearer machine (tick rows machine true word)
  row_nearer machine small is =
      elim (eqb_tells machine.count 1) [
        | inl last ↦ (
            let to : tick rows machine true word ≡ record machine { state = 1; strobe = true; rows = with_row rows machine word } = row_tick rows machine word is ∙ rw last.0 refl in
            subst (IsNearer machine) (sym to) (record { count = small; fewer = rw (is, last.1) (omega arith) }))
        | inr more ↦ (
            let to : tick rows machine true word ≡ record machine { state = 2; count = (machine.count + 31) % 32; strobe = false; rows = with_row rows machine word }
            = row_tick rows machine word is ∙ rw more.0 refl in
            subst (IsNearer machine) (sym to) (record { count = omega arith; fewer = rw is (count_falls machine.count small more.1) }))
      ]

  waiting_nearer : (machine : Machine) → machine.count < 32 → machine.state ≢ 1 → machine.state ≢ 2 → IsNearer machine (tick rows machine true word)
  waiting_nearer machine small not_one not_two =
      let to : tick rows machine true word ≡ record machine { state = 0; strobe = false } = waiting_tick rows machine word not_one not_two ∙ rw sleeps refl in
      subst (IsNearer machine) (sym to) (record { count = small; fewer = omega arith })

  nearer : (machine : Machine) → machine.count < 32 → IsNearer machine (tick rows machine true word)
  nearer machine small =
      elim (eqb_tells machine.state 1) [
        | inl address ↦ address_nearer machine small address.1
        | inr no_address ↦ elim (eqb_tells machine.state 2) [
          | inl row ↦ row_nearer machine small row.1
          | inr waits ↦ waiting_nearer machine small no_address.1 waits.1
        ]
      ]

  none_left : (state count : ℕ) → words_left state count ≤ 0 → state ≡ 0
  none_left state count none = grind (arith, eqb_tells state 0, eqb_tells state 2, eqb_tells count 0)

  waits_after : (n : ℕ) (machine : Machine) → machine.count < 32 → words_left machine.state machine.count ≤ n → (after_words rows machine (replicate n word)).state ≡ 0
  waits_after zero machine small left = none_left machine.state machine.count left
  waits_after (suc n) machine small left =
      let next = nearer machine small in
      waits_after n (tick rows machine true word) next.count (omega (arith, next.fewer))

at_most : (state count : ℕ) → count < 32 → words_left state count ≤ 33
at_most state count small = grind (arith, eqb_tells state 0, eqb_tells state 2, eqb_tells count 0)

map_replicate : (n : ℕ) (word : ℕ) → map (digits 32) (replicate n word) ≡ replicate n (digits 32 word)
map_replicate zero word = refl
map_replicate (suc n) word = ap (λ words. digits 32 word ∷ words) (map_replicate n word)

waits_at_last : (rows n : ℕ) (machine : Machine) → machine.count < 32 → 33 ≤ n → (after_words rows machine (map (digits 32) (replicate n waiting_word))).state ≡ 0
waits_at_last rows n machine small enough =
    ap (λ words. (after_words rows machine words).state) (map_replicate n waiting_word)
    ∙ waits_after rows (digits 32 waiting_word) refl refl n machine small (omega (arith, at_most machine.state machine.count small))

-- ---- the words that wake the loader

wakes : (rows : ℕ) (machine : Machine) → machine.state ≡ 0 → (after_words rows machine (map (digits 32) synchronizing_words)).state ≡ 1
wakes rows machine is =
    let first : tick rows machine true (digits 32 11206401) ≡ record machine { state = 0; strobe = false }
    = waiting_tick rows machine (digits 32 11206401) (λ e. omega (arith, e)) (λ e. omega (arith, e)) in
    ap (λ next. (after_words rows next (map (digits 32) (1 ∷ 0 ∷ 0 ∷ wake_word ∷ []))).state) first

pub header_wakes : (rows : ℕ) (machine : Machine) → machine.count < 32 → (after_words rows machine (map (digits 32) header)).state ≡ 1
unfolding waiting_words
header_wakes rows machine small =
    let waiting = map (digits 32) waiting_words in
    let waits : (after_words rows machine waiting).state ≡ 0 = waits_at_last rows 33 machine small (omega arith) in
    ap (λ words. (after_words rows machine words).state) (map-append (digits 32) waiting_words synchronizing_words)
    ∙ ap (λ next. next.state) (after_both rows machine waiting (map (digits 32) synchronizing_words))
    ∙ wakes rows (after_words rows machine waiting) waits
