-- The items of a sample are readable.
use Rattle.std.proofs.Common.{◌≡◌, ℕ, zero, suc, ◌+◌, ◌-◌, ◌*◌, ◌%◌, ◌^◌, ◌≤◌, ◌<◌, Bool, true, false, cond, List, [], ◌∷◌, ◌++◌, length, map, codes, decimal, not, refl, sym, ap, subst, ◌∙◌, ◌⊎◌, inl, inr, arith, append-nil, append_assoc, length-append}
use Rattle.std.specs.Prelude.{◌==◌}
use Rattle.std.specs.List.{AllByRecursion as Each, count_by, flat_map, list_all, list_any, range_with_len, enumerate_from}
use Rattle.std.specs.Str.{bytes_eq}
use Rattle.std.proofs.lemmas.Bool.{cases_Bool, cases_lt, lt-ltb, le-ltb, false≢true}
use Rattle.std.proofs.lemmas.Bool.Decides.{nat_tests}
use Rattle.std.proofs.lemmas.Nat.{mul-le}
use Rattle.std.proofs.lemmas.List.Concat.{flat_map-append}
use Rattle.std.proofs.lemmas.List.Folds.{list_any-append}
use Rattle.std.proofs.lemmas.List.FromFn.{length-map-range_with_len, length-range_with_len}
use Rattle.fab_blif_models.specs.Words.{Word}
use Rattle.fab_blif_models.specs.Judge.{names_twice}
use Rattle.fab_lines.specs.Items.{is_among}
use Rattle.fab_blif.proofs.Each.{each_joined}
use Rattle.fab_sample.specs.declared.net.Net.TheVariants as sample
use Rattle.fab_sample.specs.Netlists.{net_name, digit}
use Rattle.fab_sample.specs.Drawn.{net_at, drawn_cover, drawn_latch, covers, latches}
use Rattle.fab_sample_laws.specs.Items.{Pattern, Item, pattern_row, item_rows, model_rows, cover_outputs, cover_inputs, latch_outputs, latch_inputs, Edge, edges}
use Rattle.fab_sample_laws.specs.Named.{item_covers, item_latches}
use Rattle.fab_sample_laws.specs.Samples.{patterns_of, cover_item, latch_item, output_item, sample_items, input_words, output_words}
use Rattle.fab_sample_laws.proofs.TextLines.{is_plain, is_word, is_row, are_rows, all_joined}
use Rattle.fab_sample_laws.proofs.JudgedRows.{ArePorts}
use Rattle.fab_sample_laws.proofs.DrivenOnce.{IsOnce, drive_words, nets}
use Rattle.fab_sample_laws.proofs.Sameness.{bytes_same, not_same, count_first, count_joined}
use Rattle.fab_sample_laws.proofs.PlacedItems.{read_words}
use Rattle.fab_sample_laws.proofs.OrderedCovers.{AreOrdered, driven_by}
use Rattle.fab_sample_laws.proofs.TaggedWords.{tagged, tagged_word, tagged_one, run, in_run, one_counted, counted_once}
use Rattle.fab_sample_laws.proofs.WholeTexts.{IsReadable}

-- ---- items by number

numbered : {X : Type 0} (f : ℕ → X) (first at count : ℕ) → first ≡ at → enumerate_from first (map f (range_with_len at count)) ≡ map (λ k. (k, f k)) (range_with_len at count)
numbered {X} f first at zero same = refl
numbered {X} f first at (suc count) same =
    (λ j. (same j, f at) ∷ numbered f (first + 1) (at + 1) count (ap (λ k. k + 1) same) j)

pub mapped_twice : {X Y Z : Type 0} (g : Y → Z) (f : X → Y) (xs : List X) → map g (map f xs) ≡ map (λ x. g (f x)) xs
mapped_twice g f [] = refl
mapped_twice g f (x ∷ xs) = ap (λ l. g (f x) ∷ l) (mapped_twice g f xs)

module _ (size : ℕ) (draws later : ℕ → ℕ) where
  abbrev pub cover_at : ℕ → Item
  cover_at number = cover_item (number, drawn_cover size draws number)

  abbrev pub latch_at : ℕ → Item
  latch_at number = latch_item (number, drawn_latch size later number)

  abbrev pub output_at : ℕ → Item
  output_at number = output_item (size * size - size) number

  -- the items, where the latches are drawn from other words
  abbrev pub items : List Item
  items = map cover_at (range_with_len 0 (size * size)) ++ (map latch_at (range_with_len 0 size) ++ map output_at (range_with_len 0 size))

  pub items_are : sample_items size (covers size draws) (latches size later) ≡ items
  items_are = λ j.
      (ap (map cover_item) (numbered (drawn_cover size draws) 0 0 (size * size) refl) ∙ mapped_twice cover_item (λ k. (k, drawn_cover size draws k)) (range_with_len 0 (size * size))) j
      ++ ((ap (map latch_item) (numbered (drawn_latch size later) 0 0 size refl) ∙ mapped_twice latch_item (λ k. (k, drawn_latch size later k)) (range_with_len 0 size)) j
      ++ map output_at (range_with_len 0 size))

  -- ---- what each kind of item gives

  pub flat_items : {X : Type 0} (F : Item → List X)
      → flat_map F items ≡ flat_map F (map cover_at (range_with_len 0 (size * size))) ++ (flat_map F (map latch_at (range_with_len 0 size)) ++ flat_map F (map output_at (range_with_len 0 size)))
  flat_items {X} F =
      flat_map-append F (map cover_at (range_with_len 0 (size * size))) (map latch_at (range_with_len 0 size) ++ map output_at (range_with_len 0 size))
      ∙ ap (λ (l : List X). flat_map F (map cover_at (range_with_len 0 (size * size))) ++ l) (flat_map-append F (map latch_at (range_with_len 0 size)) (map output_at (range_with_len 0 size)))

flat_one : {X Y : Type 0} (F : Item → List Y) (f : X → Item) (g : X → Y) → ((x : X) → F (f x) ≡ g x ∷ []) → (xs : List X) → flat_map F (map f xs) ≡ map g xs
flat_one F f g one [] = refl
flat_one F f g one (x ∷ xs) = (λ j. one x j ++ flat_one F f g one xs j)

flat_none : {X Y : Type 0} (F : Item → List Y) (f : X → Item) → ((x : X) → F (f x) ≡ []) → (xs : List X) → flat_map F (map f xs) ≡ []
flat_none F f none [] = refl
flat_none F f none (x ∷ xs) = (λ j. none x j ++ flat_none F f none xs j)

-- what holds of all numbers of a run
pub each_number : (P : ℕ → Type 0) (first count : ℕ) → ((number : ℕ) → first ≤ number → number < first + count → P number) → Each P (range_with_len first count)
each_number P first zero all = tt
each_number P first (suc count) all = (all first (omega arith) (omega arith), each_number P (first + 1) count (λ number least most. all number (omega (arith, least)) (omega (arith, most))))

pub each_flat_map : {X Y : Type 0} (P : Y → Type 0) (F : X → List Y) (f : ℕ → X) (numbers : List ℕ) → Each (λ number. Each P (F (f number))) numbers → Each P (flat_map F (map f numbers))
each_flat_map P F f [] all = tt
each_flat_map P F f (number ∷ numbers) all = each_joined P (F (f number)) (flat_map F (map f numbers)) all.0 (each_flat_map P F f numbers all.1)

-- ---- nets

-- a net of a place is an input, a latch or a cover
pub net_cases : (size place : ℕ) → ((net_at size place ≡ sample.Input place) × (place < size)) ⊎ (((net_at size place ≡ sample.Latch (place - size)) × (place - size < size)) ⊎ ((net_at size place ≡ sample.Cover (place - 2 * size)) × (2 * size ≤ place)))
net_cases size place = elim (cases_lt place size) [
  | inl below ↦ inl (rw (lt-ltb place size below) refl, below)
  | inr at ↦ elim (cases_lt place (2 * size)) [
    | inl less ↦ inr (inl (rw (le-ltb place size at, lt-ltb place (2 * size) less) refl, omega (arith, at, less)))
    | inr behind ↦ inr (inr (rw (le-ltb place size at, le-ltb place (2 * size) behind) refl, behind))
  ]
]

first_byte : (a b : ℕ) (front back : List ℕ) → a ∷ front ≡ b ∷ back → a ≡ b
first_byte a b front back same = cc

module _ (size : ℕ) (draws later : ℕ → ℕ) (some : 1 ≤ size) (most : size ≤ 16) where
  pub square : size * size ≤ 256
  square = mul-le size size 16 16 most most

  pub large : size ≤ size * size
  large = omega (arith, mul-le 1 size size size some (omega arith))

  wide : (number : ℕ) → number ≤ 256 → number < 2 ^ 64
  wide number few = omega (arith, few)

  -- ---- what is driven

  outputs_are : flat_map cover_outputs (items size draws later) ≡ run 110 0 (size * size) ++ run 111 0 size
  outputs_are =
      flat_items size draws later cover_outputs
      ∙ (λ j. flat_one cover_outputs (cover_at size draws later) (tagged 110) (λ x. refl) (range_with_len 0 (size * size)) j
      ++ (flat_none cover_outputs (latch_at size draws later) (λ x. refl) (range_with_len 0 size) j
      ++ flat_one cover_outputs (output_at size draws later) (tagged 111) (λ x. refl) (range_with_len 0 size) j))

  latches_are : flat_map latch_outputs (items size draws later) ≡ run 113 0 size
  latches_are =
      flat_items size draws later latch_outputs
      ∙ (λ j. flat_none latch_outputs (cover_at size draws later) (λ x. refl) (range_with_len 0 (size * size)) j
      ++ (flat_one latch_outputs (latch_at size draws later) (tagged 113) (λ x. refl) (range_with_len 0 size) j
      ++ flat_none latch_outputs (output_at size draws later) (λ x. refl) (range_with_len 0 size) j))
      ∙ append-nil (run 113 0 size)

  pub inputs_are : input_words size ≡ run 105 0 size
  inputs_are = mapped_twice net_name (λ number. sample.Input number) (range_with_len 0 size)

  pub output_words_are : output_words size ≡ run 111 0 size
  output_words_are = mapped_twice net_name (λ number. sample.Output number) (range_with_len 0 size)

  drives_are : drive_words (input_words size) (output_words size) (items size draws later) ≡ ((run 110 0 (size * size) ++ run 111 0 size) ++ run 113 0 size) ++ run 105 0 size
  drives_are = λ j. (outputs_are j ++ latches_are j) ++ inputs_are j

  drives_once : IsOnce (((run 110 0 (size * size) ++ run 111 0 size) ++ run 113 0 size) ++ run 105 0 size)
  drives_once name =
      omega (
        arith,
        count_joined (bytes_eq name) ((run 110 0 (size * size) ++ run 111 0 size) ++ run 113 0 size) (run 105 0 size),
        count_joined (bytes_eq name) (run 110 0 (size * size) ++ run 111 0 size) (run 113 0 size),
        count_joined (bytes_eq name) (run 110 0 (size * size)) (run 111 0 size),
        counted_once name (size * size) size size size (omega (arith, square)) (omega (arith, most)) (omega (arith, most)) (omega (arith, most)),
      )

  -- ---- what is read

  abbrev IsDriven : Word → Type 0
  IsDriven name = is_among (((run 110 0 (size * size) ++ run 111 0 size) ++ run 113 0 size) ++ run 105 0 size) name ≡ true

  in_first : (a b : List Word) (name : Word) → is_among a name ≡ true → is_among (a ++ b) name ≡ true
  in_first a b name is = list_any-append (bytes_eq name) a b ∙ rw is refl

  in_second : (a b : List Word) (name : Word) → is_among b name ≡ true → is_among (a ++ b) name ≡ true
  in_second a b name is = list_any-append (bytes_eq name) a b ∙ elim (cases_Bool (is_among a name)) [
    | inl t ↦ rw t refl
    | inr f ↦ rw f is
  ]

  cover_driven : (number : ℕ) → number < size * size → IsDriven (tagged 110 number)
  cover_driven number below =
      in_first ((run 110 0 (size * size) ++ run 111 0 size) ++ run 113 0 size) (run 105 0 size) (tagged 110 number)
      (in_first (run 110 0 (size * size) ++ run 111 0 size) (run 113 0 size) (tagged 110 number)
      (in_first (run 110 0 (size * size)) (run 111 0 size) (tagged 110 number) (in_run 110 0 (size * size) number (omega arith) (omega (arith, below)))))

  output_driven : (number : ℕ) → number < size → IsDriven (tagged 111 number)
  output_driven number below =
      in_first ((run 110 0 (size * size) ++ run 111 0 size) ++ run 113 0 size) (run 105 0 size) (tagged 111 number)
      (in_first (run 110 0 (size * size) ++ run 111 0 size) (run 113 0 size) (tagged 111 number)
      (in_second (run 110 0 (size * size)) (run 111 0 size) (tagged 111 number) (in_run 111 0 size number (omega arith) (omega (arith, below)))))

  latch_driven : (number : ℕ) → number < size → IsDriven (tagged 113 number)
  latch_driven number below =
      in_first ((run 110 0 (size * size) ++ run 111 0 size) ++ run 113 0 size) (run 105 0 size) (tagged 113 number)
      (in_second (run 110 0 (size * size) ++ run 111 0 size) (run 113 0 size) (tagged 113 number) (in_run 113 0 size number (omega arith) (omega (arith, below))))

  input_driven : (number : ℕ) → number < size → IsDriven (tagged 105 number)
  input_driven number below =
      in_second ((run 110 0 (size * size) ++ run 111 0 size) ++ run 113 0 size) (run 105 0 size) (tagged 105 number) (in_run 105 0 size number (omega arith) (omega (arith, below)))

  net_driven : (place : ℕ) → place < 2 * size + size * size → IsDriven (net_name (net_at size place))
  net_driven place below = elim (net_cases size place) [
    | inl input ↦ subst (λ net. IsDriven (net_name net)) (sym input.0) (input_driven place input.1)
    | inr (inl latch) ↦ subst (λ net. IsDriven (net_name net)) (sym latch.0) (latch_driven (place - size) latch.1)
    | inr (inr cover) ↦ subst (λ net. IsDriven (net_name net)) (sym cover.0) (cover_driven (place - 2 * size) (omega (arith, below, cover.1)))
  ]

  all_read : Each IsDriven (read_words (nets (input_words size) (output_words size) (items size draws later)) (input_words size) (output_words size) (items size draws later))
  all_read =
      each_joined IsDriven (flat_map cover_inputs (items size draws later)) (flat_map latch_inputs (items size draws later) ++ output_words size)
      (subst (Each IsDriven) (sym (flat_items size draws later cover_inputs))
      (each_joined IsDriven (flat_map cover_inputs (map (cover_at size draws later) (range_with_len 0 (size * size)))) _
      (each_flat_map IsDriven cover_inputs (cover_at size draws later) (range_with_len 0 (size * size)) (each_number _ 0 (size * size) by_cover))
      (each_joined IsDriven (flat_map cover_inputs (map (latch_at size draws later) (range_with_len 0 size))) _
      (each_flat_map IsDriven cover_inputs (latch_at size draws later) (range_with_len 0 size) (each_number _ 0 size (λ number least within. tt)))
      (each_flat_map IsDriven cover_inputs (output_at size draws later) (range_with_len 0 size) (each_number _ 0 size by_output)))))
      (each_joined IsDriven (flat_map latch_inputs (items size draws later)) (output_words size)
      (subst (Each IsDriven) (sym (flat_items size draws later latch_inputs))
      (each_joined IsDriven (flat_map latch_inputs (map (cover_at size draws later) (range_with_len 0 (size * size)))) _
      (each_flat_map IsDriven latch_inputs (cover_at size draws later) (range_with_len 0 (size * size)) (each_number _ 0 (size * size) (λ number least within. tt)))
      (each_joined IsDriven (flat_map latch_inputs (map (latch_at size draws later) (range_with_len 0 size))) _
      (each_flat_map IsDriven latch_inputs (latch_at size draws later) (range_with_len 0 size) (each_number _ 0 size by_latch))
      (each_flat_map IsDriven latch_inputs (output_at size draws later) (range_with_len 0 size) (each_number _ 0 size (λ number least within. tt))))))
      (subst (Each IsDriven) (sym output_words_are) (each_run (range_with_len 0 size) (each_number (λ number. IsDriven (tagged 111 number)) 0 size (λ number least within. output_driven number (omega (arith, within)))))))
    where
      drawn : (word known : ℕ) → 1 ≤ known → known ≤ 2 * size + size * size → IsDriven (net_name (net_at size (word % known)))
      drawn word known one few = net_driven (word % known) (omega (arith, one, few))

      by_cover : (number : ℕ) → 0 ≤ number → number < 0 + size * size → Each IsDriven (cover_inputs (cover_at size draws later number))
      by_cover number least within = (
        drawn (draws (4 * number)) (2 * size + number) (omega (arith, some)) (omega (arith, within)),
        (
          drawn (draws (4 * number + 1)) (2 * size + number) (omega (arith, some)) (omega (arith, within)),
          (drawn (draws (4 * number + 2)) (2 * size + number) (omega (arith, some)) (omega (arith, within)), tt),
        ),
      )

      by_output : (number : ℕ) → 0 ≤ number → number < 0 + size → Each IsDriven (cover_inputs (output_at size draws later number))
      by_output number least within = (cover_driven (size * size - size + number) (omega (arith, within, large)), tt)

      by_latch : (number : ℕ) → 0 ≤ number → number < 0 + size → Each IsDriven (latch_inputs (latch_at size draws later number))
      by_latch number least within = (cover_driven (later (2 * number) % (size * size)) (omega (arith, large, some)), tt)

      each_run : (numbers : List ℕ) → Each (λ number. IsDriven (tagged 111 number)) numbers → Each IsDriven (map (tagged 111) numbers)
      each_run [] all = tt
      each_run (number ∷ numbers) all = (all.0, each_run numbers all.1)

  -- ---- ports

  twice_none : (before names : List Word) → IsOnce (before ++ names) → names_twice before names ≡ false
  twice_none before [] once = refl
  twice_none before (name ∷ names) once =
      let step = count_joined (bytes_eq name) before (name ∷ names) in
      let first = count_first (bytes_eq name) name names in
      let here = ap (λ (b : Bool). cond {A = ℕ} b 1 0) (bytes_same name name refl) in
      elim (cases_Bool (is_among before name)) [
        | inl t ↦ absurd (omega (arith, once name, step, first, here, some_counted before t))
        | inr f ↦ rw f (twice_none (before ++ name ∷ []) names (subst IsOnce (sym (append_assoc before (name ∷ []) names)) once))
      ]
    where
      some_counted : (xs : List Word) → is_among xs name ≡ true → 1 ≤ count_by (bytes_eq name) xs
      some_counted [] is = absurd (false≢true is)
      some_counted (x ∷ xs) is = elim (cases_Bool (bytes_eq name x)) [
        | inl t ↦ omega (arith, count_first (bytes_eq name) x xs, ap (λ (b : Bool). cond {A = ℕ} b 1 0) t)
        | inr f ↦ (let rest : is_among xs name ≡ true = rw f at is in omega (arith, count_first (bytes_eq name) x xs, some_counted xs rest))
      ]

  run_once : (letter : ℕ) → IsOnce (run letter 0 size)
  run_once letter name = one_counted name letter 0 size (omega (arith, most))

  not_in_run : (letter other first count number : ℕ) → (letter ≡ other → ⊥) → is_among (run letter first count) (tagged other number) ≡ false
  not_in_run letter other first zero number differ = refl
  not_in_run letter other first (suc count) number differ =
      rw (not_same (tagged other number) (tagged letter first) (λ same. differ (sym (first_byte other letter (decimal number) (decimal first) same)))) (not_in_run letter other (first + 1) count number differ)

  other_letter : (letter other first count second more : ℕ) → (letter ≡ other → ⊥) → list_any (is_among (run letter first count)) (run other second more) ≡ false
  other_letter letter other first count second zero differ = refl
  other_letter letter other first count second (suc more) differ = rw (not_in_run letter other first count second differ) (other_letter letter other first count (second + 1) more differ)

  ports : ArePorts (input_words size) (output_words size)
  ports = record {
    inputs_once = ap (names_twice []) inputs_are ∙ twice_none [] (run 105 0 size) (run_once 105);
    outputs_once = ap (names_twice []) output_words_are ∙ twice_none [] (run 111 0 size) (run_once 111);
    apart = (λ j. list_any (is_among (inputs_are j)) (output_words_are j)) ∙ other_letter 105 111 0 size 0 size (λ same. omega (arith, same));
  }

  -- ---- the order of covers

  abbrev cover_edge : ℕ → Edge
  cover_edge number =
      let drawn = drawn_cover size draws number in
      (net_name drawn.first ∷ net_name drawn.second ∷ net_name drawn.third ∷ [], tagged 110 number)

  abbrev output_edge : ℕ → Edge
  output_edge number = (tagged 110 (size * size - size + number) ∷ [], tagged 111 number)

  edges_are : flat_map edges (items size draws later) ≡ map cover_edge (range_with_len 0 (size * size)) ++ map output_edge (range_with_len 0 size)
  edges_are =
      flat_items size draws later edges
      ∙ (λ j. flat_one edges (cover_at size draws later) cover_edge (λ x. refl) (range_with_len 0 (size * size)) j
      ++ (flat_none edges (latch_at size draws later) (λ x. refl) (range_with_len 0 size) j
      ++ flat_one edges (output_at size draws later) output_edge (λ x. refl) (range_with_len 0 size) j))

  -- a name that is that of no cover from one on and of no output
  not_output : (name : Word) (first count : ℕ) → ((number : ℕ) → name ≡ tagged 111 number → ⊥) → is_among (driven_by (map output_edge (range_with_len first count))) name ≡ false
  not_output name first zero none = refl
  not_output name first (suc count) none = rw (not_same name (tagged 111 first) (none first)) (not_output name (first + 1) count none)

  not_driven : (name : Word) (first count : ℕ) → ((number : ℕ) → first ≤ number → number < first + count → name ≡ tagged 110 number → ⊥) → ((number : ℕ) → name ≡ tagged 111 number → ⊥)
      → is_among (driven_by (map cover_edge (range_with_len first count) ++ map output_edge (range_with_len 0 size))) name ≡ false
  not_driven name first zero none also = not_output name 0 size also
  not_driven name first (suc count) none also =
      rw (not_same name (tagged 110 first) (none first (omega arith) (omega arith)))
      (not_driven name (first + 1) count (λ number least within. none number (omega (arith, least)) (omega (arith, within))) also)

  net_before : (first count place : ℕ) → first + count ≤ size * size → place < 2 * size + first
      → is_among (driven_by (map cover_edge (range_with_len first count) ++ map output_edge (range_with_len 0 size))) (net_name (net_at size place)) ≡ false
  net_before first count place within before = elim (net_cases size place) [
    | inl input ↦ subst (λ net. is_among (driven_by (map cover_edge (range_with_len first count) ++ map output_edge (range_with_len 0 size))) (net_name net) ≡ false) (sym input.0)
        (not_driven (tagged 105 place) first count (λ number least most same. letters 105 110 (decimal place) (decimal number) (λ e. omega (arith, e)) same) (λ number same. letters 105 111 (decimal place) (decimal number) (λ e. omega (arith, e)) same))
    | inr (inl latch) ↦ subst (λ net. is_among (driven_by (map cover_edge (range_with_len first count) ++ map output_edge (range_with_len 0 size))) (net_name net) ≡ false) (sym latch.0)
        (not_driven (tagged 113 (place - size)) first count (λ number least most same. letters 113 110 (decimal (place - size)) (decimal number) (λ e. omega (arith, e)) same)
        (λ number same. letters 113 111 (decimal (place - size)) (decimal number) (λ e. omega (arith, e)) same))
    | inr (inr cover) ↦ subst (λ net. is_among (driven_by (map cover_edge (range_with_len first count) ++ map output_edge (range_with_len 0 size))) (net_name net) ≡ false) (sym cover.0)
        (not_driven (tagged 110 (place - 2 * size)) first count
        (λ number least most same. (
        let both = tagged_one 110 110 (place - 2 * size) number (wide (place - 2 * size) (omega (arith, before, within, square))) (wide number (omega (arith, most, within, square))) same in
        omega (arith, both.1, least, before, cover.1)))
        (λ number same. letters 110 111 (decimal (place - 2 * size)) (decimal number) (λ e. omega (arith, e)) same))
  ]
    where
      letters : (letter other : ℕ) (a b : List ℕ) → (letter ≡ other → ⊥) → letter ∷ a ≡ other ∷ b → ⊥
      letters letter other a b differ same = differ (first_byte letter other a b same)

  drawn_before : (first count word : ℕ) → first + count ≤ size * size
      → is_among (driven_by (map cover_edge (range_with_len first count) ++ map output_edge (range_with_len 0 size))) (net_name (net_at size (word % (2 * size + first)))) ≡ false
  drawn_before first count word within = net_before first count (word % (2 * size + first)) within (let some_known : 1 ≤ 2 * size + first = omega (arith, some) in omega (arith, some_known))

  outputs_ordered : (first count : ℕ) → AreOrdered (map output_edge (range_with_len first count))
  outputs_ordered first zero = tt
  outputs_ordered first (suc count) = (
    (not_output (tagged 110 (size * size - size + first)) first (suc count) (λ number same. (let e : 110 ≡ 111 = first_byte 110 111 (decimal (size * size - size + first)) (decimal number) same in omega (arith, e))), tt),
    outputs_ordered (first + 1) count,
  )

  covers_ordered : (first count : ℕ) → first + count ≤ size * size → AreOrdered (map cover_edge (range_with_len first count) ++ map output_edge (range_with_len 0 size))
  covers_ordered first zero within = outputs_ordered 0 size
  covers_ordered first (suc count) within = (
    (drawn_before first (suc count) (draws (4 * first)) within, (drawn_before first (suc count) (draws (4 * first + 1)) within, (drawn_before first (suc count) (draws (4 * first + 2)) within, tt))),
    covers_ordered (first + 1) count (omega (arith, within)),
  )

  ordered : AreOrdered (flat_map edges (items size draws later))
  ordered = subst AreOrdered (sym edges_are) (covers_ordered 0 (size * size) (omega arith))

  -- ---- words

  net_word : (place : ℕ) → place < 2 * size + size * size → is_word (net_name (net_at size place)) ≡ true
  net_word place below = elim (net_cases size place) [
    | inl input ↦ ap (λ net. is_word (net_name net)) input.0 ∙ tagged_word 105 place refl (wide place (omega (arith, input.1, most)))
    | inr (inl latch) ↦ ap (λ net. is_word (net_name net)) latch.0 ∙ tagged_word 113 (place - size) refl (wide (place - size) (omega (arith, latch.1, most)))
    | inr (inr cover) ↦ ap (λ net. is_word (net_name net)) cover.0 ∙ tagged_word 110 (place - 2 * size) refl (wide (place - 2 * size) (omega (arith, below, square)))
  ]

  drawn_word : (word known : ℕ) → 1 ≤ known → known ≤ 2 * size + size * size → is_word (net_name (net_at size (word % known))) ≡ true
  drawn_word word known one few = net_word (word % known) (omega (arith, one, few))

  patterns_rows : (patterns : List Pattern) → list_all is_row (map pattern_row patterns) ≡ true
  patterns_rows [] = refl
  patterns_rows ((true, true, true) ∷ patterns) = patterns_rows patterns
  patterns_rows ((true, true, false) ∷ patterns) = patterns_rows patterns
  patterns_rows ((true, false, true) ∷ patterns) = patterns_rows patterns
  patterns_rows ((true, false, false) ∷ patterns) = patterns_rows patterns
  patterns_rows ((false, true, true) ∷ patterns) = patterns_rows patterns
  patterns_rows ((false, true, false) ∷ patterns) = patterns_rows patterns
  patterns_rows ((false, false, true) ∷ patterns) = patterns_rows patterns
  patterns_rows ((false, false, false) ∷ patterns) = patterns_rows patterns

  row_of : (first : Word) (rest : List Word) → is_word first ≡ true → list_all is_word rest ≡ true → is_row (first ∷ rest) ≡ true
  row_of first rest here there =
      let filled : not (length (first ∷ rest) == 0) ≡ true = grind (arith, nat_tests) in
      rw (filled, here, there) refl

  cover_rows : (number : ℕ) → number < size * size → list_all is_row (item_rows (cover_at size draws later number)) ≡ true
  cover_rows number below =
      let drawn = drawn_cover size draws number in
      let known = 2 * size + number in
      let a = drawn_word (draws (4 * number)) known (omega (arith, some)) (omega (arith, below)) in
      let b = drawn_word (draws (4 * number + 1)) known (omega (arith, some)) (omega (arith, below)) in
      let c = drawn_word (draws (4 * number + 2)) known (omega (arith, some)) (omega (arith, below)) in
      let d = tagged_word 110 number refl (wide number (omega (arith, below, square))) in
      let words : list_all is_word (net_name drawn.first ∷ net_name drawn.second ∷ net_name drawn.third ∷ tagged 110 number ∷ []) ≡ true = rw (a, b, c, d) refl in
      rw (row_of (codes ".names") (net_name drawn.first ∷ net_name drawn.second ∷ net_name drawn.third ∷ tagged 110 number ∷ []) refl words) (patterns_rows (patterns_of drawn.table))

  latch_rows : (number : ℕ) → number < size → list_all is_row (item_rows (latch_at size draws later number)) ≡ true
  latch_rows number below =
      let drawn = drawn_latch size later number in
      let read = later (2 * number) % (size * size) in
      let a = tagged_word 110 read refl (wide read (omega (arith, large, some, square))) in
      let b = tagged_word 113 number refl (wide number (omega (arith, below, most))) in
      let words : list_all is_word (tagged 110 read ∷ tagged 113 number ∷ (digit drawn.initial ∷ []) ∷ []) ≡ true = rw (a, b, digit_word drawn.initial) refl in
      rw (row_of (codes ".latch") (tagged 110 read ∷ tagged 113 number ∷ (digit drawn.initial ∷ []) ∷ []) refl words) refl
    where
      digit_word : (bit : Bool) → is_word (digit bit ∷ []) ≡ true
      digit_word true = refl
      digit_word false = refl

  output_rows : (number : ℕ) → number < size → list_all is_row (item_rows (output_at size draws later number)) ≡ true
  output_rows number below =
      let read = size * size - size + number in
      let a = tagged_word 110 read refl (wide read (omega (arith, large, below, square))) in
      let b = tagged_word 111 number refl (wide number (omega (arith, below, most))) in
      let words : list_all is_word (tagged 110 read ∷ tagged 111 number ∷ []) ≡ true = rw (a, b) refl in
      rw (row_of (codes ".names") (tagged 110 read ∷ tagged 111 number ∷ []) refl words) refl

  all_flat : {X : Type 0} (p : X → Bool) (F : Item → List X) (f : ℕ → Item) (numbers : List ℕ) → Each (λ number. list_all p (F (f number)) ≡ true) numbers → list_all p (flat_map F (map f numbers)) ≡ true
  all_flat p F f [] all = refl
  all_flat p F f (number ∷ numbers) all = all_joined p (F (f number)) (flat_map F (map f numbers)) all.0 (all_flat p F f numbers all.1)

  run_words : (letter : ℕ) → is_plain letter ≡ true → (first count : ℕ) → first + count ≤ 256 → list_all is_word (run letter first count) ≡ true
  run_words letter plain first zero few = refl
  run_words letter plain first (suc count) few = rw (tagged_word letter first plain (wide first (omega (arith, few)))) (run_words letter plain (first + 1) count (omega (arith, few)))

  rows_are : are_rows (model_rows (codes "sample") (input_words size) (output_words size) (items size draws later)) ≡ true
  rows_are =
      let inner : list_all is_row (flat_map item_rows (items size draws later)) ≡ true =
      ap (list_all is_row) (flat_items size draws later item_rows)
      ∙ all_joined is_row (flat_map item_rows (map (cover_at size draws later) (range_with_len 0 (size * size)))) _
      (all_flat is_row item_rows (cover_at size draws later) (range_with_len 0 (size * size)) (each_number _ 0 (size * size) (λ number least within. cover_rows number (omega (arith, within)))))
      (all_joined is_row (flat_map item_rows (map (latch_at size draws later) (range_with_len 0 size))) _
      (all_flat is_row item_rows (latch_at size draws later) (range_with_len 0 size) (each_number _ 0 size (λ number least within. latch_rows number (omega (arith, within)))))
      (all_flat is_row item_rows (output_at size draws later) (range_with_len 0 size) (each_number _ 0 size (λ number least within. output_rows number (omega (arith, within)))))) in
      let ins = row_of (codes ".inputs") (input_words size) refl (ap (list_all is_word) inputs_are ∙ run_words 105 refl 0 size (omega (arith, most))) in
      let outs = row_of (codes ".outputs") (output_words size) refl (ap (list_all is_word) output_words_are ∙ run_words 111 refl 0 size (omega (arith, most))) in
      rw (ins, outs) (all_joined is_row (flat_map item_rows (items size draws later)) ((codes ".end" ∷ []) ∷ []) inner refl)

  pub readable : IsReadable (codes "sample") (input_words size) (output_words size) (items size draws later)
  readable = record {
    rows = rows_are;
    ports = ports;
    once = subst IsOnce (sym drives_are) drives_once;
    driven = subst (λ (drives : List Word). Each (λ name. is_among drives name ≡ true) (read_words (nets (input_words size) (output_words size) (items size draws later)) (input_words size) (output_words size) (items size draws later))) (sym drives_are) all_read;
    ordered = ordered;
    few = omega (
      arith,
      square,
      most,
      ap length inputs_are,
      ap length output_words_are,
      length-map-range_with_len (tagged 105) 0 size,
      length-map-range_with_len (tagged 111) 0 size,
      length-append (map (cover_at size draws later) (range_with_len 0 (size * size))) (map (latch_at size draws later) (range_with_len 0 size) ++ map (output_at size draws later) (range_with_len 0 size)),
      length-append (map (latch_at size draws later) (range_with_len 0 size)) (map (output_at size draws later) (range_with_len 0 size)),
      length-map-range_with_len (cover_at size draws later) 0 (size * size),
      length-map-range_with_len (latch_at size draws later) 0 size,
      length-map-range_with_len (output_at size draws later) 0 size,
    );
  }

  -- ---- counts

  pub input_count : length (input_words size) ≡ size
  input_count = ap length inputs_are ∙ length-map-range_with_len (tagged 105) 0 size

  pub output_count : length (output_words size) ≡ size
  output_count = ap length output_words_are ∙ length-map-range_with_len (tagged 111) 0 size

  one_of : {X : Type 0} (F : Item → List X) (f : ℕ → Item) → ((number : ℕ) → length (F (f number)) ≡ 1) → (numbers : List ℕ) → length (flat_map F (map f numbers)) ≡ length numbers
  one_of F f one [] = refl
  one_of F f one (number ∷ numbers) = omega (arith, length-append (F (f number)) (flat_map F (map f numbers)), one number, one_of F f one numbers)

  none_of : {X : Type 0} (F : Item → List X) (f : ℕ → Item) → ((number : ℕ) → length (F (f number)) ≡ 0) → (numbers : List ℕ) → length (flat_map F (map f numbers)) ≡ 0
  none_of F f none [] = refl
  none_of F f none (number ∷ numbers) = omega (arith, length-append (F (f number)) (flat_map F (map f numbers)), none number, none_of F f none numbers)

  counted_items : {X : Type 0} (F : Item → List X)
      → length (flat_map F (items size draws later)) ≡ length (flat_map F (map (cover_at size draws later) (range_with_len 0 (size * size)))) + (length (flat_map F (map (latch_at size draws later) (range_with_len 0 size))) + length (flat_map F (map (output_at size draws later) (range_with_len 0 size))))
  counted_items {X} F =
      ap length (flat_items size draws later F)
      ∙ length-append (flat_map F (map (cover_at size draws later) (range_with_len 0 (size * size)))) (flat_map F (map (latch_at size draws later) (range_with_len 0 size)) ++ flat_map F (map (output_at size draws later) (range_with_len 0 size)))
      ∙ ap (λ n. length (flat_map F (map (cover_at size draws later) (range_with_len 0 (size * size)))) + n)
      (length-append (flat_map F (map (latch_at size draws later) (range_with_len 0 size))) (flat_map F (map (output_at size draws later) (range_with_len 0 size))))

  pub cover_count : length (flat_map item_covers (items size draws later)) ≡ size * size + size
  cover_count =
      omega (
        arith,
        counted_items item_covers,
        one_of item_covers (cover_at size draws later) (λ number. refl) (range_with_len 0 (size * size)),
        none_of item_covers (latch_at size draws later) (λ number. refl) (range_with_len 0 size),
        one_of item_covers (output_at size draws later) (λ number. refl) (range_with_len 0 size),
        length-range_with_len 0 (size * size),
        length-range_with_len 0 size,
      )

  pub latch_count : length (flat_map item_latches (items size draws later)) ≡ size
  latch_count =
      omega (
        arith,
        counted_items item_latches,
        none_of item_latches (cover_at size draws later) (λ number. refl) (range_with_len 0 (size * size)),
        one_of item_latches (latch_at size draws later) (λ number. refl) (range_with_len 0 size),
        none_of item_latches (output_at size draws later) (λ number. refl) (range_with_len 0 size),
        length-range_with_len 0 size,
      )
