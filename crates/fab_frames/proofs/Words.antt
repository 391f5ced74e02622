-- The words of rows by their bits.
use Rattle.std.proofs.Common.{◌≡◌, ℕ, zero, suc, ◌/◌, ◌^◌, ◌<◌, Bool, true, false, ◌&&◌, ◌||◌, not, is_some, Option, Some, None, option_map, length, get_or, refl, sym, ap, ◌∙◌, arith}
use Rattle.std.specs.List.{list_any}
use Rattle.std.specs.Option.{option_map_or}
use Rattle.std.proofs.lemmas.List.{ext_get_or}
use Rattle.fab_bits.specs.Bits.{number, digits, first_bits}
use Rattle.fab_bits.proofs.Numbers.{length_first_bits, get_first_bits, first_bits_same}
use Rattle.fab_model.specs.Tiles.{counted}
use Rattle.fab_frames.specs.Stream.{placed_word, word_bit, has_spare}
use Rattle.fab_frames.proofs.Numbers.{digits_number, number_digits}

-- ---- words that have the bits of a tile

-- the bit that stands at a bit of a row
abbrev pub bit_there : {X : Type 0} → (placed : ℕ → Option X) → (bits : X → Bool) → (bit : ℕ) → Bool
bit_there placed bits bit = option_map_or bits (placed bit) false

pub placed_word_same : {X : Type 0} (first second : ℕ → Option X) (bits : X → Bool) → ((bit : ℕ) → bit < 32 → first bit ≡ second bit) → placed_word first bits ≡ placed_word second bits
unfolding placed_word
placed_word_same first second bits same =
    ap number (first_bits_same 32 (bit_there first bits) (bit_there second bits) (λ bit small. ap (λ o. option_map_or bits o false) (same bit small)))

mapped_bit : {X Y : Type 0} (g : X → Y) (bits : Y → Bool) (found : Option X) → option_map_or (λ x. bits (g x)) found false ≡ option_map_or bits (option_map g found) false
mapped_bit g bits None = refl
mapped_bit g bits (Some x) = refl

-- configuration bits that are told in another way
pub placed_word_mapped : {X Y : Type 0} (g : X → Y) (placed : ℕ → Option X) (bits : Y → Bool) → placed_word placed (λ x. bits (g x)) ≡ placed_word (λ bit. option_map g (placed bit)) bits
unfolding placed_word
placed_word_mapped g placed bits =
    ap number (first_bits_same 32 (bit_there placed (λ x. bits (g x))) (bit_there (λ bit. option_map g (placed bit)) bits) (λ bit small. mapped_bit g bits (placed bit)))

length_digits : (n word : ℕ) → length (digits n word) ≡ n
length_digits zero word = refl
length_digits (suc n) word = ap suc (length_digits n (word / 2))

first_digits : (n word : ℕ) → first_bits n (λ bit. get_or (digits n word) bit false) ≡ digits n word
first_digits n word =
    let long : length (digits n word) ≡ n = length_digits n word in
    let f : ℕ → Bool = λ bit. get_or (digits n word) bit false in
    ext_get_or false (first_bits n f) (digits n word) (length_first_bits n f ∙ sym long) (λ i few. get_first_bits n f i false (omega (arith, few, length_first_bits n f)))

-- a word is that which has its bits
bits_of_word : (n word : ℕ) (f : ℕ → Bool) → word < 2 ^ n → ((bit : ℕ) → bit < n → f bit ≡ get_or (digits n word) bit false) → number (first_bits n f) ≡ word
bits_of_word n word f small same = ap number (first_bits_same n f (λ bit. get_or (digits n word) bit false) same ∙ first_digits n word) ∙ number_digits n word small

pub placed_word_is : {X : Type 0} (placed : ℕ → Option X) (bits : X → Bool) (word : ℕ) → word < 2 ^ 32 → ((bit : ℕ) → bit < 32 → bit_there placed bits bit ≡ word_bit word bit) → placed_word placed bits ≡ word
unfolding placed_word word_bit
placed_word_is placed bits word small same = bits_of_word 32 word (bit_there placed bits) small same

digit_of_bits : (n : ℕ) (f : ℕ → Bool) (bit : ℕ) → bit < n → get_or (digits n (number (first_bits n f))) bit false ≡ f bit
digit_of_bits n f bit small =
    ap (λ k. get_or (digits k (number (first_bits n f))) bit false) (sym (length_first_bits n f))
    ∙ ap (λ bs. get_or bs bit false) (digits_number (first_bits n f))
    ∙ get_first_bits n f bit false small

-- the bits of such a word
pub bit_of_word : {X : Type 0} (placed : ℕ → Option X) (bits : X → Bool) (bit : ℕ) → bit < 32 → word_bit (placed_word placed bits) bit ≡ bit_there placed bits bit
unfolding placed_word word_bit
bit_of_word placed bits bit small = digit_of_bits 32 (bit_there placed bits) bit small

-- ---- spare bits

any_at : (n : ℕ) (f : ℕ → ℕ) (test : ℕ → Bool) (i : ℕ) → i < n → test (f i) ≡ true → list_any test (counted n f) ≡ true
unfolding counted
any_at zero f test i few is = absurd (omega (arith, few))
any_at (suc n) f test zero few is = ap (λ b. b || list_any test (counted n (λ i. f (suc i)))) is
any_at (suc n) f test (suc i) few is =
    let rest : list_any test (counted n (λ i. f (suc i))) ≡ true = any_at n (λ i. f (suc i)) test i (omega (arith, few)) is in
    ap (λ b. test (f 0) || b) rest ∙ elim (test (f 0)) as (λ b. (b || true) ≡ true) [ true ↦ refl | false ↦ refl ]

none_at : (n : ℕ) (f : ℕ → ℕ) (test : ℕ → Bool) → ((i : ℕ) → i < n → test (f i) ≡ false) → list_any test (counted n f) ≡ false
unfolding counted
none_at zero f test none = refl
none_at (suc n) f test none =
    ap (λ b. b || list_any test (counted n (λ i. f (suc i)))) (none 0 (omega arith)) ∙ none_at n (λ i. f (suc i)) test (λ i few. none (suc i) (omega (arith, few)))

-- a bit of a word is 1 where no configuration bit is placed
abbrev pub is_spare : {X : Type 0} → (placed : ℕ → Option X) → (word bit : ℕ) → Bool
is_spare placed word bit = word_bit word bit && not (is_some (placed bit))

pub spare_at : {X : Type 0} (placed : ℕ → Option X) (word bit : ℕ) → bit < 32 → is_spare placed word bit ≡ true → has_spare placed word ≡ true
unfolding has_spare
spare_at placed word bit small is = any_at 32 (λ bit. bit) (is_spare placed word) bit small is

pub no_spare : {X : Type 0} (placed : ℕ → Option X) (word : ℕ) → ((bit : ℕ) → bit < 32 → is_spare placed word bit ≡ false) → has_spare placed word ≡ false
unfolding has_spare
no_spare placed word none = none_at 32 (λ bit. bit) (is_spare placed word) none

pub not_spare_at : {X : Type 0} (placed : ℕ → Option X) (word bit : ℕ) → bit < 32 → has_spare placed word ≡ false → is_spare placed word bit ≡ false
not_spare_at placed word bit small none =
    elim (is_spare placed word bit) as (λ b. is_spare placed word bit ≡ b → b ≡ false) [
      | true ↦ λ is. (let some : has_spare placed word ≡ true = spare_at placed word bit small is in cc)
      | false ↦ λ is. refl
    ] refl

-- where no configuration bit is placed, words that are fine have 0
pub zero_there : {X : Type 0} (placed : ℕ → Option X) (word bit : ℕ) → bit < 32 → has_spare placed word ≡ false → placed bit ≡ None → word_bit word bit ≡ false
zero_there placed word bit small none is =
    let fine : is_spare placed word bit ≡ false = not_spare_at placed word bit small none in
    let there : word_bit word bit && true ≡ false = sym (ap (λ o. word_bit word bit && not (is_some o)) is) ∙ fine in
    elim (word_bit word bit) as (λ b. b && true ≡ false → b ≡ false) [ true ↦ λ e. e | false ↦ λ e. refl ] there

fine_there : {X : Type 0} (bits : X → Bool) (found : Option X) → (option_map_or bits found false && not (is_some found)) ≡ false
fine_there bits None = refl
fine_there bits (Some number) = elim (bits number) as (λ b. (b && false) ≡ false) [ true ↦ refl | false ↦ refl ]

-- a word that has the bits of a tile has no spare bit
pub placed_word_fine : {X : Type 0} (placed : ℕ → Option X) (bits : X → Bool) → has_spare placed (placed_word placed bits) ≡ false
placed_word_fine placed bits = no_spare placed (placed_word placed bits) (λ bit small.
    ap (λ b. b && not (is_some (placed bit))) (bit_of_word placed bits bit small) ∙ fine_there bits (placed bit))

pub all_bits : {X : Type 0} (placed : ℕ → Option X) (bits : X → Bool) (n word : ℕ) → n ≡ 32 → word ≡ number (first_bits n (bit_there placed bits)) → word ≡ placed_word placed bits
unfolding placed_word
all_bits placed bits n word all is = is ∙ ap (λ k. number (first_bits k (bit_there placed bits))) all

any_same : (n : ℕ) (f : ℕ → ℕ) (first second : ℕ → Bool) → ((i : ℕ) → i < n → first (f i) ≡ second (f i)) → list_any first (counted n f) ≡ list_any second (counted n f)
unfolding counted
any_same zero f first second same = refl
any_same (suc n) f first second same =
    let here : first (f 0) ≡ second (f 0) = same 0 (omega arith) in
    let rest : list_any first (counted n (λ i. f (suc i))) ≡ list_any second (counted n (λ i. f (suc i))) = any_same n (λ i. f (suc i)) first second (λ i few. same (suc i) (omega (arith, few))) in
    λ i. here i || rest i

pub has_spare_same : {X Y : Type 0} (first : ℕ → Option X) (second : ℕ → Option Y) (word : ℕ) → ((bit : ℕ) → bit < 32 → is_some (first bit) ≡ is_some (second bit)) → has_spare first word ≡ has_spare second word
unfolding has_spare
has_spare_same first second word same =
    any_same 32 (λ bit. bit) (is_spare first word) (is_spare second word) (λ bit small. ap (λ b. word_bit word bit && not b) (same bit small))

some_mapped : {X Y : Type 0} (g : X → Y) (found : Option X) → is_some found ≡ is_some (option_map g found)
some_mapped g None = refl
some_mapped g (Some x) = refl

pub has_spare_mapped : {X Y : Type 0} (g : X → Y) (placed : ℕ → Option X) (word : ℕ) → has_spare placed word ≡ has_spare (λ bit. option_map g (placed bit)) word
has_spare_mapped g placed word = has_spare_same placed (λ bit. option_map g (placed bit)) word (λ bit small. some_mapped g (placed bit))
