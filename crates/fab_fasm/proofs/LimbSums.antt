-- Numbers of any size, limb by limb.
use Rattle.std.proofs.Common.{◌≡◌, ℕ, suc, ◌+◌, ◌-◌, ◌*◌, ◌/◌, ◌%◌, ◌^◌, ◌<◌, ◌≤◌, eqb, ltb, List, [], ◌∷◌, ◌++◌, length, take, drop, get_or, sym, ap, ◌∙◌, inl, inr, arith, lit<, add-one, div-add-mod', append-nil}
use Rattle.std.proofs.lemmas.Bool.{cases_lt, lt-ltb, le-ltb}
use Rattle.std.proofs.lemmas.List.{take_more, take_more_set, drop_more, drop-set-lt, length-take, length-take-le, get_or-take, get_or_past, drop_all}
use Rattle.std.proofs.lemmas.Nat.{pow-add, mul-le}
use Rattle.std.proofs.Math.ListN.{set}
use Rattle.std.proofs.Math.Seq.{take-length}
use Rattle.std.proofs.Math.Nat.{mul-le-mul_left}
use Rattle.fab_fasm.specs.inner.Limbs.{limbs_number}
use Rattle.fab_fasm.proofs.Powers.{power_more, nothing_left}

-- the weight of a limb more
weight_more : (limbs : ℕ) → 2 ^ (32 * (limbs + 1)) ≡ 2 ^ (32 * limbs) * 2 ^ 32
weight_more limbs =
    let one : 32 * (limbs + 1) ≡ 32 * limbs + 32 = omega arith in
    ap (λ n. 2 ^ n) one ∙ pow-add 2 (32 * limbs) 32

regrouped : (first rest weight more limb : ℕ) → more ≡ weight * 2 ^ 32 → first + 2 ^ 32 * (rest + weight * limb) ≡ (first + 2 ^ 32 * rest) + more * limb
regrouped first rest weight more limb is = rw is (omega arith)

-- a limb more
pub number_push : (limbs : List ℕ) (limb : ℕ) → limbs_number (limbs ++ limb ∷ []) ≡ limbs_number limbs + 2 ^ (32 * length limbs) * limb
unfolding limbs_number
number_push [] limb = omega arith
number_push (first ∷ limbs) limb =
    let one : 2 ^ (32 * length (first ∷ limbs)) ≡ 2 ^ (32 * length limbs) * 2 ^ 32 = ap (λ n. 2 ^ (32 * n)) (sym (add-one (length limbs))) ∙ weight_more (length limbs) in
    ap (λ n. first + 2 ^ 32 * n) (number_push limbs limb) ∙ regrouped first (limbs_number limbs) (2 ^ (32 * length limbs)) _ limb one

-- a limb more of those that are taken
pub number_more : (limbs : List ℕ) (place : ℕ) → place < length limbs → limbs_number (take (place + 1) limbs) ≡ limbs_number (take place limbs) + 2 ^ (32 * place) * get_or limbs place 0
number_more limbs place below =
    ap limbs_number (take_more limbs place 0 below) ∙ number_push (take place limbs) (get_or limbs place 0)
    ∙ ap (λ n. limbs_number (take place limbs) + 2 ^ (32 * n) * get_or limbs place 0) (length-take-le place limbs (omega arith))

-- the same where the limb was written
number_more_set : (limbs : List ℕ) (place limb : ℕ) → place < length limbs → limbs_number (take (place + 1) (set limbs place limb)) ≡ limbs_number (take place limbs) + 2 ^ (32 * place) * limb
number_more_set limbs place limb below =
    ap limbs_number (take_more_set limbs place limb below) ∙ number_push (take place limbs) limb
    ∙ ap (λ n. limbs_number (take place limbs) + 2 ^ (32 * n) * limb) (length-take-le place limbs (omega arith))

carried_on : (done old weight limb radix carry digit low high : ℕ) → done + weight * carry ≡ old * radix + digit → high * 2 ^ 32 + low ≡ limb * radix + carry
    → (done + weight * low) + (weight * 2 ^ 32) * high ≡ (old + weight * limb) * radix + digit
carried_on done old weight limb radix carry digit low high so_far sum =
    let scaled : weight * (high * 2 ^ 32 + low) ≡ weight * (limb * radix + carry) = ap (λ n. weight * n) sum in
    omega arith

-- one limb more of a number times a digit
pub limb_carried : (limbs old : List ℕ) (place radix carry digit sum : ℕ) → place < length limbs → place < length old → drop place limbs ≡ drop place old
    → sum ≡ get_or limbs place 0 * radix + carry
    → limbs_number (take place limbs) + 2 ^ (32 * place) * carry ≡ limbs_number (take place old) * radix + digit
    → limbs_number (take (place + 1) (set limbs place (sum % 2 ^ 32))) + 2 ^ (32 * (place + 1)) * (sum / 2 ^ 32) ≡ limbs_number (take (place + 1) old) * radix + digit
limb_carried limbs old place radix carry digit sum below within same is so_far =
    let limb : get_or limbs place 0 ≡ get_or old place 0 = cc (drop_more limbs place 0 below, drop_more old place 0 within) in
    let split : sum / 2 ^ 32 * 2 ^ 32 + sum % 2 ^ 32 ≡ get_or old place 0 * radix + carry = div-add-mod' sum (2 ^ 32) ∙ is ∙ ap (λ l. l * radix + carry) limb in
    ap (λ n. n + 2 ^ (32 * (place + 1)) * (sum / 2 ^ 32)) (number_more_set limbs place (sum % 2 ^ 32) below)
    ∙ ap (λ w. limbs_number (take place limbs) + 2 ^ (32 * place) * (sum % 2 ^ 32) + w * (sum / 2 ^ 32)) (weight_more place)
    ∙ carried_on (limbs_number (take place limbs)) (limbs_number (take place old)) (2 ^ (32 * place)) (get_or old place 0) radix carry digit (sum % 2 ^ 32) (sum / 2 ^ 32) so_far split
    ∙ ap (λ n. n * radix + digit) (sym (number_more old place within))

-- what follows a limb that is written stays
pub rest_stays : (limbs old : List ℕ) (place limb : ℕ) → place < length limbs → place < length old → drop place limbs ≡ drop place old → drop (place + 1) (set limbs place limb) ≡ drop (place + 1) old
rest_stays limbs old place limb below within same =
    drop-set-lt (place + 1) limbs place limb (omega arith) ∙ cc (drop_more limbs place 0 below, drop_more old place 0 within)

-- a sum of a limb times what digits have and what is carried
pub sum_bound : (limb scale carry : ℕ) → limb < 2 ^ 32 → scale < 2 ^ 32 → carry < 2 ^ 32 → limb * scale + carry < 2 ^ 64
sum_bound limb scale carry small few less =
    let product : limb * scale ≤ (2 ^ 32 - 1) * (2 ^ 32 - 1) = mul-le limb scale (2 ^ 32 - 1) (2 ^ 32 - 1) (omega arith) (omega arith) in
    omega arith

-- ---- a number of limbs against a power of two

number_below : (limbs : List ℕ) → ((k : ℕ) → get_or limbs k 0 < 2 ^ 32) → limbs_number limbs < 2 ^ (32 * length limbs)
unfolding limbs_number
number_below [] small = lit< tt
number_below (first ∷ limbs) small =
    let here : first < 2 ^ 32 = small 0 in
    let rest : limbs_number limbs < 2 ^ (32 * length limbs) = number_below limbs (λ k. small (suc k)) in
    let one : 2 ^ (32 * length (first ∷ limbs)) ≡ 2 ^ (32 * length limbs) * 2 ^ 32 = ap (λ n. 2 ^ (32 * n)) (sym (add-one (length limbs))) ∙ weight_more (length limbs) in
    rw one (omega arith)

-- few limbs fit
pub narrow_short : (limbs : List ℕ) (whole bits : ℕ) → ((k : ℕ) → get_or limbs k 0 < 2 ^ 32) → length limbs ≤ whole → 32 * whole ≤ bits → limbs_number limbs < 2 ^ bits
narrow_short limbs whole bits small few less =
    let below = number_below limbs small in
    let more = power_more (32 * length limbs) bits (omega arith) in
    omega arith

-- a number is judged by what stands above some weight
pub above_weight : (low weight high power : ℕ) → low < weight → ltb (low + weight * high) (weight * power) ≡ ltb high power
above_weight low weight high power below = elim (cases_lt high power) [
  | inl less ↦
      let product : weight * (high + 1) ≤ weight * power = mul-le-mul_left weight (omega arith) in
      lt-ltb (low + weight * high) (weight * power) (omega arith) ∙ sym (lt-ltb high power less)
  | inr more ↦
      let product : weight * power ≤ weight * high = mul-le-mul_left weight more in
      le-ltb (low + weight * high) (weight * power) (omega arith) ∙ sym (le-ltb high power more)
]

-- the last limb decides where all are there
pub narrow_last : (limbs : List ℕ) (whole more bits : ℕ) → ((k : ℕ) → get_or limbs k 0 < 2 ^ 32) → length limbs ≡ whole + 1 → bits ≡ 32 * whole + more
    → eqb (get_or limbs whole 0 / 2 ^ more) 0 ≡ ltb (limbs_number limbs) (2 ^ bits)
narrow_last limbs whole more bits small all is =
    let front : length (take whole limbs) ≡ whole = length-take-le whole limbs (omega arith) in
    let number : limbs_number limbs ≡ limbs_number (take whole limbs) + 2 ^ (32 * whole) * get_or limbs whole 0 =
    ap limbs_number (sym (take-length limbs) ∙ ap (λ n. take n limbs) all) ∙ number_more limbs whole (omega arith) in
    let power : 2 ^ bits ≡ 2 ^ (32 * whole) * 2 ^ more = ap (λ n. 2 ^ n) is ∙ pow-add 2 (32 * whole) more in
    let low : limbs_number (take whole limbs) < 2 ^ (32 * whole) = rw front at (number_below (take whole limbs) (λ k. small_taken limbs whole k small)) in
    nothing_left (get_or limbs whole 0) more
    ∙ sym (above_weight (limbs_number (take whole limbs)) (2 ^ (32 * whole)) (get_or limbs whole 0) (2 ^ more) low)
    ∙ ap (λ n. ltb n (2 ^ (32 * whole) * 2 ^ more)) (sym number)
    ∙ ap (λ n. ltb (limbs_number limbs) n) (sym power)
  where
    small_taken : (limbs : List ℕ) (whole k : ℕ) → ((k : ℕ) → get_or limbs k 0 < 2 ^ 32) → get_or (take whole limbs) k 0 < 2 ^ 32
    small_taken limbs whole k small = elim (cases_lt k whole) [
      | inl below ↦ rw (get_or-take whole limbs k 0 below) (small k)
      | inr beyond ↦ rw (get_or_past (take whole limbs) k 0 (simp length-take (omega arith))) (lit< tt)
    ]

-- what is pushed behind limbs that were written
pub grown : (pushed new old : List ℕ) (count carry number : ℕ) → pushed ≡ take count (new ++ drop (length new) old) ++ carry ∷ [] → length new ≡ count → length old ≡ count
    → limbs_number new + 2 ^ (32 * count) * carry ≡ number → limbs_number pushed ≡ number
grown pushed new old count carry number is same whole so =
    let nothing : drop (length new) old ≡ [] = drop_all (length new) old (omega arith) in
    let kept : take count (new ++ drop (length new) old) ≡ new =
    ap (λ (l : List ℕ). take count (new ++ l)) nothing ∙ ap (take count) (append-nil new) ∙ ap (λ n. take n new) (sym same) ∙ take-length new in
    ap limbs_number (is ∙ ap (λ (l : List ℕ). l ++ carry ∷ []) kept) ∙ number_push new carry ∙ ap (λ n. limbs_number new + 2 ^ (32 * n) * carry) same ∙ so
