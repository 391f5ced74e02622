-- A text that is made of parts is cut into them.
use Rattle.std.proofs.Common.{◌≡◌, ℕ, ◌+◌, ◌<◌, Bool, true, false, cond, not, eqb, ltb, Some, None, List, [], ◌∷◌, ◌++◌, length, take, drop, refl, sym, ap, ◌∙◌, arith, append_assoc, length-append}
use Rattle.std.specs.Prelude.{option_map, position}
use Rattle.std.specs.List.{list_all, prefix_len, position_or_len}
use Rattle.std.proofs.Math.Seq.{take-append_seam, drop-append_seam, take-length}
use Rattle.std.proofs.lemmas.Bool.{and_parts, and_from, lt-ltb, le-ltb}
use Rattle.std.proofs.lemmas.Bool.Decides.{nat_tests}
use Rattle.std.proofs.lemmas.List.{drop_all}
use Rattle.fab_lines.specs.Parts.{is_blank}
use Rattle.fab_fasm.specs.Parts.{TwoParts, run, run_length, parted, unblanked}

-- what passes one test passes a weaker one
pub list_all_weaker : {X : Type 0} (p q : X → Bool) (xs : List X) → ((x : X) → p x ≡ true → q x ≡ true) → list_all p xs ≡ true → list_all q xs ≡ true
list_all_weaker p q [] weaker all = refl
list_all_weaker p q (x ∷ xs) weaker all =
    let both = and_parts (p x) (list_all p xs) all in
    and_from (q x) (list_all q xs) (weaker x both.0) (list_all_weaker p q xs weaker both.1)

-- all bytes in front pass, and the next does not
prefix_stop : (test : ℕ → Bool) (word : List ℕ) (stop : ℕ) (rest : List ℕ) → list_all test word ≡ true → test stop ≡ false → prefix_len test (word ++ stop ∷ rest) ≡ length word
prefix_stop test [] stop rest all stops = rw stops refl
prefix_stop test (first ∷ word) stop rest all stops =
    let both = and_parts (test first) (list_all test word) all in
    let here : test first ≡ true = both.0 in
    let more = prefix_stop test word stop rest both.1 stops in
    rw here (omega arith)

prefix_all : (test : ℕ → Bool) (word : List ℕ) → list_all test word ≡ true → prefix_len test word ≡ length word
prefix_all test [] all = refl
prefix_all test (first ∷ word) all =
    let both = and_parts (test first) (list_all test word) all in
    let here : test first ≡ true = both.0 in
    let more = prefix_all test word both.1 in
    rw here (omega arith)

twice : (b : Bool) → b ≡ true → not (not b) ≡ true
twice true is = refl
twice false is = is

cut_at : (word rest : List ℕ) → (let p : TwoParts = (take (length word) (word ++ rest), drop (length word) (word ++ rest)) in p) ≡ (let p : TwoParts = (word, rest) in p)
cut_at word rest =
    ap (λ (w : List ℕ). let p : TwoParts = (w, drop (length word) (word ++ rest)) in p) (take-append_seam word rest)
    ∙ ap (λ (r : List ℕ). let p : TwoParts = (word, r) in p) (drop-append_seam word rest)

-- bytes that belong together, before one that does not
pub run_stop : (belongs : ℕ → Bool) (word : List ℕ) (stop : ℕ) (rest : List ℕ) → list_all belongs word ≡ true → belongs stop ≡ false → run belongs (word ++ stop ∷ rest) ≡ (word, stop ∷ rest)
unfolding run
run_stop belongs word stop rest all stops =
    let ends : run_length belongs (word ++ stop ∷ rest) ≡ length word =
    prefix_stop (λ byte. not (not (belongs byte))) word stop rest (list_all_weaker belongs (λ byte. not (not (belongs byte))) word (λ byte is. twice (belongs byte) is) all) (rw stops refl) in
    ap (λ n. let p : TwoParts = (take n (word ++ stop ∷ rest), drop n (word ++ stop ∷ rest)) in p) ends ∙ cut_at word (stop ∷ rest)

-- bytes that belong together, up to the end
pub run_all : (belongs : ℕ → Bool) (word : List ℕ) → list_all belongs word ≡ true → run belongs word ≡ (word, [])
unfolding run
run_all belongs word all =
    let ends : run_length belongs word ≡ length word =
    prefix_all (λ byte. not (not (belongs byte))) word (list_all_weaker belongs (λ byte. not (not (belongs byte))) word (λ byte is. twice (belongs byte) is) all) in
    ap (λ n. let p : TwoParts = (take n word, drop n word) in p) ends
    ∙ ap (λ (w : List ℕ). let p : TwoParts = (w, drop (length word) word) in p) (take-length word)
    ∙ ap (λ (r : List ℕ). let p : TwoParts = (word, r) in p) (drop_all (length word) word (omega arith))

-- ---- what stands round the first of some byte

-- a byte other than this
abbrev pub differs : (byte other : ℕ) → Bool
differs byte other = not (eqb other byte)

pub drop_behind : (word : List ℕ) (byte : ℕ) (rest : List ℕ) → drop (length word + 1) (word ++ byte ∷ rest) ≡ rest
drop_behind word byte rest =
    let count : length (word ++ byte ∷ []) ≡ length word + 1 = length-append word (byte ∷ []) in
    ap (λ n. drop n (word ++ byte ∷ rest)) (sym count) ∙ ap (drop (length (word ++ byte ∷ []))) (sym (append_assoc word (byte ∷ []) rest)) ∙ drop-append_seam (word ++ byte ∷ []) rest

pub position_at : (byte : ℕ) (word rest : List ℕ) → list_all (differs byte) word ≡ true → position (λ other. eqb other byte) (word ++ byte ∷ rest) ≡ Some (length word)
position_at byte word rest all =
    let stops : differs byte byte ≡ false = grind (arith, nat_tests) in
    let ends : position_or_len (λ other. eqb other byte) (word ++ byte ∷ rest) ≡ length word = prefix_stop (differs byte) word byte rest all stops in
    let within : length word < length (word ++ byte ∷ rest) = simp length-append (omega arith) in
    ap (λ n. cond (ltb n (length (word ++ byte ∷ rest))) (Some n) None) ends ∙ ap (λ b. cond b (Some (length word)) None) (lt-ltb (length word) (length (word ++ byte ∷ rest)) within)

pub parted_at : (byte : ℕ) (word rest : List ℕ) → list_all (differs byte) word ≡ true → parted byte (word ++ byte ∷ rest) ≡ Some (word, rest)
unfolding parted
parted_at byte word rest all =
    ap (option_map (λ place. let p : TwoParts = (take place (word ++ byte ∷ rest), drop (place + 1) (word ++ byte ∷ rest)) in p)) (position_at byte word rest all)
    ∙ ap (λ (w : List ℕ). Some (let p : TwoParts = (w, drop (length word + 1) (word ++ byte ∷ rest)) in p)) (take-append_seam word (byte ∷ rest))
    ∙ ap (λ (r : List ℕ). Some (let p : TwoParts = (word, r) in p)) (drop_behind word byte rest)

pub parted_none : (byte : ℕ) (word : List ℕ) → list_all (differs byte) word ≡ true → parted byte word ≡ None
unfolding parted
parted_none byte word all =
    let ends : position_or_len (λ other. eqb other byte) word ≡ length word = prefix_all (differs byte) word all in
    let none : position (λ other. eqb other byte) word ≡ None =
    ap (λ n. cond (ltb n (length word)) (Some n) None) ends ∙ ap (λ b. cond b (Some (length word)) None) (le-ltb (length word) (length word) (omega arith)) in
    ap (option_map (λ place. let p : TwoParts = (take place word, drop (place + 1) word) in p)) none

-- ---- blanks

pub no_blank : (first : ℕ) (rest : List ℕ) → is_blank first ≡ false → unblanked (first ∷ rest) ≡ first ∷ rest
unfolding unblanked
no_blank first rest full = rw full refl
