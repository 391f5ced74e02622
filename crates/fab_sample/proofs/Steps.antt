-- How a loop that adds lines or items goes on.
use Rattle.std.proofs.Common.{◌≡◌, ℕ, suc, ◌+◌, ◌-◌, ◌<◌, ◌≤◌, List, [], ◌∷◌, ◌++◌, length, get_or, map, take, drop, ap, sym, ◌∙◌, arith, append_assoc, append-nil, add-zero, zero-add, codes, replicate}
use Rattle.std.specs.List.{enumerate_from, flat_map, join_with_byte, range_with_len}
use Rattle.std.proofs.lemmas.List.{map-append, map-id, take_more, take_rest, length-take-le}
use Rattle.std.proofs.lemmas.List.Concat.{flat_map-append}
use Rattle.std.proofs.lemmas.List.FromFn.{map-range_with_len_more}
use Rattle.fab_sample.specs.Lines.{Line, text}
use Rattle.fab_sample.specs.Grid.{grid_row}
use Rattle.fab_sample.specs.declared.net.Net.{Net}
use Rattle.fab_sample.specs.Netlists.{net_name, names}

pub text-append : (a b : List Line) → text (a ++ b) ≡ text a ++ text b
text-append a b = flat_map-append _ a b

-- lines are added behind others
pub put_more : (start out new : List ℕ) (a b : List Line) → out ≡ start ++ text a → new ≡ out ++ text b → new ≡ start ++ text (a ++ b)
put_more start out new a b so_far put =
    put ∙ ap (λ (o : List ℕ). o ++ text b) so_far ∙ append_assoc start (text a) (text b) ∙ ap (λ (t : List ℕ). start ++ t) (sym (text-append a b))

-- ---- a loop over numbers

pub range_more : (n : ℕ) → range_with_len 0 (n + 1) ≡ range_with_len 0 n ++ n ∷ []
range_more n =
    sym (map-id (range_with_len 0 (n + 1))) ∙ map-range_with_len_more (λ (k : ℕ). k) 0 n n (zero-add n) ∙ ap (λ (l : List ℕ). l ++ n ∷ [])
    (map-id (range_with_len 0 n))

pub map_more : {X : Type 0} (f : ℕ → X) (n : ℕ) (old new : List X) → old ≡ map f (range_with_len 0 n) → new ≡ old ++ f n ∷ []
    → new ≡ map f (range_with_len 0 (n + 1))
map_more {X} f n old new so_far pushed =
    pushed ∙ ap (λ (l : List X). l ++ f n ∷ []) so_far ∙ sym (map-append f (range_with_len 0 n) (n ∷ [])) ∙ sym (ap (map f) (range_more n))

pub map_of_push : {X Y : Type 0} (f : X → Y) (xs : List X) (x : X) (new : List X) → new ≡ xs ++ x ∷ [] → map f new ≡ map f xs ++ f x ∷ []
map_of_push f xs x new pushed = ap (map f) pushed ∙ map-append f xs (x ∷ [])

pub map_behind_more : {X : Type 0} (f : ℕ → X) (n : ℕ) (start old new : List X) → old ≡ start ++ map f (range_with_len 0 n) → new ≡ old ++ f n ∷ []
    → new ≡ start ++ map f (range_with_len 0 (n + 1))
map_behind_more {X} f n start old new so_far pushed =
    pushed ∙ ap (λ (l : List X). l ++ f n ∷ []) so_far ∙ append_assoc start (map f (range_with_len 0 n)) (f n ∷ [])
    ∙ ap (λ (l : List X). start ++ l) (sym (map-append f (range_with_len 0 n) (n ∷ [])) ∙ sym (ap (map f) (range_more n)))

flat_map_push : {X : Type 0} (f : ℕ → List X) (ns : List ℕ) (n : ℕ) → flat_map f (ns ++ n ∷ []) ≡ flat_map f ns ++ f n
flat_map_push {X} f ns n = flat_map-append f ns (n ∷ []) ∙ ap (λ (l : List X). flat_map f ns ++ l) (append-nil (f n))

-- the lines of one number more
pub lines_more : (f : ℕ → List Line) (n : ℕ) (start out new : List ℕ) → out ≡ start ++ text (flat_map f (range_with_len 0 n)) → new ≡ out ++ text (f n)
    → new ≡ start ++ text (flat_map f (range_with_len 0 (n + 1)))
lines_more f n start out new so_far put =
    put_more start out new (flat_map f (range_with_len 0 n)) (f n) so_far put
    ∙ ap (λ (lines : List Line). start ++ text lines) (sym (flat_map_push f (range_with_len 0 n) n) ∙ sym (ap (flat_map f) (range_more n)))

-- the number at which a loop ends is its end
pub at_end : {X : Type 0} (F : ℕ → X) (n last : ℕ) → n ≤ last → last ≤ n → F n ≡ F last
at_end F n last most least = ap F (let same : n ≡ last = omega arith in same)

-- ---- a loop over items with their places

enumerate_push : {X : Type 0} (n : ℕ) (xs : List X) (x : X) → enumerate_from n (xs ++ x ∷ []) ≡ enumerate_from n xs ++ (n + length xs, x) ∷ []
enumerate_push {X} n [] x = let at : ℕ → List (ℕ × X) = λ k. (k, x) ∷ [] in ap at (sym (add-zero n))
enumerate_push {X} n (y ∷ ys) x =
    let behind : ℕ → List (ℕ × X) = λ k. (n, y) ∷ (enumerate_from (n + 1) ys ++ (k, x) ∷ []) in
    let same : n + 1 + length ys ≡ n + suc (length ys) = omega arith in
    ap (λ (l : List (ℕ × X)). (n, y) ∷ l) (enumerate_push (n + 1) ys x) ∙ ap behind same

pub enumerate_more : {X : Type 0} (xs : List X) (i : ℕ) (d : X) → i < length xs
    → enumerate_from 0 (take (i + 1) xs) ≡ enumerate_from 0 (take i xs) ++ (i, get_or xs i d) ∷ []
enumerate_more {X} xs i d below =
    let many : length (take i xs) ≡ i = length-take-le i xs (omega arith) in
    let same : 0 + length (take i xs) ≡ i = omega arith in
    let at : ℕ → List (ℕ × X) = λ k. enumerate_from 0 (take i xs) ++ (k, get_or xs i d) ∷ [] in
    ap (enumerate_from 0) (take_more xs i d below) ∙ enumerate_push 0 (take i xs) (get_or xs i d) ∙ ap at same

-- ---- joined parts

-- a first part, and each further one behind the byte
pub joined_is : (byte : ℕ) (first : Line) (rest : List Line) → join_with_byte byte (first ∷ rest) ≡ first ++ flat_map (λ part. byte ∷ part) rest
joined_is byte first [] = sym (append-nil first)
joined_is byte first (next ∷ rest) = ap (λ (l : List ℕ). first ++ (byte ∷ l)) (joined_is byte next rest)

-- a row of the grid
pub grid_row_is : (n : ℕ) → (codes "SW" ++ flat_map (λ part. 44 ∷ part) (replicate n (codes "SLOG"))) ++ codes ",SE" ≡ grid_row n
grid_row_is n =
    let f : Line → Line = λ part. 44 ∷ part in
    let logic : List Line = replicate n (codes "SLOG") in
    append_assoc (codes "SW") (flat_map f logic) (codes ",SE")
    ∙ ap (λ (l : List ℕ). codes "SW" ++ l) (sym (flat_map-append f logic (codes "SE" ∷ [])))
    ∙ sym (joined_is 44 (codes "SW") (logic ++ codes "SE" ∷ []))

-- the lines of one item more, which depend on its place
pub items_more : {X : Type 0} (f : ℕ → X → List Line) (xs : List X) (i : ℕ) (d : X) (start out new : List ℕ) → i < length xs
    → out ≡ start ++ text (flat_map (λ it. f it.0 it.1) (enumerate_from 0 (take i xs)))
    → new ≡ out ++ text (f i (get_or xs i d))
    → new ≡ start ++ text (flat_map (λ it. f it.0 it.1) (enumerate_from 0 (take (i + 1) xs)))
items_more {X} f xs i d start out new below so_far put =
    let g : ℕ × X → List Line = λ it. f it.0 it.1 in
    let before = enumerate_from 0 (take i xs) in
    let more : flat_map g (enumerate_from 0 (take (i + 1) xs)) ≡ flat_map g before ++ f i (get_or xs i d) =
    ap (flat_map g) (enumerate_more xs i d below) ∙ flat_map-append g before ((i, get_or xs i d) ∷ []) ∙ ap (λ (l : List Line). flat_map g before ++ l)
    (append-nil (f i (get_or xs i d))) in
    put_more start out new (flat_map g before) (f i (get_or xs i d)) so_far put ∙ ap (λ (lines : List Line). start ++ text lines) (sym more)

-- the same, where each item has one line
pub places_more : {X : Type 0} (f : ℕ → X → Line) (xs : List X) (i : ℕ) (d : X) (start out new : List ℕ) → i < length xs
    → out ≡ start ++ text (map (λ it. f it.0 it.1) (enumerate_from 0 (take i xs)))
    → new ≡ out ++ text (f i (get_or xs i d) ∷ [])
    → new ≡ start ++ text (map (λ it. f it.0 it.1) (enumerate_from 0 (take (i + 1) xs)))
places_more {X} f xs i d start out new below so_far put =
    let g : ℕ × X → Line = λ it. f it.0 it.1 in
    let before = enumerate_from 0 (take i xs) in
    let more : map g (enumerate_from 0 (take (i + 1) xs)) ≡ map g before ++ f i (get_or xs i d) ∷ [] =
    ap (map g) (enumerate_more xs i d below) ∙ map-append g before ((i, get_or xs i d) ∷ []) in
    put_more start out new (map g before) (f i (get_or xs i d) ∷ []) so_far put ∙ ap (λ (lines : List Line). start ++ text lines) (sym more)

-- the first of some nets, and the others behind a blank
pub names_of_first : (nets : List Net) (other : Net) → 1 ≤ length nets
    → names nets ≡ net_name (get_or nets 0 other) ++ flat_map (λ part. 32 ∷ part) (map net_name (take (length nets - 1) (drop 1 nets)))
names_of_first [] other some = absurd (omega arith)
names_of_first (first ∷ rest) other some =
    joined_is 32 (net_name first) (map net_name rest)
    ∙ ap (λ (further : List Net). net_name first ++ flat_map (λ part. 32 ∷ part) (map net_name further)) (sym (take_rest (first ∷ rest) 1))
