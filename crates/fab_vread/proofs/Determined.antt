-- A text has at most one first refusal.
use Rattle.std.proofs.Common.{◌≡◌, ◌⊎◌, inl, inr, ℕ, ◌<◌, ◌≤◌, Bool, true, false, List, [], ◌∷◌, ◌++◌, All, refl, ap, ◌∙◌, subst, sym, arith, Option, Some, append_assoc, append-nil, nat_lt}
use Rattle.std.specs.List.{AllByRecursion}
use Rattle.std.proofs.lemmas.Bool.Decides.{nat_tests}
use Rattle.std.proofs.lemmas.List.{map-append}
use Rattle.std.proofs.lemmas.List.Elements.{recursion_from_All, All-append}
use Rattle.fab_base.specs.declared.problem.Problem.{Problem}
use Rattle.fab_base.specs.declared.problem.Problem.TheVariants as problems
use Rattle.fab_base.specs.declared.words.Quantity.TheVariants as quantities
use Rattle.fab_tokens.specs.declared.token.Token.{Token}
use Rattle.fab_tokens.specs.Scanning.{Lexeme}
use Rattle.fab_grammar_defs.specs.Grammar.{Modules}
use Rattle.fab_vread.specs.Refusals.{tokens_in, BeginsWithin, BeginsText, AreText, IsWrong, lacking, unfit, IsAbove, deep, wide, first_wide, UpTo, FirstRefusal, by_token, by_end, by_limit}

-- ---- two ways to part a list

-- the first part goes on in the other list's
record Shorter {X : Type 0} (a b c d : List X) : Type 0 where
  between : List X
  is : c ≡ a ++ between
  left : b ≡ between ++ d

-- it is longer by at least one
record Longer {X : Type 0} (a b c d : List X) : Type 0 where
  next : X
  between : List X
  is : a ≡ c ++ next ∷ between
  left : d ≡ next ∷ (between ++ b)

shorter_cons : {X : Type 0} (x y : X) (a b c d : List X) → x ≡ y → Shorter a b c d → Shorter (x ∷ a) b (y ∷ c) d
shorter_cons x y a b c d same s = let is = s.is in record { between = s.between; is = cc; left = s.left }

longer_cons : {X : Type 0} (x y : X) (a b c d : List X) → x ≡ y → Longer a b c d → Longer (x ∷ a) b (y ∷ c) d
longer_cons x y a b c d same l = let is = l.is in record { next = l.next; between = l.between; is = cc; left = l.left }

compare : {X : Type 0} (a b c d : List X) → a ++ b ≡ c ++ d → Shorter a b c d ⊎ Longer a b c d
compare [] b c d e = inl (record { between = c; is = refl; left = e })
compare (x ∷ a) b [] d e = inr (record { next = x; between = a; is = refl; left = sym e })
compare (x ∷ a) b (y ∷ c) d e =
    elim (compare a b c d (cc)) [ inl s ↦ inl (shorter_cons x y a b c d (cc) s) | inr l ↦ inr (longer_cons x y a b c d (cc) l) ]

-- an element that stands in a list
middle : {X : Type 0} (P : X → Type 0) (xs : List X) (y : X) (ys : List X) → AllByRecursion P (xs ++ y ∷ ys) → P y
middle P [] y ys h = h.0
middle P (x ∷ xs) y ys h = middle P xs y ys h.1

stands_in : {X : Type 0} (P : X → Type 0) (xs ys : List X) (y : X) (all : List X) → all ≡ xs ++ y ∷ ys → All P all → P y
stands_in P xs ys y all is h = middle P xs y ys (recursion_from_All P (xs ++ y ∷ ys) (subst (λ l. All P l) is h))

-- ---- beginnings

begins_before : (ts us : List Token) → BeginsText (ts ++ us) → BeginsText ts
begins_before ts us b = record {
  deepest = b.deepest;
  widest = b.widest;
  begins = record {
    more = us ++ b.begins.more;
    modules = b.begins.modules;
    made = subst (λ vs. Modules b.deepest b.widest vs b.begins.modules) (append_assoc ts us b.begins.more) b.begins.made;
  };
}

within_before : (deepest widest : ℕ) (ts us : List Token) → BeginsWithin deepest widest (ts ++ us) → BeginsWithin deepest widest ts
within_before deepest widest ts us b = record {
  more = us ++ b.more;
  modules = b.modules;
  made = subst (λ vs. Modules deepest widest vs b.modules) (append_assoc ts us b.more) b.made;
}

text_begins : (ts : List Token) → AreText ts → BeginsText ts
text_begins ts t = record {
  deepest = t.deepest;
  widest = t.widest;
  begins = record { more = []; modules = t.modules; made = subst (λ vs. Modules t.deepest t.widest vs t.modules) (sym (append-nil ts)) t.made };
}

tokens_parted : (xs ys : List Lexeme) → tokens_in (xs ++ ys) ≡ tokens_in xs ++ tokens_in ys
tokens_parted xs ys = map-append (λ (x : Lexeme). x.token) xs ys

-- what a longer list begins, its front and the next token begin
next_begins : (front rest all : List Lexeme) (x : Lexeme) → all ≡ front ++ x ∷ rest → BeginsText (tokens_in all) → BeginsText (tokens_in front ++ x.token ∷ [])
next_begins front rest all x is b =
    begins_before (tokens_in front ++ x.token ∷ []) (tokens_in rest)
    (subst BeginsText (ap tokens_in is ∙ tokens_parted front (x ∷ rest) ∙ sym (append_assoc (tokens_in front) (x.token ∷ []) (tokens_in rest))) b)

-- ---- lines

-- what stands first is on this line or behind it
abbrev FirstFrom : ℕ → List Lexeme → Type 0
FirstFrom line [] = Unit {0}
FirstFrom line (x ∷ xs) = line ≤ x.line

first_from : (line : ℕ) (tail : List Lexeme) (y : Lexeme) (rest : List Lexeme) → tail ≡ y ∷ rest → FirstFrom line tail → line ≤ y.line
first_from line tail y rest is h = subst (FirstFrom line) is h

-- lines up to an earlier one are within the limits
earlier_within : (line at : ℕ) (front rest earlier tail : List Lexeme) → at < line → All (λ (x : Lexeme). x.line ≤ at) front → front ++ rest ≡ earlier ++ tail →
    FirstFrom line tail → BeginsWithin 300 128 (tokens_in earlier) → BeginsWithin 300 128 (tokens_in front)
earlier_within line at front rest earlier tail before all same first within = parted (compare front rest earlier tail same) where
  parted : Shorter front rest earlier tail ⊎ Longer front rest earlier tail → BeginsWithin 300 128 (tokens_in front)
  parted (inl s) = within_before 300 128 (tokens_in front) (tokens_in s.between)
      (subst (λ ts. BeginsWithin 300 128 ts) (ap tokens_in s.is ∙ tokens_parted front s.between) within)
  parted (inr l) =
      let low = stands_in (λ (x : Lexeme). x.line ≤ at) earlier l.between l.next front l.is all in
      let high = first_from line tail l.next (l.between ++ rest) l.left first in
      absurd (omega arith)

up_to_all : (line : ℕ) (front : List Lexeme) → UpTo line front → All (λ (x : Lexeme). x.line ≤ line) front
up_to_all line front u =
    subst (λ (xs : List Lexeme). All (λ (x : Lexeme). x.line ≤ line) xs) (sym u.parted)
    (All-append (λ (x : Lexeme). x.line ≤ line) u.earlier u.here
    (λ k d h. let below = u.before_line k d h in omega arith) (λ k d h. let on = u.on_it k d h in omega arith))

-- what follows the earlier lines of a front begins on its line, where what follows the front does
here_first : (line : ℕ) (here rest : List Lexeme) → All (λ (x : Lexeme). x.line ≡ line) here → FirstFrom line rest → FirstFrom line (here ++ rest)
here_first line [] rest on first = first
here_first line (x ∷ here) rest on first =
    let same : x.line ≡ line = (recursion_from_All (λ (y : Lexeme). y.line ≡ line) (x ∷ here) on).0 in omega arith

all_first : (line : ℕ) (rest : List Lexeme) → All (λ (x : Lexeme). line < x.line) rest → FirstFrom line rest
all_first line [] all = tt
all_first line (x ∷ rest) all = let later : line < x.line = (recursion_from_All (λ (y : Lexeme). line < y.line) (x ∷ rest) all).0 in omega arith

-- a front up to an earlier line is within the limits
line_within : (line at : ℕ) (front back other rest : List Lexeme) → at < line → UpTo at front → UpTo line other → FirstFrom line rest →
    front ++ back ≡ other ++ rest → BeginsWithin 300 128 (tokens_in front)
line_within line at front back other rest before u v first same =
    earlier_within line at front back v.earlier (v.here ++ rest) before (up_to_all at front u)
    (same ∙ ap (λ (xs : List Lexeme). xs ++ rest) v.parted ∙ append_assoc v.earlier v.here rest) (here_first line v.here rest v.on_it first) v.within

-- ---- what is wrong

wrong_once : (ts : List Token) (t : Token) (p q : Problem) → IsWrong ts t p → IsWrong ts t q → p ≡ q
wrong_once ts t p q (lacking word h) (lacking word' k) = refl
wrong_once ts t p q (lacking word h) (unfit _ k) = absurd (k h)
wrong_once ts t p q (unfit _ h) (lacking word k) = absurd (h k)
wrong_once ts t p q (unfit _ h) (unfit _ k) = refl

same_bits : (first : Option ℕ) (a b : ℕ) → first ≡ Some a → first ≡ Some b → a ≡ b
same_bits first a b p q = cc

above_once : (ts : List Token) (p q : Problem) → IsAbove ts p → IsAbove ts q → p ≡ q
above_once ts p q (deep h) (deep k) = refl
above_once ts p q (deep h) (wide bits widest b first) = absurd (h widest b)
above_once ts p q (wide bits widest b first) (deep h) = absurd (h widest b)
above_once ts p q (wide bits widest b first) (wide more wider c second) =
    ap (λ n. problems.Limit quantities.LiteralBits n 128) (same_bits (first_wide ts) bits more first second)

-- ---- two refusals

record Same (line other : ℕ) (p q : Problem) : Type 0 where
  lines : line ≡ other
  problems_are : p ≡ q

turned : (line other : ℕ) (p q : Problem) → Same line other p q → Same other line q p
turned line other p q s = record { lines = sym s.lines; problems_are = sym s.problems_are }

module _ (lexemes : List Lexeme) (last : ℕ) where
  two_tokens : (p q : Problem) (front back other rest : List Lexeme) (x y : Lexeme) → lexemes ≡ front ++ x ∷ back → lexemes ≡ other ++ y ∷ rest →
      BeginsText (tokens_in front) → BeginsText (tokens_in other) → (BeginsText (tokens_in front ++ x.token ∷ []) → ⊥) → (BeginsText (tokens_in other ++ y.token ∷ []) → ⊥) →
      IsWrong (tokens_in front) x.token p → IsWrong (tokens_in other) y.token q → Same x.line y.line p q
  two_tokens p q front back other rest x y is also fits fit never no_more wrong bad = parted (compare front (x ∷ back) other (y ∷ rest) (sym is ∙ also)) where
    shorter : (between : List Lexeme) → other ≡ front ++ between → x ∷ back ≡ between ++ y ∷ rest → Same x.line y.line p q
    shorter [] other_is left =
        let x_is : x ≡ y = cc in
        let front_is : other ≡ front = other_is ∙ append-nil front in
        record {
          lines = ap (λ (z : Lexeme). z.line) x_is;
          problems_are = wrong_once (tokens_in front) x.token p q wrong
              (subst (λ (z : Lexeme). IsWrong (tokens_in front) z.token q) (sym x_is) (subst (λ (zs : List Lexeme). IsWrong (tokens_in zs) y.token q) front_is bad));
        }
    shorter (z ∷ between) other_is left =
        let z_is : z ≡ x = cc in
        absurd (never (next_begins front between other x (other_is ∙ ap (λ (w : Lexeme). front ++ w ∷ between) z_is) fit))

    parted : Shorter front (x ∷ back) other (y ∷ rest) ⊎ Longer front (x ∷ back) other (y ∷ rest) → Same x.line y.line p q
    parted (inl s) = shorter s.between s.is s.left
    parted (inr l) =
        let left = l.left in
        let next_is : l.next ≡ y = cc in
        absurd (no_more (next_begins other l.between front y (l.is ∙ ap (λ (w : Lexeme). other ++ w ∷ l.between) next_is) fits))

  token_and_end : (p : Problem) (front back : List Lexeme) (x : Lexeme) → lexemes ≡ front ++ x ∷ back → (BeginsText (tokens_in front ++ x.token ∷ []) → ⊥) →
      BeginsText (tokens_in lexemes) → ⊥
  token_and_end p front back x is never fits = never (next_begins front back lexemes x is fits)

  token_and_limit : (front back other rest : List Lexeme) (x : Lexeme) (line : ℕ) → lexemes ≡ front ++ x ∷ back → UpTo x.line front →
      (BeginsText (tokens_in front ++ x.token ∷ []) → ⊥) → lexemes ≡ other ++ rest → All (λ (y : Lexeme). line < y.line) rest → UpTo line other →
      BeginsText (tokens_in other) → (BeginsWithin 300 128 (tokens_in other) → ⊥) → ⊥
  token_and_limit front back other rest x line is u never also later v fits above = parted (compare front (x ∷ back) other rest (sym is ∙ also)) where
    -- the token is behind the line that is above a limit
    behind : line < x.line → ⊥
    behind before = above (line_within x.line line other rest front (x ∷ back) before v u (omega arith) (sym also ∙ is))

    shorter : (between : List Lexeme) → other ≡ front ++ between → x ∷ back ≡ between ++ rest → ⊥
    shorter [] other_is left =
        behind (recursion_from_All (λ (y : Lexeme). line < y.line) (x ∷ back) (subst (λ (zs : List Lexeme). All (λ (y : Lexeme). line < y.line) zs) (sym left) later)).0
    shorter (z ∷ between) other_is left =
        let z_is : z ≡ x = cc in
        never (next_begins front between other x (other_is ∙ ap (λ (w : Lexeme). front ++ w ∷ between) z_is) fits)

    parted : Shorter front (x ∷ back) other rest ⊎ Longer front (x ∷ back) other rest → ⊥
    parted (inl s) = shorter s.between s.is s.left
    parted (inr l) =
        behind (stands_in (λ (y : Lexeme). line < y.line) (l.next ∷ l.between) back x rest l.left later)

  end_and_limit : (other rest : List Lexeme) (line : ℕ) → UpTo last lexemes → (AreText (tokens_in lexemes) → ⊥) → lexemes ≡ other ++ rest → UpTo line other →
      (line < last) ⊎ AreText (tokens_in lexemes) → (BeginsWithin 300 128 (tokens_in other) → ⊥) → ⊥
  end_and_limit other rest line u none also v (inl before) above =
      above (line_within last line other rest lexemes [] before v u tt (sym also ∙ sym (append-nil lexemes)))
  end_and_limit other rest line u none also v (inr text) above = none text

  -- the fronts of one line are one
  same_front : (line : ℕ) (front back other rest : List Lexeme) → front ++ back ≡ other ++ rest → UpTo line front → UpTo line other →
      All (λ (y : Lexeme). line < y.line) back → All (λ (y : Lexeme). line < y.line) rest → front ≡ other
  same_front line front back other rest same u v later after = parted (compare front back other rest same) where
    shorter : (between : List Lexeme) → other ≡ front ++ between → back ≡ between ++ rest → front ≡ other
    shorter [] other_is left = sym (other_is ∙ append-nil front)
    shorter (z ∷ between) other_is left =
        let low = stands_in (λ (y : Lexeme). y.line ≤ line) front between z other other_is (up_to_all line other v) in
        let high = stands_in (λ (y : Lexeme). line < y.line) [] (between ++ rest) z back left later in
        absurd (omega arith)

    parted : Shorter front back other rest ⊎ Longer front back other rest → front ≡ other
    parted (inl s) = shorter s.between s.is s.left
    parted (inr l) =
        let low = stands_in (λ (y : Lexeme). y.line ≤ line) other l.between l.next front l.is (up_to_all line front u) in
        let high = stands_in (λ (y : Lexeme). line < y.line) [] (l.between ++ back) l.next rest l.left after in
        absurd (omega arith)

  two_limits : (p q : Problem) (line at : ℕ) (front back other rest : List Lexeme) → lexemes ≡ front ++ back → lexemes ≡ other ++ rest →
      All (λ (y : Lexeme). line < y.line) back → All (λ (y : Lexeme). at < y.line) rest → UpTo line front → UpTo at other →
      (BeginsWithin 300 128 (tokens_in front) → ⊥) → (BeginsWithin 300 128 (tokens_in other) → ⊥) → IsAbove (tokens_in front) p → IsAbove (tokens_in other) q →
      Same line at p q
  two_limits p q line at front back other rest is also later after u v above over_it first second = by_lines (nat_lt line at) refl (nat_lt at line) refl where
    one_line : line ≡ at → Same line at p q
    one_line same =
        let front_is : front ≡ other = same_front line front back other rest (sym is ∙ also) u (subst (λ n. UpTo n other) (sym same) v) later
        (subst (λ n. All (λ (y : Lexeme). n < y.line) rest) (sym same) after) in
        record { lines = same; problems_are = above_once (tokens_in front) p q first (subst (λ (zs : List Lexeme). IsAbove (tokens_in zs) q) (sym front_is) second) }

    by_lines : (b : Bool) → nat_lt line at ≡ b → (d : Bool) → nat_lt at line ≡ d → Same line at p q
    by_lines true e d f =
        let before : line < at = grind (arith, nat_tests) in
        absurd (above (line_within at line front back other rest before u v (all_first at rest after) (sym is ∙ also)))
    by_lines false e true f =
        let before : at < line = grind (arith, nat_tests) in
        absurd (over_it (line_within line at other rest front back before v u (all_first line back later) (sym also ∙ is)))
    by_lines false e false f =
        let a : at ≤ line = grind (arith, nat_tests) in
        let b : line ≤ at = grind (arith, nat_tests) in
        one_line (omega arith)

  refusals_same : (line at : ℕ) (p q : Problem) → FirstRefusal lexemes last line p → FirstRefusal lexemes last at q → Same line at p q
  refusals_same line at p q (by_token front back x is u fits never wrong) (by_token other rest y also v fit no_more bad) =
      two_tokens p q front back other rest x y is also fits fit never no_more wrong bad
  refusals_same line at p q (by_token front back x is u fits never wrong) (by_end v fit none) = absurd (token_and_end p front back x is never fit)
  refusals_same line at p q (by_token front back x is u fits never wrong) (by_limit _ other rest also later v fit over_so above it) =
      absurd (token_and_limit front back other rest x at is u never also later v fit above)
  refusals_same line at p q (by_end v fit none) (by_token front back x is u fits never wrong) = absurd (token_and_end q front back x is never fit)
  refusals_same line at p q (by_end v fit none) (by_end w fits none_too) = record { lines = refl; problems_are = refl }
  refusals_same line at p q (by_end v fit none) (by_limit _ other rest also later w fits over_so above it) =
      absurd (end_and_limit other rest at v none also w over_so above)
  refusals_same line at p q (by_limit _ other rest also later v fit over_so above it) (by_token front back x is u fits never wrong) =
      absurd (token_and_limit front back other rest x line is u never also later v fit above)
  refusals_same line at p q (by_limit _ other rest also later v fit over_so above it) (by_end w fits none) =
      absurd (end_and_limit other rest line w none also v over_so above)
  refusals_same line at p q (by_limit _ front back is later u fits over_so above it) (by_limit _ other rest also after v fit over_it above_too that) =
      two_limits p q line at front back other rest is also later after u v above above_too it that

-- a text has at most one first refusal
pub refusal_is_one : (lexemes : List Lexeme) (last line at : ℕ) (p q : Problem) → FirstRefusal lexemes last line p → FirstRefusal lexemes last at q → (line ≡ at) × (p ≡ q)
refusal_is_one lexemes last line at p q these those = let s = refusals_same lexemes last line at p q these those in (s.lines, s.problems_are)
