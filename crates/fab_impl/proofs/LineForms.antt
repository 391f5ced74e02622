-- Lines by their kinds.
use Rattle.std.proofs.Common.{◌≡◌, ◌<◌, Bool, true, false, cond, List, [], ◌∷◌, length, refl, sym, ap, subst, ◌∙◌, arith, codes}
use Rattle.std.specs.Prelude.{◌==◌}
use Rattle.std.specs.Str.{bytes_eq}
use Rattle.std.proofs.lemmas.Bool.Decides.{nat_tests}
use Rattle.std.proofs.lemmas.Slice.Eq.{bytes_eq-Decides}
use Rattle.fab_texts.specs.Rows.{Word}
use Rattle.fab_lines.specs.Items.{word_at}
use Rattle.fab_impl.specs.declared.kind.Kind.{Kind}
use Rattle.fab_impl.specs.declared.kind.Kind.TheVariants as kinds
use Rattle.fab_impl.specs.Kinds.{kind_of, pad_kind, net_kind, constant_kind}

pub equal_words : (a b : Word) → bytes_eq a b ≡ true → a ≡ b
equal_words a b same = (bytes_eq-Decides a b).0 same

-- the words that each line of a kind has
abbrev pub IsForm : Kind → List Word → Type 0
IsForm kinds.Header line = line ≡ codes "fabulous-impl" ∷ word_at line 1 ∷ []
IsForm kinds.Reset line = line ≡ codes "reset" ∷ word_at line 1 ∷ []
IsForm kinds.Cell line = line ≡ codes "cell" ∷ word_at line 1 ∷ word_at line 2 ∷ []
IsForm kinds.In line = line ≡ codes "pad" ∷ codes "in" ∷ word_at line 2 ∷ word_at line 3 ∷ []
IsForm kinds.Out line = line ≡ codes "pad" ∷ codes "out" ∷ word_at line 2 ∷ word_at line 3 ∷ []
IsForm kinds.NetZero line = line ≡ codes "net" ∷ codes "zero" ∷ []
IsForm kinds.NetOne line = line ≡ codes "net" ∷ codes "one" ∷ []
IsForm kinds.NetIn line = line ≡ codes "net" ∷ codes "in" ∷ word_at line 2 ∷ []
IsForm kinds.NetCell line = line ≡ codes "net" ∷ codes "cell" ∷ word_at line 2 ∷ []
IsForm kinds.Edge line = line ≡ codes "edge" ∷ word_at line 1 ∷ word_at line 2 ∷ []
IsForm kinds.End line = line ≡ codes "end" ∷ []
IsForm kinds.Other line = Unit {0}

one_by : (a : Word) (last : Bool) → bytes_eq a (codes "end") ≡ last → IsForm (cond last kinds.End kinds.Other) (a ∷ [])
one_by a true is = ap (λ (w : Word). w ∷ []) (equal_words a (codes "end") is)
one_by a false is = tt

constant_by : (a b : Word) (zero one : Bool) → a ≡ codes "net" → bytes_eq b (codes "zero") ≡ zero → bytes_eq b (codes "one") ≡ one → IsForm (cond zero kinds.NetZero (cond one kinds.NetOne kinds.Other)) (a ∷ b ∷ [])
constant_by a b true one net is other = ap (λ (w : Word). w ∷ b ∷ []) net ∙ ap (λ (w : Word). codes "net" ∷ w ∷ []) (equal_words b (codes "zero") is)
constant_by a b false true net other is = ap (λ (w : Word). w ∷ b ∷ []) net ∙ ap (λ (w : Word). codes "net" ∷ w ∷ []) (equal_words b (codes "one") is)
constant_by a b false false net other others = tt

two_by : (a b : Word) (first reset net : Bool) → bytes_eq a (codes "fabulous-impl") ≡ first → bytes_eq a (codes "reset") ≡ reset → bytes_eq a (codes "net") ≡ net
    → IsForm (cond first kinds.Header (cond reset kinds.Reset (cond net (constant_kind b) kinds.Other))) (a ∷ b ∷ [])
two_by a b true reset net is other others = ap (λ (w : Word). w ∷ b ∷ []) (equal_words a (codes "fabulous-impl") is)
two_by a b false true net other is others = ap (λ (w : Word). w ∷ b ∷ []) (equal_words a (codes "reset") is)
two_by a b false false true other others is = constant_by a b (bytes_eq b (codes "zero")) (bytes_eq b (codes "one")) (equal_words a (codes "net") is) refl refl
two_by a b false false false other others none = tt

net_by : (a b c : Word) (input cell : Bool) → a ≡ codes "net" → bytes_eq b (codes "in") ≡ input → bytes_eq b (codes "cell") ≡ cell → IsForm (cond input kinds.NetIn (cond cell kinds.NetCell kinds.Other)) (a ∷ b ∷ c ∷ [])
net_by a b c true cell net is other = ap (λ (w : Word). w ∷ b ∷ c ∷ []) net ∙ ap (λ (w : Word). codes "net" ∷ w ∷ c ∷ []) (equal_words b (codes "in") is)
net_by a b c false true net other is = ap (λ (w : Word). w ∷ b ∷ c ∷ []) net ∙ ap (λ (w : Word). codes "net" ∷ w ∷ c ∷ []) (equal_words b (codes "cell") is)
net_by a b c false false net other others = tt

three_by : (a b c : Word) (edge cell net : Bool) → bytes_eq a (codes "edge") ≡ edge → bytes_eq a (codes "cell") ≡ cell → bytes_eq a (codes "net") ≡ net
    → IsForm (cond edge kinds.Edge (cond cell kinds.Cell (cond net (net_kind b) kinds.Other))) (a ∷ b ∷ c ∷ [])
three_by a b c true cell net is other others = ap (λ (w : Word). w ∷ b ∷ c ∷ []) (equal_words a (codes "edge") is)
three_by a b c false true net other is others = ap (λ (w : Word). w ∷ b ∷ c ∷ []) (equal_words a (codes "cell") is)
three_by a b c false false true other others is = net_by a b c (bytes_eq b (codes "in")) (bytes_eq b (codes "cell")) (equal_words a (codes "net") is) refl refl
three_by a b c false false false other others none = tt

pad_by : (a b c d : Word) (input output : Bool) → a ≡ codes "pad" → bytes_eq b (codes "in") ≡ input → bytes_eq b (codes "out") ≡ output → IsForm (cond input kinds.In (cond output kinds.Out kinds.Other)) (a ∷ b ∷ c ∷ d ∷ [])
pad_by a b c d true output pad is other = ap (λ (w : Word). w ∷ b ∷ c ∷ d ∷ []) pad ∙ ap (λ (w : Word). codes "pad" ∷ w ∷ c ∷ d ∷ []) (equal_words b (codes "in") is)
pad_by a b c d false true pad other is = ap (λ (w : Word). w ∷ b ∷ c ∷ d ∷ []) pad ∙ ap (λ (w : Word). codes "pad" ∷ w ∷ c ∷ d ∷ []) (equal_words b (codes "out") is)
pad_by a b c d false false pad other others = tt

four_by : (a b c d : Word) (pad : Bool) → bytes_eq a (codes "pad") ≡ pad → IsForm (cond pad (pad_kind b) kinds.Other) (a ∷ b ∷ c ∷ d ∷ [])
four_by a b c d true is = pad_by a b c d (bytes_eq b (codes "in")) (bytes_eq b (codes "out")) (equal_words a (codes "pad") is) refl refl
four_by a b c d false is = tt

-- no line has more than four words
long : (line : List Word) → 4 < length line → kind_of line ≡ kinds.Other
long line more =
    let four : (length line == 4) ≡ false = grind (arith, nat_tests) in
    let three : (length line == 3) ≡ false = grind (arith, nat_tests) in
    let two : (length line == 2) ≡ false = grind (arith, nat_tests) in
    let one : (length line == 1) ≡ false = grind (arith, nat_tests) in
    rw (four, three, two, one) refl

pub form_of : (line : List Word) → IsForm (kind_of line) line
form_of [] = tt
form_of (a ∷ []) = one_by a (bytes_eq a (codes "end")) refl
form_of (a ∷ b ∷ []) = two_by a b (bytes_eq a (codes "fabulous-impl")) (bytes_eq a (codes "reset")) (bytes_eq a (codes "net")) refl refl refl
form_of (a ∷ b ∷ c ∷ []) = three_by a b c (bytes_eq a (codes "edge")) (bytes_eq a (codes "cell")) (bytes_eq a (codes "net")) refl refl refl
form_of (a ∷ b ∷ c ∷ d ∷ []) = four_by a b c d (bytes_eq a (codes "pad")) refl
form_of (a ∷ b ∷ c ∷ d ∷ e ∷ more) = subst (λ (kind : Kind). IsForm kind (a ∷ b ∷ c ∷ d ∷ e ∷ more)) (sym (long (a ∷ b ∷ c ∷ d ∷ e ∷ more) (omega arith))) tt
