-- Lines by their kinds.
use Rattle.std.proofs.Common.{◌≡◌, Bool, true, false, cond, List, [], ◌∷◌, length, Some, None, refl, ap, ◌∙◌, arith, codes}
use Rattle.std.specs.Prelude.{◌==◌, ◌&&◌}
use Rattle.std.specs.Str.{bytes_eq}
use Rattle.std.proofs.lemmas.Bool.{eqb-true}
use Rattle.std.proofs.lemmas.Slice.Eq.{bytes_eq-Decides}
use Rattle.fab_texts.specs.Rows.{Word}
use Rattle.fab_lines.specs.Items.{word_at}
use Rattle.fab_state.specs.declared.kind.Kind.{Kind}
use Rattle.fab_state.specs.declared.kind.Kind.TheVariants as kinds
use Rattle.fab_state.specs.Kinds.{kind_of}
use Rattle.fab_state.specs.Lines.{digit_of}
use Rattle.fab_state.specs.Spelled.{digit}

pub equal_words : (a b : Word) → bytes_eq a b ≡ true → a ≡ b
equal_words a b same = (bytes_eq-Decides a b).0 same

one_word : (line : List Word) → length line ≡ 1 → line ≡ word_at line 0 ∷ []
one_word [] is = absurd (omega (arith, is))
one_word (a ∷ []) is = refl
one_word (a ∷ b ∷ more) is = absurd (omega (arith, is))

two_words : (line : List Word) → length line ≡ 2 → line ≡ word_at line 0 ∷ word_at line 1 ∷ []
two_words [] is = absurd (omega (arith, is))
two_words (a ∷ []) is = absurd (omega (arith, is))
two_words (a ∷ b ∷ []) is = refl
two_words (a ∷ b ∷ c ∷ more) is = absurd (omega (arith, is))

pub three_words : (line : List Word) → length line ≡ 3 → line ≡ word_at line 0 ∷ word_at line 1 ∷ word_at line 2 ∷ []
three_words [] is = absurd (omega (arith, is))
three_words (a ∷ []) is = absurd (omega (arith, is))
three_words (a ∷ b ∷ []) is = absurd (omega (arith, is))
three_words (a ∷ b ∷ c ∷ []) is = refl
three_words (a ∷ b ∷ c ∷ d ∷ more) is = absurd (omega (arith, is))

-- the kind that the three tests of a line of three words choose
abbrev of_three : (a b c : Bool) → Kind
of_three a b c = cond a kinds.In (cond b kinds.Out (cond c kinds.Ff kinds.Other))

abbrev of_length : (three two one a b c d e : Bool) → Kind
of_length three two one a b c d e = cond three (of_three a b c) (cond two (cond d kinds.Header kinds.Other) (cond (one && e) kinds.End kinds.Other))

in_by : (three two one a b c d e : Bool) → of_length three two one a b c d e ≡ kinds.In → (three ≡ true) × (a ≡ true)
in_by true two one true b c d e is = (refl, refl)
in_by true two one false true c d e is = absurd cc
in_by true two one false false true d e is = absurd cc
in_by true two one false false false d e is = absurd cc
in_by false true one a b c true e is = absurd cc
in_by false true one a b c false e is = absurd cc
in_by false false true a b c d true is = absurd cc
in_by false false true a b c d false is = absurd cc
in_by false false false a b c d e is = absurd cc

out_by : (three two one a b c d e : Bool) → of_length three two one a b c d e ≡ kinds.Out → (three ≡ true) × (b ≡ true)
out_by true two one true b c d e is = absurd cc
out_by true two one false true c d e is = (refl, refl)
out_by true two one false false true d e is = absurd cc
out_by true two one false false false d e is = absurd cc
out_by false true one a b c true e is = absurd cc
out_by false true one a b c false e is = absurd cc
out_by false false true a b c d true is = absurd cc
out_by false false true a b c d false is = absurd cc
out_by false false false a b c d e is = absurd cc

ff_by : (three two one a b c d e : Bool) → of_length three two one a b c d e ≡ kinds.Ff → (three ≡ true) × (c ≡ true)
ff_by true two one true b c d e is = absurd cc
ff_by true two one false true c d e is = absurd cc
ff_by true two one false false true d e is = (refl, refl)
ff_by true two one false false false d e is = absurd cc
ff_by false true one a b c true e is = absurd cc
ff_by false true one a b c false e is = absurd cc
ff_by false false true a b c d true is = absurd cc
ff_by false false true a b c d false is = absurd cc
ff_by false false false a b c d e is = absurd cc

header_by : (three two one a b c d e : Bool) → of_length three two one a b c d e ≡ kinds.Header → (two ≡ true) × (d ≡ true)
header_by true two one true b c d e is = absurd cc
header_by true two one false true c d e is = absurd cc
header_by true two one false false true d e is = absurd cc
header_by true two one false false false d e is = absurd cc
header_by false true one a b c true e is = (refl, refl)
header_by false true one a b c false e is = absurd cc
header_by false false true a b c d true is = absurd cc
header_by false false true a b c d false is = absurd cc
header_by false false false a b c d e is = absurd cc

end_by : (three two one a b c d e : Bool) → of_length three two one a b c d e ≡ kinds.End → (one ≡ true) × (e ≡ true)
end_by true two one true b c d e is = absurd cc
end_by true two one false true c d e is = absurd cc
end_by true two one false false true d e is = absurd cc
end_by true two one false false false d e is = absurd cc
end_by false true one a b c true e is = absurd cc
end_by false true one a b c false e is = absurd cc
end_by false false true a b c d true is = (refl, refl)
end_by false false true a b c d false is = absurd cc
end_by false false false a b c d e is = absurd cc

module _ (line : List Word) where
  abbrev first : Word
  first = word_at line 0

  pub in_line : kind_of line ≡ kinds.In → line ≡ codes "in" ∷ word_at line 1 ∷ word_at line 2 ∷ []
  in_line is =
      let by = in_by (length line == 3) (length line == 2) (length line == 1) (bytes_eq first (codes "in")) (bytes_eq first (codes "out")) (bytes_eq first (codes "ff")) (bytes_eq first (codes "fabulous-state")) (bytes_eq first (codes "end")) is in
      three_words line (eqb-true (length line) 3 by.0) ∙ ap (λ (w : Word). w ∷ word_at line 1 ∷ word_at line 2 ∷ []) (equal_words first (codes "in") by.1)

  pub out_line : kind_of line ≡ kinds.Out → line ≡ codes "out" ∷ word_at line 1 ∷ word_at line 2 ∷ []
  out_line is =
      let by = out_by (length line == 3) (length line == 2) (length line == 1) (bytes_eq first (codes "in")) (bytes_eq first (codes "out")) (bytes_eq first (codes "ff")) (bytes_eq first (codes "fabulous-state")) (bytes_eq first (codes "end")) is in
      three_words line (eqb-true (length line) 3 by.0) ∙ ap (λ (w : Word). w ∷ word_at line 1 ∷ word_at line 2 ∷ []) (equal_words first (codes "out") by.1)

  pub ff_line_is : kind_of line ≡ kinds.Ff → line ≡ codes "ff" ∷ word_at line 1 ∷ word_at line 2 ∷ []
  ff_line_is is =
      let by = ff_by (length line == 3) (length line == 2) (length line == 1) (bytes_eq first (codes "in")) (bytes_eq first (codes "out")) (bytes_eq first (codes "ff")) (bytes_eq first (codes "fabulous-state")) (bytes_eq first (codes "end")) is in
      three_words line (eqb-true (length line) 3 by.0) ∙ ap (λ (w : Word). w ∷ word_at line 1 ∷ word_at line 2 ∷ []) (equal_words first (codes "ff") by.1)

  pub header_line : kind_of line ≡ kinds.Header → line ≡ codes "fabulous-state" ∷ word_at line 1 ∷ []
  header_line is =
      let by = header_by (length line == 3) (length line == 2) (length line == 1) (bytes_eq first (codes "in")) (bytes_eq first (codes "out")) (bytes_eq first (codes "ff")) (bytes_eq first (codes "fabulous-state")) (bytes_eq first (codes "end")) is in
      two_words line (eqb-true (length line) 2 by.0) ∙ ap (λ (w : Word). w ∷ word_at line 1 ∷ []) (equal_words first (codes "fabulous-state") by.1)

  pub end_line : kind_of line ≡ kinds.End → line ≡ codes "end" ∷ []
  end_line is =
      let by = end_by (length line == 3) (length line == 2) (length line == 1) (bytes_eq first (codes "in")) (bytes_eq first (codes "out")) (bytes_eq first (codes "ff")) (bytes_eq first (codes "fabulous-state")) (bytes_eq first (codes "end")) is in
      one_word line (eqb-true (length line) 1 by.0) ∙ ap (λ (w : Word). w ∷ []) (equal_words first (codes "end") by.1)

digit_by : (word : Word) (a b bit : Bool) → bytes_eq word (codes "0") ≡ a → bytes_eq word (codes "1") ≡ b → cond a (Some false) (cond b (Some true) None) ≡ Some bit → word ≡ digit bit
digit_by word true b true zero one is = absurd cc
digit_by word true b false zero one is = equal_words word (codes "0") zero
digit_by word false true true zero one is = equal_words word (codes "1") one
digit_by word false true false zero one is = absurd cc
digit_by word false false bit zero one is = absurd cc

pub digit_read : (word : Word) (bit : Bool) → digit_of word ≡ Some bit → word ≡ digit bit
digit_read word bit is = digit_by word (bytes_eq word (codes "0")) (bytes_eq word (codes "1")) bit refl refl is
