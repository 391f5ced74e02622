-- A Verilog file spells one text that can be taken, or is refused for one fault.
use Rattle.std.proofs.Common.{◌≡◌, ◌≢◌, ◌<◌, ◌≤◌, ℕ, List, [], ◌∷◌, ◌++◌, map, inl, inr, sym, ap, ◌∙◌, subst, arith}
use Rattle.std.proofs.lemmas.List.{append_assoc, map-append}
use Rattle.fab_base.specs.Reading.{fault_at}
use Rattle.fab_base.specs.declared.fault.Fault.{Fault}
use Rattle.fab_base.specs.declared.fault.Fault.TheVariants as faults
use Rattle.fab_base.specs.declared.problem.Problem.{Problem}
use Rattle.fab_base.specs.declared.problem.Problem.TheVariants as problems
use Rattle.fab_files.specs.Stages.{AreJudged}
use Rattle.fab_lines.specs.Counts.{last_line}
use Rattle.fab_syntax.specs.Plain.{PlainModule}
use Rattle.fab_sound.proofs.Verdicts.{not_sound, one_reason}
use Rattle.fab_tokens.specs.declared.token.Token.{Token}
use Rattle.fab_tokens.specs.Scanning.{Lexeme}
use Rattle.fab_tokens.proofs.Cut.{spelled_told}
use Rattle.fab_grammar_defs.specs.Grammar.{Modules, SpellsText}
use Rattle.fab_grammar_defs.proofs.Once.{text_once}
use Rattle.fab_vread.specs.Refusals.{FirstRefusal, IsVerilogRefusal, by_end, by_limit, by_token, lexemes_of, tokens_in}
use Rattle.fab_vread.proofs.Determined.{refusal_is_one}
use Rattle.fab_vread.proofs.Lexemes.{same_tokens}
use Rattle.fab_equations.specs.Equations.{IsRefused}
use Rattle.fab_simulate_command.specs.Simulating.{RefusesDevice, SpellsDevice, misspelled, unfit}

-- ---- bytes

-- a text within the limits has no first refusal
first_not : (text : List PlainModule) (lexemes : List Lexeme) (last line : ℕ) (problem : Problem) → Modules 300 128 (tokens_in lexemes) text → FirstRefusal lexemes last line problem → ⊥
first_not text lexemes last line problem made (by_token front back x parted up_to begins not wrong) =
    let tokens_are : tokens_in lexemes ≡ (tokens_in front ++ x.token ∷ []) ++ tokens_in back =
    ap tokens_in parted ∙ map-append (λ y. y.token) front (x ∷ back) ∙ sym (append_assoc (tokens_in front) (x.token ∷ []) (tokens_in back)) in
    not (record { deepest = 300; widest = 128; begins = record { more = tokens_in back; modules = text; made = subst (λ (ts : List Token). Modules 300 128 ts text) tokens_are made } })
first_not text lexemes last line problem made (by_end up_to begins not) = not (record { deepest = 300; widest = 128; modules = text; made = made })
first_not text lexemes last line problem made (by_limit at front back parted later up_to begins more not above) =
    let tokens_are : tokens_in lexemes ≡ tokens_in front ++ tokens_in back = ap tokens_in parted ∙ map-append (λ y. y.token) front back in
    not (record { more = tokens_in back; modules = text; made = subst (λ (ts : List Token). Modules 300 128 ts text) tokens_are made })

spelled_not_refused : (file bytes : List ℕ) (text : List PlainModule) (fault : Fault) → SpellsText 300 128 bytes text → IsVerilogRefusal file bytes fault → ⊥
spelled_not_refused file bytes text fault spells refused =
    let tokens_are : tokens_in (lexemes_of bytes) ≡ spells.tokens = same_tokens bytes ∙ spelled_told bytes spells.tokens spells.spelled in
    first_not text (lexemes_of bytes) (last_line bytes) refused.line refused.problem (subst (λ (ts : List Token). Modules 300 128 ts text) (sym tokens_are) spells.made) refused.first

bytes_refused_once : (file bytes : List ℕ) (a b : Fault) → IsVerilogRefusal file bytes a → IsVerilogRefusal file bytes b → a ≡ b
bytes_refused_once file bytes a b x y =
    let same = refusal_is_one (lexemes_of bytes) (last_line bytes) x.line y.line x.problem y.problem x.first y.first in
    x.told ∙ (λ j. fault_at file (same.0 j) (same.1 j)) ∙ sym y.told

-- ---- texts

fit_once : (file : List ℕ) (text : List PlainModule) (a b : Fault) → a ≢ faults.Memory → b ≢ faults.Memory → IsRefused file text a → IsRefused file text b → a ≡ b
fit_once file text a b told also (inl memory) y = absurd (told memory)
fit_once file text a b told also (inr x) (inl memory) = absurd (also memory)
fit_once file text a b told also (inr (inl x)) (inr (inl y)) = x.2 ∙ ap (λ r. fault_at file 0 (problems.Malformed r)) (one_reason text x.0 y.0 x.1 y.1) ∙ sym y.2
fit_once file text a b told also (inr (inl x)) (inr (inr y)) = absurd (not_sound text x.0 x.1 y.0)
fit_once file text a b told also (inr (inr x)) (inr (inl y)) = absurd (not_sound text y.0 y.1 x.0)
fit_once file text a b told also (inr (inr x)) (inr (inr y)) = x.2 ∙ sym y.2

fit_not_refused : (file bytes : List ℕ) (text : List PlainModule) (fault : Fault) → SpellsDevice bytes text → fault ≢ faults.Memory → IsRefused file text fault → ⊥
fit_not_refused file bytes text fault spells told (inl memory) = told memory
fit_not_refused file bytes text fault spells told (inr (inl broken)) = not_sound text broken.0 broken.1 spells.sound
fit_not_refused file bytes text fault spells told (inr (inr large)) = let small = spells.small in let above = large.1 in absurd (omega (arith, small, above))

-- ---- both

device_refused_once : (file bytes : List ℕ) (a b : Fault) → RefusesDevice file bytes a → RefusesDevice file bytes b → a ≡ b
device_refused_once file bytes a b (misspelled x) (misspelled y) = bytes_refused_once file bytes a b x y
device_refused_once file bytes a b (misspelled x) (unfit text spells told y) = absurd (spelled_not_refused file bytes text a spells x)
device_refused_once file bytes a b (unfit text spells told x) (misspelled y) = absurd (spelled_not_refused file bytes text b spells y)
device_refused_once file bytes a b (unfit text spells told x) (unfit other also too y) =
    fit_once file other a b told too (subst (λ (t : List PlainModule). IsRefused file t a) (text_once 300 128 300 128 bytes text other spells also) x) y

device_apart : (file bytes : List ℕ) (text : List PlainModule) (fault : Fault) → SpellsDevice bytes text → RefusesDevice file bytes fault → ⊥
device_apart file bytes text fault spells (misspelled x) = spelled_not_refused file bytes text fault spells.spelled x
device_apart file bytes text fault spells (unfit other also told x) =
    fit_not_refused file bytes text fault spells told (subst (λ (t : List PlainModule). IsRefused file t fault) (text_once 300 128 300 128 bytes other text also spells.spelled) x)

pub device_is_judged : (file : List ℕ) → AreJudged (λ a b. a ≡ b) SpellsDevice (RefusesDevice file)
device_is_judged file = record {
  once = λ bytes a b x y. text_once 300 128 300 128 bytes a b x.spelled y.spelled;
  refused_once = λ bytes a b x y. device_refused_once file bytes a b x y;
  apart = λ bytes text fault x y. device_apart file bytes text fault x y;
}
