-- A text is read exactly where its bytes spell it.
use Rattle.std.proofs.Common.{◌≡◌, ℕ, List, [], ◌∷◌, ap, ◌∙◌, subst, sym, arith, Option, Result, Ok, Err}
use Rattle.fab_base.specs.declared.problem.Problem.{Problem}
use Rattle.fab_syntax.specs.Plain as trees
use Rattle.fab_syntax.specs.Plain.{PlainModule, PlainExpr}
use Rattle.fab_syntax.specs.Spelling.{text_bytes}
use Rattle.fab_tokens.specs.declared.token.Token.{Token}
use Rattle.fab_tokens.specs.declared.token.Token.TheVariants.{Identifier, Keyword, Number, Constant, Operator, Arrow, Mark, Unknown}
use Rattle.fab_tokens.specs.Told.{tokens_of}
use Rattle.fab_tokens.proofs.Cut.{spelled_told}
use Rattle.fab_grammar_defs.specs.Grammar.{Modules, SpellsText}
use Rattle.fab_grammar_defs.specs.Printable.{IsPrintableText}
use Rattle.fab_grammar_defs.proofs.Printed.{texts_form}
use Rattle.fab_vread.specs.declared.places.Header.TheVariants as headers
use Rattle.fab_vread.specs.declared.places.Declaration.TheVariants as declarations
use Rattle.fab_vread.specs.declared.places.Process.TheVariants as processes
use Rattle.fab_vread.specs.declared.places.Joins.TheVariants as joinings
use Rattle.fab_vread.specs.declared.places.Purpose.{Purpose}
use Rattle.fab_vread.specs.declared.places.Purpose.TheVariants as purposes
use Rattle.fab_vread.specs.declared.places.Place.{Place}
use Rattle.fab_vread.specs.declared.places.Place.TheVariants as places
use Rattle.fab_vread.specs.declared.expressions.Over.{Over}
use Rattle.fab_vread.specs.inner.Expressions.{PlainLevel, Spot, Behind, wanting, named, select, high, colon, low, after, operand, branch, whole, completed, taken, after_behind, after_whole, with_over}
use Rattle.fab_vread.specs.inner.Places.{move_of}
use Rattle.fab_vread.specs.inner.Machine.{Machine, PlainState, outside, inside, first_machine, after_token, after_token_at, with_stepped, with_value, valued, made, read_of}
use Rattle.fab_vread.proofs.Running.{run, and_next}
use Rattle.fab_vread.proofs.Runs.{both}
use Rattle.fab_vread.proofs.Recognized.{recognized_tree}
use Rattle.fab_vread.proofs.Placing.{text_accepted}
use Rattle.fab_vread.proofs.Bytes.{text_read, text_took}
use Rattle.fab_vread.proofs.Telling.{Known}
use Rattle.fab_vread.proofs.Scanned.{AllKnown, told_spelled}

-- ---- no text has an unknown token

abbrev Refused : Result Machine Problem → Type 0
Refused (Ok m) = ⊥
Refused (Err problem) = Unit {0}

ended_unknown : (m : Machine) (purpose : Purpose) (e : PlainExpr) → Refused (with_value m purpose e Unknown)
ended_unknown m (purposes.Assign target) e = tt
ended_unknown m purposes.Gate e = tt
ended_unknown m (purposes.Latch target) e = tt
ended_unknown m (purposes.Clocked clock target) e = tt
ended_unknown m (purposes.Join of name port) e = tt

whole_unknown : (m : Machine) (purpose : Purpose) (over : Option Over) (ls : List PlainLevel) (e : PlainExpr) →
    Refused (with_stepped m purpose (with_over over (after_whole ls e Unknown)))
whole_unknown m purpose over [] e = ended_unknown (record m { over = over }) purpose e
whole_unknown m purpose over (l ∷ ls) e = tt

behind_unknown : (m : Machine) (purpose : Purpose) (over : Option Over) (ls : List PlainLevel) (behind : Behind) →
    Refused (with_stepped m purpose (with_over over (after_behind ls behind Unknown)))
behind_unknown m purpose over ls (operand e) = whole_unknown m purpose over ls e
behind_unknown m purpose over ls (branch c a) = tt
behind_unknown m purpose over ls (whole e) = whole_unknown m purpose over ls e

spot_unknown : (m : Machine) (purpose : Purpose) (ls : List PlainLevel) (spot : Spot) → Refused (valued m purpose ls spot Unknown)
unfolding taken
spot_unknown m purpose ls (wanting before) = tt
spot_unknown m purpose ls (named before n) = behind_unknown m purpose m.over ls (completed before (trees.variable n))
spot_unknown m purpose ls (select before n) = tt
spot_unknown m purpose ls (high before n number) = tt
spot_unknown m purpose ls (colon before n number) = tt
spot_unknown m purpose ls (low before n h l) = tt
spot_unknown m purpose ls (after behind) = behind_unknown m purpose m.over ls behind

place_unknown : (m : Machine) (place : Place) → Refused (made m (move_of place Unknown))
unfolding move_of taken
place_unknown m (places.Header headers.Start) = tt
place_unknown m (places.Header headers.Name) = tt
place_unknown m (places.Header headers.Open) = tt
place_unknown m (places.Header headers.FirstPort) = tt
place_unknown m (places.Header headers.NextPort) = tt
place_unknown m (places.Header headers.PortEnd) = tt
place_unknown m (places.Header headers.Semicolon) = tt
place_unknown m places.Item = tt
place_unknown m places.Semicolon = tt
place_unknown m (places.Declaration kind declarations.RangeOrName) = tt
place_unknown m (places.Declaration kind declarations.High) = tt
place_unknown m (places.Declaration kind (declarations.Colon width)) = tt
place_unknown m (places.Declaration kind (declarations.Zero width)) = tt
place_unknown m (places.Declaration kind (declarations.Close width)) = tt
place_unknown m (places.Declaration kind (declarations.Name width)) = tt
place_unknown m (places.Process processes.AssignTarget) = tt
place_unknown m (places.Process (processes.AssignSign target)) = tt
place_unknown m (places.Process processes.At) = tt
place_unknown m (places.Process processes.Event) = tt
place_unknown m (places.Process processes.If) = tt
place_unknown m (places.Process processes.GateOpen) = tt
place_unknown m (places.Process processes.LatchTarget) = tt
place_unknown m (places.Process (processes.LatchSign target)) = tt
place_unknown m (places.Process processes.Edge) = tt
place_unknown m (places.Process processes.Clock) = tt
place_unknown m (places.Process (processes.ClockClose clock)) = tt
place_unknown m (places.Process (processes.ClockedTarget clock)) = tt
place_unknown m (places.Process (processes.ClockedArrow clock target)) = tt
place_unknown m (places.InstanceName of) = tt
place_unknown m (places.InstanceOpen of name) = tt
place_unknown m (places.Joins of name joinings.First) = tt
place_unknown m (places.Joins of name joinings.Next) = tt
place_unknown m (places.Joins of name joinings.Port) = tt
place_unknown m (places.Joins of name (joinings.Open port)) = tt
place_unknown m (places.Joins of name (joinings.Value port)) = tt
place_unknown m (places.Joins of name joinings.End) = tt

state_unknown : (m : Machine) (s : PlainState) → Refused (after_token_at m s Unknown)
state_unknown m (outside place) = place_unknown m place
state_unknown m (inside purpose ls spot) = spot_unknown m purpose ls spot

known_next : (t : Token) (given : Result Machine Problem) (ts : List Token) (final : Machine) → (Known t → ⊥) → Refused given →
    and_next given (λ n. run n ts) ≡ Ok final → ⊥
known_next t (Ok n) ts final unknown refused e = refused
known_next t (Err problem) ts final unknown refused e = cc

known_rest : (given : Result Machine Problem) (ts : List Token) (final : Machine) → ((n : Machine) → run n ts ≡ Ok final → AllKnown ts) →
    and_next given (λ n. run n ts) ≡ Ok final → AllKnown ts
known_rest (Ok n) ts final back e = back n e
known_rest (Err problem) ts final back e = absurd (cc)

known_run : (ts : List Token) (m final : Machine) → run m ts ≡ Ok final → AllKnown ts
unfolding run after_token
known_run [] m final e = tt
known_run (Unknown ∷ ts) m final e = absurd (known_next Unknown (after_token_at m m.state Unknown) ts final (λ k. k) (state_unknown m m.state) e)
known_run (Identifier n ∷ ts) m final e = (tt, known_rest (after_token_at m m.state (Identifier n)) ts final (λ n h. known_run ts n final h) e)
known_run (Keyword keyword ∷ ts) m final e = (tt, known_rest (after_token_at m m.state (Keyword keyword)) ts final (λ n h. known_run ts n final h) e)
known_run (Number number ∷ ts) m final e = (tt, known_rest (after_token_at m m.state (Number number)) ts final (λ n h. known_run ts n final h) e)
known_run (Constant bits ∷ ts) m final e = (tt, known_rest (after_token_at m m.state (Constant bits)) ts final (λ n h. known_run ts n final h) e)
known_run (Operator op ∷ ts) m final e = (tt, known_rest (after_token_at m m.state (Operator op)) ts final (λ n h. known_run ts n final h) e)
known_run (Arrow ∷ ts) m final e = (tt, known_rest (after_token_at m m.state Arrow) ts final (λ n h. known_run ts n final h) e)
known_run (Mark byte ∷ ts) m final e = (tt, known_rest (after_token_at m m.state (Mark byte)) ts final (λ n h. known_run ts n final h) e)

-- ---- whole texts

-- what is read is spelled
pub read_spelled : (file bytes : List ℕ) (modules : List PlainModule) → read_of file bytes ≡ Ok modules → SpellsText 300 128 bytes modules
read_spelled file bytes modules e =
    let x = text_took file bytes modules e in
    record {
      tokens = tokens_of bytes;
      spelled = told_spelled bytes (known_run (tokens_of bytes) first_machine x.final x.runs);
      made = subst (λ ms. Modules 300 128 (tokens_of bytes) ms) x.modules_are (recognized_tree (tokens_of bytes) x.final x.runs x.done x.none);
    }

-- what is spelled is read
pub spelled_read : (file bytes : List ℕ) (modules : List PlainModule) → SpellsText 300 128 bytes modules → read_of file bytes ≡ Ok modules
spelled_read file bytes modules s =
    let a = text_accepted both 300 128 s.made in
    let exact = a.exact (omega arith) (omega arith) in
    let told = spelled_told bytes s.tokens s.spelled in
    text_read file bytes a.final (ap (λ ts. run first_machine ts) told ∙ a.runs) exact.1 a.done ∙ ap Ok exact.0

-- what is printed is read
pub printed_read : (file bytes : List ℕ) (modules : List PlainModule) → IsPrintableText modules → bytes ≡ text_bytes modules → read_of file bytes ≡ Ok modules
printed_read file bytes modules printable same =
    spelled_read file bytes modules (subst (λ b. SpellsText 300 128 b modules) (sym same) (texts_form modules printable))
