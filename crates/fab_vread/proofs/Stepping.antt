-- One byte of a text, and its end, by what each step of the reader gives.
use Rattle.std.proofs.Common.{◌≡◌, ℕ, List, refl, sym, ap, ◌∙◌, subst, Option, Some, None, Result, Ok, Err}
use Rattle.fab_base.specs.declared.fault.Fault.{Fault}
use Rattle.fab_base.specs.declared.fault.Fault.TheVariants as faults
use Rattle.fab_base.specs.declared.problem.Problem.{Problem}
use Rattle.fab_base.specs.Reading.{Fails}
use Rattle.fab_syntax.specs.Plain.{PlainModule}
use Rattle.fab_tokens.specs.declared.token.Token.{Token}
use Rattle.fab_tokens.specs.declared.scanner.Scan.{Scan}
use Rattle.fab_tokens.specs.declared.scanner.Step.{Step}
use Rattle.fab_tokens.specs.Scanning.{after_byte, at_end}
use Rattle.fab_vread.specs.inner.Machine.{Machine, Progress, past, line_checked, with_machine, located, and_go, after_token, after_lexeme, after_optional, behind_byte, after_step, after_char, closing, finished}

-- what a step refuses, all of them refuse
pub fails_go : {X Y : Type 0} (fault : Fault) (given : Result X Fault) (more : X → Result Y Fault) → Fails fault given → Fails fault (and_go given more)
fails_go faults.Usage given more h = ap (λ g. and_go g more) h
fails_go (faults.Missing a) given more h = ap (λ g. and_go g more) h
fails_go (faults.TooLong a) given more h = ap (λ g. and_go g more) h
fails_go (faults.Malformed a b) given more h = ap (λ g. and_go g more) h
fails_go (faults.Unsupported a b) given more h = ap (λ g. and_go g more) h
fails_go (faults.Limit a b c d) given more h = ap (λ g. and_go g more) h
fails_go (faults.Short a b c) given more h = ap (λ g. and_go g more) h
fails_go (faults.NoPath a b c) given more h = ap (λ g. and_go g more) h
fails_go (faults.Overused a b c d) given more h = ap (λ g. and_go g more) h
fails_go (faults.Illegal a b) given more h = ap (λ g. and_go g more) h
fails_go (faults.ReadFault a) given more h = ap (λ g. and_go g more) h
fails_go (faults.WriteFault a) given more h = ap (λ g. and_go g more) h
fails_go faults.Memory given more h = tt

-- what the bytes since the last token are does not matter to a token
abbrev with_scan : Scan → Result Progress Fault → Result Progress Fault
with_scan s (Ok q) = Ok (record q { scan = s })
with_scan s (Err fault) = Err fault

module _ (file : List ℕ) where
  lexeme_free : (p : Progress) (s : Scan) (t : Token) → after_lexeme file (record p { scan = s }) t ≡ with_scan s (after_lexeme file p t)
  unfolding after_lexeme
  lexeme_free p s t = checked (past p.machine.over p.token_line p.line) where
    taken : (given : Result Machine Problem) → with_machine (record p { scan = s }) (located file p.line given) ≡ with_scan s (with_machine p (located file p.line given))
    taken (Ok m) = refl
    taken (Err problem) = refl

    checked : (above : Option Problem) →
        and_go (line_checked file (record p { scan = s }) above) (λ q. with_machine q (located file q.line (after_token q.machine t)))
        ≡ with_scan s (and_go (line_checked file p above) (λ q. with_machine q (located file q.line (after_token q.machine t))))
    checked None = taken (after_token p.machine t)
    checked (Some problem) = refl

  optional_free : (p : Progress) (s : Scan) (o : Option Token) → after_optional file (record p { scan = s }) o ≡ with_scan s (after_optional file p o)
  optional_free p s None = refl
  optional_free p s (Some t) = lexeme_free p s t

  -- ---- a byte

  step_free : (p : Progress) (s : Scan) (step : Step) (byte : ℕ) → after_step file (record p { scan = s }) step byte ≡ after_step file p step byte
  step_free p s step byte =
      ap (λ given. and_go given (λ q. and_go (after_optional file q step.second) (λ r. Ok (behind_byte r step.scan byte)))) (optional_free p s step.first)
      ∙ after_first (after_optional file p step.first) where
        after_second : (given : Result Progress Fault) →
            and_go (with_scan s given) (λ r. Ok (behind_byte r step.scan byte)) ≡ and_go given (λ r. Ok (behind_byte r step.scan byte))
        after_second (Ok r) = refl
        after_second (Err fault) = refl

        after_first : (given : Result Progress Fault) →
            and_go (with_scan s given) (λ q. and_go (after_optional file q step.second) (λ r. Ok (behind_byte r step.scan byte)))
            ≡ and_go given (λ q. and_go (after_optional file q step.second) (λ r. Ok (behind_byte r step.scan byte)))
        after_first (Ok q) =
            ap (λ given. and_go given (λ r. Ok (behind_byte r step.scan byte))) (optional_free q s step.second) ∙ after_second (after_optional file q step.second)
        after_first (Err fault) = refl

  step_is : (p : Progress) (s : Scan) (step : Step) (byte : ℕ) → step ≡ after_byte p.scan byte → after_step file (record p { scan = s }) step byte ≡ after_char file p byte
  unfolding after_char
  step_is p s step byte is = step_free p s step byte ∙ ap (λ (st : Step). after_step file p st byte) is

  pub first_fails : (p : Progress) (s : Scan) (step : Step) (byte : ℕ) (fault : Fault) → step ≡ after_byte p.scan byte →
      Fails fault (after_optional file (record p { scan = s }) step.first) → Fails fault (after_char file p byte)
  first_fails p s step byte fault is h =
      subst (λ given. Fails fault given) (step_is p s step byte is)
      (fails_go fault (after_optional file (record p { scan = s }) step.first) (λ q. and_go (after_optional file q step.second) (λ r. Ok (behind_byte r step.scan byte))) h)

  pub second_fails : (p q : Progress) (s : Scan) (step : Step) (byte : ℕ) (fault : Fault) → step ≡ after_byte p.scan byte →
      after_optional file (record p { scan = s }) step.first ≡ Ok q → Fails fault (after_optional file q step.second) → Fails fault (after_char file p byte)
  second_fails p q s step byte fault is first h =
      subst (λ given. Fails fault given)
      (sym (ap (λ given. and_go given (λ q. and_go (after_optional file q step.second) (λ r. Ok (behind_byte r step.scan byte)))) first) ∙ step_is p s step byte is)
      (fails_go fault (after_optional file q step.second) (λ r. Ok (behind_byte r step.scan byte)) h)

  pub byte_goes : (p q r : Progress) (s : Scan) (step : Step) (byte : ℕ) → step ≡ after_byte p.scan byte →
      after_optional file (record p { scan = s }) step.first ≡ Ok q → after_optional file q step.second ≡ Ok r → after_char file p byte ≡ Ok (behind_byte r step.scan byte)
  byte_goes p q r s step byte is first second =
      sym (step_is p s step byte is)
      ∙ ap (λ given. and_go given (λ q. and_go (after_optional file q step.second) (λ r. Ok (behind_byte r step.scan byte)))) first
      ∙ ap (λ given. and_go given (λ r. Ok (behind_byte r step.scan byte))) second

  -- ---- the end

  abbrev ended : Progress → Result (List PlainModule) Fault
  ended q = and_go (line_checked file q (past q.machine.over q.token_line q.line)) (λ r. closing file r)

  ended_free : (q : Progress) (s : Scan) → ended (record q { scan = s }) ≡ ended q
  ended_free q s = checked (past q.machine.over q.token_line q.line) where
    checked : (above : Option Problem) →
        and_go (line_checked file (record q { scan = s }) above) (λ r. closing file r) ≡ and_go (line_checked file q above) (λ r. closing file r)
    checked None = refl
    checked (Some problem) = refl

  end_is : (p : Progress) (s : Scan) (o : Option Token) → o ≡ at_end p.scan →
      and_go (after_optional file (record p { scan = s; line = p.last }) o) (λ q. ended q) ≡ finished file p
  end_is p s o is =
      ap (λ given. and_go given (λ q. ended q)) (optional_free (record p { line = p.last }) s o)
      ∙ after_last (after_optional file (record p { line = p.last }) o)
      ∙ ap (λ o. and_go (after_optional file (record p { line = p.last }) o) (λ q. ended q)) is where
        after_last : (given : Result Progress Fault) → and_go (with_scan s given) (λ q. ended q) ≡ and_go given (λ q. ended q)
        after_last (Ok q) = ended_free q s
        after_last (Err fault) = refl

  pub end_fails : (p : Progress) (s : Scan) (o : Option Token) (fault : Fault) → o ≡ at_end p.scan →
      Fails fault (after_optional file (record p { scan = s; line = p.last }) o) → Fails fault (finished file p)
  end_fails p s o fault is h =
      subst (λ given. Fails fault given) (end_is p s o is) (fails_go fault (after_optional file (record p { scan = s; line = p.last }) o) (λ q. ended q) h)

  pub check_fails : (p q : Progress) (s : Scan) (o : Option Token) (fault : Fault) → o ≡ at_end p.scan →
      after_optional file (record p { scan = s; line = p.last }) o ≡ Ok q → Fails fault (line_checked file q (past q.machine.over q.token_line q.line)) →
      Fails fault (finished file p)
  check_fails p q s o fault is last h =
      subst (λ given. Fails fault given) (sym (ap (λ given. and_go given (λ q. ended q)) last) ∙ end_is p s o is)
      (fails_go fault (line_checked file q (past q.machine.over q.token_line q.line)) (λ r. closing file r) h)

  pub closes_as : (p q r : Progress) (s : Scan) (o : Option Token) → o ≡ at_end p.scan →
      after_optional file (record p { scan = s; line = p.last }) o ≡ Ok q → line_checked file q (past q.machine.over q.token_line q.line) ≡ Ok r →
      closing file r ≡ finished file p
  closes_as p q r s o is last checked =
      sym (ap (λ given. and_go given (λ r. closing file r)) checked) ∙ sym (ap (λ given. and_go given (λ q. ended q)) last) ∙ end_is p s o is
