-- A text that is read in pieces.
use Rattle.std.proofs.Common.{◌≡◌, ◌⊎◌, ℕ, ◌+◌, List, [], ◌∷◌, ◌++◌, length, refl, sym, ap, ◌∙◌, subst, inl, inr, arith, length-append, Result, Ok, Err, OnOk, OnErr}
use Rattle.fab_base.specs.declared.fault.Fault.{Fault}
use Rattle.fab_base.specs.declared.fault.Fault.TheVariants as faults
use Rattle.fab_base.specs.Reading.{Fails, Gives}
use Rattle.fab_syntax.specs.declared.tree.Text.{Text}
use Rattle.fab_syntax.specs.Plain.{plain_text}
use Rattle.fab_vread.specs.declared.reader.Reader.{Reader}
use Rattle.fab_vread.specs.declared.reader.Standing.{Standing}
use Rattle.fab_vread.specs.declared.reader.Standing.TheVariants as standings
use Rattle.fab_vread.specs.inner.Machine.{Progress, after_char, and_go, finished, first_progress, read_from, read_of}
use Rattle.fab_vread.specs.inner.Progress.{plain_progress}
use Rattle.fab_vread.specs.Pieces.{HasRead, StandsAt, fed_len}

-- one byte and what is behind it
go_on : {X Y Z : Type 0} (given : Result X Fault) (more : X → Result Y Fault) (last : Y → Result Z Fault) → and_go given (λ x. and_go (more x) last) ≡ and_go (and_go given more) last
go_on (Ok x) more last = refl
go_on (Err fault) more last = refl

go_same : {X Y : Type 0} (given : Result X Fault) (more other : X → Result Y Fault) → ((x : X) → more x ≡ other x) → and_go given more ≡ and_go given other
go_same (Ok x) more other same = same x
go_same (Err fault) more other same = refl

-- bytes are read as their two parts, one behind the other
pub read_on : (file : List ℕ) (p : Progress) (front rest : List ℕ) → read_from file p (front ++ rest) ≡ and_go (read_from file p front) (λ q. read_from file q rest)
unfolding read_from
read_on file p [] rest = refl
read_on file p (byte ∷ front) rest =
    go_same (after_char file p byte) (λ q. read_from file q (front ++ rest)) (λ q. and_go (read_from file q front) (λ r. read_from file r rest)) (λ q. read_on file q front rest)
    ∙ go_on (after_char file p byte) (λ q. read_from file q front) (λ q. read_from file q rest)

-- a reader that is going reads the next piece from where it is
pub piece_read : (file : List ℕ) (q : Progress) (bytes piece : List ℕ) → read_from file first_progress bytes ≡ Ok q → read_from file first_progress (bytes ++ piece) ≡ read_from file q piece
piece_read file q bytes piece so = read_on file first_progress bytes piece ∙ ap (λ given. and_go given (λ r. read_from file r piece)) so

-- what is refused stays so
pub piece_passed : (file : List ℕ) (fault : Fault) (bytes piece : List ℕ) → read_from file first_progress bytes ≡ Err fault → read_from file first_progress (bytes ++ piece) ≡ Err fault
piece_passed file fault bytes piece so = read_on file first_progress bytes piece ∙ ap (λ given. and_go given (λ r. read_from file r piece)) so

-- an answer that is this fault
pub fails_as : {X : Type 0} (fault : Fault) (given : Result X Fault) → given ≡ Err fault → Fails fault given
fails_as faults.Usage given so = so
fails_as (faults.Missing a) given so = so
fails_as (faults.TooLong a) given so = so
fails_as (faults.Malformed a b) given so = so
fails_as (faults.Unsupported a b) given so = so
fails_as (faults.Limit a b c d) given so = so
fails_as (faults.Short a b c) given so = so
fails_as (faults.NoPath a b c) given so = so
fails_as (faults.Overused a b c d) given so = so
fails_as (faults.Illegal a b) given so = so
fails_as (faults.ReadFault a) given so = so
fails_as (faults.WriteFault a) given so = so
fails_as faults.Memory given so = tt

-- the end of a reader that is going
pub going_ends : (file : List ℕ) (q : Progress) (bytes : List ℕ) (result : Result Text Fault) → read_from file first_progress bytes ≡ Ok q → Gives plain_text result (finished file q) → Gives plain_text result (read_of file bytes)
unfolding read_of
going_ends file q bytes result so gives = subst (λ given. Gives plain_text result given) (sym (ap (λ given. and_go given (λ p. finished file p)) so)) gives

-- the end of one that was refused
pub refused_ends : (file : List ℕ) (fault : Fault) (bytes : List ℕ) → read_from file first_progress bytes ≡ Err fault → Fails fault (read_of file bytes)
unfolding read_of
refused_ends file fault bytes so = fails_as fault (read_of file bytes) (ap (λ given. and_go given (λ p. finished file p)) so)

-- ---- a reader

-- an answer is one or the other
pub either_way : {X E P Q : Type 0} (r : Result X E) → OnOk r P → OnErr r Q → P ⊎ Q
either_way (Ok x) p q = inl p
either_way (Err e) p q = inr q

pub on_ok : {X E P Q : Type 0} (r : Result X E) → OnOk r P → (P → Q) → OnOk r Q
on_ok (Ok x) p f = f p
on_ok (Err e) p f = tt

-- a reader that was going has taken a piece more
pub fed_more : (reader new : Reader) (file bytes piece : List ℕ) → HasRead file bytes reader → reader.standing ≡ standings.Going → new.file ≡ reader.file → fed_len new ≡ fed_len reader + length piece
    → StandsAt new.standing (plain_progress new.progress) (read_from reader.file (plain_progress reader.progress) piece) → HasRead file (bytes ++ piece) new
fed_more reader new file bytes piece has going same_file fed stands =
    let q = plain_progress reader.progress in
    let so : read_from file first_progress bytes ≡ Ok q = subst (λ (s : Standing). StandsAt s q (read_from file first_progress bytes)) going has.stands in
    let come : read_from reader.file q piece ≡ read_from file first_progress (bytes ++ piece) = ap (λ (f : List ℕ). read_from f q piece) has.of_file ∙ sym (piece_read file q bytes piece so) in
    let before = has.counted in
    let both = length-append bytes piece in
    record {
      of_file = same_file ∙ has.of_file;
      counted = omega (arith, fed, before, both);
      stands = subst (λ (given : Result Progress Fault). StandsAt new.standing (plain_progress new.progress) given) come stands;
    }

-- one that was refused stands as before
pub passed_over : (standing : Standing) (p : Progress) (file : List ℕ) (fault : Fault) (bytes piece : List ℕ) → standing ≡ standings.Refused fault → StandsAt standing p (read_from file first_progress bytes)
    → StandsAt standing p (read_from file first_progress (bytes ++ piece))
passed_over standing p file fault bytes piece is stands =
    let so : read_from file first_progress bytes ≡ Err fault = subst (λ (s : Standing). StandsAt s p (read_from file first_progress bytes)) is stands in
    subst (λ (s : Standing). StandsAt s p (read_from file first_progress (bytes ++ piece))) (sym is) (piece_passed file fault bytes piece so)

pub going_closes : (reader : Reader) (file bytes : List ℕ) (result : Result Text Fault) → HasRead file bytes reader → reader.standing ≡ standings.Going → Gives plain_text result (finished reader.file (plain_progress reader.progress))
    → Gives plain_text result (read_of file bytes)
going_closes reader file bytes result has going gives =
    let q = plain_progress reader.progress in
    let so : read_from file first_progress bytes ≡ Ok q = subst (λ (s : Standing). StandsAt s q (read_from file first_progress bytes)) going has.stands in
    going_ends file q bytes result so (subst (λ (f : List ℕ). Gives plain_text result (finished f q)) has.of_file gives)

pub refused_closes : (reader : Reader) (file bytes : List ℕ) (fault : Fault) → HasRead file bytes reader → reader.standing ≡ standings.Refused fault → Fails fault (read_of file bytes)
refused_closes reader file bytes fault has is =
    refused_ends file fault bytes (subst (λ (s : Standing). StandsAt s (plain_progress reader.progress) (read_from file first_progress bytes)) is has.stands)
