-- One byte of a text.
use Rattle.std.proofs.Common.{◌≡◌, ℕ, List, [], ◌∷◌, sym, ap, ◌∙◌, Result, Ok, Err}
use Rattle.fab_base.specs.declared.fault.Fault.{Fault}
use Rattle.fab_base.specs.declared.fault.Fault.TheVariants as faults
use Rattle.fab_base.specs.Reading.{Fails}
use Rattle.fab_vread.specs.inner.Machine.{Progress, and_go, after_char, read_from}

-- a byte that is taken
pub byte_taken : (file : List ℕ) (p q : Progress) (byte : ℕ) (bytes : List ℕ) (whole : Result Progress Fault) → after_char file p byte ≡ Ok q →
    read_from file p (byte ∷ bytes) ≡ whole → read_from file q bytes ≡ whole
unfolding read_from
byte_taken file p q byte bytes whole taken e = sym (ap (λ given. and_go given (λ r. read_from file r bytes)) taken) ∙ e

byte_refused : (file : List ℕ) (p : Progress) (byte : ℕ) (bytes : List ℕ) (whole : Result Progress Fault) (fault : Fault) → after_char file p byte ≡ Err fault →
    read_from file p (byte ∷ bytes) ≡ whole → whole ≡ Err fault
unfolding read_from
byte_refused file p byte bytes whole fault refused e = sym e ∙ ap (λ given. and_go given (λ r. read_from file r bytes)) refused

-- a byte that is refused
pub byte_fails : (fault : Fault) (file : List ℕ) (p : Progress) (byte : ℕ) (bytes : List ℕ) (whole : Result Progress Fault) → Fails fault (after_char file p byte) →
    read_from file p (byte ∷ bytes) ≡ whole → Fails fault whole
byte_fails faults.Usage file p byte bytes whole h e = byte_refused file p byte bytes whole faults.Usage h e
byte_fails (faults.Missing a) file p byte bytes whole h e = byte_refused file p byte bytes whole (faults.Missing a) h e
byte_fails (faults.TooLong a) file p byte bytes whole h e = byte_refused file p byte bytes whole (faults.TooLong a) h e
byte_fails (faults.Malformed a b) file p byte bytes whole h e = byte_refused file p byte bytes whole (faults.Malformed a b) h e
byte_fails (faults.Unsupported a b) file p byte bytes whole h e = byte_refused file p byte bytes whole (faults.Unsupported a b) h e
byte_fails (faults.Limit a b c d) file p byte bytes whole h e = byte_refused file p byte bytes whole (faults.Limit a b c d) h e
byte_fails (faults.Short a b c) file p byte bytes whole h e = byte_refused file p byte bytes whole (faults.Short a b c) h e
byte_fails (faults.NoPath a b c) file p byte bytes whole h e = byte_refused file p byte bytes whole (faults.NoPath a b c) h e
byte_fails (faults.Overused a b c d) file p byte bytes whole h e = byte_refused file p byte bytes whole (faults.Overused a b c d) h e
byte_fails (faults.Illegal a b) file p byte bytes whole h e = byte_refused file p byte bytes whole (faults.Illegal a b) h e
byte_fails (faults.ReadFault a) file p byte bytes whole h e = byte_refused file p byte bytes whole (faults.ReadFault a) h e
byte_fails (faults.WriteFault a) file p byte bytes whole h e = byte_refused file p byte bytes whole (faults.WriteFault a) h e
byte_fails faults.Memory file p byte bytes whole h e = tt

-- the bytes end here
pub bytes_end : (file : List ℕ) (p : Progress) (bytes : List ℕ) (whole : Result Progress Fault) → bytes ≡ [] → read_from file p bytes ≡ whole → whole ≡ Ok p
unfolding read_from
bytes_end file p bytes whole none e = sym e ∙ ap (λ (bs : List ℕ). read_from file p bs) none
