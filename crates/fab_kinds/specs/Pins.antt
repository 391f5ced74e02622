-- The pins and the configuration bits of each kind of BEL. A pin's number counts the inputs first.
use Rattle.std.specs.Prelude.{ℕ, List, [], ◌∷◌, ◌++◌, length, codes}
use Rattle.fab_kinds.specs.declared.kind.Kind.{Kind}
use Rattle.fab_kinds.specs.declared.kind.Kind.TheVariants as kinds

abbrev pub input_names : Kind → List (List ℕ)
input_names kinds.Lut4c = codes "I0" ∷ codes "I1" ∷ codes "I2" ∷ codes "I3" ∷ codes "Ci" ∷ codes "SR" ∷ codes "EN" ∷ []
input_names kinds.Io = codes "I" ∷ codes "T" ∷ []
input_names kinds.Mux8 =
    codes "A" ∷ codes "B" ∷ codes "C" ∷ codes "D" ∷ codes "E" ∷ codes "F" ∷ codes "G" ∷ codes "H"
    ∷ codes "S0" ∷ codes "S1" ∷ codes "S2" ∷ codes "S3" ∷ []

abbrev pub output_names : Kind → List (List ℕ)
output_names kinds.Lut4c = codes "O" ∷ codes "Co" ∷ []
output_names kinds.Io = codes "O" ∷ codes "Q" ∷ []
output_names kinds.Mux8 = codes "M_AB" ∷ codes "M_AD" ∷ codes "M_AH" ∷ codes "M_EF" ∷ []

abbrev pub pin_names : Kind → List (List ℕ)
pin_names kind = input_names kind ++ output_names kind

abbrev pub input_count : Kind → ℕ
input_count kind = length (input_names kind)

abbrev pub output_count : Kind → ℕ
output_count kind = length (output_names kind)

-- ---- pins by number

-- of a LUT4c: I0, SR, EN and O
abbrev pub lut_i0 : ℕ
lut_i0 = 0

abbrev pub lut_sr : ℕ
lut_sr = 5

abbrev pub lut_en : ℕ
lut_en = 6

abbrev pub lut_o : ℕ
lut_o = 7

-- of a pad: I, T and O
abbrev pub pad_i : ℕ
pad_i = 0

abbrev pub pad_t : ℕ
pad_t = 1

abbrev pub pad_o : ℕ
pad_o = 2

-- ---- configuration bits

-- how many configuration bits a BEL has
abbrev pub bit_count : Kind → ℕ
bit_count kinds.Lut4c = 19
bit_count kinds.Io = 0
bit_count kinds.Mux8 = 2
