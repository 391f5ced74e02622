-- The number and the report of each fault.
use Rattle.std.specs.Prelude.{ℕ, List, [], ◌∷◌, ◌++◌, codes, decimal}
use Rattle.fab_base.specs.declared.fault.Status.{Status}
use Rattle.fab_base.specs.declared.fault.Place.{Place}
use Rattle.fab_base.specs.declared.fault.SiteKind.{SiteKind}
use Rattle.fab_base.specs.declared.fault.SiteKind.TheVariants as kinds
use Rattle.fab_base.specs.declared.fault.Fault.{Fault}
use Rattle.fab_base.specs.declared.fault.Fault.TheVariants as faults
use Rattle.fab_base.specs.Words.{reason_words, quantity_words}

abbrev pub status : ℕ → Status
status n = record { 0 = n }

-- the number with which a command ends; 0 is no fault
abbrev pub number_of : Fault → Status
number_of faults.Usage = status 1
number_of (faults.Missing file) = status 2
number_of (faults.TooLong file) = status 3
number_of (faults.Malformed place reason) = status 4
number_of (faults.Unsupported place construct) = status 5
number_of (faults.Limit place quantity value bound) = status 6
number_of (faults.Short kind need have) = status 7
number_of (faults.NoPath net wire placement) = status 8
number_of (faults.Overused wire first second placement) = status 9
number_of (faults.Illegal rule item) = status 10
number_of (faults.ReadFault file) = status 11
number_of (faults.WriteFault file) = status 12
number_of faults.Memory = status 13

-- a blank and a word
abbrev pub spaced : List ℕ → List ℕ
spaced word = 32 ∷ word

-- FILE:LINE
abbrev pub place_text : Place → List ℕ
place_text place = place.file ++ 58 ∷ decimal place.line

abbrev pub kind_text : SiteKind → List ℕ
kind_text kinds.Lut = codes "LUT4c"
kind_text kinds.Pad = codes "IO"

abbrev pub line_end : List ℕ
line_end = 10 ∷ []

-- The report line with its line feed, and after it the implementation text that two reports carry.
abbrev pub report : Fault → List ℕ
report faults.Usage = codes "usage" ++ line_end
report (faults.Missing file) = codes "missing" ++ spaced file ++ line_end
report (faults.TooLong file) = codes "too long" ++ spaced file ++ line_end
report (faults.Malformed place reason) = codes "malformed" ++ spaced (place_text place) ++ spaced (reason_words reason) ++ line_end
report (faults.Unsupported place construct) = codes "unsupported" ++ spaced (place_text place) ++ spaced construct ++ line_end
report (faults.Limit place quantity value bound) = codes "limit" ++ spaced (place_text place) ++ spaced (quantity_words quantity) ++ spaced (decimal value) ++ spaced (decimal bound) ++ line_end
report (faults.Short kind need have) = codes "short" ++ spaced (kind_text kind) ++ spaced (decimal need) ++ spaced (decimal have) ++ line_end
report (faults.NoPath net wire placement) = codes "no path" ++ spaced net ++ spaced wire ++ line_end ++ placement
report (faults.Overused wire first second placement) = codes "overused" ++ spaced wire ++ spaced first ++ spaced second ++ line_end ++ placement
report (faults.Illegal rule item) = codes "illegal" ++ spaced (decimal rule) ++ spaced item ++ line_end
report (faults.ReadFault file) = codes "read fault" ++ spaced file ++ line_end
report (faults.WriteFault file) = codes "write fault" ++ spaced file ++ line_end
report faults.Memory = []
