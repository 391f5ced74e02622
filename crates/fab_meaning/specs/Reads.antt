-- Which points a driver reads.
use Rattle.std.specs.Prelude.{ℕ, Bool, false, ◌&&◌, ◌||◌, List, nat_eq, nat_lt}
use Rattle.std.specs.Cmp.Lexicographic.{pointwise}
use Rattle.std.specs.Str.{bytes_eq}
use Rattle.fab_syntax.specs.Plain.{PlainExpr, PlainExprs, constant, variable, pick, part, concatenation, complement, operation, conditional, none, more, PlainModule}
use Rattle.fab_syntax.specs.Declarations.{width_in}
use Rattle.fab_meaning.specs.Points.{Path, Point, Driver, outside, copy, bit_of, flop, hold, module_at}

abbrev mutual
  -- whether an expression mentions a name, also in an index
  pub mentions : PlainExpr → List ℕ → Bool
  mentions (constant bits) name = false
  mentions (variable other) name = bytes_eq other name
  mentions (pick other index) name = bytes_eq other name || mentions index name
  mentions (part other high low) name = bytes_eq other name
  mentions (concatenation parts) name = some_mentions parts name
  mentions (complement e) name = mentions e name
  mentions (operation op a b) name = mentions a name || mentions b name
  mentions (conditional c a b) name = mentions c name || (mentions a name || mentions b name)

  pub some_mentions : PlainExprs → List ℕ → Bool
  some_mentions none name = false
  some_mentions (more e rest) name = mentions e name || some_mentions rest name

abbrev pub same_path : Path → Path → Bool
same_path = pointwise bytes_eq

abbrev pub same_point : Point → Point → Bool
same_point p q = same_path p.path q.path && (bytes_eq p.name q.name && nat_eq p.bit q.bit)

-- whether the text declares the point: its name has such a bit in the instance at its path
abbrev pub is_declared : List PlainModule → Point → Bool
is_declared text p = nat_lt p.bit (width_in (module_at text p.path) p.name)

-- whether an expression over the names of the instance at a path reads a point, which is a declared bit of a name in it
abbrev pub expression_reads : List PlainModule → Path → PlainExpr → Point → Bool
expression_reads text path e p = same_path path p.path && (mentions e p.name && is_declared text p)

-- whether what a driver gives its point may depend on another point
abbrev pub reads : List PlainModule → Driver → Point → Bool
reads text outside p = false
reads text (copy other) p = same_point other p
reads text (bit_of path e bit) p = expression_reads text path e p
reads text (flop path clock next bit) p = false
reads text (hold path gate e bit) p = expression_reads text path gate p || expression_reads text path e p

-- whether what a flip-flop takes at its tick may depend on a point
abbrev pub next_reads : List PlainModule → Driver → Point → Bool
next_reads text (flop path clock next bit) p = expression_reads text path next p
next_reads text _ p = false
