-- When two sites are one.
use Rattle.std.specs.Prelude.{Bool, ◌&&◌, nat_eq}
use Rattle.fab_legal.specs.fab_fabric.specs.declared.wire.Site.{Site}

abbrev pub same_site : Site → Site → Bool
same_site a b = nat_eq a.x b.x && (nat_eq a.y b.y && nat_eq a.bel b.bel)
