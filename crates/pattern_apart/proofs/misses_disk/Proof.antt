use mathlib.Core.Path.{sym, ap, subst, ◌∙◌}
use borrow.Author.Rules.{rules}
use Rattle.region.specs.Region.{accepted}
use Rattle.pattern_apart.specs.Apart.{disk-accepted, ApartIf, void_apart}
use Rattle.pattern_apart.proofs.misses_disk.Statement.{statement}
use Rattle.pattern_apart.proofs.misses_disk.Tie as tie

is-void-requires : tie.Need-is_void-requires
is-void-requires c κs = search rules

returns : tie.Need-returns-then-is_void
returns c = void_apart _ _ (sym c.is_void.ensures ∙ c.if-is_void.true)

disk-requires : tie.Need-disk-requires
disk-requires c κs = search rules

are-apart-requires : tie.Need-are_apart-requires
are-apart-requires c κs = (c.requires, ap accepted c.disk.ensures ∙ disk-accepted)

returns-2 : tie.Need-returns
returns-2 c =
    let d = c in
    subst (λ s. ApartIf d.args.r s c.are_apart.result) d.disk.ensures c.are_apart.ensures

pub misses_disk_spec : {M : Type 1} → statement M
misses_disk_spec = tie.close (tie.spec is-void-requires returns disk-requires are-apart-requires returns-2)
