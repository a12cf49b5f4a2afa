use Rattle.std.proofs.Common.{◌≡◌}
use Rattle.xmp_edit.specs.Languages.{HasLanguages}
use Rattle.xmp_edit.proofs.languages.spoken_of.Given as goal

abbrev pub invariant-loop-item : goal.invariant-loop-item
invariant-loop-item l = record { items : l.list ≡ l.yielded; known : HasLanguages l.places l.list }
