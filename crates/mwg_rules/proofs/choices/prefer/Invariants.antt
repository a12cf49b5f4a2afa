use Rattle.std.proofs.Common.{◌≡◌, drop, map, take}
use Rattle.irb_iptc.specs.Fields.{fields_of}
use Rattle.mwg_rules.specs.Properties.{properties}
use Rattle.mwg_rules.specs.Sources.{choice_for}
use Rattle.mwg_rules.proofs.choices.prefer.Given as goal

-- the choices so far, and IPTC's values of the properties that are left
abbrev pub invariant-loop-property : goal.invariant-loop-property
invariant-loop-property l = record {
  chosen : l.chosen ≡ map (choice_for l.s.exif l.changed (fields_of l.s.iptc) l.t.props) (take l.property-index properties);
  left : l.iptc ≡ drop l.property-index (fields_of l.s.iptc);
}
