-- How items, fields and a property are stored, for the private parts of a type that contracts see as these.
use mir.Syntax.{named}
use Rattle.std.specs.Prelude.{List, []}
use Rattle.std.specs.Coded.{Coded, coded_list}
use Rattle.xmp_tree.specs.declared.nested.Value.{Value}
use Rattle.xmp_tree.specs.declared.nested.Member.{Member}
use Rattle.xmp_tree.specs.contracts.nested.Value as the_value
use Rattle.xmp_tree.specs.contracts.nested.Member as the_member

abbrev pub ItemList : Type 0
ItemList = List Value

abbrev pub items_code : Coded ItemList
items_code = coded_list (the_value.the_row record { mir = named 1; lft = [] }).coded

abbrev pub property_code : Coded Member
property_code = (the_member.the_row record { mir = named 1; lft = [] }).coded

abbrev pub FieldList : Type 0
FieldList = List Member

abbrev pub fields_code : Coded FieldList
fields_code = coded_list property_code
