-- Reading elements: the first fault among them, or what they mean.
use Rattle.std.specs.Prelude.{ℕ, ◌+◌, List, ◌++◌, map, Result}
use Rattle.std.specs.List.{flat_map}
use Rattle.xml_grammar.specs.declared.elements.Element.{Element}
use Rattle.xmp_tree.specs.declared.nested.Value.{Value}
use Rattle.xmp_tree.specs.declared.nested.Member.{Member}
use Rattle.rdf_forms.specs.declared.roles.Role.{Role}
use Rattle.rdf_forms.specs.declared.roles.Role.TheVariants as roles
use Rattle.rdf_forms.specs.declared.roles.Holder.{Holder}
use Rattle.rdf_forms.specs.Forms.{Form}
use Rattle.rdf_forms.specs.declared.roles.Holder.TheVariants as holders
use Rattle.rdf_forms.specs.Parts.{place_of, elements_of}
use Rattle.rdf_forms.specs.Visits.{Visit, visit, member_depth, form_visits, property_visits, top_visits, rdf_visits}
use Rattle.rdf_forms.specs.NameRules.{first_about}
use Rattle.rdf_forms.specs.Values.{element_member, formed, value_within}
use Rattle.rdf_forms.specs.Rules.{fault_at, first_fault, fault_of}
use Rattle.rdf_forms.specs.Meaning.{Placed, tops_of, placed_in, all_placed}
use Rattle.xmp_rdf.specs.declared.tops.Contents.{Contents}
use Rattle.xmp_rdf.specs.Meanings.{Fault, unless}
use Rattle.xmp_rdf.specs.Parting.{parts_of}

-- an element by itself, of which nothing is read
unfoldable pub checked : Role → ℕ → Element → Result (Unit {0}) Fault
checked role depth e = unless (fault_at (visit role depth e)) tt

-- a property or item at a depth, with fewer levels of elements inside it than `levels`
unfoldable pub read_within : ℕ → Role → ℕ → Element → Result Value Fault
read_within levels role depth e = unless (first_fault (property_visits levels role depth e)) (value_within levels e)

-- what is inside a property or item of this form
unfoldable pub read_form : ℕ → ℕ → Element → Form → Result Value Fault
read_form levels depth e form = unless (first_fault (form_visits (property_visits levels) depth e form)) (formed (value_within levels) e form)

-- elements, each by its visits and by what it means, after what was read before them
unfoldable pub read_all : {X : Type 0} → (Element → List Visit) → (Element → X) → List X → List Element → Result (List X) Fault
read_all visits meaning before es = unless (first_fault (flat_map visits es)) (before ++ map meaning es)

-- the elements inside a member of this holder
abbrev pub visits_in : ℕ → Holder → ℕ → Element → List Visit
visits_in levels holder depth c = property_visits levels (roles.Property holder) (member_depth depth c) c

abbrev pub read_members : ℕ → Holder → ℕ → List Member → List Element → Result (List Member) Fault
read_members levels holder depth = read_all (visits_in levels holder depth) (element_member (value_within levels))

-- those inside an item
abbrev pub visits_at : ℕ → ℕ → Element → List Visit
visits_at levels depth c = property_visits levels roles.Item (depth + 1) c

abbrev pub read_items : ℕ → ℕ → List Value → List Element → Result (List Value) Fault
read_items levels depth = read_all (visits_at levels depth) (value_within levels)

-- ---- the tops

-- the child elements of a top, as properties with their places
abbrev pub placed_member : ℕ → Element → Placed
placed_member levels c = (place_of c, element_member (value_within levels) c)

abbrev pub read_placed : ℕ → List Placed → List Element → Result (List Placed) Fault
read_placed levels = read_all (visits_in levels holders.Top 0) (placed_member levels)

-- a top by itself, after earlier ones
unfoldable pub checked_top : List Element → Element → Result (Unit {0}) Fault
checked_top earlier t = unless (fault_at record { role = roles.Top; depth = 0; element = t; earlier = earlier }) tt

-- tops after earlier ones
unfoldable pub read_tops : ℕ → List Placed → List Element → List Element → Result (List Placed) Fault
read_tops levels before earlier ts = unless (first_fault (top_visits levels earlier ts)) (before ++ flat_map (placed_in levels) ts)

-- the tops of `rdf:RDF`, their members with the note apart
unfoldable pub read_rdf : ℕ → Element → Result Contents Fault
read_rdf levels e = unless (first_fault (rdf_visits levels e)) record { about = first_about (elements_of e); parts = parts_of (flat_map (placed_in levels) (elements_of e)) }

-- the tops of a document
unfoldable pub read_root : ℕ → Element → Result Contents Fault
read_root levels root = unless (fault_of levels root) record { about = first_about (tops_of root); parts = parts_of (all_placed levels root) }
