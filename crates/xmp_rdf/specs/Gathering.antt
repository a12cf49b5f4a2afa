-- What is kept of the tops that were read. None of this need be believed: it says what private functions hand on.
use Rattle.std.specs.Prelude.{◌≡◌, ℕ, List, [], ◌∷◌, ◌++◌, Result, Ok, Err}
use Rattle.std.specs.List.{flat_map}
use Rattle.xmp_values.specs.Stops.{place_of, Stops}
use Rattle.xmp_values.specs.declared.stops.PlaceStop.{PlaceStop}
use Rattle.xmp_values.specs.declared.text.Name.{Name}
use Rattle.xml_grammar.specs.declared.elements.Element.{Element}
use Rattle.rdf_forms.specs.NameRules.{first_about}
use Rattle.rdf_forms.specs.FormViews.{about_in}
use Rattle.rdf_forms.specs.MemberRules.{member_names}
use Rattle.rdf_forms.specs.Meaning.{Placed}
use Rattle.rdf_forms.specs.Entering.{Holds}
use Rattle.xmp_rdf.specs.declared.parting.Parted.{Parted}
use Rattle.xmp_rdf.specs.declared.tops.Gathered.{Gathered}
use Rattle.xmp_rdf.specs.Meanings.{Fault}
use Rattle.xmp_rdf.specs.Reading.{checked_top, read_tops}
use Rattle.xmp_rdf.specs.Parting.{parts_of}

-- a first about and a set of names are those of these tops
pub record IsAfter (tops : List Element) (first : List ℕ) (names : List Name) : Type 0 where
  pub about : first ≡ first_about tops
  pub holds : Holds names (flat_map member_names tops)

-- a set of names that got a top's, where the top breaks no rule after earlier ones; unless memory ran out
abbrev pub Enters : List Element → Element → Result (Unit {0}) PlaceStop → List Name → Type 0
Enters earlier top (Ok u) names = (checked_top earlier top ≡ Ok tt) × Holds names (flat_map member_names (earlier ++ top ∷ []))
Enters earlier top (Err e) names = Stops place_of e (λ f. checked_top earlier top ≡ Err f)

-- the parts of what reading gives, unless memory ran out
abbrev pub Parts : Result (Unit {0}) PlaceStop → Parted → Result (List Placed) Fault → Type 0
Parts (Ok u) parts read = (ps : List Placed) × (read ≡ Ok ps) × (parts ≡ parts_of ps)
Parts (Err e) parts read = Stops place_of e (λ f. read ≡ Err f)

-- what is kept is what tops give after earlier ones and what was read of those, unless memory ran out
abbrev pub Gathers : ℕ → List Placed → List Element → List Element → Result (Unit {0}) PlaceStop → Gathered → Type 0
Gathers levels before earlier tops (Ok u) g =
    Parts (Ok u) g.parts (read_tops levels before earlier tops) × IsAfter (earlier ++ tops) (about_in g.first) g.names
Gathers levels before earlier tops (Err e) g = Stops place_of e (λ f. read_tops levels before earlier tops ≡ Err f)
