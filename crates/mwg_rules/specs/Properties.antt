-- The twelve properties of XMP that Exif and IPTC tell of too, and the form of each (ISO 16684-1, clause 8; Metadata Working Group,
-- Guidelines for Handling Image Metadata 2.0, section 5).
use Rattle.std.specs.Prelude.{ℕ, List, [], ◌∷◌, codes}
use Rattle.xmp_values.specs.declared.text.Name.{Name}
use Rattle.mwg_rules.specs.declared.properties.Form.{Form}
use Rattle.mwg_rules.specs.declared.properties.Form.TheVariants.{Text, Date, Bag, Seq, Language}
use Rattle.mwg_rules.specs.declared.properties.Property.{Property}
use Rattle.mwg_rules.specs.declared.properties.Property.TheVariants.{Description, Rights, Creator, Subject, DateCreated, CreateDate, ModifyDate, City, State, Country, CountryCode, Location}

-- in this order
unfoldable pub properties : List Property
properties =
    Description ∷ Rights ∷ Creator ∷ Subject ∷ DateCreated ∷ CreateDate ∷ ModifyDate ∷ City ∷ State ∷ Country ∷ CountryCode ∷ Location ∷ []

-- the place in that order, counted from 0
abbrev pub number_of : Property → ℕ
number_of Description = 0
number_of Rights = 1
number_of Creator = 2
number_of Subject = 3
number_of DateCreated = 4
number_of CreateDate = 5
number_of ModifyDate = 6
number_of City = 7
number_of State = 8
number_of Country = 9
number_of CountryCode = 10
number_of Location = 11

abbrev pub form_of : Property → Form
form_of Description = Language
form_of Rights = Language
form_of Creator = Seq
form_of Subject = Bag
form_of DateCreated = Date
form_of CreateDate = Date
form_of ModifyDate = Date
form_of City = Text
form_of State = Text
form_of Country = Text
form_of CountryCode = Text
form_of Location = Text

-- The namespaces: Dublin Core, Photoshop, XMP, IPTC Core.
abbrev pub dublin_core : List ℕ
dublin_core = codes "http://purl.org/dc/elements/1.1/"

abbrev pub photoshop : List ℕ
photoshop = codes "http://ns.adobe.com/photoshop/1.0/"

abbrev pub xmp_basic : List ℕ
xmp_basic = codes "http://ns.adobe.com/xap/1.0/"

abbrev pub iptc_core : List ℕ
iptc_core = codes "http://iptc.org/std/Iptc4xmpCore/1.0/xmlns/"

unfoldable pub space_of : Property → List ℕ
space_of Description = dublin_core
space_of Rights = dublin_core
space_of Creator = dublin_core
space_of Subject = dublin_core
space_of DateCreated = photoshop
space_of CreateDate = xmp_basic
space_of ModifyDate = xmp_basic
space_of City = photoshop
space_of State = photoshop
space_of Country = photoshop
space_of CountryCode = iptc_core
space_of Location = iptc_core

unfoldable pub local_of : Property → List ℕ
local_of Description = codes "description"
local_of Rights = codes "rights"
local_of Creator = codes "creator"
local_of Subject = codes "subject"
local_of DateCreated = codes "DateCreated"
local_of CreateDate = codes "CreateDate"
local_of ModifyDate = codes "ModifyDate"
local_of City = codes "City"
local_of State = codes "State"
local_of Country = codes "Country"
local_of CountryCode = codes "CountryCode"
local_of Location = codes "Location"

abbrev pub name_of : Property → Name
name_of p = record { space = space_of p; local = local_of p }

-- the name with its known prefix, as it is shown
unfoldable pub shown_name : Property → List ℕ
shown_name Description = codes "dc:description"
shown_name Rights = codes "dc:rights"
shown_name Creator = codes "dc:creator"
shown_name Subject = codes "dc:subject"
shown_name DateCreated = codes "photoshop:DateCreated"
shown_name CreateDate = codes "xmp:CreateDate"
shown_name ModifyDate = codes "xmp:ModifyDate"
shown_name City = codes "photoshop:City"
shown_name State = codes "photoshop:State"
shown_name Country = codes "photoshop:Country"
shown_name CountryCode = codes "Iptc4xmpCore:CountryCode"
shown_name Location = codes "Iptc4xmpCore:Location"
