-- The pieces of a text, how each is spelled, and where it may stand. Productions are those of XML 1.0 (fifth edition).
use Rattle.std.specs.Prelude.{◌≡◌, ◌≢◌, ℕ, Bool, true, false, ◌⊎◌, IsTrue, List, [], ◌∷◌, ◌++◌, Option, codes, encode_utf8_all}
use Rattle.xmp_values.specs.Characters.{is_char}
use Rattle.xml_grammar.specs.declared.tags.QName.{QName}
use Rattle.xml_grammar.specs.declared.tags.Tag.{Tag}
use Rattle.xml_grammar.specs.declared.tokens.Mode.{Mode}
use Rattle.xml_grammar.specs.declared.tokens.Mode.TheVariants as modes
use Rattle.xml_grammar.specs.Spelling.{BeginsWith, Lacks, AreChars, AreBlank, SpellsQName, SpellsReference, SpellsAttributes, IsVersion, SpellsEncoding, IsStandalone, IsTarget, IsInstructionText, line_ends}

-- the least part of a text that means something
pub data Piece : Type 0 where
  -- an XML declaration, and the encoding that it names
  Declaration : Option (List ℕ) → Piece
  Instruction : Piece
  Comment : Piece
  -- a CDATA section, and the text that it stands for
  Cdata : List ℕ → Piece
  Start : Tag → Piece
  End : QName → Piece
  -- a reference, and the character that it stands for
  Reference : ℕ → Piece
  -- CR LF or CR, which stands for LF
  LineEnd : Piece
  -- a character that stands for itself
  Character : ℕ → Piece

-- the end of a start tag or of an empty one
abbrev pub tag_close : Bool → List ℕ
tag_close true = codes "/>"
tag_close false = codes ">"

abbrev pub Spells : Piece → List ℕ → Type 0
-- production 23, XMLDecl
Spells (Declaration encoding) text =
    (version : List ℕ) × (named : List ℕ) × (alone : List ℕ) × (gap : List ℕ) × IsVersion version × SpellsEncoding encoding named × IsStandalone alone × AreBlank gap
    × (text ≡ codes "<?xml" ++ version ++ named ++ alone ++ gap ++ codes "?>")
-- production 16, PI
Spells Instruction text =
    (target : List ℕ) × (inside : List ℕ) × IsTarget target × IsInstructionText inside × (text ≡ codes "<?" ++ target ++ inside ++ codes "?>")
-- production 15, Comment: neither `--` nor `-` at the end
Spells Comment text =
    (inside : List ℕ) × AreChars inside × Lacks (codes "--") (inside ++ codes "-") × (text ≡ codes "<!--" ++ inside ++ codes "-->")
-- productions 18 to 21, CDSect
Spells (Cdata data_text) text =
    (inside : List ℕ) × AreChars inside × Lacks (codes "]]>") inside × (data_text ≡ encode_utf8_all (line_ends inside)) × (text ≡ codes "<![CDATA[" ++ inside ++ codes "]]>")
-- productions 40, STag, and 44, EmptyElemTag
Spells (Start tag) text =
    (name : List ℕ) × (inside : List ℕ) × (gap : List ℕ) × SpellsQName tag.name name × SpellsAttributes tag.attributes inside × AreBlank gap
    × (text ≡ codes "<" ++ name ++ inside ++ gap ++ tag_close tag.empty)
-- production 42, ETag
Spells (End end_name) text = (name : List ℕ) × (gap : List ℕ) × SpellsQName end_name name × AreBlank gap × (text ≡ codes "</" ++ name ++ gap ++ codes ">")
Spells (Reference c) text = SpellsReference c text
-- section 2.11
Spells LineEnd text = (text ≡ 0xD ∷ 0xA ∷ []) ⊎ (text ≡ 0xD ∷ [])
-- production 14, CharData, one character of it
Spells (Character c) text = IsTrue (is_char c) × (c ≢ 0x3C) × (c ≢ 0x26) × (c ≢ 0xD) × (text ≡ c ∷ [])

-- What a piece asks of its place and of what follows its front: an XML declaration stands first, CR alone is not before
-- LF, and inside an element `]` is not before `]>`.
abbrev pub Fits : Mode → Piece → List ℕ → List ℕ → Type 0
Fits mode (Declaration encoding) front back = mode ≡ modes.Start
Fits mode LineEnd front back = front ≡ 0xD ∷ [] → BeginsWith (0xA ∷ []) back → ⊥
Fits mode (Character c) front back = mode ≡ modes.Inside → c ≡ 0x5D → BeginsWith (codes "]>") back → ⊥
Fits mode piece front back = Unit {0}

-- the piece stands at the front, before what follows it
pub record Stands (mode : Mode) (piece : Piece) (front back : List ℕ) : Type 0 where
  pub spelled : Spells piece front
  pub fits : Fits mode piece front back

-- some piece stands at the front of a text
abbrev pub HasPiece : Mode → List ℕ → Type 0
HasPiece mode text = (piece : Piece) × (front : List ℕ) × (back : List ℕ) × Stands mode piece front back × (text ≡ front ++ back)
