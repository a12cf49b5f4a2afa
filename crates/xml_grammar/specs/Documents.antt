-- What a text's document is, and what its first fault is.
use Rattle.std.specs.Prelude.{◌≡◌, ◌≢◌, ◌⊎◌, ℕ, ◌+◌, ◌≤◌, true, false, IsTrue, IsFalse, ◌==◌, if◌then◌else◌, List, [], ◌∷◌, ◌++◌, length, None, chars, codes, encode_utf8_all}
use Rattle.std.specs.Str.{IsUtf8}
use Rattle.std.specs.Str.Lossy.{utf8_valid_len}
use Rattle.xmp_values.specs.Characters.{is_char}
use Rattle.xmp_values.specs.declared.hints.Hint.{Hint}
use Rattle.xmp_values.specs.Rules.{number_of}
use Rattle.xmp_values.specs.declared.rules.Rule.{Rule}
use Rattle.xmp_values.specs.declared.rules.Rule.TheVariants.{Utf16, NotUtf8, BadChar, Doctype, BadReference, BadTag, BadComment, BadInstruction, BadCdata, Unfinished}
use Rattle.xml_grammar.specs.declared.elements.Child.TheVariants as child
use Rattle.xml_grammar.specs.declared.elements.Element.{Element}
use Rattle.xml_grammar.specs.declared.tokens.Mode.TheVariants as modes
use Rattle.xml_grammar.specs.Spelling.{BeginsWith}
use Rattle.xml_grammar.specs.Pieces.{Piece, Stands, HasPiece}
use Rattle.xml_grammar.specs.Nesting.{Nest, start, mode_of, enter, breaks, broken}
use Rattle.xml_grammar.specs.Trees.{Placed, events, events_of, hints_of}

-- how many bytes characters take
abbrev pub width : List ℕ → ℕ
width text = length (encode_utf8_all text)

-- one U+FEFF at the start is skipped, and counts in places
abbrev pub after_mark : List ℕ → List ℕ
after_mark [] = []
after_mark (c ∷ cs) = if c == 0xFEFF then cs else c ∷ cs

abbrev pub mark_width : List ℕ → ℕ
mark_width [] = 0
mark_width (c ∷ cs) = if c == 0xFEFF then 3 else 0

-- The text is what whole pieces spell, one after the other, and then what is left. Each has its place, stands where it
-- may and breaks no rule.
abbrev pub Reads : Nest → ℕ → List Placed → List ℕ → List ℕ → Type 0
Reads s at [] text left = text ≡ left
Reads s at (p ∷ ps) text left =
    (p.0 ≡ at) × (front : List ℕ) × (back : List ℕ) × Stands (mode_of s) p.1 front back × (broken s p.1 ≡ None)
    × Reads (enter s p.1) (at + width front) ps back left × (text ≡ front ++ back)

abbrev pub nest_after : Nest → List Placed → Nest
nest_after s [] = s
nest_after s (p ∷ ps) = nest_after (enter s p.1) ps

-- the pieces begin a text, and leave this of its characters
abbrev pub Begins : List ℕ → List Placed → List ℕ → Type 0
Begins text pieces left = Reads start (mark_width (chars text)) pieces (after_mark (chars text)) left

-- The text's document: its root, and its declarations of prefixes. The text is UTF-8 and consists of whole pieces that
-- break no rule and leave no element open.
pub record IsDocument (text : List ℕ) (root : Element) (hints : List Hint) : Type 0 where
  pub utf8 : IsUtf8 text
  pub pieces : List Placed
  pub read : Begins text pieces []
  pub closed : (nest_after start pieces).levels ≡ []
  pub rooted : (nest_after start pieces).rooted ≡ true
  pub tree : events_of start pieces ≡ events (child.Element root)
  pub hinted : hints ≡ hints_of pieces

-- what is left begins so, and no piece stands at its front
abbrev pub NoPiece : Nest → List ℕ → List ℕ → Type 0
NoPiece s needle left = BeginsWith needle left × (HasPiece (mode_of s) left → ⊥)

-- a whole piece stands at the front, and breaks the rule there
abbrev pub Breaks : Nest → List ℕ → Rule → Type 0
Breaks s left r = (piece : Piece) × (front : List ℕ) × (back : List ℕ) × Stands (mode_of s) piece front back × (left ≡ front ++ back) × IsTrue (breaks s piece r)

-- Whether a rule holds for what is left, each rule by itself. Each piece that begins `<!--` is a comment, `<![CDATA[` a
-- CDATA section, `<?` an instruction or an XML declaration, `&` a reference, and `<` before anything else a tag; so "no
-- piece" is "none of these". An XML declaration that isn't first is no piece, nor is a tag with a wrong reference in a value.
abbrev pub Holds : Nest → List ℕ → Rule → Type 0
Holds s left BadChar = ((c : ℕ) × (rest : List ℕ) × IsFalse (is_char c) × (left ≡ c ∷ rest)) ⊎ ((mode_of s ≡ modes.Inside) × BeginsWith (codes "]]>") left)
Holds s left Doctype = BeginsWith (codes "<!DOCTYPE") left
Holds s left BadReference = NoPiece s (codes "&") left
Holds s left BadTag =
    NoPiece s (codes "<") left × (BeginsWith (codes "<!DOCTYPE") left → ⊥) × (BeginsWith (codes "<!--") left → ⊥)
    × (BeginsWith (codes "<?") left → ⊥) × (BeginsWith (codes "<![CDATA[") left → ⊥)
Holds s left BadComment = NoPiece s (codes "<!--") left
Holds s left BadInstruction = NoPiece s (codes "<?") left
Holds s left BadCdata = NoPiece s (codes "<![CDATA[") left
Holds s left Unfinished = (left ≡ []) × ((s.levels ≢ []) ⊎ (s.rooted ≡ false))
Holds s left r = Breaks s left r

-- The rule for what is left: of those that hold the one of the least number.
abbrev pub IsRule : Nest → List ℕ → Rule → Type 0
IsRule s left r = Holds s left r × ((q : Rule) → Holds s left q → number_of r ≤ number_of q)

-- The first fault of a text that is UTF-8: the pieces are the longest list that begins the text, and the place is where
-- they end.
pub record IsPieceFault (text : List ℕ) (r : Rule) (place : ℕ) : Type 0 where
  pub utf8 : IsUtf8 text
  pub pieces : List Placed
  pub left : List ℕ
  pub read : Begins text pieces left
  pub longest : (others : List Placed) (rest : List ℕ) → Begins text others rest → length left ≤ length rest
  pub ends : place + width left ≡ length text
  pub rule : IsRule (nest_after start pieces) left r

-- the text begins with the mark of UTF-16 in either byte order
abbrev pub IsUtf16 : List ℕ → Type 0
IsUtf16 text = BeginsWith (0xFE ∷ 0xFF ∷ []) text ⊎ BeginsWith (0xFF ∷ 0xFE ∷ []) text

-- the first fault of a text: that it is UTF-16, else that it isn't UTF-8, with the length of the longest front that is;
-- else that of its pieces
abbrev pub IsFault : List ℕ → Rule → ℕ → Type 0
IsFault text Utf16 place = IsUtf16 text × (place ≡ 0)
IsFault text NotUtf8 place = (IsUtf16 text → ⊥) × (IsUtf8 text → ⊥) × (place ≡ utf8_valid_len text)
IsFault text r place = IsPieceFault text r place
