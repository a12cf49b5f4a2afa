-- Which edits are allowed, and what a change must keep.
use Rattle.std.specs.Prelude.{ℕ, true, ◌+◌, ◌-◌, ◌≤◌, ◌≡◌, ◌≢◌, List, [], ◌∷◌, length, Option, Some, None, Result, Ok, Err, All}
use Rattle.xmp_values.specs.Characters.{IsCharText}
use Rattle.xmp_values.specs.declared.text.Name.{Name}
use Rattle.xmp_values.specs.declared.rules.Rule.{Rule}
use Rattle.xmp_tree.specs.declared.nested.Value.{Value}
use Rattle.xmp_tree.specs.Wf.{IsWfValue, value_depth, IsPlain, IsPlainUri, lang_name, type_name}
use Rattle.xmp_paths.specs.declared.step.Step.{Step}
use Rattle.xmp_paths.specs.declared.step.Step.TheVariants.{Field, Qualifier, Item, Tag}
use Rattle.xmp_paths.specs.Parts.{PathParts}
use Rattle.xmp_paths.specs.Allowed.{IsAllowedPath}
use Rattle.xmp_edit.specs.declared.action.Action.{Action}
use Rattle.xmp_edit.specs.declared.action.Action.TheVariants.{SetText, SetUri, Delete, MakeArray, MakeStruct, Append, Insert, SetLang}
use Rattle.xmp_edit.specs.declared.edit.Edit.{Edit}
use Rattle.xmp_values.specs.Hints.{IsValidHint}
use Rattle.xmp_paths.specs.Grammar.{is_name}
use Rattle.xmp_edit.specs.declared.given.Given.{Given}
use Rattle.xmp_edit.specs.declared.given.Given.TheVariants.{Nothing, Bound, Made}
use Rattle.xmp_edit.specs.declared.line.Line.{Line}
use Rattle.xmp_edit.specs.declared.line.Line.TheVariants as lines
use Rattle.xmp_edit.specs.Edits.{Change}

-- a value that may stand where so many levels are left
abbrev pub IsWithin : ℕ → Value → Type 0
IsWithin room v = IsWfValue v × (value_depth v ≤ room)

-- a value that may be that of a qualifier of this name
pub record SuitsName (n : Name) (v : Value) : Type 0 where
  pub lang : n ≡ lang_name → IsPlain v
  pub kind : n ≡ type_name → IsPlainUri v

-- a value that may stand at the end of a step
abbrev pub Suits : Step → Value → Type 0
Suits (Field n) v = Unit {0}
Suits (Qualifier n) v = SuitsName n v
Suits (Item i) v = Unit {0}
Suits (Tag tag) v = Unit {0}

abbrev pub Fits : ℕ → Step → Value → Type 0
Fits room s v = IsWithin room v × Suits s v

abbrev pub IfSome' : (Value → Type 0) → Option Value → Type 0
IfSome' P None = Unit {0}
IfSome' P (Some v) = P v

abbrev pub IfGiven : {X : Type 0} → (X → Type 0) → Result X Rule → Type 0
IfGiven P (Ok x) = P x
IfGiven P (Err r) = Unit {0}

-- a change of what keeps P gives what keeps it
abbrev pub Keeps : (Value → Type 0) → Change → Type 0
Keeps P change = (o : Option Value) → IfSome' P o → IfGiven (IfSome' P) (change o)

-- what a change at the end of steps must keep: what may stand at the last, in the levels left there
abbrev pub KeepsLast : List Step → ℕ → Step → Change → Type 0
KeepsLast [] room s change = Keeps (Fits room s) change
KeepsLast (t ∷ ts) room s change = KeepsLast ts (room - 1) t change

-- the last step of a path, its name counted
abbrev pub last_from : Step → List Step → Step
last_from s [] = s
last_from s (t ∷ ts) = last_from t ts

abbrev pub last_step : PathParts → Step
last_step p = last_from (Field p.name) p.steps

-- `rdf:type` is a URI: it is set by `seturi` alone. `xml:lang` is a text: it is set by `set` alone.
abbrev pub IsNot : Name → Step → Type 0
IsNot name (Field n) = Unit {0}
IsNot name (Qualifier n) = n ≢ name
IsNot name (Item i) = Unit {0}
IsNot name (Tag tag) = Unit {0}

abbrev pub MayEnd : Step → Action → Type 0
MayEnd s (SetText text) = IsNot type_name s
MayEnd s (SetUri uri) = IsNot lang_name s
MayEnd s Delete = Unit {0}
MayEnd s (MakeArray kind) = IsNot type_name s × IsNot lang_name s
MayEnd s MakeStruct = IsNot type_name s × IsNot lang_name s
MayEnd s (Append text) = IsNot type_name s × IsNot lang_name s
MayEnd s (Insert at text) = IsNot type_name s × IsNot lang_name s
MayEnd s (SetLang tag text) = IsNot type_name s × IsNot lang_name s

-- texts are made of Chars
abbrev pub texts_of : Action → List (List ℕ)
texts_of (SetText text) = text ∷ []
texts_of (SetUri uri) = uri ∷ []
texts_of Delete = []
texts_of (MakeArray kind) = []
texts_of MakeStruct = []
texts_of (Append text) = text ∷ []
texts_of (Insert at text) = text ∷ []
texts_of (SetLang tag text) = tag ∷ text ∷ []

-- how many levels an action adds below its place
abbrev pub levels_of : Action → ℕ
levels_of (SetText text) = 0
levels_of (SetUri uri) = 0
levels_of Delete = 0
levels_of (MakeArray kind) = 0
levels_of MakeStruct = 0
levels_of (Append text) = 1
levels_of (Insert at text) = 1
levels_of (SetLang tag text) = 2

-- an edit of an allowed path that keeps well-formedness
pub record IsAllowed (e : Edit) : Type 0 where
  pub path : IsAllowedPath e.path
  pub ends : MayEnd (last_step e.path) e.action
  pub texts : All IsCharText (texts_of e.action)
  pub shallow : length e.path.steps + 1 + levels_of e.action ≤ 24

-- what a line may give
abbrev pub IsWell : Given → Type 0
IsWell Nothing = Unit {0}
IsWell (Bound h) = IsValidHint h
IsWell (Made e) = IsAllowed e

-- a line of one of the forms: what binds has a name for its prefix, and a namespace
abbrev pub IsFormed : Line → Type 0
IsFormed lines.Skip = Unit {0}
IsFormed (lines.Bind prefix uri) = (is_name prefix ≡ true) × (length uri ≡ 0 → ⊥)
IsFormed (lines.Change path qualifier action) = Unit {0}
