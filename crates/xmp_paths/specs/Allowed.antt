-- Paths that are allowed: at the end of each a value may stand.
use Rattle.std.specs.Prelude.{◌≡◌, ◌≢◌, List, [], ◌∷◌}
use Rattle.xmp_values.specs.declared.text.Name.{Name}
use Rattle.xmp_values.specs.Characters.{IsName}
use Rattle.xmp_tree.specs.Wf.{IsNamed, IsOwnSpace, lang_name, type_name, note_name}
use Rattle.xmp_paths.specs.declared.step.Step.{Step}
use Rattle.xmp_paths.specs.declared.step.Step.TheVariants.{Field, Qualifier, Item, Tag}
use Rattle.xmp_paths.specs.declared.spelling.SpelledStep.{SpelledStep}
use Rattle.xmp_paths.specs.declared.spelling.SpelledStep.TheVariants as spelt
use Rattle.xmp_paths.specs.declared.spelling.Spelling.{Spelling}
use Rattle.xmp_paths.specs.Parts.{PathParts}

-- a name that a property or field may have
pub record IsFieldName (n : Name) : Type 0 where
  pub named : IsNamed n
  pub own : IsOwnSpace n.space

-- a name that a qualifier may have, `xml:lang` and `rdf:type` only where no step follows
pub record IsQualifierName (n : Name) (ss : List Step) : Type 0 where
  pub named : IsNamed n
  pub own : n ≢ lang_name → n ≢ type_name → IsOwnSpace n.space
  pub lang_last : n ≡ lang_name → ss ≡ []
  pub type_last : n ≡ type_name → ss ≡ []

abbrev pub IsStep : Step → List Step → Type 0
IsStep (Field n) ss = IsFieldName n
IsStep (Qualifier n) ss = IsQualifierName n ss
IsStep (Item at) ss = Unit {0}
IsStep (Tag tag) ss = Unit {0}

abbrev pub AreSteps : List Step → Type 0
AreSteps [] = Unit {0}
AreSteps (s ∷ ss) = IsStep s ss × AreSteps ss

pub record IsAllowedPath (p : PathParts) : Type 0 where
  pub first : IsFieldName p.name
  pub other : p.name ≢ note_name
  pub steps : AreSteps p.steps

-- a spelling whose local parts are names
abbrev pub IsSpelledStep : SpelledStep → Type 0
IsSpelledStep (spelt.Field p) = IsName p.local
IsSpelledStep (spelt.Qualifier p) = IsName p.local
IsSpelledStep (spelt.Item at) = Unit {0}
IsSpelledStep (spelt.Tag tag) = Unit {0}

abbrev pub AreSpelledSteps : List SpelledStep → Type 0
AreSpelledSteps [] = Unit {0}
AreSpelledSteps (s ∷ ss) = IsSpelledStep s × AreSpelledSteps ss

pub record IsSpelling (s : Spelling) : Type 0 where
  pub first : IsName s.first.local
  pub steps : AreSpelledSteps s.steps
