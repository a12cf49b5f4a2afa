-- A spelled path whose prefixes are found and that isn't reserved is allowed.
use Rattle.std.proofs.Common.{◌≡◌, ◌≢◌, Bool, true, false, List, [], ◌∷◌, Some, refl, ap, sym}
use Rattle.std.specs.Prelude.{IfSome, ◌&&◌, ◌||◌, not}
use Rattle.std.specs.Str.{bytes_eq}
use Rattle.std.proofs.lemmas.Bool.{or_parts, both_ways, false_from_ne_true}
use Rattle.std.proofs.lemmas.Slice.Eq.{bytes_eq-Decides}
use Rattle.xmp_values.specs.declared.text.Name.{Name}
use Rattle.xmp_values.specs.Names.{named}
use Rattle.xmp_values.specs.Characters.{IsName}
use Rattle.xmp_values.specs.Spaces.{rdf_space, xml_space}
use Rattle.xmp_tree.specs.Wf.{IsNamed, IsOwnSpace, lang_name, type_name, note_name}
use Rattle.xmp_tree.specs.Places.{same_name}
use Rattle.xmp_tree.proofs.PlaceLemmas.{same_name_is}
use Rattle.xmp_paths.specs.declared.spelling.Prefixed.{Prefixed}
use Rattle.xmp_paths.specs.declared.spelling.SpelledStep.{SpelledStep}
use Rattle.xmp_paths.specs.declared.spelling.SpelledStep.TheVariants as spelt
use Rattle.xmp_paths.specs.declared.spelling.Spelling.{Spelling}
use Rattle.xmp_paths.specs.declared.step.Step.{Step}
use Rattle.xmp_paths.specs.declared.step.Step.TheVariants.{Field, Qualifier, Item, Tag}
use Rattle.xmp_paths.specs.Parts.{Bindings}
use Rattle.xmp_paths.specs.Namespaces.{space_of, AreBound}
use Rattle.xmp_paths.specs.Paths.{name_found, step_found, steps_found, is_foreign, is_special, is_end, is_reserved_step, are_reserved, is_reserved}
use Rattle.xmp_paths.specs.Allowed.{IsFieldName, IsQualifierName, IsStep, AreSteps, IsAllowedPath, IsSpelledStep, AreSpelledSteps, IsSpelling}
use Rattle.xmp_paths.proofs.Options.{some_map, some_consed, some_at}
use Rattle.xmp_paths.proofs.Spaces.{IsSpace, space_is}

-- a name with a namespace that a prefix leads to
abbrev IsFound : Name → Type 0
IsFound n = IsSpace n.space × IsName n.local

abbrev IsFoundStep : Step → Type 0
IsFoundStep (Field n) = IsFound n
IsFoundStep (Qualifier n) = IsFound n
IsFoundStep (Item at) = Unit {0}
IsFoundStep (Tag tag) = Unit {0}

abbrev AreFoundSteps : List Step → Type 0
AreFoundSteps [] = Unit {0}
AreFoundSteps (s ∷ ss) = IsFoundStep s × AreFoundSteps ss

module _ (b : Bindings) (bound : AreBound b) where
  name_is : (p : Prefixed) → IsName p.local → IfSome (name_found b p) IsFound
  name_is p local = some_map IsSpace IsFound (λ space. named space p.local) (λ space h. (h, local)) (space_of b p.prefix) (space_is b p.prefix bound)

  step_is : (s : SpelledStep) → IsSpelledStep s → IfSome (step_found b s) IsFoundStep
  step_is (spelt.Field p) h = some_map IsFound IsFoundStep Field (λ n k. k) (name_found b p) (name_is p h)
  step_is (spelt.Qualifier p) h = some_map IsFound IsFoundStep Qualifier (λ n k. k) (name_found b p) (name_is p h)
  step_is (spelt.Item at) h = tt
  step_is (spelt.Tag tag) h = tt

  steps_are : (ss : List SpelledStep) → AreSpelledSteps ss → IfSome (steps_found b ss) AreFoundSteps
  steps_are [] h = tt
  steps_are (s ∷ ss) h = some_consed IsFoundStep AreFoundSteps (λ t ts k l. (k, l)) (step_found b s) (steps_found b ss) (step_is s h.0) (steps_are ss h.1)

not_foreign : (n : Name) → IsFound n → is_foreign n ≡ false → IsOwnSpace n.space
not_foreign n found h =
    let parts = or_parts (bytes_eq n.space rdf_space) (bytes_eq n.space xml_space) h in
    record {
      some = found.0.some;
      not_rdf = λ e. both_ways (bytes_eq n.space rdf_space) parts.0 ((bytes_eq-Decides n.space rdf_space).1 e);
      not_xml = λ e. both_ways (bytes_eq n.space xml_space) parts.1 ((bytes_eq-Decides n.space xml_space).1 e);
      not_xmlns = found.0.bound;
    }

is_named : (n : Name) → IsFound n → IsNamed n
is_named n found = record { chars = found.0.chars; local = found.1 }

pub field_name : (n : Name) → IsFound n → is_foreign n ≡ false → IsFieldName n
field_name n found h = record { named = is_named n found; own = not_foreign n found h }

plain : (f s e : Bool) → (f && not (s && e)) ≡ false → s ≡ false → f ≡ false
plain true true e h s = absurd cc
plain true false e h s = h
plain false s e h t = refl

last : (f s e : Bool) → (f && not (s && e)) ≡ false → f ≡ true → e ≡ true
last true true true h f = refl
last true true false h f = absurd cc
last true false e h f = absurd cc
last false s e h f = absurd cc

ends : (ss : List Step) → is_end ss ≡ true → ss ≡ []
ends [] h = refl
ends (s ∷ ss) h = absurd cc

foreign_rdf : (n : Name) → n.space ≡ rdf_space → is_foreign n ≡ true
foreign_rdf n e = ap (λ b. b || bytes_eq n.space xml_space) ((bytes_eq-Decides n.space rdf_space).1 e)

foreign_xml : (n : Name) → n.space ≡ xml_space → is_foreign n ≡ true
foreign_xml n e = by (bytes_eq n.space rdf_space) (bytes_eq n.space xml_space) ((bytes_eq-Decides n.space xml_space).1 e)
  where
    by : (a b : Bool) → b ≡ true → (a || b) ≡ true
    by true b h = refl
    by false b h = h

not_same : (m n : Name) → m ≢ n → same_name m n ≡ false
not_same m n other = false_from_ne_true (same_name m n) (λ h. other ((same_name_is m n).0 h))

neither : (a b : Bool) → a ≡ false → b ≡ false → (a || b) ≡ false
neither true b h t = h
neither false b h t = t

qualifier_name : (n : Name) (ss : List Step) → IsFound n → is_reserved_step (Qualifier n) ss ≡ false → IsQualifierName n ss
unfolding lang_name type_name
qualifier_name n ss found h = record {
  named = is_named n found;
  own = λ not_lang not_type. not_foreign n found (plain (is_foreign n) (is_special n) (is_end ss) h (neither _ _ (not_same n lang_name not_lang) (not_same n type_name not_type)));
  lang_last = λ e. ends ss (last (is_foreign n) (is_special n) (is_end ss) h (foreign_xml n (ap (λ (m : Name). m.space) e)));
  type_last = λ e. ends ss (last (is_foreign n) (is_special n) (is_end ss) h (foreign_rdf n (ap (λ (m : Name). m.space) e)));
}

allowed_step : (s : Step) (ss : List Step) → IsFoundStep s → is_reserved_step s ss ≡ false → IsStep s ss
allowed_step (Field n) ss found h = field_name n found h
allowed_step (Qualifier n) ss found h = qualifier_name n ss found h
allowed_step (Item at) ss found h = tt
allowed_step (Tag tag) ss found h = tt

allowed_steps : (ss : List Step) → AreFoundSteps ss → are_reserved ss ≡ false → AreSteps ss
allowed_steps [] found h = tt
allowed_steps (s ∷ ss) found h =
    let parts = or_parts (is_reserved_step s ss) (are_reserved ss) h in
    (allowed_step s ss found.0 parts.0, allowed_steps ss found.1 parts.1)

pub allowed : (b : Bindings) → AreBound b → (s : Spelling) → IsSpelling s → (name : Name) (steps : List Step) → Some name ≡ name_found b s.first → Some steps ≡ steps_found b s.steps →
    is_reserved record { name = name; steps = steps } ≡ false → IsAllowedPath record { name = name; steps = steps }
allowed b bound s is name steps named stepped free =
    let first = some_at IsFound (name_found b s.first) name (name_is b bound s.first is.first) (sym named) in
    let more = some_at AreFoundSteps (steps_found b s.steps) steps (steps_are b bound s.steps is.steps) (sym stepped) in
    let parts = or_parts (same_name name note_name || is_foreign name) (are_reserved steps) free in
    let front = or_parts (same_name name note_name) (is_foreign name) parts.0 in
    record {
      first = field_name name first front.1;
      other = λ e. both_ways (same_name name note_name) front.0 ((same_name_is name note_name).1 e);
      steps = allowed_steps steps more parts.1;
    }
