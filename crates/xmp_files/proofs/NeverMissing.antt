-- No packet is refused as a file that isn't there.
use Rattle.std.proofs.Common.{◌≡◌, ℕ, Bool, true, false, List, [], ◌∷◌, Option, Some, None, Ok, Err, inl, inr, if◌then◌else◌, ap, sym, ◌∙◌, subst, refl}
use Rattle.std.specs.declared.result.Result.{Result}
use Rattle.xmp_values.specs.declared.faults.Fault.{Fault}
use Rattle.xmp_values.specs.declared.faults.Part.TheVariants.{Main, Extended}
use Rattle.xmp_values.specs.declared.rules.Rule.{Rule}
use Rattle.xmp_values.specs.declared.rules.Rule.TheVariants.{NoFile, XmpLimit, Gap, NoRdf, NotDescription, AboutDiffers, NoNamespace, XmlName, RdfName, RefusedAttribute, BadParseType, Mixed, ManyNodes, BadContainer, BadItem, TwiceValue, Twice, TreeDeep}
use Rattle.xmp_values.specs.declared.hints.Hint.{Hint}
use Rattle.xmp_values.specs.declared.text.Name.{Name}
use Rattle.xml_grammar.specs.declared.elements.Element.{Element}
use Rattle.rdf_forms.specs.declared.roles.Role.{Role}
use Rattle.rdf_forms.specs.Visits.{Visit, visits}
use Rattle.rdf_forms.specs.NameRules.{name_rule, no_rdf, not_description, about_differs, no_namespace, xml_name, rdf_name}
use Rattle.rdf_forms.specs.FormRules.{form_rule, refused_attribute, bad_parse_type, mixed, many_nodes, bad_container, bad_item}
use Rattle.rdf_forms.specs.MemberRules.{member_rule, twice_value, twice, tree_deep}
use Rattle.std.specs.Option.{option_or}
use Rattle.rdf_forms.specs.Rules.{broken, broken_in, placed, fault_at, first_fault, fault_of}
use Rattle.xmp_rdf.specs.Meanings.{reading, most_levels}
use Rattle.xmp_rdf.specs.Meanings as readings
use Rattle.xmp_rdf.specs.declared.meanings.Meaning.{Meaning}
use Rattle.xmp_packets.specs.Packets.{packet_text}
use Rattle.xmp_values.specs.Stops as stops
use Rattle.xmp_files.specs.Stages.{Followed}
use Rattle.rdf_forms.specs.Merging.{merged}
use Rattle.xmp_files.specs.Faults.{over_extended, gap_at}
use Rattle.xmp_files.specs.declared.held.Extended.{Extended as ExtendedOf}
use Rattle.xmp_files.specs.declared.held.Extended.TheVariants as texts
use Rattle.xmp_files.specs.declared.opening.Opened.{Opened}
use Rattle.xmp_files.specs.Keeping.{Piece, Kept}
use Rattle.xmp_files.specs.Meanings.{Means, Opens, OpensMain, in_main, no_meaning}
use Rattle.xmp_files.specs.Opening.{IsJoinedTo, IsJoined, IsOpened, alone, merged_to, with_both}

-- a rule, if there is one, isn't that of a missing file
abbrev IsThere : Option Rule → Type 0
IsThere rule = rule ≡ Some NoFile → ⊥

or_there : (a b : Option Rule) → IsThere a → IsThere b → IsThere (option_or a b)
or_there None b h k = k
or_there (Some a) b h k = h

six_there : (a b c d e f : Bool) → IsThere (if a then Some NoRdf else if b then Some NotDescription else if c then Some AboutDiffers
    else if d then Some NoNamespace else if e then Some XmlName else if f then Some RdfName else None)
six_there true b c d e f = λ x. cc
six_there false true c d e f = λ x. cc
six_there false false true d e f = λ x. cc
six_there false false false true e f = λ x. cc
six_there false false false false true f = λ x. cc
six_there false false false false false true = λ x. cc
six_there false false false false false false = λ x. cc

form_there_by : (a b c d e f : Bool) → IsThere (if a then Some RefusedAttribute else if b then Some BadParseType else if c then Some Mixed
    else if d then Some ManyNodes else if e then Some BadContainer else if f then Some BadItem else None)
form_there_by true b c d e f = λ x. cc
form_there_by false true c d e f = λ x. cc
form_there_by false false true d e f = λ x. cc
form_there_by false false false true e f = λ x. cc
form_there_by false false false false true f = λ x. cc
form_there_by false false false false false true = λ x. cc
form_there_by false false false false false false = λ x. cc

member_there_by : (a b c : Bool) → IsThere (if a then Some TwiceValue else if b then Some Twice else if c then Some TreeDeep else None)
member_there_by true b c = λ x. cc
member_there_by false true c = λ x. cc
member_there_by false false true = λ x. cc
member_there_by false false false = λ x. cc

name_there : (role : Role) (e : Element) (first : List ℕ) → IsThere (name_rule role e first)
unfolding name_rule
name_there role e first =
    six_there (no_rdf role e) (not_description role e) (about_differs role e first) (no_namespace role e) (xml_name role e) (rdf_name role e)

form_there : (role : Role) (e : Element) → IsThere (form_rule role e)
unfolding form_rule
form_there role e =
    form_there_by (refused_attribute role e) (bad_parse_type role e) (mixed role e) (many_nodes role e) (bad_container role e) (bad_item role e)

member_there : (role : Role) (depth : ℕ) (e : Element) (names : List Name) → IsThere (member_rule role depth e names)
unfolding member_rule
member_there role depth e names = member_there_by (twice_value role e) (twice role e names) (tree_deep role depth e)

broken_there_in : (role : Role) (depth : ℕ) (e : Element) (first : List ℕ) (names : List Name) → IsThere (broken_in role depth e first names)
unfolding broken_in
broken_there_in role depth e first names =
    or_there _ _ (name_there role e first) (or_there _ _ (form_there role e) (member_there role depth e names))

broken_there : (v : Visit) → IsThere (broken v)
unfolding broken
broken_there v = broken_there_in _ _ _ _ _

-- with its place
abbrev IsFoundThere : Option (Rule × ℕ) → Type 0
IsFoundThere found = (place : ℕ) → found ≡ Some (NoFile, place) → ⊥

abbrev rule_in : Option (Rule × ℕ) → Option Rule
rule_in None = None
rule_in (Some found) = Some found.0

placed_there : (place : ℕ) (rule : Option Rule) → IsThere rule → IsFoundThere (placed place rule)
placed_there place None h = λ other e. cc
placed_there place (Some rule) h = λ other e. h (ap rule_in e)

or_found : (a b : Option (Rule × ℕ)) → IsFoundThere a → IsFoundThere b → IsFoundThere (option_or a b)
or_found None b h k = k
or_found (Some a) b h k = h

visits_there : (vs : List Visit) → IsFoundThere (first_fault vs)
visits_there [] = λ place e. cc
visits_there (v ∷ vs) = or_found (fault_at v) (first_fault vs) (placed_there _ _ (broken_there v)) (visits_there vs)

ok_or_err : {A B : Type 0} (x : A) (y : B) → (let r : Result A B = Ok x in r) ≡ Err y → ⊥
ok_or_err x y e = cc

same_err : {A B : Type 0} (x y : B) → (let r : Result A B = Err x in r) ≡ Err y → x ≡ y
same_err x y e = cc

abbrev found_one : Rule × ℕ → Option (Rule × ℕ)
found_one fault = Some fault

reading_by : (root : Element) (hints : List Hint) (place : ℕ) (found : Option (Rule × ℕ)) → fault_of most_levels root ≡ found → IsFoundThere found
    → reading root hints ≡ Err (NoFile, place) → ⊥
unfolding reading readings.reading_within
reading_by root hints place None is h = rw (is) (λ e. ok_or_err _ _ e)
reading_by root hints place (Some fault) is h = rw (is) (λ e. h place (ap found_one (same_err fault (NoFile, place) e)))

reading_there : (root : Element) (hints : List Hint) (place : ℕ) → reading root hints ≡ Err (NoFile, place) → ⊥
reading_there root hints place e = reading_by root hints place (fault_of most_levels root) refl (visits_there (visits most_levels root)) e

never_missing : (text : List ℕ) (place : ℕ) → Means text (Err (NoFile, place)) → ⊥
never_missing text place (inl fault) = let none : false ≡ true = fault.rule.0.5 in cc
never_missing text place (inr read) = reading_there read.0 read.1 place read.3

text_there : (text : List ℕ) (read : Result Meaning (Rule × ℕ)) (fault : Fault) → Means text read → (let e : Result Meaning Fault = Err fault in e) ≡ in_main read → fault.rule ≡ NoFile → ⊥
text_there text (Ok m) fault means e missing = absurd (let bad : Err fault ≡ Ok m = e in cc)
text_there text (Err (rule, place)) fault means e missing =
    let same = same_err fault (stops.fault_at rule Main place) e in
    never_missing text place (subst (λ (r : Rule). Means text (Err (r, place))) (sym (ap (λ (f : Fault). f.rule) same) ∙ missing) means)

-- nor is a payload
opens_there : (payload : List ℕ) (fault : Fault) → Opens payload (Err fault) → fault.rule ≡ NoFile → ⊥
opens_there payload fault opens = text_there (packet_text payload) opens.0 fault opens.1 opens.2

main_there : (payload : Option Piece) (fault : Fault) → OpensMain payload (Err fault) → fault.rule ≡ NoFile → ⊥
main_there None fault is = absurd (let bad : Err fault ≡ Ok no_meaning = is in cc)
main_there (Some piece) fault opens = opens_there piece.bytes fault opens

-- nor is an extended text

extended_there : (text : List ℕ) (main : Meaning) (read : Result Meaning (Rule × ℕ)) (fault : Fault) → Means text read → (let e : Result Opened Fault = Err fault in e) ≡ merged_to main read
    → fault.rule ≡ NoFile → ⊥
extended_there text main (Ok more) fault means e missing = both_there (merged main more) e
  where
    both_there : (both : Result Meaning ℕ) → (let x : Result Opened Fault = Err fault in x) ≡ with_both both → ⊥
    both_there (Ok both) is = cc is
    both_there (Err place) is =
        let same : fault ≡ stops.fault_at Twice Extended place = cc is in
        let bad : Twice ≡ NoFile = sym (ap (λ (f : Fault). f.rule) same) ∙ missing in cc bad
extended_there text main (Err (rule, place)) fault means e missing =
    let same : fault ≡ stops.fault_at rule Extended place = cc e in
    never_missing text place (subst (λ (r : Rule). Means text (Err (r, place))) (sym (ap (λ (f : Fault). f.rule) same) ∙ missing) means)

text_joined_there : (extended : Option ExtendedOf) (main : Meaning) (fault : Fault) → IsJoinedTo extended main (Err fault) → fault.rule ≡ NoFile → ⊥
text_joined_there None main fault is missing = absurd (let bad : Err fault ≡ Ok (alone main) = is in cc)
text_joined_there (Some (texts.TooLong full)) main fault is missing =
    let same : fault ≡ over_extended full = cc is in let bad : XmpLimit ≡ NoFile = sym (ap (λ (f : Fault). f.rule) same) ∙ missing in cc bad
text_joined_there (Some (texts.Gap place)) main fault is missing =
    let same : fault ≡ gap_at place = cc is in let bad : Gap ≡ NoFile = sym (ap (λ (f : Fault). f.rule) same) ∙ missing in cc bad
text_joined_there (Some (texts.Joined text)) main fault is missing = extended_there text main is.0 fault is.1 is.2 missing

joined_there : (kept : Kept) (main : Result Meaning Fault) (fault : Fault) → OpensMain kept.payload main → Followed main (IsJoined kept) (Err fault) → fault.rule ≡ NoFile → ⊥
joined_there kept (Ok meaning) fault opens is = text_joined_there kept.extended meaning fault is
joined_there kept (Err f) fault opens is = main_there kept.payload fault (subst (λ (g : Fault). OpensMain kept.payload (Err g)) (let e : f ≡ fault = cc is in e) opens)

-- nor is what is kept
pub opened_there : (kept : Kept) (fault : Fault) → IsOpened kept (Err fault) → fault.rule ≡ NoFile → ⊥
opened_there kept fault opens = joined_there kept opens.0 fault opens.1 opens.2
