-- The members with the note apart, the note's digits, and the reading of a document by them.
use Rattle.std.proofs.Common.{◌≡◌, ◌≤◌, ℕ, Bool, true, false, not, ◌&&◌, cond, List, [], ◌∷◌, ◌++◌, map, length, refl, sym, ap, subst, ◌∙◌, append-nil}
use Rattle.std.specs.Prelude.{Option, Some, None, Ok, MatchOption, IsTrue, find, filter, option_and_then, ◌==◌, ◌↔◌}
use Rattle.std.specs.List.{list_all}
use Rattle.std.proofs.lemmas.Bool.{not_from_true, not_from_false, false_from_ne_true}
use Rattle.std.proofs.lemmas.Bool.Decides.{same_from_decides, Decides-and, Decides-by_and, Decides-eqb}
use Rattle.std.proofs.lemmas.List.{map-append, length-map}
use Rattle.std.proofs.lemmas.List.Elements.{filter-append}
use Rattle.std.specs.Bool.{Decides}
use Rattle.xmp_values.specs.Digits.{AreDigits, is_digit, capital}
use Rattle.xmp_values.specs.declared.hints.Hint.{Hint}
use Rattle.xml_grammar.specs.declared.elements.Element.{Element}
use Rattle.xmp_tree.specs.declared.nested.Member.{Member}
use Rattle.xmp_tree.specs.Wf.{name_of, note_name, Wf}
use Rattle.xml_grammar.specs.Sound.{IsSound}
use Rattle.rdf_forms.specs.Words.{same_name}
use Rattle.rdf_forms.specs.Rules.{fault_of}
use Rattle.rdf_forms.specs.Meaning.{Placed, Meaning, is_note, digits_in, tops_of, all_placed}
use Rattle.rdf_forms.specs.NameRules.{first_about}
use Rattle.rdf_soundness.proofs.Words.{same_name_is}
use Rattle.rdf_soundness.proofs.TreeLaw.{formed_tree}
use Rattle.xmp_rdf.specs.declared.tops.Contents.{Contents}
use Rattle.xmp_rdf.specs.Reading.{read_root}
use Rattle.xmp_rdf.specs.Parting.{parts_of, with_placed, member_digits, note_digits}
use Rattle.xmp_rdf.specs.Meanings.{unless, reading_within, most_levels, reading}
use Rattle.xmp_rdf.proofs.Faults.{and_then, unless-made, unless-ok}

-- ---- the note

-- a test of a name for that of the note
pub told_note : (b : Bool) (m : Member) → IsTrue b ↔ (name_of m ≡ note_name) → b ≡ same_name (name_of m) note_name
told_note b m told = same_from_decides b (same_name (name_of m) note_name) told (same_name_is (name_of m) note_name)

-- what is kept by a test, with one member more
kept_more : {X : Type 0} (f : Placed → X) (q : Placed → Bool) (ps : List Placed) (p : Placed) (b : Bool) → q p ≡ b →
    map f (filter q (ps ++ p ∷ [])) ≡ cond b (map f (filter q ps) ++ f p ∷ []) (map f (filter q ps))
kept_more f q ps p b is =
    ap (map f) (filter-append q ps (p ∷ []) ∙ ap (λ c. filter q ps ++ cond c (p ∷ []) []) is) ∙ by b
  where
    by : (c : Bool) → map f (filter q ps ++ cond c (p ∷ []) []) ≡ cond c (map f (filter q ps) ++ f p ∷ []) (map f (filter q ps))
    by true = map-append f (filter q ps) (p ∷ [])
    by false = ap (map f) (append-nil (filter q ps))

more : (ps : List Placed) (p : Placed) (b : Bool) → is_note p ≡ b →
    parts_of (ps ++ p ∷ [])
    ≡ cond b (record { props = (parts_of ps).props; places = (parts_of ps).places; notes = (parts_of ps).notes ++ p.1 ∷ [] })
    (record { props = (parts_of ps).props ++ p.1 ∷ []; places = (parts_of ps).places ++ p.0 ∷ []; notes = (parts_of ps).notes })
more ps p true is =
    let other = not_from_true (is_note p) is in
    let property : Placed → Bool = λ q. not (is_note q) in
    (λ i. record {
      props = kept_more (λ (q : Placed). q.1) property ps p false other i;
      places = kept_more (λ (q : Placed). q.0) property ps p false other i;
      notes = kept_more (λ (q : Placed). q.1) is_note ps p true is i;
    })
more ps p false is =
    let other = not_from_false (is_note p) is in
    let property : Placed → Bool = λ q. not (is_note q) in
    (λ i. record {
      props = kept_more (λ (q : Placed). q.1) property ps p true other i;
      places = kept_more (λ (q : Placed). q.0) property ps p true other i;
      notes = kept_more (λ (q : Placed). q.1) is_note ps p false is i;
    })

pub parts-more : (ps : List Placed) (p : Placed) → parts_of (ps ++ p ∷ []) ≡ with_placed (parts_of ps) p
parts-more ps p = more ps p (is_note p) refl

first_kept : (p : Placed) (ps : List Placed) (b : Bool) → option_and_then (λ (q : Placed). member_digits q.1) (find is_note ps) ≡ note_digits (parts_of ps).notes →
    option_and_then (λ (q : Placed). member_digits q.1) (cond b (Some p) (find is_note ps)) ≡ note_digits (map (λ (q : Placed). q.1) (cond b (p ∷ filter is_note ps) (filter is_note ps)))
first_kept p ps true rest = refl
first_kept p ps false rest = rest

first_note : (ps : List Placed) → option_and_then (λ (q : Placed). member_digits q.1) (find is_note ps) ≡ note_digits (parts_of ps).notes
first_note [] = refl
first_note (p ∷ ps) = first_kept p ps (is_note p) (first_note ps)

-- ---- digits

digits-decides : (text : List ℕ) → Decides ((length text == 32) && list_all is_digit text) (AreDigits text)
digits-decides text =
    Decides-and (length text == 32) (list_all is_digit text) (Decides-eqb (length text) 32)
    (Decides-by_and is_digit (λ b. IsTrue (is_digit b)) (list_all is_digit) (λ b. (λ e. e, λ e. e)) refl (λ b bs. refl) text)

-- digits or none, as they are read
pub digits-read : (text : List ℕ) (read : Option (List ℕ)) → MatchOption read (AreDigits text → ⊥) (λ digits. AreDigits text × (digits ≡ map capital text)) →
    read ≡ digits_in text
digits-read text None none =
    let test = (length text == 32) && list_all is_digit text in
    ap (λ b. cond b (Some (map capital text)) None) (sym (false_from_ne_true test (λ e. none ((digits-decides text).0 e))))
digits-read text (Some digits) told = ap Some told.1 ∙ ap (λ b. cond b (Some (map capital text)) None) (sym ((digits-decides text).1 told.0))

-- ---- a document

-- the meaning made of what a document holds
abbrev pub made : List Hint → Contents → Meaning
made hints c =
    let parts = c.parts in
    record { tree = record { about = c.about; props = parts.props }; hints = hints; note = note_digits parts.notes; places = parts.places }

pub reading-made : (levels : ℕ) (root : Element) (hints : List Hint) → reading_within levels root hints ≡ and_then (read_root levels root) (λ c. Ok (made hints c))
unfolding reading_within read_root
reading-made levels root hints =
    let contents : Contents = record { about = first_about (tops_of root); parts = parts_of (all_placed levels root) } in
    let parts = parts_of (all_placed levels root) in
    let noted = λ (note : Option (List ℕ)).
    let meaning : Meaning = record { tree = record { about = first_about (tops_of root); props = parts.props }; hints = hints; note = note; places = parts.places } in meaning in
    ap (λ (note : Option (List ℕ)). unless (fault_of levels root) (noted note)) (first_note (all_placed levels root))
    ∙ unless-made (fault_of levels root) contents (made hints)

pub reading-most : (root : Element) (hints : List Hint) → reading root hints ≡ and_then (read_root most_levels root) (λ c. Ok (made hints c))
unfolding reading
reading-most root hints = reading-made most_levels root hints

-- a document that breaks no rule has a well-formed tree
pub formed-parts : (levels : ℕ) (root : Element) (c : Contents) → 60 ≤ levels → IsSound root → read_root levels root ≡ Ok c →
    Wf record { about = c.about; props = c.parts.props }
unfolding read_root
formed-parts levels root c enough sound is =
    let contents : Contents = record { about = first_about (tops_of root); parts = parts_of (all_placed levels root) } in
    let read = unless-ok (fault_of levels root) contents c is in
    subst (λ (d : Contents). Wf record { about = d.about; props = d.parts.props }) read.1 (formed_tree levels root enough sound read.0)

-- there are as many places as properties
pub placed-parts : (levels : ℕ) (root : Element) (c : Contents) → read_root levels root ≡ Ok c → length c.parts.places ≡ length c.parts.props
unfolding read_root
placed-parts levels root c is =
    let contents : Contents = record { about = first_about (tops_of root); parts = parts_of (all_placed levels root) } in
    let read = unless-ok (fault_of levels root) contents c is in
    let ps = filter (λ p. not (is_note p)) (all_placed levels root) in
    let each : length (map (λ (p : Placed). p.0) ps) ≡ length (map (λ (p : Placed). p.1) ps) = length-map ps (λ (p : Placed). p.0) ∙ sym (length-map ps (λ (p : Placed). p.1)) in
    subst (λ (d : Contents). length d.parts.places ≡ length d.parts.props) read.1 each
