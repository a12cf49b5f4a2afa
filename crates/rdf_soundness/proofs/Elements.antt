-- The parts of a sound element are sound.
use Rattle.std.proofs.Common.{List, [], ◌∷◌, sym, subst}
use Rattle.std.specs.Prelude.{All}
use Rattle.std.specs.List.{cons_option, flat_map}
use Rattle.std.proofs.lemmas.List.Elements.{All-nil, All-cons, All-head, All-tail}
use Rattle.xmp_values.specs.Characters.{IsCharText}
use Rattle.xml_grammar.specs.declared.elements.Child.{Child, Child-F, out-Child, roll-Child, roll-out-Child}
use Rattle.xml_grammar.specs.declared.elements.Child.TheViews as views
use Rattle.xml_grammar.specs.declared.elements.Child.TheOpen as layer
use Rattle.xml_grammar.specs.declared.elements.Element.{Element}
use Rattle.xml_grammar.specs.Sound.{IsSoundChild, IsSound}
use Rattle.xml_grammar.proofs.SoundPieces.{no_text, text_append}
use Rattle.xml_grammar.proofs.SoundTrees.{sound_child}
use Rattle.rdf_forms.specs.Parts.{element_in, elements_in, elements_of, text_in, text_at, own_text}

-- what a child holds
abbrev Holds : Child-F Child Element → Type 0
Holds (layer.Element e) = IsSound e
Holds (layer.Text text) = IsCharText text

holds_in : (x : Child-F Child Element) → IsSoundChild (roll-Child x) → Holds x
holds_in (layer.Element e) h = (sound_child e).0 (subst IsSoundChild (views.rolls-Element e) h)
holds_in (layer.Text text) h = subst IsSoundChild (views.rolls-Text text) h

holds : (c : Child) → IsSoundChild c → Holds (out-Child c)
holds c h = holds_in (out-Child c) (subst IsSoundChild (sym (roll-out-Child c)) h)

more_elements : (x : Child-F Child Element) (cs : List Child) → Holds x → All IsSound (elements_in cs) → All IsSound (cons_option (element_in x) (elements_in cs))
more_elements (layer.Element e) cs h more = All-cons IsSound e (elements_in cs) h more
more_elements (layer.Text text) cs h more = more

sound_in : (cs : List Child) → All IsSoundChild cs → All IsSound (elements_in cs)
sound_in [] h = All-nil IsSound
sound_in (c ∷ cs) h = more_elements (out-Child c) cs (holds c (All-head IsSoundChild c cs h)) (sound_in cs (All-tail IsSoundChild c cs h))

pub sound_elements : (e : Element) → IsSound e → All IsSound (elements_of e)
sound_elements e sound = sound_in e.children sound.filled

one_text : (x : Child-F Child Element) → Holds x → IsCharText (text_in x)
one_text (layer.Element e) h = no_text
one_text (layer.Text text) h = h

text_of : (cs : List Child) → All IsSoundChild cs → IsCharText (flat_map text_at cs)
text_of [] h = no_text
text_of (c ∷ cs) h =
    text_append (text_at c) (flat_map text_at cs) (one_text (out-Child c) (holds c (All-head IsSoundChild c cs h)))
    (text_of cs (All-tail IsSoundChild c cs h))

pub sound_text : (e : Element) → IsSound e → IsCharText (own_text e)
sound_text e sound = text_of e.children sound.filled
